use Rattle.std.proofs.Common.{◌≡◌, ◌-◌, ◌≤◌, ◌<◌, ℕ, true, false, List, length, refl, sym, ap, ◌∙◌, arith, slice_get, Some}
use Rattle.indexmap.specs.IndexMap.{values}
use Rattle.cc_book.specs.declared.session.OpenSession.{OpenSession}
use Rattle.cc_book.specs.OpenSessions.{Sessions}
use Rattle.cc_book.specs.Standing.{is_due, reserved_in, without_at}
use Rattle.cc_book.proofs.KeptSessions.{lasts-long, left-all, left-within, left_at, next-due, next-kept, reserved-less}
use Rattle.cc_book.proofs.open_sessions.OpenSessions.sweep.Goals as goal

pub loop-place-init : goal.loop-place-init
loop-place-init c =
    let ss = c.args.self.now.items in
    let items : values c.self.inside.sessions ≡ ss = ap (λ (s : Sessions). s.items) c.self.view_is in
    let long = lasts-long (values c.self.inside.sessions) ss c.self.inside.lasts.items items c.self.invariant.1 in
    let all : c.len-place.result ≡ length ss = omega (arith, c.len-place.ensures, c.self.inside.lasts.ok.0) in
    record {
      items = sym (left-all c.args.validity c.args.moment ss c.len-place.result all);
      held = c.requires;
      room = omega arith;
      accounts = refl;
    }

pub is_due_at-requires : goal.is_due_at-requires
is_due_at-requires c =
    let ss = c.args.self.now.items in
    let items : values c.self.inside.sessions ≡ ss = ap (λ (s : Sessions). s.items) c.self.view_is in
    let long = lasts-long (values c.self.inside.sessions) ss c.self.inside.lasts.items items c.self.invariant.1 in
    let most : c.loop-place.place ≤ length ss = omega (arith, c.loop-place.auto.place, c.len-place.ensures, c.self.inside.lasts.ok.0) in
    let within = left-within c.args.validity c.args.moment ss c.loop-place.place c.loop-place-test.true most in
    omega (arith, ap length c.loop-place.invariant.items)

pub end-requires-clause-there : goal.end-requires-clause-there
end-requires-clause-there c =
    let ss = c.args.self.now.items in
    let items : values c.self.inside.sessions ≡ ss = ap (λ (s : Sessions). s.items) c.self.view_is in
    let long = lasts-long (values c.self.inside.sessions) ss c.self.inside.lasts.items items c.self.invariant.1 in
    let most : c.loop-place.place ≤ length ss = omega (arith, c.loop-place.auto.place, c.len-place.ensures, c.self.inside.lasts.ok.0) in
    let within = left-within c.args.validity c.args.moment ss c.loop-place.place c.loop-place-test.true most in
    omega (arith, ap length c.loop-place.invariant.items)

pub loop-place-preserved-then-is_due_at : goal.loop-place-preserved-then-is_due_at
loop-place-preserved-then-is_due_at c =
    let ss = c.args.self.now.items in
    let items : values c.self.inside.sessions ≡ ss = ap (λ (s : Sessions). s.items) c.self.view_is in
    let long = lasts-long (values c.self.inside.sessions) ss c.self.inside.lasts.items items c.self.invariant.1 in
    let most : c.loop-place.place ≤ length ss = omega (arith, c.loop-place.auto.place, c.len-place.ensures, c.self.inside.lasts.ok.0) in
    let within = left-within c.args.validity c.args.moment ss c.loop-place.place c.loop-place-test.true most in
    let here : c.loop-place.place - 1 < length c.loop-place.self.items = omega (arith, ap length c.loop-place.invariant.items) in
    let due : (s : OpenSession) → slice_get (left_at c.args.validity c.args.moment c.loop-place.place ss) (c.loop-place.place - 1) ≡ Some s
    → is_due c.args.validity c.args.moment s ≡ true =
    λ s at. sym (c.is_due_at.ensures s (ap (λ (l : List OpenSession). slice_get l (c.loop-place.place - 1)) c.loop-place.invariant.items ∙ at)) ∙ c.if-is_due_at.true in
    record {
      items = c.end.ensures.items
          ∙ ap (λ (l : List OpenSession). without_at l (c.loop-place.place - 1)) c.loop-place.invariant.items
          ∙ next-due c.args.validity c.args.moment ss c.loop-place.place c.loop-place-test.true most due;
      held = λ account. (
          let less = reserved-less c.loop-place.self.items (c.loop-place.place - 1) account here in
          let few = c.loop-place.invariant.held account in
          let now = ap (reserved_in account) c.end.ensures.items in
          omega arith);
      room = omega (arith, c.loop-place.invariant.room, c.end.ensures.room);
      accounts = c.end.ensures.accounts ∙ c.loop-place.invariant.accounts;
    }

pub loop-place-preserved : goal.loop-place-preserved
loop-place-preserved c =
    let ss = c.args.self.now.items in
    let items : values c.self.inside.sessions ≡ ss = ap (λ (s : Sessions). s.items) c.self.view_is in
    let long = lasts-long (values c.self.inside.sessions) ss c.self.inside.lasts.items items c.self.invariant.1 in
    let most : c.loop-place.place ≤ length ss = omega (arith, c.loop-place.auto.place, c.len-place.ensures, c.self.inside.lasts.ok.0) in
    let lasts : (s : OpenSession) → slice_get (left_at c.args.validity c.args.moment c.loop-place.place ss) (c.loop-place.place - 1) ≡ Some s
    → is_due c.args.validity c.args.moment s ≡ false =
    λ s at. sym (c.is_due_at.ensures s (ap (λ (l : List OpenSession). slice_get l (c.loop-place.place - 1)) c.loop-place.invariant.items ∙ at)) ∙ c.if-is_due_at.false in
    record {
      items = c.loop-place.invariant.items ∙ next-kept c.args.validity c.args.moment ss c.loop-place.place c.loop-place-test.true most lasts;
      held = c.loop-place.invariant.held;
      room = c.loop-place.invariant.room;
      accounts = c.loop-place.invariant.accounts;
    }

pub returns-clause-items : goal.returns-clause-items
returns-clause-items c =
    c.loop-place.invariant.items
    ∙ ap (λ (n : ℕ). left_at c.args.validity c.args.moment n c.args.self.now.items) (let end : c.loop-place.place ≡ 0 = omega arith in end)
