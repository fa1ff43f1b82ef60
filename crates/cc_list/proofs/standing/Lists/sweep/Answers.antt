use Rattle.std.proofs.Common.{◌≡◌, ◌-◌, ◌≤◌, ◌<◌, ℕ, true, false, List, length, get_or, refl, sym, ap, ◌∙◌, arith, slice_get, Some}
use Rattle.std.proofs.lemmas.Option.{get_or_from_slice_get, slice_get-get_or}
use Rattle.cc_book.specs.declared.session.OpenSession.{OpenSession}
use Rattle.cc_book.specs.Standing.{is_due, without_at}
use Rattle.cc_book.proofs.KeptSessions.{left-all, left-within, left_at, next-due, next-kept}
use Rattle.cc_book.proofs.WithoutAt.{without-is}
use Rattle.cc_list.proofs.standing.Lists.sweep.Goals as goal

pub loop-place-init : goal.loop-place-init
loop-place-init c = record {
  sessions = sym (left-all c.args.validity c.args.moment c.args.self.now.sessions.items c.len-place.result (omega (arith, c.len-place.ensures, c.args.self.now.sessions.ok.0)));
  room = refl;
  balances = refl;
}

pub index-requires : goal.index-requires
index-requires c =
    let ss = c.args.self.now.sessions.items in
    let place = c.loop-place.place in
    let most : place ≤ length ss = omega (arith, c.loop-place.auto.place, c.len-place.ensures, c.args.self.now.sessions.ok.0) in
    let within = left-within c.args.validity c.args.moment ss place c.loop-place-test.true most in
    omega (arith, ap length c.loop-place.invariant.sessions, c.loop-place.self.sessions.ok.0)

pub swap_remove-swept-requires : goal.swap_remove-swept-requires
swap_remove-swept-requires c =
    let ss = c.args.self.now.sessions.items in
    let place = c.loop-place.place in
    let most : place ≤ length ss = omega (arith, c.loop-place.auto.place, c.len-place.ensures, c.args.self.now.sessions.ok.0) in
    let within = left-within c.args.validity c.args.moment ss place c.loop-place-test.true most in
    omega (arith, ap length c.loop-place.invariant.sessions, c.loop-place.self.sessions.ok.0)

pub loop-place-preserved-then-is_due : goal.loop-place-preserved-then-is_due
loop-place-preserved-then-is_due c =
    let ss = c.args.self.now.sessions.items in
    let place = c.loop-place.place in
    let most : place ≤ length ss = omega (arith, c.loop-place.auto.place, c.len-place.ensures, c.args.self.now.sessions.ok.0) in
    let read : (s : OpenSession) → slice_get (left_at c.args.validity c.args.moment place ss) (place - 1) ≡ Some s → is_due c.args.validity c.args.moment s ≡ true =
    λ s at. (let same : c.index.result.now ≡ s = c.index.ensures
    ∙ ap (λ (l : List OpenSession). get_or l (place - 1) c.index.result.now) c.loop-place.invariant.sessions
    ∙ get_or_from_slice_get (left_at c.args.validity c.args.moment place ss) (place - 1) s c.index.result.now at in
    ap (is_due c.args.validity c.args.moment) (sym same) ∙ sym c.is_due.ensures ∙ c.if-is_due.true) in
    let within = left-within c.args.validity c.args.moment ss place c.loop-place-test.true most in
    let lt : place - 1 < length c.loop-place.self.sessions.items = omega (arith, ap length c.loop-place.invariant.sessions) in
    let ended = c.swap_remove-swept.result in
    let here : slice_get c.loop-place.self.sessions.items (place - 1) ≡ Some ended =
    slice_get-get_or c.loop-place.self.sessions.items (place - 1) ended lt ∙ ap Some (sym c.swap_remove-swept.ensures.value) in
    record {
      sessions = c.swap_remove-swept.ensures.items
          ∙ sym (without-is c.loop-place.self.sessions.items (place - 1) ended here)
          ∙ ap (λ (l : List OpenSession). without_at l (place - 1)) c.loop-place.invariant.sessions
          ∙ next-due c.args.validity c.args.moment ss place c.loop-place-test.true most read;
      room = c.swap_remove-swept.ensures.capacity ∙ c.loop-place.invariant.room;
      balances = c.loop-place.invariant.balances;
    }

pub loop-place-preserved : goal.loop-place-preserved
loop-place-preserved c =
    let ss = c.args.self.now.sessions.items in
    let place = c.loop-place.place in
    let most : place ≤ length ss = omega (arith, c.loop-place.auto.place, c.len-place.ensures, c.args.self.now.sessions.ok.0) in
    let read : (s : OpenSession) → slice_get (left_at c.args.validity c.args.moment place ss) (place - 1) ≡ Some s → is_due c.args.validity c.args.moment s ≡ false =
    λ s at. (let same : c.index.result.now ≡ s = c.index.ensures
    ∙ ap (λ (l : List OpenSession). get_or l (place - 1) c.index.result.now) c.loop-place.invariant.sessions
    ∙ get_or_from_slice_get (left_at c.args.validity c.args.moment place ss) (place - 1) s c.index.result.now at in
    ap (is_due c.args.validity c.args.moment) (sym same) ∙ sym c.is_due.ensures ∙ c.if-is_due.false) in
    record {
      sessions = c.loop-place.invariant.sessions ∙ next-kept c.args.validity c.args.moment ss place c.loop-place-test.true most read;
      room = c.loop-place.invariant.room;
      balances = c.loop-place.invariant.balances;
    }

pub returns-clause-sessions : goal.returns-clause-sessions
returns-clause-sessions c =
    c.loop-place.invariant.sessions
    ∙ ap (λ (n : ℕ). left_at c.args.validity c.args.moment n c.args.self.now.sessions.items) (let end : c.loop-place.place ≡ 0 = omega arith in end)
