use Rattle.std.proofs.Common.{rules, ◌≡◌, ◌+◌, ◌-◌, ◌<◌, ◌≤◌, ◌^◌, ℕ, List, length, subst, sym, ap, ◌∙◌, arith}
use Rattle.std.specs.Prelude.{slice_set}
use Rattle.std.proofs.lemmas.List.{length-map}
use Rattle.std.proofs.lemmas.Option.{slice_get_within}
use Rattle.indexmap.specs.IndexMap.{values}
use Rattle.cc_book.specs.declared.session.OpenSession.{OpenSession}
use Rattle.cc_book.specs.OpenSessions.{GoesOnAt, Sessions, lasts_of}
use Rattle.cc_book.specs.Standing.{held_by_all, held_in, reserved_in, without_at}
use Rattle.cc_book.proofs.HeldByAll.{all-set, all-without, wrapped-less, wrapped-more}
use Rattle.cc_book.proofs.Amounts.{held-at}
use Rattle.cc_book.proofs.KeptSessions.{IsKept-go_on, held-there, known-at, lasts-set, total-there, values-set}
use Rattle.dia_base.specs.declared.number.Moment.{Moment}
use Rattle.cc_book.proofs.open_sessions.OpenSessions.go_on.Goals as goal

pub held_in-before-requires : goal.held_in-before-requires
held_in-before-requires c =
    let items : values c.self.inside.sessions ≡ c.args.self.now.items = ap (λ (s : Sessions). s.items) c.self.view_is in
    let at = subst (λ (ss : List OpenSession). GoesOnAt ss c.args.place c.args.session) (sym items) c.requires.there in
    let same = ap held_in c.as_slice.ensures in
    let is = held-there (values c.self.inside.sessions) c.args.place c.index.result.now at.before c.index.ensures at.there in
    let few : reserved_in at.before.account (values c.self.inside.sessions) ≤ 2 ^ 124 =
    subst (λ (ss : List OpenSession). reserved_in at.before.account ss ≤ 2 ^ 124) (sym items) (c.requires.held at.before.account) in
    let here = held-at (values c.self.inside.sessions) c.args.place at.before at.there in
    omega arith

pub index-requires-2 : goal.index-requires-2
index-requires-2 c =
    let items : values c.self.inside.sessions ≡ c.args.self.now.items = ap (λ (s : Sessions). s.items) c.self.view_is in
    let at = subst (λ (ss : List OpenSession). GoesOnAt ss c.args.place c.args.session) (sym items) c.requires.there in
    let lt = known-at (length c.self.inside.totals.items) (values c.self.inside.sessions) c.args.place at.before at.there c.self.invariant.0.known in
    omega (arith, at.account, c.self.inside.totals.ok.0)

pub index_mut-requires : goal.index_mut-requires
index_mut-requires c =
    let items : values c.self.inside.sessions ≡ c.args.self.now.items = ap (λ (s : Sessions). s.items) c.self.view_is in
    let at = subst (λ (ss : List OpenSession). GoesOnAt ss c.args.place c.args.session) (sym items) c.requires.there in
    let lt = known-at (length c.self.inside.totals.items) (values c.self.inside.sessions) c.args.place at.before at.there c.self.invariant.0.known in
    omega (arith, at.account, c.self.inside.totals.ok.0)

pub overflow_sub-left : goal.overflow_sub-left
overflow_sub-left c =
    let items : values c.self.inside.sessions ≡ c.args.self.now.items = ap (λ (s : Sessions). s.items) c.self.view_is in
    let at = subst (λ (ss : List OpenSession). GoesOnAt ss c.args.place c.args.session) (sym items) c.requires.there in
    let sums = total-there c.self.inside.sessions.entries c.self.inside.totals.items c.args.place c.args.session c.index.result.now c.index-2.result.now
    c.held_in-before.result c.self.invariant.0 at c.index.ensures c.index-2.ensures (c.held_in-before.ensures ∙ ap held_in c.as_slice.ensures) in
    omega (arith, sums.2)

pub held_in-after-requires : goal.held_in-after-requires
held_in-after-requires c = let same = ap held_in c.as_slice-2.ensures in omega (arith, c.requires.more)

pub overflow_add-left : goal.overflow_add-left
overflow_add-left c =
    let items : values c.self.inside.sessions ≡ c.args.self.now.items = ap (λ (s : Sessions). s.items) c.self.view_is in
    let at = subst (λ (ss : List OpenSession). GoesOnAt ss c.args.place c.args.session) (sym items) c.requires.there in
    let sums = total-there c.self.inside.sessions.entries c.self.inside.totals.items c.args.place c.args.session c.index.result.now c.index-2.result.now
    c.held_in-before.result c.self.invariant.0 at c.index.ensures c.index-2.ensures (c.held_in-before.ensures ∙ ap held_in c.as_slice.ensures) in
    let few : reserved_in c.args.session.account (values c.self.inside.sessions) ≤ 2 ^ 124 =
    subst (λ (ss : List OpenSession). reserved_in c.args.session.account ss ≤ 2 ^ 124) (sym items) (c.requires.held c.args.session.account) in
    let more = ap held_in c.as_slice-2.ensures in
    let small : (c.index-2.result.now - c.held_in-before.result) + c.held_in-after.result < 2 ^ 128 =
    omega (arith, sums.0, sums.1, sums.2, c.requires.more, c.held_in-after.ensures) in
    search rules

pub index_mut-requires-2 : goal.index_mut-requires-2
index_mut-requires-2 c =
    let items : values c.self.inside.sessions ≡ c.args.self.now.items = ap (λ (s : Sessions). s.items) c.self.view_is in
    let at = subst (λ (ss : List OpenSession). GoesOnAt ss c.args.place c.args.session) (sym items) c.requires.there in
    let within = slice_get_within (values c.self.inside.sessions) c.args.place at.before at.there in
    let long = length-map c.self.inside.sessions.entries (λ (e : List ℕ × OpenSession). e.1) in
    let lasts = ap length c.self.invariant.1 in
    let timed = length-map (values c.self.inside.sessions) (λ (s : OpenSession). s.last) in
    omega (arith, c.self.inside.lasts.ok.0)

pub index_mut-requires-3 : goal.index_mut-requires-3
index_mut-requires-3 c =
    let items : values c.self.inside.sessions ≡ c.args.self.now.items = ap (λ (s : Sessions). s.items) c.self.view_is in
    let at = subst (λ (ss : List OpenSession). GoesOnAt ss c.args.place c.args.session) (sym items) c.requires.there in
    let within = slice_get_within (values c.self.inside.sessions) c.args.place at.before at.there in
    let long = length-map c.self.inside.sessions.entries (λ (e : List ℕ × OpenSession). e.1) in
    omega arith

pub invariant_of-self : goal.invariant_of-self
invariant_of-self c =
    let items : values c.self.inside.sessions ≡ c.args.self.now.items = ap (λ (s : Sessions). s.items) c.self.view_is in
    let at = subst (λ (ss : List OpenSession). GoesOnAt ss c.args.place c.args.session) (sym items) c.requires.there in
    let sums = total-there c.self.inside.sessions.entries c.self.inside.totals.items c.args.place c.args.session c.index.result.now c.index-2.result.now
    c.held_in-before.result c.self.invariant.0 at c.index.ensures c.index-2.ensures (c.held_in-before.ensures ∙ ap held_in c.as_slice.ensures) in
    let total = c.self.invariant.0.summed c.args.session.account in
    let more = ap held_in c.as_slice-2.ensures in
    let all = values c.self.inside.sessions in
    let rest = held_by_all (without_at all c.args.place) in
    let before : c.held_in-before.result ≡ held_in at.before.holds = c.held_in-before.ensures ∙ ap held_in c.as_slice.ensures
    ∙ held-there all c.args.place c.index.result.now at.before c.index.ensures at.there in
    let gone = all-without all c.args.place at.before at.there in
    let come = all-set all c.args.place c.args.session at.before at.there in
    let left : rest + c.held_in-before.result ≡ held_by_all all = omega arith in
    let now : held_by_all (slice_set all c.args.place c.args.session) ≡ rest + c.held_in-after.result = omega (arith, c.held_in-after.ensures) in (
      IsKept-go_on c.self.inside.sessions.entries c.self.inside.totals.items c.args.place c.args.session
          ((c.index-2.result.now - c.held_in-before.result) + c.held_in-after.result) c.self.invariant.0 at
          (omega (arith, sums.0, sums.1, sums.2, c.held_in-after.ensures)),
      ap (λ (l : List Moment). slice_set l c.args.place c.args.session.last) c.self.invariant.1
          ∙ lasts-set (values c.self.inside.sessions) c.args.place c.args.session
          ∙ ap lasts_of (sym (values-set c.self.inside.sessions.entries c.args.place c.args.session)),
      wrapped-more _ rest c.held_in-after.result _
          (wrapped-less c.self.inside.held (held_by_all all) c.held_in-before.result rest c.self.invariant.2 (omega (arith, c.held_in-before.ensures)) left)
          (ap held_by_all (values-set c.self.inside.sessions.entries c.args.place c.args.session) ∙ now),
    )

pub returns-clause-items : goal.returns-clause-items
returns-clause-items c =
    let items : values c.self.inside.sessions ≡ c.args.self.now.items = ap (λ (s : Sessions). s.items) c.self.view_is in
    values-set c.self.inside.sessions.entries c.args.place c.args.session
    ∙ ap (λ (ss : List OpenSession). slice_set ss c.args.place c.args.session) items
