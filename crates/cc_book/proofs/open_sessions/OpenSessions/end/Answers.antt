use Rattle.std.proofs.Common.{◌≡◌, ℕ, ◌+◌, ◌-◌, ◌≤◌, ◌^◌, List, length, subst, sym, ap, ◌∙◌, arith, get_or}
use Rattle.std.specs.Prelude.{slice_set}
use Rattle.std.proofs.lemmas.List.{get_or_default}
use Rattle.indexmap.specs.IndexMap.{values}
use Rattle.std.specs.Map.{values_of}
use Rattle.cc_book.specs.declared.session.OpenSession.{OpenSession}
use Rattle.cc_book.specs.OpenSessions.{IsKept, Sessions}
use Rattle.cc_book.specs.Standing.{held_by_all, held_in, reserved_in}
use Rattle.cc_book.proofs.HeldByAll.{all-without, wrapped-less}
use Rattle.cc_book.proofs.KeptSessions.{IsKept-end, Rows, held-total, known-at, lasts-left, values-at, values-without}
use Rattle.cc_book.specs.Standing.{without_at}
use Rattle.cc_book.proofs.WithoutAt.{without-is}
use Rattle.cc_book.proofs.open_sessions.OpenSessions.end.Goals as goal

pub held_in-less-requires : goal.held_in-less-requires
held_in-less-requires c =
    let account = c.in-Some.ended.account in
    let items : values c.self.inside.sessions ≡ c.args.self.now.items = ap (λ (s : Sessions). s.items) c.self.view_is in
    let few : reserved_in account (values c.self.inside.sessions) ≤ 2 ^ 124 = subst (λ (ss : List OpenSession). reserved_in account ss ≤ 2 ^ 124) (sym items)
    (c.requires.held account) in
    let there = values-at c.self.inside.sessions.entries c.args.place (c.in-Some.id, c.in-Some.ended) (sym c.in-Some.ensures.entry) in
    let own = held-total (values c.self.inside.sessions) c.args.place c.in-Some.ended there in
    let same = ap held_in c.as_slice.ensures in
    omega arith

pub index_mut-requires : goal.index_mut-requires
index_mut-requires c =
    let there = values-at c.self.inside.sessions.entries c.args.place (c.in-Some.id, c.in-Some.ended) (sym c.in-Some.ensures.entry) in
    let lt = known-at (length c.self.inside.totals.items) (values c.self.inside.sessions) c.args.place c.in-Some.ended there c.self.invariant.0.known in
    omega (arith, c.self.inside.totals.ok.0)

pub overflow_sub-index_mut : goal.overflow_sub-index_mut
overflow_sub-index_mut c =
    let account = c.in-Some.ended.account in
    let there = values-at c.self.inside.sessions.entries c.args.place (c.in-Some.id, c.in-Some.ended) (sym c.in-Some.ensures.entry) in
    let lt = known-at (length c.self.inside.totals.items) (values c.self.inside.sessions) c.args.place c.in-Some.ended there c.self.invariant.0.known in
    let own = held-total (values c.self.inside.sessions) c.args.place c.in-Some.ended there in
    let total = c.self.invariant.0.summed account in
    let value : c.index_mut.result.now ≡ get_or c.self.inside.totals.items account 0 = c.index_mut.ensures.value
    ∙ get_or_default c.self.inside.totals.items account c.index_mut.result.now 0 lt in
    let same = ap held_in c.as_slice.ensures in
    omega (arith, c.held_in-less.ensures)

pub invariant_of-self : goal.invariant_of-self
invariant_of-self c =
    let account = c.in-Some.ended.account in
    let at = sym c.in-Some.ensures.entry in
    let there = values-at c.self.inside.sessions.entries c.args.place (c.in-Some.id, c.in-Some.ended) at in
    let lt = known-at (length c.self.inside.totals.items) (values c.self.inside.sessions) c.args.place c.in-Some.ended there c.self.invariant.0.known in
    let own = held-total (values c.self.inside.sessions) c.args.place c.in-Some.ended there in
    let total = c.self.invariant.0.summed account in
    let value : c.index_mut.result.now ≡ get_or c.self.inside.totals.items account 0 = c.index_mut.ensures.value
    ∙ get_or_default c.self.inside.totals.items account c.index_mut.result.now 0 lt in
    let same = ap held_in c.as_slice.ensures in
    let left = c.index_mut.result.now - c.held_in-less.result in
    let entries = without-is c.self.inside.sessions.entries c.args.place (c.in-Some.id, c.in-Some.ended) at ∙ sym c.in-Some.ensures.entries in
    let all : held_by_all (without_at (values c.self.inside.sessions) c.args.place) + c.held_in-less.result ≡ held_by_all (values c.self.inside.sessions) =
    ap (λ (n : ℕ). held_by_all (without_at (values c.self.inside.sessions) c.args.place) + n) (c.held_in-less.ensures ∙ same)
    ∙ all-without (values c.self.inside.sessions) c.args.place c.in-Some.ended there in
    let gone = ap (λ (es : Rows). values_of es) (sym entries) ∙ values-without c.self.inside.sessions.entries c.args.place (c.in-Some.id, c.in-Some.ended) at in (
      subst (λ (es : Rows). IsKept es (slice_set c.self.inside.totals.items account left))
          entries
          (IsKept-end c.self.inside.sessions.entries c.self.inside.totals.items c.args.place (c.in-Some.id, c.in-Some.ended) left c.self.invariant.0 at
          (omega (arith, c.held_in-less.ensures))),
      lasts-left (values c.self.inside.sessions) _ c.self.inside.lasts.items _ c.args.place c.in-Some.ended c.swap_remove-last.result c.self.invariant.1 there gone
          c.swap_remove-last.ensures.value c.swap_remove-last.ensures.items,
      wrapped-less c.self.inside.held (held_by_all (values c.self.inside.sessions)) c.held_in-less.result _ c.self.invariant.2 (omega (arith, c.held_in-less.ensures))
          (ap (λ (ss : List OpenSession). held_by_all ss + c.held_in-less.result) gone ∙ all),
    )

pub returns-in-Some-clause-items : goal.returns-in-Some-clause-items
returns-in-Some-clause-items c =
    let items : values c.self.inside.sessions ≡ c.args.self.now.items = ap (λ (s : Sessions). s.items) c.self.view_is in
    let at = sym c.in-Some.ensures.entry in
    ap (λ (es : Rows). values_of es) (c.in-Some.ensures.entries ∙ sym (without-is c.self.inside.sessions.entries c.args.place (c.in-Some.id, c.in-Some.ended) at))
    ∙ values-without c.self.inside.sessions.entries c.args.place (c.in-Some.id, c.in-Some.ended) at
    ∙ ap (λ (ss : List OpenSession). without_at ss c.args.place) items
