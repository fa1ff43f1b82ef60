use Rattle.std.proofs.Common.{rules, ◌≡◌, ◌+◌, ◌<◌, ◌≤◌, ◌^◌, ◌++◌, ◌∷◌, [], ℕ, List, length, subst, sym, ap, ◌∙◌, arith, get_or}
use Rattle.std.specs.Prelude.{OnOk}
use Rattle.std.proofs.lemmas.List.{get_or_default}
use Rattle.indexmap.specs.IndexMap.{insert_entry, values}
use Rattle.cc_book.specs.declared.session.OpenSession.{OpenSession}
use Rattle.cc_book.specs.Duplicate.{same_session}
use Rattle.cc_book.specs.OpenSessions.{Sessions, lasts_of}
use Rattle.cc_book.specs.Standing.{held_by_all, held_in, place_in, reserved_in}
use Rattle.cc_book.proofs.HeldByAll.{all-push, wrapped-more}
use Rattle.cc_book.proofs.KeptSessions.{IsKept-add, lasts-push}
use Rattle.dia_base.specs.declared.number.Moment.{Moment}
use Rattle.cc_book.proofs.open_sessions.OpenSessions.add.Goals as goal

pub held_in-more-requires : goal.held_in-more-requires
held_in-more-requires c = let same = ap held_in c.as_slice.ensures in omega (arith, c.requires.more)

pub overflow_add-index_mut : goal.overflow_add-index_mut
overflow_add-index_mut c =
    let account = c.args.session.account in
    let same = ap held_in c.as_slice.ensures in
    let items : values c.self.inside.sessions ≡ c.args.self.now.items = ap (λ (s : Sessions). s.items) c.self.view_is in
    let few : reserved_in account (values c.self.inside.sessions) ≤ 2 ^ 124 = subst (λ (ss : List OpenSession). reserved_in account ss ≤ 2 ^ 124) (sym items)
    (c.requires.held account) in
    let total = c.self.invariant.0.summed account in
    let lt : account < length c.self.inside.totals.items =
    subst (λ (n : ℕ). account < n) (sym (ap (λ (s : Sessions). s.accounts) c.self.view_is)) c.requires.known in
    let value : c.index_mut.result.now ≡ get_or c.self.inside.totals.items account 0 = c.index_mut.ensures.value
    ∙ get_or_default c.self.inside.totals.items account c.index_mut.result.now 0 lt in
    let small : c.index_mut.result.now + c.held_in-more.result < 2 ^ 128 = omega (arith, c.requires.more, c.held_in-more.ensures) in
    search rules

pub invariant_of-self : goal.invariant_of-self
invariant_of-self c =
    let account = c.args.session.account in
    let items : values c.self.inside.sessions ≡ c.args.self.now.items = ap (λ (s : Sessions). s.items) c.self.view_is in
    let lt : account < length c.self.inside.totals.items =
    subst (λ (n : ℕ). account < n) (sym (ap (λ (s : Sessions). s.accounts) c.self.view_is)) c.requires.known in
    let value : c.index_mut.result.now ≡ get_or c.self.inside.totals.items account 0 = c.index_mut.ensures.value
    ∙ get_or_default c.self.inside.totals.items account c.index_mut.result.now 0 lt in
    let same = ap held_in c.as_slice.ensures in
    let entries = subst (λ r. OnOk r (c.insert.new.self.entries ≡ insert_entry same_session c.self.inside.sessions.entries c.args.id c.args.session))
    c.unwrap.ensures c.insert.ensures.entries in
    let kept = IsKept-add c.self.inside.sessions.entries c.insert.new.self.entries c.self.inside.totals.items c.args.id c.args.session
    (c.index_mut.result.now + c.held_in-more.result) c.self.invariant.0 c.requires.own
    (ap (λ (ss : List OpenSession). place_in ss c.args.session.id) items ∙ c.requires.closed) lt (omega (arith, c.held_in-more.ensures)) entries in (
      kept.1,
      c.push_reserved.ensures.items ∙ ap (λ (l : List Moment). l ++ c.args.session.last ∷ []) c.self.invariant.1
          ∙ lasts-push (values c.self.inside.sessions) c.args.session ∙ sym (ap lasts_of kept.0),
      wrapped-more c.self.inside.held (held_by_all (values c.self.inside.sessions)) c.held_in-more.result _ c.self.invariant.2
          (ap held_by_all kept.0 ∙ all-push (values c.self.inside.sessions) c.args.session
          ∙ ap (λ (n : ℕ). held_by_all (values c.self.inside.sessions) + n) (sym (c.held_in-more.ensures ∙ same))),
    )

pub returns-clause-items : goal.returns-clause-items
returns-clause-items c =
    let account = c.args.session.account in
    let items : values c.self.inside.sessions ≡ c.args.self.now.items = ap (λ (s : Sessions). s.items) c.self.view_is in
    let lt : account < length c.self.inside.totals.items =
    subst (λ (n : ℕ). account < n) (sym (ap (λ (s : Sessions). s.accounts) c.self.view_is)) c.requires.known in
    let entries = subst (λ r. OnOk r (c.insert.new.self.entries ≡ insert_entry same_session c.self.inside.sessions.entries c.args.id c.args.session))
    c.unwrap.ensures c.insert.ensures.entries in
    (IsKept-add c.self.inside.sessions.entries c.insert.new.self.entries c.self.inside.totals.items c.args.id c.args.session
    (get_or c.self.inside.totals.items account 0 + held_in c.args.session.holds)
    c.self.invariant.0 c.requires.own (ap (λ (ss : List OpenSession). place_in ss c.args.session.id) items ∙ c.requires.closed) lt (omega arith) entries).0
    ∙ ap (λ (ss : List OpenSession). ss ++ c.args.session ∷ []) items
