use Rattle.std.proofs.Common.{is_some, ◌≡◌, ◌++◌, ◌∷◌, [], List, ap, sym, subst, ◌∙◌}
use Rattle.cc_book.specs.declared.entry.Entry.TheVariants.{Sweep}
use Rattle.cc_book.specs.Taking.{Ledger, with_sweep}
use Rattle.book_journal.specs.Kept.{IsKeptBy}
use Rattle.cc_shared.specs.declared.logged.Logged.{Logged}
use Rattle.cc_shared.specs.declared.logged.Logged.TheVariants.{Entered}
use Rattle.cc_shared.specs.History.{book_at, entries_in, is_closed}
use Rattle.cc_shared.specs.Sharing.{takes_in}
use Rattle.cc_shared.proofs.Histories.{book_at-sweep, no_take_more, open_goes_on, swept_book}
use Rattle.cc_shared.proofs.open.OpenBook.sweep.Goals as goal

pub invariant_of-self-2 : goal.invariant_of-self-2
invariant_of-self-2 g c =
    let opened = g.L.Sharing.shared.opened in
    let log = c.self.inside.seen in
    let moment = c.args.moment in
    let more = Entered (Sweep moment) in
    let added : c.add_sweep.new.self ≡ log ++ more ∷ [] = c.if-not-add_sweep.ensures ∙ ap (λ (l : List Logged). l ++ more ∷ []) c.again-seen.ensures in
    let ended : c.in_ok-ended.ended ≡ c.in_ok-swept.swept = (let one = c.in_ok-ended.ensures.answer in let two = c.in_ok-swept.ensures.answer in cc) in
    let some : c.in_ok-swept.swept ≡ 0 → ⊥ = λ none. c.if-ended-eq0.false (ended ∙ none) in
    let is : c.sweep.new.self ≡ book_at opened (log ++ more ∷ []) =
    c.in_ok-swept.ensures.after
    ∙ swept_book c.self.inside.book moment c.in_ok-swept.swept some
    ∙ ap (λ (l : Ledger). with_sweep l moment) c.self.invariant.0
    ∙ book_at-sweep opened log moment in
    let before = c.self.inside.book in
    let same_journal = c.deref_mut-journal.ensures.value in
    let kept = subst (λ j. IsKeptBy g.S.RowStore.is_clean g.S.RowStore.is_ready g.S.RowStore.rows g.S.RowStore.beside j before) (sym same_journal) c.self.invariant.6 in
    let next = c.in-Ok.ensures.row kept in
    let longer = c.add.ensures.kept before (with_sweep before moment) (c.row_of_sweep.ensures.kept before kept) next in
    let end : with_sweep before moment ≡ c.sweep.new.self = sym (c.in_ok-swept.ensures.after ∙ swept_book before moment c.in_ok-swept.swept some) in (
      is ∙ ap (λ (l : List Logged). book_at opened l) (sym added),
      ap is_closed added ∙ open_goes_on log (Sweep moment) c.self.invariant.1,
      ap (λ (l : List Logged). takes_in (entries_in l)) added ∙ (no_take_more log moment ∙ c.self.invariant.2),
      c.self.invariant.3,
      c.self.invariant.4,
      c.self.invariant.5,
      subst (λ (l : Ledger). IsKeptBy g.S.RowStore.is_clean g.S.RowStore.is_ready g.S.RowStore.rows g.S.RowStore.beside c.add.new.self l) end longer,
      ap is_some (c.add.ensures.store ∙ c.row_of_sweep.ensures.store ∙ ap (λ j. j.store) same_journal) ∙ c.self.invariant.7,
    )

pub returns-clause-open : goal.returns-clause-open
returns-clause-open g c =
    let log = c.self.inside.seen in
    let more = Entered (Sweep c.args.moment) in
    let added : c.add_sweep.new.self ≡ log ++ more ∷ [] = c.if-not-add_sweep.ensures ∙ ap (λ (l : List Logged). l ++ more ∷ []) c.again-seen.ensures in (
      ap is_closed (sym c.self.view_is) ∙ c.self.invariant.1,
      ap is_closed added ∙ open_goes_on log (Sweep c.args.moment) c.self.invariant.1,
    )
