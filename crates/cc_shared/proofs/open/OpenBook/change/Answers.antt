use Rattle.std.proofs.Common.{is_some, ◌≡◌, ◌++◌, ◌∷◌, [], List, false, ap, sym, ◌∙◌}
use Rattle.cc_book.specs.declared.entry.Entry.TheVariants.{ChangeTerms}
use Rattle.cc_book.specs.declared.terms_change.TermsChange.{TermsChange}
use Rattle.cc_book.specs.Changing.{with_change}
use Rattle.cc_book.specs.Taking.{Ledger}
use Rattle.cc_shared.specs.declared.logged.Logged.{Logged}
use Rattle.cc_shared.specs.declared.logged.Logged.TheVariants.{Entered}
use Rattle.cc_shared.specs.History.{book_at, entries_in, is_closed}
use Rattle.cc_shared.specs.Sharing.{takes_in}
use Rattle.cc_shared.proofs.Histories.{book_at-change, change_is_no_take, open_goes_on}
use Rattle.cc_shared.proofs.open.OpenBook.change.Goals as goal

pub invariant_of-open : goal.invariant_of-open
invariant_of-open g c =
    let opened = g.L.Sharing.shared.opened in
    let log = c.args.self in
    let moment = c.args.moment in
    let change = c.args.change in
    let seen : c.again-seen.result ≡ log = c.again-seen.ensures ∙ (c.again-before.ensures ∙ c.history.ensures.log) in
    let added : c.add_change.new.self ≡ log ++ Entered (ChangeTerms moment change) ∷ [] =
    c.if-not-add_change.ensures
    ∙ ap (λ (l : List Logged). l ++ Entered (ChangeTerms moment c.in-Ok.entered) ∷ []) seen
    ∙ ap (λ (again : TermsChange). log ++ Entered (ChangeTerms moment again) ∷ []) c.in-Ok.ensures.made.0 in
    let is : c.change_kept.new.book ≡ book_at opened (log ++ Entered (ChangeTerms moment change) ∷ []) =
    c.in-Ok.ensures.made.2
    ∙ ap (λ (l : Ledger). with_change l moment change) (c.open.invariant.0 ∙ ap (λ (l : List Logged). book_at opened l) c.open.view_is)
    ∙ book_at-change opened log moment change in
    let goes_on : is_closed log ≡ false = ap is_closed (sym c.open.view_is) ∙ c.open.invariant.1 in (
      is ∙ ap (λ (l : List Logged). book_at opened l) (sym added),
      ap is_closed added ∙ open_goes_on log (ChangeTerms moment change) goes_on,
      ap (λ (l : List Logged). takes_in (entries_in l)) added
          ∙ (change_is_no_take log moment change ∙ (ap (λ (l : List Logged). takes_in (entries_in l)) (sym c.open.view_is) ∙ c.open.invariant.2)),
      c.open.invariant.3,
      c.open.invariant.4,
      c.open.invariant.5,
      c.change_kept.ensures.kept,
      ap is_some (c.change_kept.ensures.store ∙ ap (λ j. j.store) c.deref_mut.ensures.value) ∙ c.open.invariant.7,
    )
