-- What a change of the terms of a shared book comes to.
use Rattle.std.specs.Prelude.{◌≡◌, List, [], ◌∷◌, ◌++◌, false, Ok, Err}
use Rattle.dia_base.specs.declared.number.Moment.{Moment}
use Rattle.cc_book.specs.declared.entry.Entry.TheVariants.{ChangeTerms}
use Rattle.cc_book.specs.declared.terms_change.ChangeRefusal.{ChangeRefusal}
use Rattle.cc_book.specs.declared.terms_change.TermsChange.{TermsChange}
use Rattle.cc_book.specs.Changing.{ChangesWith, change_answer}
use Rattle.cc_book.specs.History.{IsLegal}
use Rattle.cc_book.specs.Taking.{Ledger}
use Rattle.cc_shared.specs.declared.error.ChangeError.{ChangeError}
use Rattle.cc_shared.specs.declared.error.ChangeError.TheVariants.{Refused, Closed, NotStored}
use Rattle.cc_shared.specs.declared.logged.Logged.{Logged}
use Rattle.cc_shared.specs.declared.logged.Logged.TheVariants.{Entered}
use Rattle.cc_shared.specs.declared.looks.TermsChanged.{TermsChanged}
use Rattle.cc_shared.specs.History.{SharedLedger, book_at, is_closed}

-- An open book has changed its terms: what was seen of its history afterwards is what stood there and the entry of the change, at the
-- place that the book gave it there.
pub record HasChanged (opened : Ledger) (moment : Moment) (change : TermsChange) (done : TermsChanged) : Type 0 where
  pub before : List Logged
  pub open_then : is_closed before ≡ false
  pub seen : done.seen.log ≡ before ++ Entered (ChangeTerms moment change) ∷ []
  pub legal : IsLegal opened.terms (book_at opened before).history
  pub answer : change_answer (book_at opened before) change ≡ Ok done.place

-- a change of the terms through the lock, of which the one history of the book tells
abbrev pub IsChange : SharedLedger → Moment → TermsChange → TermsChanged → Type 0
IsChange shared moment change done = (done.seen.book ≡ shared.log) × HasChanged shared.opened moment change done

-- An open book has refused the change: behind this history something is wrong with it, or the book is full; or memory is missing.
pub record IsUnchanged (shared : SharedLedger) (change : TermsChange) (refusal : ChangeRefusal) : Type 0 where
  pub before : List Logged
  pub open_then : is_closed before ≡ false
  pub legal : IsLegal shared.opened.terms (book_at shared.opened before).history
  pub answer : ChangesWith (change_answer (book_at shared.opened before) change) (Err refusal)

-- a change of the terms through the lock that was not made, or not stored
abbrev pub IsNoChange : SharedLedger → TermsChange → ChangeError → Type 0
IsNoChange shared change (Refused refusal) = IsUnchanged shared change refusal
IsNoChange shared change Closed = Unit {0}
IsNoChange shared change NotStored = Unit {0}
