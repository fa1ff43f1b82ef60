-- Changes of the terms of a shared book, in threads of their own.
use Rattle.std.specs.Prelude.{◌≡◌, Option, Some, None, Result, Ok, Err}
use Rattle.dia_base.specs.declared.number.Moment.{Moment}
use Rattle.cc_book.specs.declared.terms_change.TermsChange.{TermsChange}
use Rattle.cc_shared.specs.declared.error.ChangeError.{ChangeError}
use Rattle.cc_shared.specs.declared.looks.TermsChanged.{TermsChanged}
use Rattle.cc_shared.specs.Changing.{IsChange, IsNoChange}
use Rattle.cc_shared.specs.History.{SharedLedger}
use Rattle.cc_sweeper.specs.declared.changes.ChangeFault.{ChangeFault}
use Rattle.cc_sweeper.specs.declared.changes.ChangeFault.TheVariants.{Busy, OutOfMemory}

-- A change of the terms, and the moment of its entry.
pub record Change : Type 0 where
  pub moment : Moment
  pub change : TermsChange

-- The book was changed so at this moment, and the one history has the entry; or the book has refused, or is closed.
abbrev pub IsChangedTo : SharedLedger → Moment → TermsChange → Result TermsChanged ChangeError → Type 0
IsChangedTo shared moment change (Ok changed) = IsChange shared moment change changed
IsChangedTo shared moment change (Err error) = IsNoChange shared change error

-- A change is under way from now on; or one was before, or memory is missing, and nothing has changed.
abbrev pub Begins : Moment → TermsChange → Option Change → Result (Unit {0}) ChangeFault → Option Change → Type 0
Begins moment change old (Ok begun) new = (old ≡ None) × (new ≡ Some (record { moment = moment; change = change }))
Begins moment change old (Err Busy) new = ((under_way : Change) × (old ≡ Some under_way)) × (new ≡ old)
Begins moment change old (Err OutOfMemory) new = (old ≡ None) × (new ≡ None)

-- The change that was under way is collected, and none is from then on: what it came to is what the book answered at the moment that was
-- said. Or it is not done, or none is under way, and nothing has changed.
abbrev pub CollectsChange : SharedLedger → Option Change → Option (Result TermsChanged ChangeError) → Option Change → Type 0
CollectsChange shared old None new = new ≡ old
CollectsChange shared old (Some result) new =
    ((change : Change) × (old ≡ Some change) × IsChangedTo shared change.moment change.change result) × (new ≡ None)
