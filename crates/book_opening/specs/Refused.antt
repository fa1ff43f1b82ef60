-- Why a book that is opened does not come under the terms of a site.
use Rattle.std.specs.Prelude.{◌≡◌, Bool, true, false, length, is_some, Err}
use Rattle.cc_book.specs.declared.terms.Terms.{Terms}
use Rattle.cc_book.specs.declared.terms_change.ChangeRefusal.{ChangeRefusal}
use Rattle.cc_book.specs.declared.terms_change.ChangeRefusal.TheVariants as refused
use Rattle.cc_book.specs.declared.terms_change.TermsChange.{TermsChange}
use Rattle.cc_book.specs.Changing.{change_answer}
use Rattle.cc_book.specs.Taking.{Ledger}
use Rattle.cc_book.specs.TermsChange.{says_nothing}
use Rattle.book_terms.specs.Difference.{DiffersIn, IsNeeded}
use Rattle.book_opening.specs.declared.fault.BookFault.{BookFault}
use Rattle.book_opening.specs.declared.fault.BookFault.TheVariants.{File, OtherTerms, TermsDiffer, NotChanged, NotStored, DamagedTerms, Row, OutOfMemory}
use Rattle.book_opening.specs.declared.fault.TermsDifference.{TermsDifference}
use Rattle.book_opening.specs.Opened.{now_in}

-- how the refusal of a change is told
abbrev pub fault_of : ChangeRefusal → BookFault
fault_of refused.OutOfMemory = OutOfMemory
fault_of refusal = NotChanged refusal

-- what the change that is needed would bring
pub record IsDifference (change : TermsChange) (difference : TermsDifference) : Type 0 where
  pub accounts : difference.accounts ≡ length change.joining
  pub tariffs : difference.tariffs ≡ is_some change.tariffs

-- The key that no change brings; what would change, where the book may not change its terms; why it refuses the change; and that what it
-- has changed was not stored, or memory is missing.
abbrev pub IsWhyNot : Terms → Bool → Ledger → BookFault → Type 0
IsWhyNot wanted allowed book (OtherTerms key) = DiffersIn key (now_in book) wanted
IsWhyNot wanted allowed book (TermsDiffer difference) =
    (allowed ≡ false) × ((change : TermsChange) × IsNeeded (now_in book) wanted change × (says_nothing change ≡ false) × IsDifference change difference)
IsWhyNot wanted allowed book (NotChanged refusal) =
    (allowed ≡ true) × ((change : TermsChange) × IsNeeded (now_in book) wanted change × (change_answer book change ≡ Err refusal))
IsWhyNot wanted allowed book (NotStored error) = allowed ≡ true
IsWhyNot wanted allowed book OutOfMemory = Unit {0}
IsWhyNot wanted allowed book (File error) = ⊥
IsWhyNot wanted allowed book DamagedTerms = ⊥
IsWhyNot wanted allowed book (Row error) = ⊥

-- The same where the change is handed in: what it would bring, why the book refuses it, and that what was changed was not stored.
abbrev pub IsWhyNotBy : TermsChange → Bool → Ledger → BookFault → Type 0
IsWhyNotBy change allowed book (TermsDiffer difference) = (allowed ≡ false) × (says_nothing change ≡ false) × IsDifference change difference
IsWhyNotBy change allowed book (NotChanged refusal) = (allowed ≡ true) × (change_answer book change ≡ Err refusal)
IsWhyNotBy change allowed book (NotStored error) = allowed ≡ true
IsWhyNotBy change allowed book OutOfMemory = Unit {0}
IsWhyNotBy change allowed book (OtherTerms key) = ⊥
IsWhyNotBy change allowed book (File error) = ⊥
IsWhyNotBy change allowed book DamagedTerms = ⊥
IsWhyNotBy change allowed book (Row error) = ⊥
