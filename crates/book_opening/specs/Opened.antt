-- What an opened book is.
use Rattle.std.specs.Prelude.{◌≡◌, ◌⊎◌, ◌-◌, ℕ, Bool, true, List, length, slice_get, Ok}
use Rattle.std.specs.Option.{option_map_or}
use Rattle.dia_base.specs.declared.number.Moment.{Moment}
use Rattle.cc_book.specs.declared.terms.Terms.{Terms}
use Rattle.cc_book.specs.declared.terms_change.TermsChange.{TermsChange}
use Rattle.cc_book.specs.declared.entry.Entry.{Entry}
use Rattle.cc_book.specs.Session.{moment_of}
use Rattle.cc_book.specs.AccountMachine.{terms_of}
use Rattle.cc_book.specs.Changing.{with_change}
use Rattle.cc_book.specs.Taking.{Ledger}
use Rattle.cc_book.specs.TermsChange.{says_nothing}
use Rattle.book_rows.specs.declared.about.About.{About}
use Rattle.book_rows.specs.declared.about.Identity.{Identity}
use Rattle.book_rows.specs.About.{about as about_form, whole}
use Rattle.book_terms.specs.Difference.{Hold, IsNeeded}
use Rattle.book_terms.specs.Terms.{terms as terms_form}

-- the octets say what a book is, which was made under these terms
abbrev pub IsOfTerms : List ℕ → Terms → Type 0
IsOfTerms octets terms = (about : About) × (whole about_form octets ≡ Ok about) × (whole terms_form about.terms ≡ Ok terms)

-- the octets say what a book is, and that this is its identity
abbrev pub HasIdentity : List ℕ → Identity → Type 0
HasIdentity octets identity = (about : About) × (whole about_form octets ≡ Ok about) × (identity ≡ about.identity)

-- the moment of the last entry, in milliseconds; 0 where there is none
abbrev pub last_in : List Entry → ℕ
last_in history = option_map_or moment_of (slice_get history (length history - 1)) 0

-- the terms that hold in a book
abbrev pub now_in : Ledger → Terms
now_in book = terms_of book.terms book.history

-- a book with one more entry, at that moment: the change that leads to the terms of a site
pub record IsChangedTo (wanted : Terms) (moment : Moment) (old new : Ledger) : Type 0 where
  pub change : TermsChange
  pub needed : IsNeeded (now_in old) wanted change
  pub changed : new ≡ with_change old moment change

-- A book that is opened to be served on is the one that is stored; where the terms of the site do not hold in it, it changes them by
-- one entry, if that is allowed.
abbrev pub IsRenewed : Terms → Moment → Bool → Ledger → Ledger → Type 0
IsRenewed wanted moment allowed old new = (new ≡ old) ⊎ ((allowed ≡ true) × IsChangedTo wanted moment old new)

-- The same by a change that is handed in: a book that it says nothing to is the one that is stored.
abbrev pub IsRenewedBy : TermsChange → Moment → Bool → Ledger → Ledger → Type 0
IsRenewedBy change moment allowed old new = ((says_nothing change ≡ true) × (new ≡ old)) ⊎ ((allowed ≡ true) × (new ≡ with_change old moment change))

-- whichever terms the change leads to, from those that hold in the one book, hold in the other
abbrev pub HoldsWhereLed : TermsChange → Ledger → Ledger → Type 0
HoldsWhereLed change old new = (wanted : Terms) → IsNeeded (now_in old) wanted change → Hold (now_in new) wanted
