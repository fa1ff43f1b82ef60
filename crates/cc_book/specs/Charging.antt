-- What entries charged, and the last entries that charged an account.
use Rattle.std.specs.Prelude.{ℕ, zero, suc, List, [], ◌∷◌, map, slice_get, Bool, false, if◌then◌else◌, Option, Some, None}
use Rattle.cc_book.specs.declared.charges.Charge.{Charge}
use Rattle.cc_book.specs.declared.entry.Entry.{Entry}
use Rattle.cc_book.specs.declared.terms.Terms.{Terms}
use Rattle.cc_book.specs.AccountMachine.{postings_of}
use Rattle.cc_book.specs.Posting.{Posting, is_account}

-- what a posting charged
abbrev pub charge_of : Posting → Charge
charge_of posting = record { account = posting.account; debit = posting.debit }

-- what each entry charged
unfoldable pub charges_of : Terms → List Entry → List Charge
charges_of terms history = map charge_of (postings_of terms history)

-- whether it charged this account, if there is one
abbrev pub is_charge_to : ℕ → Option Charge → Bool
is_charge_to account None = false
is_charge_to account (Some charge) = is_account account charge.account

-- The places of the last of these that charged an account, the latest first: those below a place, and no more than so many.
abbrev pub latest : ℕ → List Charge → ℕ → ℕ → List ℕ
latest account charges zero most = []
latest account charges (suc place) zero = []
latest account charges (suc place) (suc more) =
    if is_charge_to account (slice_get charges place) then place ∷ latest account charges place more else latest account charges place (suc more)
