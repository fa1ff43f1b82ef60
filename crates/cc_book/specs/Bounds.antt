-- The bounds of amounts. A balance, and what sessions hold of an account, stay below 2 ^ 124 in size, so that no sum of
-- amounts leaves 128 bits, however many entries a history has.
use Rattle.std.specs.Prelude.{◌≡◌, ℕ, ◌+◌, ◌^◌, ◌≤◌, ◌<◌, List, length, Bool, true, ◌&&◌, nat_lt, Option, Some, None, All, IfSome, ℤ, pos, ◌-ℤ◌, nat_abs, slice_index_or}
use Rattle.cc_view.specs.Request.ServiceLimits.{WithinLimits}
use Rattle.cc_view.specs.declared.request.CcRequest.{CcRequest}
use Rattle.cc_view.specs.declared.request.Service.{Service}
use Rattle.cc_rating.specs.Tariffs.{fault_of}
use Rattle.cc_book.specs.declared.entry.Entry.{Entry}
use Rattle.cc_book.specs.declared.entry.Entry.TheVariants.{Take, Sweep, ChangeTerms}
use Rattle.cc_book.specs.declared.session.OpenSession.{OpenSession}
use Rattle.cc_book.specs.declared.terms.Terms.{Terms}
use Rattle.cc_book.specs.AccountMachine.{charged_account, opening_at}
use Rattle.cc_book.specs.Posting.{Posting, debits_to}
use Rattle.cc_book.specs.Reservation.{reserved_by}
use Rattle.cc_book.specs.Standing.{held_in, reserved_in}

-- Whether an account bears one more request. A request debits or credits at most 2 ^ 103, and is granted at most 2 ^ 89:
-- an account that bears it stays within its bounds, whatever it asks.
abbrev pub bears : ℤ → ℕ → Bool
bears balance reserved = nat_lt (nat_abs balance + 2 ^ 103) (2 ^ 124) && nat_lt (reserved + 2 ^ 89) (2 ^ 124)

-- whether an account bears one more request after postings; there is nothing to bear without an account
abbrev pub account_bears : Terms → List Posting → Option ℕ → Bool
account_bears terms before None = true
account_bears terms before (Some account) =
    bears (opening_at terms.accounts account -ℤ debits_to account before) (reserved_by terms.validity account before)

-- whether the account that a request charges bears it
abbrev pub bears_request : Terms → List Posting → CcRequest → Bool
bears_request terms before request = account_bears terms before (charged_account terms before request)

-- whether an account bears one more request, by what a history has left
abbrev pub bears_in : List ℤ → List OpenSession → Option ℕ → Bool
bears_in balances sessions None = true
bears_in balances sessions (Some account) = bears (slice_index_or balances account (pos 0)) (reserved_in account sessions)

-- what a posting moves is no more than a request can
pub record MovesLittle (posting : Posting) : Type 0 where
  pub debit : nat_abs posting.debit ≤ 2 ^ 103
  pub grants : held_in posting.grants ≤ 2 ^ 89

-- the counts that a service asks for are of 64 bits
abbrev pub AsksSmall : Service → Type 0
AsksSmall service = (counts : List (Option ℕ)) (place : ℕ) → service.asked ≡ Some counts → IfSome (slice_index_or counts place None) (λ count. count < 2 ^ 64)

-- The services of an entry's request are within their limits, and ask for such counts. The tariffs of a change are in
-- their ranges, and the openings of the accounts that join are of 64 bits.
abbrev pub IsInRange : Entry → Type 0
IsInRange (Take moment request) = WithinLimits request.services × All AsksSmall request.services
IsInRange (Sweep moment) = Unit {0}
IsInRange (ChangeTerms moment change) = IfSome change.tariffs (λ tariffs. fault_of tariffs ≡ None) × All (λ account. nat_abs account.opening ≤ 2 ^ 64) change.joining

-- opening amounts are of 64 bits
abbrev pub OpensSmall : Terms → Type 0
OpensSmall terms = (account : ℕ) → nat_abs (opening_at terms.accounts account) ≤ 2 ^ 64

-- the balances, and what sessions hold of each account, are within their bounds
pub record IsBounded (balances : List ℤ) (sessions : List OpenSession) : Type 0 where
  pub balance : (account : ℕ) → account < length balances → nat_abs (slice_index_or balances account (pos 0)) < 2 ^ 124
  pub held : (account : ℕ) → reserved_in account sessions < 2 ^ 124
