-- What stands beside the rows of a book: the balance of each account and each open session, as the history leaves them.
use Rattle.std.specs.Prelude.{◌≡◌, ◌==◌, ◌+◌, ◌≤◌, ◌<◌, ℕ, pos, negsuc, nat_lt, Bool, true, false, if◌then◌else◌, List, [], ◌∷◌, length, map, slice_get, Option, None, Some, find}
use Rattle.std.specs.Fmt.{signed_decimal}
use Rattle.std.specs.Option.{option_map, option_map_or}
use Rattle.dia_base.specs.declared.number.Moment.{Moment}
use Rattle.sqlite_value.specs.Order.{Row}
use Rattle.sqlite_trees.specs.Tree.{has_rowid, put_row, without_rowid}
use Rattle.cc_book.specs.declared.outcome.Change.{Change}
use Rattle.cc_book.specs.declared.outcome.Change.TheVariants.{Stays, Opens, GoesOn, Ends}
use Rattle.cc_book.specs.declared.session.OpenSession.{OpenSession}
use Rattle.cc_book.specs.AccountMachine.{terms_of}
use Rattle.cc_book.specs.Balance.{balance_of}
use Rattle.cc_book.specs.Standing.{is_due, sessions_in}
use Rattle.cc_book.specs.Taking.{Ledger}
use Rattle.book_rows.specs.SessionParts.{session}
use Rattle.book_beside.specs.Beside.{Beside, placed, row_at, table_of}
use Rattle.book_beside.specs.declared.write.Side.{Side}
use Rattle.book_beside.specs.declared.write.Side.TheVariants.{Accounts, Sessions}
use Rattle.book_journal.specs.declared.touched.Touched.{Touched}

-- the balance of the account at a place, in decimal digits of minor units; none where there is no account
abbrev pub account_octets : Ledger → ℕ → Option (List ℕ)
account_octets ledger place =
    if nat_lt place (length (terms_of ledger.terms ledger.history).accounts) then Some (signed_decimal (balance_of ledger.terms ledger.history place)) else None

-- the octets of the open session at a place, none where there is none
abbrev pub session_octets : Ledger → ℕ → Option (List ℕ)
session_octets ledger place = option_map session.spell (slice_get (sessions_in ledger.terms ledger.history) place)

-- what stands at a place beside the rows of a book
abbrev pub standing : Side → Ledger → ℕ → Option (List ℕ)
standing Accounts ledger place = account_octets ledger place
standing Sessions ledger place = session_octets ledger place

abbrev pub other_than : Side → Side
other_than Accounts = Sessions
other_than Sessions = Accounts

-- how many places beside the rows of a book have something
abbrev pub IsCountOf : Side → Ledger → ℕ → Type 0
IsCountOf Accounts ledger count = count ≡ length (terms_of ledger.terms ledger.history).accounts
IsCountOf Sessions ledger count = count ≡ length (sessions_in ledger.terms ledger.history)

-- a table has these octets, each at its place, and no other row
pub record Has (table : List Row) (octets : ℕ → Option (List ℕ)) : Type 0 where
  pub at : (place : ℕ) → row_at table place ≡ option_map (placed place) (octets place)
  pub low : (n : ℕ) → find (has_rowid (negsuc n)) table ≡ None

-- What stands beside the rows is what the history of a book makes of its accounts and its sessions.
abbrev pub IsBeside : Ledger → Beside → Type 0
IsBeside ledger beside = (side : Side) → Has (table_of side beside) (standing side ledger)

-- ---- what was touched

abbrev pub is_touched : ℕ → List ℕ → Bool
is_touched place [] = false
is_touched place (first ∷ places) = if place == first then true else is_touched place places

-- what was touched is touched
abbrev pub Grows : List ℕ → List ℕ → Type 0
Grows old new = (place : ℕ) → is_touched place new ≡ false → is_touched place old ≡ false

abbrev pub touched_of : Side → Touched → List ℕ
touched_of Accounts touched = touched.accounts.items
touched_of Sessions touched = touched.sessions.items

abbrev pub IsGrown : Touched → Touched → Type 0
IsGrown old new = (side : Side) → Grows (touched_of side old) (touched_of side new)

-- beside the rows of two books the same stands, but at these places
abbrev pub IsSameBut : Touched → Ledger → Ledger → Type 0
IsSameBut touched old new = (side : Side) (place : ℕ) → is_touched place (touched_of side touched) ≡ false → standing side new place ≡ standing side old place

-- the account that a request charges is touched
abbrev pub CoversAccount : List ℕ → Option ℕ → Type 0
CoversAccount places None = Unit {0}
CoversAccount places (Some account) = is_touched account places ≡ true

-- what a change does to so many open sessions is touched
abbrev pub CoversChange : List ℕ → ℕ → Change → Type 0
CoversChange places count Stays = Unit {0}
CoversChange places count (Opens _) = is_touched count places ≡ true
CoversChange places count (GoesOn place _) = is_touched place places ≡ true
CoversChange places count (Ends place) = (is_touched place places ≡ true) × ((last : ℕ) → count ≡ last + 1 → is_touched last places ≡ true)

-- the places from one to another are touched
abbrev pub CoversFrom : List ℕ → ℕ → ℕ → Type 0
CoversFrom places from to = (place : ℕ) → from ≤ place → place < to → is_touched place places ≡ true

-- whether the open session at a place has ended by a moment
abbrev pub is_due_in : ℕ → Moment → List OpenSession → ℕ → Bool
is_due_in validity moment sessions place = option_map_or (is_due validity moment) (slice_get sessions place) false

-- each open session that has ended by a moment is touched
abbrev pub CoversDue : List ℕ → ℕ → Moment → List OpenSession → Type 0
CoversDue places validity moment sessions = (place : ℕ) → is_due_in validity moment sessions place ≡ true → is_touched place places ≡ true

-- ---- writes

-- a table with these octets at a place, or with none
abbrev pub edited : ℕ → Option (List ℕ) → List Row → List Row
edited place (Some octets) table = put_row (placed place octets) table
edited place None table = without_rowid (pos place) table

-- one table has changed so, and the other has not
pub record IsEdited (side : Side) (place : ℕ) (octets : Option (List ℕ)) (old new : Beside) : Type 0 where
  pub table : table_of side new ≡ edited place octets (table_of side old)
  pub other : table_of (other_than side) new ≡ table_of (other_than side) old

-- one table has, at these places, what stands there in a book, and the other has not changed
pub record IsRenewed (side : Side) (ledger : Ledger) (places : List ℕ) (old new : Beside) : Type 0 where
  pub at : (place : ℕ) → row_at (table_of side new) place ≡ (if is_touched place places then option_map (placed place) (standing side ledger place) else row_at (table_of side old) place)
  pub low : ((n : ℕ) → find (has_rowid (negsuc n)) (table_of side old) ≡ None) → (n : ℕ) → find (has_rowid (negsuc n)) (table_of side new) ≡ None
  pub other : table_of (other_than side) new ≡ table_of (other_than side) old
