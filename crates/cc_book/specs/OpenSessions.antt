-- The open sessions as the book keeps them: each under its Session-Id, beside what they hold of each account.
use Rattle.std.specs.Prelude.{◌≡◌, ℕ, ◌<◌, ◌≤◌, ◌^◌, List, length, map, slice_get, slice_index_or, Some, None}
use Rattle.std.specs.List.{AllByRecursion}
use Rattle.std.specs.Map.{values_of}
use Rattle.dia_base.specs.declared.number.Moment.{Moment}
use Rattle.cc_book.specs.declared.outcome.Change.{Change}
use Rattle.cc_book.specs.declared.outcome.Change.TheVariants.{Stays, Opens, GoesOn, Ends}
use Rattle.cc_book.specs.declared.session.OpenSession.{OpenSession}
use Rattle.cc_book.specs.Standing.{held_in, place_in, reserved_in}

-- the open sessions, as contracts see them: with the room for more, the count of the
-- accounts whose totals are kept, and the room for more of these
pub record Sessions : Type 0 where
  pub items : List OpenSession
  pub room : ℕ
  pub accounts : ℕ
  pub account_room : ℕ

-- the totals are what the sessions hold, account by account
abbrev pub AreTotals : List ℕ → List OpenSession → Type 0
AreTotals totals sessions = (account : ℕ) → slice_index_or totals account 0 ≡ reserved_in account sessions

-- the moments of the last requests of sessions
abbrev pub lasts_of : List OpenSession → List Moment
lasts_of sessions = map (λ session. session.last) sessions

-- each session stands under its own Session-Id, and the totals of its account are kept
pub record IsKept (entries : List (List ℕ × OpenSession)) (totals : List ℕ) : Type 0 where
  pub own : AllByRecursion (λ entry. entry.0 ≡ entry.1.id) entries
  pub known : AllByRecursion (λ session. session.account < length totals) (values_of entries)
  pub summed : AreTotals totals (values_of entries)

-- the session is what one at this place has become: its Session-Id and its account are as they were
pub record GoesOnAt (sessions : List OpenSession) (place : ℕ) (session : OpenSession) : Type 0 where
  pub before : OpenSession
  pub there : slice_get sessions place ≡ Some before
  pub id : session.id ≡ before.id
  pub account : session.account ≡ before.account

-- what a request does to its session can be done: one that opens is not open yet, and is of an account whose total is kept
abbrev pub FitsIn : Sessions → List ℕ → Change → Type 0
FitsIn sessions id Stays = Unit {0}
FitsIn sessions id (Opens session) = (id ≡ session.id) × (place_in sessions.items session.id ≡ None) × (session.account < sessions.accounts)
    × (held_in session.holds ≤ 2 ^ 124)
FitsIn sessions id (GoesOn place session) = GoesOnAt sessions.items place session × (held_in session.holds ≤ 2 ^ 124)
FitsIn sessions id (Ends place) = place < length sessions.items
