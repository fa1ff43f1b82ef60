-- A book that threads share, and what it was when a call looked at it.
use Rattle.std.specs.Prelude.{◌≡◌, ℕ, zero, suc, List, [], ◌∷◌, ◌++◌, length, map, count_by, Bool, true, false, MatchBool, Result, Ok, Err, ℤ, pos}
use Rattle.std.specs.List.{range_with_len}
use Rattle.dia_base.specs.declared.number.Moment.{Moment}
use Rattle.cc_book.specs.declared.book.BookRefusal.{BookRefusal}
use Rattle.cc_book.specs.declared.book.BookRefusal.TheVariants.{Full, OutOfMemory}
use Rattle.cc_book.specs.declared.entry.Entry.{Entry}
use Rattle.cc_book.specs.declared.entry.Entry.TheVariants.{Take, Sweep, ChangeTerms}
use Rattle.cc_book.specs.declared.terms.Terms.{Terms}
use Rattle.cc_book.specs.AccountMachine.{terms_of}
use Rattle.cc_book.specs.Balance.{balance_of, reserved_of}
use Rattle.cc_book.specs.History.{IsLegal}
use Rattle.cc_book.specs.Taking.{Ledger, sweep_answer}
use Rattle.cc_shared.specs.declared.logged.Logged.{Logged}
use Rattle.cc_shared.specs.declared.logged.Logged.TheVariants.{Entered}
use Rattle.cc_shared.specs.declared.looks.Snapshot.{Snapshot}
use Rattle.cc_shared.specs.declared.looks.Swept.{Swept}
use Rattle.cc_shared.specs.History.{SharedLedger, book_at, is_closed}

abbrev pub is_take : Entry → Bool
is_take (Take moment request) = true
is_take (Sweep moment) = false
is_take (ChangeTerms moment change) = false

-- how many of these entries are takes
abbrev pub takes_in : List Entry → ℕ
takes_in entries = count_by is_take entries

-- A book is the one that was handed in, with entries more, of which so many are takes.
pub record HasGrown (opened book : Ledger) (count : ℕ) : Type 0 where
  pub terms : book.terms ≡ opened.terms
  pub limit : book.limit ≡ opened.limit
  pub more : List Entry
  pub grown : book.history ≡ opened.history ++ more
  pub takes : takes_in more ≡ count

-- A book that stood behind the lock at one moment: its history is legal, and goes on from that which was handed in.
pub record Stood (opened book : Ledger) : Type 0 where
  pub count : ℕ
  pub grown : HasGrown opened book count
  pub legal : IsLegal book.terms book.history

-- balance and reserved amount of an account
abbrev pub standing_at : Terms → List Entry → ℕ → ℤ × ℤ
standing_at terms history account = (balance_of terms history account, pos (reserved_of terms history account))

-- the same of each account that is there after the history, in the order of the accounts
abbrev pub standings_of : Terms → List Entry → List (ℤ × ℤ)
standings_of terms history = map (standing_at terms history) (range_with_len 0 (length (terms_of terms history).accounts))

-- What a sweep adds to the history that ends so many sessions.
abbrev pub swept_by : Moment → ℕ → List Logged
swept_by moment zero = []
swept_by moment (suc more) = Entered (Sweep moment) ∷ []

-- the history behind a sweep that was answered so
abbrev pub log_after_sweep : List Logged → Moment → Result ℕ BookRefusal → List Logged
log_after_sweep log moment (Ok ended) = log ++ swept_by moment ended
log_after_sweep log moment (Err refusal) = log

-- An open book was swept: what was seen of its history afterwards is what stood there and what the sweep has added, and it
-- ended as many sessions as were due in that book.
pub record HasSwept (opened : Ledger) (moment : Moment) (swept : Swept) : Type 0 where
  pub before : List Logged
  pub open_then : is_closed before ≡ false
  pub seen : swept.seen.log ≡ before ++ swept_by moment swept.ended
  pub legal : IsLegal opened.terms (book_at opened before).history
  pub answer : sweep_answer (book_at opened before) moment ≡ Ok swept.ended

-- A sweep through the lock: a book that is closed ends no session, and no other one answers so without a look.
abbrev pub IsSweep : SharedLedger → Moment → Swept → Type 0
IsSweep shared moment swept = (swept.seen.book ≡ shared.log) × MatchBool (is_closed swept.seen.log) (swept.ended ≡ 0) (HasSwept shared.opened moment swept)

-- A sweep that is refused as by a full book: a book with this opening and some open, legal history refuses one at this moment.
abbrev pub IsNoSweep : SharedLedger → Moment → BookRefusal → Type 0
IsNoSweep shared moment OutOfMemory = Unit {0}
IsNoSweep shared moment (Full limit) =
    (before : List Logged) × (is_closed before ≡ false) × IsLegal shared.opened.terms (book_at shared.opened before).history
    × (sweep_answer (book_at shared.opened before) moment ≡ Err (Full limit))

-- An open book was looked at: these are its accounts.
pub record IsShown (book : Ledger) (pairs : List (ℤ × ℤ)) : Type 0 where
  pub legal : IsLegal book.terms book.history
  pub pairs_are : pairs ≡ standings_of book.terms book.history

-- A snapshot through the lock: all accounts at one moment of the history, and the empty list of a closed book alone.
abbrev pub IsSnapshot : SharedLedger → Snapshot → Type 0
IsSnapshot shared snapshot =
    (snapshot.seen.book ≡ shared.log)
    × MatchBool (is_closed snapshot.seen.log) (snapshot.standings.items ≡ []) (IsShown (book_at shared.opened snapshot.seen.log) snapshot.standings.items)
