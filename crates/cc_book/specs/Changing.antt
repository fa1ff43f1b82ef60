-- What the book answers to a change of its terms, and what it keeps of it.
use Rattle.std.specs.Prelude.{◌≡◌, ℕ, ◌+◌, ◌≤◌, [], ◌∷◌, ◌++◌, length, vec_len, vec_capacity, nat_le, if◌then◌else◌, Option, Some, None, Result, Ok, Err, IsOk, is_ok}
use Rattle.dia_base.specs.declared.number.Moment.{Moment}
use Rattle.cc_book.specs.declared.entry.Entry.TheVariants.{ChangeTerms}
use Rattle.cc_book.specs.declared.terms_change.ChangeRefusal.{ChangeRefusal}
use Rattle.cc_book.specs.declared.terms_change.ChangeRefusal.TheVariants.{Full, OutOfMemory}
use Rattle.cc_book.specs.declared.terms_change.TermsChange.{TermsChange}
use Rattle.cc_book.specs.declared.standing.Standing.{Standing}
use Rattle.cc_book.specs.AccountMachine.{terms_of}
use Rattle.cc_book.specs.Taking.{Ledger}
use Rattle.cc_book.specs.TermsChange.{fault_of_change}

-- what is wrong with the change comes before whether there is room for its entry
abbrev pub change_answer_by : Ledger → Option ChangeRefusal → Result ℕ ChangeRefusal
change_answer_by ledger (Some fault) = Err fault
change_answer_by ledger None = if nat_le ledger.limit (length ledger.history) then Err (Full ledger.limit) else Ok (length ledger.history)

-- what a change is answered: the place of its entry, or why it is not made
abbrev pub change_answer : Ledger → TermsChange → Result ℕ ChangeRefusal
change_answer ledger change = change_answer_by ledger (fault_of_change (terms_of ledger.terms ledger.history) change)

-- a change answered so, unless memory ran out for what is not refused
abbrev pub ChangesWith : Result ℕ ChangeRefusal → Result ℕ ChangeRefusal → Type 0
ChangesWith expected (Ok place) = expected ≡ Ok place
ChangesWith expected (Err OutOfMemory) = IsOk expected
ChangesWith expected (Err refusal) = expected ≡ Err refusal

abbrev pub with_change : Ledger → Moment → TermsChange → Ledger
with_change ledger moment change = record ledger { history = ledger.history ++ ChangeTerms moment change ∷ [] }

-- the book after a change that was answered so
abbrev pub after_change_with : Ledger → Moment → TermsChange → Result ℕ ChangeRefusal → Ledger
after_change_with ledger moment change result = if is_ok result then with_change ledger moment change else ledger

-- there is room for so many accounts to join
pub record HasAccountRoom (standing : Standing) (joining : ℕ) : Type 0 where
  pub balances : vec_len standing.balances + joining ≤ vec_capacity standing.balances
  pub totals : joining ≤ standing.sessions.account_room
