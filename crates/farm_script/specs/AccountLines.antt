-- What a text of accounts spells: an account for each line that says something, or the first fault of the first line that has none.
use Rattle.std.specs.Prelude.{◌≡◌, ◌==◌, ℕ, ◌+◌, ◌-◌, List, [], ◌∷◌, ◌++◌, if◌then◌else◌, Option, Some, None, Result, Ok, Err}
use Rattle.std.specs.Global.{Vec}
use Rattle.std.specs.Str.Lines.{lines}
use Rattle.cc_book.specs.declared.account.Account.{Account}
use Rattle.farm_script.specs.declared.fault.LineFault.{LineFault}
use Rattle.farm_script.specs.declared.fault.LineFault.TheVariants.{OutOfMemory}
use Rattle.farm_script.specs.declared.fault.ScriptFault.{ScriptFault}
use Rattle.farm_script.specs.declared.fault.ScriptFault.TheVariants.{Line}
use Rattle.farm_script.specs.TermsWords.{account_of}
use Rattle.farm_script.specs.Words.{says_nothing, words_of, ◌>>=◌}

-- the account of a line, none where the line says nothing
abbrev pub account_in : List ℕ → Result (Option Account) LineFault
account_in line = if says_nothing line then Ok None else (do
  account ← account_of (words_of line)
  Ok (Some account))

-- accounts, and one more behind them if there is one
abbrev pub and_one : List Account → Option Account → List Account
and_one accounts None = accounts
and_one accounts (Some account) = accounts ++ account ∷ []

-- the fault of the line with this number, or what follows
abbrev pub on_line : ℕ → Result (Option Account) LineFault → (Option Account → Result (List Account) ScriptFault) → Result (List Account) ScriptFault
on_line number (Ok found) follows = follows found
on_line number (Err fault) follows = Err (Line number fault)

-- these accounts, and behind them those of lines, of which the first has this number
abbrev pub accounts_from : List Account → ℕ → List (List ℕ) → Result (List Account) ScriptFault
accounts_from before number [] = Ok before
accounts_from before number (line ∷ lines) = on_line number (account_in line) (λ found. accounts_from (and_one before found) (number + 1) lines)

-- lines count from 1
abbrev pub accounts_of : List ℕ → Result (List Account) ScriptFault
accounts_of text = accounts_from [] 1 (lines text)

-- the line of the account at a place, where the first of these lines has this number
abbrev pub line_from : ℕ → List (List ℕ) → ℕ → ℕ
line_from number [] place = number
line_from number (line ∷ lines) place =
    if says_nothing line then line_from (number + 1) lines place
    else if place == 0 then number else line_from (number + 1) lines (place - 1)

abbrev pub line_of_account : List ℕ → ℕ → ℕ
line_of_account text place = line_from 1 (lines text) place

-- a call answered with what a text spells, unless memory ran out
abbrev pub AnswersAccounts : Result (List Account) ScriptFault → Result (Vec Account) ScriptFault → Type 0
AnswersAccounts spelled (Ok accounts) = spelled ≡ Ok accounts.items
AnswersAccounts spelled (Err (Line number OutOfMemory)) = Unit {0}
AnswersAccounts spelled (Err fault) = spelled ≡ Err fault
