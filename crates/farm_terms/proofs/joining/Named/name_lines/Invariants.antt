-- What the text spells is the accounts that were named and those of the lines that are left.
use Rattle.std.proofs.Common.{◌≡◌, ℕ, List, length}
use Rattle.std.specs.Str.Lines.{lines}
use Rattle.cc_book.specs.declared.account.Account.{Account}
use Rattle.farm_script.specs.AccountLines.{accounts_from, accounts_of}
use Rattle.farm_terms.specs.Joining.{GoesOn}
use Rattle.farm_terms.proofs.joining.Named.name_lines.Given as goal

abbrev pub invariant-loop-rest : goal.invariant-loop-rest
invariant-loop-rest l = (read : List Account) × (number : ℕ) × (accounts_of l.text ≡ accounts_from read number (lines l.rest)) × GoesOn l.there read l.fn.self l.self

abbrev pub decreases-loop-rest : goal.decreases-loop-rest
decreases-loop-rest l = length l.rest
