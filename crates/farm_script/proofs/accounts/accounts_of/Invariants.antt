-- What the text spells is the accounts so far and those of the lines that are left.
use Rattle.std.proofs.Common.{◌≡◌, ◌+◌, ◌≤◌, length}
use Rattle.std.specs.Str.Lines.{lines}
use Rattle.farm_script.specs.AccountLines.{accounts_from, accounts_of}
use Rattle.farm_script.proofs.accounts.accounts_of.Given as goal

abbrev pub invariant-loop-rest : goal.invariant-loop-rest
invariant-loop-rest l = record {
  spelled : accounts_of l.text ≡ accounts_from l.accounts.items (l.line + 1) (lines l.rest);
  counted : l.line + length l.rest ≤ length l.text;
}

abbrev pub decreases-loop-rest : goal.decreases-loop-rest
decreases-loop-rest l = length l.rest
