use Rattle.std.proofs.Common.{◌≡◌, ◌+◌, ◌≤◌, length}
use Rattle.std.specs.Str.Lines.{lines}
use Rattle.farm_script.specs.AccountLines.{line_from, line_of_account}
use Rattle.farm_script.proofs.accounts.line_of_account.Given as goal

abbrev pub invariant-loop-rest : goal.invariant-loop-rest
invariant-loop-rest l = record {
  found : line_of_account l.text l.place ≡ line_from l.line (lines l.rest) l.left;
  counted : l.line + length l.rest ≤ length l.text + 1;
}

abbrev pub decreases-loop-rest : goal.decreases-loop-rest
decreases-loop-rest l = length l.rest
