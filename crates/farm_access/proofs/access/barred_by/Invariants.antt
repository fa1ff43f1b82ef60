use Rattle.std.proofs.Common.{◌≡◌, ◌++◌, drop}
use Rattle.farm_access.specs.Rules.{barred_from}
use Rattle.farm_access.proofs.access.barred_by.Given as goal

abbrev pub invariant-loop-place : goal.invariant-loop-place
invariant-loop-place l = l.barred.items ++ barred_from l.strict l.callers l.place (drop l.place l.rules) l.address ≡ barred_from l.strict l.callers 0 l.rules l.address
