use Rattle.std.proofs.Common.{◌≡◌, take, drop}
use Rattle.cc_rating.specs.Tariffs.{fault_of, fault_from}
use Rattle.cc_rating.proofs.tariffs.first_fault.Given as goal

abbrev pub invariant-loop-i : goal.invariant-loop-i
invariant-loop-i l = fault_of l.tariffs ≡ fault_from (take l.i l.tariffs) (drop l.i l.tariffs)
