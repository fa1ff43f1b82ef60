use Rattle.std.proofs.Common.{take}
use Rattle.farm_terms.specs.Joining.{GoesOn}
use Rattle.farm_terms.proofs.joining.Named.name_all.Given as goal

abbrev pub invariant-loop-account : goal.invariant-loop-account
invariant-loop-account l = GoesOn l.there (take l.account-index l.accounts) l.fn.self l.self
