use Rattle.std.proofs.Common.{◌≡◌, false, take}
use Rattle.std.specs.List.{list_any}
use Rattle.farm_watch.specs.Capabilities.{is_advertised}
use Rattle.farm_watch.proofs.reading.is_advertised.Given as goal

abbrev pub invariant-loop-avp : goal.invariant-loop-avp
invariant-loop-avp g l = list_any is_advertised (take l.avp-index l.avps) ≡ false
