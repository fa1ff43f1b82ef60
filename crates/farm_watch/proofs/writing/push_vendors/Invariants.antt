use Rattle.std.proofs.Common.{◌≡◌, ◌++◌, take}
use Rattle.std.specs.Prelude.{flat_map}
use Rattle.dia_avp.specs.AvpList.{written_list}
use Rattle.farm_watch.specs.PeerMessages.{vendor_part}
use Rattle.farm_watch.proofs.writing.push_vendors.Given as goal

abbrev pub invariant-loop-vendor : goal.invariant-loop-vendor
invariant-loop-vendor l = l.body.items ≡ l.initial.body.items ++ written_list (flat_map vendor_part (take l.vendor-index l.vendors))
