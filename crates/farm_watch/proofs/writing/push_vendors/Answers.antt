use Rattle.dia_avp.specs.AvpList.{written}
use Rattle.farm_watch.specs.PeerMessages.{vendor_part}
use Rattle.farm_watch.proofs.Adding.{next_added}
use Rattle.farm_watch.proofs.writing.push_vendors.Goals as goal

pub loop-vendor-preserved : goal.loop-vendor-preserved
loop-vendor-preserved c =
    next_added written vendor_part c.args.vendors.now c.loop-vendor.vendor-index 0 c.args.body.now.items c.loop-vendor.body.items
    c.push_vendor.new.body.items c.loop-vendor-test.true c.loop-vendor.invariant c.in_ok-push_vendor.ensures
