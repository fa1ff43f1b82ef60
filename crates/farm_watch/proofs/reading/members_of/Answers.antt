use Rattle.std.proofs.Common.{lit≤}
use Rattle.farm_watch.proofs.reading.members_of.Goals as goal

pub returns : goal.returns
returns g c = c.readable.ensures c.args.avp.now.value (c.inside.ensures.group (lit≤ tt))
