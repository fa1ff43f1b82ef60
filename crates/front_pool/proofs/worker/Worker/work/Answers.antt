use Rattle.front_pool.proofs.Serving.{served_turn, told_turn}
use Rattle.front_pool.proofs.worker.Worker.work.Goals as goal

pub loop-preserved-in-Some-take : goal.loop-preserved-in-Some-take
loop-preserved-in-Some-take g c =
    let site = g.L.Pooling.site in let shared = g.L.Sharing.shared in
    record {
      next = tt;
      finite = tt;
      served = served_turn site shared c.in-Some-take.job c.loop.self _ _ c.loop.invariant.served c.in-Some-take.ensures.some c.turn.ensures;
      count = told_turn site shared c.in-Some-take.job c.args.self.now.counted c.loop.self _ _ c.loop.invariant.count c.in-Some-take.ensures.some c.turn.ensures;
    }
