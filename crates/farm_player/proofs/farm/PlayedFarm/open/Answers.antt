use Rattle.farm_player.proofs.Playing.{IsPlayed-open}
use Rattle.farm_player.proofs.farm.PlayedFarm.open.Goals as goal

pub invariant_of-result : goal.invariant_of-result
invariant_of-result c = λ whole.
    IsPlayed-open c.args.site.now c.in_ok-open.field-0 c.new.result.items c.args.prints c.new-2.result.items c.in_ok-open.ensures c.new.ensures c.new-2.ensures.items
