use Rattle.std.proofs.Common.{◌%◌, ◌^◌}
use Rattle.farm_player.proofs.Playing.{IsPlayed-drawn}
use Rattle.farm_player.proofs.farm.PlayedFarm.number_from.Goals as goal

pub invariant_of-self : goal.invariant_of-self
invariant_of-self c = λ whole.
    let f = c.self.inside in
    IsPlayed-drawn f.site.now f.world c.number_from.new.self f.passed.items c.args.node (c.args.start % 2 ^ 31) f.steps f.prints f.lines.items (c.self.invariant whole) c.number_from.ensures
