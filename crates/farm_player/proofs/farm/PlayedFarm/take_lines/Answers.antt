use Rattle.std.proofs.Common.{◌≡◌, []}
use Rattle.farm_player.proofs.Playing.{IsPlayed-handed}
use Rattle.farm_player.proofs.farm.PlayedFarm.take_lines.Goals as goal

pub invariant_of-self : goal.invariant_of-self
invariant_of-self c = λ whole.
    let f = c.self.inside in
    let none : c.replace.new.dest.items ≡ [] = cc in
    IsPlayed-handed f.site.now f.world f.passed.items f.steps f.prints f.lines.items c.replace.new.dest.items (c.self.invariant whole) none
