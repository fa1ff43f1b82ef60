use Rattle.std.proofs.Common.{[], refl}
use Rattle.farm_terms.proofs.Naming.{goes_nowhere}
use Rattle.farm_terms.proofs.joining.Named.name_lines.Goals as goal

pub loop-rest-init : goal.loop-rest-init
loop-rest-init c = ([], 1, refl, goes_nowhere c.args.there.now c.args.self.now)
