use Rattle.std.proofs.Common.{refl}
use Rattle.std.proofs.lemmas.Grind.{div_ceil_times}
use Rattle.cc_rating.specs.Rating.{blocks_of}
use Rattle.cc_rating.proofs.laws.cost_is_of_fewest_blocks.Goals as goal

pub returns : goal.returns
returns c = λ tariff units some.
    let held = div_ceil_times units tariff.block some in
    record { blocks = blocks_of units tariff.block; cost = refl; enough = held.0; fewest = held.1 }
