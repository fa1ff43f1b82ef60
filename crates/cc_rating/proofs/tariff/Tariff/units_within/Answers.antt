use Rattle.std.proofs.Common.{◌≡◌, ◌≤◌, ◌/◌, ◌^◌, ap, ◌∙◌, arith}
use Rattle.std.specs.Int.{w128}
use Rattle.std.proofs.Math.Nat.{div-le_self, mul-le-mul}
use Rattle.std.proofs.lemmas.Int.{to_z-of_z}
use Rattle.cc_rating.specs.Rating.{available}
use Rattle.cc_rating.proofs.Costs.{in_range-parts}
use Rattle.cc_rating.proofs.Grants.{available-below}
use Rattle.cc_rating.proofs.tariff.Tariff.units_within.Goals as goal

pub overflow_mul-most : goal.overflow_mul-most
overflow_mul-most c =
    let price = c.args.self.now.price in
    let below = available-below c.args.free c.args.cost c.requires.above in
    let is : c.available.result ≡ available c.args.free = c.available.ensures ∙ ap available (to_z-of_z w128 c.args.free c.ranges.free) in
    let few = div-le_self c.available.result price in
    let blocks : c.available.result / price ≤ 2 ^ 84 = let kept = c.requires.cost_kept in omega arith in
    let product = mul-le-mul blocks (in_range-parts c.args.self.now c.requires.in_range).2 in
    omega arith
