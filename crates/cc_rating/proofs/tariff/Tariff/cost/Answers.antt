use Rattle.std.proofs.Common.{◌≤◌, ◌*◌, ◌^◌, ap, subst, sym, ℕ, arith}
use Rattle.cc_rating.proofs.Costs.{cost_of-most}
use Rattle.cc_rating.proofs.tariff.Tariff.cost.Goals as goal

pub overflow_mul-result : goal.overflow_mul-result
overflow_mul-result c =
    let most : c.div_ceil.result * c.args.self.now.price ≤ c.args.units * 2 ^ 20 =
    subst (λ (b : ℕ). b * c.args.self.now.price ≤ c.args.units * 2 ^ 20) (sym c.div_ceil.ensures) (cost_of-most c.args.self.now c.args.units c.requires.in_range) in
    let few = c.requires.units_kept in
    omega arith

pub returns-clause-value : goal.returns-clause-value
returns-clause-value c = ap (λ (b : ℕ). b * c.args.self.now.price) c.div_ceil.ensures

pub returns-clause-most : goal.returns-clause-most
returns-clause-most c =
    subst (λ (b : ℕ). b * c.args.self.now.price ≤ c.args.units * 2 ^ 20) (sym c.div_ceil.ensures) (cost_of-most c.args.self.now c.args.units c.requires.in_range)
