use Rattle.std.proofs.Common.{◌≡◌, true, refl, sym, subst, inr, arith}
use Rattle.toml.specs.Data.{Data, array, as_array}
use Rattle.toml.specs.View.{items_view}
use Rattle.farm_site.specs.Forms.{has_more_than}
use Rattle.farm_site.proofs.Refusing.{has_more}
use Rattle.farm_site.proofs.entry.array_within.Goals as goal

pub returns-then-values-most-clause-fault : goal.returns-then-values-most-clause-fault
returns-then-values-most-clause-fault c =
    let more : has_more_than c.args.most (as_array (array (items_view c.in_ok-values.values.now))) ≡ true = has_more c.args.most c.in_ok-values.values.now (omega arith) in
    inr (refl, subst (λ (value : Data). has_more_than c.args.most (as_array value) ≡ true) (sym c.in_ok-values.ensures.value) more)
