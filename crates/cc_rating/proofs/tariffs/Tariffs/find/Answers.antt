use Rattle.std.proofs.Common.{◌∙◌, List, ap}
use Rattle.std.specs.List.{find}
use Rattle.cc_rating.specs.declared.tariff.Tariff.{Tariff}
use Rattle.cc_rating.specs.Tariffs.{rates}
use Rattle.cc_rating.proofs.Costs.{found_in_range}
use Rattle.cc_rating.proofs.Faults.{fault_of-none}
use Rattle.cc_rating.proofs.tariffs.Tariffs.find.Goals as goal

pub returns-clause-rates : goal.returns-clause-rates
returns-clause-rates c =
    found_in_range (rates c.args.group c.args.ident) c.self.inside.tariffs.items c.first_rating.result
    (c.first_rating.ensures ∙ ap (λ (xs : List Tariff). find (rates c.args.group c.args.ident) xs) c.deref.ensures.value) (fault_of-none c.self.inside.tariffs.items c.self.invariant)
