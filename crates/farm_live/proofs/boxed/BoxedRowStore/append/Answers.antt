use Rattle.std.proofs.Common.{◌∙◌, ap}
use Rattle.std.specs.Box.{with_value}
use Rattle.farm_live.proofs.boxed.BoxedRowStore.append.Goals as goal

pub returns-clause-not_behind : goal.returns-clause-not_behind
returns-clause-not_behind g c is = ap (λ s. record { store = with_value c.args.self.now.store s }) (c.append.ensures.not_behind is ∙ c.deref_mut.ensures.value)

pub returns-clause-no_place : goal.returns-clause-no_place
returns-clause-no_place g c is = (ap (λ s. record { store = with_value c.args.self.now.store s }) ((c.append.ensures.no_place is).0 ∙ c.deref_mut.ensures.value), (c.append.ensures.no_place is).1)
