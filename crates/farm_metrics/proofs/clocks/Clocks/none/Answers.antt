use Rattle.std.proofs.Common.{◌≡◌, Option, Some, None, refl}
use Rattle.farm_metrics.specs.declared.clocks.Clocked.{Clocked}
use Rattle.farm_metrics.proofs.clocks.Clocks.none.Goals as goal

only_none : (P : Option Clocked → Type 0) → ((clocked : Clocked) → ¬ P (Some clocked)) → (place : Option Clocked) → P place → place ≡ None
only_none P none None holds = refl
only_none P none (Some clocked) holds = absurd (none clocked holds)

pub returns-in-Ok : goal.returns-in-Ok
returns-in-Ok c = (4096, c.in-Ok.ensures.items_if_clones_equal (only_none _ (λ clocked clone. clone)))
