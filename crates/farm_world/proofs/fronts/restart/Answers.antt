use Rattle.std.proofs.Common.{sym, ap, ◌∙◌}
use Rattle.std.specs.Prelude.{slice_set}
use Rattle.front_core.specs.FrontStep.{after_restart}
use Rattle.front_core.specs.FrontState.{FrontState}
use Rattle.farm_model.specs.Loss.{with_restart_of_front}
use Rattle.farm_model.proofs.Wiring.WorldLemmas.{front_found, front_changed}
use Rattle.farm_world.proofs.fronts.restart.Goals as goal

pub returns-in-Some : goal.returns-in-Some
returns-in-Some c =
    let fronts = c.args.fronts.now.items in
    let at = c.index_mut.result.now in
    let first = rw c.deref.ensures.value at c.in-Some.ensures.found in
    ap (λ (front : FrontState). slice_set fronts c.in-Some.place (record { node = at.node; front = front })) c.restart.ensures
    ∙ front_changed c.args.node fronts c.in-Some.place at (after_restart at.front) first c.index_mut.ensures.value
    ∙ sym (ap (with_restart_of_front c.args.node fronts) (front_found c.args.node fronts c.in-Some.place at first c.index_mut.ensures.value))
