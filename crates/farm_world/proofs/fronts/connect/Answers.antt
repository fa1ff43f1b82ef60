use Rattle.std.proofs.Common.{sym, ap, ◌∙◌}
use Rattle.std.specs.Prelude.{slice_set}
use Rattle.std.proofs.lemmas.Result.{on_ok_weaker}
use Rattle.front_core.specs.FrontState.{FrontState}
use Rattle.front_core.specs.FrontStep.{with_connection}
use Rattle.farm_model.specs.FarmStep.{with_connection_of}
use Rattle.farm_model.proofs.Wiring.WorldLemmas.{front_found, front_changed}
use Rattle.farm_world.proofs.NodeEvents.{connected}
use Rattle.farm_world.proofs.fronts.connect.Goals as goal

pub returns : goal.returns
returns c =
    let fronts = c.args.fronts.now.items in
    let at = c.index_mut.result.now in
    let first = rw c.deref.ensures.value at c.in-Some.ensures.found in
    on_ok_weaker c.up.result
    (λ takes.
    ap (λ (front : FrontState). slice_set fronts c.in-Some.place (record { node = at.node; front = front })) (connected at.front c.args.node c.args.peer c.args.conn takes.0 c.up.new.node takes.1)
    ∙ front_changed c.args.node fronts c.in-Some.place at (with_connection at.front c.args.conn) first c.index_mut.ensures.value
    ∙ sym (ap (with_connection_of c.args.node c.args.conn fronts) (front_found c.args.node fronts c.in-Some.place at first c.index_mut.ensures.value)))
    c.up.ensures
