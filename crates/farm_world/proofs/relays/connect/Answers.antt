use Rattle.std.proofs.Common.{sym, ap, ◌∙◌}
use Rattle.std.specs.Prelude.{slice_set}
use Rattle.std.proofs.lemmas.Result.{on_ok_weaker}
use Rattle.relay_core.specs.Connecting.{up_fault}
use Rattle.relay_core.specs.RelayState.{RelayState}
use Rattle.farm_model.specs.FarmStep.{after_up_by, with_link_of}
use Rattle.farm_model.proofs.Wiring.WorldLemmas.{relay_found, relay_changed}
use Rattle.farm_world.proofs.NodeEvents.{linked}
use Rattle.farm_world.proofs.relays.connect.Goals as goal

pub returns : goal.returns
returns c =
    let relays = c.args.relays.now.items in
    let at = c.index_mut.result.now in
    let first = rw c.deref.ensures.value at c.in-Some.ensures.found in
    on_ok_weaker c.up.result
    (λ takes.
    ap (λ (relay : RelayState). slice_set relays c.in-Some.place (record { node = at.node; relay = relay })) (linked at.relay c.args.node c.args.peer c.args.conn takes.0 c.up.new.node takes.1)
    ∙ relay_changed c.args.node relays c.in-Some.place at (after_up_by at.relay c.args.peer c.args.conn (up_fault at.relay c.args.peer c.args.conn)) first c.index_mut.ensures.value
    ∙ sym (ap (with_link_of c.args.node c.args.peer c.args.conn relays) (relay_found c.args.node relays c.in-Some.place at first c.index_mut.ensures.value)))
    c.up.ensures
