use Rattle.std.proofs.Common.{◌%◌, sym, ap, ◌∙◌}
use Rattle.std.specs.Prelude.{slice_set}
use Rattle.relay_core.specs.RelayState.{RelayState, with_next}
use Rattle.farm_model.proofs.Wiring.WorldLemmas.{relay_found, relay_changed}
use Rattle.farm_world.specs.RelayEvents.{with_start_of_relay}
use Rattle.farm_world.proofs.relays.number_from.Goals as goal

pub returns-in-Some : goal.returns-in-Some
returns-in-Some c =
    let relays = c.args.relays.now.items in
    let at = c.index_mut.result.now in
    let start = c.args.start % 2147483648 in
    let first = rw c.deref.ensures.value at c.in-Some.ensures.found in
    ap (λ (relay : RelayState). slice_set relays c.in-Some.place (record { node = at.node; relay = relay })) c.number_from.ensures
    ∙ relay_changed c.args.node relays c.in-Some.place at (with_next start at.relay) first c.index_mut.ensures.value
    ∙ sym (ap (with_start_of_relay c.args.node start relays) (relay_found c.args.node relays c.in-Some.place at first c.index_mut.ensures.value))
