use Rattle.std.proofs.Common.{◌≡◌, rules, tests}
use Rattle.std.specs.List.{position}
use Rattle.std.proofs.lemmas.Iterator.{YieldsList-from_slice}
use Rattle.std.proofs.lemmas.Iterator.Search.{position_from_yields_List}
use Rattle.farm_model.specs.World.{is_relay_at}
use Rattle.farm_model.proofs.Lists.ListLemmas.{found_first, found_none}
use Rattle.farm_world.proofs.relays.place_of_relay.Goals as goal

pub returns : goal.returns
returns c =
    let at : c.position.result ≡ position (is_relay_at c.args.node) c.args.relays.now =
    position_from_yields_List (is_relay_at c.args.node) _ _ c.position.result c.position.ensures.ran (YieldsList-from_slice _ c.iter.ensures.rest) (λ x b q k. search (rules, tests)) in
    record { found = found_first (is_relay_at c.args.node) c.args.relays.now c.position.result at; none = found_none (is_relay_at c.args.node) c.args.relays.now c.position.result at }
