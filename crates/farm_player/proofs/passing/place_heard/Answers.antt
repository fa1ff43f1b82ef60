use Rattle.std.proofs.Common.{◌≡◌, rules, tests}
use Rattle.std.specs.List.{position}
use Rattle.std.proofs.lemmas.Iterator.{YieldsList-from_slice}
use Rattle.std.proofs.lemmas.Iterator.Search.{position_from_yields_List}
use Rattle.farm_model.specs.World.{is_heard}
use Rattle.farm_model.proofs.Lists.ListLemmas.{found_first, found_none}
use Rattle.farm_player.proofs.passing.place_heard.Goals as goal

pub returns : goal.returns
returns c =
    let at : c.position.result ≡ position (is_heard c.args.from c.args.to) c.args.directions.now =
    position_from_yields_List (is_heard c.args.from c.args.to) _ _ c.position.result c.position.ensures.ran (YieldsList-from_slice _ c.iter.ensures.rest) (λ x b q k. search (rules, tests)) in
    record { found = found_first (is_heard c.args.from c.args.to) c.args.directions.now c.position.result at; none = found_none (is_heard c.args.from c.args.to) c.args.directions.now c.position.result at }
