use Rattle.std.proofs.Common.{◌≡◌, rules, tests}
use Rattle.std.specs.List.{position}
use Rattle.std.proofs.lemmas.Iterator.{YieldsList-from_slice}
use Rattle.std.proofs.lemmas.Iterator.Search.{position_from_yields_List}
use Rattle.farm_connections.specs.Desks.{is_to_be_told}
use Rattle.farm_connections.proofs.Placing.{none_is}
use Rattle.farm_connections.proofs.desk.place_of_loss.Goals as goal

pub returns-clause-none : goal.returns-clause-none
returns-clause-none g c =
    let at : c.position.result ≡ position is_to_be_told c.args.links.now =
    position_from_yields_List is_to_be_told _ _ c.position.result c.position.ensures.ran (YieldsList-from_slice _ c.iter.ensures.rest)
    (λ x b q k. search (rules, tests)) in
    none_is c.position.result (position is_to_be_told c.args.links.now) at
