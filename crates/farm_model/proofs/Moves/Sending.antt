-- What a node sends on a connection joins the items of the farm as one that goes to the other end, or is lost; no connection ends by it.
use Rattle.std.proofs.Common.{◌≡◌, true, List, ◌++◌, Option, Some, None, inl, inr, refl, sym, subst, ap, ◌∙◌}
use Rattle.std.specs.Prelude.{flat_map}
use Rattle.std.specs.List.{find}
use Rattle.dia_base.specs.declared.number.ConnId.{ConnId}
use Rattle.dia_base.specs.declared.number.NodeNo.{NodeNo}
use Rattle.dia_base.proofs.Finding.{found_passes}
use Rattle.dia_message.specs.declared.message.Message.{Message}
use Rattle.dia_message.specs.Traffic.{Traffic}
use Rattle.farm_law.specs.Lists.{Has}
use Rattle.farm_base.specs.declared.site.Site.{Site}
use Rattle.farm_model.specs.declared.state.Direction.{Direction}
use Rattle.farm_model.specs.declared.state.FrontAt.{FrontAt}
use Rattle.farm_model.specs.World.{Ends, is_outward, with_message_in, with_message_from, with_traffic_from}
use Rattle.farm_model.proofs.Moves.AsFarm.{other_end, items_at, items_of, has_ended_in}
use Rattle.farm_model.proofs.Wiring.Ending.{same_ended}
use Rattle.farm_model.proofs.Lists.Finding.{Has-found}
use Rattle.farm_model.proofs.Wiring.Joined.{Joins-other}
use Rattle.farm_model.proofs.Lists.Placing.{Without-left}
use Rattle.farm_model.proofs.Moves.Posting.{Posted, posted}
use Rattle.farm_model.proofs.Wiring.Sides.{same_inward, sides_sent}
use Rattle.farm_model.proofs.Wiring.Wired.{Joins, DirectionIsWired}
use Rattle.farm_model.proofs.Wiring.WorldLemmas.{outward_is}

-- a message joins the items, or is lost
pub posted_items : (site : Site) (ends made : Ends) (node other : NodeNo) (conn : ConnId) (message : Message) → Joins ends conn node other →
    (directions : List Direction) (fronts : List FrontAt)
    → ((d : Direction) → Has d directions → DirectionIsWired site ends made d)
    → Posted (record { conn = conn; from = node; to = other; message = message }) (items_of ends directions fronts)
    (items_of ends (with_message_from node directions conn message) fronts)
posted_items site ends made node other conn message joins directions fronts wired =
    elim (posted site ends made node other conn message joins directions wired) [
      | inl w ↦ inl (Without-left (flat_map (items_at ends) fronts) w)
      | inr e ↦ inr (ap (λ (is : List _). is ++ flat_map (items_at ends) fronts) e)
    ]

-- the same for whoever is at the other end
pub posted_across : (site : Site) (ends made : Ends) (node : NodeNo) (conn : ConnId) (message : Message) (directions : List Direction) (fronts : List FrontAt)
    → ((d : Direction) → Has d directions → DirectionIsWired site ends made d)
    → Posted (record { conn = conn; from = node; to = other_end ends conn node; message = message }) (items_of ends directions fronts)
    (items_of ends (with_message_from node directions conn message) fronts)
posted_across site ends made node conn message directions fronts wired = go (find (is_outward node conn) directions) refl
  where
    go : (found : Option Direction) → find (is_outward node conn) directions ≡ found → Posted
        (record { conn = conn; from = node; to = other_end ends conn node; message = message }) (items_of ends directions fronts)
        (items_of ends (with_message_in (is_outward node conn) message directions (find (is_outward node conn) directions)) fronts)
    go None e = inr (ap (λ (o : Option Direction). items_of ends (with_message_in (is_outward node conn) message directions o) fronts) e)
    go (Some direction) e =
        let is = outward_is node conn direction (found_passes (is_outward node conn) directions direction e) in
        let its = wired direction (Has-found (is_outward node conn) directions e) in
        let joins : Joins ends conn node direction.to = subst (λ (n : NodeNo). Joins ends conn n direction.to) is.0
        (subst (λ (c : ConnId). Joins ends c direction.from direction.to) is.1 its.joins) in
        posted_items site ends made node (other_end ends conn node) conn message
        (subst (λ (n : NodeNo). Joins ends conn node n) (sym (Joins-other joins)) joins) directions fronts wired

-- what is sent ends no connection
pub traffic_ended : (made : Ends) (node : NodeNo) (directions : List Direction) (sent : Traffic) (end : NodeNo) (conn : ConnId) → has_ended_in made directions
    end conn ≡ true → has_ended_in made (with_traffic_from node directions sent) end conn ≡ true
traffic_ended made node directions sent end conn e = same_ended made directions (with_traffic_from node directions sent) end conn
    (same_inward directions (with_traffic_from node directions sent) end conn (sides_sent node directions sent)) ∙ e
