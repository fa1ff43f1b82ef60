-- What a node sends joins the list of a direction, or is lost where there is none; nothing else in flight changes.
use Rattle.std.proofs.Common.{◌≡◌, true, List, [], ◌∷◌, ◌++◌, Option, Some, None, inl, inr, refl, subst, ap, ◌∙◌}
use Rattle.std.specs.Prelude.{◌⊎◌}
use Rattle.std.specs.List.{find}
use Rattle.dia_base.specs.declared.number.ConnId.{ConnId}
use Rattle.dia_base.specs.declared.number.NodeNo.{NodeNo}
use Rattle.dia_base.proofs.Finding.{found_passes}
use Rattle.dia_message.specs.declared.message.Message.{Message}
use Rattle.dia_message.specs.Traffic.{Traffic}
use Rattle.farm_law.specs.Farm.{Item}
use Rattle.farm_law.specs.Lists.{Has, Without}
use Rattle.farm_base.specs.declared.site.Site.{Site}
use Rattle.farm_model.specs.declared.state.Direction.{Direction}
use Rattle.farm_model.specs.World.{Ends, is_outward, with_message, with_message_in, with_message_from, with_traffic_from}
use Rattle.farm_model.proofs.Moves.AsFarm.{in_flight, flights, flights_in}
use Rattle.farm_model.proofs.Lists.Finding.{Has-found}
use Rattle.farm_model.proofs.Wiring.Joined.{Joins-same}
use Rattle.farm_model.proofs.Lists.Placing.{Without-last, Without-map, parts_gain}
use Rattle.farm_model.proofs.Wiring.Wired.{Joins, DirectionIsWired}
use Rattle.farm_model.proofs.Wiring.WiredLemmas.{directions_wired}
use Rattle.farm_model.proofs.Wiring.WorldLemmas.{outward_is}

-- ---- one message

-- one item more, or none: it is lost
abbrev pub Posted : Item → List Item → List Item → Type 0
Posted item old new = Without item new old ⊎ (new ≡ old)

module _ (site : Site) (ends made : Ends) (node other : NodeNo) (conn : ConnId) (message : Message) (joins : Joins ends conn node other) where
  abbrev the_item : Item
  the_item = record { conn = conn; from = node; to = other; message = message }

  one_more : (direction : Direction) → DirectionIsWired site ends made direction → is_outward node conn direction ≡ true → Without the_item
      (flights (with_message message direction)) (flights direction)
  one_more direction wired e =
      let is = outward_is node conn direction e in
      let to_is : direction.to ≡ other = Joins-same (subst (λ (n : NodeNo). Joins ends conn n direction.to) is.0
      (subst (λ (c : ConnId). Joins ends c direction.from direction.to) is.1 wired.joins)) joins in
      let same : in_flight direction message ≡ the_item =
      ap (λ (c : ConnId). record { conn = c; from = direction.from; to = direction.to; message = message }) is.1
      ∙ ap (λ (n : NodeNo). record { conn = conn; from = n; to = direction.to; message = message }) is.0
      ∙ ap (λ (n : NodeNo). record { conn = conn; from = node; to = n; message = message }) to_is in
      subst (λ (i : Item). Without i (flights (with_message message direction)) (flights direction)) same
      (Without-map (in_flight direction) (Without-last direction.messages message))

  posted_in : (directions : List Direction) (found : Option Direction) → find (is_outward node conn) directions ≡ found →
      ((d : Direction) → Has d directions → DirectionIsWired site ends made d)
      → Posted the_item (flights_in directions) (flights_in (with_message_in (is_outward node conn) message directions found))
  posted_in directions None e wired = inr refl
  posted_in directions (Some direction) e wired =
      inl (parts_gain flights (is_outward node conn) (one_more direction (wired direction (Has-found (is_outward node conn) directions e))
      (found_passes (is_outward node conn) directions direction e)) directions e)

  -- it joins the others, or is lost
  pub posted : (directions : List Direction) → ((d : Direction) → Has d directions → DirectionIsWired site ends made d) → Posted the_item
      (flights_in directions) (flights_in (with_message_from node directions conn message))
  posted directions wired = posted_in directions (find (is_outward node conn) directions) refl wired

module _ (site : Site) (ends made : Ends) (node : NodeNo) (conn : ConnId) (message : Message) where
  wired_in : (directions : List Direction) (found : Option Direction) → find (is_outward node conn) directions ≡ found →
      ((d : Direction) → Has d directions → DirectionIsWired site ends made d)
      → (d : Direction) → Has d (with_message_in (is_outward node conn) message directions found) → DirectionIsWired site ends made d
  wired_in directions None e wired = wired
  wired_in directions (Some direction) e wired = directions_wired (is_outward node conn) direction (direction.messages ++ message ∷ []) directions e wired

  -- the directions hang together as before
  pub posted_wired : (directions : List Direction) → ((d : Direction) → Has d directions → DirectionIsWired site ends made d) → (d : Direction) → Has d
      (with_message_from node directions conn message) → DirectionIsWired site ends made d
  posted_wired directions wired = wired_in directions (find (is_outward node conn) directions) refl wired

-- ---- several messages

pub traffic_wired : (site : Site) (ends made : Ends) (node : NodeNo) (items : Traffic) (directions : List Direction) →
    ((d : Direction) → Has d directions → DirectionIsWired site ends made d) → (d : Direction) → Has d (with_traffic_from node directions items) →
    DirectionIsWired site ends made d
traffic_wired site ends made node [] directions wired = wired
traffic_wired site ends made node (item ∷ items) directions wired = traffic_wired site ends made node items (with_message_from node directions item.0 item.1)
    (posted_wired site ends made node item.0 item.1 directions wired)
