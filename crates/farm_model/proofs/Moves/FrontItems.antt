-- A front of the farm changes: what is made of its queue and its workers, and that it stands as before.
use Rattle.std.proofs.Common.{◌≡◌, ℕ, List, ◌++◌, map, Some, ap}
use Rattle.std.specs.Prelude.{slice_get}
use Rattle.dia_base.specs.declared.number.NodeNo.{NodeNo}
use Rattle.front_core.specs.declared.worker.Worker.{Worker}
use Rattle.front_core.specs.FrontState.{FrontState}
use Rattle.front_core.specs.FrontStep.{with_worker}
use Rattle.farm_law.specs.Farm.{Item}
use Rattle.farm_law.specs.Lists.{Without}
use Rattle.farm_model.specs.declared.state.Direction.{Direction}
use Rattle.farm_model.specs.declared.state.FrontAt.{FrontAt}
use Rattle.farm_model.specs.World.{Ends, is_front_at, with_front, front_at}
use Rattle.farm_model.proofs.Moves.AsFarm.{flights_in, waiting, held_by, items_at, items_of}
use Rattle.farm_model.proofs.Lists.Placing.{Without-right, Turned, parts_lose, parts_gain, parts_same, parts_turn, set_turn}
use Rattle.farm_model.proofs.Wiring.WorldLemmas.{the_front, front_stands}

-- ---- what is made of it

Turned-right : {x y : Item} (zs : List Item) {xs ys : List Item} → Turned x y xs ys → Turned x y (zs ++ xs) (zs ++ ys)
Turned-right zs h = record { rest = zs ++ h.rest; old = Without-right zs h.old; new = Without-right zs h.new }

module _ (made : Ends) (directions : List Direction) (node : NodeNo) (fronts : List FrontAt) (front changed : FrontState)
    (looked : front_at node fronts ≡ Some front) where
  abbrev old_items : List Item
  old_items = items_of made directions fronts

  abbrev new_items : List Item
  new_items = items_of made directions (with_front node changed fronts)

  pub front_turn : (x y : Item) → Turned x y (items_at made (the_front node front)) (items_at made (the_front node changed)) → Turned x y old_items new_items
  front_turn x y t = Turned-right (flights_in directions) (parts_turn (items_at made) (is_front_at node) {x = the_front node front}
      {y = the_front node changed} t fronts (front_stands node fronts front looked))

  pub front_lose : (x : Item) → Without x (items_at made (the_front node front)) (items_at made (the_front node changed)) → Without x old_items new_items
  front_lose x w = Without-right (flights_in directions) (parts_lose (items_at made) (is_front_at node) {x = the_front node front} {y = the_front node changed}
      w fronts (front_stands node fronts front looked))

  pub front_gain : (x : Item) → Without x (items_at made (the_front node changed)) (items_at made (the_front node front)) → Without x new_items old_items
  front_gain x w = Without-right (flights_in directions) (parts_gain (items_at made) (is_front_at node) {x = the_front node front} {y = the_front node changed}
      w fronts (front_stands node fronts front looked))

  pub front_same : items_at made (the_front node changed) ≡ items_at made (the_front node front) → new_items ≡ old_items
  front_same e = ap (λ (is : List Item). flights_in directions ++ is)
      (parts_same (items_at made) (is_front_at node) {x = the_front node front} {y = the_front node changed} e fronts (front_stands node fronts front looked))

-- a worker holds another item
pub worker_turn : (made : Ends) (node : NodeNo) (front : FrontState) (worker : ℕ) (old new : Worker) (x y : Item) → slice_get front.workers worker ≡ Some old →
    Turned x y (held_by made node old) (held_by made node new)
    → Turned x y (items_at made (the_front node front)) (items_at made (the_front node (with_worker front worker new)))
worker_turn made node front worker old new x y e t = Turned-right (map (waiting made node) front.queue)
    (set_turn (held_by made node) {x = old} {y = new} t front.workers worker e)
