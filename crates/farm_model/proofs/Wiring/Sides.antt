-- The sides of directions: what a direction is but for its messages.
use Rattle.std.proofs.Common.{◌≡◌, Bool, true, List, [], ◌∷◌, ◌++◌, map, Option, Some, None, refl, sym, subst, ap, ◌∙◌}
use Rattle.std.specs.Prelude.{filter, ◌==◌, ◌&&◌, ◌||◌}
use Rattle.std.specs.List.{find, list_any}
use Rattle.std.proofs.lemmas.Bool.{and_from}
use Rattle.std.proofs.Math.Bool.{or-true}
use Rattle.dia_base.specs.declared.number.ConnId.{ConnId}
use Rattle.dia_base.specs.declared.number.NodeNo.{NodeNo}
use Rattle.dia_message.specs.declared.message.Message.{Message}
use Rattle.dia_message.specs.Traffic.{Traffic}
use Rattle.farm_law.specs.Lists.{Has}
use Rattle.farm_law.proofs.Lists.{Has-append}
use Rattle.farm_model.specs.declared.state.Direction.{Direction}
use Rattle.farm_base.specs.Nodes.{is_node}
use Rattle.farm_model.specs.World.{is_between, is_connected, is_outward, with_message, with_message_in, with_message_from, with_traffic_from, is_inward}
use Rattle.farm_model.proofs.Lists.Among.{Has-unmap, Has-filter, Has-map, Has-kept}
use Rattle.farm_model.proofs.Lists.Finding.{any_has}
use Rattle.farm_model.proofs.Lists.Numbering.{node_itself}
use Rattle.farm_model.proofs.Lists.Replacing.{map_replaced}

-- the connection, from which node to which, and whether that one knows it
abbrev pub Side : Type 0
Side = ConnId × NodeNo × NodeNo × Bool

abbrev pub side_of : Direction → Side
side_of direction = (direction.conn, direction.from, direction.to, direction.known)

abbrev pub sides : List Direction → List Side
sides directions = map side_of directions

-- ---- each is of a direction

pub record DirectionOf (directions : List Direction) (side : Side) : Type 0 where
  pub direction : Direction
  pub among : Has direction directions
  pub side_is : side_of direction ≡ side

pub direction_of : (directions : List Direction) (side : Side) → Has side (sides directions) → DirectionOf directions side
direction_of directions side h = let found = Has-unmap side_of directions h in record { direction = found.0; among = found.1; side_is = found.2 }

pub side_was : (keep : Direction → Bool) (directions : List Direction) (side : Side) → Has side (sides (filter keep directions)) →
    (of : DirectionOf directions side) × (keep of.direction ≡ true)
side_was keep directions side h =
    let of = direction_of (filter keep directions) side h in
    let was = Has-filter keep directions of.among in
    (record { direction = of.direction; among = was.0; side_is = of.side_is }, was.1)

pub old_side : (directions : List Direction) (side : Side) → DirectionOf directions side → Has side (sides directions)
old_side directions side of = subst (λ (s : Side). Has s (sides directions)) of.side_is (Has-map side_of of.among)

pub side_kept : (keep : Direction → Bool) (directions : List Direction) (side : Side) →
    ((direction : Direction) → side_of direction ≡ side → keep direction ≡ true) → Has side (sides directions) → Has side (sides (filter keep directions))
side_kept keep directions side passes h =
    let of = direction_of directions side h in
    subst (λ (s : Side). Has s (sides (filter keep directions))) of.side_is (Has-map side_of (Has-kept keep of.among (passes of.direction of.side_is)))

-- ---- more directions, and other messages

pub sides_left : (directions more : List Direction) {side : Side} → Has side (sides directions) → Has side (sides (directions ++ more))
sides_left directions more {side} h = let found = Has-unmap side_of directions h in subst (λ (s : Side). Has s (sides (directions ++ more))) found.2
    (Has-map side_of (Has-append more found.1))

-- a direction of this side goes from the one node to the other
pub side_goes : (directions : List Direction) (conn : ConnId) (a b : NodeNo) (known : Bool) → Has (conn, a, b, known) (sides directions) → list_any
    (is_between a b) directions ≡ true
side_goes directions conn a b known h =
    let found = Has-unmap side_of directions h in
    let direction = found.0 in
    let from_is : direction.from ≡ a = ap (λ (s : Side). s.1) found.2 in
    let to_is : direction.to ≡ b = ap (λ (s : Side). s.2) found.2 in
    let from_here : is_node direction.from a ≡ true = ap (λ (n : NodeNo). is_node n a) from_is ∙ node_itself a in
    let to_here : is_node direction.to b ≡ true = ap (λ (n : NodeNo). is_node n b) to_is ∙ node_itself b in
    any_has (is_between a b) found.1 (and_from (is_node direction.from a) (is_node direction.to b) from_here to_here)

-- nodes are connected where a direction stands from the one to the other, whichever is named first
pub side_connects : (directions : List Direction) (conn : ConnId) (a b : NodeNo) (known : Bool) → Has (conn, a, b, known) (sides directions) →
    (is_connected directions a b ≡ true) × (is_connected directions b a ≡ true)
side_connects directions conn a b known h =
    let goes = side_goes directions conn a b known h in (
      ap (λ (c : Bool). c || list_any (is_between b a) directions) goes,
      ap (λ (c : Bool). list_any (is_between b a) directions || c) goes ∙ or-true (list_any (is_between b a) directions),
    )

pub sides_posted : (node : NodeNo) (directions : List Direction) (conn : ConnId) (message : Message) → sides (with_message_from node directions conn message) ≡
    sides directions
sides_posted node directions conn message = go (find (is_outward node conn) directions) refl
  where
    go : (found : Option Direction) → find (is_outward node conn) directions ≡ found → sides (with_message_in (is_outward node conn) message directions found)
        ≡ sides directions
    go None e = refl
    go (Some direction) e = map_replaced side_of (is_outward node conn) direction (with_message message direction) directions e refl

pub sides_sent : (node : NodeNo) (directions : List Direction) (items : Traffic) → sides (with_traffic_from node directions items) ≡ sides directions
sides_sent node directions [] = refl
sides_sent node directions (item ∷ items) = sides_sent node (with_message_from node directions item.0 item.1) items ∙ sides_posted node directions item.0 item.1

-- the connection and who hears it
abbrev pub Way : Type 0
Way = ConnId × NodeNo

abbrev pub way_of : Direction → Way
way_of direction = (direction.conn, direction.to)

abbrev way_comes_to : NodeNo → ConnId → Way → Bool
way_comes_to node conn way = is_node way.1 node && way.0.0 == conn.0

any_way : (node : NodeNo) (conn : ConnId) (directions : List Direction) → list_any (is_inward node conn) directions ≡ list_any (way_comes_to node conn)
    (map way_of directions)
any_way node conn [] = refl
any_way node conn (direction ∷ directions) = ap (λ (b : Bool). is_inward node conn direction || b) (any_way node conn directions)

-- whoever knows them, with the same ways the same ends stand
pub same_ways_inward : (old new : List Direction) (node : NodeNo) (conn : ConnId) → map way_of new ≡ map way_of old → list_any (is_inward node conn) new ≡
    list_any (is_inward node conn) old
same_ways_inward old new node conn same = any_way node conn new ∙ ap (list_any (way_comes_to node conn)) same ∙ sym (any_way node conn old)

-- whether what is on this side comes to a node on a connection
abbrev comes_to : NodeNo → ConnId → Side → Bool
comes_to node conn side = is_node side.2 node && side.0.0 == conn.0

any_inward : (node : NodeNo) (conn : ConnId) (directions : List Direction) → list_any (is_inward node conn) directions ≡ list_any (comes_to node conn)
    (sides directions)
any_inward node conn [] = refl
any_inward node conn (direction ∷ directions) = ap (λ (b : Bool). is_inward node conn direction || b) (any_inward node conn directions)

-- with the same sides the same ends stand
pub same_inward : (old new : List Direction) (node : NodeNo) (conn : ConnId) → sides new ≡ sides old → list_any (is_inward node conn) new ≡ list_any
    (is_inward node conn) old
same_inward old new node conn same = any_inward node conn new ∙ ap (list_any (comes_to node conn)) same ∙ sym (any_inward node conn old)
