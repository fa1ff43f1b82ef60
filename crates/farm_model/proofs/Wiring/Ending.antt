-- Connections that end: which have at which node, and that what was in flight on them is gone.
use Rattle.std.proofs.Common.{◌≡◌, ◌≤◌, Bool, true, false, not, List, length, inl, inr, sym, subst, ap, ◌∙◌, le-leb, true≢false}
use Rattle.std.specs.Prelude.{◌&&◌, ◌||◌, nat_le, filter}
use Rattle.std.specs.List.{list_any}
use Rattle.std.proofs.lemmas.Bool.{and_parts, not-true, false_from_ne_true}
use Rattle.std.proofs.Math.Bool.{or-true, and-false}
use Rattle.dia_base.specs.declared.number.ConnId.{ConnId}
use Rattle.dia_base.specs.declared.number.NodeNo.{NodeNo}
use Rattle.farm_law.specs.Lists.{Has}
use Rattle.farm_base.specs.declared.site.Site.{Site}
use Rattle.farm_model.specs.declared.state.Direction.{Direction}
use Rattle.farm_model.specs.Loss.{touches}
use Rattle.farm_base.specs.Nodes.{is_node}
use Rattle.farm_model.specs.World.{Ends, is_on, is_inward}
use Rattle.farm_model.proofs.Lists.Among.{Has-filter}
use Rattle.farm_model.proofs.Moves.AsFarm.{has_ended_in}
use Rattle.farm_model.proofs.Lists.Finding.{any_has, any_none}
use Rattle.farm_model.proofs.Wiring.Joined.{is_one_end}
use Rattle.farm_model.proofs.Lists.Numbering.{same_conn, is_same_node}
use Rattle.farm_model.proofs.Wiring.Wired.{Joins, DirectionIsWired}

-- a test that passes only where another one does fails where that one fails
pub fails : {p : Bool} (b : Bool) → (b ≡ true → p ≡ true) → not p ≡ true → b ≡ false
fails {p} b f k = false_from_ne_true b (λ e. true≢false (sym (f e) ∙ not-true p k))

-- ---- what has ended

-- a direction in which a node's messages on a connection come goes to the node, and is of the connection
pub inward_to : (node : NodeNo) (conn : ConnId) (direction : Direction) → is_inward node conn direction ≡ true → is_node direction.to node ≡ true
inward_to node conn direction e = (and_parts (is_node direction.to node) (is_on conn direction) e).0

pub inward_on : (node : NodeNo) (conn : ConnId) (direction : Direction) → is_inward node conn direction ≡ true → is_on conn direction ≡ true
inward_on node conn direction e = (and_parts (is_node direction.to node) (is_on conn direction) e).1

-- the connection was made, and in no direction of it anything comes to the node
pub ended_if : (made : Ends) (directions : List Direction) (node : NodeNo) (conn : ConnId) → 1 ≤ conn.0 → conn.0 ≤ length made → list_any
    (is_inward node conn) directions ≡ false → has_ended_in made directions node conn ≡ true
ended_if made directions node conn numbered below none =
    ap (λ (b : Bool). b && nat_le conn.0 (length made) && not (list_any (is_inward node conn) directions)) (le-leb 1 conn.0 numbered)
    ∙ ap (λ (b : Bool). b && not (list_any (is_inward node conn) directions)) (le-leb conn.0 (length made) below)
    ∙ ap not none

-- where a direction of it comes to the node, its end stands
pub stands_if : (made : Ends) (directions : List Direction) (node : NodeNo) (conn : ConnId) → list_any (is_inward node conn) directions ≡ true → has_ended_in
    made directions node conn ≡ false
stands_if made directions node conn some = ap (λ (b : Bool). nat_le 1 conn.0 && nat_le conn.0 (length made) && not b) some ∙ and-false
    (nat_le 1 conn.0 && nat_le conn.0 (length made))

-- fewer directions: what had ended still has
pub still_ended : (made : Ends) (old new : List Direction) (node : NodeNo) (conn : ConnId) →
    ((direction : Direction) → Has direction new → Has direction old) → has_ended_in made old node conn ≡ true → has_ended_in made new node conn ≡ true
still_ended made old new node conn fewer e =
    let one = and_parts (nat_le 1 conn.0 && nat_le conn.0 (length made)) (not (list_any (is_inward node conn) old)) e in
    let none : list_any (is_inward node conn) new ≡ false =
    any_none (is_inward node conn) new (λ d h. fails (is_inward node conn d) (λ k. any_has (is_inward node conn) (fewer d h) k) one.1) in
    ap (λ (b : Bool). b && not (list_any (is_inward node conn) new)) one.0 ∙ ap not none

-- the same ends stand
pub same_ended : (made : Ends) (old new : List Direction) (node : NodeNo) (conn : ConnId) → list_any (is_inward node conn) new ≡ list_any
    (is_inward node conn) old → has_ended_in made new node conn ≡ has_ended_in made old node conn
same_ended made old new node conn e = ap (λ (b : Bool). nat_le 1 conn.0 && nat_le conn.0 (length made) && not b) e

-- a direction of a connection of the node touches the node
pub touches_it : {site : Site} {ends made : Ends} {node other : NodeNo} (direction : Direction) (conn : ConnId) → Joins ends conn node other → DirectionIsWired
    site ends made direction → is_on conn direction ≡ true → touches node direction ≡ true
touches_it {ends = ends} {node = node} direction conn j k e =
    let here_too : Joins ends conn direction.from direction.to = subst (λ (c : ConnId). Joins ends c direction.from direction.to)
    (same_conn direction.conn conn e) k.joins in
    elim (is_one_end here_too j) [
      | inl at ↦ ap (λ (b : Bool). b || is_node direction.to node) (is_same_node direction.from node (sym at))
      | inr at ↦ ap (λ (b : Bool). is_node direction.from node || b) (is_same_node direction.to node (sym at)) ∙ or-true (is_node direction.from node)
    ]

-- once the directions of a node are gone, its connections have ended, for whoever is at an end
pub ended_without : {site : Site} {ends made : Ends} (node other end : NodeNo) (directions : List Direction) (conn : ConnId) →
    ((d : Direction) → Has d directions → DirectionIsWired site ends made d) → Joins ends conn node other → conn.0 ≤ length made
    → has_ended_in made (filter (λ d. not (touches node d)) directions) end conn ≡ true
ended_without {made = made} node other end directions conn wired j below =
    ended_if made (filter (λ d. not (touches node d)) directions) end conn j.numbered below
    (any_none (is_inward end conn) (filter (λ d. not (touches node d)) directions) (λ d h.
    let t = Has-filter (λ d. not (touches node d)) directions h in
    fails (is_inward end conn d) (λ e. touches_it d conn j (wired d t.0) (inward_on end conn d e)) t.1))

-- and the end of a node that drops a connection
pub ended_by_drop : {site : Site} {ends made : Ends} (directions : List Direction) (direction : Direction) (end : NodeNo) → DirectionIsWired site ends made
    direction → has_ended_in made (filter (λ d. not (is_inward end direction.conn d)) directions) end direction.conn ≡ true
ended_by_drop {made = made} directions direction end k =
    ended_if made (filter (λ d. not (is_inward end direction.conn d)) directions) end direction.conn (k.joins).numbered k.below
    (any_none (is_inward end direction.conn) (filter (λ d. not (is_inward end direction.conn d)) directions)
    (λ d h. not-true (is_inward end direction.conn d) (Has-filter (λ d. not (is_inward end direction.conn d)) directions h).1))
