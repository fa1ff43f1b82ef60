-- Where connections end, one end goes after another, and nodes learn of it: what happens to a node then, event by event.
-- And what else steps leave where connections come and go.
use Rattle.std.proofs.Common.{◌≡◌, ◌≤◌, Bool, true, false, cond, not, List, [], ◌∷◌, ◌++◌, Option, Some, None, inl, inr, refl, sym, subst, ap}
use Rattle.std.proofs.Common.{◌∙◌, append-nil, arith}
use Rattle.std.specs.Prelude.{◌&&◌, ◌||◌, ◌==◌, filter, count_by, option_map, MatchBool}
use Rattle.std.specs.List.{find, list_any}
use Rattle.std.proofs.lemmas.Bool.{and_parts, and_from, or_cases, or_parts, both_ways, false_from_ne_true}
use Rattle.std.proofs.Math.Bool.{and-false}
use Rattle.dia_base.specs.declared.number.ConnId.{ConnId}
use Rattle.dia_base.specs.declared.number.NodeNo.{NodeNo}
use Rattle.dia_base.proofs.Counting.{one, count-cons, count-map}
use Rattle.dia_base.proofs.Finding.{found_passes}
use Rattle.relay_core.specs.declared.run.RelayEvent.{RelayEvent}
use Rattle.relay_core.specs.declared.run.RelayEvent.TheVariants.{Lost}
use Rattle.farm_law.specs.Lists.{Has}
use Rattle.farm_base.specs.declared.site.Site.{Site}
use Rattle.farm_model.specs.declared.state.Direction.{Direction}
use Rattle.farm_base.specs.declared.step.Step.TheVariants.{Cut}
use Rattle.farm_model.specs.FarmStep.{next_conn, empty_direction, with_new_connection, can_cut}
use Rattle.farm_model.specs.InFlight.{goes, ends_at}
use Rattle.farm_model.specs.Loss.{Loss, LossAt, LearnLosses, after_end, EndGoes, end_with, after_losing_all}
use Rattle.farm_model.specs.Loss.{CutsBoth, after_crash, peers_of, DropAll, all_dropped, drops_too}
use Rattle.farm_base.specs.Nodes.{is_node}
use Rattle.farm_model.specs.RelayRuns.{event_if}
use Rattle.farm_model.specs.World.{Ends, WorldState, is_between, is_heard, is_unheard, is_on, is_inward, is_connected, knows, emptied}
use Rattle.farm_model.proofs.Lists.Among.{Has-filter, Has-map, Has-unmap, Has-kept}
use Rattle.farm_model.proofs.Lists.Finding.{Has-found, find_none, find_behind, any_found, any_has, any_none, does_not_pass}
use Rattle.farm_model.proofs.Lists.Numbering.{same_node, same_conn, is_same_node, node_itself, nodes_turned}
use Rattle.farm_model.proofs.Relays.EventsAtEnds.{end_events, no_end_events, found_side}
use Rattle.farm_model.proofs.Relays.RelayTurns.{learned_by}
use Rattle.farm_model.proofs.Relays.SentBehind.{OneOut, one_out_by_sides, left_one_out}
use Rattle.farm_model.proofs.Wiring.Apart.{is_way, AreApart, goes_once, fewer}
use Rattle.farm_model.proofs.Wiring.Joined.{Joins-turned, Joins-same}
use Rattle.farm_model.proofs.Wiring.KindsAgree.{KindsAgree, crash_kinds}
use Rattle.farm_model.proofs.Wiring.KnowsAfterStep.{joined_by_sides, learned_kinds, sides_emptied}
use Rattle.farm_model.proofs.Wiring.Sides.{Side, side_of, sides}
use Rattle.farm_model.proofs.Wiring.StandingOn.{losses_go_on}
use Rattle.farm_model.proofs.Wiring.Wired.{Joins}
use Rattle.farm_model.proofs.Wiring.WorldLemmas.{direction_nodes, heard_between}

-- ---- lists

-- the first that passes stays so where all that pass are left
find_left : {A : Type 0} (test keep : A → Bool) (xs : List A) → ((x : A) → test x ≡ true → keep x ≡ true) → find test (filter keep xs) ≡ find test xs
find_left test keep [] left = refl
find_left {A} test keep (x ∷ xs) left = go (test x) refl (keep x) refl (find_left test keep xs left)
  where
    go : (b : Bool) → test x ≡ b → (c : Bool) → keep x ≡ c → find test (filter keep xs) ≡ find test xs
        → find test (cond c (x ∷ filter keep xs) (filter keep xs)) ≡ cond b (Some x) (find test xs)
    go true t true k more = ap (λ (d : Bool). cond d (Some x) (find test (filter keep xs))) t
    go true t false k more = absurd (both_ways (keep x) k (left x t))
    go false t true k more = ap (λ (d : Bool). cond d (Some x) (find test (filter keep xs))) t ∙ more
    go false t false k more = more

-- of those that pass the one test, no more pass the other than pass both
count_both : {A : Type 0} (p q both : A → Bool) (xs : List A) → ((x : A) → both x ≡ (p x && q x)) → count_by q (filter p xs) ≤ count_by both xs
count_both p q both [] same = omega arith
count_both {A} p q both (x ∷ xs) same = go (p x) refl (count_both p q both xs same)
  where
    go : (b : Bool) → p x ≡ b → count_by q (filter p xs) ≤ count_by both xs → count_by q (cond b (x ∷ filter p xs) (filter p xs)) ≤ count_by both (x ∷ xs)
    go true e more =
        let is : one (both x) ≡ one (q x) = ap one (same x ∙ ap (λ (c : Bool). c && q x) e) in
        omega (arith, more, is, count-cons both x xs, count-cons q x (filter p xs))
    go false e more = omega (arith, more, count-cons both x xs)

sides_left : (keep : Side → Bool) (directions : List Direction)
    → sides (filter (λ direction. keep (side_of direction)) directions) ≡ filter keep (sides directions)
sides_left keep [] = refl
sides_left keep (direction ∷ directions) = go (keep (side_of direction)) (sides_left keep directions)
  where
    go : (b : Bool) → sides (filter (λ d. keep (side_of d)) directions) ≡ filter keep (sides directions) → sides
        (cond b (direction ∷ filter (λ d. keep (side_of d)) directions) (filter (λ d. keep (side_of d)) directions)) ≡ cond b
        (side_of direction ∷ filter keep (sides directions)) (filter keep (sides directions))
    go true more = ap (λ (ss : List Side). side_of direction ∷ ss) more
    go false more = more

-- ---- what stands while ends go

pub record Standing (site : Site) (ends : Ends) (w : WorldState) : Type 0 where
  pub joined : (d : Direction) → Has d w.directions → Joins ends d.conn d.from d.to
  pub single : OneOut w.directions
  pub kinds : KindsAgree site w

-- the same sides, and the same nodes
emptied_stands : {site : Site} {ends : Ends} (w : WorldState) (a b : NodeNo) → Standing site ends w → Standing site ends (after_losing_all w a b)
emptied_stands w a b well = record {
  joined = joined_by_sides w.directions (after_losing_all w a b).directions (sides_emptied a b w.directions) well.joined;
  single = one_out_by_sides w.directions (after_losing_all w a b).directions (sides_emptied a b w.directions) well.single;
  kinds = record { fronts = well.kinds.fronts; relays = well.kinds.relays };
}

crashed_stands : {site : Site} {ends : Ends} (w : WorldState) (node : NodeNo) → Standing site ends w → Standing site ends (after_crash w node)
crashed_stands w node well = record {
  joined = λ d h. well.joined d (Has-filter (λ e. not (is_node e.to node)) w.directions h).0;
  single = left_one_out (λ e. not (is_node e.to node)) w.directions well.single;
  kinds = crash_kinds w node well.kinds;
}

-- what comes to a node on one connection comes from one node
inward_from : {ends : Ends} (directions : List Direction) → ((d : Direction) → Has d directions → Joins ends d.conn d.from d.to) → (d other : Direction) → Has d
    directions → Has other directions → is_inward d.to d.conn other ≡ true → other.from ≡ d.from
inward_from {ends} directions joined d other h k e =
    let parts = and_parts (is_node other.to d.to) (is_on d.conn other) e in
    let theirs : Joins ends d.conn other.from other.to = subst (λ (c : ConnId). Joins ends c other.from other.to) (same_conn other.conn d.conn parts.1)
    (joined other k) in
    let here : Joins ends d.conn d.to other.from =
    Joins-turned (subst (λ (n : NodeNo). Joins ends d.conn other.from n) (same_node other.to d.to parts.0) theirs) in
    Joins-same here (Joins-turned (joined d h))

-- the sides once an end has gone
abbrev sides_without : NodeNo → Option Side → List Side → List Side
sides_without node None all = all
sides_without node (Some gone) all = filter (λ side. not (is_node side.2 node && (side.0.0 == gone.0.0))) all

-- a way to another node is found as before
find_without : (from to node : NodeNo) (found : Option Side) (all : List Side) → is_node to node ≡ false
    → find (is_way from to) (sides_without node found all) ≡ find (is_way from to) all
find_without from to node None all other = refl
find_without from to node (Some gone) all other = find_left (is_way from to) (λ side. not (is_node side.2 node && (side.0.0 == gone.0.0))) all
    (λ side e. ap (λ (b : Bool). not (b && (side.0.0 == gone.0.0)))
    (ap (λ (n : NodeNo). is_node n node) (same_node side.2 to (and_parts (is_node side.1 from) (is_node side.2 to) e).1) ∙ other))

-- ---- what the steps leave

-- of two nodes one of which knows a connection with the other
pub cut_two : {site : Site} (ends : Ends) (w : WorldState) → Standing site ends w → (a b : NodeNo) → can_cut w a b ≡ true → is_node a b ≡ false
cut_two {site} ends w well a b can = elim (or_cases (knows w.directions a b) (knows w.directions b a) can) [
  | inl first ↦ nodes_turned b a (two b a (any_found (is_heard b a) w.directions first))
  | inr second ↦ two a b (any_found (is_heard a b) w.directions second)
]
  where
    two : (from to : NodeNo) → ((d : Direction) × (find (is_heard from to) w.directions ≡ Some d)) → is_node from to ≡ false
    two from to found =
        let nodes = direction_nodes from to found.0 (heard_between from to found.0 (found_passes (is_heard from to) w.directions found.0 found.1)) in
        subst (λ (n : NodeNo). is_node from n ≡ false) nodes.1
        (subst (λ (n : NodeNo). is_node n found.0.to ≡ false) nodes.0 (well.joined found.0 (Has-found (is_heard from to) w.directions found.1)).apart)

-- where nothing is in flight between two nodes, what goes elsewhere is
pub emptied_leaves : (site : Site) (w : WorldState) (a b : NodeNo) → can_cut w a b ≡ true → (direction : Direction) → Has direction w.directions → ends_at site
    (Cut a b) w.directions direction ≡ false → Has direction (after_losing_all w a b).directions
emptied_leaves site w a b can direction h stands =
    let neither : (goes a b direction || goes b a direction) ≡ false = ap (λ (c : Bool). c && (goes a b direction || goes b a direction)) (sym can) ∙ stands in
    subst (λ (d : Direction). Has d (after_losing_all w a b).directions) (ap (λ (c : Bool). cond c (record direction { messages = [] }) direction) neither)
    (Has-map (emptied a b) h)

-- no more are unheard than go
pub unheard_once : (directions : List Direction) → AreApart (sides directions) → (from to : NodeNo) → count_by (is_unheard from to) directions ≤ 1
unheard_once directions apart from to =
    let less = fewer (is_unheard from to) (goes from to) directions (λ d h e. (and_parts (goes from to d) (not d.known) e).0) in
    let most = goes_once directions apart from to in
    omega (arith, less, most)

-- of a new connection the node that has opened it does not know yet
pub opens_next : (w : WorldState) (a b : NodeNo) → is_connected w.directions a b ≡ false → find (is_unheard b a) (with_new_connection w a b).directions ≡ Some
    (empty_direction (next_conn w) b a false)
opens_next w a b free =
    let first : Direction = empty_direction (next_conn w) a b true in
    let second : Direction = empty_direction (next_conn w) b a false in
    let none : (d : Direction) → Has d w.directions → is_unheard b a d ≡ false = λ d h. ap (λ (c : Bool). c && not d.known)
    (false_from_ne_true (is_between b a d) (λ e. both_ways (list_any (is_between b a) w.directions)
    (or_parts (list_any (is_between a b) w.directions) (list_any (is_between b a) w.directions) free).1 (any_has (is_between b a) h e))) in
    find_behind (is_unheard b a) w.directions (first ∷ second ∷ []) (find_none (is_unheard b a) w.directions none)
    ∙ ap (λ (c : Bool). cond c (Some first) (find (is_unheard b a) (second ∷ []))) (and-false (is_node a b && is_node b a))
    ∙ ap (λ (c : Bool). cond c (Some second) None)
    (and_from (is_node b b && is_node a a) true (and_from (is_node b b) (is_node a a) (node_itself b) (node_itself a)) refl)

-- ---- a node, while ends go

-- What it does at each event, where its directions of these sides stand on.
pub record TakesTurns (site : Site) (k : NodeNo) (Stands : Side → Type 0) (Turned : List RelayEvent → WorldState → WorldState → Type 0) : Type 0 where
  pub same : (w : WorldState) → Turned [] w w
  pub more : (xs ys : List RelayEvent) (one two three : WorldState) → Turned xs one two → Turned ys two three → Turned (xs ++ ys) one three
  pub goes : (w : WorldState) (node : NodeNo) (conn : ConnId) →
      ((d : Direction) → Has d w.directions → Stands (side_of d) → is_inward node conn d ≡ false) → Turned [] w (after_end w node conn)
  pub learns : (w next : WorldState) (loss : Loss) (losses : List LossAt) → OneOut w.directions → KindsAgree site w → LearnLosses (loss ∷ []) w losses next →
      Turned (learned_by k (loss ∷ [])) w next

-- what it learns where the peers of a node drop their connections with it, one after the other
abbrev told_by : NodeNo → NodeNo → List NodeNo → List Side → List RelayEvent
told_by k node peers all = cond (list_any (λ peer. is_node peer k) peers) (end_events k k (find (is_way node k) all)) []

-- the first of them, and the others
told_first : (k node peer : NodeNo) (peers : List NodeNo) (all after : List Side) → after ≡ sides_without peer (find (is_way node peer) all) all → count_by
    (λ p. is_node p k) (peer ∷ peers) ≤ 1
    → end_events k peer (find (is_way node peer) all) ++ told_by k node peers after ≡ told_by k node (peer ∷ peers) all
told_first k node peer peers all after is most = go (is_node peer k) refl
  where
    go : (b : Bool) → is_node peer k ≡ b → end_events k peer (find (is_way node peer) all) ++ told_by k node peers after ≡ cond
        (b || list_any (λ p. is_node p k) peers) (end_events k k (find (is_way node k) all)) []
    go true e =
        let this : one (is_node peer k) ≡ 1 = ap one e in
        let none : count_by (λ (p : NodeNo). is_node p k) peers ≡ 0 = omega (arith, most, this, count-cons (λ (p : NodeNo). is_node p k) peer peers) in
        let no_other = any_none (λ (p : NodeNo). is_node p k) peers (λ p h. does_not_pass (λ (q : NodeNo). is_node q k) peers none h) in
        ap (λ (n : NodeNo). end_events k n (find (is_way node n) all) ++ told_by k node peers after) (same_node peer k e)
        ∙ ap (λ (c : Bool). end_events k k (find (is_way node k) all) ++ cond c (end_events k k (find (is_way node k) after)) []) no_other
        ∙ append-nil (end_events k k (find (is_way node k) all))
    go false e =
        let same : find (is_way node k) after ≡ find (is_way node k) all = ap (find (is_way node k)) is
        ∙ find_without node k peer (find (is_way node peer) all) all (nodes_turned peer k e) in
        ap (λ (es : List RelayEvent). es ++ told_by k node peers after) (no_end_events k peer (find (is_way node peer) all) e)
        ∙ ap (λ (o : Option Side). cond (list_any (λ (p : NodeNo). is_node p k) peers) (end_events k k o) []) same

module _ {site : Site} (ends : Ends) (k : NodeNo) (Stands : Side → Type 0) (Turned : List RelayEvent → WorldState → WorldState → Type 0)
    (turns : TakesTurns site k Stands Turned) where
  -- ---- one end

  end_turns : (w next : WorldState) (node : NodeNo) (found : Option Direction) (losses : List LossAt)
      → ((d : Direction) → found ≡ Some d → (other : Direction) → Has other w.directions → Stands (side_of other)
      → is_inward node d.conn other ≡ false) → EndGoes w node found losses next → Standing site ends w
      → Turned (end_events k node (option_map side_of found)) w next × Standing site ends next ×
      (sides next.directions ≡ sides_without node (option_map side_of found) (sides w.directions))
  end_turns w next node None losses away made well = (
    subst (Turned [] w) (sym made.1) (turns.same w),
    subst (Standing site ends) (sym made.1) well,
    ap (λ (v : WorldState). sides v.directions) made.1,
  )
  end_turns w next node (Some d) losses away made well = go d.known made
    where
      gone : Turned [] w (after_end w node d.conn)
      gone = turns.goes w node d.conn (away d refl)

      left : Standing site ends (after_end w node d.conn)
      left = record {
        joined = λ e h. well.joined e (Has-filter (λ f. not (is_inward node d.conn f)) w.directions h).0;
        single = left_one_out (λ f. not (is_inward node d.conn f)) w.directions well.single;
        kinds = record { fronts = well.kinds.fronts; relays = well.kinds.relays };
      }

      left_sides : sides (after_end w node d.conn).directions ≡ sides_without node (Some (side_of d)) (sides w.directions)
      left_sides = sides_left (λ side. not (is_node side.2 node && (side.0.0 == d.conn.0))) w.directions

      go : (b : Bool) → MatchBool b (LearnLosses (record { node = node; conn = d.conn } ∷ []) (after_end w node d.conn) losses next)
          ((losses ≡ []) × (next ≡ after_end w node d.conn))
          → Turned (event_if (b && is_node node k) (Lost d.conn)) w next × Standing site ends next ×
          (sides next.directions ≡ sides_without node (Some (side_of d)) (sides w.directions))
      go true learn =
          let loss : Loss = record { node = node; conn = d.conn } in
          let on = (losses_go_on (λ side. true) (λ l h side e. refl) learn).directions.same in (
            subst (λ (es : List RelayEvent). Turned es w next) (append-nil (event_if (is_node node k) (Lost d.conn)))
                (turns.more [] (learned_by k (loss ∷ [])) w (after_end w node d.conn) next gone
                (turns.learns (after_end w node d.conn) next loss losses left.single left.kinds learn)),
            record {
              joined = joined_by_sides (after_end w node d.conn).directions next.directions on left.joined;
              single = one_out_by_sides (after_end w node d.conn).directions next.directions on left.single;
              kinds = learned_kinds learn left.kinds;
            },
            on ∙ left_sides,
          )
      go false idle = (
        subst (Turned [] w) (sym idle.1) gone,
        subst (Standing site ends) (sym idle.1) left,
        ap (λ (v : WorldState). sides v.directions) idle.1 ∙ left_sides,
      )

  -- the end of a node with another one, from which nothing stands on to it
  abbrev HasTurned : WorldState → WorldState → NodeNo → Option Side → Type 0
  HasTurned w next a found = Turned (end_events k a found) w next × Standing site ends next ×
      (sides next.directions ≡ sides_without a found (sides w.directions))

  pub drop_turns : (w next : WorldState) (a b : NodeNo) (losses : List LossAt) → ((side : Side) → Stands side → is_way b a side ≡ false) → EndGoes w a
      (end_with w.directions a b) losses next → Standing site ends w → HasTurned w next a (find (is_way b a) (sides w.directions))
  drop_turns w next a b losses away made well = subst (HasTurned w next a) (sym (found_side b a w.directions))
      (end_turns w next a (end_with w.directions a b) losses none_comes made well)
    where
      none_comes : (d : Direction) → end_with w.directions a b ≡ Some d → (other : Direction) → Has other w.directions → Stands (side_of other) → is_inward a
          d.conn other ≡ false
      none_comes d f other h stands = false_from_ne_true (is_inward a d.conn other) (λ e.
          let nodes = direction_nodes b a d (found_passes (is_between b a) w.directions d f) in
          let from_is = inward_from w.directions well.joined d other (Has-found (is_between b a) w.directions f) h
          (subst (λ (n : NodeNo). is_inward n d.conn other ≡ true) (sym nodes.1) e) in
          both_ways (is_way b a (side_of other)) (away (side_of other) stands)
          (and_from (is_node other.from b) (is_node other.to a) (is_same_node other.from b (from_is ∙ nodes.0))
          (and_parts (is_node other.to a) (is_on d.conn other) e).0))

  -- ---- both ends, once nothing is in flight

  pub cut_turns : (w next : WorldState) (a b : NodeNo) (losses : List LossAt) → is_node a b ≡ false → ((side : Side) → Stands side → is_way b a side ≡ false) →
      ((side : Side) → Stands side → is_way a b side ≡ false) → CutsBoth w a b losses next → Standing site ends w
      → Turned (end_events k a (find (is_way b a) (sides w.directions)) ++ end_events k b (find (is_way a b) (sides w.directions)))
      (after_losing_all w a b) next
  cut_turns w next a b losses two away_back away_forth cut well =
      let none = after_losing_all w a b in
      let same = sides_emptied a b w.directions in
      let one = drop_turns none cut.middle a b cut.first away_back cut.one (emptied_stands w a b well) in
      let other = drop_turns cut.middle next b a cut.second away_forth cut.other one.1 in
      let still : find (is_way a b) (sides cut.middle.directions) ≡ find (is_way a b) (sides w.directions) = ap (find (is_way a b)) one.2
      ∙ find_without a b a (find (is_way b a) (sides none.directions)) (sides none.directions) (nodes_turned a b two) ∙ ap (find (is_way a b)) same in
      subst (λ (o : Option Side). Turned (end_events k a (find (is_way b a) (sides w.directions)) ++ end_events k b o) none next) still
      (subst (λ (ss : List Side). Turned (end_events k a (find (is_way b a) ss) ++ end_events k b (find (is_way a b) (sides cut.middle.directions)))
      none next) same
      (turns.more (end_events k a (find (is_way b a) (sides none.directions)))
      (end_events k b (find (is_way a b) (sides cut.middle.directions))) none cut.middle
      next one.0 other.0))

  -- ---- the peers of a node drop their connections with it

  all_drop_turns : {node : NodeNo} {peers : List NodeNo} {w last : WorldState} {losses : List LossAt} → DropAll node peers w losses last →
      ((peer : NodeNo) (side : Side) → Stands side → is_way node peer side ≡ false) → count_by (λ p. is_node p k) peers ≤ 1 → Standing site ends w → Turned
      (told_by k node peers (sides w.directions)) w last
  all_drop_turns (all_dropped {w = w}) away most well = turns.same w
  all_drop_turns {node} (drops_too {peer = peer} {peers = peers} {w = w} {next = mid} {last = last} now later is one_drops more) away most well =
      let first = drop_turns w mid peer node now (away peer) one_drops well in
      let fewer : count_by (λ (p : NodeNo). is_node p k) peers ≤ 1 = omega (arith, most, count-cons (λ (p : NodeNo). is_node p k) peer peers) in
      let rest = all_drop_turns more away fewer first.1 in
      subst (λ (es : List RelayEvent). Turned es w last) (told_first k node peer peers (sides w.directions) (sides mid.directions) first.2 most)
      (turns.more (end_events k peer (find (is_way node peer) (sides w.directions))) (told_by k node peers (sides mid.directions)) w mid last first.0 rest)

  -- what the peers were told before they began to
  module _ (w : WorldState) (apart : AreApart (sides w.directions)) (well : Standing site ends w) (node : NodeNo) where
    abbrev from_it : Direction → Bool
    from_it direction = is_node direction.from node

    abbrev left_sides : List Side
    left_sides = sides (after_crash w node).directions

    once_each : count_by (λ p. is_node p k) (peers_of node w.directions) ≤ 1
    once_each =
        let most = goes_once w.directions apart node k in
        let both = count_both from_it (λ direction. is_node direction.to k) (goes node k) w.directions (λ direction. refl) in
        let mapped = count-map (λ (p : NodeNo). is_node p k) (λ (direction : Direction). direction.to) (filter from_it w.directions) in
        omega (arith, most, both, mapped)

    peer_is : (direction : Direction) → Has direction w.directions → from_it direction ≡ true
        → list_any (λ p. is_node p direction.to) (peers_of node w.directions) ≡ true
    peer_is direction h e = any_has (λ (p : NodeNo). is_node p direction.to)
        (Has-map (λ (d : Direction). d.to) (Has-kept from_it h e)) (node_itself direction.to)

    -- itself it is told nothing
    itself : is_node node k ≡ true → told_by k node (peers_of node w.directions) left_sides ≡ []
    itself is = ap (λ (c : Bool). cond c (end_events k k (find (is_way node k) left_sides)) [])
        (any_none (λ (p : NodeNo). is_node p k) (peers_of node w.directions) (λ p h.
        let un = Has-unmap (λ (d : Direction). d.to) (filter from_it w.directions) h in
        let was = Has-filter from_it w.directions un.1 in
        false_from_ne_true (is_node p k) (λ e. both_ways (is_node un.0.from un.0.to) (well.joined un.0 was.0).apart
        (is_same_node un.0.from un.0.to (same_node un.0.from node was.1 ∙ same_node node k is ∙ sym (same_node p k e) ∙ sym un.2)))))

    -- and another node of its end
    another : is_node node k ≡ false → told_by k node (peers_of node w.directions) left_sides ≡ end_events k k (find (is_way node k) (sides w.directions))
    another other = ap (λ (o : Option Side). cond (list_any (λ (p : NodeNo). is_node p k) (peers_of node w.directions)) (end_events k k o) []) still ∙ go
        (list_any (λ (p : NodeNo). is_node p k) (peers_of node w.directions)) refl
      where
        still : find (is_way node k) left_sides ≡ find (is_way node k) (sides w.directions)
        still = ap (find (is_way node k)) (sides_left (λ side. not (is_node side.2 node)) w.directions) ∙ find_left (is_way node k)
            (λ side. not (is_node side.2 node)) (sides w.directions)
            (λ side e. ap not (ap (λ (n : NodeNo). is_node n node) (same_node side.2 k (and_parts (is_node side.1 node) (is_node side.2 k) e).1) ∙
            nodes_turned node k other))

        none_goes : list_any (λ (p : NodeNo). is_node p k) (peers_of node w.directions) ≡ false → (found : Option Direction) → find (goes node k) w.directions ≡
            found → [] ≡ end_events k k (option_map side_of found)
        none_goes none None f = refl
        none_goes none (Some d) f =
            let nodes = direction_nodes node k d (found_passes (goes node k) w.directions d f) in
            absurd (both_ways (list_any (λ (p : NodeNo). is_node p k) (peers_of node w.directions)) none
            (ap (λ (n : NodeNo). list_any (λ (p : NodeNo). is_node p n) (peers_of node w.directions)) (sym nodes.1)
            ∙ peer_is d (Has-found (goes node k) w.directions f) (is_same_node d.from node nodes.0)))

        go : (b : Bool) → list_any (λ (p : NodeNo). is_node p k) (peers_of node w.directions) ≡ b → cond b
            (end_events k k (find (is_way node k) (sides w.directions))) [] ≡ end_events k k (find (is_way node k) (sides w.directions))
        go true e = refl
        go false e = none_goes e (find (goes node k) w.directions) refl ∙ ap (end_events k k) (sym (found_side node k w.directions))

    -- the node itself has begun anew, and the others learn of it
    pub drop_all_turns : (last : WorldState) (losses : List LossAt) (events : List RelayEvent) →
        ((side : Side) → Stands side → is_node side.1 node ≡ false) → (is_node node k ≡ true → events ≡ []) →
        (is_node node k ≡ false → events ≡ end_events k k (find (is_way node k) (sides w.directions)))
        → DropAll node (peers_of node w.directions) (after_crash w node) losses last → Turned events (after_crash w node) last
    drop_all_turns last losses events away at_itself at_another drops = subst (λ (es : List RelayEvent). Turned es (after_crash w node) last)
        (go (is_node node k) refl)
        (all_drop_turns drops (λ peer side stands. ap (λ (b : Bool). b && is_node side.2 peer) (away side stands)) once_each (crashed_stands w node well))
      where
        go : (b : Bool) → is_node node k ≡ b → told_by k node (peers_of node w.directions) left_sides ≡ events
        go true e = itself e ∙ sym (at_itself e)
        go false e = another e ∙ sym (at_another e)
