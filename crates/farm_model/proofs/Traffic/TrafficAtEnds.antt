-- Where connections end, nothing comes any more to a node that drops one, and all else stays in flight.
use Rattle.std.proofs.Common.{◌≡◌, Bool, true, false, cond, not, List, [], ◌∷◌, ◌++◌, map, Option, Some, None, inl, inr, refl, sym, subst, ap, ◌∙◌}
use Rattle.std.proofs.Common.{append_assoc, eq-eqb}
use Rattle.std.specs.Prelude.{◌&&◌, ◌||◌, ◌==◌, MatchBool}
use Rattle.std.specs.List.{find, list_any}
use Rattle.std.proofs.lemmas.Bool.{and_parts, and_from, or_cases, or_parts, or_from, or_left, or_right, both_ways, not-true, false_from_ne_true}
use Rattle.std.proofs.Math.Bool.{or_comm}
use Rattle.dia_base.proofs.Finding.{found_passes}
use Rattle.dia_base.specs.declared.number.ConnId.{ConnId}
use Rattle.dia_base.specs.declared.number.NodeNo.{NodeNo}
use Rattle.dia_message.specs.declared.message.Message.{Message}
use Rattle.farm_law.specs.Lists.{Has}
use Rattle.farm_base.specs.declared.site.Site.{Site}
use Rattle.farm_model.specs.declared.state.Direction.{Direction}
use Rattle.farm_base.specs.declared.step.Step.{Step}
use Rattle.farm_base.specs.declared.step.Step.TheVariants.{Cut, Drop, Restart}
use Rattle.farm_model.specs.FarmStep.{DropsIt, Cuts, can_cut, Restarts, can_restart}
use Rattle.farm_model.specs.InFlight.{goes, ends_at, grows_at, known_after, left_by, sent_at, received_at}
use Rattle.farm_model.specs.Loss.{Loss, LossAt, LearnLosses, EndGoes, Drops, CutsBoth, DropAll, all_dropped}
use Rattle.farm_model.specs.Loss.{drops_too, after_end, after_losing_all, after_crash, peers_of, end_with}
use Rattle.farm_base.specs.Nodes.{is_node}
use Rattle.farm_model.specs.World.{Ends, WorldState, is_between, is_on, is_inward, emptied}
use Rattle.farm_model.proofs.Lists.Agreeing.{same_test}
use Rattle.farm_model.proofs.Lists.Among.{Has-cons, Has-filter, Has-kept, Has-map}
use Rattle.farm_model.proofs.Lists.Finding.{Has-found, not_found, any_found, any_has}
use Rattle.farm_model.proofs.Lists.Numbering.{same_node, same_conn, is_same_node, node_itself}
use Rattle.farm_model.proofs.Wiring.Apart.{the_one, is_way, AreApart, goes_once}
use Rattle.farm_model.proofs.Wiring.ApartAfterStep.{apart_without}
use Rattle.farm_model.proofs.Wiring.Joined.{Joins-turned, Joins-same}
use Rattle.farm_model.proofs.Wiring.KnowsAfterStep.{sides_emptied}
use Rattle.farm_model.proofs.Wiring.KnowsAfterUp.{same_one}
use Rattle.farm_model.proofs.Wiring.Sides.{Side, side_of, sides, DirectionOf, direction_of, side_was, old_side}
use Rattle.farm_model.proofs.Wiring.StandingOn.{StandsWith, stands_as, MaySend, GoesOn, same_goes_on, losses_go_on}
use Rattle.farm_model.proofs.Traffic.TrafficOfSteps.{Carries, stood, nothing_more}
use Rattle.farm_model.proofs.Wiring.Wired.{Joins, IsWired}
use Rattle.farm_model.proofs.Wiring.WorldLemmas.{direction_nodes}

-- each direction is between the two nodes of its connection
abbrev JoinsEach : Ends → List Direction → Type 0
JoinsEach ends directions = (side : Side) → Has side (sides directions) → Joins ends side.0 side.1 side.2

wired_joins : {site : Site} {ends : Ends} {w : WorldState} → IsWired site ends w → JoinsEach ends w.directions
wired_joins {ends = ends} {w = w} wired side h =
    let of = direction_of w.directions side h in
    subst (λ (s : Side). Joins ends s.0 s.1 s.2) of.side_is (wired.directions of.direction of.among).joins

module _ (grows : Side → Bool) where
  -- Each direction stands on, where there may be more behind, but for those of the sides that go. No other comes to stand.
  pub record EndsGo (goes_then : Side → Bool) (old new : WorldState) : Type 0 where
    pub stands : (direction : Direction) → Has direction old.directions → goes_then (side_of direction) ≡ false → StandsWith grows new.directions direction
        direction.messages
    pub was : (direction : Direction) → Has direction new.directions → Has (side_of direction) (sides old.directions)
    pub is_left : (direction : Direction) → Has direction new.directions → goes_then (side_of direction) ≡ false
    pub apart : AreApart (sides old.directions) → AreApart (sides new.directions)
    pub sent : new.sent ≡ old.sent
    pub received : new.received ≡ old.received

  none_goes : (w : WorldState) → EndsGo (λ side. false) w w
  none_goes w = record {
    stands = λ direction h e. stands_as grows direction direction.messages h;
    was = λ direction h. Has-map side_of h;
    is_left = λ direction h. refl;
    apart = λ apart. apart;
    sent = refl;
    received = refl;
  }

  still_joins : {ends : Ends} {goes_then : Side → Bool} {old new : WorldState} → EndsGo goes_then old new → JoinsEach ends old.directions → JoinsEach ends
      new.directions
  still_joins {ends} {new = new} made joins side h =
      let of = direction_of new.directions side h in
      subst (λ (s : Side). Joins ends s.0 s.1 s.2) of.side_is (joins (side_of of.direction) (made.was of.direction of.among))

  -- some go, and then others
  go_longer : {some more : Side → Bool} {old middle new : WorldState} → EndsGo some old middle → EndsGo more middle new → EndsGo
      (λ side. some side || more side) old new
  go_longer {some} {more} {old} {middle} {new} first second = record {
    stands = λ direction h e.
        let parts = or_parts (some (side_of direction)) (more (side_of direction)) e in
        let one = first.stands direction h parts.0 in
        let other = second.stands (record direction { messages = direction.messages ++ one.0 }) one.2 parts.1 in (
          one.0 ++ other.0,
          λ still. ap (λ (ms : List Message). ms ++ other.0) (one.1 still) ∙ other.1 still,
          subst (λ (ms : List Message). Has (record direction { messages = ms }) new.directions) (append_assoc direction.messages one.0 other.0) other.2,
        );
    was = λ direction h.
        let of = direction_of middle.directions (side_of direction) (second.was direction h) in
        subst (λ (s : Side). Has s (sides old.directions)) of.side_is (first.was of.direction of.among);
    is_left = λ direction h.
        let of = direction_of middle.directions (side_of direction) (second.was direction h) in
        or_from (some (side_of direction)) (more (side_of direction)) (ap some (sym of.side_is) ∙ first.is_left of.direction of.among)
        (second.is_left direction h);
    apart = λ apart. second.apart (first.apart apart);
    sent = second.sent ∙ first.sent;
    received = second.received ∙ first.received;
  }

  -- ---- one end

  module _ (ends : Ends) (w next : WorldState) (a b : NodeNo) (losses : List LossAt)
      (joins : JoinsEach ends w.directions) (apart : AreApart (sides w.directions)) (may : MaySend grows a) where
    no_end : find (is_between b a) w.directions ≡ None → next ≡ w → EndsGo (is_way b a) w next
    no_end f same = subst (EndsGo (is_way b a) w) (sym same) (record {
      stands = λ direction h e. stands_as grows direction direction.messages h;
      was = λ direction h. Has-map side_of h;
      is_left = λ direction h. not_found (is_between b a) f h;
      apart = λ apart. apart;
      sent = refl;
      received = refl;
    })

    module _ (first : Direction) (found : find (is_between b a) w.directions ≡ Some first) where
      abbrev keeps : Direction → Bool
      keeps direction = not (is_inward a first.conn direction)

      its_nodes : (first.from ≡ b) × (first.to ≡ a)
      its_nodes = direction_nodes b a first (found_passes (is_between b a) w.directions first found)

      its_ends : Joins ends first.conn a b
      its_ends = Joins-turned (subst (λ (n : NodeNo). Joins ends first.conn b n) its_nodes.1
          (subst (λ (n : NodeNo). Joins ends first.conn n first.to) its_nodes.0
          (joins (side_of first) (Has-map side_of (Has-found (is_between b a) w.directions found)))))

      is_inward_itself : is_inward a first.conn first ≡ true
      is_inward_itself = and_from (is_node first.to a) (is_on first.conn first) (is_same_node first.to a its_nodes.1) (eq-eqb first.conn.0 first.conn.0 refl)

      -- what comes to the node on the connection is of the other one
      inward_between : (direction : Direction) → Has direction w.directions → is_inward a first.conn direction ≡ true → is_between b a direction ≡ true
      inward_between direction h e =
          let parts = and_parts (is_node direction.to a) (is_on first.conn direction) e in
          let joined : Joins ends first.conn direction.from a = subst (λ (n : NodeNo). Joins ends first.conn direction.from n)
          (same_node direction.to a parts.0) (subst (λ (c : ConnId). Joins ends c direction.from direction.to) (same_conn direction.conn first.conn parts.1)
          (joins (side_of direction) (Has-map side_of h))) in
          and_from (is_node direction.from b) (is_node direction.to a) (is_same_node direction.from b (Joins-same (Joins-turned joined) its_ends)) parts.0

      one_goes : GoesOn grows (after_end w a first.conn) next → EndsGo (is_way b a) w next
      one_goes on = record {
        stands = λ direction h e.
            let off = false_from_ne_true (is_inward a first.conn direction) (λ is. both_ways (is_between b a direction) e (inward_between direction h is)) in
            on.directions.stands direction (Has-kept keeps h (ap not off));
        was = λ direction h. old_side w.directions (side_of direction) (stood_left direction h).0;
        is_left = λ direction h. false_from_ne_true (is_way b a (side_of direction)) (λ e.
            let of = stood_left direction h in
            let is = the_one (is_between b a) first w.directions (goes_once w.directions apart b a) found of.0.among (ap (is_way b a) of.0.side_is ∙ e) in
            both_ways (is_inward a first.conn of.0.direction) (not-true (is_inward a first.conn of.0.direction) of.1)
            (ap (is_inward a first.conn) is ∙ is_inward_itself));
        apart = λ apart. subst AreApart (sym on.directions.same) (apart_without keeps w.directions apart);
        sent = on.sent;
        received = on.received;
      }
        where
          stood_left : (direction : Direction) → Has direction next.directions → (of : DirectionOf w.directions (side_of direction)) ×
              (keeps of.direction ≡ true)
          stood_left direction h = side_was keeps w.directions (side_of direction) (subst (Has (side_of direction)) on.directions.same (Has-map side_of h))

      may_send : (loss : Loss) → Has loss (record { node = a; conn = first.conn } ∷ []) → MaySend grows loss.node
      may_send loss h = elim (Has-cons h) [ inl is ↦ subst (λ (l : Loss). MaySend grows l.node) (sym is) may | inr none ↦ elim none [ ] ]

      goes_on : (known : Bool) → MatchBool known (LearnLosses (record { node = a; conn = first.conn } ∷ []) (after_end w a first.conn) losses next)
          ((losses ≡ []) × (next ≡ after_end w a first.conn)) → GoesOn grows (after_end w a first.conn) next
      goes_on true learn = losses_go_on grows may_send learn
      goes_on false idle = same_goes_on grows (after_end w a first.conn) next idle.1

    end_if : (found : Option Direction) → find (is_between b a) w.directions ≡ found → EndGoes w a found losses next → EndsGo (is_way b a) w next
    end_if None f made = no_end f made.1
    end_if (Some first) f made = one_goes first f (goes_on first f first.known made)

    end_goes : Drops w a b losses next → EndsGo (is_way b a) w next
    end_goes made = end_if (end_with w.directions a b) refl made

  -- ---- the ends of a row of peers

  abbrev goes_to : NodeNo → List NodeNo → Side → Bool
  goes_to node peers side = list_any (λ peer. is_way node peer side) peers

  all_go : (ends : Ends) → ((node : NodeNo) → MaySend grows node) → {node : NodeNo} {peers : List NodeNo} {w last : WorldState} {losses : List LossAt} →
      JoinsEach ends w.directions → AreApart (sides w.directions) → DropAll node peers w losses last → EndsGo (goes_to node peers) w last
  all_go ends may joins apart (all_dropped {w = w}) = none_goes w
  all_go ends may {node} joins apart (drops_too {peer = peer} {w = w} {next = middle} now later is one more) =
      let first = end_goes ends w middle peer node now joins apart (may peer) one in
      go_longer first (all_go ends may (still_joins first joins) (first.apart apart) more)

-- ---- what that carries

module _ (site : Site) (ends : Ends) (old new : WorldState) (wired : IsWired site ends old) (apart : AreApart (sides old.directions)) (grows : Side → Bool)
    (goes_then : Side → Bool) (made : EndsGo grows goes_then old new) where
  -- on one that goes nothing comes to its node any more
  gone_with : (direction other : Direction) → Has direction old.directions → goes_then (side_of direction) ≡ true → Has other new.directions →
      (other.conn.0 == direction.conn.0 && is_node other.to direction.to) ≡ false
  gone_with direction other h e k = false_from_ne_true (other.conn.0 == direction.conn.0 && is_node other.to direction.to) (λ same.
      let parts = and_parts (other.conn.0 == direction.conn.0) (is_node other.to direction.to) same in
      let of = direction_of old.directions (side_of other) (made.was other k) in
      let conn_is : of.direction.conn ≡ direction.conn = ap (λ (s : Side). s.0) of.side_is ∙ same_conn other.conn direction.conn parts.0 in
      let to_is : of.direction.to ≡ direction.to = ap (λ (s : Side). s.2) of.side_is ∙ same_node other.to direction.to parts.1 in
      let joined : Joins ends direction.conn of.direction.from direction.to = subst (λ (n : NodeNo). Joins ends direction.conn of.direction.from n) to_is
      (subst (λ (c : ConnId). Joins ends c of.direction.from of.direction.to) conn_is (wired.directions of.direction of.among).joins) in
      let from_is : of.direction.from ≡ direction.from = Joins-same (Joins-turned joined) (Joins-turned (wired.directions direction h).joins) in
      let is : of.direction ≡ direction = same_one (goes direction.from direction.to) old.directions
      (goes_once old.directions apart direction.from direction.to) of.among h
      (and_from (is_node of.direction.from direction.from) (is_node of.direction.to direction.to) (is_same_node of.direction.from direction.from from_is)
      (is_same_node of.direction.to direction.to to_is))
      (and_from (is_node direction.from direction.from) (is_node direction.to direction.to) (node_itself direction.from) (node_itself direction.to)) in
      both_ways (goes_then (side_of other)) (made.is_left other k) (ap goes_then (sym of.side_is ∙ ap side_of is) ∙ e))

  ends_carry : (step : Step) → ((direction : Direction) → left_by step direction ≡ direction.messages)
      → ((direction : Direction) → grows_at step direction ≡ grows (side_of direction))
      → ((direction : Direction) → known_after step direction ≡ direction.known)
      → sent_at site step old.directions ≡ [] → received_at site step old.directions ≡ []
      → ((direction : Direction) → Has direction old.directions → ends_at site step old.directions direction ≡ goes_then (side_of direction))
      → Carries site step old new
  ends_carry step leaves may_grow knows silent unheard ends_as = record {
    in_flight = λ direction h e.
        let stands = made.stands direction h (sym (ends_as direction h) ∙ e) in (
          stands.0,
          λ still. stands.1 (sym (may_grow direction) ∙ still),
          subst (λ (k : Bool). Has (record direction { known = k; messages = left_by step direction ++ stands.0 }) new.directions) (sym (knows direction))
              (subst (λ (ms : List Message). Has (record direction { messages = ms ++ stands.0 }) new.directions) (sym (leaves direction)) stands.2),
        );
    begun = λ direction h none. absurd (stood old.directions direction (made.was direction h) none);
    ended = λ direction other h e k. gone_with direction other h (sym (ends_as direction h) ∙ e) k;
    apart = made.apart apart;
    sent = nothing_more made.sent ∙ ap (λ items. old.sent ++ items) (sym silent);
    received = nothing_more made.received ∙ ap (λ items. old.received ++ items) (sym unheard);
  }

-- where nothing ends, all stays
module _ (site : Site) (ends : Ends) (old new : WorldState) (wired : IsWired site ends old)
    (apart : AreApart (sides old.directions)) (grows : Side → Bool) where
  same_goes : new ≡ old → EndsGo grows (λ side. false) old new
  same_goes same = subst (EndsGo grows (λ side. false) old) (sym same) (none_goes grows old)

-- ---- a drop

pub drop_carries : (site : Site) (ends : Ends) (old new : WorldState) (applied : Bool) (losses : List LossAt) → IsWired site ends old → AreApart
    (sides old.directions) → (a b : NodeNo) → DropsIt old a (end_with old.directions a b) applied losses new → Carries site (Drop a b) old new
drop_carries site ends old new applied losses wired apart a b made =
    let grows = λ (side : Side). is_node side.1 a in
    ends_carry site ends old new wired apart grows (is_way b a) (end_goes grows ends old new a b losses (wired_joins wired) apart (λ side e. e) made.1)
    (Drop a b) (λ direction. refl) (λ direction. refl) (λ direction. refl) refl refl (λ direction h. refl)

-- ---- a cut

module _ (site : Site) (ends : Ends) (old new : WorldState) (losses : List LossAt) (wired : IsWired site ends old) (apart : AreApart (sides old.directions))
    (a b : NodeNo) where
  abbrev either : Side → Bool
  either side = is_node side.1 a || is_node side.1 b

  abbrev both_ways_go : Side → Bool
  both_ways_go side = is_way b a side || is_way a b side

  abbrev emptied_world : WorldState
  emptied_world = after_losing_all old a b

  -- what is lost first was on the connection
  lost_first : EndsGo either both_ways_go emptied_world new → EndsGo either both_ways_go old new
  lost_first made = record {
    stands = λ direction h e.
        let parts = or_parts (goes b a direction) (goes a b direction) e in
        let other : emptied a b direction ≡ direction = ap (λ (c : Bool). cond c (record direction { messages = [] }) direction)
        (or_from (is_between a b direction) (is_between b a direction) parts.1 parts.0) in
        made.stands direction (subst (λ (d : Direction). Has d (map (emptied a b) old.directions)) other (Has-map (emptied a b) h)) e;
    was = λ direction h. subst (Has (side_of direction)) (sides_emptied a b old.directions) (made.was direction h);
    is_left = made.is_left;
    apart = λ apart. made.apart (subst AreApart (sym (sides_emptied a b old.directions)) apart);
    sent = made.sent;
    received = made.received;
  }

  both_go : CutsBoth old a b losses new → EndsGo either both_ways_go old new
  both_go cut =
      let joins : JoinsEach ends emptied_world.directions = λ side h. wired_joins wired side (subst (Has side) (sides_emptied a b old.directions) h) in
      let apart_still = subst AreApart (sym (sides_emptied a b old.directions)) apart in
      let one = end_goes either ends emptied_world cut.middle a b cut.first joins apart_still
      (λ side e. or_left (is_node side.1 a) (is_node side.1 b) e) cut.one in
      let other = end_goes either ends cut.middle new b a cut.second (still_joins either one joins) (one.apart apart_still)
      (λ side e. or_right (is_node side.1 a) (is_node side.1 b) e) cut.other in
      lost_first (go_longer either one other)

  pub cut_carries : (applied : Bool) → Cuts old a b applied losses new → Carries site (Cut a b) old new
  cut_carries applied made = go (can_cut old a b) refl made
    where
      go : (can : Bool) → can_cut old a b ≡ can → MatchBool can ((applied ≡ true) × CutsBoth old a b losses new)
          ((applied ≡ false) × (losses ≡ []) × (new ≡ old)) → Carries site (Cut a b) old new
      go true can made = ends_carry site ends old new wired apart either both_ways_go (both_go made.1) (Cut a b) (λ direction. refl) (λ direction. refl)
          (λ direction. refl) refl refl
          (λ direction h. ap (λ (c : Bool). c && (goes a b direction || goes b a direction)) can ∙ or_comm (goes a b direction) (goes b a direction))
      go false can made = ends_carry site ends old new wired apart either (λ side. false) (same_goes site ends old new wired apart either made.2) (Cut a b)
          (λ direction. refl) (λ direction. refl) (λ direction. refl) refl refl
          (λ direction h. ap (λ (c : Bool). c && (goes a b direction || goes b a direction)) can)

-- ---- a restart

module _ (site : Site) (ends : Ends) (old new : WorldState) (losses : List LossAt) (wired : IsWired site ends old) (apart : AreApart (sides old.directions))
    (node : NodeNo) where
  -- any node may be one that learns it
  abbrev always : Side → Bool
  always side = true

  abbrev comes_not : Direction → Bool
  comes_not direction = not (is_node direction.to node)

  crash_goes : EndsGo always (λ side. is_node side.2 node) old (after_crash old node)
  crash_goes = record {
    stands = λ direction h e. stands_as always direction direction.messages (Has-kept comes_not h (ap not e));
    was = λ direction h. Has-map side_of (Has-filter comes_not old.directions h).0;
    is_left = λ direction h. not-true (is_node direction.to node) (Has-filter comes_not old.directions h).1;
    apart = λ apart. apart_without comes_not old.directions apart;
    sent = refl;
    received = refl;
  }

  abbrev goes_with : Side → Bool
  goes_with side = is_node side.2 node || goes_to always node (peers_of node old.directions) side

  restart_goes : DropAll node (peers_of node old.directions) (after_crash old node) losses new → EndsGo always goes_with old new
  restart_goes made = go_longer always crash_goes
      (all_go always ends (λ peer side e. refl) (still_joins always crash_goes (wired_joins wired)) (crash_goes.apart apart) made)

  -- the peers are those that it has connections with
  touched : (direction : Direction) → Has direction old.directions → (is_node direction.from node || is_node direction.to node) ≡ goes_with (side_of direction)
  touched direction h = same_test (is_node direction.from node || is_node direction.to node) (goes_with (side_of direction))
      (λ e. elim (or_cases (is_node direction.from node) (is_node direction.to node) e) [
        | inl from_it ↦ or_right (is_node direction.to node) (goes_to always node (peers_of node old.directions) (side_of direction))
            (any_has (λ peer. is_way node peer (side_of direction))
            (Has-map (λ (d : Direction). d.to) (Has-kept (λ (d : Direction). is_node d.from node) h from_it))
            (and_from (is_node direction.from node) (is_node direction.to direction.to) from_it (node_itself direction.to)))
        | inr to_it ↦ or_left (is_node direction.to node) (goes_to always node (peers_of node old.directions) (side_of direction)) to_it
      ])
      (λ e. elim (or_cases (is_node direction.to node) (goes_to always node (peers_of node old.directions) (side_of direction)) e) [
        | inl to_it ↦ or_right (is_node direction.from node) (is_node direction.to node) to_it
        | inr some ↦
            let found = any_found (λ peer. is_way node peer (side_of direction)) (peers_of node old.directions) some in
            let passes = found_passes (λ peer. is_way node peer (side_of direction)) (peers_of node old.directions) found.0 found.1 in
            or_left (is_node direction.from node) (is_node direction.to node)
            (and_parts (is_node direction.from node) (is_node direction.to found.0) passes).0
      ])

  pub restart_carries : (applied : Bool) → Restarts site old node applied losses new → Carries site (Restart node) old new
  restart_carries applied made = go (can_restart site node) refl made
    where
      go : (can : Bool) → can_restart site node ≡ can → MatchBool can
          ((applied ≡ true) × DropAll node (peers_of node old.directions) (after_crash old node) losses new)
          ((applied ≡ false) × (losses ≡ []) × (new ≡ old)) → Carries site (Restart node) old new
      go true can made = ends_carry site ends old new wired apart always goes_with (restart_goes made.1) (Restart node) (λ direction. refl) (λ direction. refl)
          (λ direction. refl) refl refl
          (λ direction h. ap (λ (c : Bool). c && (is_node direction.from node || is_node direction.to node)) can ∙ touched direction h)
      go false can made = ends_carry site ends old new wired apart always (λ side. false) (same_goes site ends old new wired apart always made.2)
          (Restart node) (λ direction. refl) (λ direction. refl) (λ direction. refl) refl refl
          (λ direction h. ap (λ (c : Bool). c && (is_node direction.from node || is_node direction.to node)) can)
