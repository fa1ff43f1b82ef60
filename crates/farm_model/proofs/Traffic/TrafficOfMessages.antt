-- What is in flight after a client has sent a message, and after one is delivered or lost; and what clients have sent and received then.
use Rattle.std.proofs.Common.{◌≡◌, ℕ, Bool, true, false, cond, List, [], ◌∷◌, ◌++◌, map, Option, Some, None, refl, sym, subst, ap, ◌∙◌, eq-eqb}
use Rattle.std.specs.Prelude.{◌≤◌, ◌&&◌, MatchBool, filter, count_by, option_map}
use Rattle.std.specs.List.{find}
use Rattle.std.proofs.lemmas.Bool.{both_ways, and_from}
use Rattle.dia_base.specs.declared.number.ConnId.{ConnId}
use Rattle.dia_base.specs.declared.number.NodeNo.{NodeNo}
use Rattle.dia_base.proofs.Finding.{found_passes}
use Rattle.dia_message.specs.declared.message.Message.{Message}
use Rattle.dia_message.specs.Traffic.{Traffic}
use Rattle.farm_law.specs.Lists.{Has}
use Rattle.farm_base.specs.declared.site.Site.{Site}
use Rattle.farm_model.specs.declared.state.Direction.{Direction}
use Rattle.farm_base.specs.declared.step.Step.TheVariants.{Send, Deliver, Lose}
use Rattle.farm_model.specs.Arrival.{ArrivesAtServer, after_arrival_at_client}
use Rattle.farm_model.specs.FarmStep.{Outcome, Flight, Delivers, flight_at, flight_where, loss_at, after_lost_message, after_send_on, after_send}
use Rattle.farm_model.specs.InFlight.{goes, knows_other}
use Rattle.farm_base.specs.Nodes.{is_node, is_client}
use Rattle.farm_model.specs.World.{Ends, WorldState, is_between, is_heard, is_on, is_outward, with_message, with_message_in, with_message_from, front_at}
use Rattle.farm_model.proofs.Lists.Agreeing.{same_test, find_agrees, replace_agrees}
use Rattle.farm_model.proofs.Lists.Among.{Has-map}
use Rattle.farm_model.proofs.Lists.Numbering.{is_same_node}
use Rattle.farm_model.proofs.Wiring.Apart.{one_left, none_passes, the_one, AreApart, goes_once, heard_once}
use Rattle.farm_model.proofs.Lists.Finding.{Has-found, not_found, any_found}
use Rattle.farm_model.proofs.Traffic.FlightLemmas.{directions_after, item_of, less, flight_leaves, flight_sides, flight_item}
use Rattle.farm_model.proofs.Lists.Replacing.{Has-replacement}
use Rattle.farm_model.proofs.Wiring.Joined.{Joins-turned, Joins-same}
use Rattle.farm_model.proofs.Wiring.Sides.{Side, side_of, sides}
use Rattle.farm_model.proofs.Wiring.StandingOn.{StandsWith, StandOn, stand, posted_on, GoesOn, same_goes_on, at_server_goes_on}
use Rattle.farm_model.proofs.Traffic.TrafficOfSteps.{Carries, none_begun, nothing_more, none_grow, IsQuiet, posting_carries, quiet_carries}
use Rattle.farm_model.proofs.Wiring.Wired.{Joins, IsWired}
use Rattle.farm_model.proofs.Wiring.WorldLemmas.{direction_nodes, heard_between, outward_is}

-- ---- a client sends

-- where two tests agree on the directions, one more message is in flight in the same of them
more_agrees : (p q : Direction → Bool) (message : Message) (directions : List Direction) → ((direction : Direction) → Has direction directions → p direction ≡
    q direction) → with_message_in p message directions (find p directions) ≡ with_message_in q message directions (find q directions)
more_agrees p q message directions same = ap (with_message_in p message directions) (find_agrees p q directions same) ∙ go (find q directions)
  where
    go : (found : Option Direction) → with_message_in p message directions found ≡ with_message_in q message directions found
    go None = refl
    go (Some first) = replace_agrees p q (with_message message first) directions same

module _ (site : Site) (ends : Ends) (old new : WorldState) (applied : Bool) (wired : IsWired site ends old) (apart : AreApart (sides old.directions))
    (client to : NodeNo) (message : Message) where
  abbrev grows : Side → Bool
  grows side = is_node side.1 client && is_node side.2 to

  -- the connection that the client knows
  module _ (known : Direction) (found : find (is_heard to client) old.directions ≡ Some known) where
    its_nodes : (known.from ≡ to) × (known.to ≡ client)
    its_nodes = direction_nodes to client known (heard_between to client known (found_passes (is_heard to client) old.directions known found))

    its_ends : Joins ends known.conn client to
    its_ends = Joins-turned (subst (λ (n : NodeNo). Joins ends known.conn to n) its_nodes.1
        (subst (λ (n : NodeNo). Joins ends known.conn n known.to) its_nodes.0
        (wired.directions known (Has-found (is_heard to client) old.directions found)).joins))

    -- what it sends there goes to the other node
    outward_goes : (direction : Direction) → Has direction old.directions → is_outward client known.conn direction ≡ true → goes client to direction ≡ true
    outward_goes direction h e =
        let is = outward_is client known.conn direction e in
        let to_is : direction.to ≡ to = Joins-same (subst (λ (n : NodeNo). Joins ends known.conn n direction.to) is.0
        (subst (λ (c : ConnId). Joins ends c direction.from direction.to) is.1 (wired.directions direction h).joins)) its_ends in
        and_from (is_node direction.from client) (is_node direction.to to) (is_same_node direction.from client is.0) (is_same_node direction.to to to_is)

    -- and whatever goes there is on this connection
    goes_outward : (direction : Direction) → Has direction old.directions → goes client to direction ≡ true → is_outward client known.conn direction ≡ true
    goes_outward direction h e =
        let is = direction_nodes client to direction e in
        let forth : Has (direction.conn, client, to, direction.known) (sides old.directions) =
        subst (λ (n : NodeNo). Has (direction.conn, client, n, direction.known) (sides old.directions)) is.1
        (subst (λ (n : NodeNo). Has (direction.conn, n, direction.to, direction.known) (sides old.directions)) is.0 (Has-map side_of h)) in
        let back : Has (known.conn, to, client, known.known) (sides old.directions) =
        subst (λ (n : NodeNo). Has (known.conn, to, n, known.known) (sides old.directions)) its_nodes.1
        (subst (λ (n : NodeNo). Has (known.conn, n, known.to, known.known) (sides old.directions)) its_nodes.0
        (Has-map side_of (Has-found (is_heard to client) old.directions found))) in
        let same = apart.same direction.conn known.conn client to direction.known known.known forth back in
        and_from (is_node direction.from client) (is_on known.conn direction) (is_same_node direction.from client is.0)
        (eq-eqb direction.conn.0 known.conn.0 (ap (λ (c : ConnId). c.0) same))

    its_own : with_message_from client old.directions known.conn message ≡ with_message_in (goes client to) message old.directions
        (find (goes client to) old.directions)
    its_own = more_agrees (is_outward client known.conn) (goes client to) message old.directions
        (λ direction h. same_test (is_outward client known.conn direction) (goes client to direction) (outward_goes direction h) (goes_outward direction h))

  abbrev posted : Option Direction → Option WorldState
  posted found = after_send_on old client message (option_map (λ direction. direction.conn) found)

  post_stands : (found : Option Direction) → find (is_heard to client) old.directions ≡ found → Outcome (posted found) applied old new → StandOn grows
      old.directions new.directions
  post_stands None f out = subst (λ (w : WorldState). StandOn grows old.directions w.directions) (sym out.1) (stand grows old.directions)
  post_stands (Some known) f out = subst (λ (w : WorldState). StandOn grows old.directions w.directions) (sym out.1)
      (subst (StandOn grows old.directions) (sym (its_own known f))
      (posted_on grows (goes client to) message (λ direction e. e) old.directions (find (goes client to) old.directions) refl))

  post_received : (found : Option Direction) → Outcome (posted found) applied old new → new.received ≡ old.received
  post_received None out = ap (λ (w : WorldState). w.received) out.1
  post_received (Some known) out = ap (λ (w : WorldState). w.received) out.1

  abbrev items : List Direction → Traffic
  items directions = map (λ direction. (direction.conn, message)) directions

  post_sent : (found : Option Direction) → find (is_heard to client) old.directions ≡ found → Outcome (posted found) applied old new → new.sent ≡ old.sent ++
      items (filter (is_heard to client) old.directions)
  post_sent None f out = nothing_more (ap (λ (w : WorldState). w.sent) out.1) ∙ ap (λ (ds : List Direction). old.sent ++ items ds)
      (sym (none_passes (is_heard to client) old.directions f))
  post_sent (Some known) f out = ap (λ (w : WorldState). w.sent) out.1 ∙ ap (λ (ds : List Direction). old.sent ++ items ds)
      (sym (one_left (is_heard to client) known old.directions (heard_once old.directions apart to client) f))

  sends_quietly : IsQuiet grows site (Send client to message)
  sends_quietly = record {
    leaves = λ direction. refl;
    may_grow = λ direction. refl;
    knows = λ direction. refl;
    ends = λ directions direction. refl;
    receives = λ directions. refl;
  }

  send_by : (b : Bool) → is_client site client ≡ b → Outcome (cond b (posted (find (is_heard to client) old.directions)) None) applied old new → Carries site
      (Send client to message) old new
  send_by true is out =
      let found = find (is_heard to client) old.directions in
      posting_carries grows sends_quietly apart (post_stands found refl out)
      (post_sent found refl out ∙ ap (λ (b : Bool). old.sent ++ cond b (items (filter (is_heard to client) old.directions)) []) (sym is))
      (post_received found out)
  send_by false is out = quiet_carries grows sends_quietly apart (ap (λ (b : Bool). cond b (items (filter (is_heard to client) old.directions)) []) is)
      (same_goes_on grows old new out.1)

  pub send_carries : Outcome (after_send site old client to message) applied old new → Carries site (Send client to message) old new
  send_carries out = send_by (is_client site client) refl out

  -- it is in flight behind what was there
  posted_behind : (direction : Direction) → Has direction old.directions → goes client to direction ≡ true → (known : Direction) → find (is_heard to client)
      old.directions ≡ Some known → Outcome (posted (Some known)) applied old new
      → Has (record direction { messages = direction.messages ++ message ∷ [] }) new.directions
  posted_behind direction h e known f out = go (find (goes client to) old.directions) refl (ap (λ (w : WorldState). w.directions) out.1 ∙ its_own known f)
    where
      go : (one : Option Direction) → find (goes client to) old.directions ≡ one → new.directions ≡ with_message_in (goes client to) message old.directions one
          → Has (record direction { messages = direction.messages ++ message ∷ [] }) new.directions
      go None g same = absurd (both_ways (goes client to direction) (not_found (goes client to) g h) e)
      go (Some one) g same =
          let is = the_one (goes client to) one old.directions (goes_once old.directions apart client to) g h e in
          let stands = subst (Has (with_message message one)) (sym same)
          (Has-replacement (goes client to) one (with_message message one) old.directions g) in
          subst (λ (d : Direction). Has (record d { messages = d.messages ++ message ∷ [] }) new.directions) (sym is) stands

  pub send_posts : is_client site client ≡ true → knows_other old.directions client to ≡ true → (direction : Direction) → Has direction old.directions → goes
      client to direction ≡ true → Outcome (after_send site old client to message) applied old new
      → Has (record direction { messages = direction.messages ++ message ∷ [] }) new.directions
  send_posts is knows direction h e out =
      let one = any_found (is_heard to client) old.directions knows in
      let sent = subst (λ (b : Bool). Outcome (cond b (posted (find (is_heard to client) old.directions)) None) applied old new) is out in
      posted_behind direction h e one.0 one.1 (subst (λ (o : Option Direction). Outcome (posted o) applied old new) one.1 sent)

-- ---- a message is delivered or lost

-- in a direction that passes
module _ (test : Direction → Bool) (old new : WorldState) (apart : AreApart (sides old.directions)) (place : ℕ) (most : count_by test old.directions ≤ 1)
    (flight : Option Flight) (flies : flight_where test old.directions place ≡ flight) (grows : Side → Bool)
    (on : StandOn grows (directions_after old.directions flight) new.directions) where
  same_sides : sides new.directions ≡ sides old.directions
  same_sides = on.same ∙ flight_sides test old.directions place most flight flies

  still_apart : AreApart (sides new.directions)
  still_apart = subst AreApart (sym same_sides) apart

  stands_less : (direction : Direction) → Has direction old.directions → StandsWith grows new.directions direction (less test place direction).messages
  stands_less direction h = on.stands (less test place direction) (flight_leaves test old.directions place most flight flies direction h)

module _ (site : Site) (old new : WorldState) (apart : AreApart (sides old.directions)) (from to : NodeNo) (place : ℕ) (flight : Option Flight)
    (flies : loss_at old.directions from to place ≡ flight) where
  abbrev left : List Direction
  left = directions_after old.directions flight

  abbrev goes_most : count_by (is_between from to) old.directions ≤ 1
  goes_most = goes_once old.directions apart from to

  pub lose_carries : GoesOn none_grow (record old { directions = left }) new → Carries site (Lose from to place) old new
  lose_carries on = record {
    in_flight = λ direction h e. stands_less (is_between from to) old new apart place goes_most flight flies none_grow on.directions direction h;
    begun = λ direction h none.
        none_begun (same_sides (is_between from to) old new apart place goes_most flight flies none_grow on.directions) direction h none;
    ended = λ direction other h e k. absurd cc;
    apart = still_apart (is_between from to) old new apart place goes_most flight flies none_grow on.directions;
    sent = nothing_more on.sent;
    received = nothing_more on.received;
  }

module _ (site : Site) (old new : WorldState) (apart : AreApart (sides old.directions)) (from to : NodeNo) (place : ℕ) (flight : Option Flight)
    (flies : flight_at old.directions from to place ≡ flight) where
  abbrev heard_left : List Direction
  heard_left = directions_after old.directions flight

  abbrev heard_most : count_by (is_heard from to) old.directions ≤ 1
  heard_most = heard_once old.directions apart from to

  abbrev from_it : Side → Bool
  from_it side = is_node side.1 to

  pub deliver_carries : StandOn from_it heard_left new.directions → new.sent ≡ old.sent
      → new.received ≡ old.received ++ cond (is_client site to) (item_of flight) [] → Carries site (Deliver from to place) old new
  deliver_carries on sent received = record {
    in_flight = λ direction h e. stands_less (is_heard from to) old new apart place heard_most flight flies from_it on direction h;
    begun = λ direction h none. none_begun (same_sides (is_heard from to) old new apart place heard_most flight flies from_it on) direction h none;
    ended = λ direction other h e k. absurd cc;
    apart = still_apart (is_heard from to) old new apart place heard_most flight flies from_it on;
    sent = nothing_more sent;
    received = received ∙ ap (λ (items : Traffic). old.received ++ cond (is_client site to) items [])
        (sym (flight_item (is_heard from to) old.directions place heard_most flight flies));
  }

pub lost_carries : (site : Site) (old new : WorldState) (applied : Bool) (apart : AreApart (sides old.directions)) (from to : NodeNo) (place : ℕ)
    (flight : Option Flight) → loss_at old.directions from to place ≡ flight → Outcome (after_lost_message old flight) applied old new
    → Carries site (Lose from to place) old new
lost_carries site old new applied apart from to place None flies out = lose_carries site old new apart from to place None flies
    (same_goes_on none_grow old new out.1)
lost_carries site old new applied apart from to place (Some flight) flies out = lose_carries site old new apart from to place (Some flight) flies
    (same_goes_on none_grow (record old { directions = flight.directions }) new out.1)

module _ (site : Site) (old new : WorldState) (applied : Bool) (apart : AreApart (sides old.directions)) (from to : NodeNo) (place : ℕ) where
  abbrev from_its : Side → Bool
  from_its side = is_node side.1 to

  pub delivered_carries : (flight : Option Flight) → flight_at old.directions from to place ≡ flight → Delivers site old to flight applied new → Carries site
      (Deliver from to place) old new
  delivered_carries None flies made =
      let on = same_goes_on from_its old new made.1 in
      deliver_carries site old new apart from to place None flies on.directions on.sent
      (nothing_more on.received ∙ ap (λ (items : Traffic). old.received ++ items) (sym (go (is_client site to))))
    where
      go : (b : Bool) → cond b (item_of None) [] ≡ []
      go true = refl
      go false = refl
  delivered_carries (Some flight) flies made = go (is_client site to) refl made.1
    where
      w : WorldState
      w = record old { directions = flight.directions }

      told : {b : Bool} → is_client site to ≡ b → new.received ≡ old.received ++ cond b (item_of (Some flight)) [] → new.received ≡ old.received ++ cond
          (is_client site to) (item_of (Some flight)) []
      told is e = e ∙ ap (λ (c : Bool). old.received ++ cond c (item_of (Some flight)) []) (sym is)

      go : (b : Bool) → is_client site to ≡ b → MatchBool b (new ≡ after_arrival_at_client w flight.conn flight.message)
          (ArrivesAtServer w to flight.conn flight.message (front_at to w.fronts) new) → Carries site (Deliver from to place) old new
      go true is same =
          deliver_carries site old new apart from to place (Some flight) flies
          (subst (λ (v : WorldState). StandOn from_its flight.directions v.directions) (sym same) (stand from_its flight.directions))
          (ap (λ (v : WorldState). v.sent) same) (told is (ap (λ (v : WorldState). v.received) same))
      go false is turn =
          let on = at_server_goes_on from_its w to (λ side e. e) flight.conn flight.message (front_at to w.fronts) new turn in
          deliver_carries site old new apart from to place (Some flight) flies on.directions on.sent (told is (nothing_more on.received))
