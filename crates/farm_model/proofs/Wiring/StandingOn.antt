-- Directions that stand on: none comes or goes, and behind the messages of some there may be more. So it is where nodes
-- send, and whatever a node does at a message or a loss.
use Rattle.std.proofs.Common.{◌≡◌, Bool, true, false, cond, List, [], ◌∷◌, ◌++◌, Option, Some, None, inl, inr, refl, sym, subst, ap, ◌∙◌}
use Rattle.std.proofs.Common.{append_assoc, append-nil}
use Rattle.std.specs.List.{find}
use Rattle.std.proofs.lemmas.Bool.{and_parts, both_ways}
use Rattle.dia_base.specs.declared.number.ConnId.{ConnId}
use Rattle.dia_base.specs.declared.number.NodeNo.{NodeNo}
use Rattle.dia_base.proofs.Finding.{found_passes}
use Rattle.dia_message.specs.declared.message.Message.{Message}
use Rattle.dia_message.specs.Traffic.{Traffic}
use Rattle.front_core.specs.FrontState.{FrontState, is_among}
use Rattle.front_core.specs.FrontStep.{sent_at_arrival}
use Rattle.relay_core.specs.declared.run.RelayEvent.{RelayEvent}
use Rattle.relay_core.specs.declared.run.RelayEvent.TheVariants.{Received, Lost}
use Rattle.relay_core.specs.RelayState.{RelayState}
use Rattle.farm_law.specs.Lists.{Has, here, there}
use Rattle.farm_model.specs.declared.state.Direction.{Direction}
use Rattle.farm_model.specs.Arrival.{AtRelay, after_arrival_at_front, ArrivesAtServer}
use Rattle.farm_base.specs.Lists.{replace_first}
use Rattle.farm_model.specs.Loss.{Loss, LossAt, LearnsLoss, LearnLosses, all_know, learns}
use Rattle.farm_base.specs.Nodes.{is_node}
use Rattle.farm_model.specs.World.{WorldState, is_on, is_outward, with_message, with_message_in, with_message_from, with_traffic_from, front_at, relay_at}
use Rattle.farm_model.proofs.Lists.Replacing.{map_replaced, Has-replacement, Has-beside}
use Rattle.farm_model.proofs.Wiring.Sides.{Side, side_of, sides}

-- there may be more on the sides that pass
module _ (grows : Side → Bool) where
  -- the direction stands there with these messages, and others behind them, if it may grow
  abbrev pub StandsWith : List Direction → Direction → List Message → Type 0
  StandsWith directions direction messages = (more : List Message) × (grows (side_of direction) ≡ false → more ≡ []) × Has
      (record direction { messages = messages ++ more }) directions

  pub stands_as : {directions : List Direction} (direction : Direction) (messages : List Message) → Has (record direction { messages = messages }) directions →
      StandsWith directions direction messages
  stands_as {directions} direction messages h = (
    [],
    λ still. refl,
    subst (λ (ms : List Message). Has (record direction { messages = ms }) directions)
        (sym (append-nil messages)) h,
  )

  pub record StandOn (old new : List Direction) : Type 0 where
    pub same : sides new ≡ sides old
    pub stands : (direction : Direction) → Has direction old → StandsWith new direction direction.messages

  pub stand : (directions : List Direction) → StandOn directions directions
  stand directions = record { same = refl; stands = λ direction h. stands_as direction direction.messages h }

  stand_longer : {one two three : List Direction} → StandOn one two → StandOn two three → StandOn one three
  stand_longer {one} {two} {three} first second = record {
    same = second.same ∙ first.same;
    stands = λ direction h.
        let then = first.stands direction h in
        let last = second.stands (record direction { messages = direction.messages ++ then.0 }) then.2 in (
          then.0 ++ last.0,
          λ still. ap (λ (ms : List Message). ms ++ last.0) (then.1 still) ∙ last.1 still,
          subst (λ (ms : List Message). Has (record direction { messages = ms }) three) (append_assoc direction.messages then.0 last.0) last.2,
        );
  }

  -- ---- what is sent comes behind

  module _ (test : Direction → Bool) (message : Message) (may_grow : (direction : Direction) → test direction ≡ true → grows (side_of direction) ≡ true) where
    posted_stands : (directions : List Direction) (found : Option Direction) → find test directions ≡ found → (direction : Direction) → Has direction
        directions → StandsWith (with_message_in test message directions found) direction direction.messages
    posted_stands directions None e direction h = stands_as direction direction.messages h
    posted_stands directions (Some first) e direction h =
        let more = with_message message first in
        let grown = may_grow first (found_passes test directions first e) in
        elim (Has-beside test first more directions e h) [
          | inl is ↦ subst (λ (d : Direction). StandsWith (replace_first test more directions) d d.messages) (sym is)
              (message ∷ [], λ still. absurd (both_ways (grows (side_of first)) still grown), Has-replacement test first more directions e)
          | inr left ↦ stands_as direction direction.messages left
        ]

    posted_same : (directions : List Direction) (found : Option Direction) → find test directions ≡ found → sides
        (with_message_in test message directions found) ≡ sides directions
    posted_same directions None e = refl
    posted_same directions (Some first) e = map_replaced side_of test first (with_message message first) directions e refl

    pub posted_on : (directions : List Direction) (found : Option Direction) → find test directions ≡ found → StandOn directions
        (with_message_in test message directions found)
    posted_on directions found e = record { same = posted_same directions found e; stands = posted_stands directions found e }

  -- the node may send
  abbrev pub MaySend : NodeNo → Type 0
  MaySend node = (side : Side) → is_node side.1 node ≡ true → grows side ≡ true

  pub traffic_on : (node : NodeNo) → MaySend node → (directions : List Direction) (items : Traffic) → StandOn directions
      (with_traffic_from node directions items)
  traffic_on node may directions [] = stand directions
  traffic_on node may directions (item ∷ items) =
      let outward = λ (d : Direction) (e : is_outward node item.0 d ≡ true). may (side_of d) (and_parts (is_node d.from node) (is_on item.0 d) e).0 in
      stand_longer (posted_on (is_outward node item.0) item.1 outward directions (find (is_outward node item.0) directions) refl)
      (traffic_on node may (with_message_from node directions item.0 item.1) items)

  -- ---- the farm goes on: clients send and receive nothing

  pub record GoesOn (old new : WorldState) : Type 0 where
    pub directions : StandOn old.directions new.directions
    pub sent : new.sent ≡ old.sent
    pub received : new.received ≡ old.received

  pub same_goes_on : (old new : WorldState) → new ≡ old → GoesOn old new
  same_goes_on old new same = subst (GoesOn old) (sym same) (record { directions = stand old.directions; sent = refl; received = refl })

  goes_on_longer : {one two three : WorldState} → GoesOn one two → GoesOn two three → GoesOn one three
  goes_on_longer first second = record {
    directions = stand_longer first.directions second.directions;
    sent = second.sent ∙ first.sent;
    received =
        second.received ∙ first.received;
  }

  -- what a node does at a message or a loss

  at_relay_goes_on : (w : WorldState) (node : NodeNo) → MaySend node → (event : RelayEvent) (relay : Option RelayState) (next : WorldState) → AtRelay w node
      event relay next → GoesOn w next
  at_relay_goes_on w node may event None next same = same_goes_on w next same
  at_relay_goes_on w node may event (Some relay) next turn = subst (GoesOn w) (sym turn.next_is)
      (record { directions = traffic_on node may w.directions turn.sent; sent = refl; received = refl })

  pub at_server_goes_on : (w : WorldState) (node : NodeNo) → MaySend node → (conn : ConnId) (message : Message) (front : Option FrontState) (next : WorldState)
      → ArrivesAtServer w node conn message front next → GoesOn w next
  at_server_goes_on w node may conn message None next turn = at_relay_goes_on w node may (Received conn message) (relay_at node w.relays) next turn
  at_server_goes_on w node may conn message (Some front) next same = subst (GoesOn w) (sym same) (go (is_among front.connections conn))
    where
      go : (b : Bool) → GoesOn w (cond b (after_arrival_at_front w node conn message front) w)
      go true = record { directions = traffic_on node may w.directions (sent_at_arrival front conn message); sent = refl; received = refl }
      go false = same_goes_on w w refl

  one_loss_goes_on : (w : WorldState) (loss : Loss) → MaySend loss.node → (front : Option FrontState) (next : WorldState) → LearnsLoss w loss front next →
      GoesOn w next
  one_loss_goes_on w loss may (Some front) next same = subst (GoesOn w) (sym same) (record { directions = stand w.directions; sent = refl; received = refl })
  one_loss_goes_on w loss may None next turn = at_relay_goes_on w loss.node may (Lost loss.conn) (relay_at loss.node w.relays) next turn

  pub losses_go_on : {losses : List Loss} {w last : WorldState} {later : List LossAt} → ((loss : Loss) → Has loss losses → MaySend loss.node) → LearnLosses
      losses w later last → GoesOn w last
  losses_go_on may (all_know {w = w}) = same_goes_on w w refl
  losses_go_on may (learns {loss = loss} {w = w} {next = mid} one more) = goes_on_longer
      (one_loss_goes_on w loss (may loss here) (front_at loss.node w.fronts) mid one) (losses_go_on (λ l h. may l (there h)) more)
