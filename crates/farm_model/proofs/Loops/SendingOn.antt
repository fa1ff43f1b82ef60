-- A relay sends a request on with a Route-Record of the node that it came from; so a request that a relay has sent loops at it
-- wherever it comes to it again.
use Rattle.std.proofs.Common.{◌≡◌, ℕ, ◌≤◌, Bool, true, cond, List, [], ◌∷◌, ◌++◌, map, Option, Some, Ok, inl, inr, refl, sym, subst, ap, ◌∙◌}
use Rattle.std.proofs.Common.{true≢false, append-nil}
use Rattle.std.specs.Prelude.{◌⊎◌, ◌==◌, count_by, filter, filter_map, MatchOption}
use Rattle.std.proofs.lemmas.Bool.{MatchBool-at_true, both_ways}
use Rattle.std.proofs.lemmas.List.{append_cancel_left}
use Rattle.dia_base.specs.declared.number.ConnId.{ConnId}
use Rattle.dia_base.specs.declared.number.NodeNo.{NodeNo}
use Rattle.dia_avp.specs.declared.avp.RawAvp.{RawAvp}
use Rattle.dia_avp.specs.AvpReading.{split_of}
use Rattle.dia_message.specs.declared.message.Message.{Message}
use Rattle.dia_message.specs.declared.message.Out.{Out}
use Rattle.dia_message.specs.Traffic.{Traffic}
use Rattle.cc_view.specs.declared.refusal.Refusal.{Refusal}
use Rattle.cc_view.specs.Answer.{refusal_of}
use Rattle.relay_peers.specs.declared.peers.LinkedPeer.{LinkedPeer}
use Rattle.relay_hops.specs.PendingTable.{under}
use Rattle.relay_core.specs.declared.run.RelayEvent.{RelayEvent}
use Rattle.relay_core.specs.declared.run.RelayEvent.TheVariants.{Received}
use Rattle.relay_core.specs.Forwarding.{with_record, same, renumbered, sent_again, recorded_by}
use Rattle.relay_core.specs.RelayRun.{IsIdle, OnEvent}
use Rattle.relay_core.specs.RelayState.{RelayState}
use Rattle.relay_core.specs.RelayStep.{OnAnswer, OnMessage, OnRequest, refused, forwarded}
use Rattle.farm_law.specs.Lists.{Has}
use Rattle.farm_base.specs.declared.site.Site.{Site}
use Rattle.farm_model.specs.declared.state.Direction.{Direction}
use Rattle.farm_base.specs.declared.step.Step.{Step}
use Rattle.farm_base.specs.declared.step.Step.TheVariants.{Deliver}
use Rattle.farm_model.specs.SoundSite.{IsSound}
use Rattle.farm_model.specs.ComingRound.{DeliversTo, SendsTo, HasGone, sets_out, goes_on, goes_again}
use Rattle.farm_model.specs.FarmStep.{Flight, FarmStep}
use Rattle.farm_model.specs.InFlight.{goes, left_by, message_at}
use Rattle.farm_base.specs.Nodes.{is_node, is_relay, name_at}
use Rattle.farm_model.specs.Promise.{HasComeBack}
use Rattle.farm_model.specs.RelayRuns.{events_at, messages_on, sent_on}
use Rattle.farm_model.specs.Run.{Past, Transition}
use Rattle.farm_model.specs.World.{Ends, is_heard}
use Rattle.farm_model.proofs.Lists.Among.{Has-contained, Has-cons, Has-filter, Has-unmap}
use Rattle.farm_model.proofs.Wiring.Apart.{AreApart, goes_once, heard_once, the_one}
use Rattle.farm_model.proofs.Lists.Finding.{any_found, any_has}
use Rattle.farm_model.proofs.Traffic.FlightLemmas.{flight_item}
use Rattle.farm_model.proofs.Wiring.Joined.{Joins-turned}
use Rattle.farm_model.proofs.Wiring.KnowsPeers.{KnowsPeers}
use Rattle.farm_model.proofs.Loops.LoopRefused.{sender_known}
use Rattle.farm_model.proofs.Loops.Naming.{spells}
use Rattle.farm_model.proofs.Lists.Numbering.{node_itself}
use Rattle.farm_model.proofs.Wiring.RelayPeers.{is_forwarded, sender_is}
use Rattle.farm_model.proofs.Wiring.RelayPlaces.{relay_there}
use Rattle.farm_model.proofs.Relays.RelayTurns.{Turns, turns, stays}
use Rattle.farm_model.proofs.Relays.RelaysRun.{step_turns}
use Rattle.farm_model.proofs.Wiring.SamePeers.{flight_stands}
use Rattle.farm_model.proofs.Wiring.Sides.{sides}
use Rattle.farm_model.proofs.Wiring.Wired.{Joins, IsWired}
use Rattle.farm_model.proofs.Wiring.WiredLemmas.{relay_wired}
use Rattle.farm_model.proofs.Wiring.WorldLemmas.{direction_nodes}

-- ---- one thing happens to a relay

abbrev received : ConnId × Message → RelayEvent
received item = Received item.0 item.1

record OneTurn (relay : RelayState) (event : RelayEvent) (outs : List Out) : Type 0 where
  out : Out
  after : RelayState
  outs_are : outs ≡ out ∷ []
  turn : OnEvent relay event out.items after

nothing_more : {relay last : RelayState} {outs : List Out} → Turns relay [] outs last → outs ≡ []
nothing_more stays = refl

one_turn : {relay last : RelayState} {event : RelayEvent} {outs : List Out} → Turns relay (event ∷ []) outs last → OneTurn relay event outs
one_turn (turns event out mid turn rest) = record { out = out; after = mid; outs_are = ap (λ (os : List Out). out ∷ os) (nothing_more rest); turn = turn }

-- ---- what it sends in a direction is among what it sends

abbrev with_behind : Step → Direction → List Message → Direction
with_behind step direction behind = record direction { messages = left_by step direction ++ behind }

is_sent : (conn : ConnId) (items : Traffic) (message : Message) → Has message (sent_on conn (record { items = items } ∷ []))
    → (item : ConnId × Message) × Has item items × (item.1 ≡ message)
is_sent conn items message h =
    let on : Has message (messages_on conn items) = subst (Has message) (append-nil (messages_on conn items)) h in
    let found = Has-unmap (λ (item : ConnId × Message). item.1) (filter (λ (item : ConnId × Message). conn.0 == item.0.0) items) on in
    (found.0, (Has-filter (λ (item : ConnId × Message). conn.0 == item.0.0) items found.1).0, found.2)

-- where one direction goes that way, two that do are the same
same_way : (directions : List Direction) (from to : NodeNo) → count_by (goes from to) directions ≤ 1 → {one other : Direction} → Has one directions
    → Has other directions → goes from to one ≡ true → goes from to other ≡ true → one ≡ other
same_way directions from to most {one} {other} h k e f =
    let found = any_found (goes from to) directions (any_has (goes from to) h e) in
    the_one (goes from to) found.0 directions most found.1 h e ∙ sym (the_one (goes from to) found.0 directions most found.1 k f)

-- ---- a request that is sent on

-- the request that is sent then is that which came, with a Route-Record of the node that it came from
pub record IsSentOn (site : Site) (from : NodeNo) (request next : Message) : Type 0 where
  pub hop : ℕ
  pub avps : List RawAvp
  pub splits : split_of request.body ≡ Ok avps
  pub is : next ≡ under hop (with_record (name_at site from) request)

no_request : (name realm : List ℕ) (message : Message) (refusal : Refusal) (next : Message) → refusal_of name realm message refusal ≡ next
    → next.header.request ≡ true → ⊥
unfolding refusal_of
no_request name realm message refusal next is flag = true≢false (sym flag ∙ sym (ap (λ (m : Message). m.header.request) is))

of_request : (site : Site) (relay after : RelayState) (conn : ConnId) (from : NodeNo) (sender : List ℕ) (request : Message) (sent : Traffic)
    → sender ≡ name_at site from → OnRequest relay conn sender request sent after
    → (item : ConnId × Message) → Has item sent → (next : Message) → item.1 ≡ next → next.header.request ≡ true → IsSentOn site from request next
of_request site relay after conn from sender request sent named (refused refusal e) item h next is flag = elim (Has-cons h) [
  | inl one ↦ absurd (no_request relay.node.name relay.node.realm request refusal next (sym (ap (λ (i : ConnId × Message). i.1) one) ∙ is) flag)
  | inr none ↦ elim none [ ]
]
of_request site relay after conn from sender request sent named (forwarded to hop rows count e free more) item h next is flag = elim (Has-cons h) [
  | inl one ↦ let goes_to = is_forwarded relay sender request to e in record {
    hop = hop;
    avps = goes_to.avps;
    splits = goes_to.split;
    is = sym is ∙ ap (λ (i : ConnId × Message). i.1) one ∙ ap (λ (name : List ℕ). under hop (with_record name request)) named;
  }
  | inr none ↦ elim none [ ]
]

-- a relay sends no other request when one is delivered to it, and no connection leads from a node to itself
pub record SendsOn (site : Site) (t : Transition) : Type 0 where
  pub sends_on : (from by to : NodeNo) (request next : Message) → DeliversTo t from by request → request.header.request ≡ true → is_relay site by ≡ true
      → SendsTo t by to next → IsSentOn site from request next
  pub to_another : (node : NodeNo) (message : Message) → ¬ SendsTo t node node message

module _ {site : Site} {ends : Ends} (checked : IsSound site) (t : Transition) (wired : IsWired site ends t.before) (known : KnowsPeers site t.before)
    (apart : AreApart (sides t.before.directions)) (apart_after : AreApart (sides t.after.directions))
    (made : FarmStep site t.before t.step t.applied t.losses t.after) where
  sends_request_on : (from by to : NodeNo) (request next : Message) → DeliversTo t from by request → request.header.request ≡ true → is_relay site by ≡ true
      → SendsTo t by to next → IsSentOn site from request next
  sends_request_on from by to request next delivers asks relay_is sends =
      let w = t.before in
      let place = delivers.place in
      let flight : Flight = record { conn = delivers.conn; message = request; directions = delivers.directions } in
      let step : Step = Deliver from by place in
      let there = relay_there by w.relays (known.present by relay_is) in
      let relay = there.0 in
      let delivered : FarmStep site w step t.applied t.losses t.after = subst (λ (s : Step). FarmStep site w s t.applied t.losses t.after) delivers.step made in
      let reached = step_turns site ends checked w t.after t.applied t.losses wired apart by relay_is step delivered relay there.1 in
      let event : RelayEvent = Received delivers.conn request in
      let events_are : events_at site by step w ≡ event ∷ [] =
      ap (λ (b : Bool). cond b (map received (filter_map (message_at place) (filter (is_heard from by) w.directions))) []) (node_itself by)
      ∙ ap (map received) (flight_item (is_heard from by) w.directions place (heard_once w.directions apart from by) (Some flight) delivers.flight) in
      let one = one_turn (subst (λ (es : List RelayEvent). Turns relay es reached.outs reached.last) events_are reached.turns) in
      let direction = sends.direction in
      let nodes = direction_nodes by to direction sends.between in
      let from_here : is_node direction.from by ≡ true = ap (λ (n : NodeNo). is_node n by) nodes.0 ∙ node_itself by in
      let left = left_by step direction in
      let told : Has (with_behind step direction sends.behind) t.after.directions =
      subst (λ (s : Step). Has (with_behind s direction sends.behind) t.after.directions) delivers.step (Has-contained sends.in_flight) in
      let put : Has (with_behind step direction (sent_on direction.conn reached.outs)) t.after.directions =
      reached.puts direction (Has-contained sends.stood) from_here refl in
      let one_way = same_way t.after.directions by to (goes_once t.after.directions apart_after by to) told put sends.between sends.between in
      let behind : sends.behind ≡ sent_on direction.conn reached.outs =
      append_cancel_left left sends.behind (sent_on direction.conn reached.outs) (ap (λ (d : Direction). d.messages) one_way) in
      let sent : Has next (sent_on direction.conn (one.out ∷ [])) =
      subst (Has next) (behind ∙ ap (sent_on direction.conn) one.outs_are) (Has-contained sends.among) in
      let item = is_sent direction.conn one.out.items next sent in
      let stands = flight_stands w.directions from by place flight delivers.flight in
      let sender = sender_known checked wired known stands there.1 in
      let came : OnMessage relay delivers.conn sender.0.name request one.out.items one.after =
      subst (λ (o : Option LinkedPeer). MatchOption o (IsIdle relay one.out.items one.after)
      (λ s. OnMessage relay delivers.conn s.name request one.out.items one.after)) sender.1 one.turn in
      let asked =
      MatchBool-at_true (OnRequest relay delivers.conn sender.0.name request one.out.items one.after)
      (OnAnswer relay delivers.conn request one.out.items one.after) asks came in
      let its = (wired.directions stands.direction stands.among).joins in
      let joins : Joins ends delivers.conn from by =
      subst (λ (c : ConnId). Joins ends c from by) stands.conn_is
      (subst (λ (n : NodeNo). Joins ends stands.direction.conn from n) stands.to_is
      (subst (λ (n : NodeNo). Joins ends stands.direction.conn n stands.direction.to) stands.from_is its)) in
      let named = sender_is site ends w.ends by relay (relay_wired wired.relays there.1) delivers.conn from sender.0 (Joins-turned joins) sender.1 in
      of_request site relay one.after delivers.conn from sender.0.name request one.out.items named asked item.0 item.1 next item.2 sends.flag

  sends_to_another : (node : NodeNo) (message : Message) → ¬ SendsTo t node node message
  sends_to_another node message sends =
      let direction = sends.direction in
      let nodes = direction_nodes node node direction sends.between in
      let its = (wired.directions direction (Has-contained sends.stood)).joins in
      both_ways (is_node direction.from direction.to) its.apart
      (ap (λ (n : NodeNo). is_node n direction.to) nodes.0 ∙ ap (is_node node) nodes.1 ∙ node_itself node)

  pub step_sends_on : SendsOn site t
  step_sends_on = record { sends_on = sends_request_on; to_another = sends_to_another }

-- ---- a request that comes round

module _ (site : Site) (checked : IsSound site) (past : Past) (each : (t : Transition) → Has t past → SendsOn site t) (relay : NodeNo) where
  asks : {from to : NodeNo} {message : Message} → HasGone site past relay from to message → message.header.request ≡ true
  asks (sets_out t to request among sends) = sends.flag
  asks (goes_on t from by to request next gone among delivers is sends) = sends.flag
  asks (goes_again t by to other request hop gone among sends) = sends.flag

  abbrev IsBack : Message → Type 0
  IsBack message = HasComeBack (name_at site relay) message

  -- the relay itself has sent it, or it has its Route-Record
  gone_back : {from to : NodeNo} {message : Message} → HasGone site past relay from to message → (from ≡ relay) ⊎ IsBack message
  gone_back (sets_out t to request among sends) = inl refl
  gone_back (goes_on t from by to request next gone among delivers is sends) =
      let on = (each t (Has-contained among)).sends_on from by to request next delivers (asks gone) is sends in
      elim (gone_back gone) [
        | inl own ↦
            let is = on.is ∙ ap (λ (n : NodeNo). under on.hop (with_record (name_at site n) request)) own in
            inr (subst IsBack (sym is) (record { sent = request; avps = on.avps; splits = on.splits; descends = renumbered on.hop same }))
        | inr back ↦
            let descends = renumbered on.hop (recorded_by (name_at site from) (spells site checked from) back.descends) in
            inr (subst IsBack (sym on.is) (record { sent = back.sent; avps = back.avps; splits = back.splits; descends = descends }))
      ]
  gone_back (goes_again t by to other request hop gone among sends) = elim (gone_back gone) [
    | inl own ↦ inl own
    | inr back ↦ inr (record { sent = back.sent; avps = back.avps; splits = back.splits; descends = sent_again hop back.descends })
  ]

  last_sent : {from to : NodeNo} {message : Message} → HasGone site past relay from to message → (t : Transition) × Has t past × SendsTo t from to message
  last_sent (sets_out t to request among sends) = (t, Has-contained among, sends)
  last_sent (goes_on t from by to request next gone among delivers is sends) = (t, Has-contained among, sends)
  last_sent (goes_again t by to other request hop gone among sends) = (t, Has-contained among, sends)

  pub come_round : (from : NodeNo) (message : Message) → HasGone site past relay from relay message → IsBack message
  come_round from message gone = elim (gone_back gone) [
    | inl own ↦
        let last = last_sent gone in
        absurd ((each last.0 last.1).to_another relay message (subst (λ (n : NodeNo). SendsTo last.0 n relay message) own last.2))
    | inr back ↦ back
  ]
