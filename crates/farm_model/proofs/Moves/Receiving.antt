-- A message that comes to a relay is lost, refused, forwarded or sent back, or nobody waits for it.
use Rattle.std.proofs.Common.{◌≡◌, ℕ, Bool, true, false, List, [], ◌∷◌, ◌++◌, map, Option, Some, None, refl, sym, subst, ap, ◌∙◌, Err}
use Rattle.std.specs.Prelude.{MatchBool, MatchOption, count_by}
use Rattle.dia_base.specs.declared.number.ConnId.{ConnId}
use Rattle.dia_base.specs.declared.number.NodeNo.{NodeNo}
use Rattle.dia_message.specs.declared.message.Message.{Message}
use Rattle.dia_message.specs.Traffic.{Traffic}
use Rattle.cc_view.specs.declared.refusal.Refusal.{Refusal}
use Rattle.cc_view.specs.Answer.{refusal_of}
use Rattle.relay_peers.specs.declared.peers.LinkedPeer.{LinkedPeer}
use Rattle.relay_hops.specs.declared.row.Held.{Held}
use Rattle.relay_hops.specs.declared.row.Origin.{Origin}
use Rattle.relay_hops.specs.declared.row.Row.{Row}
use Rattle.relay_hops.specs.PendingTable.{held_at, under, IsWith}
use Rattle.relay_core.specs.declared.run.RelayEvent.TheVariants.{Received}
use Rattle.relay_core.specs.Forwarding.{with_record}
use Rattle.relay_core.specs.RelayRun.{IsIdle}
use Rattle.relay_core.specs.RelayState.{RelayState, peer_on, with_next, with_rows}
use Rattle.relay_core.specs.RelayStep.{OnRequest, refused, forwarded, OnAnswer, sent_back, dropped, ignored, OnMessage, refusal_to, held_for, row_of}
use Rattle.relay_core.specs.NextHop.{outgoing}
use Rattle.relay_core.specs.Verdict.{decision}
use Rattle.farm_law.specs.Farm.{Item, Asker, PendingRow, Refused, Farm}
use Rattle.farm_law.specs.Lists.{Has, Without}
use Rattle.farm_law.specs.Counts.{with_hop, row_in}
use Rattle.farm_law.specs.Moves.{Moves, done, next as then_moves, loses, refuses, forwards, returns, forgets, row_for}
use Rattle.farm_law.proofs.Lists.{Has-without, Has-more, all-in}
use Rattle.farm_base.specs.declared.site.Site.{Site}
use Rattle.farm_model.specs.Arrival.{RelayTurn, after_relay_turn}
use Rattle.farm_model.specs.SoundSite.{IsSound}
use Rattle.farm_base.specs.Nodes.{kind_at, is_client, is_linked, name_at}
use Rattle.farm_model.specs.World.{Ends, WorldState, with_message_from, with_traffic_from, relay_at}
use Rattle.farm_model.proofs.Moves.AsFarm.{other_end, parties, items_of, asker_of, pending_of, rows_of, has_ended_in, farm_of, LeadsTo}
use Rattle.farm_model.proofs.Wiring.Joined.{Joins-turned, Joins-other}
use Rattle.farm_model.proofs.Moves.Moving.{put}
use Rattle.farm_model.proofs.Loops.Naming.{spells}
use Rattle.farm_model.proofs.Wiring.OneKind.{relay_no_client}
use Rattle.farm_model.proofs.Lists.Placing.{Left-without}
use Rattle.farm_model.proofs.Wiring.RelayPeers.{IsForwardedTo, is_forwarded, own_name, own_realm, sender_is, row_sent}
use Rattle.farm_model.proofs.Moves.RowsOf.{RowsStand, rows_stand, IsWith-without, row_less, not_in_use, held_key}
use Rattle.farm_model.proofs.Moves.Sending.{posted_items, posted_across}
use Rattle.farm_model.proofs.OwnCauses.Refusing.{HasRefused, at_most_once, as_before, one_more_refused}
use Rattle.farm_model.proofs.Moves.Turning.{seen, turn_seen, turn_wired}
use Rattle.farm_model.proofs.Wiring.Wired.{Joins, RelayIsWired, RowIsWired, IsWired}
use Rattle.farm_model.proofs.Wiring.WiredLemmas.{relay_wired}

module _ (site : Site) (ends : Ends) (Reason : Refused → Type 0) (checked : IsSound site) (w : WorldState) (wired : IsWired site ends w) (node from : NodeNo)
    (conn : ConnId) (message : Message) (relay : RelayState)
    (stands : relay_at node w.relays ≡ Some relay) (joins : Joins ends conn from node) (items : List Item)
    (taken : Without (record { conn = conn; from = from; to = node; message = message }) items (items_of ends w.directions w.fronts))
    (lasts : has_ended_in w.ends w.directions node conn ≡ false) (linked : is_linked site node from ≡ true) (refusals : List Refused) where
  abbrev old : Farm
  old = record (farm_of ends refusals w) { items = items }

  abbrev item : Item
  item = record { conn = conn; from = from; to = node; message = message }

  abbrev Outcome : WorldState → Type 0
  Outcome last = LeadsTo (parties site ends) ends Reason at_most_once old last × IsWired site ends last

  own : RelayIsWired site ends w.ends node relay
  own = relay_wired wired.relays stands

  rows_are : RowsStand ends node w.relays relay
  rows_are = rows_stand ends node w.relays relay (wired.alone node) stands

  sender_end : other_end ends conn node ≡ from
  sender_end = Joins-other (Joins-turned joins)

  -- rows of the relay that stand for a time
  abbrev with_own : List Row → List PendingRow
  with_own rows = rows_are.front ++ (map (pending_of ends node) rows ++ rows_are.back)

  -- moves to what is seen are an outcome
  outcome : (sent : Traffic) (rows : List Row) (next : ℕ) (last : WorldState) (later_refusals : List Refused) → last ≡ after_relay_turn w node sent (with_rows rows (with_next next relay))
      → ((row : Row) → Has row rows → RowIsWired site ends w.ends node row)
      → HasRefused Reason at_most_once refusals later_refusals
      → Moves (parties site ends) old (seen ends w (with_traffic_from node w.directions sent) (with_own rows) later_refusals) → Outcome last
  outcome sent rows next last later_refusals is fit caused moves = (
    record {
      refused = later_refusals;
      moves = turn_seen (parties site ends) ends old w node sent (with_rows rows (with_next next relay)) last (with_own rows) later_refusals is
          (rows_are.change (with_rows rows (with_next next relay))) moves;
      caused = caused;
    },
    turn_wired site ends w node relay sent (with_rows rows (with_next next relay)) last wired stands is
        (record { is_relay = own.is_relay; node_is = own.node_is; links = own.links; rows = fit }),
  )

  -- nobody is at the other end, or nothing was sent on the connection under its identifier
  lost : (last : WorldState) → last ≡ after_relay_turn w node [] relay → Outcome last
  lost last is = outcome [] relay.pending.rows relay.pending.next last refusals is own.rows (as_before Reason refusals)
      (subst (λ (rs : List PendingRow). Moves (parties site ends) old (seen ends w w.directions rs refusals)) rows_are.now
      (then_moves (loses (Left-without tt taken)) done))

  -- a rule refuses it
  turned_away : (refusal : Refusal) → message.header.request ≡ true → Reason (record { node = node; conn = conn; request = message; refusal = refusal }) →
      (last : WorldState)
      → last ≡ after_relay_turn w node (refusal_to relay.node conn message refusal) relay → Outcome last
  turned_away refusal flag reason last is =
      let told = refusal_of relay.node.name relay.node.realm message refusal in
      let same : told ≡ refusal_of (name_at site node) site.realm message refusal =
      ap (λ (n : List ℕ). refusal_of n relay.node.realm message refusal) (own_name site ends w.ends node relay own) ∙ ap
      (λ (r : List ℕ). refusal_of (name_at site node) r message refusal) (own_realm site ends w.ends node relay own) in
      let entry : Refused = record { node = node; conn = conn; request = message; refusal = refusal } in
      outcome (refusal_to relay.node conn message refusal) relay.pending.rows relay.pending.next last (refusals ++ entry ∷ []) is own.rows
      (one_more_refused Reason refusals entry reason)
      (subst (λ (rs : List PendingRow). Moves (parties site ends) old (seen ends w (with_message_from node w.directions conn told) rs (refusals ++ entry ∷ [])))
      rows_are.now
      (put old (record old { refused = refusals ++ entry ∷ [] }) (record { conn = conn; from = node; to = from; message = told })
      (items_of ends w.directions w.fronts) (items_of ends (with_message_from node w.directions conn told) w.fronts)
      (posted_items site ends w.ends node from conn told (Joins-turned joins) w.directions w.fronts wired.directions)
      (λ some wo. refuses refusal taken flag (subst (λ (m : Message). Without (record { conn = conn; from = node; to = from; message = m }) some
      (items_of ends w.directions w.fronts)) same wo))))

  -- it goes out again, with the name of the node that it came from
  sent_on : (to : ConnId) (hop : ℕ) (rows : List Row) (count : ℕ) → message.header.request ≡ true → held_at relay.pending.rows to hop ≡ None → IsForwardedTo relay
      (name_at site from) message to
      → IsWith (row_of to (held_for conn message (under hop (with_record (name_at site from) message)))) relay.pending.rows rows → (last : WorldState)
      → last ≡ after_relay_turn w node ((to, under hop (with_record (name_at site from) message)) ∷ []) (with_rows rows (with_next count relay)) → Outcome last
  sent_on to hop rows count flag free goes_to more last is =
      let sent = under hop (with_record (name_at site from) message) in
      let held = held_for conn message sent in
      let new = row_sent site ends w.ends node relay own checked relay.node refl refl (λ link h. h) (outgoing (Some (name_at site from)) goes_to.avps)
      message.header.application to goes_to.hop held in
      let out = IsWith-without more in
      let same : pending_of ends node (row_of to held) ≡ row_for (parties site ends) to hop item =
      ap (λ (n : NodeNo). record { relay = node; conn = to; asker = Some (record { conn = conn; node = n; hop = message.header.hop }); request = sent })
      sender_end in
      let row_out : Without (row_for (parties site ends) to hop item) (with_own rows) (rows_of ends w.relays) =
      subst (λ (r : PendingRow). Without r (with_own rows) (rows_of ends w.relays)) same
      (subst (λ (rs : List PendingRow). Without (pending_of ends node (row_of to held)) (with_own rows) rs) (sym rows_are.now)
      (row_less ends node rows_are.front rows_are.back out)) in
      let unused : count_by (row_in (with_hop to node hop)) (rows_of ends w.relays) ≡ 0 =
      subst (λ (rs : List PendingRow). count_by (row_in (with_hop to node hop)) rs ≡ 0) (sym rows_are.now)
      (not_in_use ends node rows_are.front rows_are.back relay.pending.rows relay.pending.rows to hop rows_are.front_others rows_are.back_others free
      (λ r h. h)) in
      outcome ((to, sent) ∷ []) rows count last refusals is
      (all-in (RowIsWired site ends w.ends node) out own.rows new) (as_before Reason refusals)
      (put old (record old { rows = with_own rows }) (record { conn = to; from = node; to = other_end ends to node; message = sent })
      (items_of ends w.directions w.fronts) (items_of ends (with_message_from node w.directions to sent) w.fronts)
      (posted_across site ends w.ends node to sent w.directions w.fronts wired.directions)
      (λ some wo. forwards to (other_end ends to node) hop goes_to.avps taken flag goes_to.split (spells site checked from) own.is_relay
      (relay_no_client (kind_at site node) own.is_relay) new.peer unused wo row_out))

  -- ---- an answer

  own_row : (held : Held) (rows : List Row) → IsWith (row_of conn held) rows relay.pending.rows → Without (pending_of ends node (row_of conn held))
      (rows_of ends w.relays) (with_own rows)
  own_row held rows less = subst (λ (rs : List PendingRow). Without (pending_of ends node (row_of conn held)) rs (with_own rows)) (sym rows_are.now)
      (row_less ends node rows_are.front rows_are.back (IsWith-without less))

  sender_no_client : (held : Held) (rows : List Row) → IsWith (row_of conn held) rows relay.pending.rows → is_client site from ≡ false
  sender_no_client held rows less = ap (is_client site) (sym sender_end) ∙ (own.rows (row_of conn held) (Has-without (IsWith-without less))).peer

  fewer : (held : Held) (rows : List Row) → IsWith (row_of conn held) rows relay.pending.rows → (row : Row) → Has row rows → RowIsWired site ends w.ends node
      row
  fewer held rows less row h = own.rows row (Has-more (IsWith-without less) h)

  -- the asker gets it
  given_back : (held : Held) (origin : Origin) (rows : List Row) → message.header.request ≡ false → held_at relay.pending.rows conn message.header.hop ≡ Some
      held → held.origin ≡ Some origin
      → IsWith (row_of conn held) rows relay.pending.rows → (last : WorldState) → last ≡ after_relay_turn w node ((origin.conn, under origin.hop message) ∷ [])
      (with_rows rows relay) → Outcome last
  given_back held origin rows flag at from_there less last is =
      let asker : Asker = record { conn = origin.conn; node = other_end ends origin.conn node; hop = origin.hop } in
      let answer = under origin.hop message in
      outcome ((origin.conn, answer) ∷ []) rows relay.pending.next last refusals is (fewer held rows less) (as_before Reason refusals)
      (put old (record old { rows = with_own rows }) (record { conn = origin.conn; from = node; to = other_end ends origin.conn node; message = answer })
      (items_of ends w.directions w.fronts)
      (items_of ends (with_message_from node w.directions origin.conn answer) w.fronts)
      (posted_across site ends w.ends node origin.conn answer w.directions w.fronts wired.directions)
      (λ some wo. returns asker taken flag (sender_no_client held rows less) own.is_relay linked lasts (own_row held rows less) refl refl
      (held_key relay.pending.rows conn message.header.hop held at) (ap (asker_of ends node) from_there) wo))

  -- the connection of the asker has ended
  thrown_away : (held : Held) (rows : List Row) → message.header.request ≡ false → held_at relay.pending.rows conn message.header.hop ≡ Some held
      → IsWith (row_of conn held) rows relay.pending.rows → (last : WorldState) → last ≡ after_relay_turn w node [] (with_rows rows relay) → Outcome last
  thrown_away held rows flag at less last is = outcome [] rows relay.pending.next last refusals is (fewer held rows less) (as_before Reason refusals)
      (then_moves (forgets taken flag (sender_no_client held rows less) lasts (own_row held rows less) refl refl
      (held_key relay.pending.rows conn message.header.hop held at)) done)

  -- ---- the cases

  abbrev HasCauses : Type 0
  HasCauses = (sender : LinkedPeer) (refusal : Refusal) → message.header.request ≡ true → peer_on relay.node conn ≡ Some sender → decision relay sender.name
      message ≡ Err refusal → Reason (record { node = node; conn = conn; request = message; refusal = refusal })

  of_request : HasCauses → (sender : LinkedPeer) → peer_on relay.node conn ≡ Some sender → message.header.request ≡ true → (sent : Traffic)
      (after : RelayState) → OnRequest relay conn sender.name message sent after
      → (last : WorldState) → last ≡ after_relay_turn w node sent after → Outcome last
  of_request causes sender on flag sent after (refused refusal e) last is = turned_away refusal flag (causes sender refusal flag on e) last is
  of_request causes sender on flag sent after (forwarded to hop rows count e free more) last is =
      subst (λ (name : List ℕ). IsForwardedTo relay name message to → IsWith (row_of to (held_for conn message (under hop (with_record name message))))
      relay.pending.rows rows
      → last ≡ after_relay_turn w node ((to, under hop (with_record name message)) ∷ []) (with_rows rows (with_next count relay)) → Outcome last)
      (sym (sender_is site ends w.ends node relay own conn from sender (Joins-turned joins) on))
      (λ goes_to m i. sent_on to hop rows count flag free goes_to m last i) (is_forwarded relay sender.name message to e) more is

  of_answer : message.header.request ≡ false → (sent : Traffic) (after : RelayState) → OnAnswer relay conn message sent after → (last : WorldState) → last ≡
      after_relay_turn w node sent after → Outcome last
  of_answer flag sent after (sent_back held origin rows at from_there less) last is = given_back held origin rows flag at from_there less last is
  of_answer flag sent after (dropped held rows at from_there less) last is = thrown_away held rows flag at less last is
  of_answer flag sent after (ignored none) last is = lost last is

  of_message : HasCauses → (sender : LinkedPeer) → peer_on relay.node conn ≡ Some sender → (b : Bool) → message.header.request ≡ b → (sent : Traffic)
      (after : RelayState)
      → MatchBool b (OnRequest relay conn sender.name message sent after) (OnAnswer relay conn message sent after) → (last : WorldState) → last ≡
      after_relay_turn w node sent after → Outcome last
  of_message causes sender on true flag sent after turn last is = of_request causes sender on flag sent after turn last is
  of_message causes sender on false flag sent after turn last is = of_answer flag sent after turn last is

  of_peer : HasCauses → (found : Option LinkedPeer) → peer_on relay.node conn ≡ found → (sent : Traffic) (after : RelayState)
      → MatchOption found (IsIdle relay sent after) (λ sender. OnMessage relay conn sender.name message sent after) → (last : WorldState) → last ≡
      after_relay_turn w node sent after → Outcome last
  of_peer causes None on sent after idle last is = lost last (subst (λ (s : Traffic). last ≡ after_relay_turn w node s relay) idle.0
      (subst (λ (r : RelayState). last ≡ after_relay_turn w node sent r) idle.1 is))
  of_peer causes (Some sender) on sent after turn last is = of_message causes sender on message.header.request refl sent after turn last is

  pub receives_message : HasCauses → (last : WorldState) → RelayTurn w node relay (Received conn message) last → Outcome last
  receives_message causes last t = of_peer causes (peer_on relay.node conn) refl t.sent t.after t.turn last t.next_is

-- what a relay does with a message is moves of the farm, and the farm hangs together as before
pub relay_receives : (site : Site) (ends : Ends) (Reason : Refused → Type 0) → IsSound site → (w : WorldState) → IsWired site ends w → (node from : NodeNo)
    (conn : ConnId) (message : Message) (relay : RelayState) → relay_at node w.relays ≡ Some relay
    → Joins ends conn from node → (items : List Item) → Without (record { conn = conn; from = from; to = node; message = message }) items
    (items_of ends w.directions w.fronts) → has_ended_in w.ends w.directions node conn ≡ false → is_linked site node from ≡ true
    → (refusals : List Refused) (last : WorldState) → RelayTurn w node relay (Received conn message) last
    → ((sender : LinkedPeer) (refusal : Refusal) → message.header.request ≡ true → peer_on relay.node conn ≡ Some sender → decision relay sender.name message ≡
    Err refusal → Reason (record { node = node; conn = conn; request = message; refusal = refusal }))
    → LeadsTo (parties site ends) ends Reason at_most_once (record (farm_of ends refusals w) { items = items }) last × IsWired site ends last
relay_receives site ends Reason checked w wired node from conn message relay stands joins items taken lasts linked refusals last turn causes =
    receives_message site ends Reason checked w wired node from conn message relay stands joins items taken lasts linked refusals causes last turn
