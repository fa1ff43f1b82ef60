-- A relay that has lost a connection sends again, gives up or drops what it had sent on it: moves of the farm, one a request.
use Rattle.std.proofs.Common.{◌≡◌, ℕ, true, not, List, [], ◌∷◌, ◌++◌, map, Option, Some, None, inl, inr, refl, sym, subst, ap, ◌∙◌, arith, Ok, Err}
use Rattle.std.specs.Prelude.{MatchOption}
use Rattle.dia_base.specs.declared.number.ConnId.{ConnId}
use Rattle.dia_base.specs.declared.number.NodeNo.{NodeNo}
use Rattle.dia_message.specs.declared.message.Message.{Message}
use Rattle.dia_message.specs.Traffic.{Traffic}
use Rattle.cc_view.specs.declared.code.ResultCode.{ResultCode}
use Rattle.cc_view.specs.Answer.{refusal_of}
use Rattle.cc_view.specs.Refusal.{avps_of, refusal_with}
use Rattle.relay_peers.specs.declared.peers.Link.{Link}
use Rattle.relay_peers.specs.PeerTable.{is_on, peer_in}
use Rattle.relay_hops.specs.declared.row.Held.{Held}
use Rattle.relay_hops.specs.declared.row.Row.{Row}
use Rattle.relay_hops.specs.PendingTable.{under, again, resent, orphaned, IsWith}
use Rattle.relay_hops.proofs.LookUps.{moved-rest}
use Rattle.relay_core.specs.declared.run.RelayEvent.TheVariants.{Lost}
use Rattle.relay_core.specs.Failover.{avps_in, next_hop_again, RequestFailover, forgotten, sent_again, given_up, Failover, none_left, least_first}
use Rattle.relay_core.specs.Failover.{after_end, without_origins, OnConnLost}
use Rattle.relay_core.specs.RelayRun.{IsIdle}
use Rattle.relay_core.specs.RelayState.{RelayState, with_rows}
use Rattle.relay_core.specs.RelayStep.{row_of}
use Rattle.relay_core.proofs.Reaching.{next_hop-never, none_on}
use Rattle.farm_law.specs.Farm.{Asker, PendingRow, Refused, Farm}
use Rattle.farm_law.specs.Lists.{Has, Without}
use Rattle.farm_law.specs.Moves.{Moves, done, next as then_moves, Orphaned, orphans, drops, sends_again, gives_up}
use Rattle.farm_law.specs.Parties.{Parties}
use Rattle.farm_law.proofs.Lists.{Has-without, Has-more, Has-split, all-in}
use Rattle.farm_base.specs.declared.site.Site.{Site}
use Rattle.farm_model.specs.declared.state.Direction.{Direction}
use Rattle.farm_model.specs.Arrival.{RelayTurn, after_relay_turn}
use Rattle.farm_model.specs.Cause.{IsStranded}
use Rattle.farm_model.specs.SoundSite.{IsSound}
use Rattle.farm_model.specs.Loss.{Loss}
use Rattle.farm_model.specs.World.{Ends, WorldState, with_message_from, with_traffic_from, relay_at}
use Rattle.farm_base.specs.Nodes.{name_at}
use Rattle.farm_model.proofs.Lists.Among.{Has-unmap, Has-filter}
use Rattle.farm_model.proofs.Moves.AsFarm.{other_end, parties, items_of, asker_of, pending_of, has_ended_in, farm_of, LeadsTo}
use Rattle.farm_model.proofs.Moves.Moving.{join, put}
use Rattle.farm_model.proofs.Moves.Orphaning.{rows_orphaned, is_stranded}
use Rattle.farm_model.proofs.Lists.Placing.{Left-without}
use Rattle.farm_model.proofs.Moves.Posting.{traffic_wired}
use Rattle.farm_model.proofs.Wiring.RelayPeers.{own_name, own_realm, row_sent}
use Rattle.farm_model.proofs.Moves.RowsOf.{RowsStand, rows_stand, IsWith-without, row_less, not_in_use}
use Rattle.farm_model.proofs.Moves.Sending.{posted_across}
use Rattle.farm_model.proofs.OwnCauses.Spending.{IsSingle, once_at, HasSpent, spends_none, fewer_own, moved_own, not_lost, spends_one, spends_twice, spent_once}
use Rattle.farm_model.proofs.OwnCauses.Refusing.{none_refused}
use Rattle.farm_model.proofs.Moves.Turning.{seen, turn_seen, turn_wired}
use Rattle.farm_model.proofs.Wiring.Wired.{DirectionIsWired, RelayIsWired, RowIsWired, IsWired}
use Rattle.farm_model.proofs.Wiring.WiredLemmas.{relay_wired}
use Rattle.farm_model.proofs.Wiring.WorldLemmas.{with_traffic_from-more}

module _ (site : Site) (ends : Ends) (Reason : Refused → Type 0) (checked : IsSound site) (w : WorldState) (wired : IsWired site ends w) (node : NodeNo)
    (lost : ConnId) (relay : RelayState)
    (stands : relay_at node w.relays ≡ Some relay) (ended : has_ended_in w.ends w.directions node lost ≡ true)
    (single : IsSingle ends w) (causes : (message : Message) (code : ResultCode) → IsStranded relay lost message → next_hop_again (after_end lost relay.node)
    message ≡ Err code → Reason (record { node = node; conn = lost; request = message; refusal = refusal_with code })) where
  abbrev p : Parties
  p = parties site ends

  own : RelayIsWired site ends w.ends node relay
  own = relay_wired wired.relays stands

  rows_are : RowsStand ends node w.relays relay
  rows_are = rows_stand ends node w.relays relay (wired.alone node) stands

  abbrev with_own : List Row → List PendingRow
  with_own rows = rows_are.front ++ (map (pending_of ends node) rows ++ rows_are.back)

  abbrev farm : List Refused → List Direction → List Row → Farm
  farm refusals directions rows = seen ends w directions (with_own rows) refusals

  -- the rows are sent to nodes that are no clients, and those on the lost connection were there when it ended
  record AreLeft (rows : List Row) : Type 0 where
    pub fit : (row : Row) → Has row rows → RowIsWired site ends w.ends node row
    pub old : (row : Row) → Has row rows → row.conn ≡ lost → Has row (without_origins lost relay.pending.rows)

  abbrev AreWired : List Direction → Type 0
  AreWired directions = (d : Direction) → Has d directions → DirectionIsWired site ends w.ends d

  -- moves lead to the farm after some of it
  record Settled (refusals : List Refused) (directions : List Direction) (rows : List Row) (sent : Traffic) (between : List Row) : Type 0 where
    pub told : List Refused
    pub moves : Moves p (farm refusals directions rows) (farm told (with_traffic_from node directions sent) between)
    pub caused : HasSpent node lost Reason refusals told rows between
    pub left : AreLeft between

  fewer_left : {row : Row} {rows others : List Row} → IsWith row others rows → AreLeft rows → AreLeft others
  fewer_left less are = record { fit = λ r h. are.fit r (Has-more (IsWith-without less) h); old = λ r h. are.old r (Has-more (IsWith-without less) h) }

  one_request : (refusals : List Refused) (directions : List Direction) → AreWired directions → (held : Held) (rows between : List Row) (sent : Traffic) →
      AreLeft rows
      → RequestFailover (after_end lost relay.node) lost held rows sent between → Settled refusals directions rows sent between
  one_request refusals directions good held rows between sent are (forgotten left none less) = record {
    told = refusals;
    moves = then_moves (drops (Left-without ended (row_less ends node rows_are.front rows_are.back (IsWith-without less)))) done;
    caused = spends_none node lost Reason refusals (fewer_own node lost (IsWith-without less));
    left = fewer_left less are;
  }
  one_request refusals directions good held rows between sent are (sent_again origin to hop left from goes_to free moved) =
      let cut = moved-rest (row_of lost held) (resent to hop (row_of lost held)) rows left moved in
      let out = IsWith-without cut.1 in
      let back_in = IsWith-without cut.2 in
      let new = row_sent site ends w.ends node relay own checked (after_end lost relay.node) refl refl
      (λ link h. (Has-filter (λ (l : Link). not (is_on lost l)) relay.node.peers.links h).0)
      (avps_in (avps_of held.request.body)) held.request.header.application to goes_to (record { origin = held.origin; request = again hop held.request }) in
      let unused = not_in_use ends node rows_are.front rows_are.back rows cut.0 to hop rows_are.front_others rows_are.back_others free (λ r h. Has-more out h)
      in
      record {
        told = refusals;
        moves = put (farm refusals directions rows) (farm refusals directions left)
            (record { conn = to; from = node; to = other_end ends to node; message = again hop held.request }) (items_of ends directions w.fronts)
            (items_of ends (with_message_from node directions to (again hop held.request)) w.fronts)
            (posted_across site ends w.ends node to (again hop held.request) directions w.fronts good)
            (λ some wo. sends_again to (other_end ends to node) hop (row_less ends node rows_are.front rows_are.back out) ended new.peer unused wo
            (row_less ends node rows_are.front rows_are.back back_in));
        caused = spends_none node lost Reason refusals (moved_own node lost held to hop out back_in
            (not_lost node lost to (λ e. next_hop-never (after_end lost relay.node) lost (none_on relay.node.peers.links lost)
            (avps_in (avps_of held.request.body)) held.request.header.application (goes_to ∙ ap (λ (c : ConnId). Ok c) e))));
        left = record {
          fit = all-in (RowIsWired site ends w.ends node) back_in (λ r g. are.fit r (Has-more out g)) new;
          old = λ r h on. elim (Has-split back_in h) [
            | inl q ↦ absurd (next_hop-never (after_end lost relay.node) lost (none_on relay.node.peers.links lost) (avps_in (avps_of held.request.body))
                held.request.header.application
                (goes_to ∙ ap (λ (c : ConnId). Ok c) (ap (λ (x : Row). x.conn) (sym q) ∙ on)))
            | inr g ↦ are.old r (Has-more out g) on
          ];
        };
      }
  one_request refusals directions good held rows between sent are (given_up origin code left from goes_to less) =
      let out = IsWith-without less in
      let its = refusal_of relay.node.name relay.node.realm held.request (refusal_with code) in
      let same : its ≡ refusal_of (name_at site node) site.realm held.request (refusal_with code) =
      ap (λ (n : List ℕ). refusal_of n relay.node.realm held.request (refusal_with code)) (own_name site ends w.ends node relay own)
      ∙ ap (λ (r : List ℕ). refusal_of (name_at site node) r held.request (refusal_with code)) (own_realm site ends w.ends node relay own) in
      let asker : Asker = record { conn = origin.conn; node = other_end ends origin.conn node; hop = origin.hop } in
      let entry : Refused = record { node = node; conn = lost; request = held.request; refusal = refusal_with code } in
      let reason : Reason entry = causes held.request code (is_stranded relay lost held origin from (are.old (row_of lost held) (Has-without out) refl))
      goes_to in
      let answer = under origin.hop its in
      record {
        told = refusals ++ entry ∷ [];
        moves = put (farm refusals directions rows) (farm (refusals ++ entry ∷ []) directions left)
            (record { conn = origin.conn; from = node; to = other_end ends origin.conn node; message = answer }) (items_of ends directions w.fronts)
            (items_of ends (with_message_from node directions origin.conn answer) w.fronts)
            (posted_across site ends w.ends node origin.conn answer directions w.fronts good)
            (λ some wo. gives_up asker (refusal_with code) (row_less ends node rows_are.front rows_are.back out) ended (ap (asker_of ends node) from)
            own.is_relay
            (subst (λ (m : Message). Without (record { conn = origin.conn; from = node; to = other_end ends origin.conn node; message = under origin.hop m })
            some (items_of ends directions w.fronts)) same wo));
        caused = spends_one node lost Reason refusals held (refusal_with code) reason out;
        left = fewer_left less are;
      }

  each_request : (refusals : List Refused) (directions : List Direction) → AreWired directions → (rows : List Row) (sent : Traffic) (between : List Row) →
      AreLeft rows
      → Failover (after_end lost relay.node) lost rows sent between → Settled refusals directions rows sent between
  each_request refusals directions good rows sent between are (none_left same none) = record
      { told = refusals; moves = done; caused = spends_none node lost Reason refusals (λ n c hop. omega arith); left = are }
  each_request refusals directions good rows sent between are (least_first hop held first_rows then_rows last_rows some more at least this rest) =
      let a = one_request refusals directions good held rows then_rows some are this in
      let b = each_request a.told (with_traffic_from node directions some) (traffic_wired site ends w.ends node some directions good) then_rows more between
      a.left rest in
      record {
        told = b.told;
        moves = join a.moves (subst (λ (ds : List Direction). Moves p (farm a.told (with_traffic_from node directions some) then_rows)
            (farm b.told ds between)) (sym (with_traffic_from-more node directions some more)) b.moves);
        caused = spends_twice node lost Reason a.caused b.caused;
        left = b.left;
      }

  orphans_fit : (row : Row) → Has row (without_origins lost relay.pending.rows) → RowIsWired site ends w.ends node row
  orphans_fit row h =
      let was = Has-unmap (orphaned lost) relay.pending.rows h in
      let its = own.rows was.0 was.1 in
      subst (RowIsWired site ends w.ends node) was.2 (record { joins = its.joins; below = its.below; peer = its.peer })

  abbrev Outcome : List Refused → WorldState → Type 0
  Outcome refusals last = LeadsTo p ends Reason (once_at node) (farm_of ends refusals w) last × IsWired site ends last

  idle : (refusals : List Refused) (last : WorldState) → last ≡ after_relay_turn w node [] relay → Outcome refusals last
  idle refusals last is = (
    record {
      refused = refusals;
      moves = turn_seen p ends (farm_of ends refusals w) w node [] relay last (with_own relay.pending.rows) refusals is (rows_are.change relay)
          (subst (λ (rs : List PendingRow). Moves p (farm_of ends refusals w) (seen ends w w.directions rs refusals)) rows_are.now done);
      caused = none_refused Reason (once_at node) refusals;
    },
    turn_wired site ends w node relay [] relay last wired stands is own,
  )

  failed_over : (refusals : List Refused) (sent : Traffic) (after : RelayState) → OnConnLost relay lost sent after → (last : WorldState) → last ≡
      after_relay_turn w node sent after → Outcome refusals last
  failed_over refusals sent after turn last is =
      let new : RelayState = with_rows turn.rows (record { node = after_end lost relay.node; pending = relay.pending }) in
      let new_is : last ≡ after_relay_turn w node sent new = subst (λ (r : RelayState). last ≡ after_relay_turn w node sent r) turn.after is in
      let all = each_request refusals w.directions wired.directions (without_origins lost relay.pending.rows) sent turn.rows
      (record { fit = orphans_fit; old = λ r h on. h }) turn.failover in
      let begin : Moves p (farm_of ends refusals w) (farm refusals w.directions (without_origins lost relay.pending.rows)) =
      then_moves (orphans (subst (λ (rs : List PendingRow). Orphaned rs (with_own (without_origins lost relay.pending.rows))) (sym rows_are.now)
      (rows_orphaned ends node lost rows_are.front rows_are.back relay.pending.rows))) done in (
        record {
          refused = all.told;
          moves = turn_seen p ends (farm_of ends refusals w) w node sent new last (with_own turn.rows) all.told new_is (rows_are.change new)
              (join begin all.moves);
          caused = spent_once site ends w node lost relay Reason rows_are.front rows_are.back rows_are.now single all.caused;
        },
        turn_wired site ends w node relay sent new last wired stands new_is
            (record {
              is_relay = own.is_relay;
              node_is = own.node_is;
              links = λ link h. own.links link
                  (Has-filter (λ (l : Link). not (is_on lost l)) relay.node.peers.links h).0;
              rows = all.left.fit;
            }),
      )

  of_link : (refusals : List Refused) (found : Option NodeNo) (sent : Traffic) (after : RelayState) → MatchOption found (IsIdle relay sent after)
      (λ peer. OnConnLost relay lost sent after)
      → (last : WorldState) → last ≡ after_relay_turn w node sent after → Outcome refusals last
  of_link refusals None sent after nothing last is = idle refusals last
      (subst (λ (s : Traffic). last ≡ after_relay_turn w node s relay) nothing.0
      (subst (λ (r : RelayState). last ≡ after_relay_turn w node sent r) nothing.1 is))
  of_link refusals (Some peer) sent after turn last is = failed_over refusals sent after turn last is

  pub loses_connection : (refusals : List Refused) (last : WorldState) → RelayTurn w node relay (Lost lost) last → Outcome refusals last
  loses_connection refusals last t = of_link refusals (peer_in relay.node.peers.links lost) t.sent t.after t.turn last t.next_is

-- what a relay does when it learns that a connection has ended is moves of the farm, and the farm hangs together as before
pub relay_loses : (site : Site) (ends : Ends) (Reason : Refused → Type 0) → IsSound site → (w : WorldState) → IsWired site ends w → (loss : Loss)
    (relay : RelayState) → relay_at loss.node w.relays ≡ Some relay
    → has_ended_in w.ends w.directions loss.node loss.conn ≡ true → IsSingle ends w
    → (refusals : List Refused) (last : WorldState) → RelayTurn w loss.node relay
    (Lost loss.conn) last
    → ((message : Message) (code : ResultCode) → IsStranded relay loss.conn message → next_hop_again (after_end loss.conn relay.node) message ≡ Err code →
    Reason (record { node = loss.node; conn = loss.conn; request = message; refusal = refusal_with code }))
    → LeadsTo (parties site ends) ends Reason (once_at loss.node) (farm_of ends refusals w) last × IsWired site ends last
relay_loses site ends Reason checked w wired loss relay stands ended single refusals last turn causes = loses_connection site ends Reason checked w wired
    loss.node loss.conn relay stands ended single causes refusals last turn
