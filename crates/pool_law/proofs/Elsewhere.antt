-- A step that is of no front goes in the same way, whatever jobs the fronts have.
use Rattle.std.proofs.Common.{◌≡◌, ℕ, Bool, true, false, cond, List, [], ◌∷◌, ◌++◌, Option, Some, None, refl, sym, subst, ap, ◌∙◌, MatchBool}
use Rattle.std.specs.List.{find}
use Rattle.dia_base.specs.declared.number.ConnId.{ConnId}
use Rattle.dia_base.specs.declared.number.NodeNo.{NodeNo}
use Rattle.dia_message.specs.declared.message.Message.{Message}
use Rattle.front_core.specs.FrontState.{FrontState, is_among}
use Rattle.front_core.specs.FrontStep.{with_connection, without_connection}
use Rattle.relay_core.specs.declared.run.RelayEvent.{RelayEvent}
use Rattle.relay_core.specs.declared.run.RelayEvent.TheVariants.{Received, Lost}
use Rattle.relay_core.specs.RelayState.{RelayState}
use Rattle.farm_base.specs.declared.site.Site.{Site}
use Rattle.farm_base.specs.declared.step.Step.{Step}
use Rattle.farm_base.specs.declared.step.Step.TheVariants.{Up, Accept, Opened, Send, Deliver, Lose, Cut, Drop}
use Rattle.farm_base.specs.declared.step.Step.TheVariants.{Restart, Crash, Pick, Charge, Refuse, Emit, Sweep, ChangeTerms}
use Rattle.farm_base.specs.Nodes.{is_client}
use Rattle.farm_model.specs.declared.state.Direction.{Direction}
use Rattle.farm_model.specs.declared.state.FrontAt.{FrontAt}
use Rattle.farm_model.specs.Arrival.{AtRelay, ArrivesAtServer, Arrives, after_arrival_at_client}
use Rattle.farm_model.specs.FarmStep.{FarmStep, Flight, Outcome, Delivers, Cuts, Restarts, can_connect, can_cut, can_restart, with_new_connection}
use Rattle.farm_model.specs.FarmStep.{with_connection_of, with_connection_at, next_conn, after_accept, after_opened_on, after_opened, opened_if, after_up}
use Rattle.farm_model.specs.FarmStep.{after_send_on, after_send, after_lost_message, after_crash_at, flight_at, loss_at}
use Rattle.farm_model.specs.Loss.{Loss, LossAt, LearnsLoss, LearnLosses, all_know, learns, after_end, EndGoes, end_with, after_losing_all, CutsBoth}
use Rattle.farm_model.specs.Loss.{peers_of, with_restart_of_front, after_crash, DropAll, all_dropped, drops_too}
use Rattle.farm_model.specs.World.{WorldState, with_front, front_at, relay_at, is_unheard, conn_known}
use Rattle.pool_law.specs.ServedFarm.{IsElsewhere, PoolNow}
use Rattle.pool_law.specs.AsFarm.{as_front, with_workers}
use Rattle.pool_law.proofs.Turns.{front_now, front_elsewhere}
use Rattle.pool_law.proofs.Pools.{AreShown, one_changed, shown, shown_at}

-- the farm with other fronts
abbrev pub showing : WorldState → List FrontAt → WorldState
showing w shows = record w { fronts = shows }

same_next : {x y : WorldState} → Some x ≡ Some y → x ≡ y
same_next e = cc

module _ (site : Site) (workers : ℕ) (pools : NodeNo → PoolNow) where
  abbrev Shown : List FrontAt → List FrontAt → Type 0
  Shown fronts shows = AreShown workers pools fronts shows

  -- ---- a front learns of a connection, or of its end

  changed : (change : FrontState → FrontState) → ((pool : PoolNow) (front : FrontState) → as_front workers pool (change front) ≡ change
      (as_front workers pool front)) → (fronts shows : List FrontAt) (node : NodeNo) (front : FrontState) → Shown fronts shows → front_at node fronts ≡ Some
      front → Shown (with_front node (change front) fronts) (with_front node (change (as_front workers (pools node) front)) shows)
  changed change alike fronts shows node front are at =
      one_changed workers pools pools fronts (with_front node (change front) fronts) shows node (as_front workers (pools node) front)
      (change (as_front workers (pools node) front)) are (shown_at workers pools fronts shows node front are at)
      (ap (λ (f : FrontState). Some f) (sym (alike (pools node) front))
      ∙ sym (ap (shown workers (pools node)) (front_now node (change front) front fronts at)))
      (λ other apart. ap (shown workers (pools other)) (front_elsewhere node (change front) fronts other apart))

  alike_with : (conn : ConnId) (pool : PoolNow) (front : FrontState) → as_front workers pool (with_connection front conn) ≡ with_connection
      (as_front workers pool front) conn
  alike_with conn pool front = go (is_among front.connections conn)
    where
      go : (b : Bool) → as_front workers pool (cond b front (record front { connections = front.connections ++ conn ∷ [] })) ≡ cond b
          (as_front workers pool front) (record (as_front workers pool front) { connections = front.connections ++ conn ∷ [] })
      go true = refl
      go false = refl

  connected : (fronts shows : List FrontAt) (node : NodeNo) (conn : ConnId) → Shown fronts shows → Shown (with_connection_at node conn fronts)
      (with_connection_at node conn shows)
  connected fronts shows node conn are =
      subst (λ (found : Option FrontState). Shown (with_connection_at node conn fronts) (with_connection_of node conn shows found)) (sym (are node))
      (go (front_at node fronts) refl)
    where
      go : (found : Option FrontState) → front_at node fronts ≡ found → Shown (with_connection_of node conn fronts found)
          (with_connection_of node conn shows (shown workers (pools node) found))
      go None at = are
      go (Some front) at = changed (λ (f : FrontState). with_connection f conn) (alike_with conn) fronts shows node front are at

  -- ---- steps that lead to a farm, or do not apply

  -- it leads to the same farm with other fronts
  record Leads (after : WorldState → Option WorldState) (w : WorldState) (shows : List FrontAt) (next : WorldState) : Type 0 where
    now : List FrontAt
    are : Shown next.fronts now
    is : after (showing w shows) ≡ Some (showing next now)

  accept_leads : (w next : WorldState) (shows : List FrontAt) (at from : NodeNo) → Shown w.fronts shows → after_accept site w at from ≡ Some next →
      Leads (λ (v : WorldState). after_accept site v at from) w shows next
  accept_leads w next shows at from are e = go (can_connect site w from at) refl e
    where
      go : (b : Bool) → can_connect site w from at ≡ b → cond b (Some (with_new_connection w from at)) None ≡ Some next →
          Leads (λ (v : WorldState). after_accept site v at from) w shows next
      go true can k =
          subst (λ (n : WorldState). Leads (λ (v : WorldState). after_accept site v at from) w shows n) (same_next k) (record {
            now = with_connection_at at (next_conn w) shows;
            are = connected w.fronts shows at (next_conn w) are;
            is = ap (λ (b : Bool). cond b (Some (with_new_connection (showing w shows) from at)) None) can;
          })
      go false can k = absurd cc

  opened_leads : (w next : WorldState) (shows : List FrontAt) (a b : NodeNo) → Shown w.fronts shows → after_opened w a b ≡ Some next →
      Leads (λ (v : WorldState). after_opened v a b) w shows next
  opened_leads w next shows a b are e = go (find (is_unheard b a) w.directions) refl e
    where
      go : (found : Option Direction) → find (is_unheard b a) w.directions ≡ found → after_opened_on w a b found ≡ Some next →
          Leads (λ (v : WorldState). after_opened v a b) w shows next
      go None f k = absurd cc
      go (Some direction) f k = subst (λ (n : WorldState). Leads (λ (v : WorldState). after_opened v a b) w shows n) (same_next k) (record {
        now = with_connection_at a direction.conn shows;
        are = connected w.fronts shows a direction.conn are;
        is = ap (after_opened_on (showing w shows) a b) f;
      })

  up_leads : (w next : WorldState) (shows : List FrontAt) (a b : NodeNo) → Shown w.fronts shows → after_up site w a b ≡ Some next →
      Leads (λ (v : WorldState). after_up site v a b) w shows next
  up_leads w next shows a b are e = go (after_accept site w b a) refl e
    where
      go : (mid : Option WorldState) → after_accept site w b a ≡ mid → opened_if a b mid ≡ Some next → Leads (λ (v : WorldState). after_up site v a b) w shows next
      go None m k = absurd cc
      go (Some mid) m k =
          let one = accept_leads w mid shows b a are m in
          let two = opened_leads mid next one.now a b one.are k in
          record { now = two.now; are = two.are; is = ap (opened_if a b) one.is ∙ two.is }

  send_leads : (w next : WorldState) (shows : List FrontAt) (client to : NodeNo) (message : Message) → Shown w.fronts shows → after_send site w client to
      message ≡ Some next → Leads (λ (v : WorldState). after_send site v client to message) w shows next
  send_leads w next shows client to message are e = go (is_client site client) refl e
    where
      on : (found : Option ConnId) → conn_known w.directions client to ≡ found → is_client site client ≡ true → after_send_on w client message found ≡ Some next
          → Leads (λ (v : WorldState). after_send site v client to message) w shows next
      on None f is k = absurd cc
      on (Some conn) f is k = subst (λ (n : WorldState). Leads (λ (v : WorldState). after_send site v client to message) w shows n) (same_next k) (record {
        now = shows;
        are = are;
        is = ap (λ (b : Bool). cond b (after_send_on (showing w shows) client message (conn_known w.directions client to)) None) is
            ∙ ap (after_send_on (showing w shows) client message) f;
      })

      go : (b : Bool) → is_client site client ≡ b → cond b (after_send_on w client message (conn_known w.directions client to)) None ≡ Some next →
          Leads (λ (v : WorldState). after_send site v client to message) w shows next
      go true is k = on (conn_known w.directions client to) refl is k
      go false is k = absurd cc

  lose_leads : (w next : WorldState) (shows : List FrontAt) (from to : NodeNo) (place : ℕ) → Shown w.fronts shows → after_lost_message w
      (loss_at w.directions from to place) ≡ Some next → Leads (λ (v : WorldState). after_lost_message v (loss_at v.directions from to place)) w shows next
  lose_leads w next shows from to place are e = go (loss_at w.directions from to place) refl e
    where
      go : (found : Option Flight) → loss_at w.directions from to place ≡ found → after_lost_message w found ≡ Some next →
          Leads (λ (v : WorldState). after_lost_message v (loss_at v.directions from to place)) w shows next
      go None f k = absurd cc
      go (Some flight) f k =
          subst (λ (n : WorldState). Leads (λ (v : WorldState). after_lost_message v (loss_at v.directions from to place)) w shows n) (same_next k)
          (record { now = shows; are = are; is = ap (after_lost_message (showing w shows)) f })

  crash_leads : (w next : WorldState) (shows : List FrontAt) (node : NodeNo) → Shown w.fronts shows → front_at node w.fronts ≡ None → after_crash_at site w node
      ≡ Some next → Leads (λ (v : WorldState). after_crash_at site v node) w shows next
  crash_leads w next shows node are none e = go (can_restart site node) refl e
    where
      go : (b : Bool) → can_restart site node ≡ b → cond b (Some (after_crash w node)) None ≡ Some next → Leads (λ (v : WorldState). after_crash_at site v node)
          w shows next
      go true can k =
          subst (λ (n : WorldState). Leads (λ (v : WorldState). after_crash_at site v node) w shows n) (same_next k) (record {
            now = shows;
            are = subst (λ (found : Option FrontState). Shown (with_restart_of_front node w.fronts found) shows) (sym none) are;
            is = ap (λ (b : Bool). cond b (Some (after_crash (showing w shows) node)) None) can
                ∙ ap (λ (found : Option FrontState). Some (record (after_crash (showing w shows) node) { fronts = with_restart_of_front node shows found }))
                (are node ∙ ap (shown workers (pools node)) none);
          })
      go false can k = absurd cc

  -- ---- a relay does something

  relay_alike : (w next : WorldState) (shows : List FrontAt) (node : NodeNo) (event : RelayEvent) (found : Option RelayState) → AtRelay w node event found next →
      AtRelay (showing w shows) node event found (showing next shows) × (next.fronts ≡ w.fronts)
  relay_alike w next shows node event None same = (ap (λ (v : WorldState). showing v shows) same, ap (λ (v : WorldState). v.fronts) same)
  relay_alike w next shows node event (Some relay) turn = (
    record { sent = turn.sent; after = turn.after; turn = turn.turn; next_is = ap (λ (v : WorldState). showing v shows) turn.next_is },
    ap (λ (v : WorldState). v.fronts) turn.next_is,
  )

  -- a message comes to a node that is no front
  arrives_alike : (w next : WorldState) (shows : List FrontAt) (node : NodeNo) (conn : ConnId) (message : Message) → Shown w.fronts shows → front_at node w.fronts
      ≡ None → Arrives site w node conn message next → Arrives site (showing w shows) node conn message (showing next shows) × (next.fronts ≡ w.fronts)
  arrives_alike w next shows node conn message are none = go (is_client site node)
    where
      gone : front_at node shows ≡ None
      gone = are node ∙ ap (shown workers (pools node)) none

      go : (b : Bool) → MatchBool b (next ≡ after_arrival_at_client w conn message) (ArrivesAtServer w node conn message (front_at node w.fronts) next) → MatchBool
          b (showing next shows ≡ after_arrival_at_client (showing w shows) conn message)
          (ArrivesAtServer (showing w shows) node conn message (front_at node shows) (showing next shows)) × (next.fronts ≡ w.fronts)
      go true same = (ap (λ (v : WorldState). showing v shows) same, ap (λ (v : WorldState). v.fronts) same)
      go false turn =
          let at_relay : AtRelay w node (Received conn message) (relay_at node w.relays) next =
          subst (λ (found : Option FrontState). ArrivesAtServer w node conn message found next) none turn in
          let alike = relay_alike w next shows node (Received conn message) (relay_at node w.relays) at_relay in (
            subst (λ (found : Option FrontState). ArrivesAtServer (showing w shows) node conn message found (showing next shows)) (sym gone) alike.0,
            alike.1,
          )

  -- ---- connections end

  record Learns (w : WorldState) (shows : List FrontAt) (loss : Loss) (next : WorldState) : Type 0 where
    now : List FrontAt
    are : Shown next.fronts now
    learn : LearnsLoss (showing w shows) loss (front_at loss.node shows) (showing next now)

  learns_alike : (w next : WorldState) (shows : List FrontAt) (loss : Loss) → Shown w.fronts shows → LearnsLoss w loss (front_at loss.node w.fronts) next →
      Learns w shows loss next
  learns_alike w next shows loss are = go (front_at loss.node w.fronts) refl
    where
      go : (found : Option FrontState) → front_at loss.node w.fronts ≡ found → LearnsLoss w loss found next → Learns w shows loss next
      go None at turn =
          let gone : front_at loss.node shows ≡ None = are loss.node ∙ ap (shown workers (pools loss.node)) at in
          let alike = relay_alike w next shows loss.node (Lost loss.conn) (relay_at loss.node w.relays) turn in
          record {
            now = shows;
            are = subst (λ (fronts : List FrontAt). Shown fronts shows) (sym alike.1) are;
            learn = subst (λ (f : Option FrontState). LearnsLoss (showing w shows) loss f (showing next shows)) (sym gone) alike.0;
          }
      go (Some front) at same =
          let there = shown_at workers pools w.fronts shows loss.node front are at in
          let now = with_front loss.node (without_connection (as_front workers (pools loss.node) front) loss.conn) shows in
          record {
            now = now;
            are = subst (λ (fronts : List FrontAt). Shown fronts now) (sym (ap (λ (v : WorldState). v.fronts) same))
                (changed (λ (f : FrontState). without_connection f loss.conn) (λ pool f. refl) w.fronts shows loss.node front are at);
            learn = subst (λ (f : Option FrontState). LearnsLoss (showing w shows) loss f (showing next now)) (sym there)
                (ap (λ (v : WorldState). showing v now) same);
          }

  record LearnsAll (w : WorldState) (shows : List FrontAt) (losses : List Loss) (next : WorldState) : Type 0 where
    now : List FrontAt
    are : Shown next.fronts now
    at : List LossAt
    learn : LearnLosses losses (showing w shows) at (showing next now)

  learn_alike : {losses : List Loss} {w next : WorldState} {at : List LossAt} → LearnLosses losses w at next → (shows : List FrontAt) → Shown w.fronts shows →
      LearnsAll w shows losses next
  learn_alike all_know shows are = record { now = shows; are = are; at = []; learn = all_know }
  learn_alike (learns {loss = loss} {w = w} {next = mid} learn more) shows are =
      let one = learns_alike w mid shows loss are learn in
      let rest = learn_alike more one.now one.are in
      record { now = rest.now; are = rest.are; at = record { loss = loss; before = showing w shows } ∷ rest.at; learn = learns one.learn rest.learn }

  record Ends (w : WorldState) (shows : List FrontAt) (node : NodeNo) (found : Option Direction) (next : WorldState) : Type 0 where
    now : List FrontAt
    are : Shown next.fronts now
    at : List LossAt
    goes : EndGoes (showing w shows) node found at (showing next now)

  -- a node whose end goes did not know the connection
  ended_alike : (w next : WorldState) (shows : List FrontAt) (node : NodeNo) (direction : Direction) → Shown w.fronts shows → direction.known ≡ false → next ≡
      after_end w node direction.conn → Ends w shows node (Some direction) next
  ended_alike w next shows node direction are known same =
      let nobody : List LossAt = [] in
      record {
        now = shows;
        are = subst (λ (v : WorldState). Shown v.fronts shows) (sym same) are;
        at = nobody;
        goes = subst (λ (b : Bool). MatchBool b
            (LearnLosses (record { node = node; conn = direction.conn } ∷ []) (after_end (showing w shows) node direction.conn) nobody (showing next shows))
            ((nobody ≡ []) × (showing next shows ≡ after_end (showing w shows) node direction.conn))) (sym known)
            (refl, ap (λ (v : WorldState). showing v shows) same);
      }

  end_alike : (w next : WorldState) (shows : List FrontAt) (node : NodeNo) (found : Option Direction) (losses : List LossAt) → Shown w.fronts shows → EndGoes w
      node found losses next → Ends w shows node found next
  end_alike w next shows node None losses are e = record {
    now = shows;
    are = subst (λ (v : WorldState). Shown v.fronts shows) (sym e.1) are;
    at = [];
    goes = (refl, ap (λ (v : WorldState). showing v shows) e.1);
  }
  end_alike w next shows node (Some direction) losses are e = go direction.known refl e
    where
      go : (b : Bool) → direction.known ≡ b → MatchBool b (LearnLosses (record { node = node; conn = direction.conn } ∷ []) (after_end w node direction.conn)
          losses next) ((losses ≡ []) × (next ≡ after_end w node direction.conn)) → Ends w shows node (Some direction) next
      go true known learn =
          let all = learn_alike learn shows are in
          record {
            now = all.now;
            are = all.are;
            at = all.at;
            goes = subst (λ (b : Bool). MatchBool b
                (LearnLosses (record { node = node; conn = direction.conn } ∷ []) (after_end (showing w shows) node direction.conn) all.at (showing next all.now))
                ((all.at ≡ []) × (showing next all.now ≡ after_end (showing w shows) node direction.conn))) (sym known) all.learn;
          }
      go false known same = ended_alike w next shows node direction are known same.1

  record DropsAll (node : NodeNo) (w : WorldState) (shows : List FrontAt) (peers : List NodeNo) (next : WorldState) : Type 0 where
    now : List FrontAt
    are : Shown next.fronts now
    at : List LossAt
    drop : DropAll node peers (showing w shows) at (showing next now)

  drop_alike : {node : NodeNo} {peers : List NodeNo} {w next : WorldState} {losses : List LossAt} → DropAll node peers w losses next → (shows : List FrontAt) →
      Shown w.fronts shows → DropsAll node w shows peers next
  drop_alike all_dropped shows are = record { now = shows; are = are; at = []; drop = all_dropped }
  drop_alike {node} (drops_too {peer = peer} {w = w} {next = mid} now later is one more) shows are =
      let first = end_alike w mid shows peer (end_with w.directions peer node) now are one in
      let rest = drop_alike more first.now first.are in
      record { now = rest.now; are = rest.are; at = first.at ++ rest.at; drop = drops_too first.at rest.at refl first.goes rest.drop }

  -- ---- any step of no front

  pub record GoesAlike (w : WorldState) (shows : List FrontAt) (step : Step) (next : WorldState) : Type 0 where
    pub now : List FrontAt
    pub are : AreShown workers pools next.fronts now
    pub at : List LossAt
    pub goes : FarmStep (with_workers workers site) (showing w shows) step true at (showing next now)

  some_next : (found : Option WorldState) (old next : WorldState) → Outcome found true old next → found ≡ Some next
  some_next None old next o = absurd (let e = o.0 in cc)
  some_next (Some other) old next o = ap (λ (v : WorldState). Some v) (sym o.1)

  led : (after : WorldState → Option WorldState) (w next : WorldState) (shows now : List FrontAt) → after (showing w shows) ≡ Some (showing next now) →
      Outcome (after (showing w shows)) true (showing w shows) (showing next now)
  led after w next shows now is = subst (λ (found : Option WorldState). Outcome found true (showing w shows) (showing next now)) (sym is) (refl, refl)

  cut_alike : (w next : WorldState) (shows : List FrontAt) (a b : NodeNo) (losses : List LossAt) → Shown w.fronts shows → Cuts w a b true losses next →
      GoesAlike w shows (Cut a b) next
  cut_alike w next shows a b losses are = go (can_cut w a b) refl
    where
      go : (c : Bool) → can_cut w a b ≡ c → MatchBool c ((true ≡ true) × CutsBoth w a b losses next) ((true ≡ false) × (losses ≡ []) × (next ≡ w)) →
          GoesAlike w shows (Cut a b) next
      go true can cuts =
          let both = cuts.1 in
          let emptied = after_losing_all w a b in
          let one = end_alike emptied both.middle shows a (end_with emptied.directions a b) both.first are both.one in
          let two = end_alike both.middle next one.now b (end_with both.middle.directions b a) both.second one.are both.other in
          record {
            now = two.now;
            are = two.are;
            at = one.at ++ two.at;
            goes = subst (λ (c : Bool). MatchBool c ((true ≡ true) × CutsBoth (showing w shows) a b (one.at ++ two.at) (showing next two.now))
                ((true ≡ false) × (one.at ++ two.at ≡ []) × (showing next two.now ≡ showing w shows))) (sym can) (
                  refl,
                  record { first = one.at; second = two.at; middle = showing both.middle one.now; one = one.goes; other = two.goes; both = refl },
                );
          }
      go false can cuts = absurd (let e = cuts.0 in cc)

  restart_alike : (w next : WorldState) (shows : List FrontAt) (node : NodeNo) (losses : List LossAt) → Shown w.fronts shows → front_at node w.fronts ≡ None →
      Restarts site w node true losses next → GoesAlike w shows (Restart node) next
  restart_alike w next shows node losses are none = go (can_restart site node) refl
    where
      crashed : Shown (after_crash w node).fronts shows
      crashed = subst (λ (found : Option FrontState). Shown (with_restart_of_front node w.fronts found) shows) (sym none) are

      same : record (after_crash (showing w shows) node) { fronts = shows } ≡ after_crash (showing w shows) node
      same = ap (λ (found : Option FrontState). record (after_crash (showing w shows) node) { fronts = with_restart_of_front node shows found })
          (sym (are node ∙ ap (shown workers (pools node)) none))

      go : (c : Bool) → can_restart site node ≡ c → MatchBool c ((true ≡ true) × DropAll node (peers_of node w.directions) (after_crash w node) losses next)
          ((true ≡ false) × (losses ≡ []) × (next ≡ w)) → GoesAlike w shows (Restart node) next
      go true can turn =
          let all = drop_alike turn.1 shows crashed in
          record {
            now = all.now;
            are = all.are;
            at = all.at;
            goes = subst (λ (c : Bool). MatchBool c
                ((true ≡ true) × DropAll node (peers_of node w.directions) (after_crash (showing w shows) node) all.at (showing next all.now))
                ((true ≡ false) × (all.at ≡ []) × (showing next all.now ≡ showing w shows))) (sym can) (
                  refl,
                  subst (λ (v : WorldState). DropAll node (peers_of node w.directions) v all.at (showing next all.now)) same all.drop,
                );
          }
      go false can turn = absurd (let e = turn.0 in cc)

  deliver_alike : (w next : WorldState) (shows : List FrontAt) (from to : NodeNo) (place : ℕ) → Shown w.fronts shows → front_at to w.fronts ≡ None →
      Delivers site w to (flight_at w.directions from to place) true next → GoesAlike w shows (Deliver from to place) next
  deliver_alike w next shows from to place are none = go (flight_at w.directions from to place) refl
    where
      go : (found : Option Flight) → flight_at w.directions from to place ≡ found → Delivers site w to found true next →
          GoesAlike w shows (Deliver from to place) next
      go None f d = absurd (let e = d.0 in cc)
      go (Some flight) f d =
          let alike = arrives_alike (record w { directions = flight.directions }) next shows to flight.conn flight.message are none d.1 in
          record {
            now = shows;
            are = subst (λ (fronts : List FrontAt). Shown fronts shows) (sym alike.1) are;
            at = [];
            goes = (
              subst (λ (found : Option Flight). Delivers (with_workers workers site) (showing w shows) to found true (showing next shows)) (sym f) (refl, alike.0),
              refl,
            );
          }

  pub goes_alike : (w next : WorldState) (shows : List FrontAt) (step : Step) (losses : List LossAt) → AreShown workers pools w.fronts shows → IsElsewhere w
      step → FarmStep site w step true losses next → GoesAlike w shows step next
  goes_alike w next shows (Up a b) losses are of s =
      let l = up_leads w next shows a b are (some_next (after_up site w a b) w next s.0) in
      record { now = l.now; are = l.are; at = []; goes = (led (λ (v : WorldState). after_up site v a b) w next shows l.now l.is, refl) }
  goes_alike w next shows (Accept at from) losses are of s =
      let l = accept_leads w next shows at from are (some_next (after_accept site w at from) w next s.0) in
      record { now = l.now; are = l.are; at = []; goes = (led (λ (v : WorldState). after_accept site v at from) w next shows l.now l.is, refl) }
  goes_alike w next shows (Opened a b) losses are of s =
      let l = opened_leads w next shows a b are (some_next (after_opened w a b) w next s.0) in
      record { now = l.now; are = l.are; at = []; goes = (led (λ (v : WorldState). after_opened v a b) w next shows l.now l.is, refl) }
  goes_alike w next shows (Send client to message) losses are of s =
      let l = send_leads w next shows client to message are (some_next (after_send site w client to message) w next s.0) in
      record { now = l.now; are = l.are; at = []; goes = (led (λ (v : WorldState). after_send site v client to message) w next shows l.now l.is, refl) }
  goes_alike w next shows (Deliver from to place) losses are of s = deliver_alike w next shows from to place are of s.0
  goes_alike w next shows (Lose from to place) losses are of s =
      let l = lose_leads w next shows from to place are (some_next (after_lost_message w (loss_at w.directions from to place)) w next s.0) in
      record {
        now = l.now;
        are = l.are;
        at = [];
        goes = (led (λ (v : WorldState). after_lost_message v (loss_at v.directions from to place)) w next shows l.now l.is, refl);
      }
  goes_alike w next shows (Cut a b) losses are of s = cut_alike w next shows a b losses are s
  goes_alike w next shows (Drop a b) losses are of s =
      let e = end_alike w next shows a (end_with w.directions a b) losses are s.1 in
      record { now = e.now; are = e.are; at = e.at; goes = (s.0, e.goes) }
  goes_alike w next shows (Restart node) losses are of s = restart_alike w next shows node losses are of s
  goes_alike w next shows (Crash node) losses are of s =
      let l = crash_leads w next shows node are of (some_next (after_crash_at site w node) w next s.0) in
      record { now = l.now; are = l.are; at = []; goes = (led (λ (v : WorldState). after_crash_at site v node) w next shows l.now l.is, refl) }
  goes_alike w next shows (Pick front worker) losses are of s = absurd of
  goes_alike w next shows (Charge front worker moment) losses are of s = absurd of
  goes_alike w next shows (Refuse front worker) losses are of s = absurd of
  goes_alike w next shows (Emit front worker) losses are of s = absurd of
  goes_alike w next shows (Sweep moment) losses are of s = absurd of
  goes_alike w next shows (ChangeTerms moment change) losses are of s = absurd of
