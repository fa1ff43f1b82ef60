-- What a step leaves, where a front of the farm was changed in its place.
use Rattle.std.proofs.Common.{◌≡◌, ℕ, Bool, true, false, cond, List, [], ◌∷◌, ◌++◌, get_or, Option, Some, None, refl, sym, subst, ap, ◌∙◌, true≢false}
use Rattle.std.specs.Prelude.{slice_set, MatchBool, not}
use Rattle.std.proofs.lemmas.Bool.{and_parts, not-true}
use Rattle.std.proofs.lemmas.List.{set-get_or}
use Rattle.dia_base.specs.declared.number.ConnId.{ConnId}
use Rattle.dia_base.specs.declared.number.Moment.{Moment}
use Rattle.dia_base.specs.declared.number.NodeNo.{NodeNo}
use Rattle.cc_book.specs.Taking.{Ledger}
use Rattle.dia_message.specs.declared.message.Message.{Message}
use Rattle.dia_message.specs.declared.message.Out.{Out}
use Rattle.front_core.specs.FrontState.{FrontState, is_among}
use Rattle.front_core.specs.FrontStep.{after_arrival, sent_at_arrival, after_pick, after_charge, after_refusal, after_emit, Applies, Charges, Emits}
use Rattle.farm_base.specs.declared.site.Site.{Site}
use Rattle.farm_model.specs.declared.state.Direction.{Direction}
use Rattle.farm_model.specs.declared.state.FrontAt.{FrontAt}
use Rattle.farm_model.specs.declared.state.RelayAt.{RelayAt}
use Rattle.farm_base.specs.Lists.{IsFirst, replace_first}
use Rattle.dia_message.specs.Traffic.{Traffic}
use Rattle.farm_model.specs.World.{WorldState, is_unheard, is_connected, conn_known, with_message_from, with_traffic_from, is_front_at, with_front, front_at}
use Rattle.farm_base.specs.Nodes.{is_client, is_linked}
use Rattle.farm_model.specs.Arrival.{Arrives, ArrivesAtServer, after_arrival_at_client, after_arrival_at_front}
use Rattle.farm_model.specs.FarmStep.{Outcome, can_connect, with_new_connection, with_connection_at, with_link_at, after_accept, after_opened_on, after_opened, opened_if, after_up, after_send, after_send_on, after_pick_at, with_pick, after_refusal_at, after_emit_at, with_emit, after_charge_at, with_charge}
use Rattle.farm_model.proofs.Lists.ListLemmas.{first_item}
use Rattle.farm_model.proofs.Relays.EndsInTurn.{opens_next}
use Rattle.farm_model.proofs.Wiring.WorldLemmas.{front_found, front_changed}
use Rattle.farm_node.specs.Events.{NodeEvent as event}
use Rattle.farm_node.specs.Nodes.{OnFrontEvent}
use Rattle.farm_world.specs.NodeEvents.{Reacts}
use Rattle.farm_world.proofs.NodeEvents.{arrived}

-- the front of the part at a place, changed
abbrev pub fronts_with : WorldState → ℕ → FrontAt → FrontState → List FrontAt
fronts_with w place part front = slice_set w.fronts place (record { node = part.node; front = front })

-- the farm with these lines and fronts
abbrev pub with_parts : WorldState → List Direction → List FrontAt → WorldState
with_parts w directions fronts = record w { directions = directions; fronts = fronts }

-- nothing is changed
same_fronts : (w : WorldState) (place : ℕ) (part : FrontAt) (front : FrontState) → part ≡ get_or w.fronts place part → front ≡ part.front → fronts_with w place part front ≡ w.fronts
same_fronts w place part front read same =
    ap (fronts_with w place part) same ∙ ap (slice_set w.fronts place) read ∙ set-get_or w.fronts place part

-- the node that has opened a connection learns that it is made
pub opened_turn : (w : WorldState) (a b : NodeNo) (place : ℕ) (part : Direction) (fronts : List FrontAt) (relays : List RelayAt) → IsFirst (is_unheard b a) w.directions place → part ≡ get_or w.directions place part
    → fronts ≡ with_connection_at a part.conn w.fronts → relays ≡ with_link_at a b part.conn w.relays
    → Outcome (after_opened w a b) true w (record w { directions = slice_set w.directions place (record part { known = true }); fronts = fronts; relays = relays })
opened_turn w a b place part fronts relays first read fronts_are relays_are =
    subst (λ (o : Option Direction). Outcome (after_opened_on w a b o) true w (record w { directions = slice_set w.directions place (record part { known = true }); fronts = fronts; relays = relays }))
    (sym (first_item (is_unheard b a) w.directions place part first read)) (
      refl,
      ap (λ (ds : List Direction). record w { directions = ds; fronts = fronts; relays = relays }) (sym (first.change (record part { known = true })))
          ∙ ap (λ (fs : List FrontAt). record w { directions = replace_first (is_unheard b a) (record part { known = true }) w.directions; fronts = fs; relays = relays }) fronts_are
          ∙ ap (λ (rs : List RelayAt). record w { directions = replace_first (is_unheard b a) (record part { known = true }) w.directions; fronts = with_connection_at a part.conn w.fronts; relays = rs }) relays_are,
    )

-- a connection is made, and the node that has opened it learns that
pub up_turn : (site : Site) (w mid next : WorldState) (a b : NodeNo) (applied : Bool) → Outcome (after_accept site w b a) true w mid → Outcome (after_opened mid a b) applied mid next → Outcome (after_up site w a b) applied w next
up_turn site w mid next a b applied accepted learned = go (can_connect site w a b) refl accepted
  where
    go : (c : Bool) → can_connect site w a b ≡ c → Outcome (cond c (Some (with_new_connection w a b)) None) true w mid → Outcome (opened_if a b (cond c (Some (with_new_connection w a b)) None)) applied w next
    go false e made = absurd (true≢false made.0)
    go true e made =
        let found = opens_next w a b (not-true (is_connected w.directions a b) (and_parts (is_linked site a b) (not (is_connected w.directions a b)) e).1) in
        let there = subst (λ (v : WorldState). Outcome (after_opened v a b) applied v next) made.1 learned in
        subst (λ (o : Option Direction). Outcome (after_opened_on (with_new_connection w a b) a b o) applied w next) (sym found)
        (subst (λ (o : Option Direction). Outcome (after_opened_on (with_new_connection w a b) a b o) applied (with_new_connection w a b) next) found there)

pub no_up_turn : (site : Site) (w mid : WorldState) (a b : NodeNo) → Outcome (after_accept site w b a) false w mid → Outcome (after_up site w a b) false w mid
no_up_turn site w mid a b accepted = go (can_connect site w a b) accepted
  where
    go : (c : Bool) → Outcome (cond c (Some (with_new_connection w a b)) None) false w mid → Outcome (opened_if a b (cond c (Some (with_new_connection w a b)) None)) false w mid
    go false made = made
    go true made = absurd (true≢false (sym made.0))

-- a client's message joins the list of its connection
pub send_turn : (site : Site) (w : WorldState) (client to : NodeNo) (conn : ConnId) (message : Message) (directions : List Direction) (sent : Traffic) → is_client site client ≡ true
    → conn_known w.directions client to ≡ Some conn → directions ≡ with_message_from client w.directions conn message → sent ≡ w.sent ++ (conn, message) ∷ []
    → Outcome (after_send site w client to message) true w (record w { directions = directions; sent = sent })
send_turn site w client to conn message directions sent is known posted pushed =
    subst (λ (o : Option WorldState). Outcome o true w (record w { directions = directions; sent = sent }))
    (sym (
    ap (λ (b : Bool). cond b (after_send_on w client message (conn_known w.directions client to)) None) is
    ∙ ap (after_send_on w client message) known
    )) (
      refl,
      ap (λ (ds : List Direction). record w { directions = ds; sent = sent }) posted
          ∙ ap (λ (s : Traffic). record w { directions = with_message_from client w.directions conn message; sent = s }) pushed,
    )

-- a message comes to a node that is no client
at_server : (site : Site) (w : WorldState) (node : NodeNo) (conn : ConnId) (message : Message) (o : Option FrontState) (next : WorldState) → is_client site node ≡ false → front_at node w.fronts ≡ o → ArrivesAtServer w node conn message o next → Arrives site w node conn message next
at_server site w node conn message o next is found arrives =
    subst (λ (b : Bool). MatchBool b (next ≡ after_arrival_at_client w conn message) (ArrivesAtServer w node conn message (front_at node w.fronts) next)) (sym is)
    (subst (λ (f : Option FrontState). ArrivesAtServer w node conn message f next) (sym found) arrives)

pub arrive_turn : (site : Site) (w : WorldState) (node : NodeNo) (conn : ConnId) (message : Message) (place : ℕ) (part : FrontAt) (front : FrontState) (directions : List Direction) (sent : Traffic) → is_client site node ≡ false
    → IsFirst (is_front_at node) w.fronts place → part ≡ get_or w.fronts place part → Reacts OnFrontEvent part.front (event.message conn message) sent front → directions ≡ with_traffic_from node w.directions sent
    → Arrives site w node conn message (with_parts w directions (fronts_with w place part front))
arrive_turn site w node conn message place part front directions sent is first read takes directions_are =
    at_server site w node conn message (Some part.front) (with_parts w directions (fronts_with w place part front)) is (front_found node w.fronts place part first read)
    (go (is_among part.front.connections conn) (arrived part.front conn message sent front takes))
  where
    go : (b : Bool) → MatchBool b ((sent ≡ sent_at_arrival part.front conn message) × (front ≡ after_arrival part.front conn message)) ((sent ≡ []) × (front ≡ part.front))
        → with_parts w directions (fronts_with w place part front) ≡ cond b (after_arrival_at_front w node conn message part.front) w
    go true (sent_is, front_is) =
        ap (λ (ds : List Direction). with_parts w ds (fronts_with w place part front)) (directions_are ∙ ap (with_traffic_from node w.directions) sent_is)
        ∙ ap (with_parts w (with_traffic_from node w.directions (sent_at_arrival part.front conn message))) (ap (fronts_with w place part) front_is ∙ front_changed node w.fronts place part (after_arrival part.front conn message) first read)
    go false (sent_is, same) =
        ap (λ (ds : List Direction). with_parts w ds (fronts_with w place part front)) (directions_are ∙ ap (with_traffic_from node w.directions) sent_is)
        ∙ ap (with_parts w w.directions) (same_fronts w place part front read same)

-- what a worker did at a front that was found, if it did anything
worker_turn : (w : WorldState) (node : NodeNo) (place : ℕ) (part : FrontAt) (applied : Bool) (front : FrontState) (o : Option FrontState) → IsFirst (is_front_at node) w.fronts place → part ≡ get_or w.fronts place part
    → Applies o applied part.front front → Outcome (with_pick w node o) applied w (with_parts w w.directions (fronts_with w place part front))
worker_turn w node place part applied front None first read a = (a.0, ap (with_parts w w.directions) (same_fronts w place part front read a.1))
worker_turn w node place part applied front (Some next) first read a = (a.0, ap (with_parts w w.directions) (ap (fronts_with w place part) a.1 ∙ front_changed node w.fronts place part next first read))

pub pick_turn : (w : WorldState) (node : NodeNo) (worker place : ℕ) (part : FrontAt) (applied : Bool) (front : FrontState) → IsFirst (is_front_at node) w.fronts place → part ≡ get_or w.fronts place part
    → Applies (after_pick part.front worker) applied part.front front → Outcome (after_pick_at w node worker (front_at node w.fronts)) applied w (with_parts w w.directions (fronts_with w place part front))
pick_turn w node worker place part applied front first read picks =
    subst (λ (o : Option WorldState). Outcome o applied w (with_parts w w.directions (fronts_with w place part front))) (sym (ap (after_pick_at w node worker) (front_found node w.fronts place part first read)))
    (worker_turn w node place part applied front (after_pick part.front worker) first read picks)

pub refuse_turn : (w : WorldState) (node : NodeNo) (worker place : ℕ) (part : FrontAt) (applied : Bool) (front : FrontState) → IsFirst (is_front_at node) w.fronts place → part ≡ get_or w.fronts place part
    → Applies (after_refusal part.front worker) applied part.front front → Outcome (after_refusal_at w node worker (front_at node w.fronts)) applied w (with_parts w w.directions (fronts_with w place part front))
refuse_turn w node worker place part applied front first read refuses =
    subst (λ (o : Option WorldState). Outcome o applied w (with_parts w w.directions (fronts_with w place part front))) (sym (ap (after_refusal_at w node worker) (front_found node w.fronts place part first read)))
    (worker_turn w node place part applied front (after_refusal part.front worker) first read refuses)

pub emit_none_turn : (w : WorldState) (node : NodeNo) (worker place : ℕ) (part : FrontAt) (front : FrontState) → IsFirst (is_front_at node) w.fronts place → part ≡ get_or w.fronts place part
    → Emits (after_emit part.front worker) None part.front front → Outcome (after_emit_at w node worker (front_at node w.fronts)) false w (with_parts w w.directions (fronts_with w place part front))
emit_none_turn w node worker place part front first read emits =
    subst (λ (o : Option WorldState). Outcome o false w (with_parts w w.directions (fronts_with w place part front))) (sym (ap (after_emit_at w node worker) (front_found node w.fronts place part first read))) (go (after_emit part.front worker) emits)
  where
    go : (o : Option (FrontState × Traffic)) → Emits o None part.front front → Outcome (with_emit w node o) false w (with_parts w w.directions (fronts_with w place part front))
    go None e = (refl, ap (with_parts w w.directions) (same_fronts w place part front read e))
    go (Some turn) e = absurd e

pub emit_turn : (w : WorldState) (node : NodeNo) (worker place : ℕ) (part : FrontAt) (front : FrontState) (out : Out) (directions : List Direction) → IsFirst (is_front_at node) w.fronts place → part ≡ get_or w.fronts place part
    → Emits (after_emit part.front worker) (Some out) part.front front → directions ≡ with_traffic_from node w.directions out.items
    → Outcome (after_emit_at w node worker (front_at node w.fronts)) true w (with_parts w directions (fronts_with w place part front))
emit_turn w node worker place part front out directions first read emits directions_is =
    subst (λ (o : Option WorldState). Outcome o true w (with_parts w directions (fronts_with w place part front))) (sym (ap (after_emit_at w node worker) (front_found node w.fronts place part first read))) (go (after_emit part.front worker) emits)
  where
    go : (o : Option (FrontState × Traffic)) → Emits o (Some out) part.front front → Outcome (with_emit w node o) true w (with_parts w directions (fronts_with w place part front))
    go None e = absurd e
    go (Some turn) e = (
      refl,
      ap (λ (ds : List Direction). with_parts w ds (fronts_with w place part front)) (directions_is ∙ ap (with_traffic_from node w.directions) e.0)
          ∙ ap (with_parts w (with_traffic_from node w.directions turn.1)) (ap (fronts_with w place part) e.1 ∙ front_changed node w.fronts place part turn.0 first read),
    )

pub charge_turn : (w : WorldState) (node : NodeNo) (worker : ℕ) (moment : Moment) (place : ℕ) (part : FrontAt) (applied : Bool) (front : FrontState) (book : Ledger) → IsFirst (is_front_at node) w.fronts place → part ≡ get_or w.fronts place part
    → Charges (after_charge part.front w.book moment worker) applied part.front w.book front book
    → Outcome (after_charge_at w node worker moment (front_at node w.fronts)) applied w (record w { fronts = fronts_with w place part front; book = book })
charge_turn w node worker moment place part applied front book first read charges =
    subst (λ (o : Option WorldState). Outcome o applied w (record w { fronts = fronts_with w place part front; book = book })) (sym (ap (after_charge_at w node worker moment) (front_found node w.fronts place part first read))) (go (after_charge part.front w.book moment worker) charges)
  where
    go : (o : Option (FrontState × Ledger)) → Charges o applied part.front w.book front book → Outcome (with_charge w node o) applied w (record w { fronts = fronts_with w place part front; book = book })
    go None e = (e.0, ap (λ (fs : List FrontAt). record w { fronts = fs; book = book }) (same_fronts w place part front read e.1) ∙ ap (λ (b : Ledger). record w { book = b }) e.2)
    go (Some turn) e = (
      e.0,
      ap (λ (fs : List FrontAt). record w { fronts = fs; book = book }) (ap (fronts_with w place part) e.1 ∙ front_changed node w.fronts place part turn.0 first read)
          ∙ ap (λ (b : Ledger). record w { fronts = with_front node turn.0 w.fronts; book = b }) e.2,
    )
