-- Each pending request is unanswered: its identifier is in use, on the connection of a peer that is up.
use Rattle.std.proofs.Common.{◌≡◌, ℕ, ◌==◌, ◌&&◌, ◌||◌, not, ◌⊎◌, inl, inr, Bool, true, false, cond, is_some, is_none, List, [], ◌∷◌, Option, Some, None, option_map, Ok, refl, ap, sym, subst, ◌∙◌}
use Rattle.std.specs.List.{find}
use Rattle.std.specs.Option.{option_and_then}
use Rattle.std.proofs.lemmas.Bool.{and_parts, eq-eqb, eqb-true}
use Rattle.dia_base.specs.declared.number.ConnId.{ConnId}
use Rattle.dia_base.specs.declared.number.NodeNo.{NodeNo}
use Rattle.dia_message.specs.declared.message.Message.{Message}
use Rattle.dia_message.specs.Traffic.{Traffic}
use Rattle.dia_base.specs.declared.node.NodeKind.{NodeKind}
use Rattle.cc_view.specs.Answer.{refusal_of}
use Rattle.cc_view.specs.Refusal.{avps_of, refusal_with}
use Rattle.relay_hops.specs.declared.row.Held.{Held}
use Rattle.relay_hops.specs.declared.row.Row.{Row}
use Rattle.relay_hops.specs.PendingTable.{IsMap, IsWith, has_key, held_at, hop_of, under, again, resent, without_origin}
use Rattle.relay_hops.proofs.InUse.{held-without, its_hop}
use Rattle.relay_hops.proofs.LookUps.{held-with, held-orphaned, moved-rest}
use Rattle.relay_hops.proofs.Rows.{its_key}
use Rattle.relay_peers.specs.declared.peers.Link.{Link}
use Rattle.relay_peers.specs.declared.peers.LinkedPeer.{LinkedPeer}
use Rattle.relay_peers.specs.PeerTable.{is_on, kind_in, peer_in, peer_numbered, with_link, without_conn}
use Rattle.relay_peers.proofs.Finding.{find_push, or_else}
use Rattle.relay_core.specs.declared.error.RelayError.{RelayError}
use Rattle.relay_core.specs.declared.error.RelayError.TheVariants.{UnknownPeer}
use Rattle.relay_core.specs.declared.node.RelayNode.{RelayNode}
use Rattle.relay_core.specs.declared.run.RelayEvent.{RelayEvent}
use Rattle.relay_core.specs.declared.run.RelayEvent.TheVariants.{Up, Received, Lost}
use Rattle.relay_core.specs.Acts.{Act, happened, sent, acts_with, ends, is_under, is_in_use, before_event}
use Rattle.relay_core.specs.Connecting.{up_fault, after_up}
use Rattle.relay_core.specs.Failover.{RequestFailover, forgotten, sent_again, given_up, avps_in, after_end, without_origins}
use Rattle.relay_core.specs.Forwarding.{with_record}
use Rattle.relay_core.specs.NextHop.{outgoing}
use Rattle.relay_core.specs.RelayState.{RelayState, peer_on, with_links}
use Rattle.relay_core.specs.RelayStep.{OnRequest, OnAnswer, refused, forwarded, sent_back, dropped, ignored, row_of, held_for}
use Rattle.relay_core.proofs.Holding.{Holding, cause_of}
use Rattle.relay_core.proofs.Reaching.{next_hop-never, none_on}
use Rattle.relay_core.proofs.Rules.{forwarded-by}

-- ---- what is so under each identifier of a pending request

abbrev pub OfPending : (ConnId → ℕ → Type 0) → List Row → Type 0
OfPending P rows = (to : ConnId) (hop : ℕ) → is_some (held_at rows to hop) ≡ true → P to hop

left_some : (key : Bool) (whole : Option Held) → is_some (cond key None whole) ≡ true → (key ≡ false) × (is_some whole ≡ true)
left_some true whole e = absurd cc
left_some false whole e = (refl, e)

-- a row is taken out
pub pending-less : (P Q : ConnId → ℕ → Type 0) (row : Row) (others rows : List Row) → IsWith row others rows → IsMap rows → ((to : ConnId) (hop : ℕ) → has_key to hop row ≡ false → P to hop → Q to hop)
    → OfPending P rows → OfPending Q others
pending-less P Q row others rows w map f all to hop e =
    let left = left_some (has_key to hop row) (held_at rows to hop) (sym (ap is_some (held-without row others rows to hop w map)) ∙ e) in
    f to hop left.0 (all to hop left.1)

either_some : (key : Bool) (held : Held) (rest : Option Held) → is_some (cond key (Some held) rest) ≡ true → (key ≡ true) ⊎ (is_some rest ≡ true)
either_some true held rest e = inl refl
either_some false held rest e = inr e

-- a row is put in
pub pending-more : (P : ConnId → ℕ → Type 0) (row : Row) (others rows : List Row) → IsWith row others rows → IsMap rows → P row.conn (hop_of row) → OfPending P others → OfPending P rows
pending-more P row others rows w map its all to hop e =
    elim (either_some (has_key to hop row) row.held (held_at others to hop) (sym (ap is_some (held-with row others rows to hop w map)) ∙ e)) [
      | inl key ↦ let same = its_key to hop row key in subst (λ (conn : ConnId). P conn hop) same.0 (subst (λ (h : ℕ). P row.conn h) same.1 its)
      | inr there ↦ all to hop there
    ]

some_mapped : (ended : ConnId) (o : Option Held) → is_some (option_map (without_origin ended) o) ≡ is_some o
some_mapped ended None = refl
some_mapped ended (Some held) = refl

pub pending-orphans : (P Q : ConnId → ℕ → Type 0) (ended : ConnId) (rows : List Row) → ((to : ConnId) (hop : ℕ) → P to hop → Q to hop) → OfPending P rows → OfPending Q (without_origins ended rows)
pending-orphans P Q ended rows f all to hop e = f to hop (all to hop (sym (ap is_some (held-orphaned rows ended to hop) ∙ some_mapped ended (held_at rows to hop)) ∙ e))

-- ---- the peers that are up

-- a connection that a peer is up on is that of a linked peer
abbrev pub AreLinked : RelayNode → Type 0
AreLinked node = (conn : ConnId) → is_some (peer_in node.peers.links conn) ≡ true → is_some (peer_on node conn) ≡ true

pub same_conn : (a b : ConnId) → (a.0 == b.0) ≡ true → a ≡ b
same_conn a b e = ap conn_id (eqb-true a.0 b.0 e)
  where
    conn_id : ℕ → ConnId
    conn_id n = record { 0 = n }

pub some_unless : (o : Option NodeNo) → (o ≡ None → ⊥) → is_some o ≡ true
some_unless None f = absurd (f refl)
some_unless (Some peer) f = refl

-- a request goes out on the connection of a linked peer
pub reached_linked : (node : RelayNode) → AreLinked node → (to : ConnId) → (peer_in node.peers.links to ≡ None → ⊥) → is_some (peer_on node to) ≡ true
reached_linked node linked to f = linked to (some_unless (peer_in node.peers.links to) f)

-- on a connection that no peer of the first is up on, none of the other is
abbrev pub Within : RelayNode → RelayNode → Type 0
Within node routing = (conn : ConnId) → peer_in node.peers.links conn ≡ None → peer_in routing.peers.links conn ≡ None

-- ---- a peer comes up

abbrev linked_of : List LinkedPeer → Option Link → Option LinkedPeer
linked_of linked o = option_and_then (peer_numbered linked) (option_map (λ (l : Link). l.peer) o)

some_kind : (o : Option LinkedPeer) → is_some (option_map (λ (p : LinkedPeer). p.kind) o) ≡ true → is_some o ≡ true
some_kind None e = absurd cc
some_kind (Some p) e = refl

more_linked : (linked : List LinkedPeer) (link : Link) → is_some (kind_in linked link.peer) ≡ true → (o : Option Link) (here : Bool)
    → (is_some (option_map (λ (l : Link). l.peer) o) ≡ true → is_some (linked_of linked o) ≡ true) → is_some (option_map (λ (l : Link). l.peer) (or_else o (cond here (Some link) None))) ≡ true → is_some (linked_of linked (or_else o (cond here (Some link) None))) ≡ true
more_linked linked link known (Some l) here f e = f e
more_linked linked link known None true f e = some_kind (peer_numbered linked link.peer) known
more_linked linked link known None false f e = absurd cc

still_linked : (linked : List LinkedPeer) (link : Link) (o : Option Link) (here : Bool) → is_some (linked_of linked o) ≡ true → is_some (linked_of linked (or_else o (cond here (Some link) None))) ≡ true
still_linked linked link (Some l) here e = e
still_linked linked link None here e = absurd cc

pub linked-up : (node : RelayNode) (peer : NodeNo) (conn : ConnId) → is_some (kind_in node.peers.linked peer) ≡ true → AreLinked node → AreLinked (with_links (with_link node.peers.links peer conn) node)
linked-up node peer conn known are to =
    let link : Link = record { peer = peer; conn = conn } in
    subst (λ (o : Option Link). is_some (option_map (λ (l : Link). l.peer) o) ≡ true → is_some (linked_of node.peers.linked o) ≡ true) (sym (find_push (is_on to) node.peers.links link))
    (more_linked node.peers.linked link known (find (is_on to) node.peers.links) (is_on to link) (are to))

pub up-up : (node : RelayNode) (peer : NodeNo) (conn to : ConnId) → is_some (peer_on node to) ≡ true → is_some (peer_on (with_links (with_link node.peers.links peer conn) node) to) ≡ true
up-up node peer conn to e =
    let link : Link = record { peer = peer; conn = conn } in
    subst (λ (o : Option Link). is_some (linked_of node.peers.linked o) ≡ true) (sym (find_push (is_on to) node.peers.links link))
    (still_linked node.peers.linked link (find (is_on to) node.peers.links) (is_on to link) e)

-- ---- a connection ends

apart : (b c : Bool) (link : Link) (links : List Link) (lost to : ConnId) → (lost.0 == to.0) ≡ false → is_on lost link ≡ b → is_on to link ≡ c → find (is_on to) (without_conn links lost) ≡ find (is_on to) links
    → find (is_on to) (cond (not b) (link ∷ without_conn links lost) (without_conn links lost)) ≡ cond c (Some link) (find (is_on to) links)
apart true true link links lost to other e f rest = absurd (let same : (lost.0 == to.0) ≡ true = eq-eqb lost.0 to.0 (sym (eqb-true link.conn.0 lost.0 e) ∙ eqb-true link.conn.0 to.0 f) in cc)
apart true false link links lost to other e f rest = rest
apart false c link links lost to other e f rest = ap (λ (b : Bool). cond b (Some link) (find (is_on to) (without_conn links lost))) f ∙ ap (λ (o : Option Link). cond c (Some link) o) rest

pub found_apart : (links : List Link) (lost to : ConnId) → (lost.0 == to.0) ≡ false → find (is_on to) (without_conn links lost) ≡ find (is_on to) links
found_apart [] lost to other = refl
found_apart (link ∷ links) lost to other = apart (is_on lost link) (is_on to link) link links lost to other refl refl (found_apart links lost to other)

pub up-lost : (node : RelayNode) (lost to : ConnId) → (lost.0 == to.0) ≡ false → is_some (peer_on node to) ≡ true → is_some (peer_on (after_end lost node) to) ≡ true
up-lost node lost to other e = ap (λ (o : Option Link). is_some (linked_of node.peers.linked o)) (found_apart node.peers.links lost to other) ∙ e

pub linked-lost : (node : RelayNode) (lost : ConnId) → AreLinked node → AreLinked (after_end lost node)
linked-lost node lost are to = by_conn (lost.0 == to.0) refl
  where
    by_conn : (b : Bool) → (lost.0 == to.0) ≡ b → is_some (peer_in (without_conn node.peers.links lost) to) ≡ true → is_some (peer_on (after_end lost node) to) ≡ true
    by_conn true same e = absurd (let none : is_some (peer_in (without_conn node.peers.links lost) to) ≡ false = ap (λ (c : ConnId). is_some (peer_in (without_conn node.peers.links lost) c)) (sym (same_conn lost to same)) ∙ ap is_some (none_on node.peers.links lost) in cc)
    by_conn false other e =
        up-lost node lost to other (are to (sym (ap (λ (o : Option Link). is_some (option_map (λ (l : Link). l.peer) o)) (found_apart node.peers.links lost to other)) ∙ e))

-- ---- between two events

-- the identifier is in use, on the connection of a peer that is up
pub record IsWaiting (node : RelayNode) (acts : List Act) (to : ConnId) (hop : ℕ) : Type 0 where
  pub in_use : is_in_use to hop acts ≡ true
  pub up : is_some (peer_on node to) ≡ true

pub record Unanswered (node : RelayNode) (acts : List Act) (rows : List Row) : Type 0 where
  pub linked : AreLinked node
  pub waiting : OfPending (IsWaiting node acts) rows

still : (b rest : Bool) → rest ≡ true → (b || rest) ≡ true
still true rest e = refl
still false rest e = e

-- something is sent
pub waiting-sent : (node : RelayNode) (conn : ConnId) (message : Message) (acts : List Act) (to : ConnId) (hop : ℕ) → IsWaiting node acts to hop → IsWaiting node (sent conn message ∷ acts) to hop
waiting-sent node conn message acts to hop w = record { in_use = still (message.header.request && is_under to hop conn message) (is_in_use to hop acts) w.in_use; up = w.up }

-- a request is sent
in_use-now : (to : ConnId) (message : Message) (acts : List Act) → message.header.request ≡ true → is_in_use to message.header.hop (sent to message ∷ acts) ≡ true
in_use-now to message acts flag = all_three message.header.request (to.0 == to.0) (message.header.hop == message.header.hop) flag (eq-eqb to.0 to.0 refl) (eq-eqb message.header.hop message.header.hop refl)
  where
    all_three : (a b c : Bool) → a ≡ true → b ≡ true → c ≡ true → ((a && (b && c)) || is_in_use to message.header.hop acts) ≡ true
    all_three true true true e f g = refl
    all_three true true false e f g = absurd cc
    all_three true false c e f g = absurd cc
    all_three false b c e f g = absurd cc

-- an event happens that ends no identifier of a peer that is up
pub waiting-event : (node : RelayNode) (event : RelayEvent) (acts : List Act) (to : ConnId) (hop : ℕ) → ends to hop event ≡ false → IsWaiting node acts to hop → IsWaiting node (happened event ∷ acts) to hop
waiting-event node event acts to hop e w = record { in_use = ap (λ (b : Bool). not b && is_in_use to hop acts) e ∙ w.in_use; up = w.up }

no_end : (b up : Bool) → up ≡ true → (b ≡ true → up ≡ false) → b ≡ false
no_end true up e f = absurd (let no = f refl in cc)
no_end false up e f = refl

abbrev pub EndsNothing : RelayNode → RelayEvent → Type 0
EndsNothing node event = (to : ConnId) (hop : ℕ) → ends to hop event ≡ true → is_some (peer_on node to) ≡ false

-- an event that ends nothing on the connection of a peer that is up
pub unanswered-event : (node : RelayNode) (event : RelayEvent) (acts : List Act) (rows : List Row) → EndsNothing node event → Unanswered node acts rows → Unanswered node (happened event ∷ acts) rows
unanswered-event node event acts rows f u = record {
  linked = u.linked;
  waiting = λ to hop e.
      let w = u.waiting to hop e in
      waiting-event node event acts to hop (no_end (ends to hop event) (is_some (peer_on node to)) w.up (f to hop)) w;
}

-- a message comes on a connection that no peer is up on
pub received-idle : (node : RelayNode) (conn : ConnId) (message : Message) → peer_on node conn ≡ None → EndsNothing node (Received conn message)
received-idle node conn message none to hop e =
    let key = and_parts (not message.header.request) (is_under to hop conn message) e in
    let same = same_conn conn to (and_parts (conn.0 == to.0) (message.header.hop == hop) key.1).0 in
    ap (λ (c : ConnId). is_some (peer_on node c)) (sym same) ∙ ap is_some none

-- a connection ends that no peer is up on
pub lost-idle : (node : RelayNode) (conn : ConnId) → peer_in node.peers.links conn ≡ None → EndsNothing node (Lost conn)
lost-idle node conn none to hop e =
    ap (λ (c : ConnId). is_some (peer_on node c)) (sym (same_conn conn to e)) ∙ ap (λ (o : Option NodeNo). is_some (option_and_then (peer_numbered node.peers.linked) o)) none

known_peer : (o : Option NodeKind) (fault : RelayError) (rest : Option RelayError) → cond (is_none o) (Some fault) rest ≡ None → is_some o ≡ true
known_peer None fault rest e = absurd cc
known_peer (Some kind) fault rest e = refl

-- a peer comes up
pub unanswered-up : (relay : RelayState) (peer : NodeNo) (conn : ConnId) (acts : List Act) → up_fault relay peer conn ≡ None → Unanswered relay.node acts relay.pending.rows
    → Unanswered (after_up relay peer conn).node (happened (Up peer conn) ∷ acts) relay.pending.rows
unanswered-up relay peer conn acts e u = record {
  linked = linked-up relay.node peer conn (known_peer (kind_in relay.node.peers.linked peer) (UnknownPeer peer) _ e) u.linked;
  waiting = λ to hop f. let w = u.waiting to hop f in record { in_use = w.in_use; up = up-up relay.node peer conn to w.up };
}

-- no peer is up, and nothing is pending
pub unanswered-nothing : (node : RelayNode) (acts : List Act) → node.peers.links ≡ [] → Unanswered node acts []
unanswered-nothing node acts none = record {
  linked = λ conn e. absurd (let no : is_some (peer_in node.peers.links conn) ≡ false = ap (λ (links : List Link). is_some (peer_in links conn)) none in cc);
  waiting = λ to hop e. absurd cc;
}

-- ---- a request comes

unanswered-sent : (node : RelayNode) (conn : ConnId) (message : Message) (acts : List Act) (rows : List Row) → Unanswered node acts rows → Unanswered node (sent conn message ∷ acts) rows
unanswered-sent node conn message acts rows u = record { linked = u.linked; waiting = λ to hop e. waiting-sent node conn message acts to hop (u.waiting to hop e) }

-- It is routed by a relay with no more connections: it goes out on the connection of a peer that is up.
pub unanswered-request : (node : RelayNode) (relay next : RelayState) (conn : ConnId) (sender : List ℕ) (request : Message) (items : Traffic) (acts : List Act) → request.header.request ≡ true
    → Within node relay.node → OnRequest relay conn sender request items next → IsMap next.pending.rows → Unanswered node acts relay.pending.rows
    → Unanswered node (acts_with items (happened (Received conn request) ∷ acts)) next.pending.rows
unanswered-request node relay next conn sender request items acts flag within step map u = go step map
  where
    came : Unanswered node (happened (Received conn request) ∷ acts) relay.pending.rows
    came =
        unanswered-event node (Received conn request) acts relay.pending.rows
        (λ to hop e. absurd (let no : ends to hop (Received conn request) ≡ false = ap (λ (b : Bool). not b && is_under to hop conn request) flag in cc)) u

    go : {out : Traffic} {after : RelayState} → OnRequest relay conn sender request out after → IsMap after.pending.rows
        → Unanswered node (acts_with out (happened (Received conn request) ∷ acts)) after.pending.rows
    go (refused refusal e) m = unanswered-sent node conn (refusal_of relay.node.name relay.node.realm request refusal) (happened (Received conn request) ∷ acts) relay.pending.rows came
    go (forwarded to hop rows count e free w) m =
        let message = under hop (with_record sender request) in
        let row = row_of to (held_for conn request message) in
        let now = happened (Received conn request) ∷ acts in
        let way = (forwarded-by relay sender request (avps_of request.body) to e).2 in
        let more = unanswered-sent node to message now relay.pending.rows came in
        record {
          linked = u.linked;
          waiting = pending-more (IsWaiting node (sent to message ∷ now)) row relay.pending.rows rows w m
              (record { in_use = in_use-now to message now flag; up = reached_linked node u.linked to (λ none. next_hop-never relay.node to (within to none) (outgoing (Some sender) way.0) request.header.application way.3) })
              more.waiting;
        }

-- ---- an answer comes

neither : (flag b : Bool) → b ≡ false → (flag && b) ≡ false
neither true b e = e
neither false b e = refl

-- no row has the identifier of the answer any more
others_wait : (node : RelayNode) (conn : ConnId) (answer : Message) (held : Held) (rows others : List Row) (acts : List Act) → held_at rows conn answer.header.hop ≡ Some held → IsWith (row_of conn held) others rows → IsMap rows
    → Unanswered node acts rows → Unanswered node (happened (Received conn answer) ∷ acts) others
others_wait node conn answer held rows others acts at_hop w map u = record {
  linked = u.linked;
  waiting = pending-less (IsWaiting node acts) (IsWaiting node (happened (Received conn answer) ∷ acts)) (row_of conn held) others rows w map
      (λ to hop free wait.
      waiting-event node (Received conn answer) acts to hop
      (neither (not answer.header.request) (is_under to hop conn answer) (ap (λ (n : ℕ). (conn.0 == to.0) && (n == hop)) (sym (its_hop rows conn answer.header.hop held at_hop)) ∙ free)) wait)
      u.waiting;
}

none_waits : (node : RelayNode) (conn : ConnId) (answer : Message) (rows : List Row) (acts : List Act) → held_at rows conn answer.header.hop ≡ None → Unanswered node acts rows → Unanswered node (happened (Received conn answer) ∷ acts) rows
none_waits node conn answer rows acts none u = record { linked = u.linked; waiting = λ to hop e. waiting-event node (Received conn answer) acts to hop (neither (not answer.header.request) (is_under to hop conn answer) (other to hop e)) (u.waiting to hop e) }
  where
    by_key : (to : ConnId) (hop : ℕ) (b : Bool) → is_under to hop conn answer ≡ b → is_some (held_at rows to hop) ≡ true → is_under to hop conn answer ≡ false
    by_key to hop false f e = f
    by_key to hop true f e =
        let key = and_parts (conn.0 == to.0) (answer.header.hop == hop) f in
        let free : held_at rows to hop ≡ None =
        ap (λ (c : ConnId). held_at rows c hop) (sym (same_conn conn to key.0)) ∙ ap (held_at rows conn) (sym (eqb-true answer.header.hop hop key.1)) ∙ none in
        absurd (let no = ap is_some free in cc)

    other : (to : ConnId) (hop : ℕ) → is_some (held_at rows to hop) ≡ true → is_under to hop conn answer ≡ false
    other to hop e = by_key to hop (is_under to hop conn answer) refl e

pub unanswered-answer : (relay next : RelayState) (conn : ConnId) (answer : Message) (items : Traffic) (acts : List Act) → OnAnswer relay conn answer items next → IsMap relay.pending.rows
    → Unanswered relay.node acts relay.pending.rows → Unanswered next.node (acts_with items (happened (Received conn answer) ∷ acts)) next.pending.rows
unanswered-answer relay next conn answer items acts step map u = go step
  where
    go : {out : Traffic} {after : RelayState} → OnAnswer relay conn answer out after → Unanswered after.node (acts_with out (happened (Received conn answer) ∷ acts)) after.pending.rows
    go (sent_back held origin rows at_hop from w) =
        unanswered-sent relay.node origin.conn (under origin.hop answer) (happened (Received conn answer) ∷ acts) rows (others_wait relay.node conn answer held relay.pending.rows rows acts at_hop w map u)
    go (dropped held rows at_hop from w) = others_wait relay.node conn answer held relay.pending.rows rows acts at_hop w map u
    go (ignored none) = none_waits relay.node conn answer relay.pending.rows acts none u

-- ---- a connection is lost

-- on the lost connection the identifier was in use until then, and elsewhere it is
pub record WasWaiting (node : RelayNode) (lost : ConnId) (acts : List Act) (to : ConnId) (hop : ℕ) : Type 0 where
  pub here : (lost.0 == to.0) ≡ true → is_in_use to hop (before_event acts) ≡ true
  pub elsewhere : (lost.0 == to.0) ≡ false → IsWaiting node acts to hop

pub waiting-lost : (node : RelayNode) (lost : ConnId) (acts : List Act) (rows : List Row) → Unanswered node acts rows → OfPending (WasWaiting (after_end lost node) lost (happened (Lost lost) ∷ acts)) (without_origins lost rows)
waiting-lost node lost acts rows u =
    pending-orphans (IsWaiting node acts) (WasWaiting (after_end lost node) lost (happened (Lost lost) ∷ acts)) lost rows
    (λ to hop w. record {
      here = λ _. w.in_use;
      elsewhere = λ other. waiting-event (after_end lost node) (Lost lost) acts to hop other (record { in_use = w.in_use; up = up-lost node lost to other w.up });
    })
    u.waiting

was-sent : (node : RelayNode) (lost conn : ConnId) (message : Message) (acts : List Act) (to : ConnId) (hop : ℕ) → WasWaiting node lost acts to hop → WasWaiting node lost (sent conn message ∷ acts) to hop
was-sent node lost conn message acts to hop w = record { here = w.here; elsewhere = λ other. waiting-sent node conn message acts to hop (w.elsewhere other) }

-- one request is forgotten, goes out again, or is given up
pub waiting-failover_one : (routing node : RelayNode) (lost : ConnId) (held : Held) (rows left : List Row) (items : Traffic) (acts : List Act) → Within node routing → AreLinked node
    → peer_in node.peers.links lost ≡ None → RequestFailover routing lost held rows items left → Holding acts rows → IsMap left
    → OfPending (WasWaiting node lost acts) rows → OfPending (WasWaiting node lost (acts_with items acts)) left
waiting-failover_one routing node lost held rows left items acts within linked down step h map waits = go step map
  where
    less : (conn : ConnId) (message : Message) (others : List Row) → IsWith (row_of lost held) others rows → OfPending (WasWaiting node lost (sent conn message ∷ acts)) others
    less conn message others w =
        pending-less (WasWaiting node lost acts) (WasWaiting node lost (sent conn message ∷ acts)) (row_of lost held) others rows w h.map
        (λ to hop free was. was-sent node lost conn message acts to hop was) waits

    go : {out : Traffic} {after : List Row} → RequestFailover routing lost held rows out after → IsMap after → OfPending (WasWaiting node lost (acts_with out acts)) after
    go (forgotten after from w) m = pending-less (WasWaiting node lost acts) (WasWaiting node lost acts) (row_of lost held) after rows w h.map (λ to hop free was. was) waits
    go (sent_again origin to hop after from way free w) m =
        let parts = moved-rest (row_of lost held) (resent to hop (row_of lost held)) rows after w in
        let cause = cause_of acts (row_of lost held) parts.0 rows h parts.1 in
        let message = again hop held.request in
        pending-more (WasWaiting node lost (sent to message ∷ acts)) (resent to hop (row_of lost held)) parts.0 after parts.2 m
        (record {
          here = λ same. absurd (next_hop-never routing lost (within lost down) (avps_in (avps_of held.request.body)) held.request.header.application (way ∙ ap (λ (conn : ConnId). Ok conn) (sym (same_conn lost to same))));
          elsewhere = λ _. record {
            in_use = in_use-now to message acts cause.flag;
            up = reached_linked node linked to (λ none. next_hop-never routing to (within to none) (avps_in (avps_of held.request.body)) held.request.header.application way);
          };
        })
        (less to message parts.0 parts.1)
    go (given_up origin code after from way w) m = less origin.conn (under origin.hop (refusal_of routing.name routing.realm held.request (refusal_with code))) after w

-- nothing is left on the lost connection
pub waiting-elsewhere : (node : RelayNode) (lost : ConnId) (rows : List Row) (acts : List Act) → ((hop : ℕ) → held_at rows lost hop ≡ None) → OfPending (WasWaiting node lost acts) rows → OfPending (IsWaiting node acts) rows
waiting-elsewhere node lost rows acts none waits to hop e = by_conn (lost.0 == to.0) refl
  where
    by_conn : (b : Bool) → (lost.0 == to.0) ≡ b → IsWaiting node acts to hop
    by_conn false other = (waits to hop e).elsewhere other
    by_conn true same = absurd (let no : is_some (held_at rows to hop) ≡ false = ap (λ (c : ConnId). is_some (held_at rows c hop)) (sym (same_conn lost to same)) ∙ ap is_some (none hop) in cc)

-- the identifier of what was sent on the lost connection was in use until then
pub was_in_use : (node : RelayNode) (lost : ConnId) (hop : ℕ) (held : Held) (rows : List Row) (acts : List Act) → held_at rows lost hop ≡ Some held → OfPending (WasWaiting node lost acts) rows
    → is_in_use lost held.request.header.hop (before_event acts) ≡ true
was_in_use node lost hop held rows acts at_hop waits =
    ap (λ (n : ℕ). is_in_use lost n (before_event acts)) (its_hop rows lost hop held at_hop)
    ∙ (waits lost hop (ap is_some at_hop)).here (eq-eqb lost.0 lost.0 refl)
