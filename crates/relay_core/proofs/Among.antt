-- Those that stay are among those that are up, and a relay that nobody leaves is every relay.
use Rattle.std.proofs.Common.{◌≡◌, ℕ, ◌==◌, not, Bool, true, false, cond, MatchBool, MatchOption, List, [], ◌∷◌, Option, Some, None, option_map, refl, ap, sym, subst, ◌∙◌}
use Rattle.std.specs.List.{filter, find}
use Rattle.dia_base.specs.declared.number.ConnId.{ConnId}
use Rattle.dia_base.specs.declared.number.NodeNo.{NodeNo}
use Rattle.dia_message.specs.declared.message.Message.{Message}
use Rattle.dia_message.specs.Traffic.{Traffic}
use Rattle.relay_peers.specs.declared.peers.Link.{Link}
use Rattle.relay_peers.specs.declared.peers.LinkedPeer.{LinkedPeer}
use Rattle.relay_peers.specs.PeerTable.{is_on, is_other, peer_in, with_link, with_staying, without_conn}
use Rattle.relay_peers.proofs.Finding.{find_push, or_else}
use Rattle.relay_core.specs.declared.node.RelayNode.{RelayNode}
use Rattle.relay_core.specs.declared.run.RelayEvent.{RelayEvent}
use Rattle.relay_core.specs.declared.run.RelayEvent.TheVariants.{Up, Received, Lost, Restart}
use Rattle.relay_core.specs.Failover.{OnConnLost, after_end}
use Rattle.relay_core.specs.RelayRun.{IsIdle, OnEvent}
use Rattle.relay_core.specs.RelayState.{RelayState, peer_on}
use Rattle.relay_core.specs.RelayStep.{OnAnswer, OnMessage, OnRequest, refused, forwarded, sent_back, dropped, ignored}
use Rattle.relay_core.specs.Staying.{OnConnLostAmong, OnEventAmong, OnMessageAmong, OnRequestAmong, node_among}
use Rattle.relay_core.proofs.Reaching.{none_on}
use Rattle.relay_core.proofs.Unanswered.{Within, found_apart, same_conn}

-- ---- a message leaves the peers as they are

pub request_node : {relay : RelayState} {conn : ConnId} {sender : List ℕ} {request : Message} {items : Traffic} {after : RelayState} → OnRequest relay conn sender request items after → after.node ≡ relay.node
request_node (refused refusal e) = refl
request_node (forwarded to hop rows count e free more) = refl

pub answer_node : {relay : RelayState} {conn : ConnId} {answer : Message} {items : Traffic} {after : RelayState} → OnAnswer relay conn answer items after → after.node ≡ relay.node
answer_node (sent_back held origin rows e f w) = refl
answer_node (dropped held rows e f w) = refl
answer_node (ignored e) = refl

-- ---- where nobody leaves

request-among : (relay : RelayState) {conn : ConnId} {sender : List ℕ} {request : Message} {items : Traffic} {after : RelayState} → OnRequest relay conn sender request items after
    → OnRequestAmong relay.node.peers.links relay conn sender request items after
request-among relay (refused refusal e) = record { does = refused refusal e; up = refl }
request-among relay (forwarded to hop rows count e free more) = record { does = forwarded to hop rows count e free more; up = refl }

message-among : (relay after : RelayState) (conn : ConnId) (sender : List ℕ) (message : Message) (items : Traffic) (flag : Bool)
    → MatchBool flag (OnRequest relay conn sender message items after) (OnAnswer relay conn message items after)
    → MatchBool flag (OnRequestAmong relay.node.peers.links relay conn sender message items after) (OnAnswer relay conn message items after)
message-among relay after conn sender message items true step = request-among relay step
message-among relay after conn sender message items false step = step

alone-request : (relay after : RelayState) (conn : ConnId) (sender : List ℕ) (request : Message) (items : Traffic)
    → OnRequestAmong relay.node.peers.links relay conn sender request items after → OnRequest relay conn sender request items after
alone-request relay after conn sender request items step =
    let same : node_among relay.node.peers.links after.node ≡ after.node = ap (node_among relay.node.peers.links) step.up ∙ sym step.up in
    subst (λ (node : RelayNode). OnRequest relay conn sender request items (record { node = node; pending = after.pending })) same step.does

alone-by : (relay after : RelayState) (conn : ConnId) (sender : List ℕ) (message : Message) (items : Traffic) (flag : Bool)
    → MatchBool flag (OnRequestAmong relay.node.peers.links relay conn sender message items after) (OnAnswer relay conn message items after)
    → MatchBool flag (OnRequest relay conn sender message items after) (OnAnswer relay conn message items after)
alone-by relay after conn sender message items true step = alone-request relay after conn sender message items step
alone-by relay after conn sender message items false step = step

pub message-alone : (relay after : RelayState) (conn : ConnId) (sender : List ℕ) (message : Message) (items : Traffic)
    → OnMessageAmong relay.node.peers.links relay conn sender message items after → OnMessage relay conn sender message items after
message-alone relay after conn sender message items step = alone-by relay after conn sender message items message.header.request step

pub lost-alone : (relay after : RelayState) (conn : ConnId) (items : Traffic)
    → OnConnLostAmong relay.node.peers.links relay conn items after → OnConnLost relay conn items after
lost-alone relay after conn items step = record { rows = step.rows; failover = step.failover; after = step.after }

received-among : (relay after : RelayState) (conn : ConnId) (message : Message) (items : Traffic) (peer : Option LinkedPeer)
    → MatchOption peer (IsIdle relay items after) (λ sender. OnMessage relay conn sender.name message items after)
    → MatchOption peer (IsIdle relay items after) (λ sender. OnMessageAmong relay.node.peers.links relay conn sender.name message items after)
received-among relay after conn message items None step = step
received-among relay after conn message items (Some sender) step = message-among relay after conn sender.name message items message.header.request step

lost-among : (relay after : RelayState) (conn : ConnId) (items : Traffic) (peer : Option NodeNo)
    → MatchOption peer (IsIdle relay items after) (λ _. OnConnLost relay conn items after)
    → MatchOption peer (IsIdle relay items after) (λ _. OnConnLostAmong relay.node.peers.links relay conn items after)
lost-among relay after conn items None step = step
lost-among relay after conn items (Some peer) step = record { rows = step.rows; failover = step.failover; after = step.after }

pub event-among : (relay after : RelayState) (event : RelayEvent) (items : Traffic) → OnEvent relay event items after → OnEventAmong relay.node.peers.links relay event items after
event-among relay after (Up peer conn) items step = step
event-among relay after (Received conn message) items step = received-among relay after conn message items (peer_on relay.node conn) step
event-among relay after (Lost conn) items step = lost-among relay after conn items (peer_in relay.node.peers.links conn) step
event-among relay after Restart items step = step

-- ---- the connections of those that stay

no_link : (o : Option Link) → option_map (λ (link : Link). link.peer) o ≡ None → o ≡ None
no_link None e = refl
no_link (Some link) e = absurd cc

kept_none : (taken passes : Bool) (test : Link → Bool) (link : Link) (left links : List Link) → test link ≡ passes → cond passes (Some link) (find test links) ≡ None
    → (find test links ≡ None → find test left ≡ None) → find test (cond taken (link ∷ left) left) ≡ None
kept_none taken true test link left links is e rest = absurd cc
kept_none true false test link left links is e rest = ap (λ (b : Bool). cond b (Some link) (find test left)) is ∙ rest e
kept_none false false test link left links is e rest = rest e

none_left : (test take : Link → Bool) (links : List Link) → find test links ≡ None → find test (filter take links) ≡ None
none_left test take [] none = refl
none_left test take (link ∷ links) none =
    kept_none (take link) (test link) test link (filter take links) links refl none (none_left test take links)

-- where none is on the connection, none of those that are left is
pub fewer : (take : Link → Bool) (links : List Link) (conn : ConnId) → peer_in links conn ≡ None → peer_in (filter take links) conn ≡ None
fewer take links conn none =
    ap (λ (o : Option Link). option_map (λ (link : Link). link.peer) o) (none_left (is_on conn) take links (no_link (find (is_on conn) links) none))

-- a peer leaves
pub within-left : (node : RelayNode) (staying : List Link) (conn : ConnId) → Within node (node_among staying node) → Within node (node_among (without_conn staying conn) node)
within-left node staying conn within other none = fewer (λ link. not (is_on conn link)) staying other (within other none)

-- a connection ends
pub within-lost : (node : RelayNode) (staying : List Link) (lost : ConnId) → Within node (node_among staying node) → Within (after_end lost node) (node_among (without_conn staying lost) (after_end lost node))
within-lost node staying lost within other none = by_conn (lost.0 == other.0) refl
  where
    by_conn : (b : Bool) → (lost.0 == other.0) ≡ b → peer_in (without_conn staying lost) other ≡ None
    by_conn true same = ap (λ (conn : ConnId). peer_in (without_conn staying lost) conn) (sym (same_conn lost other same)) ∙ none_on staying lost
    by_conn false apart =
        fewer (λ link. not (is_on lost link)) staying other
        (within other (ap (λ (o : Option Link). option_map (λ (link : Link). link.peer) o) (sym (found_apart node.peers.links lost other apart)) ∙ none))

-- a peer comes up
neither : (o : Option Link) (here : Bool) (link : Link) → option_map (λ (l : Link). l.peer) (or_else o (cond here (Some link) None)) ≡ None
    → (option_map (λ (l : Link). l.peer) o ≡ None) × (here ≡ false)
neither (Some l) here link e = absurd cc
neither None true link e = absurd cc
neither None false link e = (refl, refl)

pub within-up : (node : RelayNode) (staying : List Link) (peer : NodeNo) (conn : ConnId) (links : List Link) → links ≡ with_link node.peers.links peer conn → Within node (node_among staying node)
    → (other : ConnId) → peer_in links other ≡ None → peer_in (with_staying staying peer conn) other ≡ None
within-up node staying peer conn links is within other none =
    let link : Link = record { peer = peer; conn = conn } in
    let parts = neither (find (is_on other) node.peers.links) (is_on other link) link
    (ap (λ (o : Option Link). option_map (λ (l : Link). l.peer) o) (sym (find_push (is_on other) node.peers.links link)) ∙ ap (λ (ls : List Link). peer_in ls other) (sym is) ∙ none) in
    let left = no_link (find (is_on other) (filter (is_other peer conn) staying)) (fewer (is_other peer conn) staying other (within other parts.0)) in
    ap (λ (o : Option Link). option_map (λ (l : Link). l.peer) o)
    (find_push (is_on other) (filter (is_other peer conn) staying) link
    ∙ ap (λ (o : Option Link). or_else o (cond (is_on other link) (Some link) None)) left
    ∙ ap (λ (b : Bool). or_else None (cond b (Some link) None)) parts.1)

-- and it is on another connection
pub within-alone : (staying : List Link) (peer : NodeNo) (on conn : ConnId) → peer_in staying conn ≡ None → (on.0 == conn.0) ≡ false → peer_in (with_staying staying peer on) conn ≡ None
within-alone staying peer on conn none other =
    let link : Link = record { peer = peer; conn = on } in
    let left = no_link (find (is_on conn) (filter (is_other peer on) staying)) (fewer (is_other peer on) staying conn none) in
    ap (λ (o : Option Link). option_map (λ (l : Link). l.peer) o)
    (find_push (is_on conn) (filter (is_other peer on) staying) link
    ∙ ap (λ (o : Option Link). or_else o (cond (is_on conn link) (Some link) None)) left
    ∙ ap (λ (b : Bool). or_else None (cond b (Some link) None)) other)

-- another connection has another number
pub other_conn : (peer : NodeNo) (on conn : ConnId) → (Up peer on ≡ Up peer conn → ⊥) → (on.0 == conn.0) ≡ false
other_conn peer on conn other = by_number (on.0 == conn.0) refl
  where
    by_number : (b : Bool) → (on.0 == conn.0) ≡ b → (on.0 == conn.0) ≡ false
    by_number false e = e
    by_number true e = absurd (other (ap (λ (c : ConnId). Up peer c) (same_conn on conn e)))
