-- A relay some of whose peers leave: they have said goodbye, and get no new request (RFC 6733, section 5.4).
use Rattle.std.specs.Prelude.{◌≡◌, ℕ, true, List, [], ◌∷◌, Option, Some, None, IsSome, MatchBool, MatchOption}
use Rattle.dia_base.specs.declared.number.ConnId.{ConnId}
use Rattle.dia_base.specs.declared.number.NodeNo.{NodeNo}
use Rattle.dia_message.specs.declared.message.Message.{Message}
use Rattle.dia_message.specs.Traffic.{Traffic}
use Rattle.relay_hops.specs.declared.row.Row.{Row}
use Rattle.relay_peers.specs.declared.peers.Link.{Link}
use Rattle.relay_peers.specs.PeerTable.{peer_in, with_staying, without_conn}
use Rattle.relay_core.specs.declared.error.RelayError.{RelayError}
use Rattle.relay_core.specs.declared.node.RelayNode.{RelayNode}
use Rattle.relay_core.specs.declared.run.RelayEvent.{RelayEvent}
use Rattle.relay_core.specs.declared.run.RelayEvent.TheVariants.{Up, Received, Lost, Restart}
use Rattle.relay_core.specs.Connecting.{up_fault}
use Rattle.relay_core.specs.Failover.{Failover, after_end, without_origins}
use Rattle.relay_core.specs.RelayRun.{IsIdle, OnEvent}
use Rattle.relay_core.specs.RelayState.{RelayState, peer_on, with_links, with_rows}
use Rattle.relay_core.specs.RelayStep.{OnAnswer, OnRequest}

-- The links are those of the peers that stay: all that are up, but those that leave.

-- ---- where requests go

-- the relay as requests find it: as if only those were up that stay
abbrev pub node_among : List Link → RelayNode → RelayNode
node_among staying node = with_links staying node

abbrev pub relay_among : List Link → RelayState → RelayState
relay_among staying relay = record relay { node = node_among staying relay.node }

-- A request of this sender came, who may leave itself: it is refused, or goes out, as if only those were up that stay. Who is up
-- does not change.
pub record OnRequestAmong (staying : List Link) (relay : RelayState) (conn : ConnId) (sender : List ℕ) (request : Message) (sent : Traffic) (next : RelayState) : Type 0 where
  pub does : OnRequest (relay_among staying relay) conn sender request sent (relay_among staying next)
  pub up : next.node ≡ relay.node

-- An answer goes where it goes without that: so do those of who leaves.
abbrev pub OnMessageAmong : List Link → RelayState → ConnId → List ℕ → Message → Traffic → RelayState → Type 0
OnMessageAmong staying relay conn sender message sent next =
    MatchBool message.header.request (OnRequestAmong staying relay conn sender message sent next) (OnAnswer relay conn message sent next)

-- Where a connection has ended, what was sent on it goes to those that stay, or to nobody (5.5.4).
pub record OnConnLostAmong (staying : List Link) (relay : RelayState) (conn : ConnId) (sent : Traffic) (next : RelayState) : Type 0 where
  pub rows : List Row
  pub failover : Failover (after_end conn (node_among staying relay.node)) conn (without_origins conn relay.pending.rows) sent rows
  pub after : next ≡ with_rows rows (record { node = after_end conn relay.node; pending = relay.pending })

-- ---- at an event

-- what it sends at an event, and what it is afterwards
abbrev pub OnEventAmong : List Link → RelayState → RelayEvent → Traffic → RelayState → Type 0
OnEventAmong staying relay (Up peer conn) sent next = OnEvent relay (Up peer conn) sent next
OnEventAmong staying relay (Received conn message) sent next =
    MatchOption (peer_on relay.node conn) (IsIdle relay sent next) (λ sender. OnMessageAmong staying relay conn sender.name message sent next)
OnEventAmong staying relay (Lost conn) sent next =
    MatchOption (peer_in relay.node.peers.links conn) (IsIdle relay sent next) (λ peer. OnConnLostAmong staying relay conn sent next)
OnEventAmong staying relay Restart sent next = OnEvent relay Restart sent next

-- those that stay once a peer has come up, unless it is refused
abbrev pub staying_up : Option RelayError → List Link → NodeNo → ConnId → List Link
staying_up None staying peer conn = with_staying staying peer conn
staying_up (Some fault) staying peer conn = staying

-- those that stay once a connection has ended that this peer had, if any
abbrev pub staying_lost : Option NodeNo → List Link → ConnId → List Link
staying_lost None staying conn = staying
staying_lost (Some peer) staying conn = without_conn staying conn

-- who stays after an event
abbrev pub staying_after : RelayState → RelayEvent → List Link → List Link
staying_after relay (Up peer conn) staying = staying_up (up_fault relay peer conn) staying peer conn
staying_after relay (Received conn message) staying = staying
staying_after relay (Lost conn) staying = staying_lost (peer_in relay.node.peers.links conn) staying conn
staying_after relay Restart staying = []

-- each request among these messages goes out on the connection of one of these peers
abbrev pub AsksAmong : List Link → Traffic → Type 0
AsksAmong staying [] = Unit {0}
AsksAmong staying (item ∷ items) = (item.1.header.request ≡ true → IsSome (peer_in staying item.0)) × AsksAmong staying items
