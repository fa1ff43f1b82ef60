-- What happens to a relay, event by event.
use Rattle.std.specs.Prelude.{◌≡◌, List, [], ◌∷◌, ◌++◌, MatchOption}
use Rattle.dia_message.specs.declared.message.Out.{Out}
use Rattle.dia_message.specs.Traffic.{Traffic}
use Rattle.relay_peers.specs.PeerTable.{peer_in}
use Rattle.relay_core.specs.declared.run.RelayEvent.{RelayEvent}
use Rattle.relay_core.specs.declared.run.RelayEvent.TheVariants.{Up, Received, Lost, Restart}
use Rattle.relay_core.specs.Connecting.{up_fault, after_up, after_restart}
use Rattle.relay_core.specs.Failover.{OnConnLost}
use Rattle.relay_core.specs.RelayState.{RelayState, peer_on}
use Rattle.relay_core.specs.RelayStep.{OnMessage}

-- an event whose call is refused
abbrev pub IsIdle : RelayState → Traffic → RelayState → Type 0
IsIdle relay sent next = (sent ≡ []) × (next ≡ relay)

-- what a relay sends at an event, and what it is afterwards
abbrev pub OnEvent : RelayState → RelayEvent → Traffic → RelayState → Type 0
OnEvent relay (Up peer conn) sent next = MatchOption (up_fault relay peer conn) ((sent ≡ []) × (next ≡ after_up relay peer conn)) (λ fault. IsIdle relay sent next)
OnEvent relay (Received conn message) sent next = MatchOption (peer_on relay.node conn) (IsIdle relay sent next) (λ sender. OnMessage relay conn sender.name message sent next)
OnEvent relay (Lost conn) sent next = MatchOption (peer_in relay.node.peers.links conn) (IsIdle relay sent next) (λ peer. OnConnLost relay conn sent next)
OnEvent relay Restart sent next = (sent ≡ []) × (next ≡ after_restart relay)

-- one event of a run: the relay before it, what was sent, and the relay after it
pub record RelayStep : Type 0 where
  pub before : RelayState
  pub event : RelayEvent
  pub sent : Traffic
  pub after : RelayState

-- These events, and what was sent at each, have led from one relay to the other. The past has the steps, the last one first.
pub data IsRun (first : RelayState) : List RelayEvent → List Out → List RelayStep → RelayState → Type 0 where
  not_begun : IsRun first [] [] [] first
  one_more : (events : List RelayEvent) (event : RelayEvent) (outs : List Out) (out : Out) (past : List RelayStep) (before after : RelayState) →
      IsRun first events outs past before → OnEvent before event out.items after →
      IsRun first (events ++ event ∷ []) (outs ++ out ∷ []) (record { before = before; event = event; sent = out.items; after = after } ∷ past) after
