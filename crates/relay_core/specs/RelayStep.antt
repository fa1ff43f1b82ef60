-- What a relay does with a message, as cases: a request is refused or forwarded, and an answer goes back to where its request came from (RFC 6733, sections 6.1 and 6.2).
use Rattle.std.specs.Prelude.{◌≡◌, ℕ, List, [], ◌∷◌, Option, Some, None, Ok, Err, MatchBool}
use Rattle.std.specs.Option.{option_and_then}
use Rattle.dia_base.specs.declared.number.ConnId.{ConnId}
use Rattle.dia_message.specs.declared.message.Message.{Message}
use Rattle.dia_message.specs.Traffic.{Traffic}
use Rattle.cc_view.specs.declared.refusal.Refusal.{Refusal}
use Rattle.cc_view.specs.Answer.{refusal_of}
use Rattle.relay_hops.specs.declared.row.Held.{Held}
use Rattle.relay_hops.specs.declared.row.Origin.{Origin}
use Rattle.relay_hops.specs.declared.row.Row.{Row}
use Rattle.relay_hops.specs.PendingTable.{held_at, under, IsWith}
use Rattle.relay_core.specs.declared.node.RelayNode.{RelayNode}
use Rattle.relay_core.specs.RelayState.{RelayState, with_rows, with_next}
use Rattle.relay_core.specs.Forwarding.{with_record}
use Rattle.relay_core.specs.Verdict.{decision}

-- the relay's refusal of a request, back to where it came from
abbrev pub refusal_to : RelayNode → ConnId → Message → Refusal → Traffic
refusal_to node conn request refusal = (conn, refusal_of node.name node.realm request refusal) ∷ []

abbrev pub row_of : ConnId → Held → Row
row_of conn held = record { conn = conn; held = held }

-- what is kept of a request that came on a connection and was sent
abbrev pub held_for : ConnId → Message → Message → Held
held_for conn request sent = record { origin = Some (record { conn = conn; hop = request.header.hop }); request = sent }

-- where the request came from that was sent on a connection under an identifier, if that connection stands
abbrev pub asker_of : List Row → ConnId → ℕ → Option Origin
asker_of rows conn hop = option_and_then (λ held. held.origin) (held_at rows conn hop)

-- What a relay sends, and what it is afterwards, when a request of this sender came on a connection.
pub data OnRequest (relay : RelayState) (conn : ConnId) (sender : List ℕ) (request : Message) : Traffic → RelayState → Type 0 where
  -- a rule refuses it
  refused : (refusal : Refusal) → decision relay sender request ≡ Err refusal →
      OnRequest relay conn sender request (refusal_to relay.node conn request refusal) relay
  -- it goes out under any identifier that is not in use there; which one it is, `Giving` says
  forwarded : (to : ConnId) (hop : ℕ) (rows : List Row) (next : ℕ) → decision relay sender request ≡ Ok to →
      held_at relay.pending.rows to hop ≡ None →
      IsWith (row_of to (held_for conn request (under hop (with_record sender request)))) relay.pending.rows rows →
      OnRequest relay conn sender request ((to, under hop (with_record sender request)) ∷ []) (with_rows rows (with_next next relay))

-- The same when an answer came.
pub data OnAnswer (relay : RelayState) (conn : ConnId) (answer : Message) : Traffic → RelayState → Type 0 where
  -- of a request whose connection stands: otherwise unchanged, it gets the identifier of the request
  sent_back : (held : Held) (origin : Origin) (rows : List Row) → held_at relay.pending.rows conn answer.header.hop ≡ Some held → held.origin ≡ Some origin →
      IsWith (row_of conn held) rows relay.pending.rows →
      OnAnswer relay conn answer ((origin.conn, under origin.hop answer) ∷ []) (with_rows rows relay)
  -- of a request whose connection has ended
  dropped : (held : Held) (rows : List Row) → held_at relay.pending.rows conn answer.header.hop ≡ Some held → held.origin ≡ None →
      IsWith (row_of conn held) rows relay.pending.rows →
      OnAnswer relay conn answer [] (with_rows rows relay)
  -- of none
  ignored : held_at relay.pending.rows conn answer.header.hop ≡ None →
      OnAnswer relay conn answer [] relay

-- What a relay sends, and what it is afterwards, when a message of this sender came.
abbrev pub OnMessage : RelayState → ConnId → List ℕ → Message → Traffic → RelayState → Type 0
OnMessage relay conn sender message sent next = MatchBool message.header.request (OnRequest relay conn sender message sent next) (OnAnswer relay conn message sent next)
