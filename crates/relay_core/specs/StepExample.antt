-- Worked examples: what the relay r1.example sends at an event, and what is pending then.
use Rattle.std.specs.Prelude.{◌≡◌, ◌↔◌, ℕ, List, [], ◌∷◌, codes, true, false, Option, Some, Result}
use Rattle.dia_base.specs.declared.number.ConnId.{ConnId}
use Rattle.dia_avp.specs.AvpList.{written_list}
use Rattle.dia_message.specs.declared.message.Message.{Message}
use Rattle.dia_message.specs.Traffic.{Traffic}
use Rattle.cc_view.specs.FirstDebit.{debit_header}
use Rattle.cc_view.specs.declared.code.ResultCode.{ResultCode}
use Rattle.relay_hops.specs.declared.row.Origin.{Origin}
use Rattle.relay_hops.specs.declared.row.Row.{Row}
use Rattle.relay_hops.specs.PendingTable.{again, under}
use Rattle.relay_peers.specs.declared.peers.Link.{Link}
use Rattle.relay_peers.specs.PeerTable.{without_conn}
use Rattle.relay_core.specs.declared.matching.Matching.{Matching}
use Rattle.relay_core.specs.declared.run.RelayEvent.{RelayEvent}
use Rattle.relay_core.specs.declared.run.RelayEvent.TheVariants.{Received, Lost}
use Rattle.relay_core.specs.AnswerMatching.{OnMatchedEvent}
use Rattle.relay_core.specs.Failover.{after_end, next_hop_again}
use Rattle.relay_core.specs.FirstForwarding.{forwarded_debit}
use Rattle.relay_core.specs.RelayRun.{OnEvent}
use Rattle.relay_core.specs.RelayState.{RelayState, with_next}
use Rattle.relay_core.specs.RuleExample.{all_up, avp, conn, ocs, request_with, session, told_by}
use Rattle.relay_core.specs.Staying.{OnEventAmong, node_among, relay_among}
use Rattle.relay_core.specs.Verdict.{decision}

-- ---- what is sent

-- these are sent and these requests are pending afterwards, and nothing else may be done
abbrev pub DoesOnly : RelayState → RelayEvent → Traffic → RelayState → Type 0
DoesOnly relay event sent next = (items : Traffic) (after : RelayState) → OnEvent relay event items after ↔ ((items ≡ sent) × (after ≡ next))

-- the same of a relay that matches answers so
abbrev pub DoesOnlyBy : Matching → RelayState → RelayEvent → Traffic → RelayState → Type 0
DoesOnlyBy matching relay event sent next = (items : Traffic) (after : RelayState) → OnMatchedEvent matching relay event items after ↔ ((items ≡ sent) × (after ≡ next))

-- the same where the relay chooses a Hop-by-Hop Identifier
abbrev pub DoesUnder : RelayState → RelayEvent → (ℕ → Traffic) → (ℕ → RelayState) → Type 0
DoesUnder relay event sent next =
    (items : Traffic) (after : RelayState) → OnEvent relay event items after ↔ ((hop : ℕ) × (items ≡ sent hop) × (after ≡ next hop))

-- the same where it gives an identifier, so that its count goes on
abbrev pub DoesUnderNew : RelayState → RelayEvent → (ℕ → Traffic) → (ℕ → RelayState) → Type 0
DoesUnderNew relay event sent next =
    (items : Traffic) (after : RelayState) → OnEvent relay event items after ↔ ((hop : ℕ) × (count : ℕ) × (items ≡ sent hop) × (after ≡ with_next count (next hop)))

-- r1's refusal of a request of c1 with that Session-Id, with the octets of this Result-Code
abbrev pub refused_with : List ℕ → Message
refused_with code = record {
  header = record debit_header { request = false; error = true };
  body = written_list (session ∷ avp 264 (codes "r1.example") ∷ avp 296 (codes "ocs.example") ∷ avp 268 code ∷ []);
}

-- a message with this End-to-End Identifier
abbrev pub of_end : ℕ → Message → Message
of_end end message = record { header = record message.header { end = end }; body = message.body }

-- ---- what is pending

-- a request that came from c1 under the identifier 7
abbrev pub of_c1 : Option Origin
of_c1 = Some (record { conn = conn 1; hop = 7 })

-- a request that went out on a connection under an identifier
abbrev pub pending_on : ℕ → ℕ → Option Origin → Message → Row
pending_on to hop origin request = record { conn = conn to; held = record { origin = origin; request = under hop request } }

-- the first debit, with the Route-Record of c1
abbrev pub debit_on : ℕ → ℕ → Option Origin → Row
debit_on to hop origin = pending_on to hop origin forwarded_debit

-- the first debit, once it was sent again
abbrev pub debit_again_on : ℕ → ℕ → Row
debit_again_on to hop = record { conn = conn to; held = record { origin = of_c1; request = again hop forwarded_debit } }

abbrev pub received : ℕ → Message → RelayEvent
received from message = Received (conn from) message

abbrev pub lost : ℕ → RelayEvent
lost number = Lost (conn number)

-- ---- peers that leave

-- the links of all_up but for those on these connections, whose peers have said goodbye
abbrev pub but_on : List ℕ → List Link
but_on [] = all_up.node.peers.links
but_on (number ∷ numbers) = without_conn (but_on numbers) (conn number)

-- the connection that a request of c1 for ocs.example goes out on where the peers on these links stay, or the Result-Code that it is refused with
abbrev pub way_among : List Link → Result ℕ ℕ
way_among staying = told_by (decision (relay_among staying all_up) (codes "c1.example") (request_with (ocs ∷ [])))

-- where it goes again once this connection has ended
abbrev pub way_again_among : List Link → ℕ → Result ConnId ResultCode
way_again_among staying number = next_hop_again (after_end (conn number) (node_among staying all_up.node)) forwarded_debit

-- these are sent and these requests are pending afterwards, and nothing else may be done, where the peers on these links stay
abbrev pub DoesOnlyAmong : List Link → RelayState → RelayEvent → Traffic → RelayState → Type 0
DoesOnlyAmong staying relay event sent next = (items : Traffic) (after : RelayState) → OnEventAmong staying relay event items after ↔ ((items ≡ sent) × (after ≡ next))
