-- What a relay may change in a request (RFC 6733, sections 5.5.4 and 6.1.9): the Hop-by-Hop Identifier is its own, the Route-Record of the peer that sent the request is appended, and T is set where it sends the request again.
use Rattle.std.specs.Prelude.{ℕ, ◌+◌, Bool, nat_lt, List, length}
use Rattle.dia_base.specs.Limits.{message_limit}
use Rattle.dia_avp.specs.AvpList.{HasSpelling, with_avp}
use Rattle.dia_message.specs.declared.message.Message.{Message}
use Rattle.relay_routes.specs.Routing.{record_of}
use Rattle.relay_hops.specs.PendingTable.{under, again}

-- A body with the Route-Record of a peer behind it. Where the last AVP lacks padding, it gets it first.
abbrev pub recorded : List ℕ → List ℕ → List ℕ
recorded peer body = with_avp body (record_of peer)

-- header and body take more octets than a message has
abbrev pub is_too_long : List ℕ → Bool
is_too_long body = nat_lt message_limit (20 + length body)

-- a request of a peer as it is forwarded, but for its Hop-by-Hop Identifier
abbrev pub with_record : List ℕ → Message → Message
with_record peer request = record { header = request.header; body = recorded peer request.body }

-- What a request may become on its way through relays: another Hop-by-Hop Identifier, T set, and Route-Records of peers behind it. The length follows from the body.
pub data Descends (request : Message) : Message → Type 0 where
  same : Descends request request
  renumbered : {passed : Message} (hop : ℕ) → Descends request passed → Descends request (under hop passed)
  sent_again : {passed : Message} (hop : ℕ) → Descends request passed → Descends request (again hop passed)
  recorded_by : {passed : Message} (peer : List ℕ) → HasSpelling (record_of peer) → Descends request passed → Descends request (with_record peer passed)
