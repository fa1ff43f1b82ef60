-- AVPs of a request that its view does not read: Route-Record, Proxy-Info, Destination-Host and
-- Event-Timestamp (RFC 6733, sections 6.7.1, 6.7.2 and 6.5; RFC 8506, section 3.1).
use Rattle.std.specs.Prelude.{◌≡◌, ℕ, List, [], ◌∷◌, filter, Bool, not, Ok}
use Rattle.dia_avp.specs.declared.avp.RawAvp.{RawAvp}
use Rattle.dia_avp.specs.AvpReading.{split_of}
use Rattle.dia_message.specs.declared.message.Message.{Message}
use Rattle.dia_grammar.specs.Grammar.{begins_with_session, is_among}
use Rattle.cc_view.specs.Answer.Carried.{carries_too_much}
use Rattle.dia_base.specs.Codes.{destination_host, event_timestamp, proxy_info, route_record}

abbrev pub unread_codes : List ℕ
unread_codes = route_record ∷ proxy_info ∷ destination_host ∷ event_timestamp ∷ []

abbrev pub is_read : RawAvp → Bool
is_read avp = not (is_among unread_codes avp)

-- the AVPs that are read, in order
abbrev pub read_of : List RawAvp → List RawAvp
read_of avps = filter is_read avps

-- Two messages that differ in AVPs which are not read: such AVPs are dropped, added, changed or moved. A
-- Session-Id comes first in both or in neither, and of both or of neither more would be carried than an
-- answer may carry.
pub record DifferUnread (message other : Message) : Type 0 where
  pub avps : List RawAvp
  pub others : List RawAvp
  pub body : split_of message.body ≡ Ok avps
  pub other_body : split_of other.body ≡ Ok others
  pub read : read_of avps ≡ read_of others
  pub first : begins_with_session avps ≡ begins_with_session others
  pub carried : carries_too_much avps ≡ carries_too_much others
  pub application : message.header.application ≡ other.header.application
  pub command : message.header.command ≡ other.header.command
