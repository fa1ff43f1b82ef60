-- A request as a relay forwards it (RFC 6733, sections 6.1.9 and 6.7.1), and what its answer carries back.
use Rattle.std.specs.Prelude.{◌≡◌, ℕ, List, [], ◌∷◌, ◌++◌, filter, true, Ok}
use Rattle.dia_avp.specs.declared.avp.RawAvp.{RawAvp}
use Rattle.dia_avp.specs.AvpReading.{split_of}
use Rattle.dia_message.specs.declared.header.Header.{Header}
use Rattle.dia_message.specs.declared.message.Message.{Message}
use Rattle.dia_grammar.specs.Grammar.{is_of}
use Rattle.dia_base.specs.Codes.{route_record}
use Rattle.cc_view.specs.Answer.Carried.{is_carried}

-- the same header but for the Hop-by-Hop Identifier and the flag T
abbrev pub SameButHop : Header → Header → Type 0
SameButHop header other = other ≡ record header { hop = other.hop; resent = other.resent }

-- the message with this Hop-by-Hop Identifier
abbrev pub with_hop : ℕ → Message → Message
with_hop hop message = record message { header = record message.header { hop = hop } }

-- A Route-Record stands behind the AVPs of the request, and its Hop-by-Hop Identifier and flag T may be others.
pub record IsForwarded (request forwarded : Message) : Type 0 where
  pub avps : List RawAvp
  pub appended : RawAvp
  pub is_record : is_of route_record appended ≡ true
  pub body : split_of request.body ≡ Ok avps
  pub forwarded_body : split_of forwarded.body ≡ Ok (avps ++ appended ∷ [])
  pub header : SameButHop request.header forwarded.header

-- Two messages of which an answer carries the same back: their Session-Ids and Proxy-Infos are the same, in
-- the same order.
pub record CarryAlike (message other : Message) : Type 0 where
  pub avps : List RawAvp
  pub others : List RawAvp
  pub body : split_of message.body ≡ Ok avps
  pub other_body : split_of other.body ≡ Ok others
  pub carried : filter is_carried avps ≡ filter is_carried others
  pub header : SameButHop message.header other.header
