-- Which octets spell which message (RFC 6733, section 3), and the spelling that is written.
use Rattle.std.specs.Prelude.{◌≡◌, ℕ, ◌+◌, ◌%◌, ◌≤◌, List, ◌++◌, length, drop}
use Rattle.dia_base.specs.Limits.{message_limit}
use Rattle.dia_message.specs.declared.message.Message.{Message}
use Rattle.dia_message.specs.Header.{version_in, length_in, header_in, header_octets, HasOctets}

-- The octets are one message, whole and with nothing behind it.
pub record Spells (octets : List ℕ) (message : Message) : Type 0 where
  pub version : version_in octets ≡ 1
  pub size : length octets ≡ length_in octets
  pub least : 20 ≤ length octets
  pub most : length octets ≤ message_limit
  pub whole : length octets % 4 ≡ 0
  pub header : message.header ≡ header_in octets
  pub body : message.body ≡ drop 20 octets

-- the octets that a message is written as
unfoldable pub octets_of : Message → List ℕ
octets_of message = header_octets message.header (20 + length message.body) ++ message.body

-- what a message is whose written octets spell it
pub record HasSpelling (message : Message) : Type 0 where
  pub header : HasOctets message.header
  pub whole : length message.body % 4 ≡ 0
  pub most : 20 + length message.body ≤ message_limit
