-- What is written fits into a message, and is read back.
use Rattle.std.specs.Prelude.{◌+◌, ◌<◌, ◌≤◌, ◌^◌, List, length, All, IfSome}
use Rattle.dia_avp.specs.declared.avp.RawAvp.{RawAvp}
use Rattle.dia_avp.specs.AvpList.{IsSpelling}
use Rattle.dia_message.specs.declared.message.Message.{Message}
use Rattle.dia_message.specs.Spelling.{HasSpelling}
use Rattle.cc_view.specs.declared.reply.CcReply.{CcReply}
use Rattle.cc_view.specs.declared.reply.ServiceReply.{ServiceReply}

-- the code of its unit fits the 4 octets of an AVP Code
abbrev pub HasUnitCode : ServiceReply → Type 0
HasUnitCode service = IfSome service.kind (λ kind. kind.0 < 2 ^ 32)

-- a reply for at most as many services as a request may have
pub record Fits (reply : CcReply) : Type 0 where
  pub few : length reply.services ≤ 32
  pub codes : All HasUnitCode reply.services

-- it is a message, of at most 65,536 octets, which is less than a message may have, and its octets spell these AVPs
pub record IsReadBack (message : Message) (avps : List RawAvp) : Type 0 where
  pub whole : HasSpelling message
  pub short : 20 + length message.body ≤ 65536
  pub body : IsSpelling message.body avps
