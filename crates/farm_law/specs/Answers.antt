-- What an answer is.
use Rattle.std.specs.Prelude.{◌≡◌, ◌⊎◌, true, List}
use Rattle.dia_base.specs.declared.number.ConnId.{ConnId}
use Rattle.dia_base.specs.declared.number.NodeNo.{NodeNo}
use Rattle.dia_message.specs.declared.message.Message.{Message}
use Rattle.cc_view.specs.Answer.{refusal_of}
use Rattle.cc_book.specs.Taking.{Ledger}
use Rattle.front_core.specs.Answered.{IsBookAnswer}
use Rattle.relay_core.specs.Forwarding.{Descends}
use Rattle.farm_law.specs.Farm.{Refused}
use Rattle.farm_law.specs.Lists.{Has}
use Rattle.farm_law.specs.Parties.{Parties}

-- a node tells the answer of another one only where it is a relay, linked with a node that tells it
pub data IsToldBy (p : Parties) (author : NodeNo) : NodeNo → Type 0 where
  by_itself : IsToldBy p author author
  by_relay : {node next : NodeNo} → p.is_relay node ≡ true → p.is_linked node next ≡ true → IsToldBy p author next → IsToldBy p author node

-- A refusal too: that of another node only where it is a relay, linked with a node that tells it; and that of another message than the
-- one on the connection only where it is a relay.
abbrev pub TellsRefusal : Parties → NodeNo → ConnId → Message → Refused → Type 0
TellsRefusal p node conn message refused =
    IsToldBy p refused.node node × ((p.is_relay node ≡ true) ⊎ ((refused.node ≡ node) × (refused.conn ≡ conn) × (refused.request ≡ message)))

-- A node tells an answer to a message on a connection: that of a front, with the reply that the book keeps for it, or
-- the refusal of a node that has refused the message or one that descends from it.
pub data Answers (p : Parties) (book : Ledger) (refused : List Refused) (node : NodeNo) (conn : ConnId) (message answer : Message) : Type 0 where
  of_front : (front : NodeNo) → p.is_front front ≡ true → IsToldBy p front node →
      IsBookAnswer (p.front_site (p.name_of front)) book message answer → Answers p book refused node conn message answer
  of_refusal : (there : Refused) → TellsRefusal p node conn message there → Descends message there.request → Has there refused →
      answer ≡ refusal_of (p.name_of there.node) p.realm message there.refusal → Answers p book refused node conn message answer
