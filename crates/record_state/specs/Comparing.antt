-- What a record tells of messages that a node sent, beside those that the farm sent.
use Rattle.std.specs.Prelude.{◌≡◌, Bool, true, false, List, ◌++◌, filter, map}
use Rattle.dia_base.specs.declared.number.NodeNo.{NodeNo}
use Rattle.dia_message.specs.declared.message.Message.{Message}
use Rattle.farm_base.specs.Nodes.{is_node}

-- the messages that a node is told to have sent to another one, in their order
abbrev pub told_to : NodeNo → List (NodeNo × Message) → List Message
told_to peer told = map (λ item. item.1) (filter (λ item. is_node item.0 peer) told)

-- What was sent is what is told. Of the last event before a process was killed a beginning may be told.
abbrev pub IsAsTold : Bool → List Message → List Message → Type 0
IsAsTold true told sent = (rest : List Message) × (told ++ rest ≡ sent)
IsAsTold false told sent = told ≡ sent
