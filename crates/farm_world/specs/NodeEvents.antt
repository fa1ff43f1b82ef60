-- An event at a node of the farm.
use Rattle.std.specs.Prelude.{◌≢◌, Result, Err}
use Rattle.dia_message.specs.Traffic.{Traffic}
use Rattle.farm_node.specs.Events.{NodeEvent}
use Rattle.farm_node.specs.declared.error.NodeError.{NodeError}
use Rattle.farm_node.specs.declared.error.NodeError.TheVariants.{OutOfMemory}

-- The node does what it may do at the event, or refuses it for another reason than want of memory.
abbrev pub Reacts : {S : Type 0} → (S → NodeEvent → Traffic → Result (Unit {0}) NodeError → S → Type 0) → S → NodeEvent → Traffic → S → Type 0
Reacts on_event node event sent next = (outcome : Result (Unit {0}) NodeError) × (outcome ≢ Err OutOfMemory) × on_event node event sent outcome next
