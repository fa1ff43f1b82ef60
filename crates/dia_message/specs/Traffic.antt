-- Messages on their way.
use Rattle.std.specs.Prelude.{List}
use Rattle.dia_base.specs.declared.number.ConnId.{ConnId}
use Rattle.dia_message.specs.declared.message.Message.{Message}

-- messages, each with the connection that it is sent or received on, in order
abbrev pub Traffic : Type 0
Traffic = List (ConnId × Message)
