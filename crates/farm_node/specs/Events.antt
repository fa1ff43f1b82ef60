-- What may happen to a node.
use Rattle.dia_base.specs.declared.number.ConnId.{ConnId}
use Rattle.dia_base.specs.declared.number.Moment.{Moment}
use Rattle.dia_base.specs.declared.number.NodeNo.{NodeNo}
use Rattle.dia_message.specs.declared.message.Message.{Message}

pub data NodeEvent : Type 0 where
  -- a connection of the first node with the second one is up
  up : NodeNo → NodeNo → ConnId → NodeEvent
  -- a message came on a connection
  message : ConnId → Message → NodeEvent
  -- the node at the other end of a connection has said goodbye, and leaves
  leaving : ConnId → NodeEvent
  -- a connection has ended
  lost : ConnId → NodeEvent
  -- it is this moment
  tick : Moment → NodeEvent
  -- something that works for it elsewhere has something for it
  wake : NodeEvent
