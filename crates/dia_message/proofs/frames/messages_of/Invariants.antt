use Rattle.std.proofs.Common.{◌≡◌, ◌++◌, length}
use Rattle.dia_message.specs.Stream.{stream_of}
use Rattle.dia_message.proofs.frames.messages_of.Given as goal

abbrev pub invariant-loop-first : goal.invariant-loop-first
invariant-loop-first l = record {
  messages : (stream_of l.octets).messages ≡ l.messages.items ++ (stream_of l.rest).messages;
  rest : (stream_of l.octets).rest ≡ (stream_of l.rest).rest;
}

abbrev pub decreases-loop-first : goal.decreases-loop-first
decreases-loop-first l = length l.rest
