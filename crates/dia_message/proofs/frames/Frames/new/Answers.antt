use Rattle.std.proofs.Common.{sym, ap, ◌∙◌}
use Rattle.dia_message.specs.Stream.{stream_of}
use Rattle.dia_message.proofs.Streaming.{rest-nothing}
use Rattle.dia_message.proofs.frames.Frames.new.Goals as goal

pub invariant_of-result : goal.invariant_of-result
invariant_of-result c =
    let none = c.new.ensures.items in
    ap (λ o. (stream_of o).rest) none ∙ rest-nothing ∙ sym none
