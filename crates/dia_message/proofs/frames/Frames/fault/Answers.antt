use Rattle.std.proofs.Common.{sym, ap, ◌∙◌}
use Rattle.dia_message.specs.Stream.{Stream, fault_at, unread, stream_of}
use Rattle.dia_message.proofs.Streaming.{stream_of-own}
use Rattle.dia_message.proofs.frames.Frames.fault.Goals as goal

pub returns-clause-unread : goal.returns-clause-unread
returns-clause-unread c = ap stream_of (sym c.self.view_is) ∙ stream_of-own c.self.inside.rest.items c.self.invariant ∙ ap unread c.self.view_is

pub returns-clause-value : goal.returns-clause-value
returns-clause-value c =
    c.err.ensures.value ∙ c.first_of.ensures.fault ∙ ap fault_at (c.deref.ensures.value ∙ c.self.view_is) ∙ sym (ap (λ (s : Stream). s.fault) (returns-clause-unread c))
