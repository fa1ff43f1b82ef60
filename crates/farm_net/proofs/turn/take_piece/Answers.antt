use Rattle.std.proofs.Common.{◌≡◌, ℕ, List, ◌++◌, Some, sym, ap, ◌∙◌}
use Rattle.dia_message.specs.declared.frames.FrameFault.{FrameFault}
use Rattle.dia_message.specs.Stream.{stream_of}
use Rattle.dia_message.proofs.Fed.{fault_of-rest}
use Rattle.farm_net.proofs.turn.take_piece.Goals as goal

pub returns-in-Some-clause-fault : goal.returns-in-Some-clause-fault
returns-in-Some-clause-fault c = λ fault e.
    let same : c.in-Some.fault ≡ fault = cc in
    sym (fault_of-rest (c.args.frames.now ++ c.args.piece.now)) ∙ ap (λ (xs : List ℕ). (stream_of xs).fault) (sym c.in-Ok.ensures.answer.2)
    ∙ sym c.in-Some.ensures.value ∙ ap (λ (f : FrameFault). Some f) same
