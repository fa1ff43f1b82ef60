use Rattle.std.proofs.Common.{inl, inr, sym, subst, ap, ◌∙◌, arith, ℕ, List, Ok, Err, ◌++◌, ◌≡◌, refl}
use Rattle.std.proofs.lemmas.Bool.Decides.{nat_tests}
use Rattle.dia_message.specs.Stream.{Stream, stream_of}
use Rattle.dia_message.proofs.Streaming.{stream_of-rest}
use Rattle.dia_message.specs.Feeding.{Feeds}
use Rattle.dia_message.proofs.Fed.{Feeds-known, Feeds-fault, Feeds-ok}
use Rattle.dia_message.proofs.frames.Frames.feed.Goals as goal
use Rattle.dia_message.proofs.frames.Frames.feed.Goals.{in_default-fault-via-in-Some-fault+else-is_empty, in_default-fault-via-in_default-fault}

pub invariant_of-self-2 : goal.invariant_of-self-2
invariant_of-self-2 c =
    let all : List ℕ = c.self.inside.rest.items ++ c.args.piece.now in
    let kept = c.in_ok-messages.ensures.ok in
    ap (λ (o : List ℕ). (stream_of o).rest) kept ∙ ap (λ (s : Stream). s.rest) (stream_of-rest all) ∙ sym kept

pub returns-in-Some-clause-answer : goal.returns-in-Some-clause-answer
returns-in-Some-clause-answer c = Feeds-known c.args.self.now c.args.piece.now c.in-Some.fault c.in-Some.ensures.unread c.in-Some.ensures.value

pub returns-in-Some-fault-clause-answer : goal.returns-in-Some-fault-clause-answer
returns-in-Some-fault-clause-answer c =
    let all : List ℕ = c.self.inside.rest.items ++ c.args.piece.now in
    let kept : c.take_piece.new.rest.items ≡ (stream_of all).rest = c.in_ok-messages.ensures.ok in
    subst (Feeds c.args.self.now c.args.piece.now (Err c.in-Some-fault.fault)) (sym kept) (
    Feeds-fault c.self.inside.rest.items c.args.piece.now all c.args.self.now c.in_ok-messages.messages.items c.in-Some-fault.fault
    (record { was = c.self.invariant ∙ c.self.view_is; faultless = c.in_default.ensures.value; now = refl; new = c.in_ok-messages.ensures.messages ∙ own c.self.inside.rest.items c.args.piece.now c.self.invariant })
    (c.in-Some-fault.ensures.value ∙ ap (λ (o : List ℕ). (stream_of o).fault) kept) (grind (arith, nat_tests))
    )
  where
    own : (old piece : List ℕ) → (stream_of old).rest ≡ old → (stream_of (old ++ piece)).messages ≡ (stream_of ((stream_of old).rest ++ piece)).messages
    own old piece e = ap (λ (o : List ℕ). (stream_of (o ++ piece)).messages) (sym e)

pub returns-in_default-fault-clause-answer : goal.returns-in_default-fault-clause-answer
returns-in_default-fault-clause-answer c =
    let all : List ℕ = c.self.inside.rest.items ++ c.args.piece.now in
    let kept : c.take_piece.new.rest.items ≡ (stream_of all).rest = c.in_ok-messages.ensures.ok in
    subst (Feeds c.args.self.now c.args.piece.now (Ok c.in_ok-messages.messages)) (sym kept) (
    Feeds-ok c.self.inside.rest.items c.args.piece.now all c.args.self.now c.in_ok-messages.messages
    (record { was = c.self.invariant ∙ c.self.view_is; faultless = c.in_default.ensures.value; now = refl; new = c.in_ok-messages.ensures.messages ∙ own c.self.inside.rest.items c.args.piece.now c.self.invariant })
    (elim c.in_default-fault.branch [
      | in_default-fault-via-in-Some-fault+else-is_empty w ↦ inl (grind (arith, nat_tests))
      | in_default-fault-via-in_default-fault w ↦ inr (w.in_default-fault.ensures.value ∙ ap (λ (o : List ℕ). (stream_of o).fault) kept)
    ])
    )
  where
    own : (old piece : List ℕ) → (stream_of old).rest ≡ old → (stream_of (old ++ piece)).messages ≡ (stream_of ((stream_of old).rest ++ piece)).messages
    own old piece e = ap (λ (o : List ℕ). (stream_of (o ++ piece)).messages) (sym e)
