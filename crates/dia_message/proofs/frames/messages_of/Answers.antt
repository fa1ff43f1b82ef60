use Rattle.std.proofs.Common.{rules, ◌≡◌, ◌-◌, sym, ap, ◌∙◌, ◌++◌, ℕ, List, false, arith, length, drop}
use Rattle.std.proofs.lemmas.List.{append-nil}
use Rattle.dia_message.specs.Stream.{Stream, is_whole, stream_of}
use Rattle.dia_message.proofs.Streaming.{Ends-stream, messages-step, rest-step, stream_of-unread}
use Rattle.dia_message.proofs.frames.messages_of.Goals as goal
use Rattle.dia_message.proofs.frames.messages_of.Goals.{Joined-first_of, in_default, in_default-2}

pub loop-first-preserved : goal.loop-first-preserved
loop-first-preserved c =
    let parts = rw c.in-Ok-Some.field-0-is at c.in-Ok-Some.ensures in
    record {
      messages =
          messages-step c.loop-first.rest.now c.in-Ok-Some.first.now c.in-Ok-Some.behind.now c.in_ok-message_of.field-0 c.loop-first.messages.items c.push.new.self.items
          (stream_of c.args.octets.now).messages
          parts.found parts.first parts.behind c.in_ok-message_of.ensures c.in_ok-push.ensures.items c.loop-first.invariant.messages;
      rest = c.loop-first.invariant.rest ∙ rest-step c.loop-first.rest.now c.in-Ok-Some.behind.now parts.found parts.behind;
    }

none-whole : (c : Joined-first_of) → false ≡ is_whole c.loop-first.rest.now
none-whole c = elim c.match-first_of.branch [
  | in_default w ↦ search rules
  | in_default-2 w ↦ search rules
]

-- where no whole message is left, the stream's rest is
left : (octets rest : List ℕ) → (stream_of octets).rest ≡ (stream_of rest).rest → false ≡ is_whole rest → (stream_of octets).rest ≡ rest
left octets rest same none = same ∙ ap (λ (s : Stream). s.rest) (stream_of-unread rest (sym none))

pub overflow_sub-result : goal.overflow_sub-result
overflow_sub-result c =
    let short = (Ends-stream c.args.octets.now).short in
    omega (arith, short, ap length (left c.args.octets.now c.loop-first.rest.now c.loop-first.invariant.rest (none-whole c)))

pub returns-clause-messages : goal.returns-clause-messages
returns-clause-messages c =
    sym (
    c.loop-first.invariant.messages
    ∙ ap (λ (s : Stream). c.loop-first.messages.items ++ s.messages) (stream_of-unread c.loop-first.rest.now (sym (none-whole c)))
    ∙ append-nil c.loop-first.messages.items
    )

pub returns-clause-behind : goal.returns-clause-behind
returns-clause-behind c =
    let octets : List ℕ = c.args.octets.now in
    let is_left = left octets c.loop-first.rest.now c.loop-first.invariant.rest (none-whole c) in
    ap (λ (rest : List ℕ). drop (length octets - length rest) octets) (sym is_left) ∙ (Ends-stream octets).back
