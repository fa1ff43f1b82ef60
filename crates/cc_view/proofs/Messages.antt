-- Messages by their parts.
use Rattle.std.proofs.Common.{◌≡◌, ℕ, List, ap, ◌∙◌}
use Rattle.dia_message.specs.declared.header.Header.{Header}
use Rattle.dia_message.specs.declared.message.Message.{Message}

abbrev pub message_of : Header → List ℕ → Message
message_of header body = record { header = header; body = body }

pub message_of-same : (h k : Header) (b d : List ℕ) → h ≡ k → b ≡ d → message_of h b ≡ message_of k d
message_of-same h k b d p q = ap (λ (x : Header). message_of x b) p ∙ ap (λ (x : List ℕ). message_of k x) q
