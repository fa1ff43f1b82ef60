-- A message of the most octets, and one of four octets more.
use Rattle.std.proofs.Common.{◌≡◌, ℕ, ◌+◌, List, [], ◌∷◌, ◌++◌, length, drop, Some, refl, ap, sym, subst, arith}
use Rattle.dia_message.specs.declared.frames.FrameFault.TheVariants.{TooLong}
use Rattle.dia_message.specs.Feeding.{fault_alone, only_message}
use Rattle.dia_message.specs.Header.{header_octets}
use Rattle.dia_message.specs.MessageExample.{answer_header, answer_with}
use Rattle.dia_message.specs.Spelling.{HasSpelling, octets_of}
use Rattle.dia_message.specs.Stream.{stream_of}
use Rattle.dia_message.proofs.Cutting.{stream_of-fault}
use Rattle.dia_message.proofs.Spelled.{Spells-written, only_message-spelled}

has-spelling : (body : List ℕ) → length body ≡ 262124 → HasSpelling (answer_with body)
has-spelling body size = record {
  header = record { command = omega arith; application = omega arith; hop = omega arith; «end» = omega arith };
  whole = omega arith;
  most = omega arith;
}

pub longest-back : (body : List ℕ) → length body ≡ 262124 → only_message (octets_of (answer_with body)) ≡ Some (answer_with body)
longest-back body size = only_message-spelled (octets_of (answer_with body)) (answer_with body) (Spells-written (answer_with body) (has-spelling body size))

-- the version and the length show it
longer : (body : List ℕ) → fault_alone (stream_of (header_octets answer_header 262148 ++ body)) ≡ Some TooLong
longer body = ap fault_alone (stream_of-fault (1 ∷ 4 ∷ 0 ∷ 4 ∷ []) (drop 4 (header_octets answer_header 262148) ++ body) TooLong refl)

pub longer-fault : (body : List ℕ) → length body ≡ 262128 → fault_alone (stream_of (octets_of (answer_with body))) ≡ Some TooLong
unfolding octets_of
longer-fault body size = subst (λ (n : ℕ). fault_alone (stream_of (header_octets answer_header (20 + n) ++ body)) ≡ Some TooLong) (sym size) (longer body)
