-- Octets are one stream.
use Rattle.std.proofs.Common.{◌≡◌, ℕ, zero, suc, ◌≤◌, Bool, true, false, List, [], ◌∷◌, length, take, Option, refl, sym, subst, ap, ◌∙◌, arith}
use Rattle.std.proofs.lemmas.List.{take-append-drop}
use Rattle.dia_message.specs.declared.frames.FrameFault.{FrameFault}
use Rattle.dia_message.specs.declared.message.Message.{Message}
use Rattle.dia_message.specs.Header.{length_in}
use Rattle.dia_message.specs.Stream.{Stream, IsStream, Begins, HoldsMessage, fault_at, is_whole, behind_messages, stream_of}
use Rattle.dia_message.proofs.Streaming.{first_in, behind_in, behind_in-shorter, stream_of-whole, stream_of-unread, Ends-stream}
use Rattle.dia_message.proofs.Spelled.{Spells-first, stream_of-spelled, is_whole-holds}

-- ---- what `stream_of` gives is a stream

Begins-by : (octets : List ℕ) (whole : Bool) → is_whole octets ≡ whole
    → (is_whole octets ≡ true → Begins (behind_in octets) (stream_of (behind_in octets)).messages (stream_of (behind_in octets)).rest)
    → Begins octets (stream_of octets).messages (stream_of octets).rest
Begins-by octets false e more = subst (λ (s : Stream). Begins octets s.messages s.rest) (sym (stream_of-unread octets e)) refl
Begins-by octets true e more =
    subst (λ (s : Stream). Begins octets s.messages s.rest) (sym (stream_of-whole octets e))
    (take (length_in octets) octets, behind_in octets, sym (take-append-drop (length_in octets) octets), Spells-first octets e, more e)

Begins-from : (n : ℕ) (octets : List ℕ) → length octets ≤ n → Begins octets (stream_of octets).messages (stream_of octets).rest
Begins-from zero octets a = Begins-by octets (is_whole octets) refl (λ e. let shorter = behind_in-shorter octets e in absurd (omega arith))
Begins-from (suc n) octets a = Begins-by octets (is_whole octets) refl (λ e. let shorter = behind_in-shorter octets e in Begins-from n (behind_in octets) (omega arith))

not_whole : (octets : List ℕ) → is_whole octets ≡ false → HoldsMessage octets → ⊥
not_whole octets e h = let w = is_whole-holds octets h in absurd cc

pub IsStream-stream_of : (octets : List ℕ) → IsStream octets (stream_of octets)
IsStream-stream_of octets =
    let ends = Ends-stream octets in
    record {
      spelled = Begins-from (length octets) octets (omega arith);
      no_more = not_whole (stream_of octets).rest ends.is_unread;
      why = ends.why;
    }

-- ---- and nothing else is

holds_none : (octets : List ℕ) → (HoldsMessage octets → ⊥) → is_whole octets ≡ false
holds_none octets none = by_whole (is_whole octets) refl
  where
    by_whole : (whole : Bool) → is_whole octets ≡ whole → is_whole octets ≡ false
    by_whole false e = e
    by_whole true e = absurd (none (take (length_in octets) octets, behind_in octets, first_in octets, sym (take-append-drop (length_in octets) octets), Spells-first octets e))

only-stream : (octets : List ℕ) (messages : List Message) (rest : List ℕ) (fault : Option FrameFault) → Begins octets messages rest → (HoldsMessage rest → ⊥) → fault ≡ fault_at rest
    → (let s : Stream = record { messages = messages; rest = rest; fault = fault } in s) ≡ stream_of octets
only-stream octets [] rest fault b none why =
    ap (λ (f : Option FrameFault). let s : Stream = record { messages = []; rest = rest; fault = f } in s) why
    ∙ sym (ap stream_of b ∙ stream_of-unread rest (holds_none rest none))
only-stream octets (m ∷ messages) rest fault b none why =
    ap (behind_messages (m ∷ [])) (only-stream b.1 messages rest fault b.4 none why)
    ∙ sym (ap stream_of b.2 ∙ stream_of-spelled b.0 b.1 m b.3)

pub IsStream-only : (octets : List ℕ) (stream : Stream) → IsStream octets stream → stream ≡ stream_of octets
IsStream-only octets stream s = only-stream octets stream.messages stream.rest stream.fault s.spelled s.no_more s.why
