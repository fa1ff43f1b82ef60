-- Octets that are one message and nothing else.
use Rattle.std.proofs.Common.{◌≡◌, ℕ, ◌<◌, arith, Bool, true, false, List, [], ◌∷◌, length, take, Option, Some, None, refl, sym, subst, ap, ◌∙◌}
use Rattle.dia_message.specs.declared.message.Message.{Message}
use Rattle.dia_message.specs.Header.{length_in}
use Rattle.dia_message.specs.Stream.{Stream, is_whole, message_in, behind_messages, stream_of}
use Rattle.dia_message.specs.Feeding.{sole, only_message}
use Rattle.dia_message.proofs.Streaming.{first_in, behind_in, stream_of-whole, stream_of-unread}

abbrev only : Stream → Option Message
only s = sole s.messages s.rest

pub only_message-unread : (octets : List ℕ) → is_whole octets ≡ false → only_message octets ≡ None
only_message-unread octets e = ap only (stream_of-unread octets e)

-- octets that are not all one message
sole-more : (octets : List ℕ) (m : Message) (whole : Bool) → is_whole octets ≡ whole → 0 < length octets → only (behind_messages (m ∷ []) (stream_of octets)) ≡ None
sole-more [] m whole e some = absurd (omega arith)
sole-more (x ∷ xs) m false e some = ap (λ (s : Stream). only (behind_messages (m ∷ []) s)) (stream_of-unread (x ∷ xs) e)
sole-more (x ∷ xs) m true e some = ap (λ (s : Stream). only (behind_messages (m ∷ []) s)) (stream_of-whole (x ∷ xs) e)

pub only_message-more : (octets behind : List ℕ) → true ≡ is_whole octets → behind ≡ behind_in octets → 0 < length behind → only_message octets ≡ None
only_message-more octets behind e b some =
    ap only (stream_of-whole octets (sym e)) ∙ sole-more (behind_in octets) (first_in octets) (is_whole (behind_in octets)) refl (subst (λ (o : List ℕ). 0 < length o) b some)

pub none_is : (octets : List ℕ) → length octets ≡ 0 → octets ≡ []
none_is [] e = refl
none_is (x ∷ xs) e = absurd (omega arith)

pub only_message-whole : (octets first behind : List ℕ) (m : Message) → true ≡ is_whole octets → first ≡ take (length_in octets) octets → behind ≡ behind_in octets
    → m ≡ message_in first → length behind ≡ 0 → only_message octets ≡ Some m
only_message-whole octets first behind m e f b is_m none =
    let empty : behind_in octets ≡ [] = sym b ∙ none_is behind none in
    ap only (stream_of-whole octets (sym e))
    ∙ ap (λ (o : List ℕ). only (behind_messages (first_in octets ∷ []) (stream_of o))) empty
    ∙ ap (λ (s : Stream). only (behind_messages (first_in octets ∷ []) s)) (stream_of-unread [] refl)
    ∙ ap (λ (x : Message). Some x) (sym (is_m ∙ ap message_in f))

-- octets that are all one message are some message
pub only_message-some : (octets first behind : List ℕ) → true ≡ is_whole octets → first ≡ take (length_in octets) octets → behind ≡ behind_in octets → length behind ≡ 0 → only_message octets ≡ None → ⊥
only_message-some octets first behind e f b empty missing = let some = only_message-whole octets first behind (message_in first) e f b refl empty in cc
