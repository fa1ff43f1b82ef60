-- The stream of octets, message by message.
use Rattle.std.proofs.Common.{◌≡◌, ℕ, zero, suc, ◌+◌, ◌-◌, ◌<◌, ◌≤◌, Bool, true, false, List, [], ◌∷◌, ◌++◌, length, take, drop, refl, sym, subst, ap, ◌∙◌, arith, length-drop, append_assoc}
use Rattle.std.proofs.lemmas.List.{drop-drop}
use Rattle.dia_message.specs.declared.message.Message.{Message}
use Rattle.dia_message.specs.Header.{length_in}
use Rattle.dia_message.specs.Stream.{Stream, fault_at, is_whole, message_in, unread, behind_messages, first_then, stream_from, stream_of}
use Rattle.dia_message.proofs.Whole.{Whole-from}

abbrev pub first_in : List ℕ → Message
first_in octets = message_in (take (length_in octets) octets)

abbrev pub behind_in : List ℕ → List ℕ
behind_in octets = drop (length_in octets) octets

-- a whole message takes some octets
pub behind_in-shorter : (octets : List ℕ) → is_whole octets ≡ true → length (behind_in octets) < length octets
behind_in-shorter octets e =
    let w = Whole-from octets e in
    let least = w.least in
    let within = w.within in
    omega (arith, length-drop (length_in octets) octets)

enough_by : (n m : ℕ) (octets : List ℕ) (whole : Bool) → is_whole octets ≡ whole
    → (is_whole octets ≡ true → stream_from n (behind_in octets) ≡ stream_from m (behind_in octets))
    → first_then whole octets (stream_from n) ≡ first_then whole octets (stream_from m)
enough_by n m octets false e more = refl
enough_by n m octets true e more = ap (behind_messages (first_in octets ∷ [])) (more e)

-- as many messages as octets are enough
enough : (n m : ℕ) (octets : List ℕ) → length octets ≤ n → length octets ≤ m → stream_from n octets ≡ stream_from m octets
unfolding stream_from
enough zero zero octets a b = refl
enough zero (suc m) [] a b = refl
enough zero (suc m) (x ∷ xs) a b = absurd (omega arith)
enough (suc n) zero [] a b = refl
enough (suc n) zero (x ∷ xs) a b = absurd (omega arith)
enough (suc n) (suc m) octets a b =
    enough_by n m octets (is_whole octets) refl (λ e. let shorter = behind_in-shorter octets e in enough n m (behind_in octets) (omega arith) (omega arith))

from-whole : (n : ℕ) (octets : List ℕ) → length octets ≤ n → is_whole octets ≡ true → stream_from n octets ≡ behind_messages (first_in octets ∷ []) (stream_of (behind_in octets))
unfolding stream_from stream_of
from-whole zero octets a e = let shorter = behind_in-shorter octets e in absurd (omega arith)
from-whole (suc n) octets a e =
    let shorter = behind_in-shorter octets e in
    ap (λ (b : Bool). first_then b octets (stream_from n)) e
    ∙ ap (behind_messages (first_in octets ∷ [])) (enough n (length (behind_in octets)) (behind_in octets) (omega arith) (omega arith))

from-unread : (n : ℕ) (octets : List ℕ) → is_whole octets ≡ false → stream_from n octets ≡ unread octets
unfolding stream_from
from-unread zero octets e = refl
from-unread (suc n) octets e = ap (λ (b : Bool). first_then b octets (stream_from n)) e

pub stream_of-whole : (octets : List ℕ) → is_whole octets ≡ true → stream_of octets ≡ behind_messages (first_in octets ∷ []) (stream_of (behind_in octets))
unfolding stream_of
stream_of-whole octets e = from-whole (length octets) octets (omega arith) e

pub stream_of-unread : (octets : List ℕ) → is_whole octets ≡ false → stream_of octets ≡ unread octets
unfolding stream_of
stream_of-unread octets e = from-unread (length octets) octets e

-- ---- what is left

-- a stream ends in octets that hold no whole message
pub record Ends (octets : List ℕ) (stream : Stream) : Type 0 where
  pub is_unread : is_whole stream.rest ≡ false
  pub why : stream.fault ≡ fault_at stream.rest
  pub short : length stream.rest ≤ length octets
  pub back : drop (length octets - length stream.rest) octets ≡ stream.rest

Ends-behind : (k : ℕ) (octets : List ℕ) (messages : List Message) (stream : Stream) → k ≤ length octets → Ends (drop k octets) stream → Ends octets (behind_messages messages stream)
Ends-behind k octets messages stream h d =
    let short = d.short in
    let len = length-drop k octets in
    let far : k + (length (drop k octets) - length stream.rest) ≡ length octets - length stream.rest = omega arith in
    record {
      is_unread = d.is_unread;
      why = d.why;
      short = omega arith;
      back = ap (λ (n : ℕ). drop n octets) (sym far) ∙ sym (drop-drop (length (drop k octets) - length stream.rest) k octets) ∙ d.back;
    }

none_dropped : (octets : List ℕ) → drop (length octets - length octets) octets ≡ octets
none_dropped octets = let none : length octets - length octets ≡ 0 = omega arith in ap (λ (n : ℕ). drop n octets) none

Ends-by : (octets : List ℕ) (whole : Bool) → is_whole octets ≡ whole → (is_whole octets ≡ true → Ends (behind_in octets) (stream_of (behind_in octets))) → Ends octets (stream_of octets)
Ends-by octets false e more =
    subst (λ (s : Stream). Ends octets s) (sym (stream_of-unread octets e)) (record { is_unread = e; why = refl; short = omega arith; back = none_dropped octets })
Ends-by octets true e more =
    let w = Whole-from octets e in
    subst (λ (s : Stream). Ends octets s) (sym (stream_of-whole octets e)) (Ends-behind (length_in octets) octets (first_in octets ∷ []) (stream_of (behind_in octets)) w.within (more e))

Ends-from : (n : ℕ) (octets : List ℕ) → length octets ≤ n → Ends octets (stream_of octets)
Ends-from zero octets a = Ends-by octets (is_whole octets) refl (λ e. let shorter = behind_in-shorter octets e in absurd (omega arith))
Ends-from (suc n) octets a = Ends-by octets (is_whole octets) refl (λ e. let shorter = behind_in-shorter octets e in Ends-from n (behind_in octets) (omega arith))

pub Ends-stream : (octets : List ℕ) → Ends octets (stream_of octets)
Ends-stream octets = Ends-from (length octets) octets (omega arith)

-- the rest reads as no message, and as that rest
pub stream_of-rest : (octets : List ℕ) → stream_of (stream_of octets).rest ≡ unread (stream_of octets).rest
stream_of-rest octets = stream_of-unread (stream_of octets).rest (Ends-stream octets).is_unread

-- and so do octets that are their own rest
pub stream_of-own : (octets : List ℕ) → (stream_of octets).rest ≡ octets → stream_of octets ≡ unread octets
stream_of-own octets own = ap stream_of (sym own) ∙ stream_of-rest octets ∙ ap unread own

-- ---- one message more

pub rest-step : (octets behind : List ℕ) → true ≡ is_whole octets → behind ≡ behind_in octets → (stream_of octets).rest ≡ (stream_of behind).rest
rest-step octets behind e b = ap (λ (s : Stream). s.rest) (stream_of-whole octets (sym e)) ∙ ap (λ (o : List ℕ). (stream_of o).rest) (sym b)

pub messages-step : (octets first behind : List ℕ) (message : Message) (old new whole : List Message) → true ≡ is_whole octets
    → first ≡ take (length_in octets) octets → behind ≡ behind_in octets → message ≡ message_in first → new ≡ old ++ message ∷ []
    → whole ≡ old ++ (stream_of octets).messages → whole ≡ new ++ (stream_of behind).messages
messages-step octets first behind message old new whole e is_first is_behind is_message is_new h =
    let same : message ≡ first_in octets = is_message ∙ ap message_in is_first in
    h
    ∙ ap (λ (s : Stream). old ++ s.messages) (stream_of-whole octets (sym e))
    ∙ ap (λ (m : Message). old ++ (m ∷ (stream_of (behind_in octets)).messages)) (sym same)
    ∙ ap (λ (o : List ℕ). old ++ (message ∷ (stream_of o).messages)) (sym is_behind)
    ∙ sym (append_assoc old (message ∷ []) (stream_of behind).messages)
    ∙ ap (λ (ms : List Message). ms ++ (stream_of behind).messages) (sym is_new)

pub rest-nothing : (stream_of []).rest ≡ []
rest-nothing = ap (λ (s : Stream). s.rest) (stream_of-unread [] refl)
