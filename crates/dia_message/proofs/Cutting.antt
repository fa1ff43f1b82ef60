-- A stream that is cut anywhere: octets and then more.
use Rattle.std.proofs.Common.{◌≡◌, ℕ, zero, suc, ◌≤◌, Bool, true, false, List, [], ◌∷◌, ◌++◌, length, take, drop, Option, Some, refl, sym, ap, ◌∙◌, arith}
use Rattle.std.proofs.lemmas.List.{append-nil, drop-append-le, take-append-le}
use Rattle.dia_message.specs.declared.frames.FrameFault.{FrameFault}
use Rattle.dia_message.specs.declared.message.Message.{Message}
use Rattle.dia_message.specs.Header.{length_in}
use Rattle.dia_message.specs.Stream.{Stream, fault_at, is_whole, message_in, behind_messages, stream_of}
use Rattle.dia_message.proofs.Whole.{Whole, Whole-from, Whole-append, is_whole-true, length_in-append, fault_at-append, is_whole-fault}
use Rattle.dia_message.proofs.Streaming.{first_in, behind_in, behind_in-shorter, stream_of-whole, stream_of-unread, Ends-stream}

-- the messages of the octets, and then those of what is left of them with more behind
abbrev pub Cuts : List ℕ → List ℕ → Type 0
Cuts octets more = stream_of (octets ++ more) ≡ behind_messages (stream_of octets).messages (stream_of ((stream_of octets).rest ++ more))

first_in-append : (octets more : List ℕ) → Whole octets → first_in (octets ++ more) ≡ first_in octets
first_in-append octets more w =
    let least = w.least in
    let within = w.within in
    ap message_in (ap (λ (n : ℕ). take n (octets ++ more)) (length_in-append octets more (omega arith)) ∙ take-append-le (length_in octets) octets more w.within)

behind_in-append : (octets more : List ℕ) → Whole octets → behind_in (octets ++ more) ≡ behind_in octets ++ more
behind_in-append octets more w =
    let least = w.least in
    let within = w.within in
    ap (λ (n : ℕ). drop n (octets ++ more)) (length_in-append octets more (omega arith)) ∙ drop-append-le (length_in octets) octets more w.within

-- a whole message at the front is read the same with more behind
pub whole-append : (octets more : List ℕ) → Whole octets → stream_of (octets ++ more) ≡ behind_messages (first_in octets ∷ []) (stream_of (behind_in octets ++ more))
whole-append octets more w =
    stream_of-whole (octets ++ more) (is_whole-true (octets ++ more) (Whole-append octets more w))
    ∙ ap (λ (m : Message). behind_messages (m ∷ []) (stream_of (behind_in (octets ++ more)))) (first_in-append octets more w)
    ∙ ap (λ (o : List ℕ). behind_messages (first_in octets ∷ []) (stream_of o)) (behind_in-append octets more w)

Cuts-by : (octets more : List ℕ) (whole : Bool) → is_whole octets ≡ whole → (is_whole octets ≡ true → Cuts (behind_in octets) more) → Cuts octets more
Cuts-by octets more false e shorter = sym (ap (λ (s : Stream). behind_messages s.messages (stream_of (s.rest ++ more))) (stream_of-unread octets e))
Cuts-by octets more true e shorter =
    whole-append octets more (Whole-from octets e)
    ∙ ap (behind_messages (first_in octets ∷ [])) (shorter e)
    ∙ sym (ap (λ (s : Stream). behind_messages s.messages (stream_of (s.rest ++ more))) (stream_of-whole octets e))

Cuts-from : (n : ℕ) (octets more : List ℕ) → length octets ≤ n → Cuts octets more
Cuts-from zero octets more a = Cuts-by octets more (is_whole octets) refl (λ e. let shorter = behind_in-shorter octets e in absurd (omega arith))
Cuts-from (suc n) octets more a = Cuts-by octets more (is_whole octets) refl (λ e. let shorter = behind_in-shorter octets e in Cuts-from n (behind_in octets) more (omega arith))

-- no cut matters
pub stream_of-append : (octets more : List ℕ) → Cuts octets more
stream_of-append octets more = Cuts-from (length octets) octets more (omega arith)

-- behind a fault nothing is read
pub stream_of-fault : (octets more : List ℕ) (f : FrameFault) → fault_at octets ≡ Some f → stream_of (octets ++ more) ≡ record { messages = []; rest = octets ++ more; fault = Some f }
stream_of-fault octets more f e =
    let stays = fault_at-append octets more f e in
    stream_of-unread (octets ++ more) (is_whole-fault (octets ++ more) f stays)
    ∙ ap (λ (o : Option FrameFault). let s : Stream = record { messages = []; rest = octets ++ more; fault = o } in s) stays

pub stream_of-append_fault : (octets more : List ℕ) (f : FrameFault) → (stream_of octets).fault ≡ Some f
    → stream_of (octets ++ more) ≡ record { messages = (stream_of octets).messages; rest = (stream_of octets).rest ++ more; fault = Some f }
stream_of-append_fault octets more f e =
    stream_of-append octets more
    ∙ ap (behind_messages (stream_of octets).messages) (stream_of-fault (stream_of octets).rest more f (sym (Ends-stream octets).why ∙ e))
    ∙ ap (λ (ms : List Message). let s : Stream = record { messages = ms; rest = (stream_of octets).rest ++ more; fault = Some f } in s) (append-nil (stream_of octets).messages)
