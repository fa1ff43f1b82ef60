-- What a reader of a stream answers to a piece.
use Rattle.std.proofs.Common.{◌≡◌, ◌≢◌, ℕ, ◌<◌, ◌⊎◌, inl, inr, arith, List, [], ◌∷◌, ◌++◌, length, Option, Some, None, Ok, Err, refl, sym, subst, ap, ◌∙◌}
use Rattle.std.specs.Global.{Vec}
use Rattle.dia_message.specs.declared.frames.FrameFault.{FrameFault}
use Rattle.dia_message.specs.declared.frames.FrameFault.TheVariants.{Version, Length, TooLong, OutOfMemory}
use Rattle.dia_message.specs.declared.message.Message.{Message}
use Rattle.dia_message.specs.Stream.{Stream, fault_at, unread, behind_messages, stream_of}
use Rattle.dia_message.specs.Feeding.{fault_behind, fault_alone, kept_behind, kept_of, Feeds}
use Rattle.dia_message.proofs.Whole.{fault_at-memory}
use Rattle.dia_message.proofs.Streaming.{Ends-stream, stream_of-rest}
use Rattle.dia_message.proofs.Cutting.{stream_of-append, stream_of-fault}

-- a fault that is answered, whichever it is
Feeds-err : (rest piece kept : List ℕ) (f : FrameFault) → (fault_alone (stream_of (rest ++ piece)) ≡ Some f) × (kept ≡ kept_of rest piece) → (f ≡ OutOfMemory → kept ≡ rest) → Feeds rest piece (Err f) kept
Feeds-err rest piece kept Version a b = a
Feeds-err rest piece kept Length a b = a
Feeds-err rest piece kept TooLong a b = a
Feeds-err rest piece kept OutOfMemory a b = b refl

-- and what it says to a caller
pub Feeds-refused : (rest piece kept : List ℕ) (f : FrameFault) → f ≢ OutOfMemory → Feeds rest piece (Err f) kept → (fault_alone (stream_of (rest ++ piece)) ≡ Some f) × (kept ≡ kept_of rest piece)
Feeds-refused rest piece kept Version not_memory h = h
Feeds-refused rest piece kept Length not_memory h = h
Feeds-refused rest piece kept TooLong not_memory h = h
Feeds-refused rest piece kept OutOfMemory not_memory h = absurd (not_memory refl)

-- behind a fault the piece is not taken
pub Feeds-known : (rest piece : List ℕ) (f : FrameFault) → stream_of rest ≡ unread rest → Some f ≡ (stream_of rest).fault → Feeds rest piece (Err f) rest
Feeds-known rest piece f is known =
    let fault : fault_at rest ≡ Some f = sym (known ∙ ap (λ (s : Stream). s.fault) is) in
    Feeds-err rest piece rest f
    (ap fault_alone (stream_of-fault rest piece f fault), sym (ap (λ (o : Option FrameFault). kept_behind o rest piece) (sym known)))
    (λ _. refl)

-- the fault of the new rest is the stream's
pub fault_of-rest : (octets : List ℕ) → (stream_of (stream_of octets).rest).fault ≡ (stream_of octets).fault
fault_of-rest octets = ap (λ (s : Stream). s.fault) (stream_of-rest octets) ∙ sym (Ends-stream octets).why

fault_behind-none : (messages : List Message) → fault_behind messages None ≡ None
fault_behind-none [] = refl
fault_behind-none (m ∷ messages) = refl

fault_behind-empty : (messages : List Message) (fault : Option FrameFault) → length messages ≡ 0 → fault_behind messages fault ≡ fault
fault_behind-empty [] fault e = refl
fault_behind-empty (m ∷ messages) fault e = absurd (omega arith)

fault_behind-some : (messages : List Message) (fault : Option FrameFault) → 0 < length messages → fault_behind messages fault ≡ None
fault_behind-some [] fault e = absurd (omega arith)
fault_behind-some (m ∷ messages) fault e = refl

-- The octets before, those before with the piece, and the messages that are new with it.
pub record Takes (old piece taken rest : List ℕ) (messages : List Message) : Type 0 where
  pub was : (stream_of old).rest ≡ rest
  pub faultless : None ≡ (stream_of rest).fault
  pub now : taken ≡ old ++ piece
  pub new : messages ≡ (stream_of ((stream_of old).rest ++ piece)).messages

kept : (old piece taken rest : List ℕ) (messages : List Message) → Takes old piece taken rest messages
    → ((stream_of taken).rest ≡ (stream_of (rest ++ piece)).rest) × ((stream_of taken).fault ≡ (stream_of (rest ++ piece)).fault) × (messages ≡ (stream_of (rest ++ piece)).messages)
kept old piece taken rest messages t =
    let whole : stream_of taken ≡ behind_messages (stream_of old).messages (stream_of (rest ++ piece)) =
    ap stream_of t.now ∙ stream_of-append old piece
    ∙ ap (λ (r : List ℕ). behind_messages (stream_of old).messages (stream_of (r ++ piece))) t.was in (
      ap (λ (s : Stream). s.rest) whole,
      ap (λ (s : Stream). s.fault) whole,
      t.new ∙ ap (λ (r : List ℕ). (stream_of (r ++ piece)).messages) t.was,
    )

pub Feeds-fault : (old piece taken rest : List ℕ) (messages : List Message) (f : FrameFault) → Takes old piece taken rest messages
    → Some f ≡ (stream_of (stream_of taken).rest).fault → length messages ≡ 0 → Feeds rest piece (Err f) (stream_of taken).rest
Feeds-fault old piece taken rest messages f t known none =
    let k = kept old piece taken rest messages t in
    let is : (stream_of (rest ++ piece)).fault ≡ Some f = sym k.1 ∙ sym (fault_of-rest taken) ∙ sym known in
    Feeds-err rest piece (stream_of taken).rest f (
      fault_behind-empty (stream_of (rest ++ piece)).messages (stream_of (rest ++ piece)).fault (sym (ap length k.2) ∙ none) ∙ is,
      k.0 ∙ ap (λ (o : Option FrameFault). kept_behind o rest piece) t.faultless,
    )
    (λ e. absurd (fault_at-memory (stream_of taken).rest (sym (known ∙ ap (λ (s : Stream). s.fault) (stream_of-rest taken)) ∙ ap (λ (x : FrameFault). Some x) e)))

pub Feeds-ok : (old piece taken rest : List ℕ) (messages : Vec Message) → Takes old piece taken rest messages.items
    → (0 < length messages.items) ⊎ (None ≡ (stream_of (stream_of taken).rest).fault) → Feeds rest piece (Ok messages) (stream_of taken).rest
Feeds-ok old piece taken rest messages t h =
    let k = kept old piece taken rest messages.items t in
    (alone h, k.2, k.0)
  where
    alone : (0 < length messages.items) ⊎ (None ≡ (stream_of (stream_of taken).rest).fault) → fault_alone (stream_of (rest ++ piece)) ≡ None
    alone (inl some) =
        let k = kept old piece taken rest messages.items t in
        fault_behind-some (stream_of (rest ++ piece)).messages (stream_of (rest ++ piece)).fault (subst (λ (n : ℕ). 0 < n) (ap length k.2) some)
    alone (inr none) =
        let k = kept old piece taken rest messages.items t in
        ap (fault_behind (stream_of (rest ++ piece)).messages) (sym k.1 ∙ sym (fault_of-rest taken) ∙ sym none) ∙ fault_behind-none (stream_of (rest ++ piece)).messages
