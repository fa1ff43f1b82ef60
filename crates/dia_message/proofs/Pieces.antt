-- A stream that is fed in pieces.
use Rattle.std.proofs.Common.{◌≡◌, ℕ, List, [], ◌∷◌, ◌++◌, Option, Some, None, refl, sym, ap, ◌∙◌, append_assoc}
use Rattle.std.specs.List.{concat}
use Rattle.std.proofs.lemmas.List.{append-nil}
use Rattle.dia_message.specs.declared.frames.FrameFault.{FrameFault}
use Rattle.dia_message.specs.declared.message.Message.{Message}
use Rattle.dia_message.specs.Stream.{Stream, stream_of}
use Rattle.dia_message.specs.Feeding.{kept_behind, kept_of, given}
use Rattle.dia_message.proofs.Streaming.{Ends-stream, stream_of-unread}
use Rattle.dia_message.proofs.Cutting.{stream_of-append, stream_of-append_fault, stream_of-fault}
use Rattle.dia_message.proofs.Fed.{fault_of-rest}

-- the messages of the octets, and then those for the pieces
abbrev Gives : List ℕ → List (List ℕ) → Type 0
Gives octets pieces = (stream_of (octets ++ concat pieces)).messages ≡ (stream_of octets).messages ++ given (stream_of octets).rest pieces

Gives-faultless : (octets piece : List ℕ) (pieces : List (List ℕ)) → (stream_of octets).fault ≡ None → Gives (octets ++ piece) pieces → Gives octets (piece ∷ pieces)
Gives-faultless octets piece pieces e more =
    let rest : List ℕ = (stream_of octets).rest in
    let messages : List Message = (stream_of octets).messages in
    let cut = stream_of-append octets piece in
    let kept : kept_of rest piece ≡ (stream_of (octets ++ piece)).rest =
    ap (λ (o : Option FrameFault). kept_behind o rest piece) (fault_of-rest octets ∙ e) ∙ sym (ap (λ (s : Stream). s.rest) cut) in
    ap (λ (o : List ℕ). (stream_of o).messages) (sym (append_assoc octets piece (concat pieces)))
    ∙ more
    ∙ ap (λ (ms : List Message). ms ++ given (stream_of (octets ++ piece)).rest pieces) (ap (λ (s : Stream). s.messages) cut)
    ∙ append_assoc messages (stream_of (rest ++ piece)).messages (given (stream_of (octets ++ piece)).rest pieces)
    ∙ ap (λ (r : List ℕ). messages ++ ((stream_of (rest ++ piece)).messages ++ given r pieces)) (sym kept)

Gives-fault : (octets piece : List ℕ) (pieces : List (List ℕ)) (f : FrameFault) → (stream_of octets).fault ≡ Some f → Gives octets pieces → Gives octets (piece ∷ pieces)
Gives-fault octets piece pieces f e more =
    let rest : List ℕ = (stream_of octets).rest in
    let messages : List Message = (stream_of octets).messages in
    let kept : kept_of rest piece ≡ rest = ap (λ (o : Option FrameFault). kept_behind o rest piece) (fault_of-rest octets ∙ e) in
    let none : (stream_of (rest ++ piece)).messages ≡ [] = ap (λ (s : Stream). s.messages) (stream_of-fault rest piece f (sym (Ends-stream octets).why ∙ e)) in
    ap (λ (s : Stream). s.messages) (stream_of-append_fault octets (piece ++ concat pieces) f e)
    ∙ sym (ap (λ (s : Stream). s.messages) (stream_of-append_fault octets (concat pieces) f e))
    ∙ more
    ∙ ap (λ (r : List ℕ). messages ++ given r pieces) (sym kept)
    ∙ ap (λ (ms : List Message). messages ++ (ms ++ given (kept_of rest piece) pieces)) (sym none)

Gives-by : (octets piece : List ℕ) (pieces : List (List ℕ)) (fault : Option FrameFault) → (stream_of octets).fault ≡ fault → Gives octets pieces → Gives (octets ++ piece) pieces → Gives octets (piece ∷ pieces)
Gives-by octets piece pieces None e here more = Gives-faultless octets piece pieces e more
Gives-by octets piece pieces (Some f) e here more = Gives-fault octets piece pieces f e here

Gives-all : (pieces : List (List ℕ)) (octets : List ℕ) → Gives octets pieces
Gives-all [] octets = ap (λ (o : List ℕ). (stream_of o).messages) (append-nil octets) ∙ sym (append-nil (stream_of octets).messages)
Gives-all (piece ∷ pieces) octets = Gives-by octets piece pieces (stream_of octets).fault refl (Gives-all pieces octets) (Gives-all pieces (octets ++ piece))

pub given-concat : (pieces : List (List ℕ)) → given [] pieces ≡ (stream_of (concat pieces)).messages
given-concat pieces = sym (Gives-all pieces [] ∙ ap (λ (s : Stream). s.messages ++ given s.rest pieces) (stream_of-unread [] refl))
