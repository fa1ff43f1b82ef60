-- What is read of a stream piece by piece, and what is written.
use Rattle.std.proofs.Common.{◌≡◌, ◌≢◌, ℕ, List, [], ◌++◌, take, drop, Option, Result, Err, refl, sym, ap, ◌∙◌, append_assoc}
use Rattle.std.proofs.lemmas.List.{append-nil, take-append-drop}
use Rattle.std.proofs.KnownBytes.{Appends-nil, Appends-trans, Consumes-nil, Consumes-trans, Consumes-kept}
use Rattle.std.specs.Io.KnownBytes.{Appends, Consumes, Keeps}
use Rattle.dia_message.specs.declared.message.Message.{Message}
use Rattle.dia_message.specs.Stream.{Stream, stream_of}
use Rattle.dia_message.proofs.Cutting.{stream_of-append}
use Rattle.farm_net.specs.Turn.{HasRead, HasReadMore, HasWritten, Receives}
use Rattle.farm_net.specs.declared.loss.Loss.{Loss}
use Rattle.farm_net.specs.declared.loss.Loss.TheVariants.{Read, End, Frame, Write, Unsent, OutOfMemory}

-- ---- reading

pub HasRead-nothing : (a : Option (List ℕ)) (rest : List ℕ) (messages : List Message) → messages ≡ (stream_of rest).messages → (stream_of rest).rest ≡ rest
    → HasRead a a rest messages rest
HasRead-nothing a rest messages first unread = record {
  taken = [];
  read = Consumes-nil a;
  whole = first ∙ ap (λ (xs : List ℕ). (stream_of xs).messages) (sym (append-nil rest));
  behind = sym unread ∙ ap (λ (xs : List ℕ). (stream_of xs).rest) (sym (append-nil rest));
}

pub HasRead-kept : (a b c : Option (List ℕ)) (rest : List ℕ) (messages : List Message) (left : List ℕ) → HasRead a b rest messages left → Keeps b c
    → HasRead a c rest messages left
HasRead-kept a b c rest messages left h k = record { taken = h.taken; read = Consumes-kept a b c h.taken h.read k; whole = h.whole; behind = h.behind }

-- one piece more
pub HasRead-more : (a b c : Option (List ℕ)) (rest piece : List ℕ) (old new : List Message) (between left : List ℕ) → HasRead a b rest old between
    → Consumes b c piece
    → new ≡ old ++ (stream_of (between ++ piece)).messages → left ≡ (stream_of (between ++ piece)).rest → HasRead a c rest new left
HasRead-more a b c rest piece old new between left h more messages behind =
    let octets = rest ++ h.taken in
    let cut = stream_of-append octets piece in
    let joined : octets ++ piece ≡ rest ++ (h.taken ++ piece) = append_assoc rest h.taken piece in
    record {
      taken = h.taken ++ piece;
      read = Consumes-trans a b c h.taken piece h.read more;
      whole =
          messages ∙ ap (λ (ms : List Message). ms ++ (stream_of (between ++ piece)).messages) h.whole
          ∙ ap (λ (xs : List ℕ). (stream_of octets).messages ++ (stream_of (xs ++ piece)).messages) h.behind
          ∙ ap (λ (s : Stream). s.messages) (sym cut) ∙ ap (λ (xs : List ℕ). (stream_of xs).messages) joined;
      behind =
          behind ∙ ap (λ (xs : List ℕ). (stream_of (xs ++ piece)).rest) h.behind
          ∙ ap (λ (s : Stream). s.rest) (sym cut) ∙ ap (λ (xs : List ℕ). (stream_of xs).rest) joined;
    }

-- one piece more, for which memory is missing
pub HasRead-untaken : (a b c : Option (List ℕ)) (rest piece : List ℕ) (old new : List Message) (between : List ℕ) → HasRead a b rest old between
    → Consumes b c piece → new ≡ old → HasReadMore a c rest new
HasRead-untaken a b c rest piece old new between h more same = record {
  taken = h.taken;
  untaken = piece;
  read = Consumes-trans a b c h.taken piece h.read more;
  whole = same ∙ h.whole;
}

abbrev pub failed : Loss → Result (Unit {0}) Loss
failed loss = Err loss

-- The connection is lost at that piece.
pub Receives-lost : (a b c : Option (List ℕ)) (rest piece : List ℕ) (old new : List Message) (between left : List ℕ) (loss : Loss)
    → HasRead a b rest old between → Consumes b c piece
    → (failed loss ≢ failed OutOfMemory → new ≡ old ++ (stream_of (between ++ piece)).messages)
    → (failed loss ≢ failed OutOfMemory → left ≡ (stream_of (between ++ piece)).rest)
    → (failed loss ≡ failed OutOfMemory → new ≡ old) → Receives a c rest new left (Err loss)
Receives-lost a b c rest piece old new between left Read h more messages behind same =
    HasRead-more a b c rest piece old new between left h more (messages (λ e. cc)) (behind (λ e. cc))
Receives-lost a b c rest piece old new between left End h more messages behind same =
    HasRead-more a b c rest piece old new between left h more (messages (λ e. cc)) (behind (λ e. cc))
Receives-lost a b c rest piece old new between left (Frame fault) h more messages behind same =
    HasRead-more a b c rest piece old new between left h more (messages (λ e. cc)) (behind (λ e. cc))
Receives-lost a b c rest piece old new between left Write h more messages behind same =
    HasRead-more a b c rest piece old new between left h more (messages (λ e. cc)) (behind (λ e. cc))
Receives-lost a b c rest piece old new between left Unsent h more messages behind same =
    HasRead-more a b c rest piece old new between left h more (messages (λ e. cc)) (behind (λ e. cc))
Receives-lost a b c rest piece old new between left OutOfMemory h more messages behind same =
    HasRead-untaken a b c rest piece old new between h more (same refl)

-- ---- writing

pub HasWritten-nothing : (a : Option (List ℕ)) (unsent : List ℕ) → HasWritten a a unsent unsent
HasWritten-nothing a unsent = record { written = []; all = refl; appends = Appends-nil a }

pub HasWritten-more : (a b c : Option (List ℕ)) (unsent between left : List ℕ) (n : ℕ) → HasWritten a b unsent between → Appends b c (take n between)
    → left ≡ drop n between → HasWritten a c unsent left
HasWritten-more a b c unsent between left n h more is = record {
  written = h.written ++ take n between;
  all = h.all ∙ ap (λ (xs : List ℕ). h.written ++ xs) (sym (take-append-drop n between) ∙ ap (λ (xs : List ℕ). take n between ++ xs) (sym is))
      ∙ sym (append_assoc h.written (take n between) left);
  appends = Appends-trans a b c h.written (take n between) h.appends more;
}
