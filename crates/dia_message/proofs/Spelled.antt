-- Octets that spell a message, alone and at the front of more.
use Rattle.std.proofs.Common.{◌≡◌, ℕ, ◌+◌, ◌-◌, ◌%◌, ◌<◌, ◌≤◌, Bool, true, false, List, [], ◌∷◌, ◌++◌, length, take, drop, Some, None, refl, sym, subst, ap, ◌∙◌, arith, length-append, length-drop}
use Rattle.std.specs.Prelude.{All}
use Rattle.std.proofs.lemmas.List.{append-nil, take-append-drop, length-take-le}
use Rattle.std.proofs.Math.Seq.{take-length}
use Rattle.dia_base.specs.Limits.{message_limit}
use Rattle.dia_message.specs.declared.header.Header.{Header}
use Rattle.dia_message.specs.declared.message.Message.{Message}
use Rattle.dia_message.specs.Header.{version_in, length_in, header_in, header_octets, without_reserved}
use Rattle.dia_message.specs.Spelling.{Spells, HasSpelling, octets_of}
use Rattle.dia_message.specs.Stream.{is_whole, message_in, behind_messages, stream_of, HoldsMessage}
use Rattle.dia_message.specs.Feeding.{only_message}
use Rattle.dia_message.proofs.HeaderBack.{header_in-written, length_in-written, written_again}
use Rattle.dia_message.proofs.Whole.{Whole, Whole-from, Whole-append, is_whole-true, length_in-append, version_in-append}
use Rattle.dia_message.proofs.Streaming.{first_in, behind_in}
use Rattle.dia_message.proofs.Cutting.{whole-append}
use Rattle.dia_message.proofs.Only.{none_is, only_message-unread, only_message-more, only_message-whole}

same_message : (x y : Message) → x.header ≡ y.header → x.body ≡ y.body → x ≡ y
same_message x y h b =
    ap (λ (v : Header). let m : Message = record { header = v; body = x.body } in m) h
    ∙ ap (λ (v : List ℕ). let m : Message = record { header = y.header; body = v } in m) b

pub Whole-spelled : (octets : List ℕ) (message : Message) → Spells octets message → Whole octets
Whole-spelled octets message s =
    let size = s.size in
    record {
      version = s.version;
      least = subst (λ (n : ℕ). 20 ≤ n) s.size s.least;
      even = subst (λ (n : ℕ). n % 4 ≡ 0) s.size s.whole;
      most = subst (λ (n : ℕ). n ≤ message_limit) s.size s.most;
      within = omega arith;
    }

-- a message's octets are all of them
pub take-spelled : (octets : List ℕ) → length octets ≡ length_in octets → take (length_in octets) octets ≡ octets
take-spelled octets size = ap (λ (n : ℕ). take n octets) (sym size) ∙ take-length octets

pub behind_in-spelled : (octets : List ℕ) → length octets ≡ length_in octets → behind_in octets ≡ []
behind_in-spelled octets size = none_is (behind_in octets) (omega (arith, length-drop (length_in octets) octets))

pub first_in-spelled : (octets : List ℕ) (message : Message) → Spells octets message → message ≡ first_in octets
first_in-spelled octets message s = same_message message (message_in octets) s.header s.body ∙ ap message_in (sym (take-spelled octets s.size))

-- a message at the front of more
pub stream_of-spelled : (octets behind : List ℕ) (message : Message) → Spells octets message → stream_of (octets ++ behind) ≡ behind_messages (message ∷ []) (stream_of behind)
stream_of-spelled octets behind message s =
    whole-append octets behind (Whole-spelled octets message s)
    ∙ ap (λ (m : Message). behind_messages (m ∷ []) (stream_of (behind_in octets ++ behind))) (sym (first_in-spelled octets message s))
    ∙ ap (λ (o : List ℕ). behind_messages (message ∷ []) (stream_of (o ++ behind))) (behind_in-spelled octets s.size)

-- the octets of a whole message at the front spell it
pub Spells-first : (octets : List ℕ) → is_whole octets ≡ true → Spells (take (length_in octets) octets) (first_in octets)
Spells-first octets e =
    let w = Whole-from octets e in
    let least = w.least in
    let within = w.within in
    let front : List ℕ = take (length_in octets) octets in
    let size : length front ≡ length_in octets = length-take-le (length_in octets) octets w.within in
    let whole : front ++ drop (length_in octets) octets ≡ octets = take-append-drop (length_in octets) octets in
    let same : length_in octets ≡ length_in front = ap (λ (o : List ℕ). length_in o) (sym whole) ∙ length_in-append front (drop (length_in octets) octets) (omega arith) in
    let first : version_in octets ≡ version_in front = ap (λ (o : List ℕ). version_in o) (sym whole) ∙ version_in-append front (drop (length_in octets) octets) (omega arith) in
    record {
      version = sym first ∙ w.version;
      size = size ∙ same;
      least = omega arith;
      most = subst (λ (n : ℕ). n ≤ message_limit) (sym size) w.most;
      whole = subst (λ (n : ℕ). n % 4 ≡ 0) (sym size) w.even;
      header = refl;
      body = refl;
    }

pub is_whole-holds : (octets : List ℕ) → HoldsMessage octets → is_whole octets ≡ true
is_whole-holds octets h =
    subst (λ (o : List ℕ). is_whole o ≡ true) (sym h.3) (is_whole-true (h.0 ++ h.1) (Whole-append h.0 h.1 (Whole-spelled h.0 h.2 h.4)))

-- ---- one message

pub only_message-spelled : (octets : List ℕ) (message : Message) → Spells octets message → only_message octets ≡ Some message
only_message-spelled octets message s =
    let whole = is_whole-true octets (Whole-spelled octets message s) in
    only_message-whole octets (take (length_in octets) octets) (behind_in octets) message (sym whole) refl refl (first_in-spelled octets message s) (ap length (behind_in-spelled octets s.size))

none_some : (message : Message) → None ≡ Some message → ⊥
none_some message e = cc

pub Spells-only : (octets : List ℕ) (message : Message) → only_message octets ≡ Some message → Spells octets message
Spells-only octets message e = by_whole (is_whole octets) refl
  where
    by_rest : (rest : List ℕ) → is_whole octets ≡ true → behind_in octets ≡ rest → Spells octets message
    by_rest (x ∷ xs) w r =
        let some : 0 < length (behind_in octets) = subst (λ (o : List ℕ). 0 < length o) (sym r) (omega arith) in
        absurd (none_some message (sym (only_message-more octets (behind_in octets) (sym w) refl some) ∙ e))
    by_rest [] w r =
        let is : Some message ≡ Some (first_in octets) = sym e ∙ only_message-whole octets (take (length_in octets) octets) (behind_in octets) (first_in octets) (sym w) refl refl refl (ap length r) in
        let same : message ≡ first_in octets = cc in
        let front : take (length_in octets) octets ≡ octets =
        sym (append-nil (take (length_in octets) octets)) ∙ ap (λ (o : List ℕ). take (length_in octets) octets ++ o) (sym r) ∙ take-append-drop (length_in octets) octets in
        subst (λ (o : List ℕ). Spells o message) front (subst (λ (m : Message). Spells (take (length_in octets) octets) m) (sym same) (Spells-first octets w))

    by_whole : (whole : Bool) → is_whole octets ≡ whole → Spells octets message
    by_whole true w = by_rest (behind_in octets) w refl
    by_whole false w = absurd (none_some message (sym (only_message-unread octets w) ∙ e))

-- ---- the written octets

pub length-octets_of : (message : Message) → length (octets_of message) ≡ 20 + length message.body
unfolding octets_of
length-octets_of message = length-append (header_octets message.header (20 + length message.body)) message.body

pub Spells-written : (message : Message) → HasSpelling message → Spells (octets_of message) message
unfolding octets_of
Spells-written message h =
    let most = h.most in
    let even = h.whole in
    let size = length-octets_of message in
    record {
      version = refl;
      size = size ∙ sym (length_in-written message.header (20 + length message.body) message.body (omega arith));
      least = omega arith;
      most = omega arith;
      whole = omega arith;
      header = sym (header_in-written message.header (20 + length message.body) message.body h.header);
      body = refl;
    }

pub octets_of-spelled : (octets : List ℕ) (message : Message) → All (λ octet. octet < 256) octets → Spells octets message → octets_of message ≡ without_reserved octets
unfolding octets_of
octets_of-spelled octets message all s =
    let least = s.least in
    let body : length message.body ≡ length octets - 20 = ap length s.body ∙ length-drop 20 octets in
    let size : 20 + length message.body ≡ length_in octets = omega (arith, s.size) in
    ap (λ (n : ℕ). header_octets message.header n ++ message.body) size
    ∙ ap (λ (h : Header). header_octets h (length_in octets) ++ message.body) s.header
    ∙ ap (λ (o : List ℕ). header_octets (header_in octets) (length_in octets) ++ o) s.body
    ∙ written_again octets s.least all s.version
