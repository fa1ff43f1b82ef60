-- How many messages a piece of a stream brings: no message is shorter than its header.
use Rattle.std.proofs.Common.{◌≡◌, ◌≢◌, ℕ, zero, suc, ◌+◌, ◌-◌, ◌*◌, ◌%◌, ◌<◌, ◌≤◌, Bool, true, false, leb, List, [], ◌∷◌, ◌++◌, length, refl, sym, subst, ap, ◌∙◌, arith, length-append, length-drop}
use Rattle.std.proofs.lemmas.Bool.{leb-true}
use Rattle.std.proofs.lemmas.Bool.Decides.{nat_tests}
use Rattle.dia_base.specs.Limits.{message_limit}
use Rattle.dia_message.specs.declared.message.Message.{Message}
use Rattle.dia_message.specs.Header.{length_in}
use Rattle.dia_message.specs.Stream.{Stream, is_whole, stream_of}
use Rattle.dia_message.proofs.Whole.{Whole, Whole-from, is_whole-true, length_in-append, version_in-append}
use Rattle.dia_message.proofs.Streaming.{behind_in, behind_in-shorter, stream_of-whole, stream_of-unread, Ends-stream}
use Rattle.farm_net.specs.declared.loss.Loss.{Loss}
use Rattle.farm_net.specs.declared.loss.Loss.TheVariants.{Read, End, Frame, Write, Unsent, OutOfMemory}
use Rattle.farm_net.proofs.Streams.{failed}

abbrev count : List ℕ → ℕ
count octets = length (stream_of octets).messages

-- each message has twenty octets at least
abbrev Cost : List ℕ → Type 0
Cost octets = 20 * count octets ≤ length octets

count-unread : (octets : List ℕ) → is_whole octets ≡ false → count octets ≡ 0
count-unread octets e = ap (λ (s : Stream). length s.messages) (stream_of-unread octets e)

count-whole : (octets : List ℕ) → is_whole octets ≡ true → count octets ≡ suc (count (behind_in octets))
count-whole octets e = ap (λ (s : Stream). length s.messages) (stream_of-whole octets e)

behind-length : (octets : List ℕ) → Whole octets → length_in octets + length (behind_in octets) ≡ length octets
behind-length octets w =
    let within = w.within in
    omega (arith, length-drop (length_in octets) octets)

Cost-by : (octets : List ℕ) (whole : Bool) → is_whole octets ≡ whole → (is_whole octets ≡ true → Cost (behind_in octets)) → Cost octets
Cost-by octets false e more =
    let none = count-unread octets e in
    omega arith
Cost-by octets true e more =
    let w = Whole-from octets e in
    let least = w.least in
    let behind = behind-length octets w in
    let one = count-whole octets e in
    let others = more e in
    omega arith

Cost-from : (n : ℕ) (octets : List ℕ) → length octets ≤ n → Cost octets
Cost-from zero octets a = Cost-by octets (is_whole octets) refl (λ e. let shorter = behind_in-shorter octets e in absurd (omega arith))
Cost-from (suc n) octets a = Cost-by octets (is_whole octets) refl (λ e. let shorter = behind_in-shorter octets e in Cost-from n (behind_in octets) (omega arith))

-- ---- behind octets that hold no whole message

-- the first message ends behind them
first-reaches : (rest piece : List ℕ) → is_whole rest ≡ false → Whole (rest ++ piece) → length rest < length_in (rest ++ piece)
first-reaches rest piece e w = by_length (leb (length_in (rest ++ piece)) (length rest)) refl
  where
    by_length : (short : Bool) → leb (length_in (rest ++ piece)) (length rest) ≡ short → length rest < length_in (rest ++ piece)
    by_length false h = grind (arith, nat_tests)
    by_length true h =
        let within = leb-true (length_in (rest ++ piece)) (length rest) h in
        let least = w.least in
        let same = length_in-append rest piece (omega arith) in
        let version = version_in-append rest piece (omega arith) in
        let whole : Whole rest = record {
          version = sym version ∙ w.version;
          least = subst (λ (n : ℕ). 20 ≤ n) same w.least;
          even = subst (λ (n : ℕ). n % 4 ≡ 0) same w.even;
          most = subst (λ (n : ℕ). n ≤ message_limit) same w.most;
          within = subst (λ (n : ℕ). n ≤ length rest) same within;
        } in
        let is = is_whole-true rest whole in
        absurd cc

pub few : (rest piece : List ℕ) (more : ℕ) → is_whole rest ≡ false → length piece ≤ 20 * more → count (rest ++ piece) ≤ more
few rest piece more e short = by_whole (is_whole (rest ++ piece)) refl
  where
    by_whole : (whole : Bool) → is_whole (rest ++ piece) ≡ whole → count (rest ++ piece) ≤ more
    by_whole false u = let none = count-unread (rest ++ piece) u in omega arith
    by_whole true u =
        let w = Whole-from (rest ++ piece) u in
        let reaches = first-reaches rest piece e w in
        let behind = behind-length (rest ++ piece) w in
        let one = count-whole (rest ++ piece) u in
        let others = Cost-from (length (behind_in (rest ++ piece))) (behind_in (rest ++ piece)) (omega arith) in
        let all = length-append rest piece in
        omega arith

-- ---- in a turn

pub no_whole : (octets : List ℕ) → (stream_of octets).rest ≡ octets → is_whole octets ≡ false
no_whole octets unread = subst (λ (r : List ℕ). is_whole r ≡ false) unread (Ends-stream octets).is_unread

-- what a piece leaves holds no whole message
pub no_whole-left : (octets left : List ℕ) → left ≡ (stream_of octets).rest → is_whole left ≡ false
no_whole-left octets left is = subst (λ (r : List ℕ). is_whole r ≡ false) (sym is) (Ends-stream octets).is_unread

pub few-more : (old new : List Message) (rest piece : List ℕ) (most more : ℕ) → length old ≤ most → more ≡ most - length old → is_whole rest ≡ false
    → length piece ≤ 20 * more → new ≡ old ++ (stream_of (rest ++ piece)).messages → length new ≤ most
few-more old new rest piece most more within left unread short is =
    let brings = few rest piece more unread short in
    let all = ap length is ∙ length-append old (stream_of (rest ++ piece)).messages in
    omega arith

-- also where the connection is lost at the piece
pub few-lost : (old new : List Message) (rest piece : List ℕ) (most more : ℕ) (loss : Loss) → length old ≤ most → more ≡ most - length old → is_whole rest ≡ false
    → length piece ≤ 20 * more
    → (failed loss ≢ failed OutOfMemory → new ≡ old ++ (stream_of (rest ++ piece)).messages)
    → (failed loss ≡ failed OutOfMemory → new ≡ old) → length new ≤ most
few-lost old new rest piece most more OutOfMemory within left unread short messages same = subst (λ (ms : List Message). length ms ≤ most) (sym (same refl)) within
few-lost old new rest piece most more Read within left unread short messages same = few-more old new rest piece most more within left unread short (messages (λ e. cc))
few-lost old new rest piece most more End within left unread short messages same = few-more old new rest piece most more within left unread short (messages (λ e. cc))
few-lost old new rest piece most more (Frame fault) within left unread short messages same = few-more old new rest piece most more within left unread short (messages (λ e. cc))
few-lost old new rest piece most more Write within left unread short messages same = few-more old new rest piece most more within left unread short (messages (λ e. cc))
few-lost old new rest piece most more Unsent within left unread short messages same = few-more old new rest piece most more within left unread short (messages (λ e. cc))
