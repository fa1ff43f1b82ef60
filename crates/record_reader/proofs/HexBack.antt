-- Octets that are written in hexadecimal, and read again.
use Rattle.std.proofs.Common.{◌≡◌, ℕ, zero, suc, ◌+◌, ◌*◌, ◌/◌, ◌%◌, ◌<◌, true, false, eqb, List, [], ◌∷◌, length, slice_index, Some, Ok, refl, ap, arith}
use Rattle.std.proofs.Math.Bool.{and-false}
use Rattle.std.specs.List.{list_all}
use Rattle.std.specs.Str.{bytes_eq}
use Rattle.std.proofs.lemmas.List.Elements.{All-head, All-tail}
use Rattle.hex.specs.Hex.{lower_digits, encode_with, encode_lower, decode_pairs, decode_of, hex_digit_value, pair_value}
use Rattle.dia_avp.specs.AvpList.{AreOctets}
use Rattle.record_reader.proofs.SpacedWords.{IsWord, is_ink, is_below_tilde}

-- a digit is worth its place, and visible
abbrev IsDigit : ℕ → Type 0
IsDigit n = (hex_digit_value (slice_index lower_digits n) ≡ Some n) × (is_ink (slice_index lower_digits n) ≡ true) × (is_below_tilde (slice_index lower_digits n) ≡ true)

digit : (n : ℕ) → n < 16 → IsDigit n
digit zero h = (refl, refl, refl)
digit (suc zero) h = (refl, refl, refl)
digit (suc (suc zero)) h = (refl, refl, refl)
digit (suc (suc (suc zero))) h = (refl, refl, refl)
digit (suc (suc (suc (suc zero)))) h = (refl, refl, refl)
digit (suc (suc (suc (suc (suc zero))))) h = (refl, refl, refl)
digit (suc (suc (suc (suc (suc (suc zero)))))) h = (refl, refl, refl)
digit (suc (suc (suc (suc (suc (suc (suc zero))))))) h = (refl, refl, refl)
digit (suc (suc (suc (suc (suc (suc (suc (suc zero)))))))) h = (refl, refl, refl)
digit (suc (suc (suc (suc (suc (suc (suc (suc (suc zero))))))))) h = (refl, refl, refl)
digit (suc (suc (suc (suc (suc (suc (suc (suc (suc (suc zero)))))))))) h = (refl, refl, refl)
digit (suc (suc (suc (suc (suc (suc (suc (suc (suc (suc (suc zero))))))))))) h = (refl, refl, refl)
digit (suc (suc (suc (suc (suc (suc (suc (suc (suc (suc (suc (suc zero)))))))))))) h = (refl, refl, refl)
digit (suc (suc (suc (suc (suc (suc (suc (suc (suc (suc (suc (suc (suc zero))))))))))))) h = (refl, refl, refl)
digit (suc (suc (suc (suc (suc (suc (suc (suc (suc (suc (suc (suc (suc (suc zero)))))))))))))) h = (refl, refl, refl)
digit (suc (suc (suc (suc (suc (suc (suc (suc (suc (suc (suc (suc (suc (suc (suc zero))))))))))))))) h = (refl, refl, refl)
digit (suc (suc (suc (suc (suc (suc (suc (suc (suc (suc (suc (suc (suc (suc (suc (suc n)))))))))))))))) h = absurd (omega arith)

high : (octets : List ℕ) (octet : ℕ) → AreOctets (octet ∷ octets) → IsDigit (octet / 16)
high octets octet all = let small : octet < 256 = All-head (λ octet. octet < 256) octet octets all in digit (octet / 16) (omega arith)

low : (octet : ℕ) → IsDigit (octet % 16)
low octet = digit (octet % 16) (omega arith)

pair_back : (octets : List ℕ) (octet at : ℕ) → AreOctets (octet ∷ octets)
    → pair_value (slice_index lower_digits (octet / 16)) (slice_index lower_digits (octet % 16)) at ≡ Ok octet
pair_back octets octet at all =
    let first = high octets octet all in
    let second = low octet in
    rw (first.0, second.0) (ap (λ (n : ℕ). Ok n) (omega arith))

rest : (octet : ℕ) (octets : List ℕ) → AreOctets (octet ∷ octets) → AreOctets octets
rest octet octets all = All-tail (λ octet. octet < 256) octet octets all

decode_pairs-encoded : (at : ℕ) (octets : List ℕ) → AreOctets octets → decode_pairs at (encode_lower octets) ≡ Ok octets
unfolding decode_pairs encode_with
decode_pairs-encoded at [] all = refl
decode_pairs-encoded at (octet ∷ octets) all = rw (pair_back octets octet at all, decode_pairs-encoded (at + 2) octets (rest octet octets all)) refl

length-encoded : (octets : List ℕ) → length (encode_lower octets) ≡ 2 * length octets
unfolding encode_with
length-encoded [] = refl
length-encoded (octet ∷ octets) = let below = length-encoded octets in omega arith

pub decode_of-encoded : (octets : List ℕ) → AreOctets octets → decode_of (encode_lower octets) ≡ Ok octets
decode_of-encoded octets all =
    let even : length (encode_lower octets) % 2 ≡ 0 = omega (arith, length-encoded octets) in
    rw even (decode_pairs-encoded 0 octets all)

ink_in : (octets : List ℕ) → AreOctets octets → list_all is_ink (encode_lower octets) ≡ true
unfolding encode_with
ink_in [] all = refl
ink_in (octet ∷ octets) all =
    let first = high octets octet all in
    let second = low octet in
    rw (first.1, second.1, ink_in octets (rest octet octets all)) refl

pub encoded_below_tilde : (octets : List ℕ) → AreOctets octets → list_all is_below_tilde (encode_lower octets) ≡ true
unfolding encode_with
encoded_below_tilde [] all = refl
encoded_below_tilde (octet ∷ octets) all =
    let first = high octets octet all in
    let second = low octet in
    rw (first.2, second.2, encoded_below_tilde octets (rest octet octets all)) refl

pub IsWord-encoded : (octets : List ℕ) → 0 < length octets → AreOctets octets → IsWord (encode_lower octets)
IsWord-encoded octets some all = record { some = omega (arith, length-encoded octets); ink = ink_in octets all }

-- two digits or more are not the word for no answer
pub encoded_is_no_dash : (octets : List ℕ) → 0 < length octets → bytes_eq (encode_lower octets) (45 ∷ []) ≡ false
unfolding encode_with
encoded_is_no_dash [] some = absurd (omega arith)
encoded_is_no_dash (octet ∷ octets) some = and-false (eqb (slice_index lower_digits (octet / 16)) 45)
