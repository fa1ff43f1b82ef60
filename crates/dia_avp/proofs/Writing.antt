-- The parts of a written AVP.
use Rattle.std.proofs.Common.{◌≡◌, ℕ, zero, suc, ◌<◌, List, [], ◌∷◌, ◌++◌, length, take, Bool, true, false, cond, refl, ap, ◌∙◌, arith, append_assoc}
use Rattle.std.specs.Prelude.{replicate}
use Rattle.byteorder.specs.Endian.{big_bytes}
use Rattle.dia_avp.specs.declared.avp.RawAvp.{RawAvp}
use Rattle.dia_avp.specs.AvpList.{has_vendor, header_len, length_of, padding_of, vendor_of, with_avp, written}

-- the header in a buffer of 12 octets, of which the last four are written only with a vendor
pub header_front : (vendor : Bool) (code flags len number : ℕ) → take (cond vendor 12 8) (big_bytes 4 code ++ (flags ∷ big_bytes 3 len) ++ big_bytes 4 number) ≡ big_bytes 4 code ++ (flags ∷ big_bytes 3 len) ++ cond vendor (big_bytes 4 number) []
header_front true code flags len number = refl
header_front false code flags len number = refl

-- up to three octets of padding
pub zeros_front : (n : ℕ) → n < 4 → take {A = ℕ} n (0 ∷ 0 ∷ 0 ∷ []) ≡ replicate n 0
zeros_front zero lt = refl
zeros_front (suc zero) lt = refl
zeros_front (suc (suc zero)) lt = refl
zeros_front (suc (suc (suc zero))) lt = refl
zeros_front (suc (suc (suc (suc n)))) lt = absurd (omega arith)

joined : (old header value padding : List ℕ) → ((old ++ header) ++ value) ++ padding ≡ old ++ ((header ++ value) ++ padding)
joined old header value padding = simp append_assoc

-- a header, a value and padding, one written after the other
pub spelled : (avp : RawAvp) (old a b c buffer : List ℕ) (header padding : ℕ) → buffer ≡ big_bytes 4 avp.code ++ (avp.flags ∷ big_bytes 3 (length_of avp)) ++ big_bytes 4 avp.vendor
    → header ≡ header_len avp.flags → padding ≡ padding_of (length_of avp) → padding < 4
    → a ≡ old ++ take header buffer → b ≡ a ++ avp.value → c ≡ b ++ take padding (0 ∷ 0 ∷ 0 ∷ []) → c ≡ old ++ written avp
spelled avp old a b c buffer header padding is_buffer is_header is_padding lt is_a is_b is_c =
    let front : List ℕ = big_bytes 4 avp.code ++ (avp.flags ∷ big_bytes 3 (length_of avp)) in
    let first : take header buffer ≡ front ++ vendor_of avp =
    ap (λ (n : ℕ). take n buffer) is_header ∙ ap (λ (xs : List ℕ). take (header_len avp.flags) xs) is_buffer
    ∙ header_front (has_vendor avp.flags) avp.code avp.flags (length_of avp) avp.vendor in
    let last : take {A = ℕ} padding (0 ∷ 0 ∷ 0 ∷ []) ≡ replicate (padding_of (length_of avp)) 0 =
    zeros_front padding lt ∙ ap (λ (n : ℕ). replicate n 0) is_padding in
    is_c
    ∙ ap (λ (xs : List ℕ). xs ++ take padding (0 ∷ 0 ∷ 0 ∷ [])) (is_b ∙ ap (λ (xs : List ℕ). xs ++ avp.value) (is_a ∙ ap (λ (xs : List ℕ). old ++ xs) first))
    ∙ ap (λ (xs : List ℕ). ((old ++ (front ++ vendor_of avp)) ++ avp.value) ++ xs) last
    ∙ joined old (front ++ vendor_of avp) avp.value (replicate (padding_of (length_of avp)) 0)

-- octets, zeros up to a multiple of 4, and an AVP, one written after the other
pub with_avp-parts : (octets : List ℕ) (avp : RawAvp) (none a b c : List ℕ) (padding : ℕ) → padding ≡ padding_of (length octets) → padding < 4
    → none ≡ [] → a ≡ none ++ octets → b ≡ a ++ take padding (0 ∷ 0 ∷ 0 ∷ []) → c ≡ b ++ written avp → c ≡ with_avp octets avp
with_avp-parts octets avp none a b c padding is_padding lt is_none is_a is_b is_c =
    let zeros : take {A = ℕ} padding (0 ∷ 0 ∷ 0 ∷ []) ≡ replicate (padding_of (length octets)) 0 = zeros_front padding lt ∙ ap (λ (n : ℕ). replicate n 0) is_padding in
    is_c ∙ ap (λ (xs : List ℕ). xs ++ written avp)
    (is_b ∙ ap (λ (xs : List ℕ). xs ++ take padding (0 ∷ 0 ∷ 0 ∷ [])) (is_a ∙ ap (λ (xs : List ℕ). xs ++ octets) is_none) ∙ ap (λ (xs : List ℕ). octets ++ xs) zeros)
