-- A number that is read from octets has these octets.
use Rattle.std.proofs.Common.{◌≡◌, ℕ, zero, suc, ◌+◌, ◌*◌, ◌/◌, ◌%◌, ◌^◌, ◌<◌, ◌≤◌, List, [], ◌∷◌, length, get_or, take, drop, refl, sym, ap, ◌∙◌, arith}
use Rattle.std.proofs.Math.Nat.{div-one, mod-eq_of_lt, mul-add-div_right, mul-add-mod_self_right, mul_assoc, one-le-pow, pow-succ'}
use Rattle.std.proofs.lemmas.List.{get_or-drop}
use Rattle.std.proofs.lemmas.Nat.{div-mul-add}
use Rattle.std.specs.Int.{byte_at, bytes_high_first}
use Rattle.byteorder.specs.Endian.{big_from}
use Rattle.byteorder.specs.Numbers.{big_from-cons, big_from-lt}

abbrev pub AreOctets : List ℕ → Type 0
AreOctets octets = (i : ℕ) → get_or octets i 0 < 256

pub AreOctets-drop : (n : ℕ) (octets : List ℕ) → AreOctets octets → AreOctets (drop n octets)
AreOctets-drop n octets h i = rw get_or-drop (h (n + i))

pub AreOctets-rest : (b : ℕ) (octets : List ℕ) → AreOctets (b ∷ octets) → AreOctets octets
AreOctets-rest b octets h i = h (suc i)

byte_at-pow : (k x : ℕ) → byte_at k x ≡ x / 256 ^ k % 256
byte_at-pow zero x = ap (λ (y : ℕ). y % 256) (sym (div-one x))
byte_at-pow (suc k) x = refl

pow_pos256 : (n : ℕ) → zero < 256 ^ n
pow_pos256 n = let h = one-le-pow n 256 (omega arith) in omega arith

-- the low octets of a number are those of what is left below them
low_octets : (k y r : ℕ) → bytes_high_first k (y * 256 ^ k + r) ≡ bytes_high_first k r
low_octets zero y r = refl
low_octets (suc k) y r =
    let moved : y * 256 ^ suc k ≡ y * 256 * 256 ^ k = ap (λ (p : ℕ). y * p) (pow-succ' 256 k) ∙ sym (mul_assoc y 256 (256 ^ k)) in
    let first : byte_at k (y * 256 * 256 ^ k + r) ≡ byte_at k r =
    byte_at-pow k (y * 256 * 256 ^ k + r) ∙ ap (λ (q : ℕ). q % 256) (mul-add-div_right (pow_pos256 k) (y * 256) r) ∙ mul-add-mod_self_right y 256 (r / 256 ^ k) ∙ sym (byte_at-pow k r) in
    let others : bytes_high_first k (y * 256 * 256 ^ k + r) ≡ bytes_high_first k r = low_octets k (y * 256) r in
    ap (λ (x : ℕ). bytes_high_first (suc k) (x + r)) moved ∙ ap (λ (b : ℕ). b ∷ bytes_high_first k (y * 256 * 256 ^ k + r)) first ∙ ap (λ (bs : List ℕ). byte_at k r ∷ bs) others

pub octets_of_number : (n : ℕ) (octets : List ℕ) → n ≤ length octets → AreOctets octets → bytes_high_first n (big_from 0 n octets) ≡ take n octets
octets_of_number zero octets long fits = refl
octets_of_number (suc n) [] long fits = absurd (omega arith)
octets_of_number (suc n) (x ∷ xs) long fits =
    let left = big_from 0 n xs in
    let small : big_from 0 n xs < 256 ^ n = big_from-lt 0 n xs (λ k. fits (suc k)) in
    let whole : big_from 0 (suc n) (x ∷ xs) ≡ x * 256 ^ n + left = ap (λ (r : ℕ). x * 256 ^ n + r) (big_from-cons 0 n x xs) in
    let first : byte_at n (x * 256 ^ n + left) ≡ x =
    byte_at-pow n (x * 256 ^ n + left) ∙ ap (λ (q : ℕ). q % 256) (div-mul-add x (256 ^ n) left small) ∙ mod-eq_of_lt (fits 0) in
    let others : bytes_high_first n (x * 256 ^ n + left) ≡ take n xs = low_octets n x left ∙ octets_of_number n xs (omega arith) (λ i. fits (suc i)) in
    ap (bytes_high_first (suc n)) whole ∙ ap (λ (b : ℕ). b ∷ bytes_high_first n (x * 256 ^ n + left)) first ∙ ap (λ (bs : List ℕ). x ∷ bs) others
