-- Octets are the octets of the number that they spell.
use Rattle.std.proofs.Common.{◌≡◌, ℕ, zero, suc, ◌+◌, ◌*◌, ◌^◌, ◌/◌, ◌<◌, ◌≤◌, List, [], ◌∷◌, length, take, get_or, refl, sym, subst, ap, ◌∙◌, arith, ⊎_elim}
use Rattle.std.proofs.lemmas.List.{append-nil, get_or_past, length-take-le}
use Rattle.std.proofs.lemmas.List.Elements.{All-nil, All-cons, All-tail, All-take}
use Rattle.std.proofs.lemmas.Bool.{cases_lt}
use Rattle.std.proofs.lemmas.Nat.{div-mul-add}
use Rattle.std.specs.Int.{byte_at}
use Rattle.byteorder.specs.Endian.{big_number, big_bytes, big_from}
use Rattle.byteorder.specs.Numbers.{big_from-cons, big_from-lt, big_from-take, big_number-reads_back, length-bytes_high_first}
use Rattle.dia_avp.specs.AvpList.{AreOctets}

-- past the end of a list a place reads 0
pub octet_at : (octets : List ℕ) → AreOctets octets → (k : ℕ) → get_or octets k 0 < 256
octet_at octets all k = ⊎_elim (λ lt. all k 0 lt) (λ ge. subst (λ (n : ℕ). n < 256) (sym (get_or_past octets k 0 ge)) (omega arith)) (cases_lt k (length octets))

pub big_number-lt : (n : ℕ) (octets : List ℕ) → AreOctets octets → big_number n octets < 256 ^ n
big_number-lt n octets all = big_from-lt 0 n octets (octet_at octets all)

byte_at-lt : (k x : ℕ) → byte_at k x < 256
byte_at-lt zero x = omega arith
byte_at-lt (suc k) x = omega arith

AreOctets-big_bytes : (n x : ℕ) → AreOctets (big_bytes n x)
AreOctets-big_bytes zero x = All-nil (λ octet. octet < 256)
AreOctets-big_bytes (suc n) x = All-cons (λ octet. octet < 256) (byte_at n x) (big_bytes n x) (byte_at-lt n x) (AreOctets-big_bytes n x)

first_digit : (x y m a b : ℕ) → a < m → b < m → x * m + a ≡ y * m + b → x ≡ y
first_digit x y m a b p q e = sym (div-mul-add x m a p) ∙ ap (λ (n : ℕ). n / m) e ∙ div-mul-add y m b q

other_digits : (x y m a b : ℕ) → x ≡ y → x * m + a ≡ y * m + b → a ≡ b
other_digits x y m a b p e = let same : x * m ≡ y * m = ap (λ (n : ℕ). n * m) p in omega arith

-- as many octets that spell one number are the same
same_octets : (n : ℕ) (xs ys : List ℕ) → length xs ≡ n → length ys ≡ n → AreOctets xs → AreOctets ys → big_from 0 n xs ≡ big_from 0 n ys → xs ≡ ys
same_octets n [] [] p q a b e = refl
same_octets n [] (y ∷ ys) p q a b e = absurd (omega arith)
same_octets n (x ∷ xs) [] p q a b e = absurd (omega arith)
same_octets zero (x ∷ xs) (y ∷ ys) p q a b e = absurd (omega arith)
same_octets (suc n) (x ∷ xs) (y ∷ ys) p q a b e =
    let tail_a : AreOctets xs = All-tail (λ octet. octet < 256) x xs a in
    let tail_b : AreOctets ys = All-tail (λ octet. octet < 256) y ys b in
    let digits : x * 256 ^ n + big_from 0 n xs ≡ y * 256 ^ n + big_from 0 n ys =
    ap (λ (r : ℕ). x * 256 ^ n + r) (sym (big_from-cons 0 n x xs)) ∙ e ∙ ap (λ (r : ℕ). y * 256 ^ n + r) (big_from-cons 0 n y ys) in
    let first : x ≡ y = first_digit x y (256 ^ n) (big_from 0 n xs) (big_from 0 n ys) (big_number-lt n xs tail_a) (big_number-lt n ys tail_b) digits in
    let rest : xs ≡ ys = same_octets n xs ys (omega arith) (omega arith) tail_a tail_b (other_digits x y (256 ^ n) (big_from 0 n xs) (big_from 0 n ys) first digits) in
    ap (λ (z : ℕ). z ∷ xs) first ∙ ap (λ (zs : List ℕ). y ∷ zs) rest

-- the number of the first octets, written again
pub big_bytes-number : (n : ℕ) (octets : List ℕ) → n ≤ length octets → AreOctets octets → big_bytes n (big_number n octets) ≡ take n octets
big_bytes-number n octets le all =
    let number : ℕ = big_number n octets in
    let back : big_from 0 n (big_bytes n number) ≡ number =
    subst (λ (xs : List ℕ). big_from 0 n xs ≡ number) (append-nil (big_bytes n number)) (big_number-reads_back n number [] (big_number-lt n octets all)) in
    same_octets n (big_bytes n number) (take n octets) (length-bytes_high_first n number) (length-take-le n octets le) (AreOctets-big_bytes n number) (All-take (λ octet. octet < 256) n octets all)
    (back ∙ sym (big_from-take 0 n n octets (omega arith)))
