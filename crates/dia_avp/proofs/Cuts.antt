-- Cuts of a buffer, and what is left of one.
use Rattle.std.proofs.Common.{◌≡◌, ℕ, zero, suc, ◌+◌, ◌-◌, List, [], ◌∷◌, length, take, drop, refl, sym, ap, ◌∙◌, arith, length-drop}
use Rattle.std.specs.Prelude.{slice_range}
use Rattle.std.proofs.lemmas.List.{drop-drop}

-- a cut whose places are counted from where the octets begin
pub cut-from : (at header len : ℕ) (buffer octets : List ℕ) → octets ≡ drop at buffer
    → slice_range buffer (at + header) (at + len) ≡ slice_range octets header len
cut-from at header len buffer octets there =
    let width : (at + len) - (at + header) ≡ len - header = omega arith in
    ap (λ (n : ℕ). take n (drop (at + header) buffer)) width
    ∙ ap (take (len - header)) (sym (drop-drop header at buffer))
    ∙ ap (λ (xs : List ℕ). take (len - header) (drop header xs)) (sym there)

-- what is left stands so far from the end as it is long
pub left-at : (n : ℕ) (xs : List ℕ) → drop n xs ≡ drop (length xs - length (drop n xs)) xs
left-at zero xs = let none : length xs - length xs ≡ 0 = omega arith in ap (λ (k : ℕ). drop k xs) (sym none)
left-at (suc n) [] = refl
left-at (suc n) (x ∷ xs) =
    let one : suc (length xs) - length (drop n xs) ≡ suc (length xs - length (drop n xs)) = omega (arith, length-drop n xs) in
    left-at n xs ∙ ap (λ (k : ℕ). drop k (x ∷ xs)) (sym one)

-- and so does what is left behind it
pub behind-at : (j k : ℕ) (body rest behind : List ℕ) → rest ≡ drop j body → behind ≡ drop k rest → behind ≡ drop (length body - length behind) body
behind-at j k body rest behind r b =
    let far : behind ≡ drop (j + k) body = b ∙ ap (drop k) r ∙ drop-drop k j body in
    far ∙ left-at (j + k) body ∙ ap (λ (xs : List ℕ). drop (length body - length xs) body) (sym far)
