-- What is read from a stream, piece by piece, and what is written to one.
use Rattle.std.proofs.Common.{◌≡◌, ℕ, zero, suc, ◌+◌, ◌≤◌, List, [], ◌∷◌, ◌++◌, length, take, drop, Option, Some, None, refl, sym, subst, ap, ◌∙◌, arith, append_assoc}
use Rattle.std.specs.Prelude.{IfSome}
use Rattle.std.specs.Io.KnownBytes.{Appends, Consumes, IsAtEnd, Keeps}
use Rattle.std.proofs.lemmas.List.{append-nil, take_all, take-append-drop}
use Rattle.farm_text.specs.Reading.{ReadsUpTo}
use Rattle.farm_text.specs.Writing.{BeginsWithRest}

-- one piece after another
pub Consumes-then : (a b c : Option (List ℕ)) (xs ys : List ℕ) → Consumes a b xs → Consumes b c ys → Consumes a c (xs ++ ys)
Consumes-then None b c xs ys p q = tt
Consumes-then (Some a) None c xs ys p q = absurd p
Consumes-then (Some a) (Some b) None xs ys p q = absurd q
Consumes-then (Some a) (Some b) (Some c) xs ys p q = p ∙ ap (λ (zs : List ℕ). xs ++ zs) q ∙ sym (append_assoc xs ys c)

pub Consumes-none : (a : Option (List ℕ)) → Consumes a a []
Consumes-none None = tt
Consumes-none (Some xs) = refl

pub Consumes-kept : (a b c : Option (List ℕ)) (xs : List ℕ) → Consumes a b xs → Keeps b c → Consumes a c xs
Consumes-kept None b c xs p q = tt
Consumes-kept (Some a) None c xs p q = absurd p
Consumes-kept (Some a) (Some b) None xs p q = absurd q
Consumes-kept (Some a) (Some b) (Some c) xs p q = p ∙ ap (λ (zs : List ℕ). xs ++ zs) (sym q)

pub Appends-then : (a b c : Option (List ℕ)) (xs ys : List ℕ) → Appends a b xs → Appends b c ys → Appends a c (xs ++ ys)
Appends-then None b c xs ys p q = tt
Appends-then (Some a) None c xs ys p q = absurd p
Appends-then (Some a) (Some b) None xs ys p q = absurd q
Appends-then (Some a) (Some b) (Some c) xs ys p q = q ∙ ap (λ (zs : List ℕ). zs ++ ys) p ∙ append_assoc a xs ys

pub Appends-none : (a : Option (List ℕ)) → Appends a a []
Appends-none None = tt
Appends-none (Some xs) = sym (append-nil xs)

pub Appends-kept : (a b c : Option (List ℕ)) (xs : List ℕ) → Appends a b xs → Keeps b c → Appends a c xs
Appends-kept None b c xs p q = tt
Appends-kept (Some a) None c xs p q = absurd p
Appends-kept (Some a) (Some b) None xs p q = absurd q
Appends-kept (Some a) (Some b) (Some c) xs p q = q ∙ p

take_front : (n : ℕ) (xs ys : List ℕ) → length xs ≡ n → take n (xs ++ ys) ≡ xs
take_front n [] ys e = subst (λ (k : ℕ). take k ys ≡ []) e refl
take_front zero (x ∷ xs) ys e = absurd (omega arith)
take_front (suc n) (x ∷ xs) ys e = ap (λ (zs : List ℕ). x ∷ zs) (take_front n xs ys (omega arith))

-- all was read
pub read_to_end : (n : ℕ) (a b : Option (List ℕ)) (xs : List ℕ) → Consumes a b xs → IsAtEnd b → length xs ≤ n → IfSome a (λ octets. xs ≡ take n octets)
read_to_end n None b xs p end le = tt
read_to_end n (Some octets) None xs p end le = absurd p
read_to_end n (Some octets) (Some left) xs p end le =
    let all : octets ≡ xs = p ∙ ap (λ (zs : List ℕ). xs ++ zs) end ∙ append-nil xs in
    sym (ap (take n) all ∙ take_all n xs le)

-- so much was read
pub read_up_to : (n : ℕ) (a b : Option (List ℕ)) (xs : List ℕ) → Consumes a b xs → length xs ≡ n → IfSome a (λ octets. xs ≡ take n octets)
read_up_to n None b xs p is = tt
read_up_to n (Some octets) None xs p is = absurd p
read_up_to n (Some octets) (Some left) xs p is = sym (ap (take n) p ∙ take_front n xs left is)

-- so much more was written
pub write_more : (a b c : Option (List ℕ)) (text rest : List ℕ) (n : ℕ) → BeginsWithRest a b text rest → Appends b c (take n rest) → BeginsWithRest a c text (drop n rest)
write_more a b c text rest n begins more = record {
  written = begins.written ++ take n rest;
  all = append_assoc begins.written (take n rest) (drop n rest) ∙ ap (λ (xs : List ℕ). begins.written ++ xs) (take-append-drop n rest) ∙ begins.all;
  appends = Appends-then a b c begins.written (take n rest) begins.appends more;
}

-- the last read gave nothing
pub read_end : (n : ℕ) (a b c : Option (List ℕ)) (xs buf : List ℕ) (count : ℕ) → count ≡ 0 → Consumes a b xs → Consumes b c (take count buf) → (count ≡ 0 → IsAtEnd c) → length xs ≤ n → IfSome a (λ octets. xs ≡ take n octets)
read_end n a b c xs buf count none before last end le =
    let nothing : Consumes b c [] = subst (λ (k : ℕ). Consumes b c (take k buf)) none last in
    read_to_end n a c xs (subst (λ (ys : List ℕ). Consumes a c ys) (append-nil xs) (Consumes-then a b c xs [] before nothing)) (end none) le

-- what was taken from the stream is what was to be read
pub reads-text : (limit : ℕ) (a b : Option (List ℕ)) (xs : List ℕ) → IfSome a (λ octets. xs ≡ take (limit + 1) octets) → Consumes a b xs → ReadsUpTo limit a b
reads-text limit None b xs is p = tt
reads-text limit (Some octets) b xs is p = subst (λ (ys : List ℕ). Consumes (Some octets) b ys) is p

-- the last read took nothing
pub taken_nothing : (a b c : Option (List ℕ)) (xs buf : List ℕ) (count : ℕ) → count ≡ 0 → Consumes a b xs → Consumes b c (take count buf) → Consumes a c xs
taken_nothing a b c xs buf count none before last =
    subst (λ (ys : List ℕ). Consumes a c ys) (append-nil xs) (Consumes-then a b c xs [] before (subst (λ (k : ℕ). Consumes b c (take k buf)) none last))
