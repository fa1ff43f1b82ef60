-- Two tests that agree on the items of a list: what they find there, and what takes its place.
use Rattle.std.proofs.Common.{◌≡◌, Bool, true, false, cond, List, [], ◌∷◌, Option, Some, refl, sym, ap, ◌∙◌}
use Rattle.std.specs.List.{find}
use Rattle.farm_law.specs.Lists.{Has, here, there}
use Rattle.farm_base.specs.Lists.{replace_first}

pub same_test : (p q : Bool) → (p ≡ true → q ≡ true) → (q ≡ true → p ≡ true) → p ≡ q
same_test true q f g = sym (f refl)
same_test false true f g = g refl
same_test false false f g = refl

pub find_agrees : {A : Type 0} (p q : A → Bool) (xs : List A) → ((x : A) → Has x xs → p x ≡ q x) → find p xs ≡ find q xs
find_agrees p q [] same = refl
find_agrees {A} p q (x ∷ xs) same = ap (λ (b : Bool). cond b (Some x) (find p xs)) (same x here) ∙ ap (λ (o : Option A). cond (q x) (Some x) o)
    (find_agrees p q xs (λ y h. same y (there h)))

pub replace_agrees : {A : Type 0} (p q : A → Bool) (y : A) (xs : List A) → ((x : A) → Has x xs → p x ≡ q x) → replace_first p y xs ≡ replace_first q y xs
replace_agrees p q y [] same = refl
replace_agrees {A} p q y (x ∷ xs) same = ap (λ (b : Bool). cond b (y ∷ xs) (x ∷ replace_first p y xs)) (same x here) ∙ ap
    (λ (ys : List A). cond (q x) (y ∷ xs) (x ∷ ys)) (replace_agrees p q y xs (λ z h. same z (there h)))
