-- Where the first item that passes gives way to another: what the list is then, what is among it, and how many pass.
use Rattle.std.proofs.Common.{◌≡◌, Bool, true, false, cond, List, [], ◌∷◌, ◌++◌, map, Some, inl, inr, refl, sym, subst, ap, ◌∙◌, arith}
use Rattle.std.specs.List.{find}
use Rattle.std.specs.Prelude.{◌⊎◌, count_by}
use Rattle.dia_base.proofs.Counting.{one, count-cons}
use Rattle.farm_law.specs.Lists.{Has, here, there}
use Rattle.farm_law.proofs.Lists.{Has-append}
use Rattle.farm_base.specs.Lists.{replace_first}
use Rattle.farm_model.proofs.Lists.Among.{Has-cons, Has-parts, Has-right}

pub record Parted {A : Type 0} (test : A → Bool) (xs : List A) (x : A) : Type 0 where
  pub before : List A
  pub after : List A
  pub whole : xs ≡ before ++ x ∷ after
  pub change : (y : A) → replace_first test y xs ≡ before ++ y ∷ after

pub parted : {A : Type 0} (test : A → Bool) (xs : List A) (x : A) → find test xs ≡ Some x → Parted test xs x
parted test [] x e = absurd cc
parted {A} test (z ∷ zs) x e = go (parted test zs x) (test z) refl e
  where
    go : (find test zs ≡ Some x → Parted test zs x) → (b : Bool) → test z ≡ b → cond b (Some z) (find test zs) ≡ Some x → Parted test (z ∷ zs) x
    go more true is k =
        let same : z ≡ x = cc in
        record {
          before = [];
          after = zs;
          whole = ap (λ (v : A). v ∷ zs) same;
          change = λ y. ap (λ (b : Bool). cond b (y ∷ zs) (z ∷ replace_first test y zs))
              is;
        }
    go more false is k =
        let m = more k in
        record {
          before = z ∷ m.before;
          after = m.after;
          whole = ap (λ (vs : List A). z ∷ vs) m.whole;
          change = λ y. ap
              (λ (b : Bool). cond b (y ∷ zs) (z ∷ replace_first test y zs)) is ∙ ap (λ (vs : List A). z ∷ vs) (m.change y);
        }

pub Has-replaced : {A : Type 0} (test : A → Bool) (y : A) {x : A} (xs : List A) → Has x (replace_first test y xs) → (x ≡ y) ⊎ Has x xs
Has-replaced test y [] h = inr h
Has-replaced test y {x} (z ∷ zs) h = go (Has-replaced test y zs) (test z) h
  where
    go : (Has x (replace_first test y zs) → (x ≡ y) ⊎ Has x zs) → (b : Bool) → Has x (cond b (y ∷ zs) (z ∷ replace_first test y zs)) → (x ≡ y) ⊎ Has x (z ∷ zs)
    go more true g = elim (Has-cons g) [ inl q ↦ inl q | inr k ↦ inr (there k) ]
    go more false g = elim (Has-cons g) [
      | inl q ↦ inr (subst (λ (v : _). Has v (z ∷ zs)) (sym q) here)
      | inr k ↦ elim (more k) [ inl q ↦ inl q | inr j ↦ inr (there j) ]
    ]

-- the first that passes gives way to another that passes the same tests
pub count_replaced : {A : Type 0} (p test : A → Bool) (x y : A) (xs : List A) → find test xs ≡ Some x → p y ≡ p x → count_by p (replace_first test y xs) ≡
    count_by p xs
count_replaced p test x y [] e same = refl
count_replaced {A} p test x y (z ∷ zs) e same = go (count_replaced p test x y zs) (test z) e
  where
    go : (find test zs ≡ Some x → p y ≡ p x → count_by p (replace_first test y zs) ≡ count_by p zs) → (b : Bool) → cond b (Some z) (find test zs) ≡ Some x →
        count_by p (cond b (y ∷ zs) (z ∷ replace_first test y zs)) ≡ count_by p (z ∷ zs)
    go more true k =
        let is : z ≡ x = cc in
        let first : one (p y) ≡ one (p z) = ap one (same ∙ ap p (sym is)) in
        omega (arith, count-cons p y zs, count-cons p z zs)
    go more false k = let rest = more k same in omega (arith, count-cons p z (replace_first test y zs), count-cons p z zs)

-- what is made of each item is the same, where it is the same of those two
pub map_replaced : {A B : Type 0} (f : A → B) (test : A → Bool) (x y : A) (xs : List A) → find test xs ≡ Some x → f y ≡ f x → map f (replace_first test y xs) ≡
    map f xs
map_replaced f test x y [] e same = refl
map_replaced {A} {B} f test x y (z ∷ zs) e same = go (test z) (map_replaced f test x y zs) e
  where
    go : (b : Bool) → (find test zs ≡ Some x → f y ≡ f x → map f (replace_first test y zs) ≡ map f zs) → cond b (Some z) (find test zs) ≡ Some x → map f
        (cond b (y ∷ zs) (z ∷ replace_first test y zs)) ≡ map f (z ∷ zs)
    go true more k = let is : z ≡ x = cc in ap (λ (v : B). v ∷ map f zs) (same ∙ ap f (sym is))
    go false more k = ap (λ (rest : List B). f z ∷ rest) (more k same)

-- the other stands then in its place, and all else as before
pub Has-replacement : {A : Type 0} (test : A → Bool) (x y : A) (xs : List A) → find test xs ≡ Some x → Has y (replace_first test y xs)
Has-replacement test x y xs e = let p = parted test xs x e in subst (Has y) (sym (p.change y)) (Has-right p.before here)

pub Has-beside : {A : Type 0} (test : A → Bool) (x y : A) (xs : List A) → find test xs ≡ Some x → {z : A} → Has z xs → (z ≡ x) ⊎ Has z (replace_first test y xs)
Has-beside {A} test x y xs e {z} h =
    let p = parted test xs x e in
    let there_still : Has z (p.before ++ p.after) → Has z (replace_first test y xs) = λ g. subst (Has z) (sym (p.change y))
    (elim (Has-parts p.before g) [ inl b ↦ Has-append (y ∷ p.after) b | inr a ↦ Has-right p.before (there a) ]) in
    elim (Has-parts p.before (subst (Has z) p.whole h)) [
      | inl b ↦ inr (there_still (Has-append p.after b))
      | inr k ↦ elim (Has-cons k) [ inl is ↦ inl is | inr a ↦ inr (there_still (Has-right p.before a)) ]
    ]
