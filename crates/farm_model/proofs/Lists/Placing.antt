-- Where one part of a list changes, and what is made of the parts: one item more or less in the whole, or some left out.
use Rattle.std.proofs.Common.{◌≡◌, ℕ, zero, suc, Bool, true, false, cond, List, [], ◌∷◌, ◌++◌, map, Some, refl, subst, ap}
use Rattle.std.specs.Prelude.{flat_map, filter, slice_get, remove, slice_set}
use Rattle.std.specs.List.{find}
use Rattle.farm_law.specs.Lists.{Has, here, there, Without, first, later, Left, nothing, stays, goes}
use Rattle.farm_base.specs.Lists.{replace_first}

-- ---- one item less

pub Without-last : {A : Type 0} (xs : List A) (x : A) → Without x (xs ++ x ∷ []) xs
Without-last [] x = first
Without-last (y ∷ xs) x = later (Without-last xs x)

pub Without-left : {A : Type 0} {x : A} {xs ys : List A} (zs : List A) → Without x xs ys → Without x (xs ++ zs) (ys ++ zs)
Without-left zs first = first
Without-left zs (later h) = later (Without-left zs h)

pub Without-right : {A : Type 0} {x : A} (zs : List A) {xs ys : List A} → Without x xs ys → Without x (zs ++ xs) (zs ++ ys)
Without-right [] h = h
Without-right (z ∷ zs) h = later (Without-right zs h)

pub Without-map : {A B : Type 0} (f : A → B) {x : A} {xs ys : List A} → Without x xs ys → Without (f x) (map f xs) (map f ys)
Without-map f first = first
Without-map f (later h) = later (Without-map f h)

pub Without-middle : {A : Type 0} (before : List A) (x : A) (after : List A) → Without x (before ++ x ∷ after) (before ++ after)
Without-middle [] x after = first
Without-middle (y ∷ before) x after = later (Without-middle before x after)

pub Without-removed : {A : Type 0} {x : A} (xs : List A) (k : ℕ) → slice_get xs k ≡ Some x → Without x xs (remove xs k)
Without-removed [] k e = absurd cc
Without-removed (y ∷ ys) zero e = let same : y ≡ _ = cc in subst (λ (z : _). Without z (y ∷ ys) ys) same first
Without-removed (y ∷ ys) (suc k) e = later (Without-removed ys k e)

-- one item in the place of another, or the same in another place
pub record Turned {A : Type 0} (x y : A) (xs ys : List A) : Type 0 where
  pub rest : List A
  pub old : Without x xs rest
  pub new : Without y ys rest

-- ---- some items less

pub Left-all : {A : Type 0} {G : A → Type 0} (xs : List A) → Left G xs xs
Left-all [] = nothing
Left-all (x ∷ xs) = stays (Left-all xs)

pub Left-parts : {A : Type 0} {G : A → Type 0} {xs xs' ys ys' : List A} → Left G xs xs' → Left G ys ys' → Left G (xs ++ ys) (xs' ++ ys')
Left-parts nothing k = k
Left-parts (stays h) k = stays (Left-parts h k)
Left-parts (goes g h) k = goes g (Left-parts h k)

pub Left-none : {A : Type 0} {G : A → Type 0} (xs : List A) → ((x : A) → Has x xs → G x) → Left G xs []
Left-none [] g = nothing
Left-none (x ∷ xs) g = goes (g x here) (Left-none xs (λ y h. g y (there h)))

pub Left-without : {A : Type 0} {G : A → Type 0} {x : A} {xs ys : List A} → G x → Without x xs ys → Left G xs ys
Left-without g (first {xs}) = goes g (Left-all xs)
Left-without g (later h) = stays (Left-without g h)

-- what is left of the parts that pass, where what is made of the others may go
pub Left-filter : {A B : Type 0} {G : B → Type 0} (f : A → List B) (test : A → Bool) (xs : List A) →
    ((x : A) → Has x xs → test x ≡ false → (b : B) → Has b (f x) → G b) → Left G (flat_map f xs) (flat_map f (filter test xs))
Left-filter f test [] g = nothing
Left-filter {B = B} {G = G} f test (x ∷ xs) g = go (test x) refl (Left-filter f test xs (λ y h e. g y (there h) e))
  where
    go : (b : Bool) → test x ≡ b → Left G (flat_map f xs) (flat_map f (filter test xs)) → Left G (f x ++ flat_map f xs)
        (flat_map f (cond b (x ∷ filter test xs) (filter test xs)))
    go true e h = Left-parts (Left-all (f x)) h
    go false e h = Left-parts (Left-none (f x) (g x here e)) h

-- ---- the first part that passes gives way to another one

module _ {A B : Type 0} (f : A → List B) (test : A → Bool) {x y : A} where
  replaced : (P : List B → List B → Type 0) → P (f x) (f y) → ((bs cs zs : List B) → P bs cs → P (bs ++ zs) (cs ++ zs)) →
      ((zs bs cs : List B) → P bs cs → P (zs ++ bs) (zs ++ cs)) → (xs : List A) → find test xs ≡ Some x
      → P (flat_map f xs) (flat_map f (replace_first test y xs))
  replaced P p left right [] e = absurd cc
  replaced P p left right (z ∷ zs) e = go (replaced P p left right zs) (test z) e
    where
      go : (find test zs ≡ Some x → P (flat_map f zs) (flat_map f (replace_first test y zs))) → (b : Bool) → cond b (Some z) (find test zs) ≡ Some x → P
          (f z ++ flat_map f zs) (flat_map f (cond b (y ∷ zs) (z ∷ replace_first test y zs)))
      go more true k = let same : x ≡ z = cc in left _ _ (flat_map f zs) (subst (λ (v : A). P (f v) (f y)) same p)
      go more false k = right (f z) _ _ (more k)

  -- it has one item less
  pub parts_lose : {b : B} → Without b (f x) (f y) → (xs : List A) → find test xs ≡ Some x → Without b (flat_map f xs) (flat_map f (replace_first test y xs))
  parts_lose {b} w = replaced (Without b) w (λ bs cs zs h. Without-left zs h) (λ zs bs cs h. Without-right zs h)

  -- it has one item more
  pub parts_gain : {b : B} → Without b (f y) (f x) → (xs : List A) → find test xs ≡ Some x → Without b (flat_map f (replace_first test y xs)) (flat_map f xs)
  parts_gain {b} w = replaced (λ bs cs. Without b cs bs) w (λ bs cs zs h. Without-left zs h) (λ zs bs cs h. Without-right zs h)

  -- it has the same items
  pub parts_same : f y ≡ f x → (xs : List A) → find test xs ≡ Some x → flat_map f (replace_first test y xs) ≡ flat_map f xs
  parts_same e = replaced (λ bs cs. cs ≡ bs) e (λ bs cs zs h. ap (λ (ds : List B). ds ++ zs) h) (λ zs bs cs h. ap (λ (ds : List B). zs ++ ds) h)

  -- some of its items are left
  pub parts_left : {G : B → Type 0} → Left G (f x) (f y) → (xs : List A) → find test xs ≡ Some x → Left G (flat_map f xs) (flat_map f (replace_first test y xs))
  parts_left {G} w = replaced (Left G) w (λ bs cs zs h. Left-parts h (Left-all zs)) (λ zs bs cs h. Left-parts (Left-all zs) h)

  -- one of its items gives way to another
  pub parts_turn : {b c : B} → Turned b c (f x) (f y) → (xs : List A) → find test xs ≡ Some x → Turned b c (flat_map f xs)
      (flat_map f (replace_first test y xs))
  parts_turn {b} {c} w = replaced (Turned b c) w
      (λ bs cs zs h. record { rest = h.rest ++ zs; old = Without-left zs h.old; new = Without-left zs h.new })
      (λ zs bs cs h. record { rest = zs ++ h.rest; old = Without-right zs h.old; new = Without-right zs h.new })

-- ---- one item is set, and gives way to another one

module _ {A B : Type 0} (f : A → List B) {x y : A} where
  set_parts : (P : List B → List B → Type 0) → P (f x) (f y) → ((bs cs zs : List B) → P bs cs → P (bs ++ zs) (cs ++ zs)) →
      ((zs bs cs : List B) → P bs cs → P (zs ++ bs) (zs ++ cs)) → (xs : List A) (k : ℕ) → slice_get xs k ≡ Some x
      → P (flat_map f xs) (flat_map f (slice_set xs k y))
  set_parts P p left right [] k e = absurd cc
  set_parts P p left right (z ∷ zs) zero e = let same : x ≡ z = cc in left _ _ (flat_map f zs) (subst (λ (v : A). P (f v) (f y)) same p)
  set_parts P p left right (z ∷ zs) (suc k) e = right (f z) _ _ (set_parts P p left right zs k e)

  -- one item less is made of it
  pub set_lose : {b : B} → Without b (f x) (f y) → (xs : List A) (k : ℕ) → slice_get xs k ≡ Some x → Without b (flat_map f xs) (flat_map f (slice_set xs k y))
  set_lose {b} w = set_parts (Without b) w (λ bs cs zs h. Without-left zs h) (λ zs bs cs h. Without-right zs h)

  -- one item more
  pub set_gain : {b : B} → Without b (f y) (f x) → (xs : List A) (k : ℕ) → slice_get xs k ≡ Some x → Without b (flat_map f (slice_set xs k y)) (flat_map f xs)
  set_gain {b} w = set_parts (λ bs cs. Without b cs bs) w (λ bs cs zs h. Without-left zs h) (λ zs bs cs h. Without-right zs h)

  -- another one
  pub set_turn : {b c : B} → Turned b c (f x) (f y) → (xs : List A) (k : ℕ) → slice_get xs k ≡ Some x → Turned b c (flat_map f xs)
      (flat_map f (slice_set xs k y))
  set_turn {b} {c} w = set_parts (Turned b c) w
      (λ bs cs zs h. record { rest = h.rest ++ zs; old = Without-left zs h.old; new = Without-left zs h.new })
      (λ zs bs cs h. record { rest = zs ++ h.rest; old = Without-right zs h.old; new = Without-right zs h.new })
