-- A list without what stands at a place, which the last takes: the others, in another order.
use Rattle.std.proofs.Common.{◌≡◌, ℕ, zero, suc, ◌+◌, ◌-◌, ◌<◌, Bool, false, List, [], ◌∷◌, ◌++◌, length, take, get_or, set, Option, Some, sym, ap, subst, ◌∙◌, arith, remove, slice_get, swap_remove, map, option_map}
use Rattle.std.specs.List.{AllByRecursion}
use Rattle.std.specs.Option.{option_map_or}
use Rattle.std.proofs.lemmas.List.{get_or-map, length-map, map-set, take-map, take_all, take_more}
use Rattle.std.proofs.lemmas.Option.{slice_get-map, slice_get_within}
use Rattle.std.proofs.lemmas.Map.Keys.{IsDistinct-IsPermutation, IsDistinct-from_apart, apart_from_distinct}
use Rattle.std.proofs.lemmas.List.Elements.{All-from_recursion, recursion_from_All}
use Rattle.std.proofs.lemmas.List.Sorted.{All-permutation, IsPermutation-cons, IsPermutation-refl, IsPermutation-to_front}
use Rattle.std.specs.Prelude.{IsPermutation}
use Rattle.cc_book.specs.Standing.{without_at}

module _ {X : Type 0} where
  pub without-is : (xs : List X) (place : ℕ) (x : X) → slice_get xs place ≡ Some x → without_at xs place ≡ swap_remove xs place x
  without-is xs place x there = ap (λ (o : Option X). option_map_or (λ (y : X). swap_remove xs place y) o xs) there

  -- behind the first, the last is the same
  swap_remove-behind : (y z : X) (zs : List X) (place : ℕ) (x : X) → swap_remove (y ∷ z ∷ zs) (suc place) x ≡ y ∷ swap_remove (z ∷ zs) place x
  swap_remove-behind y z zs place x =
      let all : length (y ∷ z ∷ zs) - 1 ≡ suc (length zs) = omega arith in
      let behind : length (z ∷ zs) - 1 ≡ length zs = omega arith in
      ap (λ (n : ℕ). take n (set (y ∷ z ∷ zs) (suc place) (get_or (y ∷ z ∷ zs) n x))) all
      ∙ sym (ap (λ (n : ℕ). y ∷ take n (set (z ∷ zs) place (get_or (z ∷ zs) n x))) behind)

  pub without-behind : (y : X) (ys : List X) (place : ℕ) (x : X) → slice_get ys place ≡ Some x → without_at (y ∷ ys) (suc place) ≡ y ∷ without_at ys place
  without-behind y [] place x there = absurd cc
  without-behind y (z ∷ zs) place x there =
      without-is (y ∷ z ∷ zs) (suc place) x there ∙ swap_remove-behind y z zs place x ∙ ap (λ (l : List X). y ∷ l) (sym (without-is (z ∷ zs) place x there))

  -- the elements behind the first, of which the last comes first
  without-first : (y : X) (ys : List X) (x : X) → IsPermutation ys (swap_remove (y ∷ ys) 0 x)
  without-first y [] x = IsPermutation-refl []
  without-first y (z ∷ zs) x =
      let n = length zs in
      let last = get_or (z ∷ zs) n x in
      let cut : z ∷ zs ≡ take n (z ∷ zs) ++ last ∷ [] = sym (take_all (n + 1) (z ∷ zs) (omega arith)) ∙ take_more (z ∷ zs) n x (omega arith) in
      let all : length (y ∷ z ∷ zs) - 1 ≡ suc n = omega arith in
      let is : swap_remove (y ∷ z ∷ zs) 0 x ≡ last ∷ take n (z ∷ zs) = ap (λ (m : ℕ). take m (set (y ∷ z ∷ zs) 0 (get_or (y ∷ z ∷ zs) m x))) all in
      subst (IsPermutation (z ∷ zs)) (sym is)
      (subst (λ (l : List X). IsPermutation l (last ∷ take n (z ∷ zs))) (sym cut) (IsPermutation-to_front (take n (z ∷ zs)) last))

  -- what is left is the list without the element at the place, in another order
  pub without-shuffled : (xs : List X) (place : ℕ) (x : X) → slice_get xs place ≡ Some x → IsPermutation (remove xs place) (without_at xs place)
  without-shuffled [] place x there = absurd cc
  without-shuffled (y ∷ ys) zero x there = subst (IsPermutation ys) (sym (without-is (y ∷ ys) zero x there)) (without-first y ys x)
  without-shuffled (y ∷ ys) (suc place) x there =
      subst (IsPermutation (remove (y ∷ ys) (suc place))) (sym (without-behind y ys place x there))
      (IsPermutation-cons y (remove ys place) (without_at ys place) (without-shuffled ys place x there))

module _ {X : Type 0} (P : X → Type 0) where
  -- what holds of each holds of each in another order
  pub all-shuffled : (xs ys : List X) → IsPermutation xs ys → AllByRecursion P xs → AllByRecursion P ys
  all-shuffled xs ys moved all = recursion_from_All P ys (All-permutation P xs ys moved (All-from_recursion P xs all))

module _ {X Y : Type 0} (f : X → Y) where
  -- what is read of each
  pub map-without : (xs : List X) (place : ℕ) (x : X) → slice_get xs place ≡ Some x → map f (without_at xs place) ≡ without_at (map f xs) place
  map-without xs place x there =
      let n = length xs - 1 in
      let lt = slice_get_within xs place x there in
      let last = get_or xs n x in
      let long = length-map xs f in
      let there' : slice_get (map f xs) place ≡ Some (f x) = slice_get-map f xs place ∙ ap (option_map f) there in
      let read : get_or (map f xs) n (f x) ≡ f last = get_or-map f xs n x (f x) (omega arith) in
      let same : length (map f xs) - 1 ≡ n = omega arith in
      ap (map f) (without-is xs place x there)
      ∙ sym (take-map f n (set xs place last))
      ∙ ap (take n) (map-set f xs place last ∙ ap (set (map f xs) place) (sym read))
      ∙ sym (ap (λ (m : ℕ). take m (set (map f xs) place (get_or (map f xs) m (f x)))) same)
      ∙ sym (without-is (map f xs) place (f x) there')

module _ {X : Type 0} (same : X → X → Bool) (turns : (x y : X) → same x y ≡ same y x) where
  abbrev Apart : List X → Type 0
  Apart xs = (i j : ℕ) (d : X) → i < j → j < length xs → same (get_or xs i d) (get_or xs j d) ≡ false

  -- elements that differ stay so in another order
  pub apart-shuffled : (xs ys : List X) → IsPermutation xs ys → Apart xs → Apart ys
  apart-shuffled xs ys moved apart i j d lt below =
      apart_from_distinct same ys i j d (IsDistinct-IsPermutation same turns xs ys moved (IsDistinct-from_apart same xs apart)) lt below
