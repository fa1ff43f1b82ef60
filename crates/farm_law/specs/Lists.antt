-- Words on lists: what is among them, one item less, and some items less.
use Rattle.std.specs.Prelude.{List, [], ◌∷◌}

-- x is among these
pub data Has {A : Type 0} (x : A) : List A → Type 0 where
  here : {xs : List A} → Has x (x ∷ xs)
  there : {y : A} {xs : List A} → Has x xs → Has x (y ∷ xs)

-- the list, and what is left of it once one occurrence of x is taken out
pub data Without {A : Type 0} (x : A) : List A → List A → Type 0 where
  first : {xs : List A} → Without x (x ∷ xs) xs
  later : {y : A} {xs ys : List A} → Without x xs ys → Without x (y ∷ xs) (y ∷ ys)

-- what is left of the list once some items are taken out, each for a reason
pub data Left {A : Type 0} (Gone : A → Type 0) : List A → List A → Type 0 where
  nothing : Left Gone [] []
  stays : {x : A} {xs ys : List A} → Left Gone xs ys → Left Gone (x ∷ xs) (x ∷ ys)
  goes : {x : A} {xs ys : List A} → Gone x → Left Gone xs ys → Left Gone (x ∷ xs) ys
