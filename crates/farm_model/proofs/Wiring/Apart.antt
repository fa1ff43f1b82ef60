-- From one node to another there is one direction at most; what goes back is on the same connection.
use Rattle.std.proofs.Common.{◌≡◌, ◌≤◌, Bool, true, false, cond, List, [], ◌∷◌, Some, None, inl, inr, refl, subst, ap, ◌∙◌, arith}
use Rattle.std.specs.Prelude.{◌&&◌, filter, count_by}
use Rattle.std.specs.List.{find}
use Rattle.std.proofs.lemmas.Bool.{and_parts}
use Rattle.dia_base.specs.declared.number.ConnId.{ConnId}
use Rattle.dia_base.specs.declared.number.NodeNo.{NodeNo}
use Rattle.dia_base.proofs.Counting.{one, count-cons, count-map}
use Rattle.farm_law.specs.Lists.{Has, here, there}
use Rattle.farm_model.specs.declared.state.Direction.{Direction}
use Rattle.farm_model.specs.InFlight.{goes}
use Rattle.farm_base.specs.Nodes.{is_node}
use Rattle.farm_model.specs.World.{is_heard}
use Rattle.farm_model.proofs.Lists.Among.{Has-cons, Has-kept}
use Rattle.farm_model.proofs.Wiring.Sides.{Side, side_of, sides}

-- ---- one item of a list passes a test

none_left : {A : Type 0} (test : A → Bool) (xs : List A) → count_by test xs ≡ 0 → filter test xs ≡ []
none_left test [] e = refl
none_left test (x ∷ xs) e = go (none_left test xs) (test x) refl
  where
    go : (count_by test xs ≡ 0 → filter test xs ≡ []) → (b : Bool) → test x ≡ b → cond b (x ∷ filter test xs) (filter test xs) ≡ []
    go more true is = let this : one (test x) ≡ 1 = ap one is in absurd (omega (arith, count-cons test x xs))
    go more false is = let this : one (test x) ≡ 0 = ap one is in more (omega (arith, count-cons test x xs))

pub one_left : {A : Type 0} (test : A → Bool) (x : A) (xs : List A) → count_by test xs ≤ 1 → find test xs ≡ Some x → filter test xs ≡ x ∷ []
one_left test x [] most e = absurd cc
one_left {A} test x (y ∷ ys) most e = go (one_left test x ys) (test y) refl e
  where
    go : (count_by test ys ≤ 1 → find test ys ≡ Some x → filter test ys ≡ x ∷ []) → (b : Bool) → test y ≡ b → cond b (Some y) (find test ys) ≡ Some x → cond b
        (y ∷ filter test ys) (filter test ys) ≡ x ∷ []
    go more true is k =
        let this : one (test y) ≡ 1 = ap one is in
        let same : y ≡ x = cc in
        ap (λ (v : A). v ∷ filter test ys) same ∙ ap (λ (vs : List A). x ∷ vs) (none_left test ys (omega (arith, count-cons test y ys)))
    go more false is k = let this : one (test y) ≡ 0 = ap one is in more (omega (arith, count-cons test y ys)) k

pub none_passes : {A : Type 0} (test : A → Bool) (xs : List A) → find test xs ≡ None → filter test xs ≡ []
none_passes test [] e = refl
none_passes test (x ∷ xs) e = go (test x) (none_passes test xs) e
  where
    go : (b : Bool) → (find test xs ≡ None → filter test xs ≡ []) → cond b (Some x) (find test xs) ≡ None → cond b (x ∷ filter test xs) (filter test xs) ≡ []
    go true more k = absurd cc
    go false more k = more k

-- whatever passes is what is found
pub the_one : {A : Type 0} (test : A → Bool) (x : A) (xs : List A) → count_by test xs ≤ 1 → find test xs ≡ Some x → {y : A} → Has y xs → test y ≡ true → y ≡ x
the_one test x xs most e {y} h passes = elim (Has-cons (subst (Has y) (one_left test x xs most e) (Has-kept test h passes)))
    [ inl same ↦ same | inr none ↦ elim none [ ] ]

-- ---- one way from a node to another

abbrev pub is_way : NodeNo → NodeNo → Side → Bool
is_way from to side = is_node side.1 from && is_node side.2 to

pub record AreApart (all : List Side) : Type 0 where
  pub once : (from to : NodeNo) → count_by (is_way from to) all ≤ 1
  pub same : (c d : ConnId) (a b : NodeNo) (k l : Bool) → Has (c, a, b, k) all → Has (d, b, a, l) all → c ≡ d

pub goes_once : (directions : List Direction) → AreApart (sides directions) → (from to : NodeNo) → count_by (goes from to) directions ≤ 1
goes_once directions apart from to = omega (arith, apart.once from to, count-map (is_way from to) side_of directions)

-- fewer pass the stricter test
pub fewer : {A : Type 0} (strict test : A → Bool) (xs : List A) → ((x : A) → Has x xs → strict x ≡ true → test x ≡ true) → count_by strict xs ≤ count_by test xs
fewer strict test [] more = omega arith
fewer {A} strict test (x ∷ xs) more =
    let rest = fewer strict test xs (λ y h. more y (there h)) in
    let first = go (strict x) (test x) (more x here) in
    omega (arith, rest, first, count-cons strict x xs, count-cons test x xs)
  where
    go : (s t : Bool) → (s ≡ true → t ≡ true) → one s ≤ one t
    go false t f = omega arith
    go true true f = omega arith
    go true false f = let no = f refl in absurd cc

-- no more are heard than go
pub heard_once : (directions : List Direction) → AreApart (sides directions) → (from to : NodeNo) → count_by (is_heard from to) directions ≤ 1
heard_once directions apart from to =
    let less = fewer (is_heard from to) (goes from to) directions (λ d h e. (and_parts (goes from to d) d.known e).0) in
    let most = goes_once directions apart from to in
    omega (arith, less, most)
