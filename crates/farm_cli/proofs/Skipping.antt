-- The numbers of steps that did not apply, one step after the other.
use Rattle.std.proofs.Common.{◌≡◌, ℕ, ◌+◌, ◌<◌, List, [], ◌∷◌, ◌++◌, length, take, refl, sym, ap, ◌∙◌, arith, append_assoc, length-take}
use Rattle.std.proofs.lemmas.List.{append-nil}
use Rattle.farm_base.specs.declared.step.Step.{Step}
use Rattle.farm_model.specs.Run.{Past, Transition, steps_in}
use Rattle.farm_cli.specs.Skipped.{number_if, skipped_from}

-- one more
pub skipped_from-push : (number : ℕ) (past : Past) (t : Transition) → skipped_from number (past ++ t ∷ []) ≡ skipped_from number past ++ number_if t.applied (number + length past)
skipped_from-push number [] t =
    let none : Past = [] in
    let same : number ≡ number + length none = omega arith in
    append-nil (number_if t.applied number) ∙ ap (λ (n : ℕ). number_if t.applied n) same
skipped_from-push number (first ∷ past) t =
    let counted : (number + 1) + length past ≡ number + length (first ∷ past) = omega arith in
    let front = number_if first.applied number in
    let rest = skipped_from (number + 1) past in
    ap (λ (more : List ℕ). front ++ more) (skipped_from-push (number + 1) past t)
    ∙ (sym (append_assoc front rest (number_if t.applied ((number + 1) + length past)))
    ∙ ap (λ (n : ℕ). (front ++ rest) ++ number_if t.applied n) counted)

-- as many transitions as steps
length_in : (past : Past) → length (steps_in past) ≡ length past
length_in [] = refl
length_in (first ∷ past) = let rest = length_in past in omega (arith, rest)

pub length_so_far : (past : Past) (steps : List Step) (place : ℕ) → steps_in past ≡ take place steps → place < length steps → length past ≡ place
length_so_far past steps place same within =
    let long = length_in past in
    let cut = length-take place steps in
    let equal = ap length same in
    omega (arith, long, cut, equal)
