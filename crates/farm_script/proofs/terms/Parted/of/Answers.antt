use Rattle.std.proofs.Common.{◌≡◌, ◌∷◌, [], ◌++◌, List, Option, length, refl, sym, ap, ◌∙◌, append_assoc, arith}
use Rattle.std.specs.List.{filter_map}
use Rattle.std.specs.Vec.Iter.{into_iter_items}
use Rattle.std.proofs.lemmas.List.Elements.{filter_map-append}
use Rattle.farm_script.specs.declared.terms.AccountItem.{AccountItem}
use Rattle.farm_script.specs.TermsWords.{closing_of, joining_of, reopening_of}
use Rattle.farm_script.proofs.terms.Parted.of.Goals as goal

nothing_left : {X : Type 0} (l : List X) → length l ≡ 0 → l ≡ []
nothing_left [] h = refl
nothing_left (x ∷ xs) h = absurd (omega arith)

-- one more, behind those that are parted
one_more : {X : Type 0} (part : AccountItem → Option X) (old new : List X) (items : List AccountItem) (item : AccountItem) → old ≡ filter_map part items
    → new ≡ old ++ filter_map part (item ∷ []) → new ≡ filter_map part (items ++ item ∷ [])
one_more {X = X} part old new items item before more =
    more ∙ ap (λ (front : List X). front ++ filter_map part (item ∷ [])) before ∙ sym (filter_map-append part items (item ∷ []))

pub loop-item-preserved : goal.loop-item-preserved
loop-item-preserved c =
    let at = c.loop-item in
    let x = c.in-Some.item in
    let steps : into_iter_items at.item-iterator ≡ x ∷ into_iter_items c.next.new.self = c.in-Some.ensures.steps.0 in (
      append_assoc at.yielded (x ∷ []) _ ∙ rw (← steps) at.invariant.0,
      (let was = at.invariant.1 in
          let gone = c.in-Some.ensures.steps.1 in
          let short = ap length steps in
          omega arith),
      one_more joining_of _ _ at.yielded x at.invariant.2 c.in_ok-add.ensures.joining,
      one_more closing_of _ _ at.yielded x at.invariant.3 c.in_ok-add.ensures.closing,
      one_more reopening_of _ _ at.yielded x at.invariant.4 c.in_ok-add.ensures.reopening,
    )
