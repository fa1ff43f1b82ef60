-- A schedule that is read up to one octet above its size limit is the whole of what there is.
use Rattle.std.proofs.Common.{◌≡◌, ℕ, ◌≤◌, Bool, true, cond, ltb, List, length, take, Option, Some, None, Result, Ok, Err, subst, ap, ◌∙◌, inl, inr, arith, length-take}
use Rattle.std.specs.Prelude.{IfSome, OnOk}
use Rattle.std.specs.Str.Lines.{lines}
use Rattle.std.proofs.lemmas.Bool.{cases_Bool, ltb-false}
use Rattle.std.proofs.lemmas.List.{take_all}
use Rattle.farm_base.specs.declared.site.Site.{Site}
use Rattle.farm_base.specs.declared.step.Step.{Step}
use Rattle.farm_script.specs.Schedule.{steps_of, all_of, readings_from}
use Rattle.farm_script.specs.declared.fault.ScriptFault.TheVariants.{TooLong}
use Rattle.farm_picture.specs.Painting.{GivesSchedule, IsSchedule}

-- what is read of a stream
abbrev pub IsRead : Option (List ℕ) → List ℕ → Type 0
IsRead known text = IfSome known (λ octets. text ≡ take 16777217 octets)

-- a schedule is not too long
not_long : (site : Site) (text : List ℕ) (steps : List Step) → steps_of site text ≡ Ok steps → length text ≤ 16777216
not_long site text steps e = elim (cases_Bool (ltb 16777216 (length text))) [
  | inl long ↦
      let refused : cond true (Err TooLong) (all_of (readings_from site 0 1 (lines text))) ≡ Ok steps =
      subst (λ (b : Bool). cond b (Err TooLong) (all_of (readings_from site 0 1 (lines text))) ≡ Ok steps) long e in
      absurd cc
  | inr short ↦ ltb-false 16777216 (length text) short
]

schedule_of_all : (site : Site) (octets : List ℕ) → IsSchedule site (take 16777217 octets) → IsSchedule site octets
schedule_of_all site octets (steps, e) =
    let short : length (take 16777217 octets) ≤ 16777216 = not_long site (take 16777217 octets) steps e in
    let len = length-take 16777217 octets in
    (steps, subst (λ (xs : List ℕ). steps_of site xs ≡ Ok steps) (take_all 16777217 octets (omega arith)) e)

pub gives_schedule : (site : Site) (known : Option (List ℕ)) (text given : List ℕ) → IsRead known text → given ≡ text → IsSchedule site given → GivesSchedule site known
gives_schedule site None text given read same schedule = tt
gives_schedule site (Some octets) text given read same schedule = schedule_of_all site octets (subst (λ (xs : List ℕ). IsSchedule site xs) (same ∙ read) schedule)

-- so it is, whatever came of the writing
pub on_all : {A E : Type 0} (result : Result A E) (P : Type 0) → P → OnOk result P
on_all (Ok done) P p = p
on_all (Err fault) P p = tt
