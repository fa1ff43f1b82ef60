-- The steps of a text, line by line.
use Rattle.std.proofs.Common.{◌≡◌, ℕ, ◌+◌, false, inl, inr, List, [], ◌∷◌, ◌++◌, length, Result, Ok, Err, refl, sym, ap, ◌∙◌, append_assoc, arith}
use Rattle.std.proofs.lemmas.List.{length-append}
use Rattle.std.specs.Prelude.{MatchResult}
use Rattle.std.proofs.lemmas.Bool.{cases_Bool}
use Rattle.farm_script.specs.Words.{Answers, words_of, says_nothing}
use Rattle.farm_script.specs.Schedule.{all_of, with_first, at_line, NoneBefore, limited, step_of, readings_from}
use Rattle.farm_script.specs.declared.fault.LineFault.{LineFault}
use Rattle.farm_script.specs.declared.fault.ScriptFault.{ScriptFault}
use Rattle.farm_script.specs.declared.fault.ScriptFault.TheVariants.{Line, TooLong}
use Rattle.farm_base.specs.declared.site.Site.{Site}
use Rattle.farm_base.specs.declared.step.Step.{Step}

-- steps, and those behind them
abbrev pub behind : List Step → Result (List Step) ScriptFault → Result (List Step) ScriptFault
behind steps (Ok others) = Ok (steps ++ others)
behind steps (Err fault) = Err fault

-- what a text spells, where these steps are read and these lines are left, the first with this number
pub record Continues (site : Site) (spelled : Result (List Step) ScriptFault) (steps : List Step) (number : ℕ) (left : List (List ℕ)) : Type 0 where
  pub same : spelled ≡ behind steps (all_of (readings_from site (length steps) number left))

-- ---- memory may run out at the first line that is left

none_before-less : (number : ℕ) (spelled : Result (List Step) ScriptFault) → NoneBefore (number + 1) spelled → NoneBefore number spelled
none_before-less number (Ok steps) h = tt
none_before-less number (Err (Line first fault)) h = omega arith
none_before-less number (Err TooLong) h = h

none_before-first : (number : ℕ) (step : Step) (others : Result (List Step) ScriptFault) → NoneBefore number others → NoneBefore number (with_first step others)
none_before-first number step (Ok steps) h = tt
none_before-first number step (Err (Line first fault)) h = h
none_before-first number step (Err TooLong) h = h

none_before-behind : (number : ℕ) (steps : List Step) (others : Result (List Step) ScriptFault) → NoneBefore number others → NoneBefore number (behind steps others)
none_before-behind number steps (Ok others) h = tt
none_before-behind number steps (Err (Line first fault)) h = h
none_before-behind number steps (Err TooLong) h = h

none_before-line : (number : ℕ) (reading : Result Step LineFault) (readings : List (Result Step ScriptFault))
    → NoneBefore number (all_of readings) → NoneBefore number (all_of (at_line number reading ∷ readings))
none_before-line number (Ok step) readings h = none_before-first number step (all_of readings) h
none_before-line number (Err fault) readings h = omega arith

none_before-readings : (site : Site) (before number : ℕ) (left : List (List ℕ)) → NoneBefore number (all_of (readings_from site before number left))
none_before-readings site before number [] = tt
none_before-readings site before number (first ∷ left) = elim (cases_Bool (says_nothing first)) [
  | inl nothing ↦ rw nothing (none_before-less number _ (none_before-readings site before (number + 1) left))
  | inr something ↦
      rw something
      (none_before-line number (limited before (step_of site (words_of first))) (readings_from site (before + 1) (number + 1) left)
      (none_before-less number _ (none_before-readings site (before + 1) (number + 1) left)))
]

pub Continues-memory : (site : Site) (spelled : Result (List Step) ScriptFault) (steps : List Step) (number : ℕ) (left : List (List ℕ))
    → Continues site spelled steps number left → NoneBefore number spelled
Continues-memory site spelled steps number left h = rw h.same (none_before-behind number steps _ (none_before-readings site (length steps) number left))

-- ---- a line is read

-- a step of a schedule that has no other fault
abbrev one : Step → Result Step ScriptFault
one step = Ok step

-- what a line is answered is what it spells
pub read_by : (reading answer : Result Step LineFault) (step : Step) → Answers reading answer → MatchResult answer (λ (read : Step). one step ≡ one read) (λ (fault : LineFault). ⊥) → reading ≡ Ok step
read_by reading (Ok read) step answers same = let is : step ≡ read = cc in answers ∙ ap (λ (s : Step). Ok s) (sym is)
read_by reading (Err fault) step answers same = absurd same

behind-push : (steps : List Step) (step : Step) (others : Result (List Step) ScriptFault) → behind steps (with_first step others) ≡ behind (steps ++ step ∷ []) others
behind-push steps step (Ok others) = ap (λ (all : List Step). Ok all) (sym (append_assoc steps (step ∷ []) others))
behind-push steps step (Err fault) = refl

pub Continues-step : (site : Site) (spelled : Result (List Step) ScriptFault) (steps : List Step) (number : ℕ) (first : List ℕ) (left : List (List ℕ)) (step : Step)
    → Continues site spelled steps number (first ∷ left) → says_nothing first ≡ false → limited (length steps) (step_of site (words_of first)) ≡ Ok step → Continues site spelled (steps ++ step ∷ []) (number + 1) left
Continues-step site spelled steps number first left step h something read = record { same = h.same ∙ goes }
  where
    more : length (steps ++ step ∷ []) ≡ length steps + 1
    more = length-append steps (step ∷ [])

    goes : behind steps (all_of (readings_from site (length steps) number (first ∷ left))) ≡ behind (steps ++ step ∷ []) (all_of (readings_from site (length (steps ++ step ∷ [])) (number + 1) left))
    goes = rw something (rw read (rw more (behind-push steps step (all_of (readings_from site (length steps + 1) (number + 1) left)))))
