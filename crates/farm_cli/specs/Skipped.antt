-- The steps of a schedule that did not apply, by name.
use Rattle.std.specs.Prelude.{◌≡◌, ◌==◌, ℕ, ◌+◌, ◌-◌, Bool, true, false, not, List, [], ◌∷◌, ◌++◌, codes, filter, slice_get, Option, Some, None, Ok, if◌then◌else◌}
use Rattle.std.specs.List.{concat, flat_map, slice_split}
use Rattle.std.specs.Fmt.{decimal}
use Rattle.std.specs.Str.Lines.{strip_carriage_return}
use Rattle.farm_base.specs.declared.site.Site.{Site}
use Rattle.farm_base.specs.declared.step.Step.{Step}
use Rattle.farm_model.specs.Run.{Past, Run, start, steps_in}
use Rattle.farm_model.specs.World.{WorldState}
use Rattle.farm_report.specs.Report.{line_feed}
use Rattle.farm_script.specs.Schedule.{steps_of}
use Rattle.farm_script.specs.Words.{says_nothing}

-- ---- which they are

-- the number of a step that did not apply
abbrev pub number_if : Bool → ℕ → List ℕ
number_if applied number = if applied then [] else number ∷ []

-- the numbers of those that did not apply, where the first has this one
abbrev pub skipped_from : ℕ → Past → List ℕ
skipped_from number [] = []
skipped_from number (t ∷ past) = number_if t.applied number ++ skipped_from (number + 1) past

-- these are the numbers of the steps that do not apply in a run of the steps, counted from 1
pub record SkipsOf (site : Site) (steps : List Step) (numbers : List ℕ) : Type 0 where
  pub past : Past
  pub end : WorldState
  pub run : Run site (start site) past end
  pub steps_are : steps_in past ≡ steps
  pub numbers_are : numbers ≡ skipped_from 1 past

-- ---- how they are named

-- a line that is neither empty nor a comment, without the one carriage return at its end
abbrev pub says_something : List ℕ → Bool
says_something line = not (says_nothing (strip_carriage_return line))

-- the lines of a text that say something, in order: a step each, where the text is a schedule
abbrev pub said_in : List ℕ → List (List ℕ)
said_in text = filter says_something (slice_split (λ octet. octet == 10) text)

abbrev pub line_in : Option (List ℕ) → List ℕ
line_in None = []
line_in (Some line) = strip_carriage_return line

-- the line of the step with this number, counted from 1
abbrev pub line_at : List (List ℕ) → ℕ → List ℕ
line_at said number = line_in (slice_get said (number - 1))

-- `skipped STEP: LINE`
abbrev pub skipped_line : List (List ℕ) → ℕ → List ℕ
skipped_line said number = concat (codes "skipped " ∷ decimal number ∷ codes ": " ∷ line_at said number ∷ line_feed ∷ [])

-- the steps that did not apply are named in lines behind what there was
pub record NamesSteps (site : Site) (steps : List Step) (text old new : List ℕ) : Type 0 where
  pub numbers : List ℕ
  pub skips : SkipsOf site steps numbers
  pub named : new ≡ old ++ flat_map (skipped_line (said_in text)) numbers

-- where it is asked for
abbrev pub NamesOf : Bool → Site → List Step → List ℕ → List ℕ → List ℕ → Type 0
NamesOf true site steps text old new = NamesSteps site steps text old new
NamesOf false site steps text old new = new ≡ old

-- those of a schedule's text
pub record Names (asked : Bool) (site : Site) (text old new : List ℕ) : Type 0 where
  pub steps : List Step
  pub spelled : steps_of site text ≡ Ok steps
  pub named : NamesOf asked site steps text old new
