-- A change of the terms, as lines of text.
use Rattle.std.specs.Prelude.{◌≡◌, ◌==◌, ◌-◌, ◌||◌, ◌∷◌, [], ◌++◌, ℕ, List, Bool, true, codes, get_or, length, map, if◌then◌else◌, Ok}
use Rattle.cc_book.specs.declared.terms_change.TermsChange.{TermsChange}
use Rattle.dia_base.specs.declared.number.Moment.{Moment}
use Rattle.farm_base.specs.declared.site.Site.{Site}
use Rattle.farm_base.specs.declared.step.Step.TheVariants.{ChangeTerms}
use Rattle.farm_script.specs.Schedule.{steps_of}

-- a blank for what ends a line: a line feed, and a carriage return before it
abbrev pub blank_of : ℕ → ℕ
blank_of octet = if octet == 10 then 32 else if octet == 13 then 32 else octet

-- whether the last line ends
abbrev pub ends : List ℕ → Bool
ends text = (length text == 0) || (get_or text (length text - 1) 0 == 10)

-- the line of a schedule whose step has the items of the text
abbrev pub step_line : List ℕ → List ℕ
step_line text = codes "terms 0 " ++ map blank_of text

-- The text spells this change, and its last line ends: that of the step with its items, and of no other step.
abbrev pub IsSpelled : Site → List ℕ → TermsChange → Type 0
IsSpelled site text change = (ends text ≡ true) × (moment : Moment) × (steps_of site (step_line text) ≡ Ok (ChangeTerms moment change ∷ []))
