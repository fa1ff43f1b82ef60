-- What a site asks for beyond what a peer meets by default.
use Rattle.std.specs.Prelude.{ℕ, Bool, true, false, List, codes}
use Rattle.farm_access.specs.declared.strict.Strict.{Strict}
use Rattle.farm_access.specs.declared.strict.Strict.TheVariants.{Names, EndToEnd, Goodbyes, OriginState, Fairness}
use Rattle.farm_access.specs.declared.strict.Strictness.{Strictness}

-- the word of a rule in a site file
abbrev pub word_of : Strict → List ℕ
word_of Names = codes "names"
word_of EndToEnd = codes "end-to-end"
word_of Goodbyes = codes "goodbyes"
word_of OriginState = codes "origin-state"
word_of Fairness = codes "fairness"

abbrev pub lenient : Strictness
lenient = record { names = false; end_to_end = false; goodbyes = false; origin_state = false; fairness = false }

abbrev pub is_on : Strictness → Strict → Bool
is_on strictness Names = strictness.names
is_on strictness EndToEnd = strictness.end_to_end
is_on strictness Goodbyes = strictness.goodbyes
is_on strictness OriginState = strictness.origin_state
is_on strictness Fairness = strictness.fairness

abbrev pub with_word : Strictness → Strict → Strictness
with_word strictness Names = record strictness { names = true }
with_word strictness EndToEnd = record strictness { end_to_end = true }
with_word strictness Goodbyes = record strictness { goodbyes = true }
with_word strictness OriginState = record strictness { origin_state = true }
with_word strictness Fairness = record strictness { fairness = true }
