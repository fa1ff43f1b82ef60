-- An account as who asks for it names it: by two words as a schedule has them.
use Rattle.std.specs.Prelude.{[], ◌∷◌, ℕ, List, Result, Err}
use Rattle.cc_view.specs.declared.request.Subscription.{Subscription}
use Rattle.farm_script.specs.declared.fault.LineFault.{LineFault}
use Rattle.farm_script.specs.declared.fault.LineFault.TheVariants.{WrongCount}
use Rattle.farm_script.specs.TermsWords.{named, number_up_to}
use Rattle.farm_script.specs.Words.{◌>>=◌, words_of}

-- the Subscription-Id of two words: its type, and its data
abbrev pub named_by : List (List ℕ) → Result Subscription LineFault
named_by (kind ∷ id ∷ []) = do
  number ← number_up_to 4 kind
  named number id
named_by words = Err WrongCount

-- the Subscription-Id that a text names
abbrev pub named_in : List ℕ → Result Subscription LineFault
named_in text = named_by (words_of text)
