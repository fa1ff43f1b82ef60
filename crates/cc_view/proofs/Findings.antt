-- What calls answer with, by what they were given.
use Rattle.std.proofs.Common.{◌≡◌, List, Option, Some, Result, Err, ap, ◌∙◌}
use Rattle.cc_view.specs.declared.refusal.Refusal.{Refusal}
use Rattle.cc_view.specs.declared.view.ViewError.{ViewError}
use Rattle.cc_view.specs.declared.view.ViewError.TheVariants.{Refused, OutOfMemory}
use Rattle.cc_view.specs.Finding.{GivesAll, IsRefusal, Passes}

abbrev error : {T : Type 0} → Refusal → Result T Refusal
error refusal = Err refusal

-- a refusal of what was to be a list
pub GivesAll-refused : {T : Type 0} (found : Result (List T) Refusal) (refusal : Refusal) (e : ViewError) → found ≡ Err refusal → IsRefusal refusal e → GivesAll found (Err e)
GivesAll-refused {T} found refusal (Refused given) is h = is ∙ ap (λ (x : Refusal). error {T = List T} x) h
GivesAll-refused found refusal OutOfMemory is h = tt

-- a refusal that a test gives
pub Passes-refused : (found : Option Refusal) (refusal : Refusal) (e : ViewError) → found ≡ Some refusal → IsRefusal refusal e → Passes found (Err e)
Passes-refused found refusal (Refused given) is h = is ∙ ap (λ (x : Refusal). Some x) h
Passes-refused found refusal OutOfMemory is h = tt
