-- What the calls that read a message answer with.
use Rattle.std.specs.Prelude.{◌≡◌, List, Option, Some, None, Result, Ok, Err}
use Rattle.std.specs.Global.{Vec}
use Rattle.cc_view.specs.declared.refusal.Refusal.{Refusal}
use Rattle.cc_view.specs.declared.view.ViewError.{ViewError}
use Rattle.cc_view.specs.declared.view.ViewError.TheVariants.{Refused, OutOfMemory}

-- a test passed where there is no refusal, and gave the refusal where there is one, unless memory ran out
abbrev pub Passes : Option Refusal → Result (Unit {0}) ViewError → Type 0
Passes refusal (Ok done) = refusal ≡ None
Passes refusal (Err (Refused given)) = refusal ≡ Some given
Passes refusal (Err OutOfMemory) = Unit {0}

-- a test passed where there is no refusal, and what was read is so, or the refusal, unless memory ran out
abbrev pub PassesWith : {T : Type 0} → Option Refusal → (T → Type 0) → Result T ViewError → Type 0
PassesWith refusal P (Ok value) = (refusal ≡ None) × P value
PassesWith refusal P (Err e) = Passes refusal (Err e)

-- an error that is this refusal, unless memory ran out
abbrev pub IsRefusal : Refusal → ViewError → Type 0
IsRefusal refusal (Refused given) = refusal ≡ given
IsRefusal refusal OutOfMemory = Unit {0}

-- what is found, or the refusal, unless memory ran out
abbrev pub Gives : {T : Type 0} → Result T Refusal → Result T ViewError → Type 0
Gives found (Ok value) = found ≡ Ok value
Gives found (Err (Refused refusal)) = found ≡ Err refusal
Gives found (Err OutOfMemory) = Unit {0}

-- the AVPs that are found, or the refusal, unless memory ran out
abbrev pub GivesAll : {T : Type 0} → Result (List T) Refusal → Result (Vec T) ViewError → Type 0
GivesAll found (Ok values) = found ≡ Ok values.items
GivesAll found (Err (Refused refusal)) = found ≡ Err refusal
GivesAll found (Err OutOfMemory) = Unit {0}
