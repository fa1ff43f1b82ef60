-- What is told of an answer.
use Rattle.std.proofs.Common.{◌≡◌, sym, subst}
use Rattle.std.specs.Prelude.{Option, None, Some, IfSome}

-- what holds of an answer holds of what is told of it
pub if_told : {T : Type 0} (told : Option T) (untold : T) (P : T → Type 0) → IfSome told (λ t. t ≡ untold) → P untold → IfSome told P
if_told None untold P e p = tt
if_told (Some t) untold P e p = subst P (sym e) p
