-- What a call answers that may run out of memory. A test says which error that is.
use Rattle.std.specs.Prelude.{◌≡◌, Bool, Result, Ok, Err, IsOkAnd, MatchBool, ⊤}
use Rattle.std.specs.Bool.{OnFalse}

-- the call gives a result that P takes, unless memory ran out
abbrev pub Gives : {T E : Type 0} → (E → Bool) → (Result T E → Type 0) → Result T E → Type 0
Gives lacks_memory P (Ok value) = P (Ok value)
Gives lacks_memory P (Err error) = OnFalse (lacks_memory error) (P (Err error))

-- the call answers what is wanted, unless memory ran out
abbrev pub Answers : {T E : Type 0} → (E → Bool) → Result T E → Result T E → Type 0
Answers lacks_memory want result = Gives lacks_memory (λ given. want ≡ given) result

-- the same, and memory is wanted only for what is not refused, and for a value of which TakesMemory holds
abbrev pub AnswersFor : {T E : Type 0} → (E → Bool) → (T → Type 0) → Result T E → Result T E → Type 0
AnswersFor lacks_memory TakesMemory want (Ok value) = want ≡ Ok value
AnswersFor lacks_memory TakesMemory want (Err error) = MatchBool (lacks_memory error) (IsOkAnd want TakesMemory) (want ≡ Err error)

-- the same for a value that always takes memory
abbrev pub RefusesFirst : {T E : Type 0} → (E → Bool) → Result T E → Result T E → Type 0
RefusesFirst lacks_memory want result = AnswersFor lacks_memory (λ value. ⊤) want result
