-- Memory that ran out.
use Rattle.std.proofs.Common.{◌≡◌, Result, Ok, Err, IsErrAnd, sym, subst}
use Rattle.std.specs.Prelude.{IsOkAnd}
use Rattle.dia_dict.specs.declared.value.Typed.{Typed}
use Rattle.dia_dict.specs.declared.fault.DictFault.{DictFault}
use Rattle.dia_dict.specs.declared.fault.DictFault.TheVariants.{OutOfMemory}
use Rattle.dia_dict.specs.Values.{TakesMemory}
use Rattle.dia_dict.specs.Reading.{Answers}

pub no_memory : (reading result : Result Typed DictFault) (value : Typed) → TakesMemory value → reading ≡ Ok value → IsErrAnd result (λ e. e ≡ OutOfMemory) → Answers reading result
no_memory reading (Ok v) value takes good h = absurd h
no_memory reading (Err e) value takes good h =
    let P : DictFault → Type 0 = λ f. Answers reading (Err f) in
    let Q : Result Typed DictFault → Type 0 = λ r. IsOkAnd r TakesMemory in
    subst P (sym h) (subst Q (sym good) takes)
