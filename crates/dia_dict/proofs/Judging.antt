-- Why an AVP has no value, by its row.
use Rattle.std.proofs.Common.{◌≡◌, Option, Some, None, refl, ap, sym, ◌∙◌}
use Rattle.std.specs.Result.{result_err}
use Rattle.dia_avp.specs.declared.avp.RawAvp.{RawAvp}
use Rattle.dia_dict.specs.declared.value.Typed.{Typed}
use Rattle.dia_dict.specs.declared.fault.DictFault.{DictFault}
use Rattle.dia_dict.specs.declared.fault.DictFault.TheVariants.{NoRow}
use Rattle.dia_dict.specs.Dictionary.{Entry, row_of}
use Rattle.dia_dict.specs.Values.{value_fault, value_of}
use Rattle.dia_dict.specs.Reading.{unless, reading_by, reading_fault}

fault-unless : (fault : Option DictFault) (value : Typed) → result_err (unless fault value) ≡ fault
fault-unless None value = refl
fault-unless (Some fault) value = refl

pub fault-of_row : (avp : RawAvp) (row : Entry) → Some row ≡ row_of avp.code avp.vendor → value_fault row.kind avp.code avp.value ≡ reading_fault avp
fault-of_row avp row e =
    sym (fault-unless (value_fault row.kind avp.code avp.value) (value_of row.kind avp.value))
    ∙ ap (λ (o : Option Entry). result_err (reading_by o avp.code avp.value)) e

pub fault-without_row : (avp : RawAvp) → None ≡ row_of avp.code avp.vendor → Some (NoRow avp.code) ≡ reading_fault avp
fault-without_row avp e = ap (λ (o : Option Entry). result_err (reading_by o avp.code avp.value)) e
