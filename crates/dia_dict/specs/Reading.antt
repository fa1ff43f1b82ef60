-- AVPs as values of the dictionary, and values as AVPs.
use Rattle.std.specs.Prelude.{◌≡◌, ℕ, Bool, true, false, ◌^◌, List, ◌++◌, ◌==◌, nat_le, if◌then◌else◌, Option, Some, None, Result, Ok, Err, IsOkUnless, OnOk, OnErr, MatchOption}
use Rattle.std.specs.Result.{result_err}
use Rattle.dia_base.specs.Answering.{AnswersFor}
use Rattle.dia_base.specs.Codes.{product_name}
use Rattle.dia_avp.specs.declared.avp.RawAvp.{RawAvp}
use Rattle.dia_avp.specs.AvpList.{length_of, written}
use Rattle.dia_dict.specs.declared.row.Kind.{Kind}
use Rattle.dia_dict.specs.declared.value.Typed.{Typed}
use Rattle.dia_dict.specs.declared.fault.DictFault.{DictFault}
use Rattle.dia_dict.specs.declared.fault.DictFault.TheVariants.{BadLength, NoRow, OutOfMemory}
use Rattle.dia_dict.specs.Dictionary.{Entry, row_of}
use Rattle.dia_dict.specs.Values.{TakesMemory, value_fault, value_of, kind_in, same_kind, octets_of}

-- ---- reading

-- what there is, unless there is a fault
abbrev pub unless : {A : Type 0} → Option DictFault → A → Result A DictFault
unless None it = Ok it
unless (Some fault) it = Err fault

-- what octets read as in an AVP of this code, which is of the kind
abbrev pub reading_as : Kind → ℕ → List ℕ → Result Typed DictFault
reading_as kind code octets = unless (value_fault kind code octets) (value_of kind octets)

abbrev pub reading_by : Option Entry → ℕ → List ℕ → Result Typed DictFault
reading_by None code octets = Err (NoRow code)
reading_by (Some row) code octets = reading_as row.kind code octets

-- what an AVP reads as: the value by the kind of its row, or the fault
abbrev pub reading_of : RawAvp → Result Typed DictFault
reading_of avp = reading_by (row_of avp.code avp.vendor) avp.code avp.value

abbrev pub lacks_memory : DictFault → Bool
lacks_memory OutOfMemory = true
lacks_memory _ = false

-- why an AVP has no value, if it has none
abbrev pub reading_fault : RawAvp → Option DictFault
reading_fault avp = result_err (reading_of avp)

-- a call answered with the reading, unless memory ran out for a value that takes some
abbrev pub Answers : Result Typed DictFault → Result Typed DictFault → Type 0
Answers reading result = AnswersFor lacks_memory TakesMemory reading result

-- ---- writing

-- the flags of a written AVP: M, 40 in hexadecimal, but none for Product-Name (RFC 6733, section 4.5)
abbrev pub flags_of : ℕ → ℕ
flags_of code = if code == product_name then 0 else 64

-- the AVP without vendor that has the octets as its value
abbrev pub avp_with : ℕ → List ℕ → RawAvp
avp_with code octets = record { code = code; flags = flags_of code; vendor = 0; value = octets }

-- the AVP that is written for a value
abbrev pub avp_of : ℕ → Typed → RawAvp
avp_of code value = avp_with code (octets_of value)

-- why octets are no value of the kind in an AVP that is written: too many for an AVP, or no value at all
abbrev pub octets_fault : Kind → ℕ → List ℕ → Option DictFault
octets_fault kind code octets =
    if nat_le (2 ^ 24) (length_of (avp_with code octets)) then Some (BadLength code) else value_fault kind code octets

-- why a value has no spelling in an AVP of this code, which is of the kind
abbrev pub spelling_fault_as : Kind → ℕ → Typed → Option DictFault
spelling_fault_as kind code value =
    if same_kind kind (kind_in value) then octets_fault kind code (octets_of value) else Some (BadLength code)

abbrev pub spelling_fault_by : Option Entry → ℕ → Typed → Option DictFault
spelling_fault_by None code value = Some (NoRow code)
spelling_fault_by (Some row) code value = spelling_fault_as row.kind code value

-- why a value has no spelling in an AVP of this code without vendor, if it has none
abbrev pub spelling_fault : ℕ → Typed → Option DictFault
spelling_fault code value = spelling_fault_by (row_of code 0) code value

-- what is written for a value in an AVP of this code without vendor: the octets of the AVP, or the fault
abbrev pub spelling_of : ℕ → Typed → Result (List ℕ) DictFault
spelling_of code value = unless (spelling_fault code value) (written (avp_of code value))

-- what a call did that was to write an AVP for a value: `fault` says why the value has no spelling,
-- and `reading` what the AVP reads as
pub record Spells (avp : RawAvp) (value : Typed) (fault : Option DictFault) (reading : Result Typed DictFault) (old new : List ℕ) (result : Result (Unit {0}) DictFault) : Type 0 where
  pub ok : OnOk result (new ≡ old ++ written avp)
  pub refused : MatchOption fault (IsOkUnless result OutOfMemory) (λ f. result ≡ Err f)
  pub err : OnErr result (new ≡ old)
  pub read_back : OnOk result (reading ≡ Ok value)
