-- Octets that are text.
use Rattle.std.proofs.Common.{◌≡◌, ℕ, List, Bool, true, false, cond, refl, ap, Option, Some, None, Ok, Err}
use Rattle.std.specs.Str.{IsUtf8, is_utf8}
use Rattle.std.proofs.lemmas.Str.{IsUtf8-from_is_utf8, is_utf8-from_IsUtf8}
use Rattle.dia_dict.specs.declared.row.Kind.TheVariants as kind
use Rattle.dia_dict.specs.declared.value.Typed.TheVariants as value
use Rattle.dia_dict.specs.declared.fault.DictFault.{DictFault}
use Rattle.dia_dict.specs.declared.fault.DictFault.TheVariants.{BadUtf8}
use Rattle.dia_dict.specs.Values.{content_fault}
use Rattle.dia_dict.specs.Reading.{unless, reading_as}

is_no_text : (octets : List ℕ) → ¬ (IsUtf8 octets) → is_utf8 octets ≡ false
is_no_text octets h = no_text (is_utf8 octets) (λ e. h (IsUtf8-from_is_utf8 octets e)) where
  no_text : (b : Bool) → (b ≡ true → ⊥) → b ≡ false
  no_text true f = absurd (f refl)
  no_text false f = refl

abbrev found : ℕ → Bool → Option DictFault
found code b = cond b None (Some (BadUtf8 code))

pub text_content : (code : ℕ) (octets : List ℕ) → IsUtf8 octets → content_fault kind.Utf8String code octets ≡ None
text_content code octets h = ap (found code) (is_utf8-from_IsUtf8 octets h)

pub text_read : (code : ℕ) (octets : List ℕ) → IsUtf8 octets → reading_as kind.Utf8String code octets ≡ Ok (value.Utf8String octets)
text_read code octets h = ap (λ (b : Bool). unless (found code b) (value.Utf8String octets)) (is_utf8-from_IsUtf8 octets h)

pub text_refused : (code : ℕ) (octets : List ℕ) → ¬ (IsUtf8 octets) → reading_as kind.Utf8String code octets ≡ Err (BadUtf8 code)
text_refused code octets h = ap (λ (b : Bool). unless (found code b) (value.Utf8String octets)) (is_no_text octets h)

pub text_faulty : (code : ℕ) (octets : List ℕ) → ¬ (IsUtf8 octets) → content_fault kind.Utf8String code octets ≡ Some (BadUtf8 code)
text_faulty code octets h = ap (found code) (is_no_text octets h)
