-- What is written for a value reads as that value.
use Rattle.std.proofs.Common.{◌≡◌, ℕ, ◌^◌, ◌<◌, List, [], ◌++◌, Bool, true, false, cond, leb, Option, Some, None, Result, Ok, Err, OnOk, OnErr, MatchOption, IsOkUnless, refl, sym, ap, subst, ◌∙◌, arith, rules, lit<}
use Rattle.std.specs.Int.{cast_signed, cast_unsigned, w32, w64}
use Rattle.std.specs.Prelude.{ℤ, FitsSigned}
use Rattle.std.proofs.lemmas.Int.{ints, to_z-of_z}
use Rattle.std.proofs.Math.Facts.{Fits-of_z}
use Rattle.byteorder.specs.Endian.{big_number, big_bytes, twos_complement}
use Rattle.byteorder.specs.Numbers.{big_number-reads_back}
use Rattle.std.proofs.lemmas.Bool.Decides.{nat_tests}
use Rattle.dia_avp.specs.AvpList.{HasSpelling, length_of, written}
use Rattle.dia_dict.specs.declared.row.Kind.{Kind}
use Rattle.dia_dict.specs.declared.row.Kind.TheVariants as kind
use Rattle.dia_dict.specs.declared.value.Typed.{Typed}
use Rattle.dia_dict.specs.declared.value.Typed.TheVariants.{Unsigned32, Unsigned64, Integer32, Integer64, Time, Enumerated, Utf8String, DiameterIdentity, OctetString, Address, Grouped}
use Rattle.dia_dict.specs.declared.fault.DictFault.{DictFault}
use Rattle.dia_dict.specs.declared.fault.DictFault.TheVariants.{BadLength, OutOfMemory}
use Rattle.dia_dict.specs.Dictionary.{Entry, row_of}
use Rattle.dia_dict.specs.Values.{kind_in, value_of, value_fault, octets_of, same_kind, InRange}
use Rattle.dia_dict.specs.Reading.{reading_as, reading_by, reading_of, unless, avp_of, octets_fault, spelling_fault_as, spelling_fault_by, spelling_fault, Spells}
use Rattle.dia_dict.proofs.Naming.{row_at}

as_signed32 : (n : ℕ) → n < 2 ^ 32 → twos_complement 4 n ≡ cast_signed w32 n
as_signed32 n lt = search (rules, ints, nat_tests)

as_signed64 : (n : ℕ) → n < 2 ^ 64 → twos_complement 8 n ≡ cast_signed w64 n
as_signed64 n lt = search (rules, ints, nat_tests)

signed32 : (z : ℤ) → FitsSigned w32 z → twos_complement 4 (big_number 4 (big_bytes 4 (cast_unsigned w32 z))) ≡ z
signed32 z fits =
    let lt : cast_unsigned w32 z < 2 ^ 32 = (Fits-of_z fits).fits in
    ap (twos_complement 4) (big_number-reads_back 4 (cast_unsigned w32 z) [] lt) ∙ as_signed32 (cast_unsigned w32 z) lt ∙ to_z-of_z w32 z fits

signed64 : (z : ℤ) → FitsSigned w64 z → twos_complement 8 (big_number 8 (big_bytes 8 (cast_unsigned w64 z))) ≡ z
signed64 z fits =
    let lt : cast_unsigned w64 z < 2 ^ 64 = (Fits-of_z fits).fits in
    ap (twos_complement 8) (big_number-reads_back 8 (cast_unsigned w64 z) [] lt) ∙ as_signed64 (cast_unsigned w64 z) lt ∙ to_z-of_z w64 z fits

pub same_value : (v : Typed) → InRange v → value_of (kind_in v) (octets_of v) ≡ v
same_value (Unsigned32 n) lt = ap Unsigned32 (big_number-reads_back 4 n [] lt)
same_value (Unsigned64 n) lt = ap Unsigned64 (big_number-reads_back 8 n [] lt)
same_value (Integer32 z) fits = ap Integer32 (signed32 z fits)
same_value (Integer64 z) fits = ap Integer64 (signed64 z fits)
same_value (Time n) lt = ap Time (big_number-reads_back 4 n [] lt)
same_value (Enumerated z) fits = ap Enumerated (signed32 z fits)
same_value (Utf8String text) h = refl
same_value (DiameterIdentity octets) h = refl
same_value (OctetString octets) h = refl
same_value (Address octets) h = refl
same_value (Grouped octets) h = refl

-- no fault of the first test or the second is no fault of the second
second : (b : Bool) (f : DictFault) (o : Option DictFault) → cond b (Some f) o ≡ None → (b ≡ false) × (o ≡ None)
second true f o h = absurd (cc)
second false f o h = (refl, h)

pub read_back : (k : Kind) (code : ℕ) (v : Typed) → kind_in v ≡ k → InRange v → octets_fault (kind_in v) code (octets_of v) ≡ None → reading_as k code (octets_of v) ≡ Ok v
read_back k code v same range good =
    let none : value_fault (kind_in v) code (octets_of v) ≡ None = (second _ _ (value_fault (kind_in v) code (octets_of v)) good).1 in
    let whole : reading_as (kind_in v) code (octets_of v) ≡ Ok v =
    ap (λ (o : Option DictFault). unless o (value_of (kind_in v) (octets_of v))) none ∙ ap Ok (same_value v range) in
    subst (λ (k : Kind). reading_as k code (octets_of v) ≡ Ok v) same whole

-- a call that answers Ok has no fault
on_ok : (P : Type 0) (fault : Option DictFault) (r : Result (Unit {0}) DictFault) → MatchOption fault (IsOkUnless r OutOfMemory) (λ f. r ≡ Err f) → (fault ≡ None → P) → OnOk r P
on_ok P None (Ok u) h p = p refl
on_ok P (Some f) (Ok u) h p = absurd (cc)
on_ok P fault (Err f) h p = tt

same_self : (k : Kind) → same_kind k k ≡ true
same_self kind.Unsigned32 = refl
same_self kind.Unsigned64 = refl
same_self kind.Integer32 = refl
same_self kind.Integer64 = refl
same_self kind.Time = refl
same_self kind.Enumerated = refl
same_self kind.Utf8String = refl
same_self kind.DiameterIdentity = refl
same_self kind.OctetString = refl
same_self kind.Address = refl
same_self kind.Grouped = refl

same_fault : (k : Kind) (code : ℕ) (v : Typed) → kind_in v ≡ k → spelling_fault_as k code v ≡ octets_fault (kind_in v) code (octets_of v)
same_fault k code v same =
    let own : spelling_fault_as (kind_in v) code v ≡ octets_fault (kind_in v) code (octets_of v) =
    ap (λ (b : Bool). cond b (octets_fault (kind_in v) code (octets_of v)) (Some (BadLength code))) (same_self (kind_in v)) in
    subst (λ (l : Kind). spelling_fault_as l code v ≡ octets_fault (kind_in v) code (octets_of v)) same own

-- a value of the kind that is asked for
pub spells_of_kind : (k : Kind) (code : ℕ) (v : Typed) (old new : List ℕ) (r : Result (Unit {0}) DictFault) → kind_in v ≡ k → InRange v
    → OnOk r (new ≡ old ++ written (avp_of code v)) → MatchOption (octets_fault (kind_in v) code (octets_of v)) (IsOkUnless r OutOfMemory) (λ f. r ≡ Err f)
    → OnErr r (new ≡ old) → Spells (avp_of code v) v (spelling_fault_as k code v) (reading_as k code (octets_of v)) old new r
spells_of_kind k code v old new r same range ok refused err =
    let P : Option DictFault → Type 0 = λ o. MatchOption o (IsOkUnless r OutOfMemory) (λ f. r ≡ Err f) in
    record {
      ok = ok;
      refused = subst P (sym (same_fault k code v same)) refused;
      err = err;
      read_back = on_ok (reading_as k code (octets_of v) ≡ Ok v) _ r refused (read_back k code v same range);
    }

-- ---- the law

same_kinds : (k l : Kind) → same_kind k l ≡ true → l ≡ k
same_kinds kind.Unsigned32 kind.Unsigned32 e = refl
same_kinds kind.Unsigned64 kind.Unsigned64 e = refl
same_kinds kind.Integer32 kind.Integer32 e = refl
same_kinds kind.Integer64 kind.Integer64 e = refl
same_kinds kind.Time kind.Time e = refl
same_kinds kind.Enumerated kind.Enumerated e = refl
same_kinds kind.Utf8String kind.Utf8String e = refl
same_kinds kind.DiameterIdentity kind.DiameterIdentity e = refl
same_kinds kind.OctetString kind.OctetString e = refl
same_kinds kind.Address kind.Address e = refl
same_kinds kind.Grouped kind.Grouped e = refl
same_kinds _ _ e = absurd (cc)

first : (b : Bool) (o : Option DictFault) (f : DictFault) → cond b o (Some f) ≡ None → (b ≡ true) × (o ≡ None)
first true o f h = (refl, h)
first false o f h = absurd (cc)

not_long : (n : ℕ) → leb (2 ^ 24) n ≡ false → n < 2 ^ 24
not_long n h = grind (arith, nat_tests)

small_code : (code : ℕ) (r : Entry) → row_of code 0 ≡ Some r → code < 2 ^ 32
small_code code r e = let w = row_at code r e in let s = w.0.small in omega (arith, w.1)

abbrev Law : ℕ → Typed → Type 0
Law code v = HasSpelling (avp_of code v) × (reading_of (avp_of code v) ≡ Ok v)

by_row : (code : ℕ) (v : Typed) (o : Option Entry) → row_of code 0 ≡ o → InRange v → spelling_fault_by o code v ≡ None → Law code v
by_row code v None e range good = absurd (cc)
by_row code v (Some r) e range good =
    let a = first (same_kind r.kind (kind_in v)) (octets_fault r.kind code (octets_of v)) (BadLength code) good in
    let same : kind_in v ≡ r.kind = same_kinds r.kind (kind_in v) a.0 in
    let fine : octets_fault (kind_in v) code (octets_of v) ≡ None =
    subst (λ (k : Kind). octets_fault k code (octets_of v) ≡ None) (sym same) a.1 in
    let short : length_of (avp_of code v) < 2 ^ 24 = not_long _ (second _ _ (value_fault r.kind code (octets_of v)) a.1).0 in
    let read : reading_of (avp_of code v) ≡ Ok v =
    ap (λ (row : Option Entry). reading_by row code (octets_of v)) e ∙ read_back r.kind code v same range fine in
    (record { code = small_code code r e; vendor = lit< tt; no_vendor = λ _. refl; long = short }, read)

pub value_is_read : (code : ℕ) (v : Typed) → InRange v → spelling_fault code v ≡ None → Law code v
value_is_read code v range good = by_row code v (row_of code 0) refl range good
