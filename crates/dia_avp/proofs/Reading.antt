-- Reading AVPs one after the other.
use Rattle.std.proofs.Common.{◌≡◌, ◌≢◌, ℕ, ◌+◌, ◌-◌, ◌<◌, ◌≤◌, List, [], ◌∷◌, ◌++◌, length, Bool, true, false, cond, Option, Some, None, Result, Err, refl, sym, subst, ap, ◌∙◌, arith, length-drop}
use Rattle.std.specs.Prelude.{MatchOption}
use Rattle.dia_avp.specs.declared.avp.RawAvp.{RawAvp}
use Rattle.dia_avp.specs.declared.fault.AvpFault.{AvpFault}
use Rattle.dia_avp.specs.declared.fault.AvpFault.TheVariants.{ShortHeader, LengthTooSmall, Overrun, TooLong, TooDeep, OutOfMemory}
use Rattle.dia_avp.specs.AvpList.{BeginsWith, Begins, Reads, Answers, fault_at, length_in, padding_of, header_len, has_vendor}

least_of : (vendor : Bool) → 8 ≤ cond vendor 12 8
least_of true = omega arith
least_of false = omega arith

-- a header has 8 octets at least
pub least_header : (flags : ℕ) → 8 ≤ header_len flags
least_header flags = least_of (has_vendor flags)

shorter : (n padding header whole left : ℕ) → 8 ≤ header → header ≤ n → 8 ≤ whole → left ≡ whole - (n + padding) → left < whole
shorter n padding header whole left a b c d = omega arith

-- an AVP takes some octets
pub BeginsWith-shorter : (octets : List ℕ) (avp : RawAvp) (rest : List ℕ) → BeginsWith octets avp rest → length rest < length octets
BeginsWith-shorter octets avp rest b =
    let least = least_header avp.flags in
    let len : length rest ≡ length octets - (length_in octets + padding_of (length_in octets)) = ap length b.behind ∙ length-drop _ octets in
    shorter (length_in octets) (padding_of (length_in octets)) (header_len avp.flags) (length octets) (length rest) least b.least b.header len

pub Begins-push : (octets : List ℕ) (avps : List RawAvp) (middle : List ℕ) (avp : RawAvp) (rest : List ℕ) → Begins octets avps middle → BeginsWith middle avp rest → Begins octets (avps ++ avp ∷ []) rest
Begins-push octets [] middle avp rest b w = (rest, subst (λ (o : List ℕ). BeginsWith o avp rest) (sym b) w, refl)
Begins-push octets (a ∷ avps) middle avp rest b w = (b.0, b.1, Begins-push b.0 avps middle avp rest b.2 w)

pub Answers-err : (P : Result (List RawAvp) AvpFault → Type 0) (f : AvpFault) → P (Err f) → Answers P (Err f)
Answers-err P (ShortHeader at) h = h
Answers-err P (LengthTooSmall at code) h = h
Answers-err P (Overrun at code) h = h
Answers-err P TooLong h = h
Answers-err P TooDeep h = h
Answers-err P OutOfMemory h = tt

abbrev failed : AvpFault → Result (List RawAvp) AvpFault
failed e = Err e

-- the fault of what is left behind AVPs, unless memory ran out
pub Answers-stops : (octets : List ℕ) (avps : List RawAvp) (rest : List ℕ) (e : AvpFault) → Begins octets avps rest → rest ≢ []
    → MatchOption (fault_at (length octets - length rest) rest) (e ≡ OutOfMemory) (λ f. failed e ≡ failed f) → Answers (Reads octets) (Err e)
Answers-stops octets avps rest e b some h = go (fault_at (length octets - length rest) rest) refl h
  where
    go : (o : Option AvpFault) → fault_at (length octets - length rest) rest ≡ o → MatchOption o (e ≡ OutOfMemory) (λ f. failed e ≡ failed f) → Answers (Reads octets) (Err e)
    go None is m = subst (λ (x : AvpFault). Answers (Reads octets) (Err x)) (sym m) tt
    go (Some f) is m =
        let same : f ≡ e = cc in
        subst (λ (x : AvpFault). Answers (Reads octets) (Err x)) same (Answers-err (Reads octets) f (record { front = avps; left = rest; begins = b; some = some; why = is }))
