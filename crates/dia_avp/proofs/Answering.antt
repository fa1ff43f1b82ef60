-- What a call answers by `Answers (Reads octets)`, by the function `split_of`; and what is written, by it.
use Rattle.std.proofs.Common.{◌≡◌, ◌≢◌, ℕ, ◌%◌, ◌-◌, List, [], ◌∷◌, ◌++◌, length, All, Option, Some, None, Result, Ok, Err, IsOk, refl, sym, subst, ap, ◌∙◌}
use Rattle.std.specs.Prelude.{MatchOption}
use Rattle.std.specs.Global.{Vec}
use Rattle.dia_avp.specs.declared.avp.RawAvp.{RawAvp}
use Rattle.dia_avp.specs.declared.fault.AvpFault.{AvpFault}
use Rattle.dia_avp.specs.declared.fault.AvpFault.TheVariants.{ShortHeader, LengthTooSmall, Overrun, TooLong, TooDeep, OutOfMemory}
use Rattle.dia_avp.specs.AvpList.{Begins, Reads, Answers, IsSpelling, HasSpelling, fault_at, with_avp, written, written_list}
use Rattle.dia_avp.specs.AvpReading.{split_of, IsAnswer}
use Rattle.dia_avp.proofs.Splitting.{Reads-only, split_of-reads}
use Rattle.dia_avp.proofs.ReadBack.{BeginsWith-written, Begins-written_list}
use Rattle.dia_avp.proofs.Appending.{Begins-append, Begins-then, IsSpelling-with_avp}

-- what the function gives, by the relation
pub Reads-of : (octets : List ℕ) (r : Result (List RawAvp) AvpFault) → split_of octets ≡ r → Reads octets r
Reads-of octets r e = subst (λ (s : Result (List RawAvp) AvpFault). Reads octets s) e (split_of-reads octets)

-- ---- calls

-- the answer of a call is the one reading, or that memory ran out
pub IsAnswer-answers : (octets : List ℕ) (r : Result (Vec RawAvp) AvpFault) → Answers (Reads octets) r → IsAnswer (split_of octets) r
IsAnswer-answers octets (Ok avps) h = sym (Reads-only octets (Ok avps.items) h)
IsAnswer-answers octets (Err (ShortHeader at)) h = sym (Reads-only octets (Err (ShortHeader at)) h)
IsAnswer-answers octets (Err (LengthTooSmall at code)) h = sym (Reads-only octets (Err (LengthTooSmall at code)) h)
IsAnswer-answers octets (Err (Overrun at code)) h = sym (Reads-only octets (Err (Overrun at code)) h)
IsAnswer-answers octets (Err TooLong) h = sym (Reads-only octets (Err TooLong) h)
IsAnswer-answers octets (Err TooDeep) h = sym (Reads-only octets (Err TooDeep) h)
IsAnswer-answers octets (Err OutOfMemory) h = tt

-- and the other way round
pub Answers-is_answer : (octets : List ℕ) (r : Result (Vec RawAvp) AvpFault) → IsAnswer (split_of octets) r → Answers (Reads octets) r
Answers-is_answer octets (Ok avps) h = Reads-of octets (Ok avps.items) h
Answers-is_answer octets (Err (ShortHeader at)) h = Reads-of octets (Err (ShortHeader at)) h
Answers-is_answer octets (Err (LengthTooSmall at code)) h = Reads-of octets (Err (LengthTooSmall at code)) h
Answers-is_answer octets (Err (Overrun at code)) h = Reads-of octets (Err (Overrun at code)) h
Answers-is_answer octets (Err TooLong) h = Reads-of octets (Err TooLong) h
Answers-is_answer octets (Err TooDeep) h = Reads-of octets (Err TooDeep) h
Answers-is_answer octets (Err OutOfMemory) h = tt

-- a list was answered: it is the reading
pub Answers-ok : (octets : List ℕ) (avps : Vec RawAvp) → Answers (Reads octets) (Ok avps) → split_of octets ≡ Ok avps.items
Answers-ok octets avps h = IsAnswer-answers octets (Ok avps) h

-- a fault was answered: it is the reading, unless memory ran out
pub Answers-fault : (octets : List ℕ) (fault : AvpFault) → fault ≢ OutOfMemory → Answers (Reads octets) (Err fault) → split_of octets ≡ Err fault
Answers-fault octets (ShortHeader at) some h = IsAnswer-answers octets (Err (ShortHeader at)) h
Answers-fault octets (LengthTooSmall at code) some h = IsAnswer-answers octets (Err (LengthTooSmall at code)) h
Answers-fault octets (Overrun at code) some h = IsAnswer-answers octets (Err (Overrun at code)) h
Answers-fault octets TooLong some h = IsAnswer-answers octets (Err TooLong) h
Answers-fault octets TooDeep some h = IsAnswer-answers octets (Err TooDeep) h
Answers-fault octets OutOfMemory some h = absurd (some refl)

-- ---- lists

abbrev read : List RawAvp → Result (List RawAvp) AvpFault
read avps = Ok avps

-- the AVPs of a reading
abbrev avps_of : Result (List RawAvp) AvpFault → List RawAvp
avps_of (Ok avps) = avps
avps_of (Err fault) = []

-- octets spell at most one list
pub IsSpelling-one : (octets : List ℕ) (avps others : List RawAvp) → IsSpelling octets avps → IsSpelling octets others → avps ≡ others
IsSpelling-one octets avps others a b = ap avps_of (Reads-only octets (read avps) a ∙ sym (Reads-only octets (read others) b))

-- a written value, and octets behind it
pub split_of-written : (avp : RawAvp) (rest : List ℕ) (avps : List RawAvp) → HasSpelling avp → split_of rest ≡ Ok avps → split_of (written avp ++ rest) ≡ Ok (avp ∷ avps)
split_of-written avp rest avps has e = sym (Reads-only (written avp ++ rest) (Ok (avp ∷ avps)) (rest, BeginsWith-written avp rest has, Reads-of rest (Ok avps) e))

-- written values, and octets behind them
pub split_of-written_list : (front : List RawAvp) (rest : List ℕ) (avps : List RawAvp) → All HasSpelling front → split_of rest ≡ Ok avps → split_of (written_list front ++ rest) ≡ Ok (front ++ avps)
split_of-written_list front rest avps has e =
    sym (Reads-only (written_list front ++ rest) (Ok (front ++ avps)) (Begins-then (written_list front ++ rest) front avps rest [] (Begins-written_list front rest has) (Reads-of rest (Ok avps) e)))

-- whole AVPs with all of their padding, and octets behind them
pub split_of-append : (octets more : List ℕ) (avps others : List RawAvp) → length octets % 4 ≡ 0 → split_of octets ≡ Ok avps → split_of more ≡ Ok others → split_of (octets ++ more) ≡ Ok (avps ++ others)
split_of-append octets more avps others even a b =
    sym (Reads-only (octets ++ more) (Ok (avps ++ others)) (Begins-then (octets ++ more) avps others more [] (Begins-append octets more avps [] even (Reads-of octets (Ok avps) a)) (Reads-of more (Ok others) b)))

-- octets of AVPs with one AVP more
pub split_of-with_avp : (octets : List ℕ) (avps : List RawAvp) (avp : RawAvp) → split_of octets ≡ Ok avps → HasSpelling avp → split_of (with_avp octets avp) ≡ Ok (avps ++ avp ∷ [])
split_of-with_avp octets avps avp e has =
    sym (Reads-only (with_avp octets avp) (Ok (avps ++ avp ∷ [])) (IsSpelling-with_avp octets avps avp (Reads-of octets (Ok avps) e) has))

-- ---- walks, AVP by AVP

-- nothing is left behind AVPs: they are the reading
pub walked_all : (octets : List ℕ) (avps : List RawAvp) (rest : List ℕ) → Begins octets avps rest → rest ≡ [] → split_of octets ≡ Ok avps
walked_all octets avps rest b none = sym (Reads-only octets (Ok avps) (subst (λ (left : List ℕ). Begins octets avps left) none b))

-- the fault of what is left behind AVPs is the reading
pub walked_to : {T : Type 0} (octets : List ℕ) (avps : List RawAvp) (rest : List ℕ) (r : Result T AvpFault) (fault : AvpFault) → Begins octets avps rest → rest ≢ [] → r ≡ Err fault
    → MatchOption (fault_at (length octets - length rest) rest) (IsOk r) (λ f. r ≡ Err f) → split_of octets ≡ Err fault
walked_to {T} octets avps rest r fault b some is h = go (fault_at (length octets - length rest) rest) refl h
  where
    go : (o : Option AvpFault) → fault_at (length octets - length rest) rest ≡ o → MatchOption o (IsOk r) (λ f. r ≡ Err f) → split_of octets ≡ Err fault
    go None why m = let failed : IsOk {T = T} {E = AvpFault} (Err fault) = subst (λ (x : Result T AvpFault). IsOk x) is m in cc
    go (Some f) why m =
        let same : f ≡ fault = cc in
        sym (Reads-only octets (Err fault) (record { front = avps; left = rest; begins = b; some = some; why = why ∙ ap (λ (x : AvpFault). Some x) same }))
