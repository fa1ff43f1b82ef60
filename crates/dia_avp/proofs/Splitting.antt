-- Octets have one reading, which is `split_of`.
use Rattle.std.proofs.Common.{◌≡◌, ◌≢◌, ℕ, zero, suc, ◌-◌, ◌≤◌, List, [], ◌∷◌, ◌++◌, length, slice_range, Bool, true, false, cond, ltb, Option, Some, None, Result, Ok, Err, refl, sym, subst, ap, ◌∙◌, arith}
use Rattle.std.proofs.lemmas.List.{append-nil}
use Rattle.std.proofs.lemmas.Bool.{ltb-false, le-ltb}
use Rattle.dia_avp.specs.declared.avp.RawAvp.{RawAvp}
use Rattle.dia_avp.specs.declared.fault.AvpFault.{AvpFault}
use Rattle.dia_avp.specs.declared.fault.AvpFault.TheVariants.{ShortHeader, LengthTooSmall, Overrun}
use Rattle.dia_avp.specs.AvpList.{BeginsWith, Begins, Reads, fault_at, code_in, flags_in, length_in, vendor_in, header_len, has_vendor}
use Rattle.dia_avp.specs.AvpReading.{avp_at, rest_at, answer_of, split_from, split_of}
use Rattle.dia_avp.proofs.Reading.{BeginsWith-shorter}

-- three tests in a row, none of which passed
tests_none : (a b c : Bool) (x y z : AvpFault) → cond a (Some x) (cond b (Some y) (cond c (Some z) None)) ≡ None → (a ≡ false) × (b ≡ false) × (c ≡ false)
tests_none true b c x y z e = absurd cc
tests_none false true c x y z e = absurd cc
tests_none false false true x y z e = absurd cc
tests_none false false false x y z e = (refl, refl, refl)

tests_pass : (a b c : Bool) (x y z : AvpFault) → a ≡ false → b ≡ false → c ≡ false → cond a (Some x) (cond b (Some y) (cond c (Some z) None)) ≡ None
tests_pass true b c x y z p q r = absurd cc
tests_pass false true c x y z p q r = absurd cc
tests_pass false false true x y z p q r = absurd cc
tests_pass false false false x y z p q r = refl

pub fault_at-none : (at : ℕ) (octets : List ℕ) (avp : RawAvp) (rest : List ℕ) → BeginsWith octets avp rest → fault_at at octets ≡ None
fault_at-none at octets avp rest b =
    tests_pass (ltb (length octets) 8) (ltb (length_in octets) (header_len (flags_in octets))) (ltb (length octets) (length_in octets)) (ShortHeader at) (LengthTooSmall at (code_in octets)) (Overrun at (code_in octets))
    (le-ltb _ _ b.header) (le-ltb _ _ (subst (λ (f : ℕ). header_len f ≤ length_in octets) b.flags b.least)) (le-ltb _ _ b.within)

pub begins_at : (at : ℕ) (octets : List ℕ) → fault_at at octets ≡ None → BeginsWith octets (avp_at octets) (rest_at octets)
begins_at at octets e =
    let t = tests_none (ltb (length octets) 8) (ltb (length_in octets) (header_len (flags_in octets))) (ltb (length octets) (length_in octets)) (ShortHeader at) (LengthTooSmall at (code_in octets)) (Overrun at (code_in octets)) e in
    record { header = ltb-false _ _ t.0; least = ltb-false _ _ t.1; within = ltb-false _ _ t.2; code = refl; flags = refl; vendor = refl; value = refl; behind = refl }

make : ℕ → ℕ → ℕ → List ℕ → RawAvp
make code flags vendor value = record { code = code; flags = flags; vendor = vendor; value = value }

-- an AVP with the fields that stand in the octets
pub avp_is : (octets : List ℕ) (avp : RawAvp) (rest : List ℕ) → BeginsWith octets avp rest → avp ≡ avp_at octets
unfolding make
avp_is octets avp rest b =
    let vendor : avp.vendor ≡ (avp_at octets).vendor = b.vendor ∙ ap (λ (f : ℕ). cond (has_vendor f) (vendor_in octets) 0) b.flags in
    let value : avp.value ≡ (avp_at octets).value = b.value ∙ ap (λ (f : ℕ). slice_range octets (header_len f) (length_in octets)) b.flags in
    ap (λ (c : ℕ). make c avp.flags avp.vendor avp.value) b.code
    ∙ ap (λ (f : ℕ). make (code_in octets) f avp.vendor avp.value) b.flags
    ∙ ap (λ (v : ℕ). make (code_in octets) (flags_in octets) v avp.value) vendor
    ∙ ap (λ (x : List ℕ). make (code_in octets) (flags_in octets) (avp_at octets).vendor x) value

not_nil : (x : ℕ) (xs : List ℕ) → x ∷ xs ≢ []
not_nil x xs e = cc

abbrev read : List RawAvp → Result (List RawAvp) AvpFault
read avps = Ok avps

-- behind AVPs comes nothing, or something that begins with none
abbrev pub Ends : ℕ → List ℕ → Result (List RawAvp) AvpFault → Type 0
Ends whole left (Ok more) = (left ≡ []) × (more ≡ [])
Ends whole left (Err fault) = (left ≢ []) × (fault_at (whole - length left) left ≡ Some fault)

-- AVPs in front of an answer
abbrev pub in_front : List RawAvp → Result (List RawAvp) AvpFault → Result (List RawAvp) AvpFault
in_front avps (Ok more) = Ok (avps ++ more)
in_front avps (Err fault) = Err fault

one_more : (avp : RawAvp) (avps : List RawAvp) (r : Result (List RawAvp) AvpFault) → answer_of None avp (in_front avps r) ≡ in_front (avp ∷ avps) r
one_more avp avps (Ok more) = refl
one_more avp avps (Err fault) = refl

no_front : (r : Result (List RawAvp) AvpFault) → in_front [] r ≡ r
no_front (Ok more) = refl
no_front (Err fault) = refl

ends : (n whole : ℕ) (left : List ℕ) (r : Result (List RawAvp) AvpFault) → length left ≤ n → Ends whole left r → split_from n whole left ≡ r
unfolding split_from
ends n whole [] (Ok more) le e = ap read (sym e.1)
ends n whole (x ∷ xs) (Ok more) le e = absurd (not_nil x xs e.0)
ends n whole [] (Err fault) le e = absurd (e.0 refl)
ends zero whole (x ∷ xs) (Err fault) le e = absurd (omega arith)
ends (suc n) whole (x ∷ xs) (Err fault) le e = ap (λ (o : Option AvpFault). answer_of o (avp_at (x ∷ xs)) (split_from n whole (rest_at (x ∷ xs)))) e.1

-- the function finds what the relation says
pub split_from-is : (n whole : ℕ) (octets : List ℕ) (avps : List RawAvp) (left : List ℕ) (r : Result (List RawAvp) AvpFault) → length octets ≤ n → Begins octets avps left → Ends whole left r
    → split_from n whole octets ≡ in_front avps r
unfolding split_from
split_from-is n whole octets [] left r le b e =
    let short : length left ≤ n = subst (λ (o : List ℕ). length o ≤ n) b le in
    subst (λ (o : List ℕ). split_from n whole o ≡ in_front [] r) (sym b) (ends n whole left r short e ∙ sym (no_front r))
split_from-is n whole [] (a ∷ avps) left r le b e = let long : 8 ≤ 0 = b.1.header in absurd (omega arith)
split_from-is zero whole (x ∷ xs) (a ∷ avps) left r le b e = absurd (omega arith)
split_from-is (suc n) whole (x ∷ xs) (a ∷ avps) left r le b e =
    let octets : List ℕ = x ∷ xs in
    let shorter = BeginsWith-shorter octets a b.0 b.1 in
    let rest = split_from-is n whole b.0 avps left r (omega arith) b.2 e in
    ap (λ (o : Option AvpFault). answer_of o (avp_at octets) (split_from n whole (rest_at octets))) (fault_at-none (whole - length octets) octets a b.0 b.1)
    ∙ ap (λ (y : RawAvp). answer_of None y (split_from n whole (rest_at octets))) (sym (avp_is octets a b.0 b.1))
    ∙ ap (λ (ys : List ℕ). answer_of None a (split_from n whole ys)) (sym b.1.behind)
    ∙ ap (answer_of None a) rest
    ∙ one_more a avps r

-- what the function finds, by the relation
abbrev Finds : ℕ → ℕ → List ℕ → Type 0
Finds n whole octets = (avps : List RawAvp) × (left : List ℕ) × (r : Result (List RawAvp) AvpFault) × Begins octets avps left × Ends whole left r × (split_from n whole octets ≡ in_front avps r)

finds_more : (n whole x : ℕ) (xs : List ℕ) (o : Option AvpFault) → fault_at (whole - length (x ∷ xs)) (x ∷ xs) ≡ o → length (x ∷ xs) ≤ suc n
    → (length (rest_at (x ∷ xs)) ≤ n → Finds n whole (rest_at (x ∷ xs))) → Finds (suc n) whole (x ∷ xs)
unfolding split_from
finds_more n whole x xs (Some fault) is le more =
    ([], x ∷ xs, Err fault, refl, (not_nil x xs, is), ap (λ (o : Option AvpFault). answer_of o (avp_at (x ∷ xs)) (split_from n whole (rest_at (x ∷ xs)))) is)
finds_more n whole x xs None is le more =
    let first = begins_at (whole - length (x ∷ xs)) (x ∷ xs) is in
    let shorter = BeginsWith-shorter (x ∷ xs) (avp_at (x ∷ xs)) (rest_at (x ∷ xs)) first in
    let rest = more (omega arith) in (
      avp_at (x ∷ xs) ∷ rest.0,
      rest.1,
      rest.2,
      (rest_at (x ∷ xs), first, rest.3),
      rest.4,
      ap (λ (o : Option AvpFault). answer_of o (avp_at (x ∷ xs)) (split_from n whole (rest_at (x ∷ xs)))) is
          ∙ ap (answer_of None (avp_at (x ∷ xs))) rest.5
          ∙ one_more (avp_at (x ∷ xs)) rest.0 rest.2,
    )

-- what the function finds is so
pub split_from-reads : (n whole : ℕ) (octets : List ℕ) → length octets ≤ n → Finds n whole octets
unfolding split_from
split_from-reads n whole [] le = ([], [], Ok [], refl, (refl, refl), refl)
split_from-reads zero whole (x ∷ xs) le = absurd (omega arith)
split_from-reads (suc n) whole (x ∷ xs) le = finds_more n whole x xs (fault_at (whole - length (x ∷ xs)) (x ∷ xs)) refl le (split_from-reads n whole (rest_at (x ∷ xs)))

reads : (octets : List ℕ) (avps : List RawAvp) (left : List ℕ) (r : Result (List RawAvp) AvpFault) → Begins octets avps left → Ends (length octets) left r → Reads octets (in_front avps r)
reads octets avps left (Ok more) b e =
    let same : avps ≡ avps ++ more = sym (append-nil avps) ∙ ap (λ (ys : List RawAvp). avps ++ ys) (sym e.1) in
    subst (λ (ys : List RawAvp). Begins octets ys []) same (subst (λ (l : List ℕ). Begins octets avps l) e.0 b)
reads octets avps left (Err fault) b e = record { front = avps; left = left; begins = b; some = e.0; why = e.1 }

-- each list of octets reads as `split_of` says
pub split_of-reads : (octets : List ℕ) → Reads octets (split_of octets)
unfolding split_of
split_of-reads octets =
    let found = split_from-reads (length octets) (length octets) octets (omega arith) in
    subst (λ (r : Result (List RawAvp) AvpFault). Reads octets r) (sym found.5) (reads octets found.0 found.1 found.2 found.3 found.4)

-- and as nothing else
pub Reads-only : (octets : List ℕ) (r : Result (List RawAvp) AvpFault) → Reads octets r → r ≡ split_of octets
unfolding split_of
Reads-only octets (Ok avps) h =
    ap read (sym (append-nil avps)) ∙ sym (split_from-is (length octets) (length octets) octets avps [] (Ok []) (omega arith) h (refl, refl))
Reads-only octets (Err fault) h =
    sym (split_from-is (length octets) (length octets) octets h.front h.left (Err fault) (omega arith) h.begins (h.some, h.why))
