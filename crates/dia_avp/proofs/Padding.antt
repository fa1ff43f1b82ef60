-- Octets that spell AVPs are what is written, but for the padding; and what was read can be written.
use Rattle.std.proofs.Common.{◌≡◌, ◌≢◌, ℕ, ◌+◌, ◌-◌, ◌^◌, ◌<◌, ◌≤◌, min, List, [], ◌∷◌, ◌++◌, length, take, drop, get_or, All, Bool, true, false, cond, refl, sym, subst, ap, ◌∙◌, arith, length-drop}
use Rattle.std.proofs.Math.Seq.{take-add, drop-cons}
use Rattle.std.proofs.lemmas.List.{length-take, length-take-le, take-append-drop}
use Rattle.std.proofs.lemmas.List.Elements.{All-nil, All-cons, All-drop}
use Rattle.byteorder.specs.Endian.{big_bytes}
use Rattle.dia_avp.specs.declared.avp.RawAvp.{RawAvp}
use Rattle.dia_avp.specs.AvpList.{AreOctets, BeginsWith, Begins, HasSpelling, HasPadding, flags_in, length_in, vendor_in, has_vendor, header_len, padding_of, length_of, vendor_of, unpadded}
use Rattle.dia_avp.proofs.Reading.{least_header}
use Rattle.dia_avp.proofs.Bytes.{big_number-lt, big_bytes-number}

-- the length that was read is the one that is written
pub length_of-read : (octets : List ℕ) (avp : RawAvp) (rest : List ℕ) → BeginsWith octets avp rest → length_of avp ≡ length_in octets
length_of-read octets avp rest b =
    let least = b.least in
    let within = b.within in
    let value : length avp.value ≡ length_in octets - header_len avp.flags =
    ap length b.value ∙ length-take-le (length_in octets - header_len avp.flags) (drop (header_len avp.flags) octets) (omega (arith, length-drop (header_len avp.flags) octets)) in
    omega arith

-- the vendor where there is one
vendor_read : (has : Bool) (vendor : ℕ) (octets : List ℕ) → cond has 12 8 ≤ length octets → AreOctets octets → vendor ≡ cond has (vendor_in octets) 0
    → cond has (big_bytes 4 vendor) [] ≡ take (cond has 12 8 - 8) (drop 8 octets)
vendor_read true vendor octets le all e =
    ap (big_bytes 4) e ∙ big_bytes-number 4 (drop 8 octets) (omega (arith, length-drop 8 octets)) (All-drop (λ octet. octet < 256) 8 octets all)
vendor_read false vendor octets le all e = refl

-- flags and length
middle_read : (octets : List ℕ) (flags len : ℕ) → 8 ≤ length octets → AreOctets octets → flags ≡ flags_in octets → len ≡ length_in octets → flags ∷ big_bytes 3 len ≡ take 4 (drop 4 octets)
middle_read octets flags len le all p q =
    let back : big_bytes 3 len ≡ take 3 (drop 5 octets) = ap (big_bytes 3) q ∙ big_bytes-number 3 (drop 5 octets) (omega (arith, length-drop 5 octets)) (All-drop (λ octet. octet < 256) 5 octets all) in
    let split : drop 4 octets ≡ get_or octets 4 0 ∷ drop 5 octets = drop-cons octets 4 0 (omega arith) in
    ap (λ (f : ℕ). f ∷ big_bytes 3 len) p ∙ ap (λ (xs : List ℕ). flags_in octets ∷ xs) back ∙ sym (ap (take 4) split)

-- a front of the octets, and more of them
more_front : (n m k : ℕ) (octets front : List ℕ) → front ≡ take n octets → n + m ≡ k → front ++ take m (drop n octets) ≡ take k octets
more_front n m k octets front p e = ap (λ (xs : List ℕ). xs ++ take m (drop n octets)) p ∙ sym (take-add n m octets) ∙ ap (λ (i : ℕ). take i octets) e

unpadded_read : (octets : List ℕ) (avp : RawAvp) (rest : List ℕ) → AreOctets octets → BeginsWith octets avp rest → unpadded avp ≡ take (length_in octets) octets
unpadded_read octets avp rest all b =
    let len = length_of-read octets avp rest b in
    let header = b.header in
    let least = b.least in
    let within = b.within in
    let eight : 8 ≤ header_len avp.flags = least_header avp.flags in
    let code : big_bytes 4 avp.code ≡ take 4 octets = ap (big_bytes 4) b.code ∙ big_bytes-number 4 octets (omega arith) all in
    let first : List ℕ = big_bytes 4 avp.code in
    let second : List ℕ = first ++ (avp.flags ∷ big_bytes 3 (length_of avp)) in
    let third : List ℕ = second ++ vendor_of avp in
    let to_8 : second ≡ take 8 octets =
    ap (λ (xs : List ℕ). first ++ xs) (middle_read octets avp.flags (length_of avp) header all b.flags len) ∙ more_front 4 4 8 octets first code refl in
    let to_header : third ≡ take (header_len avp.flags) octets =
    ap (λ (xs : List ℕ). second ++ xs) (vendor_read (has_vendor avp.flags) avp.vendor octets (omega arith) all b.vendor)
    ∙ more_front 8 (header_len avp.flags - 8) (header_len avp.flags) octets second to_8 (omega arith) in
    ap (λ (xs : List ℕ). third ++ xs) b.value
    ∙ more_front (header_len avp.flags) (length_in octets - header_len avp.flags) (length_in octets) octets third to_header (omega arith)

some_left : (xs : List ℕ) → xs ≢ [] → 0 < length xs
some_left [] some = absurd (some refl)
some_left (x ∷ xs) some = omega arith

pub HasPadding-read : (octets rest : List ℕ) (avp : RawAvp) → AreOctets octets → BeginsWith octets avp rest → HasPadding octets avp rest
HasPadding-read octets rest avp all b =
    let len = length_of-read octets avp rest b in
    let pad : ℕ = padding_of (length_in octets) in
    let padding : List ℕ = take pad (drop (length_in octets) octets) in
    let same : padding_of (length_of avp) ≡ pad = ap padding_of len in
    let whole : unpadded avp ++ padding ≡ take (length_in octets + pad) octets =
    more_front (length_in octets) pad (length_in octets + pad) octets (unpadded avp) (unpadded_read octets avp rest all b) refl in
    let taken : length padding ≡ min pad (length (drop (length_in octets) octets)) = length-take pad (drop (length_in octets) octets) in
    let left : length (drop (length_in octets) octets) ≡ length octets - length_in octets = length-drop (length_in octets) octets in
    let after : length rest ≡ length octets - (length_in octets + pad) = ap length b.behind ∙ length-drop (length_in octets + pad) octets in
    record {
      padding = padding;
      parts = sym (take-append-drop (length_in octets + pad) octets)
          ∙ ap (λ (xs : List ℕ). xs ++ drop (length_in octets + pad) octets) (sym whole)
          ∙ ap (λ (xs : List ℕ). (unpadded avp ++ padding) ++ xs) (sym b.behind);
      most = subst (λ (n : ℕ). length padding ≤ n) (sym same) (omega arith);
      whole = λ some. let more = some_left rest some in sym (same ∙ omega arith);
    }

vendor_fits : (has : Bool) (vendor : ℕ) (octets : List ℕ) → AreOctets octets → vendor ≡ cond has (vendor_in octets) 0 → vendor < 2 ^ 32
vendor_fits true vendor octets all e = subst (λ (n : ℕ). n < 2 ^ 32) (sym e) (big_number-lt 4 (drop 8 octets) (All-drop (λ octet. octet < 256) 8 octets all))
vendor_fits false vendor octets all e = omega arith

no_vendor_read : (has : Bool) (vendor other : ℕ) → vendor ≡ cond has other 0 → has ≡ false → vendor ≡ 0
no_vendor_read true vendor other e f = absurd cc
no_vendor_read false vendor other e f = e

-- an AVP that was read has a written spelling
pub HasSpelling-read : (octets rest : List ℕ) (avp : RawAvp) → AreOctets octets → BeginsWith octets avp rest → HasSpelling avp
HasSpelling-read octets rest avp all b =
    record {
      code = subst (λ (n : ℕ). n < 2 ^ 32) (sym b.code) (big_number-lt 4 octets all);
      vendor = vendor_fits (has_vendor avp.flags) avp.vendor octets all b.vendor;
      no_vendor = no_vendor_read (has_vendor avp.flags) avp.vendor (vendor_in octets) b.vendor;
      long = subst (λ (n : ℕ). n < 2 ^ 24) (sym (length_of-read octets avp rest b)) (big_number-lt 3 (drop 5 octets) (All-drop (λ octet. octet < 256) 5 octets all));
    }

pub All-HasSpelling-read : (octets : List ℕ) (avps : List RawAvp) (rest : List ℕ) → AreOctets octets → Begins octets avps rest → All HasSpelling avps
All-HasSpelling-read octets [] rest all b = All-nil HasSpelling
All-HasSpelling-read octets (a ∷ avps) rest all b =
    let between : AreOctets b.0 = subst AreOctets (sym b.1.behind) (All-drop (λ octet. octet < 256) (length_in octets + padding_of (length_in octets)) octets all) in
    All-cons HasSpelling a avps (HasSpelling-read octets b.0 a all b.1) (All-HasSpelling-read b.0 avps rest between b.2)

-- no AVP that was read is longer than the octets
pub All-length_of-read : (octets : List ℕ) (avps : List RawAvp) (rest : List ℕ) (limit : ℕ) → length octets ≤ limit → Begins octets avps rest → All (λ avp. length_of avp ≤ limit) avps
All-length_of-read octets [] rest limit le b = All-nil (λ avp. length_of avp ≤ limit)
All-length_of-read octets (a ∷ avps) rest limit le b =
    let within = b.1.within in
    let len = length_of-read octets a b.0 b.1 in
    let left : length b.0 ≡ length octets - (length_in octets + padding_of (length_in octets)) = ap length b.1.behind ∙ length-drop _ octets in
    All-cons (λ avp. length_of avp ≤ limit) a avps (omega arith) (All-length_of-read b.0 avps rest limit (omega arith) b.2)
