-- A written AVP, with octets behind it, reads as that AVP and those octets.
use Rattle.std.proofs.Common.{◌≡◌, ℕ, ◌+◌, ◌-◌, ◌^◌, ◌<◌, ◌≤◌, List, [], ◌∷◌, ◌++◌, length, take, drop, slice_range, Bool, true, false, cond, refl, sym, subst, ap, ◌∙◌, arith, length-append, append_assoc, All}
use Rattle.std.specs.Prelude.{replicate}
use Rattle.std.proofs.lemmas.List.{take_at, drop_at, length-replicate, append-nil}
use Rattle.std.proofs.lemmas.List.Elements.{All-head, All-tail}
use Rattle.byteorder.specs.Endian.{big_bytes, big_number}
use Rattle.byteorder.specs.Numbers.{big_number-reads_back}
use Rattle.dia_avp.specs.declared.avp.RawAvp.{RawAvp}
use Rattle.dia_avp.proofs.Reading.{least_header}
use Rattle.dia_avp.specs.AvpList.{BeginsWith, Begins, IsSpelling, HasSpelling, length_in, has_vendor, header_len, length_of, padding_of, vendor_of, written, written_list}

-- the vendor, where the octets after the first eight are these
pub vendor_back : (has : Bool) (vendor : ℕ) (after : List ℕ) → vendor < 2 ^ 32 → (has ≡ false → vendor ≡ 0) → vendor ≡ cond has (big_number 4 (cond has (big_bytes 4 vendor) [] ++ after)) 0
vendor_back true vendor after lt none = sym (big_number-reads_back 4 vendor after lt)
vendor_back false vendor after lt none = none refl

-- and the octets after the vendor
pub after_vendor : (has : Bool) (vendor : ℕ) (a b c d e f g h : ℕ) (after : List ℕ) → drop (cond has 12 8) (a ∷ b ∷ c ∷ d ∷ e ∷ f ∷ g ∷ h ∷ (cond has (big_bytes 4 vendor) [] ++ after)) ≡ after
after_vendor true vendor a b c d e f g h after = refl
after_vendor false vendor a b c d e f g h after = refl

pub length_vendor : (has : Bool) (vendor : ℕ) → 8 + length (cond has (big_bytes 4 vendor) []) ≡ cond has 12 8
length_vendor true vendor = refl
length_vendor false vendor = refl

pub regroup : (v x z r : List ℕ) → ((v ++ x) ++ z) ++ r ≡ v ++ (x ++ (z ++ r))
regroup v x z r = simp append_assoc

abbrev pub fixed : RawAvp → List ℕ
fixed avp = big_bytes 4 avp.code ++ (avp.flags ∷ big_bytes 3 (length_of avp))

abbrev zeros : RawAvp → List ℕ
zeros avp = replicate (padding_of (length_of avp)) 0

same_octets : (avp : RawAvp) (rest : List ℕ) → written avp ++ rest ≡ fixed avp ++ (vendor_of avp ++ (avp.value ++ (zeros avp ++ rest)))
same_octets avp rest = ap (λ (t : List ℕ). fixed avp ++ t) (regroup (vendor_of avp) avp.value (zeros avp) rest)

-- the octets that a written AVP takes
pub length_spelling : (avp : RawAvp) → length (written avp) ≡ length_of avp + padding_of (length_of avp)
length_spelling avp =
    let a = length-append (vendor_of avp ++ avp.value) (zeros avp) in
    let b = length-append (vendor_of avp) avp.value in
    let z = length-replicate {A = ℕ} (padding_of (length_of avp)) 0 in
    let v = length_vendor (has_vendor avp.flags) avp.vendor in
    omega arith

pub BeginsWith-written : (avp : RawAvp) (rest : List ℕ) → HasSpelling avp → BeginsWith (written avp ++ rest) avp rest
BeginsWith-written avp rest w =
    let after : List ℕ = avp.value ++ (zeros avp ++ rest) in
    let octets : List ℕ = fixed avp ++ (vendor_of avp ++ after) in
    let len_is : length_in octets ≡ length_of avp = big_number-reads_back 3 (length_of avp) (vendor_of avp ++ after) w.long in
    let all : length octets ≡ length (written avp) + length rest = sym (ap length (same_octets avp rest)) ∙ length-append (written avp) rest in
    let spelled = length_spelling avp in
    let least : 8 ≤ header_len avp.flags = least_header avp.flags in
    subst (λ (o : List ℕ). BeginsWith o avp rest) (sym (same_octets avp rest)) (record {
      header = omega arith;
      least = subst (λ (n : ℕ). header_len avp.flags ≤ n) (sym len_is) (omega arith);
      within = subst (λ (n : ℕ). n ≤ length octets) (sym len_is) (omega arith);
      code = sym (big_number-reads_back 4 avp.code (avp.flags ∷ (big_bytes 3 (length_of avp) ++ (vendor_of avp ++ after))) w.code);
      flags = refl;
      vendor = vendor_back (has_vendor avp.flags) avp.vendor after w.vendor w.no_vendor;
      value = sym (
          ap (λ (n : ℕ). slice_range octets (header_len avp.flags) n) len_is
          ∙ ap (take (length_of avp - header_len avp.flags)) (after_vendor (has_vendor avp.flags) avp.vendor _ _ _ _ _ _ _ _ after)
          ∙ take_at avp.value (zeros avp ++ rest) (length_of avp - header_len avp.flags) (omega arith)
          );
      behind = sym (
          ap (λ (n : ℕ). drop (n + padding_of n) octets) len_is
          ∙ ap (drop (length_of avp + padding_of (length_of avp))) (sym (same_octets avp rest))
          ∙ drop_at (written avp) rest (length_of avp + padding_of (length_of avp)) spelled
          );
    })

-- written AVPs, with octets behind them, read as those AVPs and these octets
pub Begins-written_list : (avps : List RawAvp) (rest : List ℕ) → All HasSpelling avps → Begins (written_list avps ++ rest) avps rest
Begins-written_list [] rest has = refl
Begins-written_list (a ∷ avps) rest has =
    let between : List ℕ = written_list avps ++ rest in
    let same : (written a ++ written_list avps) ++ rest ≡ written a ++ between = append_assoc (written a) (written_list avps) rest in
    (between, subst (λ (o : List ℕ). BeginsWith o a between) (sym same) (BeginsWith-written a between (All-head HasSpelling a avps has)), Begins-written_list avps rest (All-tail HasSpelling a avps has))

-- written AVPs are read back
pub IsSpelling-written_list : (avps : List RawAvp) → All HasSpelling avps → IsSpelling (written_list avps) avps
IsSpelling-written_list avps has = subst (λ (o : List ℕ). Begins o avps []) (append-nil (written_list avps)) (Begins-written_list avps [] has)
