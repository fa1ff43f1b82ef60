-- Octets that end at a multiple of 4 may be followed by further AVPs.
use Rattle.std.proofs.Common.{◌≡◌, ℕ, ◌+◌, ◌-◌, ◌%◌, ◌<◌, ◌≤◌, Bool, true, false, cond, List, [], ◌∷◌, ◌++◌, length, take, drop, slice_range, replicate, refl, sym, subst, ap, ◌∙◌, arith, length-append, length-drop, inl, inr}
use Rattle.std.proofs.lemmas.Bool.{cases_lt}
use Rattle.std.proofs.lemmas.List.{append-nil, drop-append-le, drop_all, take-append-le}
use Rattle.std.proofs.Math.ListN.{get_or-append, length-replicate}
use Rattle.byteorder.specs.Endian.{big_number}
use Rattle.byteorder.specs.Numbers.{big_from-append}
use Rattle.dia_avp.specs.declared.avp.RawAvp.{RawAvp}
use Rattle.dia_avp.specs.AvpList.{BeginsWith, Begins, HasSpelling, IsSpelling, length_in, vendor_in, header_len, has_vendor, padding_of, with_avp, with_padding, written}
use Rattle.dia_avp.proofs.ReadBack.{BeginsWith-written}

-- a length with its padding is a multiple of 4, and goes past no multiple of 4 that the length keeps to
pub padded : (n whole : ℕ) → n ≤ whole → whole % 4 ≡ 0 → (n + (4 - n % 4) % 4 ≤ whole) × ((whole - (n + (4 - n % 4) % 4)) % 4 ≡ 0)
padded n whole le even = (omega arith, omega arith)

vendor_more : (has : Bool) (octets more : List ℕ) → (has ≡ true → 12 ≤ length octets) → cond has (vendor_in (octets ++ more)) 0 ≡ cond has (vendor_in octets) 0
vendor_more false octets more long = refl
vendor_more true octets more long =
    let twelve : 12 ≤ length octets = long refl in
    ap (big_number 4) (drop-append-le 8 octets more (omega arith)) ∙ big_from-append 4 (drop 8 octets) more (omega (arith, length-drop 8 octets))

twelve_with : (has : Bool) → has ≡ true → 12 ≤ cond has 12 8
twelve_with true e = omega arith
twelve_with false e = absurd cc

same_length : (octets more : List ℕ) → 8 ≤ length octets → length_in (octets ++ more) ≡ length_in octets
same_length octets more long =
    ap (big_number 3) (drop-append-le 5 octets more (omega arith)) ∙ big_from-append 3 (drop 5 octets) more (omega (arith, length-drop 5 octets))

-- octets begin with an AVP also where more stands behind them, be it the rest of its padding
BeginsWith-more : (octets more : List ℕ) (avp : RawAvp) (rest : List ℕ) → BeginsWith octets avp rest
    → BeginsWith (octets ++ more) avp (drop (length_in octets + padding_of (length_in octets)) (octets ++ more))
BeginsWith-more octets more avp rest b =
    let header = b.header in
    let within = b.within in
    let least = b.least in
    let all = length-append octets more in
    let len_is : length_in (octets ++ more) ≡ length_in octets = same_length octets more b.header in
    let front : drop (header_len avp.flags) (octets ++ more) ≡ drop (header_len avp.flags) octets ++ more = drop-append-le (header_len avp.flags) octets more (omega arith) in
    record {
      header = omega arith;
      least = subst (λ (n : ℕ). header_len avp.flags ≤ n) (sym len_is) b.least;
      within = subst (λ (n : ℕ). n ≤ length (octets ++ more)) (sym len_is) (omega arith);
      code = b.code ∙ sym (big_from-append 4 octets more (omega arith));
      flags = b.flags ∙ sym (get_or-append octets more 0 4 (omega arith));
      vendor = b.vendor ∙ sym (vendor_more (has_vendor avp.flags) octets more (λ e. let twelve = twelve_with (has_vendor avp.flags) e in omega arith));
      value = b.value ∙ sym (
          ap (λ (n : ℕ). slice_range (octets ++ more) (header_len avp.flags) n) len_is
          ∙ ap (take (length_in octets - header_len avp.flags)) front
          ∙ take-append-le (length_in octets - header_len avp.flags) (drop (header_len avp.flags) octets) more (omega (arith, length-drop (header_len avp.flags) octets))
          );
      behind = ap (λ (n : ℕ). drop (n + padding_of n) (octets ++ more)) (sym len_is);
    }

-- what stands behind an AVP with all of its padding
behind_more : (octets more : List ℕ) (avp : RawAvp) (rest : List ℕ) → BeginsWith octets avp rest → length_in octets + padding_of (length_in octets) ≤ length octets
    → drop (length_in octets + padding_of (length_in octets)) (octets ++ more) ≡ rest ++ more
behind_more octets more avp rest b le =
    drop-append-le (length_in octets + padding_of (length_in octets)) octets more le ∙ ap (λ (o : List ℕ). o ++ more) (sym b.behind)

pub BeginsWith-append : (octets more : List ℕ) (avp : RawAvp) (rest : List ℕ) → length octets % 4 ≡ 0 → BeginsWith octets avp rest → BeginsWith (octets ++ more) avp (rest ++ more)
BeginsWith-append octets more avp rest even b =
    let ends = padded (length_in octets) (length octets) b.within even in
    subst (λ (o : List ℕ). BeginsWith (octets ++ more) avp o) (behind_more octets more avp rest b ends.0) (BeginsWith-more octets more avp rest b)

pub Begins-append : (octets more : List ℕ) (avps : List RawAvp) (rest : List ℕ) → length octets % 4 ≡ 0 → Begins octets avps rest → Begins (octets ++ more) avps (rest ++ more)
Begins-append octets more [] rest even b = ap (λ (xs : List ℕ). xs ++ more) b
Begins-append octets more (a ∷ avps) rest even b =
    let ends = padded (length_in octets) (length octets) b.1.within even in
    let left : length b.0 ≡ length octets - (length_in octets + padding_of (length_in octets)) = ap length b.1.behind ∙ length-drop _ octets in
    let even_left : length b.0 % 4 ≡ 0 = ap (λ (n : ℕ). n % 4) left ∙ ends.1 in
    (b.0 ++ more, BeginsWith-append octets more a b.0 even b.1, Begins-append b.0 more avps rest even_left b.2)

pub Begins-then : (octets : List ℕ) (front back : List RawAvp) (middle rest : List ℕ) → Begins octets front middle → Begins middle back rest → Begins octets (front ++ back) rest
Begins-then octets [] back middle rest a b = subst (λ (o : List ℕ). Begins o back rest) (sym a) b
Begins-then octets (x ∷ front) back middle rest a b = (a.0, a.1, Begins-then a.0 front back middle rest a.2 b)

-- ---- the missing padding of the last AVP

no_octets : (octets more : List ℕ) → octets ≡ [] → length more < 4 → length (octets ++ more) % 4 ≡ 0 → octets ++ more ≡ []
no_octets octets [] e few even = append-nil octets ∙ e
no_octets octets (x ∷ more) e few even = let whole = ap length e in absurd (omega (arith, length-append octets (x ∷ more)))

no_avps : (avps : List RawAvp) (left : List ℕ) → left ≡ [] → Begins [] avps [] → Begins left avps []
no_avps [] left e b = e
no_avps (avp ∷ avps) left e b = let h = b.1.header in absurd (omega arith)

covered : (n octets more : ℕ) → n ≤ octets → more < 4 → (octets + more) % 4 ≡ 0 → octets < n + (4 - n % 4) % 4 → octets + more ≤ n + (4 - n % 4) % 4
covered n octets more le few even lt = omega arith

still_even : (n octets more : ℕ) → n + (4 - n % 4) % 4 ≤ octets → (octets + more) % 4 ≡ 0 → (octets - (n + (4 - n % 4) % 4) + more) % 4 ≡ 0
still_even n octets more le even = omega arith

-- octets that spell AVPs spell them still with the rest of the last one's padding
pub IsSpelling-completed : (octets more : List ℕ) (avps : List RawAvp) → length more < 4 → length (octets ++ more) % 4 ≡ 0 → IsSpelling octets avps → IsSpelling (octets ++ more) avps
IsSpelling-completed octets more [] few even b = no_octets octets more b few even
IsSpelling-completed octets more (avp ∷ avps) few even b =
    let whole : (length octets + length more) % 4 ≡ 0 = ap (λ (n : ℕ). n % 4) (sym (length-append octets more)) ∙ even in (
      drop (length_in octets + padding_of (length_in octets)) (octets ++ more),
      BeginsWith-more octets more avp b.0 b.1,
      elim (cases_lt (length octets) (length_in octets + padding_of (length_in octets))) [
        | inl lt ↦
            let within = b.1.within in
            let most = covered (length_in octets) (length octets) (length more) b.1.within few whole lt in
            let left : b.0 ≡ [] = b.1.behind ∙ drop_all (length_in octets + padding_of (length_in octets)) octets (omega arith) in
            no_avps avps (drop (length_in octets + padding_of (length_in octets)) (octets ++ more)) (drop_all (length_in octets + padding_of (length_in octets)) (octets ++ more) (omega (arith, length-append octets more)))
            (subst (λ (o : List ℕ). Begins o avps []) left b.2)
        | inr le ↦
            let left : length b.0 ≡ length octets - (length_in octets + padding_of (length_in octets)) = ap length b.1.behind ∙ length-drop (length_in octets + padding_of (length_in octets)) octets in
            let even_left : length (b.0 ++ more) % 4 ≡ 0 =
            ap (λ (n : ℕ). n % 4) (length-append b.0 more ∙ ap (λ (n : ℕ). n + length more) left)
            ∙ still_even (length_in octets) (length octets) (length more) le whole in
            subst (λ (o : List ℕ). Begins o avps []) (sym (behind_more octets more avp b.0 b.1 le)) (IsSpelling-completed b.0 more avps few even_left b.2)
      ],
    )

rounded : (n : ℕ) → (n + (4 - n % 4) % 4) % 4 ≡ 0
rounded n = omega arith

few_zeros : (n : ℕ) → (4 - n % 4) % 4 < 4
few_zeros n = omega arith

pub with_padding-even : (octets : List ℕ) → length (with_padding octets) % 4 ≡ 0
with_padding-even octets =
    let zeros : List ℕ = replicate (padding_of (length octets)) 0 in
    ap (λ (n : ℕ). n % 4) (length-append octets zeros ∙ ap (λ (n : ℕ). length octets + n) (length-replicate {A = ℕ} (padding_of (length octets)) 0))
    ∙ rounded (length octets)

pub IsSpelling-with_padding : (octets : List ℕ) (avps : List RawAvp) → IsSpelling octets avps → IsSpelling (with_padding octets) avps
IsSpelling-with_padding octets avps b =
    let few : length (replicate {A = ℕ} (padding_of (length octets)) 0) < 4 =
    subst (λ (n : ℕ). n < 4) (sym (length-replicate {A = ℕ} (padding_of (length octets)) 0)) (few_zeros (length octets)) in
    IsSpelling-completed octets (replicate (padding_of (length octets)) 0) avps few (with_padding-even octets) b

-- and with a whole AVP more
pub IsSpelling-with_avp : (octets : List ℕ) (avps : List RawAvp) (avp : RawAvp) → IsSpelling octets avps → HasSpelling avp → IsSpelling (with_avp octets avp) (avps ++ avp ∷ [])
IsSpelling-with_avp octets avps avp b has =
    let one : IsSpelling (written avp ++ []) (avp ∷ []) = ([], BeginsWith-written avp [] has, refl) in
    Begins-then (with_padding octets ++ written avp) avps (avp ∷ []) (written avp) []
    (Begins-append (with_padding octets) (written avp) avps [] (with_padding-even octets) (IsSpelling-with_padding octets avps b))
    (subst (λ (o : List ℕ). IsSpelling o (avp ∷ [])) (append-nil (written avp)) one)
