-- Octets that are an AVP's, with padding of any octets behind them, begin with that AVP.
use Rattle.std.proofs.Common.{◌≡◌, ◌≢◌, ℕ, ◌+◌, ◌-◌, ◌≤◌, List, [], ◌∷◌, ◌++◌, length, take, drop, slice_range, refl, sym, subst, ap, ◌∙◌, arith, length-append}
use Rattle.std.proofs.lemmas.List.{take_at, drop_at, drop_all, append-nil}
use Rattle.byteorder.specs.Endian.{big_bytes}
use Rattle.byteorder.specs.Numbers.{big_number-reads_back}
use Rattle.dia_avp.specs.declared.avp.RawAvp.{RawAvp}
use Rattle.dia_avp.proofs.Reading.{least_header}
use Rattle.dia_avp.proofs.ReadBack.{vendor_back, after_vendor, length_vendor, regroup, fixed}
use Rattle.dia_avp.specs.AvpList.{BeginsWith, HasSpelling, HasPadding, length_in, has_vendor, header_len, length_of, padding_of, vendor_of, unpadded}

not_nil : (x : ℕ) (xs : List ℕ) → (x ∷ xs) ≢ []
not_nil x xs e = absurd cc

behind_padding : (front padding rest : List ℕ) (len pad : ℕ) → length front ≡ len → length padding ≤ pad → (rest ≢ [] → length padding ≡ pad) → drop (len + pad) ((front ++ padding) ++ rest) ≡ rest
behind_padding front padding [] len pad is most whole =
    let same : (front ++ padding) ++ [] ≡ front ++ padding = append-nil (front ++ padding) in
    let all = length-append front padding in
    ap (drop (len + pad)) same ∙ drop_all (len + pad) (front ++ padding) (omega arith)
behind_padding front padding (x ∷ xs) len pad is most whole =
    let all = length-append front padding in
    let full = whole (not_nil x xs) in
    drop_at (front ++ padding) (x ∷ xs) (len + pad) (omega arith)

length_unpadded : (avp : RawAvp) → length (unpadded avp) ≡ length_of avp
length_unpadded avp =
    let b = length-append (vendor_of avp) avp.value in
    let v = length_vendor (has_vendor avp.flags) avp.vendor in
    omega arith

pub BeginsWith-padded : (octets rest : List ℕ) (avp : RawAvp) → HasSpelling avp → HasPadding octets avp rest → BeginsWith octets avp rest
BeginsWith-padded octets rest avp w h =
    let after : List ℕ = avp.value ++ (h.padding ++ rest) in
    let text : List ℕ = fixed avp ++ (vendor_of avp ++ after) in
    let parts : (unpadded avp ++ h.padding) ++ rest ≡ text = ap (λ (t : List ℕ). fixed avp ++ t) (regroup (vendor_of avp) avp.value h.padding rest) in
    let len_is : length_in text ≡ length_of avp = big_number-reads_back 3 (length_of avp) (vendor_of avp ++ after) w.long in
    let own = length_unpadded avp in
    let all : length text ≡ length (unpadded avp ++ h.padding) + length rest = sym (ap length parts) ∙ length-append (unpadded avp ++ h.padding) rest in
    let both = length-append (unpadded avp) h.padding in
    let least : 8 ≤ header_len avp.flags = least_header avp.flags in
    subst (λ (o : List ℕ). BeginsWith o avp rest) (sym (h.parts ∙ parts)) (record {
      header = omega arith;
      least = subst (λ (n : ℕ). header_len avp.flags ≤ n) (sym len_is) (omega arith);
      within = subst (λ (n : ℕ). n ≤ length text) (sym len_is) (omega arith);
      code = sym (big_number-reads_back 4 avp.code (avp.flags ∷ (big_bytes 3 (length_of avp) ++ (vendor_of avp ++ after))) w.code);
      flags = refl;
      vendor = vendor_back (has_vendor avp.flags) avp.vendor after w.vendor w.no_vendor;
      value = sym (
          ap (λ (n : ℕ). slice_range text (header_len avp.flags) n) len_is
          ∙ ap (take (length_of avp - header_len avp.flags)) (after_vendor (has_vendor avp.flags) avp.vendor _ _ _ _ _ _ _ _ after)
          ∙ take_at avp.value (h.padding ++ rest) (length_of avp - header_len avp.flags) (omega arith)
          );
      behind = sym (
          ap (λ (n : ℕ). drop (n + padding_of n) text) len_is
          ∙ ap (drop (length_of avp + padding_of (length_of avp))) (sym parts)
          ∙ behind_padding (unpadded avp) h.padding rest (length_of avp) (padding_of (length_of avp)) own h.most h.whole
          );
    })
