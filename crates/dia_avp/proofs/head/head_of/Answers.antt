use Rattle.std.proofs.Common.{◌≡◌, ◌+◌, ◌∙◌, sym, ap, refl, arith, length, drop, take, ℕ, List, ◌-◌, cond}
use Rattle.std.proofs.lemmas.List.{drop_min}
use Rattle.std.proofs.lemmas.Grind.{common_steps}
use Rattle.byteorder.specs.Endian.{big_number}
use Rattle.dia_avp.specs.AvpList.{length_in, vendor_in, padding_of}
use Rattle.dia_avp.proofs.head.head_of.Goals as goal
use Rattle.dia_avp.proofs.head.head_of.Goals.{then-has_vendor, else-has_vendor}

-- the whole of what is left, as `&xs[k..]` gives it
take-length_drop : (k : ℕ) (xs : List ℕ) → take (length xs - k) (drop k xs) ≡ drop k xs
take-length_drop k xs = grind (arith, common_steps)

pub returns-clause-found : goal.returns-clause-found
returns-clause-found c =
    let len : c.read_u24-len.result ≡ length_in c.args.octets.now = c.read_u24-len.ensures ∙ ap (big_number 3) (take-length_drop 5 c.args.octets.now) in
    record {
      header = omega arith;
      code = c.read_u32-code.ensures;
      flags = refl;
      vendor = elim c.if-has_vendor.branch [
        | then-has_vendor w ↦ w.vendor-is ∙ w.read_u32-vendor.ensures ∙ ap (big_number 4) (take-length_drop 8 c.args.octets.now)
            ∙ sym (ap (λ b. cond b (vendor_in c.args.octets.now) 0) (sym c.has_vendor.ensures ∙ w.if-has_vendor.true))
        | else-has_vendor w ↦ w.vendor-is ∙ sym (ap (λ b. cond b (vendor_in c.args.octets.now) 0) (sym c.has_vendor.ensures ∙ w.if-has_vendor.false))
      ];
      value = c.header_len-header.ensures.value;
      padding = len;
      ordered = omega arith;
      within = omega arith;
      end = omega arith;
      behind = rw (c.min.ensures, c.padding_of.ensures.value, ← len) (drop_min (c.read_u24-len.result + padding_of c.read_u24-len.result) c.args.octets.now);
    }
