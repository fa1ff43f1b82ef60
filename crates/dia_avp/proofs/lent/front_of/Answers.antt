use Rattle.std.proofs.Common.{◌≡◌, ◌∙◌, sym, ap, ℕ, List}
use Rattle.std.specs.Prelude.{slice_range}
use Rattle.dia_avp.specs.AvpList.{flags_in, length_in, header_len}
use Rattle.dia_avp.proofs.lent.front_of.Goals as goal

pub returns-clause-found : goal.returns-clause-found
returns-clause-found c =
    let octets : List ℕ = c.args.octets.now in
    let head = c.in_ok-head.ensures.found in
    record {
      header = head.header;
      least = rw (← head.padding, ← head.value) head.ordered;
      within = rw (← head.padding) head.within;
      code = head.code;
      flags = head.flags;
      vendor = head.vendor;
      value = ap (λ (from : ℕ). slice_range octets from c.in_ok-head.head.padding) head.value
          ∙ ap (slice_range octets (header_len c.in_ok-head.head.flags)) head.padding;
      behind = c.split_at.ensures.back ∙ head.behind;
    }
