use Rattle.std.proofs.Common.{◌≡◌, ap, arith}
use Rattle.std.specs.List.{count_by}
use Rattle.std.proofs.lemmas.Nat.{mod_below}
use Rattle.slab.specs.Slab.{slab_len}
use Rattle.relay_hops.proofs.Numbers.{places-room}
use Rattle.relay_hops.proofs.pending.Pending.starting_at.Goals as goal

pub invariant_of-result : goal.invariant_of-result
invariant_of-result c =
    let none : slab_len c.in_ok-new.field-0.slab ≡ 0 = ap (count_by _) c.in_ok-new.ensures.empty in
    record {
      within = omega (arith, none);
      capacity = c.in_ok-new.ensures.capacity;
      size = c.in_ok-new.ensures.size;
      room = places-room c.args.limit (omega (arith, c.if-limit-gt-LIMIT_MAX.false));
      numbered = mod_below c.args.start 2147483648 (omega arith);
      in_place = c.in_ok-new.ensures.indexed;
    }
