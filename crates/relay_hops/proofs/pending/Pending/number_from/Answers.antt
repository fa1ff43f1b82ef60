use Rattle.std.proofs.Common.{arith}
use Rattle.std.proofs.lemmas.Nat.{mod_below}
use Rattle.relay_hops.proofs.pending.Pending.number_from.Goals as goal

pub invariant_of-self : goal.invariant_of-self
invariant_of-self c = record {
  within = c.self.invariant.within;
  capacity = c.self.invariant.capacity;
  size = c.self.invariant.size;
  room = c.self.invariant.room;
  numbered = mod_below c.args.start 2147483648 (omega arith);
  in_place = c.self.invariant.in_place;
}
