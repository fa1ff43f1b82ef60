use Rattle.std.proofs.Common.{◌≡◌, ◌∙◌, ◌%◌, false, ap, arith, rules}
use Rattle.relay_hops.specs.PendingTable.{is_full}
use Rattle.relay_hops.proofs.Numbers.{places-power}
use Rattle.relay_hops.proofs.Slab.{IsMap-indexed}
use Rattle.relay_hops.proofs.Going.{vacant_free, few}
use Rattle.relay_hops.proofs.pending.Pending.add.Goals as goal

pub returns-then-is_full-clause-map : goal.returns-then-is_full-clause-map
returns-then-is_full-clause-map c = rw (← c.self.view_is) (IsMap-indexed c.self.inside.places.slab.slots c.self.inside.places.index.keys.items c.self.invariant.in_place)

pub first_free-hop-requires-clause-power : goal.first_free-hop-requires-clause-power
first_free-hop-requires-clause-power c = ap (λ n. 2147483648 % n) c.self.invariant.size ∙ places-power c.self.inside.limit

pub put-requires-clause-room : goal.put-requires-clause-room
put-requires-clause-room c =
    let room : is_full c.args.self.now ≡ false = search rules in
    omega (arith, few c.self.inside.places c.self.inside.limit c.self.inside.next c.args.self.now c.self.view_is room, c.self.invariant.capacity)

pub invariant_of-self : goal.invariant_of-self
invariant_of-self c = let room : is_full c.args.self.now ≡ false = search rules in record {
  within = omega (arith, few c.self.inside.places c.self.inside.limit c.self.inside.next c.args.self.now c.self.view_is room, c.put.ensures.count);
  capacity = omega (arith, c.self.invariant.capacity, c.put.ensures.capacity);
  size = c.put.ensures.size ∙ c.self.invariant.size;
  room = c.self.invariant.room;
  numbered = c.first_free-hop.ensures.numbered;
  in_place = c.put.ensures.indexed;
}

pub returns-clause-free : goal.returns-clause-free
returns-clause-free c = rw (← c.self.view_is) (vacant_free c.self.inside.places c.args.conn c.first_free-hop.result.hop c.self.invariant.in_place c.first_free-hop.ensures.vacant)

pub returns-clause-map : goal.returns-clause-map
returns-clause-map c = IsMap-indexed c.put.new.self.slab.slots c.put.new.self.index.keys.items c.put.ensures.indexed
