use Rattle.std.proofs.Common.{◌≡◌, ◌≤◌, ◌+◌, ◌++◌, length, vec_len, vec_capacity}
use Rattle.std.specs.Prelude.{map}
use Rattle.std.specs.Vec.Iter.{into_iter_items, into_iter_len}
use Rattle.cc_shared.specs.Serving.{refused_closed}
use Rattle.cc_shared.proofs.locked.refuse_each.Given as goal

abbrev pub invariant-loop-next : goal.invariant-loop-next
invariant-loop-next g l = record {
  can : (goal.iterator-loop-next g).can_next l.next-iterator;
  finite : (goal.iterator-loop-next g).is_finite l.next-iterator;
  so_far : l.served.items ++ map refused_closed (into_iter_items l.next-iterator) ≡ map refused_closed l.fn.asked.items;
  count : length (into_iter_items l.next-iterator) ≡ into_iter_len l.next-iterator;
  room : vec_len l.served + length (into_iter_items l.next-iterator) ≤ vec_capacity l.served;
}
