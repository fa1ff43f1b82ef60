use Rattle.std.proofs.Common.{◌≡◌, ◌≤◌, ◌+◌, length, vec_len, vec_capacity}
use Rattle.std.specs.Vec.Iter.{into_iter_items, into_iter_len}
use Rattle.cc_shared.proofs.Each.{Continues}
use Rattle.cc_shared.proofs.open.OpenBook.serve_each.Given as goal

abbrev pub invariant-loop-next : goal.invariant-loop-next
invariant-loop-next g l = record {
  can : (goal.iterator-loop-next g).can_next l.next-iterator;
  finite : (goal.iterator-loop-next g).is_finite l.next-iterator;
  so_far : Continues g.L.Sharing.shared l.fn.seat l.fn.self l.fn.asked.items l.seat l.self (into_iter_items l.next-iterator) l.served.items;
  count : length (into_iter_items l.next-iterator) ≡ into_iter_len l.next-iterator;
  room : vec_len l.served + length (into_iter_items l.next-iterator) ≤ vec_capacity l.served;
}
