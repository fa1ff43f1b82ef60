use Rattle.std.proofs.Common.{◌≡◌, ◌+◌, length, sum}
use Rattle.std.specs.Vec.Iter.{into_iter_items}
use Rattle.cc_shared.proofs.kept.count_of.Given as goal

abbrev pub invariant-loop-seat : goal.invariant-loop-seat
invariant-loop-seat g l =
    (goal.iterator-loop-seat g).can_next l.seat-iterator
    × (goal.iterator-loop-seat g).is_finite l.seat-iterator
    × (l.takes + sum (into_iter_items l.seat-iterator) ≡ sum l.fn.seats.items)
    × (l.all.parts + length (into_iter_items l.seat-iterator) ≡ length l.fn.seats.items)
    × (l.all.amount ≡ l.takes)
    × (l.counted.total ≡ l.initial.counted.total)
