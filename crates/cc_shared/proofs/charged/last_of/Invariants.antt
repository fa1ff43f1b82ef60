use Rattle.std.proofs.Common.{◌≡◌, ◌++◌, length}
use Rattle.std.specs.Prelude.{filter_map}
use Rattle.std.specs.Vec.Iter.{into_iter_items, into_iter_len}
use Rattle.cc_book.specs.Charging.{charges_of, latest}
use Rattle.cc_shared.specs.Looking.{shown_at}
use Rattle.cc_shared.proofs.charged.last_of.Given as goal

abbrev pub invariant-loop-place : goal.invariant-loop-place
invariant-loop-place l = record {
  can : goal.iterator-loop-place.can_next l.place-iterator;
  finite : goal.iterator-loop-place.is_finite l.place-iterator;
  so_far : filter_map (shown_at l.book.terms l.book.history) (latest l.account (charges_of l.book.terms l.book.history) (length (charges_of l.book.terms l.book.history)) 10)
      ≡ l.last.items ++ filter_map (shown_at l.book.terms l.book.history) (into_iter_items l.place-iterator);
  count : length (into_iter_items l.place-iterator) ≡ into_iter_len l.place-iterator;
}
