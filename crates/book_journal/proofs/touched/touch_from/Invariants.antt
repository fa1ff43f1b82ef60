use Rattle.book_journal.specs.Tables.{CoversFrom, Grows}
use Rattle.book_journal.proofs.touched.touch_from.Given as goal

abbrev pub invariant-loop-place : goal.invariant-loop-place
invariant-loop-place l = record {
  grows : Grows l.fn.places.items l.places.items;
  there : CoversFrom l.places.items l.from l.place;
}
