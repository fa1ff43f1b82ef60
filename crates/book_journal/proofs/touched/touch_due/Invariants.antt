use Rattle.std.proofs.Common.{◌≡◌, ◌≤◌, take}
use Rattle.std.specs.Prelude.{count_by}
use Rattle.cc_book.specs.Standing.{is_due, sessions_in}
use Rattle.book_journal.specs.Tables.{Grows}
use Rattle.book_journal.proofs.Touching.{CoversBefore}
use Rattle.book_journal.proofs.touched.touch_due.Given as goal

abbrev pub invariant-loop-place : goal.invariant-loop-place
invariant-loop-place l = record {
  grows : Grows l.fn.places.items l.places.items;
  there : CoversBefore l.places.items l.book.terms.validity l.moment (sessions_in l.book.terms l.book.history) l.place;
  count : l.ended ≡ count_by (is_due l.book.terms.validity l.moment) (take l.place (sessions_in l.book.terms l.book.history));
  below : l.ended ≤ l.place;
}
