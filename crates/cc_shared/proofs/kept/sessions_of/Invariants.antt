use Rattle.std.proofs.Common.{◌≡◌, ◌≤◌, take}
use Rattle.std.specs.Prelude.{count_by}
use Rattle.cc_book.specs.Standing.{sessions_in}
use Rattle.cc_shared.specs.Looking.{charges}
use Rattle.cc_shared.proofs.kept.sessions_of.Given as goal

abbrev pub invariant-loop-place : goal.invariant-loop-place
invariant-loop-place l = record {
  counted : l.count ≡ count_by (charges l.account) (take l.place (sessions_in l.book.terms l.book.history));
  few : l.count ≤ l.place;
}
