use Rattle.std.proofs.Common.{◌≡◌, ◌-◌, ◌≤◌, ◌++◌, length}
use Rattle.cc_book.specs.Charging.{latest}
use Rattle.cc_book.proofs.charges.last_charges.Given as goal

abbrev pub invariant-loop-place : goal.invariant-loop-place
invariant-loop-place l = record {
  few : length l.places.items ≤ l.most;
  found : latest l.account l.charges (length l.charges) l.most ≡ l.places.items ++ latest l.account l.charges l.place (l.most - length l.places.items);
}
