use Rattle.std.proofs.Common.{◌≡◌, ◌++◌}
use Rattle.relay_hops.specs.PendingTable.{hops_on}
use Rattle.relay_hops.specs.PlaceTable.{rows_of}
use Rattle.relay_hops.proofs.Orphans.{rows_in}
use Rattle.relay_hops.proofs.places.Places.listed_on.Given as goal

-- those found so far, and those among the entries that are left
abbrev pub invariant-loop-row : goal.invariant-loop-row
invariant-loop-row l =
    (goal.iterator-loop-row).can_next l.row-iterator ×
    (goal.iterator-loop-row).is_finite l.row-iterator ×
    (l.hops.items ++ hops_on (rows_in l.row-iterator) l.conn ≡ hops_on (rows_of l.self) l.conn)
