use Rattle.std.proofs.Common.{◌≡◌, ◌≤◌, take}
use Rattle.std.specs.Prelude.{count_by}
use Rattle.book_lines.specs.Summary.{is_change, is_charge, is_sweep}
use Rattle.book_lines.proofs.counts.counts_in.Given as goal

-- those of each kind so far, and no more than there are entries
abbrev pub invariant-loop-entry : goal.invariant-loop-entry
invariant-loop-entry l =
    (l.counts.charges ≡ count_by is_charge (take l.entry-index l.history)) × (l.counts.sweeps ≡ count_by is_sweep (take l.entry-index l.history))
    × (l.counts.changes ≡ count_by is_change (take l.entry-index l.history))
    × (l.counts.charges ≤ l.entry-index) × (l.counts.sweeps ≤ l.entry-index) × (l.counts.changes ≤ l.entry-index)
