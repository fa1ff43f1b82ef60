use Rattle.std.proofs.Common.{◌≡◌, ◌≤◌, false, length, take}
use Rattle.std.specs.List.{list_any}
use Rattle.book_terms.specs.Difference.{has_other_opening, joining_of}
use Rattle.book_terms.proofs.differences.joining_of.Given as goal

-- those that join so far, none with another opening, and the next account is looked for from a place that there is
abbrev pub invariant-loop-place : goal.invariant-loop-place
invariant-loop-place l =
    (l.joining.items ≡ joining_of l.there (take l.place l.wanted)) × (list_any (has_other_opening l.there) (take l.place l.wanted) ≡ false) × (l.next ≤ length l.there)
