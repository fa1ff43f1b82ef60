use Rattle.std.proofs.lemmas.Int.{to_z-of_z}
use Rattle.farm_report.proofs.account_line.Goals as goal

pub returns : goal.returns
returns c =
    rw (← c.as_slice.ensures, ← c.in_ok-id.ensures)
    (simp (to_z-of_z, c.ranges.balance, c.ranges.reserved) at c.format.ensures.ok)
