use Rattle.std.proofs.Common.{◌≡◌, arith, rules, get_or}
use Rattle.std.proofs.lemmas.List.Edits.{map_over_more}
use Rattle.farm_metrics.specs.Counting.{row_after}
use Rattle.farm_metrics.specs.declared.times.TimeRow.{TimeRow}
use Rattle.farm_metrics.proofs.times.count_in.Goals as goal

pub loop-row-preserved : goal.loop-row-preserved
loop-row-preserved c =
    let item : TimeRow = get_or c.loop-row.rows c.loop-row.row-index (record { bound = 0; count = 0 }) in
    let is : item ≡ get_or c.loop-row.rows c.loop-row.row-index item = search rules in
    rw c.add.ensures (map_over_more (row_after c.args.micros) c.args.rows.now c.loop-row.rows c.loop-row.row-index item (omega arith) c.loop-row.invariant is)
