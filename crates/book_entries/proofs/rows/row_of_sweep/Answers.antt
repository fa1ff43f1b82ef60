use Rattle.book_entries.proofs.Pushed.{sweep_row}
use Rattle.book_entries.proofs.rows.row_of_sweep.Goals as goal

pub returns : goal.returns
returns c = record { rows = sweep_row c.chained_row.result c.args.before.0 c.args.place c.args.moment c.chained_row.ensures.parts c.chained_row.ensures.chains }
