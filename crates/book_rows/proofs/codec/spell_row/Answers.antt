use Rattle.book_rows.proofs.RowWritten.{row_fits, row_spelled}
use Rattle.book_rows.proofs.codec.spell_row.Goals as goal

pub returns-clause-octets : goal.returns-clause-octets
returns-clause-octets c = row_spelled c.args.row.now _ _ _ c.in_ok-out.ensures.items c.in_ok-push_body.ensures c.in_ok-push_u128.ensures

pub returns-clause-is_row : goal.returns-clause-is_row
returns-clause-is_row c = row_fits c.args.row.now _ _ _ c.in_ok-push_body.ensures c.in_ok-push_u128.ensures
