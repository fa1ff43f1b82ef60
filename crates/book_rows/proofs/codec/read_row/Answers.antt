use Rattle.std.proofs.Common.{ap, arith, subst, ◌∙◌}
use Rattle.book_rows.specs.Form.{Gives}
use Rattle.book_rows.specs.Row.{row_of}
use Rattle.book_rows.proofs.RowExact.{is_found, row_again}
use Rattle.book_rows.proofs.codec.read_row.Goals as goal

pub returns-clause-found : goal.returns-clause-found
returns-clause-found c = is_found c.args.octets.now c.whole_row.result (λ i. omega (arith, c.type_inv.octets i)) c.whole_row.ensures

pub returns-clause-only : goal.returns-clause-only
returns-clause-only c = λ r fits e. subst (λ read. Gives (λ row. row) c.whole_row.result read) (ap row_of e ∙ row_again r fits) c.whole_row.ensures
