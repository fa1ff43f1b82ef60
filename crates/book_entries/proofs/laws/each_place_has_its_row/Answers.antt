use Rattle.book_entries.proofs.Placed.{as_many, has_row_at}
use Rattle.book_entries.proofs.laws.each_place_has_its_row.Goals as goal

pub returns-clause-each : goal.returns-clause-each
returns-clause-each c = has_row_at

pub returns-clause-count : goal.returns-clause-count
returns-clause-count c = as_many
