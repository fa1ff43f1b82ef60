use Rattle.book_rows.proofs.Endings.{moment_of_row, sum_of_row}
use Rattle.book_rows.proofs.laws.standings_are_of_the_last.Goals as goal

pub returns-clause-moment : goal.returns-clause-moment
returns-clause-moment c = moment_of_row

pub returns-clause-sum : goal.returns-clause-sum
returns-clause-sum c = sum_of_row
