use Rattle.book_rows.specs.About.{standing}
use Rattle.book_rows.proofs.AboutExact.{standing_exact, whole_again}
use Rattle.book_rows.proofs.laws.standings_are_read_back.Goals as goal

pub returns : goal.returns
returns c = whole_again standing standing_exact
