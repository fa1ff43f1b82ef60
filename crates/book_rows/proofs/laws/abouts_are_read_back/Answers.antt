use Rattle.book_rows.specs.About.{about}
use Rattle.book_rows.proofs.AboutExact.{about_exact, whole_again}
use Rattle.book_rows.proofs.laws.abouts_are_read_back.Goals as goal

pub returns : goal.returns
returns c = whole_again about about_exact
