use Rattle.cc_book.proofs.Paying.{fits}
use Rattle.cc_book.proofs.laws.replies_fit.Goals as goal

pub returns : goal.returns
returns c = fits
