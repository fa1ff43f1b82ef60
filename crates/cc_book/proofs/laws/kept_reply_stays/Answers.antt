use Rattle.cc_book.proofs.Keys.{kept_reply-stays}
use Rattle.cc_book.proofs.laws.kept_reply_stays.Goals as goal

pub returns : goal.returns
returns c = λ terms history more request reply e. kept_reply-stays terms history more request reply e
