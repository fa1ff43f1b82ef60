use Rattle.cc_book.proofs.Keys.{kept_reply-first}
use Rattle.cc_book.proofs.laws.kept_reply_is_the_first.Goals as goal

pub returns : goal.returns
returns c = λ terms before after moment request legal. kept_reply-first terms before after moment request legal
