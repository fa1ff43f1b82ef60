use Rattle.cc_book.proofs.Keys.{kept_reply-new, new-without_reply}
use Rattle.cc_book.proofs.laws.new_keys_have_no_reply.Goals as goal

pub returns : goal.returns
returns c = λ terms history request. (new-without_reply terms history request, kept_reply-new terms history request)
