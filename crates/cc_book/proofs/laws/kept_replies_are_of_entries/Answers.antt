use Rattle.cc_book.proofs.Keys.{kept_reply-of}
use Rattle.cc_book.proofs.laws.kept_replies_are_of_entries.Goals as goal

pub returns : goal.returns
returns c = kept_reply-of
