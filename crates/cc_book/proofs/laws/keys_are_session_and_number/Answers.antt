use Rattle.cc_book.proofs.Keys.{key-same}
use Rattle.cc_book.proofs.laws.keys_are_session_and_number.Goals as goal

pub returns : goal.returns
returns c = key-same
