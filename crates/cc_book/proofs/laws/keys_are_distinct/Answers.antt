use Rattle.cc_book.proofs.Keys.{keys-apart}
use Rattle.cc_book.proofs.laws.keys_are_distinct.Goals as goal

pub returns : goal.returns
returns c = λ terms before between after m n one other legal. keys-apart terms before between after m n one other legal
