use Rattle.cc_book.proofs.Granting.{free-left, free-not_below, grants-free}
use Rattle.cc_book.proofs.laws.grants_are_of_what_is_free.Goals as goal

pub returns : goal.returns
returns c = record { most = grants-free; left = free-left; not_below = free-not_below }
