use Rattle.std.proofs.Common.{take}
use Rattle.cc_book.specs.Owners.{Knows}
use Rattle.cc_book.proofs.subscriptions.known_of.Given as goal

abbrev pub invariant-loop-id : goal.invariant-loop-id
invariant-loop-id l = Knows (take l.id-index l.ids) l.known
