use Rattle.std.proofs.Common.{take}
use Rattle.cc_book.specs.Duplicate.{key_of}
use Rattle.cc_book.specs.History.{IsNew}
use Rattle.cc_list.proofs.key.kept.Given as goal

abbrev pub invariant-loop-place : goal.invariant-loop-place
invariant-loop-place l = IsNew (take l.place l.history) (key_of l.request)
