use Rattle.std.proofs.Common.{take}
use Rattle.cc_book.specs.Owners.{Finds}
use Rattle.cc_book.proofs.accounts.firsts_of.Given as goal

abbrev pub invariant-loop-place : goal.invariant-loop-place
invariant-loop-place l = Finds (take l.place l.accounts) l.firsts
