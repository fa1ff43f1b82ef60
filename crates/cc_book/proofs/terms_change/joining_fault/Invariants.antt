use Rattle.std.proofs.Common.{◌≡◌, [], take, drop}
use Rattle.cc_book.specs.TermsChange.{joining_fault}
use Rattle.cc_book.proofs.terms_change.joining_fault.Given as goal

abbrev pub invariant-loop-place : goal.invariant-loop-place
invariant-loop-place l = joining_fault l.accounts [] l.joining ≡ joining_fault l.accounts (take l.place l.joining) (drop l.place l.joining)
