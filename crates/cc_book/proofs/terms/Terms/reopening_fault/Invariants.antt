use Rattle.std.proofs.Common.{◌≡◌, [], take, drop}
use Rattle.cc_book.specs.TermsChange.{reopening_fault, first_fault}
use Rattle.cc_book.proofs.terms.Terms.reopening_fault.Given as goal

abbrev pub invariant-loop-place : goal.invariant-loop-place
invariant-loop-place l =
    first_fault (reopening_fault l.self) [] l.reopening ≡ first_fault (reopening_fault l.self) (take l.place l.reopening) (drop l.place l.reopening)
