use Rattle.std.proofs.Common.{◌≡◌, [], take, drop}
use Rattle.cc_book.specs.TermsChange.{closing_fault, first_fault}
use Rattle.cc_book.proofs.terms.Terms.closing_fault.Given as goal

abbrev pub invariant-loop-place : goal.invariant-loop-place
invariant-loop-place l =
    first_fault (closing_fault l.self) [] l.closing ≡ first_fault (closing_fault l.self) (take l.place l.closing) (drop l.place l.closing)
