use Rattle.std.proofs.Common.{◌≡◌, length}
use Rattle.cc_view.specs.RequestView.Content.{have_names_of_their_own}
use Rattle.book_rows.proofs.limits.have_names_of_their_own.Given as goal

abbrev pub invariant-loop-rest : goal.invariant-loop-rest
invariant-loop-rest l = have_names_of_their_own l.rest ≡ have_names_of_their_own l.services

abbrev pub decreases-loop-rest : goal.decreases-loop-rest
decreases-loop-rest l = length l.rest
