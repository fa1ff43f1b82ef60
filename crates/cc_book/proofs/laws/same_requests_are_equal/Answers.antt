use Rattle.cc_book.proofs.SameRequests.{same_request-decides}
use Rattle.cc_book.proofs.laws.same_requests_are_equal.Goals as goal

pub returns : goal.returns
returns c = same_request-decides
