use Rattle.cc_view.proofs.Counting.{counted-untouched}
use Rattle.cc_view.proofs.Whole.{viewed-whole}
use Rattle.cc_view.proofs.laws.accepted_requests_are_whole.Goals as goal

pub returns-clause-whole : goal.returns-clause-whole
returns-clause-whole c = viewed-whole

pub returns-clause-others : goal.returns-clause-others
returns-clause-others c = counted-untouched
