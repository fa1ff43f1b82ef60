use Rattle.status_law.proofs.Strangers.{may_only_read}
use Rattle.status_law.proofs.laws.who_has_no_token_may_only_read.Goals as goal

pub returns : goal.returns
returns c = may_only_read
