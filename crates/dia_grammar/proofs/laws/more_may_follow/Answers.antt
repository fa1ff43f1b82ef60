use Rattle.dia_grammar.proofs.Following.{fault-follows}
use Rattle.dia_grammar.proofs.laws.more_may_follow.Goals as goal

pub returns : goal.returns
returns c = fault-follows
