use Rattle.relay_core.proofs.Lengths.{fifth}
use Rattle.relay_core.proofs.rule_examples.requests_for_the_relay_itself_are_refused_fifth.Goals as goal

pub returns-clause-fifth : goal.returns-clause-fifth
returns-clause-fifth c = fifth
