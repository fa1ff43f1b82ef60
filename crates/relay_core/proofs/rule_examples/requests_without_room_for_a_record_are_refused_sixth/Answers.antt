use Rattle.relay_core.proofs.Lengths.{longest, too_long, sixth}
use Rattle.relay_core.proofs.rule_examples.requests_without_room_for_a_record_are_refused_sixth.Goals as goal

pub returns-clause-longest : goal.returns-clause-longest
returns-clause-longest c = longest

pub returns-clause-too_long : goal.returns-clause-too_long
returns-clause-too_long c = too_long

pub returns-clause-sixth : goal.returns-clause-sixth
returns-clause-sixth c = sixth
