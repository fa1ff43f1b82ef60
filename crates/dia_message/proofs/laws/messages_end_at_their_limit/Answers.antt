use Rattle.dia_message.proofs.Longest.{longest-back, longer-fault}
use Rattle.dia_message.proofs.laws.messages_end_at_their_limit.Goals as goal

pub returns-clause-longest : goal.returns-clause-longest
returns-clause-longest c = longest-back

pub returns-clause-too_long : goal.returns-clause-too_long
returns-clause-too_long c = longer-fault
