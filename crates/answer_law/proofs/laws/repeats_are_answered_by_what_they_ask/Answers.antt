use Rattle.answer_law.proofs.Repeats.{repeat-answered, another_content-answered}
use Rattle.answer_law.proofs.laws.repeats_are_answered_by_what_they_ask.Goals as goal

pub returns-clause-repeat : goal.returns-clause-repeat
returns-clause-repeat c = repeat-answered

pub returns-clause-another_content : goal.returns-clause-another_content
returns-clause-another_content c = another_content-answered
