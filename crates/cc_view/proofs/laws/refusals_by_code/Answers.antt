use Rattle.cc_view.proofs.RefusalsByCode.{refusal_by_code-body, refusal_by_code-view}
use Rattle.cc_view.proofs.laws.refusals_by_code.Goals as goal

pub returns-clause-view : goal.returns-clause-view
returns-clause-view c = refusal_by_code-view

pub returns-clause-body : goal.returns-clause-body
returns-clause-body c = refusal_by_code-body
