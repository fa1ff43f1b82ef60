use Rattle.relay_core.proofs.Descending.{same_end, same_view, same_answer, same_refusal}
use Rattle.relay_core.proofs.laws.descendants_read_alike.Goals as goal

pub returns-clause-end : goal.returns-clause-end
returns-clause-end c = same_end

pub returns-clause-view : goal.returns-clause-view
returns-clause-view c = same_view c.one_avp_more.ensures.avp c.profiles_read_no_more.ensures.identifiers c.profiles_read_no_more.ensures.forwarded

pub returns-clause-answer : goal.returns-clause-answer
returns-clause-answer c = same_answer c.one_avp_more.ensures.avp c.forwarded_requests.ensures.answer

pub returns-clause-refusal : goal.returns-clause-refusal
returns-clause-refusal c = same_refusal c.one_avp_more.ensures.avp c.forwarded_requests.ensures.refusal
