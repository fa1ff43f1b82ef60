use Rattle.cc_view.proofs.Forwarding.{answer-forwarded, refusal-forwarded, refusal_by_code-forwarded, view-forwarded}
use Rattle.cc_view.proofs.laws.forwarded_requests.Goals as goal

pub returns : goal.returns
returns c = record { view = view-forwarded; by_code = refusal_by_code-forwarded; answer = answer-forwarded; refusal = refusal-forwarded }
