use Rattle.dia_grammar.proofs.Requests.{request-from_none, none-from_request}
use Rattle.dia_grammar.proofs.laws.faultless_avps_are_a_request.Goals as goal

pub returns : goal.returns
returns c = λ profile avps. (request-from_none profile avps, none-from_request profile avps)
