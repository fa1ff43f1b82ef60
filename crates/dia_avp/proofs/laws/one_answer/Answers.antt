use Rattle.dia_avp.proofs.Answering.{IsAnswer-answers, Answers-is_answer}
use Rattle.dia_avp.proofs.laws.one_answer.Goals as goal

pub returns : goal.returns
returns c = λ octets r. (IsAnswer-answers octets r, Answers-is_answer octets r)
