use Rattle.dia_avp.proofs.Answering.{IsSpelling-one}
use Rattle.dia_avp.proofs.laws.one_list.Goals as goal

pub returns : goal.returns
returns c = IsSpelling-one
