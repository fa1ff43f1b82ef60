use Rattle.dia_avp.proofs.ReadBack.{IsSpelling-written_list}
use Rattle.dia_avp.proofs.laws.written_list_is_read.Goals as goal

pub returns : goal.returns
returns c = IsSpelling-written_list
