use Rattle.dia_avp.proofs.Appending.{IsSpelling-with_avp, IsSpelling-with_padding}
use Rattle.dia_avp.proofs.Answering.{split_of-with_avp}
use Rattle.dia_avp.proofs.laws.one_avp_more.Goals as goal

pub returns-clause-padding : goal.returns-clause-padding
returns-clause-padding c = IsSpelling-with_padding

pub returns-clause-avp : goal.returns-clause-avp
returns-clause-avp c = IsSpelling-with_avp

pub returns-clause-read : goal.returns-clause-read
returns-clause-read c = split_of-with_avp
