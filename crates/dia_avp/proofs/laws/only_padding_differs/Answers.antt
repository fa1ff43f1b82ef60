use Rattle.dia_avp.proofs.AnyPadding.{BeginsWith-padded}
use Rattle.dia_avp.proofs.Padding.{HasPadding-read}
use Rattle.dia_avp.proofs.laws.only_padding_differs.Goals as goal

pub returns : goal.returns
returns c = record { read = HasPadding-read; any = BeginsWith-padded }
