use Rattle.std.proofs.Common.{[]}
use Rattle.dia_avp.proofs.Padding.{All-HasSpelling-read}
use Rattle.dia_avp.proofs.laws.read_is_writable.Goals as goal

pub returns : goal.returns
returns c = λ octets avps all spells. All-HasSpelling-read octets avps [] all spells
