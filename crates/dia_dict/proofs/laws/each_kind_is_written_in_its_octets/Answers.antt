use Rattle.std.proofs.Common.{refl}
use Rattle.std.specs.Str.{is_utf8, chars}
use lib.Utf8.{encode}
use Rattle.dia_dict.proofs.laws.each_kind_is_written_in_its_octets.Goals as goal

pub returns-clause-text : goal.returns-clause-text
unfolding is_utf8 chars encode
returns-clause-text c = refl
