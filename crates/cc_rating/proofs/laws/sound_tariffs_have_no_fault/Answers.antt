use Rattle.cc_rating.proofs.Sharing.{tariffs-from_none, none-from_tariffs}
use Rattle.cc_rating.proofs.laws.sound_tariffs_have_no_fault.Goals as goal

pub returns : goal.returns
returns c = λ tariffs. (tariffs-from_none tariffs, none-from_tariffs tariffs)
