use Rattle.dia_message.proofs.Same.{message_eq-Decides}
use Rattle.farm_player.proofs.awaited.is_same.Goals as goal

pub returns : goal.returns
returns c = message_eq-Decides _ _ _ c.eq.ensures
