use Rattle.std.proofs.lemmas.Int.{to_z-of_z}
use Rattle.farm_player.specs.ChangeWords.{amount_word}
use Rattle.farm_player.proofs.change.amount_text.Goals as goal

pub returns : goal.returns
unfolding amount_word
returns c = simp (to_z-of_z, c.ranges.amount) at c.format.ensures.ok
