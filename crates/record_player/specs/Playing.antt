-- What a player has played.
use Rattle.farm_player.specs.Reconciling.{Reconciling}
use Rattle.record_player.specs.declared.player.Player.{Player}

abbrev pub run_of : Player → Reconciling
run_of player = player.links.played
