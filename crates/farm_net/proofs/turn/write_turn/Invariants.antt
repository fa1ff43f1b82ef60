use Rattle.farm_net.specs.Turn.{HasWritten}
use Rattle.farm_net.proofs.turn.write_turn.Given as goal

abbrev pub invariant-loop : goal.invariant-loop
invariant-loop g l = HasWritten (g.W.Write.contents l.initial.writer) (g.W.Write.contents l.writer) l.initial.outbox.items l.outbox.items
