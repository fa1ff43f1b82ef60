use Rattle.farm_player.proofs.Reconciling.{due_next}
use Rattle.farm_player.proofs.reconciled.Reconciled.due.Goals as goal

pub returns-then-is_next : goal.returns-then-is_next
returns-then-is_next c =
    rw (← c.self.view_is) (due_next _ c.args.step.now (c.in-Some.passed, c.in-Some.message.now) c.in-Some.ensures.some (c.is_next.ensures c.if-is_next.true))
