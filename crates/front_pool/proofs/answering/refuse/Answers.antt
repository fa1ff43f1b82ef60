use Rattle.std.proofs.Common.{◌≡◌, subst}
use Rattle.std.specs.Prelude.{IfSome}
use Rattle.dia_message.specs.declared.message.Message.{Message}
use Rattle.front_pool.specs.Answering.{too_busy}
use Rattle.front_pool.proofs.Serving.{busy_answered}
use Rattle.front_pool.proofs.answering.refuse.Goals as goal

pub returns-clause-answered : goal.returns-clause-answered
returns-clause-answered g c =
    let site = c.args.site.now in
    let busy = subst (λ (m : Message). IfSome c.too_busy-busy.result (λ written. written ≡ too_busy site m)) c.request.ensures c.too_busy-busy.ensures in
    busy_answered g.L.Pooling.site g.L.Sharing.shared c.args.front site c.args.job _ _ _ c.requires.site busy c.finish.ensures
