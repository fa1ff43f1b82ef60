use Rattle.std.proofs.Common.{◌≡◌, Ok, Result, subst}
use Rattle.std.specs.Prelude.{IfOk, IfSome}
use Rattle.dia_message.specs.declared.message.Message.{Message}
use Rattle.cc_view.specs.Answer.{answer_to}
use Rattle.cc_view.specs.RequestView.{view_under}
use Rattle.cc_shared.specs.declared.error.ServeError.{ServeError}
use Rattle.cc_shared.specs.declared.receipt.Receipt.{Receipt}
use Rattle.cc_shared.specs.Receipts.{IsReceiptOf}
use Rattle.front_pool.specs.Answering.{too_busy}
use Rattle.front_pool.proofs.Serving.{busy_answered, served_answered}
use Rattle.front_pool.proofs.answering.spell.Goals as goal

pub returns-in-Ok-clause-answered : goal.returns-in-Ok-clause-answered
returns-in-Ok-clause-answered g c =
    let sites = g.L.Pooling.site in let shared = g.L.Sharing.shared in let job = c.args.served.job in
    let at =
    subst (λ (r : Result Receipt ServeError). IfOk r (λ receipt. (view_under (sites c.args.front).profile job.request ≡ Ok receipt.request) × IsReceiptOf shared receipt))
    c.in-Ok.is c.requires.served in
    let site = c.args.site.now in let receipt = c.in-Ok.receipt in
    let written =
    subst (λ (m : Message). IfSome c.answer-written.result (λ answer. answer ≡ answer_to site.name site.realm m receipt.request receipt.reply))
    c.request.ensures c.answer-written.ensures in
    served_answered sites shared c.args.front site job receipt _ _ _ c.requires.site at written c.finish.ensures

pub returns-clause-answered : goal.returns-clause-answered
returns-clause-answered g c =
    let site = c.args.site.now in
    let busy = subst (λ (m : Message). IfSome c.too_busy-busy.result (λ written. written ≡ too_busy site m)) c.request-in-Err.ensures c.too_busy-busy.ensures in
    busy_answered g.L.Pooling.site g.L.Sharing.shared c.args.front site c.args.served.job _ _ _ c.requires.site busy c.finish-in-Err.ensures
