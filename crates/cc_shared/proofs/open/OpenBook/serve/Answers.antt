use Rattle.std.proofs.Common.{refl, ◌∙◌}
use Rattle.cc_shared.specs.declared.receipt.Receipt.{Receipt}
use Rattle.cc_shared.proofs.Each.{served_behind}
use Rattle.cc_shared.proofs.open.OpenBook.serve.Goals as goal

pub returns-in-Ok-clause-served : goal.returns-in-Ok-clause-served
returns-in-Ok-clause-served g c =
    let answered = c.in-Ok.answered in
    let receipt : Receipt = record { request = c.args.request; reply = answered.reply; place = answered.place; fresh = answered.fresh; seen = c.seen.result } in (
      refl,
      served_behind g.L.Sharing.shared c.args.seat.now c.args.moment c.args.self.now c.take.new.self receipt c.seen.ensures.book
          (c.seen.ensures.log ∙ c.history.ensures.log) c.history.ensures.legal c.in-Ok.ensures.answer c.in-Ok.ensures.after c.take.ensures.place,
    )
