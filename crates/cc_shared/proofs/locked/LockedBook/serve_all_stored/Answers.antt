use Rattle.cc_shared.specs.Serving.{ServesAll, in_order}
use Rattle.cc_shared.proofs.Telling.{if_told}
use Rattle.cc_shared.proofs.locked.LockedBook.serve_all_stored.Goals as goal

pub returns : goal.returns
returns g c = if_told c.settle.result c.ask_all-answers.result.told (λ served. ServesAll g.L.Sharing.shared c.args.seat.now c.args.asked.items served.items c.ask_all-answers.new.seat) c.settle.ensures (in_order _ _ c.ask_all-answers.ensures.served)
