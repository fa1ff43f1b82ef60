use Rattle.std.proofs.Common.{subst, sym}
use Rattle.std.specs.Prelude.{All}
use Rattle.crossbeam_queue.specs.Passes.{view}
use Rattle.front_pool.specs.Answering.{IsAskedOf}
use Rattle.front_pool.specs.Working.{Turns}
use Rattle.front_pool.proofs.Serving.{asks_all, if_ok}
use Rattle.front_pool.proofs.worker.Worker.ask_all.Goals as goal

pub returns-clause-ok : goal.returns-clause-ok
returns-clause-ok g c =
    let site = g.L.Pooling.site in let w = c.self.inside in
    let old : Turns = record { front = w.desk.front; taken = (view w.job_pass).taken; finished = (view w.finished_pass).put; counted = w.seat } in
    let asks = subst (λ (t : Turns). All (IsAskedOf (site t.front)) c.args.asked.items) (sym c.self.view_is) c.requires in
    rw (← c.self.view_is) (if_ok c.serve_all.result c.serve_all.ensures.served
    (λ served all. asks_all (site old.front) g.L.Sharing.shared c.args.asked.items served.items old c.serve_all.new.seat all asks))
