use Rattle.std.proofs.Common.{◌≡◌, ◌∙◌, ◌∷◌, [], rules}
use Rattle.cc_shared.specs.Serving.{count_after}
use Rattle.crossbeam_queue.specs.Passes.{view}
use Rattle.front_pool.specs.Jobs.{job_of}
use Rattle.front_pool.specs.Working.{Turns, with_jobs_finished}
use Rattle.front_pool.proofs.Serving.{works_asked}
use Rattle.front_pool.proofs.worker.Worker.serve.Goals as goal

pub returns-in-Asks : goal.returns-in-Asks
returns-in-Asks g c =
    let sites = g.L.Pooling.site in let shared = g.L.Sharing.shared in let w = c.self.inside in let done = c.spell-done.result in
    let old : Turns = record { front = w.desk.front; taken = (view w.job_pass).taken; finished = (view w.finished_pass).put; counted = w.seat } in
    let mid : Turns = record old { counted = c.serve-result.new.seat } in
    let counted : mid ≡ record old { counted = count_after old.counted c.serve-result.result } = search rules in
    let same : c.in-Asks.asked.job ≡ c.args.job = search rules in
    let job : job_of done ≡ c.args.job = c.spell-done.ensures.job ∙ same in
    let is : c.finish-in-Asks.new.self ≡ with_jobs_finished mid (done ∷ []) = search rules in
    rw (← c.self.view_is) (works_asked sites shared c.args.job done c.serve-result.result old mid c.finish-in-Asks.new.self job c.spell-done.ensures.answered
    c.spell-done.ensures.count counted is)
