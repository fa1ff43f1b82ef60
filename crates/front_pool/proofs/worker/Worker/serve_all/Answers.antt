use Rattle.std.proofs.Common.{rules}
use Rattle.front_pool.proofs.Serving.{works_refused}
use Rattle.front_pool.proofs.worker.Worker.serve_all.Goals as goal

pub returns-in-Err : goal.returns-in-Err
returns-in-Err g c =
    let asked = c.read_all-asked.result.items in
    works_refused g.L.Pooling.site g.L.Sharing.shared c.args.self.now.front c.args.jobs.items asked c.args.self.now c.read_all-asked.new.self
    c.finish_refused.new.self c.read_all-asked.ensures.reads (search rules)
