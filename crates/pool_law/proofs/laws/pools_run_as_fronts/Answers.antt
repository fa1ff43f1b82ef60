use Rattle.std.proofs.Common.{Some, List, ap, ◌∙◌}
use Rattle.front_core.specs.declared.worker.Job.{Job}
use Rattle.pool_law.proofs.Running.{leads}
use Rattle.pool_law.proofs.laws.pools_run_as_fronts.Goals as goal

pub returns : goal.returns
returns c = λ site node worker front book place events old legal within order is looked idle queue.
    leads site node worker front idle book legal within events place old order is
    (looked ∙ ap (λ (jobs : List Job). Some (record front { queue = jobs })) queue)
