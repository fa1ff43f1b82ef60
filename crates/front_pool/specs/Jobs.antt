-- Jobs, and whose a finished one is.
use Rattle.std.specs.Prelude.{List, map}
use Rattle.front_pool.specs.declared.job.Job.{Job}
use Rattle.front_pool.specs.declared.job.Finished.{Finished}

-- the job that is finished: its number, its connection and its request
abbrev pub job_of : Finished → Job
job_of finished = record { number = finished.job; conn = finished.conn; request = finished.request }

abbrev pub jobs_of : List Finished → List Job
jobs_of finished = map job_of finished
