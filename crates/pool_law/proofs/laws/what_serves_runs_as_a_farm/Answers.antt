use Rattle.pool_law.proofs.Serving.{runs_as_farm}
use Rattle.pool_law.proofs.laws.what_serves_runs_as_a_farm.Goals as goal

pub returns : goal.returns
returns c = λ site workers happenings served below s. runs_as_farm site workers happenings served below s
