use Rattle.relay_core.proofs.MatchedRuns.{as_taken}
use Rattle.relay_core.proofs.laws.matched_runs_are_runs.Goals as goal

pub returns : goal.returns
returns c = λ matching first events outs past last run. as_taken matching first run
