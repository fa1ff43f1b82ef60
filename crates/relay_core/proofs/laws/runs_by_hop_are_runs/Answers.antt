use Rattle.relay_core.proofs.MatchedRuns.{all_taken, as_matched}
use Rattle.relay_core.proofs.laws.runs_by_hop_are_runs.Goals as goal

pub returns : goal.returns
returns c = λ first events outs past last. (all_taken first, as_matched first)
