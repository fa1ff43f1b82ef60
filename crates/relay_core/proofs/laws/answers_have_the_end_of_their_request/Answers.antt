use Rattle.std.proofs.Common.{refl}
use Rattle.relay_core.specs.declared.matching.Matching.TheVariants.{EndToEnd}
use Rattle.relay_core.proofs.MatchedRuns.{answers_own}
use Rattle.relay_core.proofs.laws.answers_have_the_end_of_their_request.Goals as goal

pub returns : goal.returns
returns c = λ site start events outs past last run. answers_own site start EndToEnd refl run
