use Rattle.farm_log.proofs.Counting.{few_in}
use Rattle.farm_log.proofs.laws.few_lines_are_written.Goals as goal

pub returns : goal.returns
returns c = λ count told second runs. (few_in count told runs).each second
