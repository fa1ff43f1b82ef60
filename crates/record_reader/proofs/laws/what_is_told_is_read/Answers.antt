use Rattle.record_reader.proofs.RecordBack.{told_is_said}
use Rattle.record_reader.proofs.laws.what_is_told_is_read.Goals as goal

pub returns : goal.returns
returns c = told_is_said
