use Rattle.std.proofs.Common.{not, rules}
use Rattle.std.proofs.lemmas.Fn.{filter_same}
use Rattle.farm_record.specs.declared.recorder.Labelled.{Labelled}
use Rattle.farm_record.specs.Recording.{is_of}
use Rattle.farm_record.proofs.recorder.Recorder.forget.Goals as goal

pub returns-clause-conns : goal.returns-clause-conns
returns-clause-conns c = filter_same _ (λ (known : Labelled). not (is_of c.args.conn known)) _ (λ x b f k. search rules) _ _ c.retain.ensures.filtered
