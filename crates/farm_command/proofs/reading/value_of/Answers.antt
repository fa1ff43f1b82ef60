use Rattle.std.proofs.Common.{◌∙◌, ap}
use Rattle.clap.specs.Words.{found_of, first_value}
use Rattle.clap.proofs.WalkLemmas.{first_value-rows}
use Rattle.farm_command.specs.CommandLine.{id_of}
use Rattle.farm_command.proofs.reading.value_of.Goals as goal

pub returns : goal.returns
returns c =
    c.get_str.ensures ∙ (ap (λ id. first_value (found_of c.args.found.now) id) c.id.ensures ∙ first_value-rows (found_of c.args.found.now) (id_of c.args.word))
