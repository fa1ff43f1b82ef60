use Rattle.std.proofs.Common.{arith}
use Rattle.std.proofs.lemmas.Grind.{common_steps}
use Rattle.farm_script.proofs.Lines.{lines-whole, lines-first}
use Rattle.farm_script.proofs.line.first_line.Goals as goal

pub returns-in-None-clause-line : goal.returns-in-None-clause-line
returns-in-None-clause-line c = grind (arith, common_steps, lines-whole c.args.text.now c.requires)

pub returns-in-Some-clause-line : goal.returns-in-Some-clause-line
returns-in-Some-clause-line c = grind (arith, common_steps, lines-first c.args.text.now c.in-Some.at)
