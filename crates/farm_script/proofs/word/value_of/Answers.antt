use Rattle.std.proofs.Common.{arith}
use Rattle.std.proofs.lemmas.Grind.{common_steps}
use Rattle.farm_script.proofs.Digits.{read_on-start, read_on-end, next_digit}
use Rattle.farm_script.proofs.word.value_of.Goals as goal

pub loop-octet-init : goal.loop-octet-init
loop-octet-init c = (read_on-start c.args.word.now, omega arith)

pub loop-octet-preserved : goal.loop-octet-preserved
loop-octet-preserved c =
    let turn = next_digit c.args.word.now c.loop-octet.octet-index c.loop-octet.number c.with_digit.result c.loop-octet-test.true c.with_digit.ensures in
    (grind (arith, common_steps, turn), grind (arith, common_steps))

pub returns-in_err-number : goal.returns-in_err-number
returns-in_err-number c =
    let turn = next_digit c.args.word.now c.loop-octet.octet-index c.loop-octet.number c.with_digit.result c.loop-octet-test.true c.with_digit.ensures in
    grind (arith, common_steps, turn)

pub returns : goal.returns
returns c = grind (arith, common_steps, read_on-end)
