use Rattle.toml.specs.View.{view}
use Rattle.farm_access.specs.Spelling.{IsFromFault, SpellsPrefix}
use Rattle.farm_access.proofs.Telling.{handed_on, prefix_told, values_more}
use Rattle.farm_access.proofs.reading.prefixes_of.Goals as goal

pub returns-in_err-prefix-clause-fault : goal.returns-in_err-prefix-clause-fault
returns-in_err-prefix-clause-fault c =
    handed_on (IsFromFault (view c.args.value.now)) c.from_residual.result c.in_err-prefix.field-0.0 c.from_residual.ensures.1
    (prefix_told (view c.args.value.now) c.in-Some.texts.now c.loop-text.text-index c.text-item.result c.in_err-prefix.field-0.0
    c.in-Some.ensures.some c.loop-text-test.true c.text-item.is c.in_err-prefix.ensures.fault)

pub loop-text-preserved : goal.loop-text-preserved
loop-text-preserved c =
    values_more SpellsPrefix c.in-Some.texts.now c.loop-text.text-index c.text-item.result c.loop-text.prefixes.items c.push.new.self.items
    c.in_ok-prefix.prefix c.loop-text-test.true c.text-item.is c.loop-text.invariant c.in_ok-prefix.ensures.spelled c.in_ok-push.ensures.items
