use Rattle.std.proofs.Common.{arith}
use Rattle.toml.specs.View.{view}
use Rattle.farm_access.specs.Spelling.{IsNodesFault, SpellsRule}
use Rattle.farm_access.proofs.Telling.{entry_told, handed_on, values_more}
use Rattle.farm_access.proofs.reading.rules_at.Goals as goal

pub returns-in_err-rule-clause-fault : goal.returns-in_err-rule-clause-fault
returns-in_err-rule-clause-fault c =
    handed_on (IsNodesFault (view c.args.value.now)) c.from_residual.result c.in_err-rule.field-0.0 c.from_residual.ensures.1
    (entry_told (view c.args.value.now) c.in-Some.entries.now c.loop-entry.entry-index c.entry-item.result c.in_err-rule.field-0.0
    c.in-Some.ensures.some c.loop-entry-test.true c.entry-item.is c.in_err-rule.ensures.fault)

pub loop-entry-preserved : goal.loop-entry-preserved
loop-entry-preserved c = record {
  counted = omega (arith, c.in_ok-push.ensures.len);
  spelled = values_more SpellsRule c.in-Some.entries.now c.loop-entry.entry-index c.entry-item.result c.loop-entry.rules.items c.push.new.self.items
      c.in_ok-rule.rule c.loop-entry-test.true c.entry-item.is c.loop-entry.invariant.spelled c.in_ok-rule.ensures.spelled c.in_ok-push.ensures.items;
}
