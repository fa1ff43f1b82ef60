use Rattle.std.proofs.Common.{List, subst, arith}
use Rattle.farm_base.specs.CheckedSite.{is_sound_name, same_name}
use Rattle.farm_site.specs.Faults.{IsNodeFault, IsTableFault}
use Rattle.farm_site.specs.Spelling.{SpellsNode}
use Rattle.farm_site.proofs.Pushing.{grown}
use Rattle.toml.specs.View.{table_view}
use Rattle.farm_site.specs.declared.key.Key.TheVariants as keys
use Rattle.farm_site.proofs.Refusing.{handed_on, told_in}
use Rattle.farm_site.proofs.Spelled.{table_all, table_more}
use Rattle.farm_site.proofs.node.nodes_of.Goals as goal

pub loop-entry-preserved : goal.loop-entry-preserved
loop-entry-preserved c = record {
  counted = omega (arith, c.in_ok-push.ensures.len);
  sound = grown is_sound_name same_name c.loop-entry.nodes.items c.deref.result.now c.push.new.self.items c.in_ok-node.node c.loop-entry.invariant.sound c.deref.ensures.value c.in_ok-node.ensures.follows c.in_ok-push.ensures.items;
  spelled = table_more SpellsNode c.deref-entry-items.result.now c.loop-entry.entry-index c.entry-item.result c.loop-entry.nodes.items c.push.new.self.items c.in_ok-node.node c.loop-entry-test.true c.entry-item.is c.loop-entry.invariant.spelled c.in_ok-node.ensures.spelled c.in_ok-push.ensures.items;
}

pub returns-clause-spelled : goal.returns-clause-spelled
returns-clause-spelled c = table_all SpellsNode _ _ c.deref-entry-items.result.now c.in_ok-entries.entries.items c.loop-entry.entry-index c.loop-entry.nodes.items c.deref-entry-items.ensures.value c.in_ok-entries.ensures.value c.loop-entry-test.false c.loop-entry.invariant.spelled

pub returns-in_err-node-clause-fault : goal.returns-in_err-node-clause-fault
returns-in_err-node-clause-fault c =
    let file = table_view c.args.file.table.now in
    let entry = table_view c.entry-item.result.table.now in
    let fault = c.in_err-node.field-0.0 in
    let told : IsNodeFault c.loop-entry.nodes.items entry fault = subst (λ (items : List _). IsNodeFault items entry fault) c.deref.ensures.value (c.in_err-node.ensures.fault) in
    let of_table = told_in SpellsNode IsNodeFault keys.Node file c.deref-entry-items.result.now c.in_ok-entries.entries.items c.loop-entry.entry-index c.entry-item.result c.loop-entry.nodes.items fault c.deref-entry-items.ensures.value c.in_ok-entries.ensures.value c.loop-entry-test.true c.entry-item.is c.loop-entry.invariant.spelled told in
    handed_on (IsTableFault SpellsNode IsNodeFault keys.Node file) c.from_residual-in_err-node.result fault c.from_residual-in_err-node.ensures.1 of_table
