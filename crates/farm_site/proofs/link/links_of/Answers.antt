use Rattle.std.proofs.Common.{List, [], subst, arith}
use Rattle.farm_base.specs.CheckedSite.{is_sound_link, same_pair}
use Rattle.farm_site.specs.Graph.{site_over}
use Rattle.farm_site.specs.Faults.{IsLinkFault, IsTableFault}
use Rattle.farm_site.specs.Spelling.{SpellsLink}
use Rattle.farm_site.proofs.Pushing.{grown}
use Rattle.toml.specs.View.{table_view}
use Rattle.farm_site.specs.declared.key.Key.TheVariants as keys
use Rattle.farm_site.proofs.Refusing.{handed_on, told_in}
use Rattle.farm_site.proofs.Spelled.{table_all, table_more}
use Rattle.farm_site.proofs.link.links_of.Goals as goal

pub loop-entry-preserved : goal.loop-entry-preserved
loop-entry-preserved c = record {
  counted = omega (arith, c.in_ok-push.ensures.len);
  sound = grown (is_sound_link (site_over c.args.nodes.now [])) same_pair c.loop-entry.links.items c.deref.result.now c.push.new.self.items c.in_ok-link.link c.loop-entry.invariant.sound c.deref.ensures.value c.in_ok-link.ensures.follows c.in_ok-push.ensures.items;
  spelled = table_more (SpellsLink c.args.nodes.now) c.deref-entry-items.result.now c.loop-entry.entry-index c.entry-item.result c.loop-entry.links.items c.push.new.self.items c.in_ok-link.link c.loop-entry-test.true c.entry-item.is c.loop-entry.invariant.spelled c.in_ok-link.ensures.spelled c.in_ok-push.ensures.items;
}

pub returns-clause-spelled : goal.returns-clause-spelled
returns-clause-spelled c = table_all (SpellsLink c.args.nodes.now) _ _ c.deref-entry-items.result.now c.in_ok-entries.entries.items c.loop-entry.entry-index c.loop-entry.links.items c.deref-entry-items.ensures.value c.in_ok-entries.ensures.value c.loop-entry-test.false c.loop-entry.invariant.spelled

pub returns-in_err-link-clause-fault : goal.returns-in_err-link-clause-fault
returns-in_err-link-clause-fault c = λ few.
    let file = table_view c.args.file.table.now in
    let entry = table_view c.entry-item.result.table.now in
    let fault = c.in_err-link.field-0.0 in
    let told : IsLinkFault c.args.nodes.now c.loop-entry.links.items entry fault = subst (λ (items : List _). IsLinkFault c.args.nodes.now items entry fault) c.deref.ensures.value (c.in_err-link.ensures.fault few) in
    let of_table = told_in (SpellsLink c.args.nodes.now) (IsLinkFault c.args.nodes.now) keys.Link file c.deref-entry-items.result.now c.in_ok-entries.entries.items c.loop-entry.entry-index c.entry-item.result c.loop-entry.links.items fault c.deref-entry-items.ensures.value c.in_ok-entries.ensures.value c.loop-entry-test.true c.entry-item.is c.loop-entry.invariant.spelled told in
    handed_on (IsTableFault (SpellsLink c.args.nodes.now) (IsLinkFault c.args.nodes.now) keys.Link file) c.from_residual-in_err-link.result fault c.from_residual-in_err-link.ensures.1 of_table
