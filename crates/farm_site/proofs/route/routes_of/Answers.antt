use Rattle.std.proofs.Common.{◌≡◌, true, List, sym, subst, arith}
use Rattle.std.specs.List.{list_all}
use Rattle.farm_base.specs.declared.site.Route.{Route}
use Rattle.farm_base.specs.CheckedSite.{is_sound_route, same_route}
use Rattle.farm_site.specs.Graph.{drawn}
use Rattle.farm_site.specs.Faults.{IsRouteFault, IsTableFault}
use Rattle.farm_site.specs.Spelling.{SpellsRoute, is_typed_route}
use Rattle.farm_site.proofs.Pushing.{all_push, grown}
use Rattle.toml.specs.View.{table_view}
use Rattle.farm_site.specs.declared.key.Key.TheVariants as keys
use Rattle.farm_site.proofs.Refusing.{handed_on, told_in}
use Rattle.farm_site.proofs.Spelled.{table_all, table_more}
use Rattle.farm_site.proofs.route.routes_of.Goals as goal

pub loop-entry-preserved : goal.loop-entry-preserved
loop-entry-preserved c = record {
  counted = omega (arith, c.in_ok-push.ensures.len);
  sound = grown (is_sound_route (drawn c.args.graph)) same_route c.loop-entry.routes.items c.deref.result.now c.push.new.self.items c.in_ok-route.route c.loop-entry.invariant.sound c.deref.ensures.value c.in_ok-route.ensures.follows c.in_ok-push.ensures.items;
  typed = subst (λ (rs : List Route). list_all is_typed_route rs ≡ true) (sym c.in_ok-push.ensures.items) (all_push is_typed_route c.loop-entry.routes.items c.in_ok-route.route c.loop-entry.invariant.typed c.in_ok-route.ensures.typed);
  spelled = table_more (SpellsRoute c.args.graph.nodes.now) c.deref-entry-items.result.now c.loop-entry.entry-index c.entry-item.result c.loop-entry.routes.items c.push.new.self.items c.in_ok-route.route c.loop-entry-test.true c.entry-item.is c.loop-entry.invariant.spelled c.in_ok-route.ensures.spelled c.in_ok-push.ensures.items;
}

pub returns-clause-spelled : goal.returns-clause-spelled
returns-clause-spelled c = table_all (SpellsRoute c.args.graph.nodes.now) _ _ c.deref-entry-items.result.now c.in_ok-entries.entries.items c.loop-entry.entry-index c.loop-entry.routes.items c.deref-entry-items.ensures.value c.in_ok-entries.ensures.value c.loop-entry-test.false c.loop-entry.invariant.spelled

pub returns-in_err-route-clause-fault : goal.returns-in_err-route-clause-fault
returns-in_err-route-clause-fault c = λ few.
    let file = table_view c.args.file.table.now in
    let entry = table_view c.entry-item.result.table.now in
    let fault = c.in_err-route.field-0.0 in
    let told : IsRouteFault c.args.graph.nodes.now c.args.graph.links.now c.loop-entry.routes.items entry fault = subst (λ (items : List _). IsRouteFault c.args.graph.nodes.now c.args.graph.links.now items entry fault) c.deref.ensures.value (c.in_err-route.ensures.fault few) in
    let of_table = told_in (SpellsRoute c.args.graph.nodes.now) (IsRouteFault c.args.graph.nodes.now c.args.graph.links.now) keys.Route file c.deref-entry-items.result.now c.in_ok-entries.entries.items c.loop-entry.entry-index c.entry-item.result c.loop-entry.routes.items fault c.deref-entry-items.ensures.value c.in_ok-entries.ensures.value c.loop-entry-test.true c.entry-item.is c.loop-entry.invariant.spelled told in
    handed_on (IsTableFault (SpellsRoute c.args.graph.nodes.now) (IsRouteFault c.args.graph.nodes.now c.args.graph.links.now) keys.Route file) c.from_residual-in_err-route.result fault c.from_residual-in_err-route.ensures.1 of_table
