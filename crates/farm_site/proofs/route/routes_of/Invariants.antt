use Rattle.std.proofs.Common.{◌≡◌, true, take, vec_len}
use Rattle.std.specs.List.{AllZip, list_all}
use Rattle.farm_base.specs.CheckedSite.{is_sound_route, same_route}
use Rattle.farm_site.specs.Graph.{drawn}
use Rattle.farm_site.specs.Growing.{AreSound}
use Rattle.farm_site.specs.Spelling.{SpellsRoute, is_typed_route, tables_of}
use Rattle.farm_site.proofs.route.routes_of.Given as goal

abbrev pub invariant-loop-entry : goal.invariant-loop-entry
invariant-loop-entry l = record {
  counted : vec_len l.routes ≡ l.entry-index;
  sound : AreSound (is_sound_route (drawn l.graph)) same_route l.routes.items;
  typed : list_all is_typed_route l.routes.items ≡ true;
  spelled : AllZip (SpellsRoute l.graph.nodes.now) (tables_of (take l.entry-index l.entry-items)) l.routes.items;
}
