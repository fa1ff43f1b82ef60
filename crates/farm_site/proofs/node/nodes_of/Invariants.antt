use Rattle.std.proofs.Common.{◌≡◌, take, vec_len}
use Rattle.std.specs.List.{AllZip}
use Rattle.farm_base.specs.CheckedSite.{is_sound_name, same_name}
use Rattle.farm_site.specs.Growing.{AreSound}
use Rattle.farm_site.specs.Spelling.{SpellsNode, tables_of}
use Rattle.farm_site.proofs.node.nodes_of.Given as goal

abbrev pub invariant-loop-entry : goal.invariant-loop-entry
invariant-loop-entry l = record {
  counted : vec_len l.nodes ≡ l.entry-index;
  sound : AreSound is_sound_name same_name l.nodes.items;
  spelled : AllZip SpellsNode (tables_of (take l.entry-index l.entry-items)) l.nodes.items;
}
