use Rattle.std.proofs.Common.{◌≡◌, [], take, vec_len}
use Rattle.std.specs.List.{AllZip}
use Rattle.farm_base.specs.CheckedSite.{is_sound_link, same_pair}
use Rattle.farm_site.specs.Graph.{site_over}
use Rattle.farm_site.specs.Growing.{AreSound}
use Rattle.farm_site.specs.Spelling.{SpellsLink, tables_of}
use Rattle.farm_site.proofs.link.links_of.Given as goal

abbrev pub invariant-loop-entry : goal.invariant-loop-entry
invariant-loop-entry l = record {
  counted : vec_len l.links ≡ l.entry-index;
  sound : AreSound (is_sound_link (site_over l.nodes [])) same_pair l.links.items;
  spelled : AllZip (SpellsLink l.nodes) (tables_of (take l.entry-index l.entry-items)) l.links.items;
}
