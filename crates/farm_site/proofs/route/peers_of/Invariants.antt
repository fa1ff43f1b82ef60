use Rattle.std.proofs.Common.{◌≡◌, true, map, take, vec_len}
use Rattle.std.specs.List.{AllZip, list_all}
use Rattle.farm_base.specs.CheckedSite.{is_candidate}
use Rattle.farm_site.specs.Graph.{drawn}
use Rattle.farm_site.specs.Spelling.{Names}
use Rattle.farm_site.proofs.route.peers_of.Given as goal

abbrev pub invariant-loop-name : goal.invariant-loop-name
invariant-loop-name l = record {
  counted : vec_len l.peers ≡ l.name-index;
  candidates : list_all (is_candidate (drawn l.graph) l.relay) l.peers.items ≡ true;
  named : AllZip (Names l.graph.nodes.now) (map (λ name. name.now) (take l.name-index l.name-items)) l.peers.items;
}
