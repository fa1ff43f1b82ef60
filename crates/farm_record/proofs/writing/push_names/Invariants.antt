use Rattle.std.proofs.Common.{◌≡◌, ◌++◌, take}
use Rattle.std.specs.List.{flat_map}
use Rattle.farm_record.specs.Growing.{Grows}
use Rattle.farm_record.specs.Lines.{name_word}
use Rattle.farm_record.proofs.writing.push_names.Given as goal

abbrev pub invariant-loop-node : goal.invariant-loop-node
invariant-loop-node l = record {
  names : l.out.items ≡ l.fn.out.items ++ flat_map (name_word l.fn.names) (take l.node-index l.nodes);
  grows : Grows l.fn.out.items l.out.items;
}
