use Rattle.std.proofs.Common.{◌≡◌, [], drop}
use Rattle.record_reader.specs.Reading.{nodes_from}
use Rattle.record_reader.proofs.NodeLists.{octets_of}
use Rattle.record_reader.proofs.reading.nodes_of.Given as goal

-- the names that are left stand for nodes behind those that are read
abbrev pub invariant-loop-name : goal.invariant-loop-name
invariant-loop-name l = nodes_from [] l.site (octets_of l.names) ≡ nodes_from l.nodes.items l.site (octets_of (drop l.name-index l.names))
