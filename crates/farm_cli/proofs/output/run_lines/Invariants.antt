use Rattle.std.proofs.Common.{◌≡◌, take}
use Rattle.std.specs.List.{flat_map}
use Rattle.farm_cli.specs.Output.{recv_line}
use Rattle.farm_cli.proofs.output.run_lines.Given as goal

abbrev pub invariant-loop-conn : goal.invariant-loop-conn
invariant-loop-conn l = l.out.items ≡ flat_map (recv_line l.site l.trace.ends) (take l.conn-index l.trace.received)
