use Rattle.std.proofs.Common.{◌≡◌, drop}
use Rattle.clap.specs.Words.{app_of}
use Rattle.farm_command.specs.CommandLine.{with_lines}
use Rattle.farm_command.proofs.lines.with_lines.Given as goal

abbrev pub invariant-loop-subcommand : goal.invariant-loop-subcommand
invariant-loop-subcommand l =
    with_lines (app_of l.made) (drop l.subcommand-index l.subcommands) ≡ with_lines (app_of l.fn.line) l.subcommands
