use Rattle.std.proofs.Common.{◌≡◌, drop, false}
use Rattle.clap.specs.declared.builder.command.Command.TheViews.{out-Command as fields_of}
use Rattle.clap.specs.Simple.{new_app}
use Rattle.clap.specs.Words.{app_of}
use Rattle.farm_command.specs.Pieces.{with_pieces}
use Rattle.farm_command.proofs.lines.line_with.Given as goal

abbrev pub invariant-loop-piece : goal.invariant-loop-piece
invariant-loop-piece l =
    (with_pieces (app_of l.line) (drop l.piece-index l.pieces) ≡ with_pieces (new_app l.fn.name) l.pieces) × ((fields_of l.line).has_globals ≡ false)
