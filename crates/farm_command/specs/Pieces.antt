-- What a subcommand takes, as rules of clap.
use Rattle.std.specs.Prelude.{List, [], ◌∷◌}
use Rattle.clap.specs.Walk.{Rule}
use Rattle.clap.specs.Simple.{App, with_rule}
use Rattle.farm_command.specs.declared.lines.Piece.{Piece}
use Rattle.farm_command.specs.declared.lines.Piece.TheVariants.{Option, Flag, Operands}
use Rattle.farm_command.specs.CommandLine.{flag_named, id_of, operands_named, option}

abbrev pub rule_of_piece : Piece → Rule
rule_of_piece (Option word help) = option word
rule_of_piece (Flag name help) = flag_named name.now
rule_of_piece (Operands word help) = operands_named (id_of word)

-- a subcommand with these pieces more
abbrev pub with_pieces : App → List Piece → App
with_pieces line [] = line
with_pieces line (piece ∷ pieces) = with_pieces (with_rule line (rule_of_piece piece)) pieces
