use Rattle.std.proofs.Common.{refl}
use Rattle.std.proofs.lemmas.Result.{IfOk-weaker}
use Rattle.clap.specs.Words.{app_of}
use Rattle.farm_command.specs.CommandLine.{line_of}
use Rattle.farm_command.proofs.CommandLines.{one_more}
use Rattle.farm_command.proofs.lines.with_line.Goals as goal

pub returns : goal.returns
returns c =
    IfOk-weaker c.subcommand.result _ _
    (λ made h. one_more (app_of made) (app_of c.args.line) (app_of c.args.line) (app_of c.in_ok-more.more) (line_of c.args.subcommand)
    (h.shape c.in_ok-more.ensures.local) refl c.in_ok-more.ensures.shape)
    c.subcommand.ensures
