-- The command line of all programs, in clap's terms.
use Rattle.std.specs.Prelude.{List, [], ◌∷◌, Some, true, codes}
use Rattle.clap.specs.Walk.{Rule, Text}
use Rattle.clap.specs.Simple.{App, new_app, new_rule, with_rule, with_subcommand}
use Rattle.clap.specs.declared.builder.action.ArgAction.TheVariants.{Append, SetTrue}
use Rattle.farm_command.specs.declared.book_task.BookTask.{BookTask}
use Rattle.farm_command.specs.declared.book_task.BookTask.TheVariants as task
use Rattle.farm_command.specs.declared.subcommand.Subcommand.{Subcommand}
use Rattle.farm_command.specs.declared.subcommand.Subcommand.TheVariants as sub
use Rattle.farm_command.specs.declared.word.Word.{Word}
use Rattle.farm_command.specs.declared.word.Word.TheVariants as word

-- the name of an option, or of the operands
abbrev pub id_of : Word → Text
id_of word.Site = codes "site"
id_of word.Name = codes "name"
id_of word.Client = codes "client"
id_of word.Peer = codes "peer"
id_of word.Answers = codes "answers"
id_of word.Status = codes "status"
id_of word.Token = codes "token"
id_of word.Record = codes "record"
id_of word.Book = codes "book"
id_of word.Log = codes "log"
id_of word.LogFormat = codes "log-format"
id_of word.From = codes "from"
id_of word.To = codes "to"
id_of word.Records = codes "records"
id_of word.TaskAndFile = codes "task-and-file"

-- the name of a subcommand
abbrev pub name_of : Subcommand → Text
name_of sub.Replay = codes "replay"
name_of sub.Report = codes "report"
name_of sub.Relay = codes "relay"
name_of sub.Front = codes "front"
name_of sub.Send = codes "send"
name_of sub.Check = codes "check"
name_of sub.Audit = codes "audit"
name_of sub.Schedule = codes "schedule"
name_of sub.Book = codes "book"
name_of sub.Picture = codes "picture"
name_of sub.Words = codes "words"

-- the operands of `book`: what is done, the file with the book, and the file that it is copied to
abbrev pub operands_of : BookTask → Text → List Text
operands_of task.Create file = codes "create" ∷ file ∷ []
operands_of task.Check file = codes "check" ∷ file ∷ []
operands_of task.Report file = codes "report" ∷ file ∷ []
operands_of task.Export file = codes "export" ∷ file ∷ []
operands_of task.ChangeTerms file = codes "change-terms" ∷ file ∷ []
operands_of (task.Backup to) file = codes "backup" ∷ file ∷ to.now ∷ []

-- `--NAME VALUE`
abbrev pub option_named : Text → Rule
option_named id = record (new_rule id) { long = Some id; value_names = 1 }

abbrev pub option : Word → Rule
option w = option_named (id_of w)

-- `--NAME`
abbrev pub flag_named : Text → Rule
flag_named id = record (new_rule id) { long = Some id; action = Some SetTrue }

-- `--skipped`
abbrev pub skipped_option : Rule
skipped_option = flag_named (codes "skipped")

-- `--clock-behind`
abbrev pub clock_option : Rule
clock_option = flag_named (codes "clock-behind")

-- `--change-terms`
abbrev pub change_option : Rule
change_option = flag_named (codes "change-terms")

-- operands, as many as there are
abbrev pub operands_named : Text → Rule
operands_named id = record (new_rule id) { action = Some Append; value_names = 1 }

-- `RECORD..`
abbrev pub records_rule : Rule
records_rule = operands_named (id_of word.Records)

-- `TASK FILE` and `backup FILE FILE`
abbrev pub task_and_file_rule : Rule
task_and_file_rule = operands_named (id_of word.TaskAndFile)

-- a subcommand with these options
abbrev pub added_options : App → List Word → App
added_options line [] = line
added_options line (w ∷ words) = added_options (with_rule line (option w)) words

abbrev pub with_options : Text → List Word → App
with_options name words = added_options (new_app name) words

-- each subcommand, with its options and operands
abbrev pub line_of : Subcommand → App
line_of sub.Replay = with_rule (with_options (codes "replay") (word.Site ∷ [])) skipped_option
line_of sub.Report = with_rule (with_options (codes "report") (word.Site ∷ [])) skipped_option
line_of sub.Relay =
    with_options (codes "relay") (word.Site ∷ word.Name ∷ word.Answers ∷ word.Status ∷ word.Token ∷ word.Record ∷ word.Log ∷ word.LogFormat ∷ [])
line_of sub.Front =
    with_rule (with_rule (with_options (codes "front") (word.Site ∷ word.Book ∷ word.Answers ∷ word.Status ∷ word.Token ∷ word.Record ∷ word.Log ∷ word.LogFormat ∷ [])) clock_option) change_option
line_of sub.Send = with_options (codes "send") (word.Site ∷ word.Client ∷ word.Peer ∷ word.Record ∷ word.Log ∷ word.LogFormat ∷ [])
line_of sub.Check = with_options (codes "check") (word.Site ∷ [])
line_of sub.Audit = with_rule (with_options (codes "audit") (word.Site ∷ word.Book ∷ [])) records_rule
line_of sub.Schedule = with_rule (with_options (codes "schedule") (word.Site ∷ word.Book ∷ [])) records_rule
line_of sub.Book = with_rule (with_options (codes "book") (word.Site ∷ [])) task_and_file_rule
line_of sub.Picture = with_options (codes "picture") (word.Site ∷ word.From ∷ word.To ∷ [])
line_of sub.Words = with_options (codes "words") []

-- the program named `farm`, which has a version and no subcommand `help`; the words do not begin with its name
abbrev pub program : App
program = record (new_app (codes "farm")) {
  top = record (new_app (codes "farm")).top { has_version = true; no_binary_name = true; disable_help_subcommand = true };
}

abbrev pub with_lines : App → List Subcommand → App
with_lines line [] = line
with_lines line (s ∷ rest) = with_lines (with_subcommand line (line_of s).top) rest

-- each subcommand, in the order of the help: what runs a schedule or serves, then what looks at a site, at records, at a book, at a run or at messages
abbrev pub subcommands : List Subcommand
subcommands =
    sub.Replay ∷ sub.Report ∷ sub.Relay ∷ sub.Front ∷ sub.Send ∷ sub.Check ∷ sub.Audit ∷ sub.Schedule ∷ sub.Book ∷ sub.Picture ∷ sub.Words ∷ []

abbrev pub command_line : App
command_line = with_lines program subcommands
