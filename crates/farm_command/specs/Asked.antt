-- What the words of a command line ask for, as clap reads them, and why they are refused.
use Rattle.std.specs.Prelude.{◌≡◌, ◌≢◌, ◌⊎◌, ◌<◌, ◌^◌, ℕ, List, [], ◌∷◌, Bool, true, false, Option, Some, None, codes, map, option_map}
use Rattle.std.specs.Str.{bytes_eq}
use Rattle.std.specs.Str.Parse.{IsNumeral, digits_value, without_leading_plus}
use Rattle.clap.specs.Kinds.{Kinds, IsAmong}
use Rattle.clap.specs.Walk.{Row, Text, all_of, first_of}
use Rattle.clap.specs.declared.error.kind.ErrorKind.{ErrorKind}
use Rattle.clap.specs.declared.error.kind.ErrorKind.TheVariants.{DisplayHelp, DisplayVersion}
use Rattle.log.specs.declared.level.LevelFilter.{LevelFilter}
use Rattle.log.specs.declared.level.LevelFilter.TheVariants.{Info}
use Rattle.log.specs.Level.{parse_filter}
use Rattle.farm_command.specs.declared.book_task.BookTask.{BookTask}
use Rattle.farm_command.specs.declared.subcommand.Subcommand.{Subcommand}
use Rattle.farm_command.specs.declared.subcommand.Subcommand.TheVariants as sub
use Rattle.farm_command.specs.declared.word.Word.{Word}
use Rattle.farm_command.specs.declared.word.Word.TheVariants as word
use Rattle.farm_command.specs.declared.command.Action.{Action}
use Rattle.farm_command.specs.declared.command.Action.TheVariants.{Replay, Report}
use Rattle.farm_command.specs.declared.command.Run.{Run}
use Rattle.farm_command.specs.declared.command.Task.{Task}
use Rattle.farm_command.specs.declared.command.Task.TheVariants as task
use Rattle.farm_command.specs.declared.command.LogFormat.{LogFormat}
use Rattle.farm_command.specs.declared.command.LogFormat.TheVariants as format
use Rattle.farm_command.specs.declared.command.Process.{Process}
use Rattle.farm_command.specs.declared.command.AuditAction.{AuditAction}
use Rattle.farm_command.specs.declared.command.AuditAction.TheVariants as audit
use Rattle.farm_command.specs.declared.command.Audit.{Audit}
use Rattle.farm_command.specs.declared.command.BookCommand.{BookCommand}
use Rattle.farm_command.specs.declared.command.Picture.{Picture}
use Rattle.farm_command.specs.declared.command.Command.{Command}
use Rattle.farm_command.specs.declared.command.Command.TheVariants as command
use Rattle.farm_command.specs.declared.fault.CliFault.{CliFault}
use Rattle.farm_command.specs.declared.fault.CliFault.TheVariants as fault
use Rattle.farm_command.specs.CommandLine.{id_of, name_of, operands_of}

-- ---- the subcommand of a command

abbrev pub of_action : Action → Subcommand
of_action Replay = sub.Replay
of_action Report = sub.Report

abbrev pub of_task : Task → Subcommand
of_task (task.Relay name answers) = sub.Relay
of_task (task.Fronts answers) = sub.Front
of_task (task.Send client peer) = sub.Send

abbrev pub of_audit : AuditAction → Subcommand
of_audit audit.Audit = sub.Audit
of_audit audit.Schedule = sub.Schedule

abbrev pub subcommand_for : Command → Subcommand
subcommand_for (command.Run run) = of_action run.action
subcommand_for (command.Process process) = of_task process.task
subcommand_for (command.Check check) = sub.Check
subcommand_for (command.Audit records) = of_audit records.action
subcommand_for (command.Book book) = sub.Book
subcommand_for (command.Picture picture) = sub.Picture
subcommand_for command.Words = sub.Words

-- ---- what is read of its options

-- the value of an option among what was found for a subcommand
abbrev pub value_in : Word → List Row → Option Text
value_in w = first_of (id_of w)

-- clap gives a flag the value `true` where it is among the words, else `false`
abbrev pub is_true : Option Text → Bool
is_true None = false
is_true (Some text) = bytes_eq text (codes "true")

-- whether a flag is among what was found for a subcommand
abbrev pub flag_in : Text → List Row → Bool
flag_in name rows = is_true (first_of name rows)

-- `--answers N`: a decimal number below 2^64, with or without a plus; 0 where it is not there
abbrev pub IsCount : Option Text → ℕ → Type 0
IsCount None count = count ≡ 0
IsCount (Some text) count = let digits = without_leading_plus text in IsNumeral 10 digits × (count ≡ digits_value 10 digits) × (count < 2 ^ 64)

-- `--log LEVEL`: the name of a level, without case; `info` where it is not there
abbrev pub IsLevel : Option Text → LevelFilter → Type 0
IsLevel None level = level ≡ Info
IsLevel (Some text) level = parse_filter text ≡ Some level

-- `--log-format FORMAT`: `text` or `logfmt`; `text` where it is not there
abbrev pub IsFormat : Option Text → LogFormat → Type 0
IsFormat None f = f ≡ format.Text
IsFormat (Some text) format.Text = text ≡ codes "text"
IsFormat (Some text) format.Logfmt = text ≡ codes "logfmt"

-- `--from STEP` and `--to STEP`: a number as at `--answers`, from 1 on
abbrev pub IsStep : Option Text → Option ℕ → Type 0
IsStep None None = Unit {0}
IsStep None (Some step) = ⊥
IsStep (Some text) None = ⊥
IsStep (Some text) (Some step) = IsCount (Some text) step × (0 < step)

abbrev pub HasTask : List Row → Task → Type 0
HasTask rows (task.Relay name answers) = (value_in word.Name rows ≡ Some name.now) × IsCount (value_in word.Answers rows) answers
HasTask rows (task.Fronts answers) = IsCount (value_in word.Answers rows) answers
HasTask rows (task.Send client peer) = (value_in word.Client rows ≡ Some client.now) × (value_in word.Peer rows ≡ Some peer.now)

abbrev pub HasRun : List Row → Run → Type 0
HasRun rows run = (value_in word.Site rows ≡ option_map (λ s. s.now) run.site) × (run.skipped ≡ flag_in (codes "skipped") rows)

-- what it writes down and says of itself, its book, and whether a clock behind it is no matter, and it may change its terms
abbrev pub HasReports : List Row → Process → Type 0
HasReports rows process =
    (value_in word.Status rows ≡ option_map (λ s. s.now) process.status)
    × (value_in word.Token rows ≡ option_map (λ s. s.now) process.token)
    × (value_in word.Record rows ≡ option_map (λ s. s.now) process.record_path)
    × (value_in word.Book rows ≡ option_map (λ s. s.now) process.book)
    × (process.clock_behind ≡ flag_in (codes "clock-behind") rows)
    × (process.change_terms ≡ flag_in (codes "change-terms") rows)

abbrev pub HasProcess : List Row → Process → Type 0
HasProcess rows process =
    HasTask rows process.task × (value_in word.Site rows ≡ Some process.site.now)
    × HasReports rows process × IsLevel (value_in word.Log rows) process.level × IsFormat (value_in word.LogFormat rows) process.log_format

abbrev pub HasAudit : List Row → Audit → Type 0
HasAudit rows records =
    (value_in word.Site rows ≡ Some records.site.now) × (value_in word.Book rows ≡ option_map (λ s. s.now) records.book)
    × (all_of (id_of word.Records) rows ≡ Some (map (λ s. s.now) records.records.items))

-- the operands of what is done
abbrev pub HasBook : List Row → BookCommand → Type 0
HasBook rows book =
    (value_in word.Site rows ≡ Some book.site.now)
    × (all_of (id_of word.TaskAndFile) rows ≡ Some (operands_of book.task book.file.now))

abbrev pub HasPicture : List Row → Picture → Type 0
HasPicture rows picture =
    (value_in word.Site rows ≡ option_map (λ s. s.now) picture.site)
    × IsStep (value_in word.From rows) picture.from × IsStep (value_in word.To rows) picture.to

abbrev pub HasOptions : List Row → Command → Type 0
HasOptions rows (command.Run run) = HasRun rows run
HasOptions rows (command.Process process) = HasProcess rows process
HasOptions rows (command.Check check) = value_in word.Site rows ≡ Some check.site.now
HasOptions rows (command.Audit records) = HasAudit rows records
HasOptions rows (command.Book book) = HasBook rows book
HasOptions rows (command.Picture picture) = HasPicture rows picture
HasOptions rows command.Words = Unit {0}

-- without a subcommand a replay over the row site
abbrev pub IsPlain : Command → Type 0
IsPlain asked = asked ≡ command.Run (record { action = Replay; site = None; skipped = false })

-- the subcommand that clap enters, with the values that it finds for the options
abbrev pub IsReadFrom : Option (Text × List Row) → Command → Type 0
IsReadFrom None asked = IsPlain asked
IsReadFrom (Some entered) asked = (entered.0 ≡ name_of (subcommand_for asked)) × HasOptions entered.1 asked

-- ---- why the words are refused

-- what a subcommand must have
abbrev pub must_have : Subcommand → Word → Bool
must_have sub.Relay word.Site = true
must_have sub.Relay word.Name = true
must_have sub.Front word.Site = true
must_have sub.Send word.Site = true
must_have sub.Send word.Client = true
must_have sub.Send word.Peer = true
must_have sub.Check word.Site = true
must_have sub.Audit word.Site = true
must_have sub.Audit word.Records = true
must_have sub.Schedule word.Site = true
must_have sub.Schedule word.Records = true
must_have sub.Book word.Site = true
must_have sub.Book word.TaskAndFile = true
must_have s w = false

-- fewer than two operands
abbrev pub AreFew : Option (List Text) → Type 0
AreFew None = Unit {0}
AreFew (Some []) = Unit {0}
AreFew (Some (task ∷ [])) = Unit {0}
AreFew (Some (task ∷ file ∷ more)) = ⊥

-- it is not there; of the operands of `book` not both are
abbrev pub IsMissing : Word → List Row → Type 0
IsMissing word.TaskAndFile rows = AreFew (all_of (id_of word.TaskAndFile) rows)
IsMissing w rows = value_in w rows ≡ None

-- whose values it reads as numbers, as a level, as a format, or as a task
abbrev pub reads : Subcommand → Word → Bool
reads sub.Relay word.Answers = true
reads sub.Relay word.Log = true
reads sub.Relay word.LogFormat = true
reads sub.Front word.Answers = true
reads sub.Front word.Log = true
reads sub.Front word.LogFormat = true
reads sub.Send word.Log = true
reads sub.Send word.LogFormat = true
reads sub.Picture word.From = true
reads sub.Picture word.To = true
reads sub.Book word.TaskAndFile = true
reads s w = false

-- operands that no task has
abbrev pub AreOfNoTask : List Text → Type 0
AreOfNoTask operands = (task : BookTask) (file : Text) → operands ≢ operands_of task file

-- two operands or more, which no task has
abbrev pub AreWrong : Option (List Text) → Type 0
AreWrong None = ⊥
AreWrong (Some []) = ⊥
AreWrong (Some (word ∷ [])) = ⊥
AreWrong (Some (word ∷ file ∷ more)) = AreOfNoTask (word ∷ file ∷ more)

-- a value that is no number, or too large, or no step; or no level; or no format; or operands that no task has
abbrev pub IsMalformed : Word → List Row → Type 0
IsMalformed word.Answers rows = (count : ℕ) → ¬ IsCount (value_in word.Answers rows) count
IsMalformed word.Log rows = (level : LevelFilter) → ¬ IsLevel (value_in word.Log rows) level
IsMalformed word.LogFormat rows = (f : LogFormat) → ¬ IsFormat (value_in word.LogFormat rows) f
IsMalformed word.From rows = (step : Option ℕ) → ¬ IsStep (value_in word.From rows) step
IsMalformed word.To rows = (step : Option ℕ) → ¬ IsStep (value_in word.To rows) step
IsMalformed word.TaskAndFile rows = AreWrong (all_of (id_of word.TaskAndFile) rows)
IsMalformed w rows = ⊥

-- what the subcommand must have is not among what was found, or the value is none that it reads; or memory ran out
abbrev pub IsFaultOf : Subcommand → List Row → CliFault → Type 0
IsFaultOf s rows (fault.Asked text) = ⊥
IsFaultOf s rows (fault.Refused text) = ⊥
IsFaultOf s rows (fault.Missing w) = (must_have s w ≡ true) × IsMissing w rows
IsFaultOf s rows (fault.Malformed w) = (reads s w ≡ true) × IsMalformed w rows
IsFaultOf s rows fault.Elsewhere = ⊥
IsFaultOf s rows fault.NotUtf8 = ⊥
IsFaultOf s rows fault.OutOfMemory = Unit {0}

-- the same of the subcommand that clap enters; without one only memory may run out
abbrev pub IsFaultIn : Option (Text × List Row) → CliFault → Type 0
IsFaultIn None f = f ≡ fault.OutOfMemory
IsFaultIn (Some entered) f = (s : Subcommand) × (entered.0 ≡ name_of s) × IsFaultOf s entered.1 f

-- no subcommand of this name
abbrev pub IsUnknown : Option (Text × List Row) → Type 0
IsUnknown None = ⊥
IsUnknown (Some entered) = (s : Subcommand) → entered.0 ≢ name_of s

-- clap shows help or the version in place of matches
abbrev pub IsShown : ErrorKind → Type 0
IsShown kind = (kind ≡ DisplayHelp) ⊎ (kind ≡ DisplayVersion)

-- clap gives no matches, for a fault of one of these kinds; or memory ran out
abbrev pub IsOfKinds : Kinds → CliFault → Type 0
IsOfKinds kinds (fault.Asked text) = (kind : ErrorKind) × IsAmong kind kinds × IsShown kind
IsOfKinds kinds (fault.Refused text) = (kind : ErrorKind) × IsAmong kind kinds × (kind ≢ DisplayHelp) × (kind ≢ DisplayVersion)
IsOfKinds kinds (fault.Missing w) = ⊥
IsOfKinds kinds (fault.Malformed w) = ⊥
IsOfKinds kinds fault.Elsewhere = ⊥
IsOfKinds kinds fault.NotUtf8 = ⊥
IsOfKinds kinds fault.OutOfMemory = Unit {0}

-- why words are refused: by what clap finds at fault, or by what is missing or malformed in what it finds
abbrev pub IsFaultBy : Kinds → Option (Text × List Row) → CliFault → Type 0
IsFaultBy kinds entered f = IsOfKinds kinds f ⊎ IsFaultIn entered f
