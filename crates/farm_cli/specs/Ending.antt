-- How the program ends, and what it tells.
use Rattle.std.specs.Prelude.{Some, None, Result, Ok, Err}
use Rattle.farm_command.specs.Ending.{status_of as words_status}
use Rattle.farm_command.specs.declared.status.Status.{Status}
use Rattle.farm_command.specs.declared.status.Status.TheVariants as status
use Rattle.farm_cli.specs.declared.ending.Ending.{Ending}
use Rattle.farm_cli.specs.declared.fault.Fault.{Fault}
use Rattle.farm_cli.specs.declared.fault.Fault.TheVariants.{Words, SiteFile, Site, Replay}
use Rattle.farm_cli.specs.declared.replay.ReplayFault.{ReplayFault}
use Rattle.farm_cli.specs.declared.replay.ReplayFault.TheVariants.{Read, Write, Script, OutOfMemory}
use Rattle.farm_script.specs.declared.fault.ScriptFault.TheVariants.{Line}
use Rattle.farm_script.specs.declared.fault.LineFault.TheVariants.{OutOfMemory as no_memory}
use Rattle.farm_site.specs.declared.fault.SiteFault.TheVariants.{OutOfMemory as no_memory_for_site}

-- a stream has failed, a schedule is refused, or memory ran out, at a line of the schedule too
abbrev pub replay_status : ReplayFault → Status
replay_status Read = status.Failed
replay_status Write = status.Failed
replay_status (Script (Line number no_memory)) = status.OutOfMemory
replay_status (Script fault) = status.Refused
replay_status OutOfMemory = status.OutOfMemory

-- as the words are refused; a site file cannot be read, or is refused; or by the run
abbrev pub status_of : Fault → Status
status_of (Words fault) = words_status fault
status_of SiteFile = status.Failed
status_of (Site no_memory_for_site) = status.OutOfMemory
status_of (Site fault) = status.Refused
status_of (Replay fault) = replay_status fault

-- done without a word, or by a fault, which is told
abbrev pub ending_of : Result (Unit {0}) Fault → Ending
ending_of (Ok done) = record { status = status.Done; told = None }
ending_of (Err fault) = record { status = status_of fault; told = Some fault }
