-- What comes of a schedule that is read from a stream.
use Rattle.std.specs.Prelude.{◌≡◌, ◌≤◌, ℕ, List, length, Result, Ok, Err}
use Rattle.std.specs.Str.Lines.{lines}
use Rattle.farm_cli.specs.declared.replay.ReplayFault.{ReplayFault}
use Rattle.farm_cli.specs.declared.replay.ReplayFault.TheVariants.{Read, Write, Script, OutOfMemory}
use Rattle.farm_script.specs.declared.fault.ScriptFault.{ScriptFault}
use Rattle.farm_script.specs.declared.fault.ScriptFault.TheVariants.{Line}
use Rattle.farm_script.specs.declared.fault.LineFault.TheVariants.{OutOfMemory as no_memory}
use Rattle.farm_text.specs.declared.reading.ReadFault.{ReadFault}
use Rattle.farm_text.specs.declared.reading.ReadFault.TheVariants.{Failed, OutOfMemory as no_memory_for_text}
use Rattle.farm_base.specs.declared.site.Site.{Site}
use Rattle.farm_base.specs.declared.step.Step.{Step}
use Rattle.farm_model.specs.declared.state.Trace.{Trace}
use Rattle.farm_script.specs.Schedule.{steps_of, NoneBefore}
use Rattle.farm_model.specs.Promise.{IsPromised}
use Rattle.farm_cli.specs.Output.{output_of}
use Rattle.farm_command.specs.declared.command.Action.{Action}

-- this is what the action prints of a run of the steps, which keeps what is promised
pub record Prints (action : Action) (site : Site) (steps : List Step) (printed : List ℕ) : Type 0 where
  pub trace : Trace
  pub promised : IsPromised site steps trace
  pub output : printed ≡ output_of action site (length steps) trace

-- the octets are a schedule, and this is what the action prints of a run of its steps, which keeps what is promised
pub record Replays (action : Action) (site : Site) (octets printed : List ℕ) : Type 0 where
  pub steps : List Step
  pub spelled : steps_of site octets ≡ Ok steps
  pub trace : Trace
  pub promised : IsPromised site steps trace
  pub output : printed ≡ output_of action site (length steps) trace

-- the octets are no schedule, by this fault; or memory ran out at one of their lines, before which none has a fault
abbrev pub IsRefused : Site → List ℕ → ScriptFault → Type 0
IsRefused site octets (Line number no_memory) = NoneBefore number (steps_of site octets) × (1 ≤ number) × (number ≤ length (lines octets))
IsRefused site octets fault = steps_of site octets ≡ Err fault

-- the schedule was read: neither did reading fail, nor did memory run out
abbrev pub WasRead : Result (Unit {0}) ReplayFault → Type 0
WasRead (Ok done) = Unit {0}
WasRead (Err Read) = ⊥
WasRead (Err OutOfMemory) = ⊥
WasRead (Err Write) = Unit {0}
WasRead (Err (Script fault)) = Unit {0}

-- what a fault of reading is to the program
abbrev pub of_reading : ReadFault → ReplayFault
of_reading Failed = Read
of_reading no_memory_for_text = OutOfMemory

-- what comes of a text that was read: neither stream can fail
abbrev pub IsOfText : ReplayFault → Type 0
IsOfText (Script fault) = Unit {0}
IsOfText OutOfMemory = Unit {0}
IsOfText Read = ⊥
IsOfText Write = ⊥
