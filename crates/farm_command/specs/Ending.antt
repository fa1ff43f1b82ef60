-- How a program ends: its exit status, and on which stream it tells why.
use Rattle.std.specs.Prelude.{ℕ}
use Rattle.farm_command.specs.declared.fault.CliFault.{CliFault}
use Rattle.farm_command.specs.declared.fault.CliFault.TheVariants as fault
use Rattle.farm_command.specs.declared.status.Status.{Status}
use Rattle.farm_command.specs.declared.status.Status.TheVariants.{Done, Failed, Misused, Refused, OutOfMemory}
use Rattle.farm_command.specs.declared.status.Stream.{Stream}
use Rattle.farm_command.specs.declared.status.Stream.TheVariants.{Output, Error}

-- the exit status
abbrev pub code_of : Status → ℕ
code_of Done = 0
code_of Failed = 1
code_of Misused = 2
code_of Refused = 3
code_of OutOfMemory = 4

-- what was asked for is output, a fault is none
abbrev pub stream_of : Status → Stream
stream_of Done = Output
stream_of Failed = Error
stream_of Misused = Error
stream_of Refused = Error
stream_of OutOfMemory = Error

-- of words that are no command
abbrev pub status_of : CliFault → Status
status_of (fault.Asked text) = Done
status_of (fault.Refused text) = Misused
status_of (fault.Missing word) = Misused
status_of (fault.Malformed word) = Misused
status_of fault.Elsewhere = Misused
status_of fault.NotUtf8 = Misused
status_of fault.OutOfMemory = OutOfMemory
