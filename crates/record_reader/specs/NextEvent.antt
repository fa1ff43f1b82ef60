-- The event that stands next in a record.
use Rattle.std.specs.Prelude.{◌≡◌, List, ℕ, [], Option, Some, None, Result, Ok, Err}
use Rattle.farm_base.specs.declared.site.Site.{Site}
use Rattle.farm_record.specs.declared.event.Event.{Event}
use Rattle.farm_script.specs.declared.fault.LineFault.{LineFault}
use Rattle.farm_script.specs.declared.fault.LineFault.TheVariants.{OutOfMemory}
use Rattle.record_reader.specs.Reading.{Said, said_of}
use Rattle.record_reader.specs.Telling.{followed, said_in_record}
use Rattle.record_reader.specs.declared.group.GroupFault.{GroupFault}

-- where it is known what is left of a record: it says this, and behind it what is left then
abbrev pub IsSaidFirst : Site → Said → Option (List ℕ) → Option (List ℕ) → Type 0
IsSaidFirst site said None new = Unit {0}
IsSaidFirst site said (Some octets) None = ⊥
IsSaidFirst site said (Some octets) (Some others) = said_in_record site octets ≡ followed said (said_in_record site others)

-- it says nothing more
abbrev pub SaysNothing : Site → Option (List ℕ) → Type 0
SaysNothing site None = Unit {0}
SaysNothing site (Some octets) = said_in_record site octets ≡ Ok []

-- its first fault is this
abbrev pub HasFault : Site → LineFault → Option (List ℕ) → Type 0
HasFault site fault None = Unit {0}
HasFault site fault (Some octets) = said_in_record site octets ≡ Err fault

abbrev pub IsFaultUnlessMemory : Site → LineFault → Option (List ℕ) → Type 0
IsFaultUnlessMemory site OutOfMemory old = Unit {0}
IsFaultUnlessMemory site fault old = HasFault site fault old

-- the next event, or none where the record says none more
abbrev pub GivesNext : Site → Option (List ℕ) → Option (List ℕ) → Result (Option Event) GroupFault → Type 0
GivesNext site old new (Ok (Some event)) = IsSaidFirst site (said_of event) old new
GivesNext site old new (Ok None) = SaysNothing site old
GivesNext site old new (Err (GroupFault.Words fault)) = IsFaultUnlessMemory site fault old
GivesNext site old new (Err fault) = Unit {0}

-- what is left says the same
abbrev pub SaysTheSame : Site → Option (List ℕ) → Option (List ℕ) → Type 0
SaysTheSame site None new = Unit {0}
SaysTheSame site (Some octets) None = ⊥
SaysTheSame site (Some octets) (Some others) = said_in_record site octets ≡ said_in_record site others
