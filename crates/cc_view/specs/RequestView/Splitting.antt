-- Octets that may be no list of AVPs.
use Rattle.std.specs.Prelude.{Option, Some, None, Result, Ok, Err, alloc_error}
use Rattle.std.specs.Global.{Vec}
use Rattle.std.specs.declared.alloc.AllocError.{AllocError}
use Rattle.dia_avp.specs.declared.avp.RawAvp.{RawAvp}
use Rattle.dia_avp.specs.declared.fault.AvpFault.{AvpFault}
use Rattle.dia_avp.specs.declared.fault.AvpFault.TheVariants.{OutOfMemory}

-- the AVPs of a split, none for a fault of the octets
abbrev pub readable_of : Result (Vec RawAvp) AvpFault → Result (Option (Vec RawAvp)) AllocError
readable_of (Ok avps) = Ok (Some avps)
readable_of (Err OutOfMemory) = Err alloc_error
readable_of (Err fault) = Ok None
