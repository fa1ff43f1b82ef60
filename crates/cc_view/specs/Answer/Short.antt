-- AVPs that are short enough to be written.
use Rattle.std.specs.Prelude.{◌<◌, ◌^◌}
use Rattle.dia_avp.specs.declared.avp.RawAvp.{RawAvp}
use Rattle.dia_avp.specs.AvpList.{length_of}

-- its length fits the 3 octets of the header's field
abbrev pub IsShort : RawAvp → Type 0
IsShort avp = length_of avp < 2 ^ 24
