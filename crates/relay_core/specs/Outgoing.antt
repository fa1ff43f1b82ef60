-- A request as it goes out, as the code holds it: what says which nodes it has passed.
use Rattle.std.specs.Prelude.{ℕ, Bool, false, List, Option, Some, None}
use Rattle.std.specs.Option.{option_copied}
use Rattle.dia_base.specs.Folding.{same_folded}
use Rattle.dia_avp.specs.declared.avp.RawAvp.{RawAvp}
use Rattle.relay_core.specs.declared.outgoing.Outgoing.{Outgoing}
use Rattle.relay_core.specs.NextHop.{outgoing}
use Rattle.relay_core.specs.Reading.{avps_in_part}

-- its AVPs from the first Route-Record on
abbrev pub drawn : Outgoing → List RawAvp
drawn going = outgoing (option_copied going.sender) (avps_in_part (option_copied going.records))

-- it has just come from the node of this name
abbrev pub is_from : List ℕ → Option (List ℕ) → Bool
is_from name (Some sender) = same_folded sender name
is_from name None = false
