-- Which connections have ended as one of their ends wished, and not by a fault.
use Rattle.std.specs.Prelude.{Bool, true, false, Option, Some, None}
use Rattle.farm_net.specs.declared.loss.Loss.{Loss}
use Rattle.farm_net.specs.declared.loss.Loss.TheVariants as loss
use Rattle.farm_connections.specs.declared.end.End.{End}
use Rattle.farm_connections.specs.declared.end.End.TheVariants as end
use Rattle.farm_watch.specs.declared.cause.DisconnectCause.{DisconnectCause}

-- Its other end has closed it behind a goodbye; where that has said none, what it closes is lost.
abbrev pub is_parting : Loss → Option DisconnectCause → Bool
is_parting loss.End (Some cause) = true
is_parting _ farewell = false

-- one of its ends has ended it by an exchange of goodbyes, or by closing it behind one
abbrev pub is_wished : End → Option DisconnectCause → Bool
is_wished end.Disconnected farewell = true
is_wished end.Closed farewell = true
is_wished (end.Loss how) farewell = is_parting how farewell
is_wished _ farewell = false
