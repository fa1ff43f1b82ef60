-- Requests that workers have refused, for a log.
use Rattle.std.specs.Prelude.{List, [], Bool, false}
use Rattle.farm_node.specs.declared.refused.Refused.{Refused}

-- Those that are not logged yet, the oldest first, and whether those are kept too that credit control itself refused.
pub record RefusalsState : Type 0 where
  pub waiting : List Refused
  pub keeps_credit : Bool

-- none yet
abbrev pub no_refusals : RefusalsState
no_refusals = record { waiting = []; keeps_credit = false }
