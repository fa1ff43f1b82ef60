-- A front between two events.
use Rattle.std.specs.Prelude.{Bool, ◌==◌, List, [], replicate}
use Rattle.std.specs.List.{list_any}
use Rattle.dia_base.specs.declared.number.ConnId.{ConnId}
use Rattle.front_core.specs.declared.site.FrontSite.{FrontSite}
use Rattle.front_core.specs.declared.worker.Job.{Job}
use Rattle.front_core.specs.declared.worker.Worker.{Worker}
use Rattle.front_core.specs.declared.worker.Worker.TheVariants.{Idle}

pub record FrontState : Type 0 where
  pub site : FrontSite
  pub connections : List ConnId
  -- the requests that wait, the first to come first
  pub queue : List Job
  pub workers : List Worker

-- a front before its first event
abbrev pub new_front : FrontSite → FrontState
new_front site = record { site = site; connections = []; queue = []; workers = replicate site.workers Idle }

-- whether the connection is one of these
abbrev pub is_among : List ConnId → ConnId → Bool
is_among conns conn = list_any (λ c. c.0 == conn.0) conns
