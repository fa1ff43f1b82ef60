-- What happens to a front at a step of the farm, event by event, and what the front does then.
use Rattle.std.specs.Prelude.{◌≡◌, List, [], ◌∷◌, ◌++◌, map, Some, if◌then◌else◌}
use Rattle.dia_base.specs.declared.number.NodeNo.{NodeNo}
use Rattle.dia_message.specs.declared.message.Out.{Out}
use Rattle.cc_book.specs.Taking.{Ledger}
use Rattle.front_core.specs.declared.event.FrontEvent.{FrontEvent}
use Rattle.front_core.specs.declared.event.FrontEvent.TheVariants.{Message}
use Rattle.front_core.specs.FrontRun.{after_event}
use Rattle.front_core.specs.FrontState.{FrontState}
use Rattle.relay_core.specs.declared.run.RelayEvent.{RelayEvent}
use Rattle.relay_core.specs.declared.run.RelayEvent.TheVariants.{Up, Received, Lost, Restart}
use Rattle.farm_base.specs.declared.site.Site.{Site}
use Rattle.farm_base.specs.declared.step.Step.{Step}
use Rattle.farm_base.specs.declared.step.Step.TheVariants.{Pick, Charge, Refuse, Emit}
use Rattle.farm_base.specs.Nodes.{is_node}
use Rattle.farm_model.specs.RelayRuns.{events_at, PutsInFlight}
use Rattle.farm_model.specs.Run.{Transition}
use Rattle.farm_model.specs.World.{WorldState, front_at}

-- what happens to any node, as an event of a front: a front is not told who is at the other end
abbrev pub as_front_event : RelayEvent → FrontEvent
as_front_event (Up peer conn) = Rattle.front_core.specs.declared.event.FrontEvent.TheVariants.Up conn
as_front_event (Received conn message) = Message conn message
as_front_event (Lost conn) = Rattle.front_core.specs.declared.event.FrontEvent.TheVariants.Lost conn
as_front_event Restart = Rattle.front_core.specs.declared.event.FrontEvent.TheVariants.Restart

-- what a worker of it does
abbrev pub worker_events : NodeNo → Step → List FrontEvent
worker_events node (Pick front worker) = if is_node front node then Rattle.front_core.specs.declared.event.FrontEvent.TheVariants.Pick worker ∷ [] else []
worker_events node (Charge front worker moment) =
    if is_node front node then Rattle.front_core.specs.declared.event.FrontEvent.TheVariants.Charge worker moment ∷ [] else []
worker_events node (Refuse front worker) = if is_node front node then Rattle.front_core.specs.declared.event.FrontEvent.TheVariants.Refuse worker ∷ [] else []
worker_events node (Emit front worker) = if is_node front node then Rattle.front_core.specs.declared.event.FrontEvent.TheVariants.Emit worker ∷ [] else []
worker_events node step = []

-- One thing or nothing.
abbrev pub front_events_at : Site → NodeNo → Step → WorldState → List FrontEvent
front_events_at site node step w = map as_front_event (events_at site node step w) ++ worker_events node step

-- a front after these events, with the book as it is, and what it has sent at each
abbrev pub front_after : FrontState → Ledger → List FrontEvent → FrontState
front_after front book [] = front
front_after front book (event ∷ events) = front_after (after_event front book event).front book events

abbrev pub front_outs : FrontState → Ledger → List FrontEvent → List Out
front_outs front book [] = []
front_outs front book (event ∷ events) = record { items = (after_event front book event).sent } ∷ front_outs (after_event front book event).front book events

-- The front has done what a front does at what happened to it, and nothing else has changed it. What it sent then is what
-- was put in flight on its connections.
pub record KeepsFront (site : Site) (t : Transition) (node : NodeNo) (front : FrontState) : Type 0 where
  pub stands : front_at node t.after.fronts ≡ Some (front_after front t.before.book (front_events_at site node t.step t.before))
  pub sends : PutsInFlight site node t (front_outs front t.before.book (front_events_at site node t.step t.before))

-- so it is with each front
abbrev pub KeepsFronts : Site → Transition → Type 0
KeepsFronts site t = (node : NodeNo) (front : FrontState) → front_at node t.before.fronts ≡ Some front → KeepsFront site t node front
