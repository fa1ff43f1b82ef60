-- What holds between two steps of a run, with the connections of the whole run.
use Rattle.std.proofs.Common.{◌≡◌, true, List}
use Rattle.std.specs.Prelude.{◌⊎◌}
use Rattle.dia_base.specs.declared.number.NodeNo.{NodeNo}
use Rattle.farm_law.specs.Farm.{Refused}
use Rattle.farm_law.specs.Invariant.{IsKept}
use Rattle.farm_law.specs.Lists.{Has}
use Rattle.farm_law.specs.Tally.{OwesEach}
use Rattle.farm_base.specs.declared.site.Site.{Site}
use Rattle.farm_model.specs.Applying.{AppliesWhereItCan}
use Rattle.farm_model.specs.BookAndEnds.{KeepsBookAndEnds}
use Rattle.farm_model.specs.Cause.{HasCause}
use Rattle.farm_model.specs.FrontTurns.{KeepsFronts}
use Rattle.farm_model.specs.InFlight.{KeepsTraffic}
use Rattle.farm_base.specs.Nodes.{is_front, is_relay}
use Rattle.farm_model.specs.Promise.{RefusesLoop, RefusesWhatComesBack, AppliedOrChangedNothing}
use Rattle.farm_model.specs.RelayRuns.{last_of}
use Rattle.farm_model.specs.Run.{Past, Transition, start, steps_in}
use Rattle.farm_model.specs.SetUp.{KeepsSetUp}
use Rattle.farm_model.specs.SmallSteps.{AppliesInSmallSteps}
use Rattle.farm_model.specs.World.{Ends, WorldState}
use Rattle.farm_model.proofs.Wiring.Apart.{AreApart}
use Rattle.farm_model.proofs.Moves.AsFarm.{parties, farm_of}
use Rattle.farm_model.proofs.Moves.FrontRequests.{QueuesHoldRequests}
use Rattle.farm_model.proofs.SetUp.FrontsStand.{FrontsStand}
use Rattle.farm_model.proofs.Clients.Hearing.{HeardIn}
use Rattle.farm_model.proofs.Wiring.KnowsPeers.{KnowsPeers}
use Rattle.farm_model.proofs.Relays.RelaysRun.{HasRun}
use Rattle.farm_model.proofs.Loops.SendingOn.{SendsOn}
use Rattle.farm_model.proofs.Wiring.Sides.{sides}
use Rattle.farm_model.proofs.Wiring.Wired.{IsWired}

-- a node of the site that answers requests
abbrev pub IsServer : Site → NodeNo → Type 0
IsServer site node = (is_front site node ≡ true) ⊎ (is_relay site node ≡ true)

-- a transition of the run shows why a request was refused
pub record IsCaused (site : Site) (past : Past) (r : Refused) : Type 0 where
  pub transition : Transition
  pub passed : Has transition past
  pub cause : HasCause transition r.node r.conn r.request r.refusal
  pub server : IsServer site r.node

pub record RunHolds (site : Site) (all : Ends) (past : Past) (w : WorldState) : Type 0 where
  pub refused : List Refused
  pub kept : IsKept (parties site all) (farm_of all refused w)
  pub caused : (r : Refused) → Has r refused → IsCaused site past r
  pub owed : OwesEach (parties site all) (farm_of all refused w)
  pub wired : IsWired site all w
  pub requests : QueuesHoldRequests w.fronts
  pub knows : KnowsPeers site w
  pub heard : HeardIn site all (steps_in past) w
  pub apart : AreApart (sides w.directions)
  pub stand : FrontsStand site w
  pub set_up : (t : Transition) → Has t past → KeepsSetUp site t
  pub sends_on : (t : Transition) → Has t past → SendsOn site t
  pub loops : (t : Transition) → Has t past → RefusesLoop site t
  pub come_back : (t : Transition) → Has t past → RefusesWhatComesBack site t
  pub traffic : (t : Transition) → Has t past → KeepsTraffic site t
  pub skipped : (t : Transition) → Has t past → AppliedOrChangedNothing t
  pub applied : (t : Transition) → Has t past → AppliesWhereItCan site t
  pub small_steps : (t : Transition) → Has t past → AppliesInSmallSteps site t
  pub book_and_ends : (t : Transition) → Has t past → KeepsBookAndEnds site t
  pub fronts : (t : Transition) → Has t past → KeepsFronts site t
  pub last : last_of (start site) past ≡ w
  pub relays : (node : NodeNo) → is_relay site node ≡ true → HasRun site node past w
