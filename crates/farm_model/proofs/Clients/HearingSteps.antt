-- Each step keeps what clients have sent and received on connections of one client; and the connections that were made stay.
use Rattle.std.proofs.Common.{◌≡◌, ℕ, zero, suc, Bool, true, false, cond, List, [], ◌∷◌, ◌++◌, Option, Some, None, refl, sym, subst, ap}
use Rattle.std.specs.Prelude.{slice_get, MatchBool, unwrap_or}
use Rattle.std.specs.List.{find}
use Rattle.dia_base.specs.declared.number.ConnId.{ConnId}
use Rattle.dia_base.specs.declared.number.NodeNo.{NodeNo}
use Rattle.dia_message.specs.declared.message.Message.{Message}
use Rattle.dia_message.specs.Traffic.{Traffic}
use Rattle.front_core.specs.FrontState.{FrontState, is_among}
use Rattle.front_core.specs.FrontStep.{after_pick, after_refusal, after_emit, after_charge}
use Rattle.relay_core.specs.declared.run.RelayEvent.TheVariants.{Received}
use Rattle.farm_law.specs.Lists.{Has}
use Rattle.farm_law.proofs.Lists.{all-end}
use Rattle.farm_base.specs.declared.site.Site.{Site}
use Rattle.farm_model.specs.declared.state.Direction.{Direction}
use Rattle.farm_base.specs.declared.step.Step.{Step}
use Rattle.farm_base.specs.declared.step.Step.TheVariants.{Up, Accept, Opened, Send, Deliver, Lose, Cut, Drop}
use Rattle.farm_base.specs.declared.step.Step.TheVariants.{Restart, Crash, Pick, Charge, Refuse, Emit, Sweep, ChangeTerms}
use Rattle.farm_model.specs.Arrival.{ArrivesAtServer, after_arrival_at_front}
use Rattle.farm_model.specs.SoundSite.{IsSound}
use Rattle.farm_model.specs.FarmStep.{FarmStep, Outcome, Flight, flight_at, Delivers, after_lost_message, after_up, with_new_connection, can_connect}
use Rattle.farm_model.specs.FarmStep.{after_send, after_send_on, with_pick, after_pick_at, after_refusal_at, with_emit, after_emit_at, with_charge}
use Rattle.farm_model.specs.FarmStep.{after_charge_at, DropsIt, can_cut, can_restart, after_accept, after_opened_on, after_opened, opened_if, loss_at}
use Rattle.farm_model.specs.FarmStep.{after_crash_at}
use Rattle.farm_model.specs.Loss.{LossAt, end_with, CutsBoth, after_crash, peers_of, DropAll}
use Rattle.farm_base.specs.Nodes.{is_client}
use Rattle.farm_model.specs.Promise.{HasOneClient}
use Rattle.farm_model.specs.Run.{TellsSame}
use Rattle.farm_model.specs.World.{Ends, WorldState, is_unheard, conn_known, front_at, relay_at}
use Rattle.farm_model.proofs.Clients.Hearing.{HeardIn, tells_heard, at_relay_tells, end_tells, cut_tells, all_drop_tell, up_heard}
use Rattle.farm_model.proofs.Clients.Hearing.{accept_heard, opened_heard, crash_heard, send_heard, lose_heard, pick_at_heard}
use Rattle.farm_model.proofs.Clients.Hearing.{refusal_at_heard, emit_at_heard, charge_at_heard, sweep_heard, change_heard}
use Rattle.farm_model.proofs.Wiring.Joined.{Joins-turned, one_client}
use Rattle.farm_model.proofs.Wiring.Linked.{client_beside}
use Rattle.farm_model.proofs.Wiring.Taken.{taken}
use Rattle.farm_model.proofs.Wiring.Wired.{IsWired}

-- ---- a message comes

module _ (site : Site) (all : Ends) (steps : List Step) (checked : IsSound site) where
  by_front : (w : WorldState) (node : NodeNo) (conn : ConnId) (message : Message) (front : FrontState) (b : Bool) → TellsSame w
      (cond b (after_arrival_at_front w node conn message front) w)
  by_front w node conn message front true = (refl, refl, refl, refl)
  by_front w node conn message front false = (refl, refl, refl, refl)

  at_server_tells : (w : WorldState) (node : NodeNo) (conn : ConnId) (message : Message) (front : Option FrontState) (next : WorldState) → ArrivesAtServer w
      node conn message front next → TellsSame w next
  at_server_tells w node conn message (Some front) next same = subst (TellsSame w) (sym same)
      (by_front w node conn message front (is_among front.connections conn))
  at_server_tells w node conn message None next turn = at_relay_tells w node (Received conn message) (relay_at node w.relays) next turn

  arrives_heard : (w : WorldState) (from node : NodeNo) (conn : ConnId) (message : Message) (next : WorldState) (b : Bool) → is_client site node ≡ b →
      (is_client site node ≡ true → HasOneClient site all conn) → HeardIn site all steps w
      → MatchBool b (next ≡ record w { received = w.received ++ (conn, message) ∷ [] }) (ArrivesAtServer w node conn message (front_at node w.fronts) next) →
      HeardIn site all steps next
  arrives_heard w from node conn message next false e on heard turn = tells_heard w next
      (at_server_tells w node conn message (front_at node w.fronts) next turn) heard
  arrives_heard w from node conn message next true e on heard same = subst (HeardIn site all steps) (sym same) (record {
    senders = heard.senders;
    receivers = all-end (λ (i : ConnId × Message). HasOneClient site all i.0) w.received (conn, message) heard.receivers (on e);
    terms = heard.terms;
    limit = heard.limit;
    sweeps = heard.sweeps;
    changes = heard.changes;
    takes = heard.takes;
  })

  deliver_heard : (old new : WorldState) (applied : Bool) (from to : NodeNo) (place : ℕ) → IsWired site all old → HeardIn site all steps old →
      (flight : Option Flight) → flight_at old.directions from to place ≡ flight → Delivers site old to flight applied new → HeardIn site all steps new
  deliver_heard old new applied from to place wired heard None e d = subst (HeardIn site all steps) (sym d.1) heard
  deliver_heard old new applied from to place wired heard (Some flight) e d =
      let t = taken site all old from to place wired flight e in
      arrives_heard (record old { directions = flight.directions }) from to flight.conn flight.message new (is_client site to) refl
      (λ is. one_client (Joins-turned t.joins) is (client_beside site checked from to t.linked is))
      (record { senders = heard.senders; receivers = heard.receivers; terms = heard.terms; limit = heard.limit; sweeps = heard.sweeps; changes = heard.changes; takes = heard.takes })
      d.1

  -- ---- connections end

  cut_heard : (old new : WorldState) (a b : NodeNo) (applied : Bool) (losses : List LossAt) (c : Bool) → HeardIn site all steps old → MatchBool c
      ((applied ≡ true) × CutsBoth old a b losses new) ((applied ≡ false) × (losses ≡ []) × (new ≡ old)) → HeardIn site all steps new
  cut_heard old new a b applied losses true heard c = tells_heard old new (cut_tells old new a b losses c.1) heard
  cut_heard old new a b applied losses false heard c = subst (HeardIn site all steps) (sym c.2) heard

  drop_heard : (old new : WorldState) (a : NodeNo) (found : Option Direction) (applied : Bool) (losses : List LossAt) → HeardIn site all steps old → DropsIt
      old a found applied losses new → HeardIn site all steps new
  drop_heard old new a found applied losses heard d = tells_heard old new (end_tells old new a found losses d.1) heard

  restart_heard : (old new : WorldState) (node : NodeNo) (applied : Bool) (losses : List LossAt) (b : Bool) → HeardIn site all steps old
      → MatchBool b ((applied ≡ true) × DropAll node (peers_of node old.directions) (after_crash old node) losses new)
      ((applied ≡ false) × (losses ≡ []) × (new ≡ old)) → HeardIn site all steps new
  restart_heard old new node applied losses true heard c = tells_heard (after_crash old node) new (all_drop_tell c.1)
      (record { senders = heard.senders; receivers = heard.receivers; terms = heard.terms; limit = heard.limit; sweeps = heard.sweeps; changes = heard.changes; takes = heard.takes })
  restart_heard old new node applied losses false heard c = subst (HeardIn site all steps) (sym c.2) heard

  -- ---- any step

  pub step_heard : (old new : WorldState) (step : Step) (applied : Bool) (losses : List LossAt) → FarmStep site old step applied losses new → Has step steps →
      IsWired site all old → HeardIn site all steps old → HeardIn site all steps new
  step_heard old new (Up a b) applied losses s is_step wired heard = up_heard site all steps checked old new applied wired heard a b s.0
  step_heard old new (Accept at from) applied losses s is_step wired heard = accept_heard site all steps checked old new applied wired heard at from s.0
  step_heard old new (Opened a b) applied losses s is_step wired heard = opened_heard site all steps checked old new applied wired heard a b s.0
  step_heard old new (Send client to message) applied losses s is_step wired heard = send_heard site all steps checked old new applied wired heard client to
      message s.0
  step_heard old new (Deliver from to place) applied losses s is_step wired heard = deliver_heard old new applied from to place wired heard
      (flight_at old.directions from to place) refl s.0
  step_heard old new (Lose from to place) applied losses s is_step wired heard = lose_heard site all steps checked old new applied wired heard
      (loss_at old.directions from to place) s.0
  step_heard old new (Cut a b) applied losses s is_step wired heard = cut_heard old new a b applied losses (can_cut old a b) heard s
  step_heard old new (Drop a b) applied losses s is_step wired heard = drop_heard old new a (end_with old.directions a b) applied losses heard s
  step_heard old new (Crash node) applied losses s is_step wired heard = crash_heard site all steps checked old new applied wired heard node s.0
  step_heard old new (Restart node) applied losses s is_step wired heard = restart_heard old new node applied losses (can_restart site node) heard s
  step_heard old new (Pick front worker) applied losses s is_step wired heard = pick_at_heard site all steps checked old new applied wired heard front worker
      (front_at front old.fronts) s.0
  step_heard old new (Charge front worker moment) applied losses s is_step wired heard = charge_at_heard site all steps checked old new applied wired heard
      front worker moment (front_at front old.fronts) (front, worker, is_step) s.0
  step_heard old new (Refuse front worker) applied losses s is_step wired heard = refusal_at_heard site all steps checked old new applied wired heard front
      worker (front_at front old.fronts) s.0
  step_heard old new (Emit front worker) applied losses s is_step wired heard = emit_at_heard site all steps checked old new applied wired heard front worker
      (front_at front old.fronts) s.0
  step_heard old new (Sweep moment) applied losses s is_step wired heard = sweep_heard site all steps checked old new applied wired heard moment is_step s.0
  step_heard old new (ChangeTerms moment change) applied losses s is_step wired heard =
      change_heard site all steps checked old new applied wired heard moment change is_step s.0

-- ---- connections that were made stay

abbrev pub MoreEnds : Ends → Ends → Type 0
MoreEnds old new = (place : ℕ) (nodes : NodeNo × NodeNo) → slice_get old place ≡ Some nodes → slice_get new place ≡ Some nodes

same_ends : (old new : Ends) → new ≡ old → MoreEnds old new
same_ends old new e place nodes h = subst (λ (ends : Ends). slice_get ends place ≡ Some nodes) (sym e) h

more_ends : (old : Ends) (nodes : NodeNo × NodeNo) → MoreEnds old (old ++ nodes ∷ [])
more_ends [] nodes place found h = absurd cc
more_ends (first ∷ rest) nodes zero found h = h
more_ends (first ∷ rest) nodes (suc place) found h = more_ends rest nodes place found h

module _ (site : Site) (old new : WorldState) (applied : Bool) where
  outcome_ends : (found : Option WorldState) → ((next : WorldState) → found ≡ Some next → MoreEnds old.ends next.ends) → Outcome found applied old new →
      MoreEnds old.ends new.ends
  outcome_ends None f out = same_ends old.ends new.ends (ap (λ (w : WorldState). w.ends) out.1)
  outcome_ends (Some next) f out = subst (λ (w : WorldState). MoreEnds old.ends w.ends) (sym out.1) (f next refl)

  same_outcome : (found : Option WorldState) → ((next : WorldState) → found ≡ Some next → next.ends ≡ old.ends) → Outcome found applied old new → MoreEnds
      old.ends new.ends
  same_outcome found f out = outcome_ends found (λ next e. same_ends old.ends next.ends (f next e)) out

  of_some : {next next' : WorldState} → Some next ≡ Some next' → next'.ends ≡ next.ends
  of_some e = sym (ap (λ (o : Option WorldState). (unwrap_or o old).ends) e)

  on_ends : (w next : WorldState) (a b : NodeNo) (found : Option Direction) → after_opened_on w a b found ≡ Some next → next.ends ≡ w.ends
  on_ends w next a b None e = absurd cc
  on_ends w next a b (Some direction) e = of_some e

  up_ends : (a b : NodeNo) → Outcome (after_up site old a b) applied old new → MoreEnds old.ends new.ends
  up_ends a b out = outcome_ends (after_up site old a b) (λ next e. go next (can_connect site old a b) e) out
    where
      go : (next : WorldState) (c : Bool) → opened_if a b (cond c (Some (with_new_connection old a b)) None) ≡ Some next → MoreEnds old.ends next.ends
      go next true e = subst (λ (ends : Ends). MoreEnds old.ends ends)
          (sym (on_ends (with_new_connection old a b) next a b (find (is_unheard b a) (with_new_connection old a b).directions) e)) (more_ends old.ends (a, b))
      go next false e = absurd cc

  accept_ends : (at from : NodeNo) → Outcome (after_accept site old at from) applied old new → MoreEnds old.ends new.ends
  accept_ends at from out = outcome_ends (after_accept site old at from) (λ next e. go next (can_connect site old from at) e) out
    where
      go : (next : WorldState) (c : Bool) → cond c (Some (with_new_connection old from at)) None ≡ Some next → MoreEnds old.ends next.ends
      go next true e = subst (λ (ends : Ends). MoreEnds old.ends ends) (sym (of_some e)) (more_ends old.ends (from, at))
      go next false e = absurd cc

  opened_ends : (a b : NodeNo) → Outcome (after_opened old a b) applied old new → MoreEnds old.ends new.ends
  opened_ends a b out = same_outcome (after_opened old a b) (λ next e. on_ends old next a b (find (is_unheard b a) old.directions) e) out

  crash_ends : (node : NodeNo) → Outcome (after_crash_at site old node) applied old new → MoreEnds old.ends new.ends
  crash_ends node out = same_outcome (after_crash_at site old node) (λ next e. go next (can_restart site node) e) out
    where
      go : (next : WorldState) (c : Bool) → cond c (Some (after_crash old node)) None ≡ Some next → next.ends ≡ old.ends
      go next true e = of_some e
      go next false e = absurd cc

  send_ends : (client to : NodeNo) (message : Message) → Outcome (after_send site old client to message) applied old new → MoreEnds old.ends new.ends
  send_ends client to message out = same_outcome (after_send site old client to message)
      (λ next e. go next (is_client site client) (conn_known old.directions client to) e) out
    where
      go : (next : WorldState) (c : Bool) (conn : Option ConnId) → cond c (after_send_on old client message conn) None ≡ Some next → next.ends ≡ old.ends
      go next true None e = absurd cc
      go next true (Some conn) e = of_some e
      go next false conn e = absurd cc

  pick_ends : (node : NodeNo) (front : Option FrontState) → Outcome (with_pick old node front) applied old new → MoreEnds old.ends new.ends
  pick_ends node front out = same_outcome (with_pick old node front) (λ next e. go next front e) out
    where
      go : (next : WorldState) (f : Option FrontState) → with_pick old node f ≡ Some next → next.ends ≡ old.ends
      go next None e = absurd cc
      go next (Some f) e = of_some e

  pick_at_ends : (node : NodeNo) (worker : ℕ) (front : Option FrontState) → Outcome (after_pick_at old node worker front) applied old new → MoreEnds old.ends
      new.ends
  pick_at_ends node worker None out = pick_ends node None out
  pick_at_ends node worker (Some front) out = pick_ends node (after_pick front worker) out

  refusal_at_ends : (node : NodeNo) (worker : ℕ) (front : Option FrontState) → Outcome (after_refusal_at old node worker front) applied old new → MoreEnds
      old.ends new.ends
  refusal_at_ends node worker None out = pick_ends node None out
  refusal_at_ends node worker (Some front) out = pick_ends node (after_refusal front worker) out

  emit_ends : (node : NodeNo) (turn : Option (FrontState × Traffic)) → Outcome (with_emit old node turn) applied old new → MoreEnds old.ends new.ends
  emit_ends node turn out = same_outcome (with_emit old node turn) (λ next e. go next turn e) out
    where
      go : (next : WorldState) (t : Option (FrontState × Traffic)) → with_emit old node t ≡ Some next → next.ends ≡ old.ends
      go next None e = absurd cc
      go next (Some t) e = of_some e

  emit_at_ends : (node : NodeNo) (worker : ℕ) (front : Option FrontState) → Outcome (after_emit_at old node worker front) applied old new → MoreEnds old.ends
      new.ends
  emit_at_ends node worker None out = emit_ends node None out
  emit_at_ends node worker (Some front) out = emit_ends node (after_emit front worker) out

  charge_ends : (node : NodeNo) (turn : Option _) → Outcome (with_charge old node turn) applied old new → MoreEnds old.ends new.ends
  charge_ends node turn out = same_outcome (with_charge old node turn) (λ next e. go next turn e) out
    where
      go : (next : WorldState) (t : Option _) → with_charge old node t ≡ Some next → next.ends ≡ old.ends
      go next None e = absurd cc
      go next (Some t) e = of_some e

  charge_at_ends : (node : NodeNo) (worker : ℕ) (moment : _) (front : Option FrontState) → Outcome (after_charge_at old node worker moment front) applied old
      new → MoreEnds old.ends new.ends
  charge_at_ends node worker moment None out = charge_ends node None out
  charge_at_ends node worker moment (Some front) out = charge_ends node (after_charge front old.book moment worker) out

  lose_ends : (flight : Option Flight) → Outcome (after_lost_message old flight) applied old new → MoreEnds old.ends new.ends
  lose_ends None out = same_ends old.ends new.ends (ap (λ (w : WorldState). w.ends) out.1)
  lose_ends (Some flight) out = same_ends old.ends new.ends (ap (λ (w : WorldState). w.ends) out.1)

  deliver_ends : (to : NodeNo) (flight : Option Flight) (checked : IsSound site) → Delivers site old to flight applied new → MoreEnds old.ends new.ends
  deliver_ends to None checked d = same_ends old.ends new.ends (ap (λ (w : WorldState). w.ends) d.1)
  deliver_ends to (Some flight) checked d = go (is_client site to) d.1
    where
      w : WorldState
      w = record old { directions = flight.directions }

      go : (b : Bool) → MatchBool b (new ≡ record w { received = w.received ++ (flight.conn, flight.message) ∷ [] })
          (ArrivesAtServer w to flight.conn flight.message (front_at to w.fronts) new) → MoreEnds old.ends new.ends
      go true same = same_ends old.ends new.ends (ap (λ (v : WorldState). v.ends) same)
      go false turn = same_ends old.ends new.ends (at_server_tells site new.ends [] checked w to flight.conn flight.message (front_at to w.fronts) new turn).3

  cut_ends : (a b : NodeNo) (losses : List LossAt) (c : Bool) → MatchBool c ((applied ≡ true) × CutsBoth old a b losses new)
      ((applied ≡ false) × (losses ≡ []) × (new ≡ old)) → MoreEnds old.ends new.ends
  cut_ends a b losses true c = same_ends old.ends new.ends (cut_tells old new a b losses c.1).3
  cut_ends a b losses false c = same_ends old.ends new.ends (ap (λ (w : WorldState). w.ends) c.2)

  drop_ends : (a : NodeNo) (found : Option Direction) (losses : List LossAt) → DropsIt old a found applied losses new → MoreEnds old.ends new.ends
  drop_ends a found losses d = same_ends old.ends new.ends (end_tells old new a found losses d.1).3

  restart_ends : (node : NodeNo) (losses : List LossAt) (b : Bool) → MatchBool b
      ((applied ≡ true) × DropAll node (peers_of node old.directions) (after_crash old node) losses new)
      ((applied ≡ false) × (losses ≡ []) × (new ≡ old)) → MoreEnds old.ends new.ends
  restart_ends node losses true c = same_ends old.ends new.ends (all_drop_tell c.1).3
  restart_ends node losses false c = same_ends old.ends new.ends (ap (λ (w : WorldState). w.ends) c.2)

pub step_ends : (site : Site) (checked : IsSound site) (old new : WorldState) (step : Step) (applied : Bool) (losses : List LossAt) → FarmStep site old step
    applied losses new → MoreEnds old.ends new.ends
step_ends site checked old new (Up a b) applied losses s = up_ends site old new applied a b s.0
step_ends site checked old new (Accept at from) applied losses s = accept_ends site old new applied at from s.0
step_ends site checked old new (Opened a b) applied losses s = opened_ends site old new applied a b s.0
step_ends site checked old new (Send client to message) applied losses s = send_ends site old new applied client to message s.0
step_ends site checked old new (Deliver from to place) applied losses s = deliver_ends site old new applied to (flight_at old.directions from to place) checked
    s.0
step_ends site checked old new (Lose from to place) applied losses s = lose_ends site old new applied (loss_at old.directions from to place) s.0
step_ends site checked old new (Cut a b) applied losses s = cut_ends site old new applied a b losses (can_cut old a b) s
step_ends site checked old new (Drop a b) applied losses s = drop_ends site old new applied a (end_with old.directions a b) losses s
step_ends site checked old new (Crash node) applied losses s = crash_ends site old new applied node s.0
step_ends site checked old new (Restart node) applied losses s = restart_ends site old new applied node losses (can_restart site node) s
step_ends site checked old new (Pick front worker) applied losses s = pick_at_ends site old new applied front worker (front_at front old.fronts) s.0
step_ends site checked old new (Charge front worker moment) applied losses s = charge_at_ends site old new applied front worker moment
    (front_at front old.fronts) s.0
step_ends site checked old new (Refuse front worker) applied losses s = refusal_at_ends site old new applied front worker (front_at front old.fronts) s.0
step_ends site checked old new (Emit front worker) applied losses s = emit_at_ends site old new applied front worker (front_at front old.fronts) s.0
step_ends site checked old new (Sweep moment) applied losses s = same_ends old.ends new.ends (ap (λ (w : WorldState). w.ends) s.0.1)
step_ends site checked old new (ChangeTerms moment change) applied losses s = same_ends old.ends new.ends (ap (λ (w : WorldState). w.ends) s.0.1)
