-- What holds between two steps holds as the run goes on, so that each run keeps the promise.
use Rattle.std.proofs.Common.{◌≡◌, ℕ, true, List, [], ◌∷◌, ◌++◌, Option, Some, None, inl, inr, refl, sym, subst, ap, ◌∙◌, append_assoc, append-nil, arith}
use Rattle.std.specs.Prelude.{slice_get}
use Rattle.dia_base.specs.declared.number.ConnId.{ConnId}
use Rattle.dia_base.specs.declared.number.NodeNo.{NodeNo}
use Rattle.dia_message.specs.declared.message.Message.{Message}
use Rattle.dia_avp.specs.AvpList.{HasSpelling}
use Rattle.relay_routes.specs.Routing.{record_of}
use Rattle.relay_core.specs.declared.run.RelayEvent.TheVariants.{Received}
use Rattle.relay_core.specs.RelayState.{RelayState}
use Rattle.farm_law.specs.Farm.{Refused}
use Rattle.farm_law.specs.Invariant.{IsKept, new_farm}
use Rattle.farm_law.specs.Moves.{loses, next, done}
use Rattle.farm_law.specs.Lists.{Has, here}
use Rattle.farm_law.proofs.Lists.{Has-append, all-end}
use Rattle.farm_base.specs.declared.site.Site.{Site}
use Rattle.farm_model.specs.declared.state.Trace.{Trace}
use Rattle.farm_base.specs.declared.step.Step.{Step}
use Rattle.farm_base.specs.declared.step.Step.TheVariants.{Up, Accept, Opened, Send, Deliver, Lose, Cut, Drop}
use Rattle.farm_base.specs.declared.step.Step.TheVariants.{Restart, Crash, Pick, Charge, Refuse, Emit, Sweep, ChangeTerms}
use Rattle.farm_model.specs.Arrival.{AtRelay}
use Rattle.farm_model.specs.Applying.{AppliesWhereItCan}
use Rattle.farm_model.specs.BookAndEnds.{KeepsBookAndEnds}
use Rattle.farm_model.specs.Cause.{HasCause, at_relay}
use Rattle.farm_model.specs.SoundSite.{IsSound}
use Rattle.farm_model.specs.FarmStep.{FarmStep, Flight, flight_at, can_restart}
use Rattle.farm_model.specs.FrontTurns.{KeepsFronts}
use Rattle.farm_model.specs.InFlight.{KeepsTraffic}
use Rattle.farm_model.specs.OwnCauses.{RefusesEach, HasOneForEach, HaveOwnCauses}
use Rattle.farm_model.specs.Promise.{IsNamed, IsRightAnswer, RefusesLoop, RefusesWhatComesBack, AppliedOrChangedNothing, journal_then}
use Rattle.farm_model.specs.Promise.{AnsweredInTime, KeepsPromise}
use Rattle.farm_model.specs.Run.{Past, Transition, Run, start, empty_book, steps_in, IsTrace}
use Rattle.farm_base.specs.Nodes.{is_relay}
use Rattle.farm_model.specs.SetUp.{KeepsSetUp}
use Rattle.farm_model.specs.SmallSteps.{AppliesInSmallSteps}
use Rattle.farm_model.specs.World.{Ends, WorldState, relay_at}
use Rattle.farm_base.specs.Nodes.{name_in}
use Rattle.farm_model.proofs.Lists.Among.{Has-map, Has-parts, Has-right, all_of}
use Rattle.farm_model.proofs.Wiring.Apart.{AreApart}
use Rattle.farm_model.proofs.Moves.AsFarm.{parties, farm_of, items_of}
use Rattle.farm_model.proofs.Applied.CanApply.{step_told}
use Rattle.farm_model.proofs.Moves.ClientSteps.{send_goes, lose_goes}
use Rattle.farm_model.proofs.Moves.Deliveries.{RelayReceives, deliver_goes, farm_before}
use Rattle.farm_model.proofs.Wiring.Ending.{same_ended}
use Rattle.farm_model.proofs.Moves.FailingOver.{relay_loses}
use Rattle.farm_model.proofs.Moves.FrontCharge.{charge_goes}
use Rattle.farm_model.proofs.Moves.FrontEmit.{emit_goes}
use Rattle.farm_model.proofs.Moves.FrontRequests.{fronts_from_hold, QueuesHoldRequests}
use Rattle.farm_model.proofs.BookAndEnds.KeepingBookAndEnds.{step_keeps_book_and_ends}
use Rattle.farm_model.proofs.Fronts.KeepingFronts.{step_keeps_fronts}
use Rattle.farm_model.proofs.SetUp.FrontsStand.{fronts_stand_after, fronts_stand_first}
use Rattle.farm_model.proofs.Moves.FrontSteps.{pick_goes, refuse_goes}
use Rattle.farm_model.proofs.Clients.Hearing.{heard_on}
use Rattle.farm_model.proofs.Clients.HearingSteps.{MoreEnds, step_ends, step_heard}
use Rattle.farm_model.proofs.SetUp.KeepingSetUp.{begins_empty, state_set_up}
use Rattle.farm_model.proofs.Traffic.KeepingTraffic.{step_keeps_traffic}
use Rattle.farm_model.proofs.Wiring.KnowsAfterStep.{step_knows}
use Rattle.farm_model.proofs.Wiring.KnowsAtStart.{knows_at_start}
use Rattle.farm_model.proofs.Moves.LinkSteps.{StepShows, shown, up_shows, accept_shows, opened_shows, drop_shows, crash_shows, cut_shows, restart_shows}
use Rattle.farm_model.proofs.Wiring.Linked.{linked_turned}
use Rattle.farm_model.proofs.Loops.LoopRefused.{loop_refused}
use Rattle.farm_model.proofs.Moves.Losing.{RelayLoses, MovesKeep}
use Rattle.farm_model.proofs.Loops.Naming.{spells}
use Rattle.farm_model.proofs.Lists.Placing.{Left-without}
use Rattle.farm_model.proofs.Runs.Premises.{Premises}
use Rattle.farm_model.proofs.Runs.PromiseLemmas.{received_right, promise_of}
use Rattle.farm_model.proofs.Moves.Receiving.{relay_receives}
use Rattle.farm_model.proofs.OwnCauses.Refusing.{as_before}
use Rattle.farm_model.proofs.Relays.RelaysRun.{last_of-push, relay_runs_on, relay_begins, HasRun}
use Rattle.farm_model.proofs.Runs.RunHolds.{RunHolds}
use Rattle.farm_model.proofs.Runs.RunLemmas.{steps_in-push}
use Rattle.farm_model.proofs.Wiring.Sides.{sides}
use Rattle.farm_model.proofs.Loops.SendingOn.{SendsOn, step_sends_on}
use Rattle.farm_model.proofs.Runs.SmallSteps.{goes_in_small_steps}
use Rattle.farm_model.proofs.Applied.Skipping.{step_skips}
use Rattle.farm_model.proofs.Runs.Starting.{start_wired, start_heard, start_moves}
use Rattle.farm_model.proofs.Moves.StepGoes.{Goes, Reason}
use Rattle.farm_model.proofs.Moves.Changing.{change_goes}
use Rattle.farm_model.proofs.Moves.Sweeping.{sweep_goes}
use Rattle.farm_model.proofs.Wiring.Wired.{IsWired}

-- ---- a step

module _ (premises : Premises) (site : Site) (all : Ends) (checked : IsSound site) where
  a_relay_loses : RelayLoses site all
  a_relay_loses HasReason refused w loss relay after wired at ended single turn reasons = relay_loses site all HasReason checked w wired loss relay at ended
      single refused after turn reasons

  moves_keep : MovesKeep site all
  moves_keep = premises.moves_keep (parties site all)

  -- a message comes to a node that is neither client nor front
  a_relay_receives : (t : Transition) (refused : List Refused) (from to : NodeNo) (place : ℕ) → QueuesHoldRequests t.before.fronts → t.step ≡ Deliver from to
      place → (flight : Flight) → flight_at t.before.directions from to place ≡ Some flight → RelayReceives site all t refused from to flight
  a_relay_receives t refused from to place requests step flight flies k no_client no_front turn = go (relay_at to t.before.relays) refl turn
    where
      w : WorldState
      w = record t.before { directions = flight.directions }

      go : (relay : Option RelayState) → relay_at to t.before.relays ≡ relay → AtRelay w to (Received flight.conn flight.message) relay t.after → Goes site all
          (Reason t) (farm_before all refused t.before flight) t.after
      go None at same = subst (λ (v : WorldState). Goes site all (Reason t) (farm_before all refused t.before flight) v) (sym same) (record {
        leads = record { refused = refused; moves = next (loses (Left-without tt k.out)) done; caused = as_before (Reason t) refused };
        wired = k.wired;
        requests = requests;
      })
      go (Some relay) at turn =
          let stands = same_ended t.before.ends t.before.directions flight.directions to flight.conn (k.stands to flight.conn) ∙ k.lives in
          let g = relay_receives site all (Reason t) checked w k.wired to from flight.conn flight.message relay at k.joins
          (items_of all t.before.directions t.before.fronts) k.out stands (linked_turned site from to k.linked) refused t.after turn
          (λ sender refusal flag peer refuses. at_relay relay sender refusal
          (record { from = from; place = place; directions = flight.directions; step = step; flight = flies }) flag at peer refuses) in
          record { leads = g.0; wired = g.1; requests = subst (λ (v : WorldState). QueuesHoldRequests v.fronts) (sym turn.next_is) requests }

  step_shows : (t : Transition) (refused : List Refused) (step : Step) → t.step ≡ step → FarmStep site t.before step t.applied t.losses t.after → IsKept
      (parties site all) (farm_of all refused t.before) → IsWired site all t.before → AreApart (sides t.before.directions) → QueuesHoldRequests t.before.fronts
      → MoreEnds t.after.ends all → StepShows site all t refused
  step_shows t refused (Up a b) is s kept wired apart requests more = up_shows site all checked a_relay_loses moves_keep t refused kept wired apart requests a
      b s.0 more
  step_shows t refused (Accept at from) is s kept wired apart requests more = accept_shows site all checked a_relay_loses moves_keep t refused kept wired apart
      requests at from s.0 more
  step_shows t refused (Opened a b) is s kept wired apart requests more = opened_shows site all checked a_relay_loses moves_keep t refused kept wired apart
      requests a b s.0
  step_shows t refused (Send client to message) is s kept wired apart requests more = shown site all t wired s.1 refused
      (send_goes site all t refused client to message checked is s.0 wired requests)
  step_shows t refused (Deliver from to place) is s kept wired apart requests more =
      shown site all t wired s.1 refused (deliver_goes site all t refused from to place checked is wired requests s.0
      (λ flight flies. a_relay_receives t refused from to place requests is flight flies))
  step_shows t refused (Lose from to place) is s kept wired apart requests more = shown site all t wired s.1 refused
      (lose_goes site all t refused from to place is s.0 wired requests)
  step_shows t refused (Cut a b) is s kept wired apart requests more = cut_shows site all checked a_relay_loses moves_keep t refused kept wired apart requests
      a b s
  step_shows t refused (Drop a b) is s kept wired apart requests more = drop_shows site all checked a_relay_loses moves_keep t refused kept wired apart requests
      a b s
  step_shows t refused (Crash node) is s kept wired apart requests more = crash_shows site all checked a_relay_loses moves_keep t refused kept wired apart
      requests node s.0
  step_shows t refused (Restart node) is s kept wired apart requests more = restart_shows site all checked a_relay_loses moves_keep t refused kept wired apart
      requests node (can_restart site node) s
  step_shows t refused (Pick front worker) is s kept wired apart requests more = shown site all t wired s.1 refused
      (pick_goes site all t refused front worker is s.0 wired requests)
  step_shows t refused (Charge front worker moment) is s kept wired apart requests more = shown site all t wired s.1 refused
      (charge_goes premises site all t refused front worker moment is s.0 kept.legal wired requests)
  step_shows t refused (Refuse front worker) is s kept wired apart requests more = shown site all t wired s.1 refused
      (refuse_goes site all t refused front worker is s.0 wired requests)
  step_shows t refused (Emit front worker) is s kept wired apart requests more = shown site all t wired s.1 refused
      (emit_goes site all t refused front worker is s.0 wired requests)
  step_shows t refused (Sweep moment) is s kept wired apart requests more = shown site all t wired s.1 refused
      (sweep_goes site all t refused moment s.0 wired requests)
  step_shows t refused (ChangeTerms moment change) is s kept wired apart requests more = shown site all t wired s.1 refused
      (change_goes site all t refused moment change s.0 wired requests)

  -- ---- what comes back is a loop

  named_spells : (node : NodeNo) (name : List ℕ) → IsNamed site node name → HasSpelling (record_of name)
  named_spells node name named = subst (λ (n : List ℕ). HasSpelling (record_of n)) (ap name_in named.at_place ∙ named.called) (spells site checked node)

  comes_back : (t : Transition) → RefusesLoop site t → RefusesWhatComesBack site t
  comes_back t loop from node place conn message directions name step flight flag relay named back =
      loop from node place conn message directions name step flight flag relay named
      (premises.comes_back name back.sent message back.avps (named_spells node name named) back.splits back.descends)

  -- ---- a run goes on by a step

  step_passed : (past : Past) (t : Transition) (step : Step) → Has step (steps_in past) → Has step (steps_in (past ++ t ∷ []))
  step_passed past t step among = subst (Has step) (sym (steps_in-push past t)) (Has-append (t.step ∷ []) among)

  one_more : (past : Past) (t : Transition) → FarmStep site t.before t.step t.applied t.losses t.after → RunHolds site all past t.before → MoreEnds
      t.after.ends all → RunHolds site all (past ++ t ∷ []) t.after
  one_more past t s h more =
      let g = step_shows t h.refused t.step refl s h.kept h.wired h.apart h.requests more in
      let traffic = step_keeps_traffic checked t h.wired s h.apart in
      let answered = loop_refused premises.loops checked t h.wired h.knows s in
      let loop : RefusesLoop site t = λ from node place conn message directions name step flight flag relay named is.
      answered from node place conn message directions name step flight flag relay named is in
      let fronts = step_keeps_fronts t checked h.wired h.apart s in
      let stand = fronts_stand_after site t h.stand fronts in
      let relays : (node : NodeNo) → is_relay site node ≡ true → HasRun site node (past ++ t ∷ []) t.after =
      λ node relay_is. relay_runs_on past t checked h.wired h.apart s node relay_is (h.relays node relay_is) in
      record {
        refused = g.leads.refused;
        kept = premises.moves_keep (parties site all) (farm_of all h.refused t.before) (farm_of all g.leads.refused t.after) g.leads.moves h.kept;
        caused = λ r among. elim (Has-parts h.refused (subst (Has r) g.leads.caused.grown among)) [
          | inl old ↦ let c = h.caused r old in record { transition = c.transition; passed = Has-append (t ∷ []) c.passed; cause = c.cause; server = c.server }
          | inr new ↦ let why = g.leads.caused.reasons r new in record { transition = t; passed = Has-right past here; cause = why.0; server = why.1 }
        ];
        owed = premises.moves_owe (parties site all) (farm_of all h.refused t.before) (farm_of all g.leads.refused t.after) g.leads.moves h.kept h.owed;
        wired = g.wired;
        requests = g.requests;
        knows = step_knows checked t.before t.after t.step t.applied t.losses h.wired h.apart s h.knows;
        heard = step_heard site all (steps_in (past ++ t ∷ [])) checked t.before t.after t.step t.applied t.losses s
            (Has-map (λ (passed : Transition). passed.step) (Has-right past here)) h.wired (heard_on t.before (step_passed past t) h.heard);
        apart = traffic.1;
        stand = stand;
        set_up = all-end (KeepsSetUp site) past t h.set_up (record
            { before = state_set_up h.wired h.stand h.relays; after = state_set_up g.wired stand relays });
        sends_on = all-end (SendsOn site) past t h.sends_on (step_sends_on checked t h.wired h.knows h.apart traffic.1 s);
        loops = all-end (RefusesLoop site) past t h.loops loop;
        come_back = all-end (RefusesWhatComesBack site) past t h.come_back (comes_back t loop);
        traffic = all-end (KeepsTraffic site) past t h.traffic traffic.0;
        skipped = all-end AppliedOrChangedNothing past t h.skipped (λ skipped. step_skips site t.before t.after t.applied t.losses skipped t.step s);
        applied = all-end (AppliesWhereItCan site) past t h.applied (step_told site t.before t.after t.applied t.losses h.apart t.step s);
        small_steps = all-end (AppliesInSmallSteps site) past t h.small_steps (goes_in_small_steps site all t h.wired h.apart s);
        book_and_ends = all-end (KeepsBookAndEnds site) past t h.book_and_ends (step_keeps_book_and_ends t checked h.apart s);
        fronts = all-end (KeepsFronts site) past t h.fronts fronts;
        last = last_of-push (start site) past t;
        relays = relays;
      }

  -- the connections of a state are among those of the run's end
  run_ends : (old : WorldState) (past : Past) (new : WorldState) → Run site old past new → MoreEnds old.ends new.ends
  run_ends old [] new run place nodes e = subst (λ (w : WorldState). slice_get w.ends place ≡ Some nodes) (sym run) e
  run_ends old (t ∷ past) new run place nodes e =
      run_ends t.after past new run.2 place nodes (step_ends site checked t.before t.after t.step t.applied t.losses run.1 place nodes
      (subst (λ (w : WorldState). slice_get w.ends place ≡ Some nodes) (sym run.0) e))

  run_holds : (past : Past) (w : WorldState) (rest : Past) (last : WorldState) → RunHolds site all past w → Run site w rest last → MoreEnds last.ends all →
      RunHolds site all (past ++ rest) last
  run_holds past w [] last h run more = subst (RunHolds site all (past ++ [])) (sym run) (subst (λ (p : Past). RunHolds site all p w) (sym (append-nil past)) h)
  run_holds past w (t ∷ rest) last h run more =
      let h2 : RunHolds site all past t.before = subst (RunHolds site all past) (sym run.0) h in
      let one = one_more past t run.1 h2 (λ place nodes e. more place nodes (run_ends t.after rest last run.2 place nodes e)) in
      subst (λ (p : Past). RunHolds site all p last) (append_assoc past (t ∷ []) rest) (run_holds (past ++ t ∷ []) t.after rest last one run.2 more)

  start_holds : RunHolds site all [] (start site)
  start_holds = record {
    refused = [];
    kept = premises.moves_keep (parties site all) _ (farm_of all [] (start site)) (start_moves site all)
        (premises.new_is_kept (parties site all) (empty_book site) refl);
    caused = λ r h. elim h [ ];
    owed = premises.moves_owe (parties site all) (new_farm (empty_book site)) (farm_of all [] (start site)) (start_moves site all)
        (premises.new_is_kept (parties site all) (empty_book site) refl) (λ test of_text. omega arith);
    wired = start_wired site all;
    requests = fronts_from_hold site 0 site.nodes;
    knows = knows_at_start site;
    heard = start_heard site all;
    apart = record { once = λ from to. omega arith; same = λ c d a b k l h g. elim h [ ] };
    stand = fronts_stand_first site;
    set_up = λ t h. elim h [ ];
    sends_on = λ t h. elim h [ ];
    loops = λ t h. elim h [ ];
    come_back = λ t h. elim h [ ];
    traffic = λ t h. elim h [ ];
    skipped = λ t h. elim h [ ];
    applied = λ t h. elim h [ ];
    small_steps = λ t h. elim h [ ];
    book_and_ends = λ t h. elim h [ ];
    fronts = λ t h. elim h [ ];
    last = refl;
    relays = relay_begins site;
  }

  nothing_refused : start_holds.refused ≡ []
  unfolding start_holds
  nothing_refused = refl

  -- ---- what a run tells as it goes

  -- what nodes refuse at the step
  refused_at : (past : Past) (t : Transition) (s : FarmStep site t.before t.step t.applied t.losses t.after) (h : RunHolds site all past t.before)
      (more : MoreEnds t.after.ends all)
      → (now : List Refused) × ((one_more past t s h more).refused ≡ h.refused ++ now) × RefusesEach t now
  unfolding one_more
  refused_at past t s h more =
      let c = (step_shows t h.refused t.step refl s h.kept h.wired h.apart h.requests more).leads.caused in (
        c.more,
        c.grown,
        record {
          caused = all_of (λ (r : Refused). HasCause t r.node r.conn r.request r.refusal) c.more (λ r among. (c.reasons r among).0);
          once = c.once;
        },
      )

  -- of a state between two steps it is known what nodes have refused so far
  abbrev HoldsWith : Past → List Refused → WorldState → Type 0
  HoldsWith past refused w = (h : RunHolds site all past w) × (h.refused ≡ refused)

  one_each : (past : Past) (refused : List Refused) (w : WorldState) → HoldsWith past refused w → HasOneForEach site refused w.received
  one_each past refused w h = subst (λ (rs : List Refused). HasOneForEach site rs w.received) h.1
      (λ test of_text. let all_owed = (h.0).owed test of_text in omega (arith, all_owed))

  run_tells : (past : Past) (refused : List Refused) (w : WorldState) (rest : Past) (last : WorldState) → HoldsWith past refused w → Run site w rest last →
      MoreEnds last.ends all
      → AnsweredInTime site all past rest × HaveOwnCauses site refused rest
  run_tells past refused w [] last h run more = (tt, tt)
  run_tells past refused w (t ∷ rest) last h run more =
      let before : HoldsWith past refused t.before = subst (HoldsWith past refused) (sym run.0) h in
      let later : MoreEnds t.after.ends all = λ place nodes e. more place nodes (run_ends t.after rest last run.2 place nodes e) in
      let one = one_more past t run.1 before.0 later in
      let new = refused_at past t run.1 before.0 later in
      let after : HoldsWith (past ++ t ∷ []) (refused ++ new.0) t.after = (one, new.1 ∙ ap (λ (rs : List Refused). rs ++ new.0) before.1) in
      let tells = run_tells (past ++ t ∷ []) (refused ++ new.0) t.after rest last after run.2 more in
      let right = received_right site all (past ++ t ∷ []) t.after one premises.of_entries in (
        (all_of (λ (item : ConnId × Message). IsRightAnswer site (journal_then all (past ++ t ∷ []) t.after) item.0 item.1) t.after.received right, tells.0),
        (new.0, new.2, one_each (past ++ t ∷ []) (refused ++ new.0) t.after after, tells.1),
      )

-- ---- the promise

pub promise_kept : Premises → (site : Site) (past : Past) (trace : Trace) → IsSound site → IsTrace site past trace → KeepsPromise site past trace
promise_kept premises site past trace checked t =
    let w = t.end in
    let h = run_holds premises site w.ends checked [] (start site) past w (start_holds premises site w.ends checked) t.run (λ place nodes e. e) in
    let told = run_tells premises site w.ends checked [] [] (start site) past w
    (start_holds premises site w.ends checked, nothing_refused premises site w.ends checked) t.run (λ place nodes e. e) in
    subst (KeepsPromise site past) (sym t.trace_is) (promise_of site past w h premises.of_entries premises.relays_keep checked (begins_empty site past w t.run)
    told.0 told.1)
