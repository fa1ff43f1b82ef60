-- A front's worker emits its answer, which goes out on its connection or is lost.
use Rattle.std.proofs.Common.{◌≡◌, ℕ, Bool, true, false, cond, List, [], ◌∷◌, map, Option, Some, None, refl, subst}
use Rattle.std.specs.Prelude.{slice_get}
use Rattle.std.proofs.lemmas.Option.{same_Some}
use Rattle.dia_base.specs.declared.number.ConnId.{ConnId}
use Rattle.dia_base.specs.declared.number.NodeNo.{NodeNo}
use Rattle.dia_message.specs.declared.message.Message.{Message}
use Rattle.dia_message.specs.Traffic.{Traffic}
use Rattle.front_core.specs.declared.worker.Worker.{Worker}
use Rattle.front_core.specs.declared.worker.Worker.TheVariants.{Idle, Picked, Done}
use Rattle.front_core.specs.FrontState.{FrontState, is_among}
use Rattle.front_core.specs.FrontStep.{with_worker, after_emit_by, after_emit}
use Rattle.farm_law.specs.Farm.{Refused, Farm}
use Rattle.farm_law.specs.Lists.{Has, Without, first}
use Rattle.farm_law.specs.Moves.{Moves, moves_on, loses}
use Rattle.farm_base.specs.declared.site.Site.{Site}
use Rattle.farm_model.specs.declared.state.FrontAt.{FrontAt}
use Rattle.farm_base.specs.declared.step.Step.TheVariants.{Emit}
use Rattle.farm_model.specs.FarmStep.{with_emit, after_emit_at, Outcome}
use Rattle.farm_model.specs.Run.{Transition}
use Rattle.farm_model.specs.World.{Ends, WorldState, with_message_from, with_traffic_from, with_front, front_at}
use Rattle.farm_model.proofs.Moves.AsFarm.{parties, gone_from, waiting, held_by, items_of, has_ended_in, farm_of}
use Rattle.farm_model.proofs.Moves.FrontItems.{front_lose}
use Rattle.farm_model.proofs.Moves.FrontRequests.{QueuesHoldRequests, with_front_holds, with_worker_holds, front_holds}
use Rattle.farm_model.proofs.Moves.Moving.{one_move, put, settled}
use Rattle.farm_model.proofs.Lists.Placing.{Without-right, Left-without, set_lose}
use Rattle.farm_model.proofs.Moves.Posting.{posted_wired}
use Rattle.farm_model.proofs.Moves.Sending.{posted_across, traffic_ended}
use Rattle.farm_model.proofs.OwnCauses.Refusing.{as_before}
use Rattle.farm_model.proofs.Moves.StepGoes.{Reason, Goes, StepGoes, outcome_goes}
use Rattle.farm_model.proofs.Wiring.Wired.{FrontIsWired, IsWired}
use Rattle.farm_model.proofs.Wiring.WiredLemmas.{with_front_wired}

module _ (site : Site) (made : Ends) (refused : List Refused) (HasReason : Refused → Type 0) where
  abbrev Goes-on : WorldState → WorldState → Type 0
  Goes-on w after = Goes site made HasReason (farm_of made refused w) after

  module _ (w : WorldState) (node : NodeNo) (worker : ℕ) (front : FrontState) (conn : ConnId) (answer : Message) (looked : front_at node w.fronts ≡ Some front)
      (done : slice_get front.workers worker ≡ Some (Done conn answer))
      (wired : IsWired site made w) (requests : QueuesHoldRequests w.fronts) where
    abbrev freed : FrontState
    freed = with_worker front worker Idle

    abbrev fronts_freed : List FrontAt
    fronts_freed = with_front node freed w.fronts

    taken_out : Without (gone_from made node conn answer) (items_of made w.directions w.fronts) (items_of made w.directions fronts_freed)
    taken_out =
        front_lose made w.directions node w.fronts front freed looked (gone_from made node conn answer)
        (Without-right (map (waiting made node) front.queue) (set_lose (held_by made node) {x = Done conn answer} {y = Idle} first front.workers worker done))

    fronts_wired : (at : FrontAt) → Has at fronts_freed → FrontIsWired site at
    fronts_wired = with_front_wired site node w.fronts front freed looked refl wired.fronts

    freed_requests : QueuesHoldRequests fronts_freed
    freed_requests = with_front_holds node w.fronts freed (with_worker_holds front worker Idle tt (front_holds node w.fronts front requests looked)) requests

    emit_if : (known : Bool) → Goes-on w (record w {
      directions = with_traffic_from node w.directions (cond known ((conn, answer) ∷ []) []);
      fronts =
          fronts_freed;
    })
    emit_if true =
        let sent_on = with_message_from node w.directions conn answer in
        let old : Farm = farm_of made refused w in
        let after : WorldState = record w { directions = sent_on; fronts = fronts_freed } in
        let posts = posted_across site made w.ends node conn answer w.directions fronts_freed wired.directions in
        let moves : Moves (parties site made) old (record old { items = items_of made sent_on fronts_freed }) =
        put old old (gone_from made node conn answer) (items_of made w.directions fronts_freed) (items_of made sent_on fronts_freed) posts
        (λ some h. moves_on taken_out h) in
        record {
          leads = record {
            refused = refused;
            moves = settled (parties site made) made refused old after (has_ended_in w.ends w.directions) moves
                (traffic_ended w.ends node w.directions ((conn, answer) ∷ []));
            caused = as_before HasReason refused;
          };
          wired = record {
            begins = wired.begins;
            directions = posted_wired site made w.ends node conn answer w.directions wired.directions;
            fronts = fronts_wired;
            relays = wired.relays;
            alone = wired.alone;
          };
          requests = freed_requests;
        }
    emit_if false = record {
      leads = record { refused = refused; moves = one_move (loses (Left-without tt taken_out)); caused = as_before HasReason refused };
      wired = record { begins = wired.begins; directions = wired.directions; fronts = fronts_wired; relays = wired.relays; alone = wired.alone };
      requests = freed_requests;
    }

  emit_by : (w : WorldState) (node : NodeNo) (worker : ℕ) (front : FrontState) (turn : FrontState × Traffic) (held : Option Worker) → front_at node w.fronts ≡
      Some front → slice_get front.workers worker ≡ held → IsWired site made w → QueuesHoldRequests w.fronts
      → after_emit_by front worker held ≡ Some turn → Goes-on w
      (record w { directions = with_traffic_from node w.directions turn.1; fronts = with_front node turn.0 w.fronts })
  emit_by w node worker front turn None looked e wired requests is = absurd cc
  emit_by w node worker front turn (Some Idle) looked e wired requests is = absurd cc
  emit_by w node worker front turn (Some (Picked conn message)) looked e wired requests is = absurd cc
  emit_by w node worker front turn (Some (Done conn answer)) looked e wired requests is =
      subst (λ (t : FrontState × Traffic). Goes-on w (record w
      { directions = with_traffic_from node w.directions t.1; fronts = with_front node t.0 w.fronts })) (same_Some _ _ is)
      (emit_if w node worker front conn answer looked e wired requests (is_among front.connections conn))

  with_emit_goes : (w after : WorldState) (node : NodeNo) (worker : ℕ) (front : FrontState) (turn : Option (FrontState × Traffic)) → front_at node w.fronts ≡
      Some front → after_emit front worker ≡ turn → with_emit w node turn ≡ Some after → IsWired site made w
      → QueuesHoldRequests w.fronts → Goes-on w after
  with_emit_goes w after node worker front None looked e is wired requests = absurd cc
  with_emit_goes w after node worker front (Some turn) looked e is wired requests = subst (Goes-on w) (same_Some _ _ is)
      (emit_by w node worker front turn (slice_get front.workers worker) looked refl wired requests e)

  pub emit_at_goes : (w after : WorldState) (node : NodeNo) (worker : ℕ) (found : Option FrontState) → front_at node w.fronts ≡ found → after_emit_at w node
      worker found ≡ Some after → IsWired site made w → QueuesHoldRequests w.fronts → Goes-on w after
  emit_at_goes w after node worker None looked is wired requests = absurd cc
  emit_at_goes w after node worker (Some front) looked is wired requests = with_emit_goes w after node worker front (after_emit front worker) looked refl is
      wired requests

pub emit_goes : (site : Site) (made : Ends) (t : Transition) (refused : List Refused) (node : NodeNo) (worker : ℕ) → t.step ≡ Emit node worker → Outcome
    (after_emit_at t.before node worker (front_at node t.before.fronts)) t.applied t.before t.after
    → IsWired site made t.before → QueuesHoldRequests t.before.fronts → StepGoes site made t refused
emit_goes site made t refused node worker step o wired requests =
    outcome_goes site made t refused (after_emit_at t.before node worker (front_at node t.before.fronts)) o wired requests
    (λ after is. emit_at_goes site made refused (Reason t) t.before after node worker (front_at node t.before.fronts) refl is wired requests)
