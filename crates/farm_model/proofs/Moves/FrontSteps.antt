-- The steps of a front's worker but for a charge: it picks, refuses by order, or emits its answer.
use Rattle.std.proofs.Common.{◌≡◌, ℕ, true, List, [], ◌∷◌, ◌++◌, map, Option, Some, None, refl, sym, subst, ap}
use Rattle.std.specs.Prelude.{flat_map, slice_get, slice_set}
use Rattle.std.proofs.lemmas.Option.{same_Some}
use Rattle.dia_base.specs.declared.number.ConnId.{ConnId}
use Rattle.dia_base.specs.declared.number.NodeNo.{NodeNo}
use Rattle.dia_message.specs.declared.message.Message.{Message}
use Rattle.cc_view.specs.declared.code.ResultCode.TheVariants.{TooBusy}
use Rattle.cc_view.specs.declared.refusal.Refusal.{Refusal}
use Rattle.cc_view.specs.Answer.{refusal_of}
use Rattle.cc_view.specs.Refusal.{refusal_with}
use Rattle.cc_book.specs.Taking.{Ledger}
use Rattle.front_core.specs.declared.site.FrontSite.{FrontSite}
use Rattle.front_core.specs.declared.worker.Job.{Job}
use Rattle.front_core.specs.declared.worker.Worker.{Worker}
use Rattle.front_core.specs.declared.worker.Worker.TheVariants.{Idle, Picked, Done}
use Rattle.front_core.specs.FrontState.{FrontState}
use Rattle.front_core.specs.FrontStep.{too_busy, with_worker, after_pick_from, after_pick_by, after_pick, after_refusal_by, after_refusal}
use Rattle.farm_law.specs.Farm.{Refused}
use Rattle.farm_law.specs.Lists.{Has, here, there, Without, first}
use Rattle.farm_law.specs.Moves.{Moves, moves_on, refuses}
use Rattle.farm_base.specs.declared.site.Site.{Site}
use Rattle.farm_model.specs.declared.state.Direction.{Direction}
use Rattle.farm_model.specs.declared.state.FrontAt.{FrontAt}
use Rattle.farm_base.specs.declared.step.Step.TheVariants.{Pick, Refuse}
use Rattle.farm_model.specs.Cause.{by_order}
use Rattle.farm_model.specs.FarmStep.{with_pick, after_pick_at, after_refusal_at, Outcome}
use Rattle.farm_model.specs.Run.{Transition, front_site}
use Rattle.farm_model.specs.World.{Ends, WorldState, with_front, front_at}
use Rattle.farm_base.specs.Nodes.{name_at}
use Rattle.farm_model.proofs.Lists.Among.{Has-get}
use Rattle.farm_model.proofs.Moves.AsFarm.{parties, come_to, gone_from, waiting, held_by, items_of, farm_of}
use Rattle.farm_model.proofs.Moves.FrontItems.{front_turn, worker_turn}
use Rattle.farm_model.proofs.Moves.FrontRequests.{FrontHoldsRequests, QueuesHoldRequests, with_front_holds, with_worker_holds, front_holds}
use Rattle.farm_model.proofs.Moves.Moving.{one_move}
use Rattle.farm_model.proofs.Lists.Placing.{Without-right, Turned, set_gain}
use Rattle.farm_model.proofs.OwnCauses.Refusing.{HasRefused, at_most_once, as_before, one_more_refused}
use Rattle.farm_model.proofs.Moves.StepGoes.{Reason, Goes, StepGoes, outcome_goes}
use Rattle.farm_model.proofs.Wiring.Wired.{IsWired}
use Rattle.farm_model.proofs.Wiring.WiredLemmas.{with_front_wired, front_wired}

module _ (site : Site) (made : Ends) (refused : List Refused) (HasReason : Refused → Type 0) where
  abbrev Goes-on : WorldState → WorldState → Type 0
  Goes-on w after = Goes site made HasReason (farm_of made refused w) after

  -- a front changes, and perhaps the book: the rest stands as before
  pub front_goes : (w : WorldState) (node : NodeNo) (front changed : FrontState) (book : Ledger) (more : List Refused) → front_at node w.fronts ≡ Some front →
      changed.site ≡ front.site → FrontHoldsRequests changed
      → IsWired site made w → QueuesHoldRequests w.fronts → Moves (parties site made) (farm_of made refused w)
      (farm_of made more (record w { fronts = with_front node changed w.fronts; book = book }))
      → HasRefused HasReason at_most_once refused more → Goes-on w (record w { fronts = with_front node changed w.fronts; book = book })
  front_goes w node front changed book more looked same holds wired requests moves caused = record {
    leads = record { refused = more; moves = moves; caused = caused };
    wired = record {
      begins = wired.begins;
      directions = wired.directions;
      fronts = with_front_wired site node w.fronts front changed looked same wired.fronts;
      relays = wired.relays;
      alone = wired.alone;
    };
    requests = with_front_holds node w.fronts changed holds requests;
  }

  -- ---- a worker picks

  pick_turn : (node : NodeNo) (front : FrontState) (worker : ℕ) (queue jobs : List Job) (job : Job) → queue ≡ job ∷ jobs → slice_get front.workers worker ≡
      Some Idle
      → Turned (waiting made node job) (waiting made node job) (map (waiting made node) queue ++ flat_map (held_by made node) front.workers)
      (map (waiting made node) jobs ++ flat_map (held_by made node) (slice_set front.workers worker (Picked job.conn job.request)))
  pick_turn node front worker queue jobs job e idle =
      subst (λ (q : List Job). Turned (waiting made node job) (waiting made node job) (map (waiting made node) q ++ flat_map (held_by made node) front.workers)
      (map (waiting made node) jobs ++ flat_map (held_by made node) (slice_set front.workers worker (Picked job.conn job.request)))) (sym e) (record {
        rest = map (waiting made node) jobs ++ flat_map (held_by made node) front.workers;
        old = first;
        new = Without-right (map (waiting made node) jobs) (set_gain (held_by made node) {x = Idle} {y = Picked job.conn job.request} first front.workers
            worker idle);
      })

  pick_from : (w : WorldState) (node : NodeNo) (worker : ℕ) (front changed : FrontState) (queue : List Job) → front_at node w.fronts ≡ Some front → front.queue
      ≡ queue → slice_get front.workers worker ≡ Some Idle → IsWired site made w → QueuesHoldRequests w.fronts
      → after_pick_from front worker queue ≡ Some changed → Goes-on w (record w { fronts = with_front node changed w.fronts })
  pick_from w node worker front changed [] looked e idle wired requests is = absurd cc
  pick_from w node worker front changed (job ∷ jobs) looked e idle wired requests is =
      let holds = front_holds node w.fronts front requests looked in
      let it : FrontState = with_worker (record front { queue = jobs }) worker (Picked job.conn job.request) in
      let request : job.request.header.request ≡ true = holds.waiting job (subst (Has job) (sym e) here) in
      let rest : FrontHoldsRequests (record front { queue = jobs }) = record
      { waiting = λ j h. holds.waiting j (subst (Has j) (sym e) (there h)); working = holds.working } in
      let t = front_turn made w.directions node w.fronts front it looked (waiting made node job) (waiting made node job)
      (pick_turn node front worker front.queue jobs job e idle) in
      subst (λ (f : FrontState). Goes-on w (record w { fronts = with_front node f w.fronts })) (same_Some _ _ is)
      (front_goes w node front it w.book refused looked refl (with_worker_holds (record front { queue = jobs }) worker (Picked job.conn job.request) request
      rest) wired requests (one_move (moves_on t.old t.new)) (as_before HasReason refused))

  pick_by : (w : WorldState) (node : NodeNo) (worker : ℕ) (front changed : FrontState) (held : Option Worker) → front_at node w.fronts ≡ Some front → slice_get
      front.workers worker ≡ held → IsWired site made w → QueuesHoldRequests w.fronts
      → after_pick_by front worker held ≡ Some changed → Goes-on w (record w { fronts = with_front node changed w.fronts })
  pick_by w node worker front changed None looked e wired requests is = absurd cc
  pick_by w node worker front changed (Some Idle) looked e wired requests is = pick_from w node worker front changed front.queue looked refl e wired requests is
  pick_by w node worker front changed (Some (Picked conn message)) looked e wired requests is = absurd cc
  pick_by w node worker front changed (Some (Done conn answer)) looked e wired requests is = absurd cc

  with_pick_goes : (w after : WorldState) (node : NodeNo) (worker : ℕ) (front : FrontState) (turn : Option FrontState) → front_at node w.fronts ≡ Some front →
      after_pick front worker ≡ turn → with_pick w node turn ≡ Some after → IsWired site made w → QueuesHoldRequests w.fronts → Goes-on w after
  with_pick_goes w after node worker front None looked e is wired requests = absurd cc
  with_pick_goes w after node worker front (Some changed) looked e is wired requests = subst (Goes-on w) (same_Some _ _ is)
      (pick_by w node worker front changed (slice_get front.workers worker) looked refl wired requests e)

  pub pick_at_goes : (w after : WorldState) (node : NodeNo) (worker : ℕ) (found : Option FrontState) → front_at node w.fronts ≡ found → after_pick_at w node
      worker found ≡ Some after → IsWired site made w → QueuesHoldRequests w.fronts → Goes-on w after
  pick_at_goes w after node worker None looked is wired requests = absurd cc
  pick_at_goes w after node worker (Some front) looked is wired requests = with_pick_goes w after node worker front (after_pick front worker) looked refl is
      wired requests

  -- ---- a worker refuses by order

  -- a worker that has picked a request holds an answer to it
  pub done_turn : (directions : List Direction) (node : NodeNo) (fronts : List FrontAt) (front : FrontState) (worker : ℕ) (conn : ConnId)
      (message answer : Message) → front_at node fronts ≡ Some front → slice_get front.workers worker ≡ Some (Picked conn message)
      → Turned (come_to made node conn message) (gone_from made node conn answer) (items_of made directions fronts)
      (items_of made directions (with_front node (with_worker front worker (Done conn answer)) fronts))
  done_turn directions node fronts front worker conn message answer looked picked =
      front_turn made directions node fronts front (with_worker front worker (Done conn answer)) looked (come_to made node conn message)
      (gone_from made node conn answer)
      (worker_turn made node front worker (Picked conn message) (Done conn answer) (come_to made node conn message) (gone_from made node conn answer) picked
      (record { rest = []; old = first; new = first }))

  -- it is a refusal
  pub done_refuses : (w : WorldState) (node : NodeNo) (worker : ℕ) (front : FrontState) (conn : ConnId) (message answer : Message) (refusal : Refusal) →
      front_at node w.fronts ≡ Some front → slice_get front.workers worker ≡ Some (Picked conn message)
      → answer ≡ refusal_of (name_at site node) site.realm message refusal → IsWired site made w → QueuesHoldRequests w.fronts → HasReason
      (record { node = node; conn = conn; request = message; refusal = refusal })
      → Goes-on w (record w { fronts = with_front node (with_worker front worker (Done conn answer)) w.fronts })
  done_refuses w node worker front conn message answer refusal looked picked written wired requests reason =
      let holds = front_holds node w.fronts front requests looked in
      let is_request : message.header.request ≡ true = holds.working (Picked conn message) (Has-get front.workers worker picked) in
      let here_refused : Refused = record { node = node; conn = conn; request = message; refusal = refusal } in
      let t = done_turn w.directions node w.fronts front worker conn message answer looked picked in
      let new = subst (λ (a : Message). Without (gone_from made node conn a)
      (items_of made w.directions (with_front node (with_worker front worker (Done conn answer)) w.fronts)) t.rest) written t.new in
      front_goes w node front (with_worker front worker (Done conn answer)) w.book (refused ++ here_refused ∷ []) looked refl
      (with_worker_holds front worker (Done conn answer) tt holds) wired requests
      (one_move (refuses refusal t.old is_request new)) (one_more_refused HasReason refused here_refused reason)

  refusal_by : (w : WorldState) (node : NodeNo) (worker : ℕ) (front changed : FrontState) (held : Option Worker) → front_at node w.fronts ≡ Some front →
      slice_get front.workers worker ≡ held → IsWired site made w → QueuesHoldRequests w.fronts
      → ((conn : ConnId) (message : Message) → slice_get front.workers worker ≡ Some (Picked conn message) → HasReason
      (record { node = node; conn = conn; request = message; refusal = refusal_with TooBusy }))
      → after_refusal_by front worker held ≡ Some changed → Goes-on w (record w { fronts = with_front node changed w.fronts })
  refusal_by w node worker front changed None looked e wired requests reason is = absurd cc
  refusal_by w node worker front changed (Some Idle) looked e wired requests reason is = absurd cc
  refusal_by w node worker front changed (Some (Done conn answer)) looked e wired requests reason is = absurd cc
  refusal_by w node worker front changed (Some (Picked conn message)) looked e wired requests reason is =
      let site_is : front.site ≡ front_site site (name_at site node) = (front_wired wired.fronts looked).site_is in
      let written = ap (λ (s : FrontSite). refusal_of s.name s.realm message (refusal_with TooBusy)) site_is in
      subst (λ (f : FrontState). Goes-on w (record w { fronts = with_front node f w.fronts })) (same_Some _ _ is)
      (done_refuses w node worker front conn message (too_busy front.site message) (refusal_with TooBusy) looked e written wired requests
      (reason conn message e))

  with_refusal_goes : (w after : WorldState) (node : NodeNo) (worker : ℕ) (front : FrontState) (turn : Option FrontState) → front_at node w.fronts ≡ Some front
      → after_refusal front worker ≡ turn → with_pick w node turn ≡ Some after → IsWired site made w → QueuesHoldRequests w.fronts
      → ((conn : ConnId) (message : Message) → slice_get front.workers worker ≡ Some (Picked conn message) → HasReason
      (record { node = node; conn = conn; request = message; refusal = refusal_with TooBusy })) → Goes-on w after
  with_refusal_goes w after node worker front None looked e is wired requests reason = absurd cc
  with_refusal_goes w after node worker front (Some changed) looked e is wired requests reason =
      subst (Goes-on w) (same_Some _ _ is) (refusal_by w node worker front changed (slice_get front.workers worker) looked refl wired requests reason e)

  pub refusal_at_goes : (w after : WorldState) (node : NodeNo) (worker : ℕ) (found : Option FrontState) → front_at node w.fronts ≡ found → after_refusal_at w
      node worker found ≡ Some after → IsWired site made w → QueuesHoldRequests w.fronts
      → ((front : FrontState) (conn : ConnId) (message : Message) → front_at node w.fronts ≡ Some front → slice_get front.workers worker ≡ Some
      (Picked conn message) → HasReason (record { node = node; conn = conn; request = message; refusal = refusal_with TooBusy })) → Goes-on w after
  refusal_at_goes w after node worker None looked is wired requests reason = absurd cc
  refusal_at_goes w after node worker (Some front) looked is wired requests reason = with_refusal_goes w after node worker front (after_refusal front worker)
      looked refl is wired requests (λ conn message. reason front conn message looked)

pub pick_goes : (site : Site) (made : Ends) (t : Transition) (refused : List Refused) (node : NodeNo) (worker : ℕ) → t.step ≡ Pick node worker → Outcome
    (after_pick_at t.before node worker (front_at node t.before.fronts)) t.applied t.before t.after
    → IsWired site made t.before → QueuesHoldRequests t.before.fronts → StepGoes site made t refused
pick_goes site made t refused node worker step o wired requests =
    outcome_goes site made t refused (after_pick_at t.before node worker (front_at node t.before.fronts)) o wired requests
    (λ after is. pick_at_goes site made refused (Reason t) t.before after node worker (front_at node t.before.fronts) refl is wired requests)

pub refuse_goes : (site : Site) (made : Ends) (t : Transition) (refused : List Refused) (node : NodeNo) (worker : ℕ) → t.step ≡ Refuse node worker → Outcome
    (after_refusal_at t.before node worker (front_at node t.before.fronts)) t.applied t.before t.after
    → IsWired site made t.before → QueuesHoldRequests t.before.fronts → StepGoes site made t refused
refuse_goes site made t refused node worker step o wired requests =
    outcome_goes site made t refused (after_refusal_at t.before node worker (front_at node t.before.fronts)) o wired requests
    (λ after is. refusal_at_goes site made refused (Reason t) t.before after node worker (front_at node t.before.fronts) refl is wired requests
    (λ front conn message looked picked. by_order worker front step looked (record { held = picked })))
