-- What happens to a front that is a pool is a step of the farm, or none.
use Rattle.std.proofs.Common.{◌≡◌, ℕ, ◌<◌, ◌≤◌, Bool, true, false, cond, ◌&&◌, ◌||◌, List, [], ◌∷◌, ◌++◌, length, map, Option, Some, None, refl, sym, subst, ap, ◌∙◌}
use Rattle.std.proofs.Common.{arith, MatchBool, Ok, nat_lt, lt-ltb, le-ltb, replicate}
use Rattle.std.specs.Prelude.{slice_get, slice_set}
use Rattle.std.proofs.lemmas.Bool.{or_right}
use Rattle.std.proofs.lemmas.List.{length-map}
use Rattle.dia_base.specs.declared.node.NodeKind.{NodeKind}
use Rattle.dia_base.specs.declared.node.NodeKind.TheVariants.{Relay, Front, Client}
use Rattle.dia_base.specs.declared.number.ConnId.{ConnId}
use Rattle.dia_base.specs.declared.number.Moment.{Moment}
use Rattle.dia_base.specs.declared.number.NodeNo.{NodeNo}
use Rattle.dia_message.specs.declared.message.Message.{Message}
use Rattle.dia_message.specs.Traffic.{Traffic}
use Rattle.cc_book.specs.declared.terms_change.TermsChange.{TermsChange}
use Rattle.cc_book.specs.Changing.{after_change_with}
use Rattle.cc_book.specs.Taking.{Ledger}
use Rattle.front_core.specs.declared.worker.Job.{Job}
use Rattle.front_core.specs.declared.worker.Worker.{Worker}
use Rattle.front_core.specs.declared.worker.Worker.TheVariants.{Idle, Done}
use Rattle.front_core.specs.Charging.{answer_in, book_after}
use Rattle.front_core.specs.FrontState.{FrontState, is_among}
use Rattle.front_core.specs.FrontStep.{after_restart, after_pick, after_pick_by, after_pick_from, after_refusal, after_refusal_by, after_emit, after_emit_by}
use Rattle.front_core.specs.FrontStep.{after_charge, after_charge_by, preparation_at, too_busy, with_job}
use Rattle.front_pool.specs.declared.job.Job.{Job as PoolJob}
use Rattle.farm_base.specs.declared.site.Site.{Site}
use Rattle.farm_base.specs.declared.step.Step.{Step}
use Rattle.farm_base.specs.declared.step.Step.TheVariants.{Deliver, Crash, Pick, Charge, Refuse, Emit, Sweep, ChangeTerms}
use Rattle.farm_base.specs.Nodes.{is_client, is_front, is_relay, kind_at, means_client, means_front}
use Rattle.farm_model.specs.declared.state.FrontAt.{FrontAt}
use Rattle.farm_model.specs.Arrival.{ArrivesAtServer, after_arrival_at_client, after_arrival_at_front, after_arrival_by}
use Rattle.farm_model.specs.FarmStep.{FarmStep, Flight, Outcome, Delivers, flight_at, with_pick, with_charge, with_emit, after_pick_at, after_charge_at}
use Rattle.farm_model.specs.FarmStep.{after_refusal_at, after_emit_at}
use Rattle.farm_model.specs.Loss.{LossAt, after_crash, with_restart_of_front}
use Rattle.farm_model.specs.Run.{Past, Run, steps_in}
use Rattle.farm_model.specs.World.{WorldState, with_front, front_at, with_traffic_from}
use Rattle.pool_law.specs.PoolRun.{AllApply}
use Rattle.pool_law.specs.ServedFarm.{PoolNow, ServedFarm, Work, nothing, in_hand, finished, new_pool, with_pool, with_waiting, with_work, job_of, sent_for}
use Rattle.pool_law.specs.ServedFarm.{ChangesTerms, Charges, Comes, Dies, FindsBusy, GoesUnanswered, HandsOut, HandsOver, HappensElsewhere, Ignores, Sweeps, Takes}
use Rattle.pool_law.specs.ServedFarm.{TurnsAway, Happening, Follows, elsewhere, ignores, hands_over, turns_away, takes, charges, finds_busy, hands_out}
use Rattle.pool_law.specs.ServedFarm.{goes_unanswered, sweeps, changes_terms, dies}
use Rattle.pool_law.specs.AsFarm.{IsBelow, as_front, steps_at, waiting, with_workers, worker_of}
use Rattle.pool_law.proofs.Booking.{has_answer, has_left, sweep_left}
use Rattle.pool_law.proofs.Elsewhere.{goes_alike, showing}
use Rattle.pool_law.proofs.Pools.{AreShown, new_workers, one_changed, pool_changed, pool_here, pool_there, shown, shown_at, worker_at, worker_set, workers_are}
use Rattle.pool_law.proofs.Turns.{front_now, front_elsewhere}

-- ---- a worker's turn at a front of the farm

module _ (site : Site) (w : WorldState) (shows : List FrontAt) (node : NodeNo) (was : FrontState) (at : front_at node shows ≡ Some was) where
  abbrev with_now : FrontState → WorldState
  with_now now = showing w (with_front node now shows)

  pick_goes : (worker : ℕ) (now : FrontState) → after_pick was worker ≡ Some now → FarmStep site (showing w shows) (Pick node worker) true [] (with_now now)
  pick_goes worker now turn = (
    subst (λ (found : Option FrontState). Outcome (after_pick_at (showing w shows) node worker found) true (showing w shows) (with_now now)) (sym at)
        (subst (λ (t : Option FrontState). Outcome (with_pick (showing w shows) node t) true (showing w shows) (with_now now)) (sym turn) (refl, refl)),
    refl,
  )

  refuse_goes : (worker : ℕ) (now : FrontState) → after_refusal was worker ≡ Some now →
      FarmStep site (showing w shows) (Refuse node worker) true [] (with_now now)
  refuse_goes worker now turn = (
    subst (λ (found : Option FrontState). Outcome (after_refusal_at (showing w shows) node worker found) true (showing w shows) (with_now now)) (sym at)
        (subst (λ (t : Option FrontState). Outcome (with_pick (showing w shows) node t) true (showing w shows) (with_now now)) (sym turn) (refl, refl)),
    refl,
  )

  charge_goes : (worker : ℕ) (moment : Moment) (now : FrontState) (book : Ledger) → after_charge was w.book moment worker ≡ Some (now, book) →
      FarmStep site (showing w shows) (Charge node worker moment) true [] (record (with_now now) { book = book })
  charge_goes worker moment now book turn =
      let next = record (with_now now) { book = book } in (
        subst (λ (found : Option FrontState). Outcome (after_charge_at (showing w shows) node worker moment found) true (showing w shows) next) (sym at)
            (subst (λ (t : Option (FrontState × Ledger)). Outcome (with_charge (showing w shows) node t) true (showing w shows) next) (sym turn) (refl, refl)),
        refl,
      )

  emit_goes : (worker : ℕ) (now : FrontState) (sent : Traffic) → after_emit was worker ≡ Some (now, sent) →
      FarmStep site (showing w shows) (Emit node worker) true [] (record (with_now now) { directions = with_traffic_from node w.directions sent })
  emit_goes worker now sent turn =
      let next = record (with_now now) { directions = with_traffic_from node w.directions sent } in (
        subst (λ (found : Option FrontState). Outcome (after_emit_at (showing w shows) node worker found) true (showing w shows) next) (sym at)
            (subst (λ (t : Option (FrontState × Traffic)). Outcome (with_emit (showing w shows) node t) true (showing w shows) next) (sym turn) (refl, refl)),
        refl,
      )

  -- a message comes to the front
  deliver_goes : (from : NodeNo) (place : ℕ) (flight : Flight) (next : WorldState) → is_client site node ≡ false → flight_at w.directions from node place ≡
      Some flight → next ≡ after_arrival_by (showing (record w { directions = flight.directions }) shows) node flight.conn flight.message was →
      FarmStep site (showing w shows) (Deliver from node place) true [] next
  deliver_goes from place flight next client flies same =
      let left = showing (record w { directions = flight.directions }) shows in (
        subst (λ (found : Option Flight). Delivers site (showing w shows) node found true next) (sym flies) (
          refl,
          subst (λ (b : Bool). MatchBool b (next ≡ after_arrival_at_client left flight.conn flight.message)
              (ArrivesAtServer left node flight.conn flight.message (front_at node shows) next)) (sym client)
              (subst (λ (found : Option FrontState). ArrivesAtServer left node flight.conn flight.message found next) (sym at) same),
        ),
        refl,
      )

-- a front is no client
no_client : (site : Site) (node : NodeNo) → is_front site node ≡ true → is_client site node ≡ false
no_client site node is = go (kind_at site node) is
  where
    go : (kind : Option NodeKind) → means_front kind ≡ true → means_client kind ≡ false
    go None e = refl
    go (Some Front) e = refl
    go (Some Relay) e = refl
    go (Some Client) e = absurd cc

-- ---- a front that is a pool

module _ (workers : ℕ) (pool : PoolNow) (front : FrontState) where
  abbrev was : FrontState
  was = as_front workers pool front

  module _ (number : ℕ) (less : number < workers) where
    -- the worker of a job does something with it
    finish : (work : Work) → record was { workers = slice_set was.workers number (worker_of work) } ≡ as_front workers (with_work pool number work) front
    finish work = ap (λ (ws : List Worker). record was { workers = ws }) (worker_set workers pool.works number work)

    held_as : (work : Work) → pool.works number ≡ work → slice_get was.workers number ≡ Some (worker_of work)
    held_as work held = worker_at workers pool.works number less ∙ ap (λ (k : Work). Some (worker_of k)) held

    picks : (conn : ConnId) (request : Message) (behind : List PoolJob) →
        pool.waiting ≡ record { number = number; conn = conn; request = request } ∷ behind → pool.works number ≡ nothing →
        after_pick was number ≡ Some (as_front workers (with_work (with_waiting pool behind) number (in_hand conn request)) front)
    picks conn request behind first alone =
        ap (after_pick_by was number) (held_as nothing alone)
        ∙ ap (λ (jobs : List PoolJob). after_pick_from was number (map waiting jobs)) first
        ∙ ap (λ (ws : List Worker). Some (record was { queue = map waiting behind; workers = ws })) (worker_set workers pool.works number (in_hand conn request))

    busies : (conn : ConnId) (message : Message) (written : Bool) → pool.works number ≡ in_hand conn message →
        after_refusal was number ≡ Some (as_front workers (with_work pool number (finished conn (too_busy front.site message) written)) front)
    busies conn message written held =
        ap (after_refusal_by was number) (held_as (in_hand conn message) held)
        ∙ ap (λ (f : FrontState). Some f) (finish (finished conn (too_busy front.site message) written))

    charged : (book : Ledger) (moment : Moment) (conn : ConnId) (message answer : Message) (left : Ledger) (written : Bool) → pool.works number ≡
        in_hand conn message → answer_in front.site book message (preparation_at front.site message) ≡ answer
        → book_after book moment (preparation_at front.site message) ≡ left
        → after_charge was book moment number ≡ Some (as_front workers (with_work pool number (finished conn answer written)) front, left)
    charged book moment conn message answer left written held answers leaves =
        ap (after_charge_by was book moment number) (held_as (in_hand conn message) held)
        ∙ ap (λ (a : Message). Some (
          record was { workers = slice_set was.workers number (Done conn a) },
          book_after book moment (preparation_at front.site message),
        )) answers
        ∙ ap (λ (f : FrontState). Some (f, book_after book moment (preparation_at front.site message))) (finish (finished conn answer written))
        ∙ ap (λ (b : Ledger). Some (as_front workers (with_work pool number (finished conn answer written)) front, b)) leaves

    emits : (conn : ConnId) (answer : Message) (written : Bool) → pool.works number ≡ finished conn answer written →
        after_emit was number ≡ Some (as_front workers (with_work pool number nothing) front, sent_for front conn answer)
    emits conn answer written held =
        ap (after_emit_by was number) (held_as (finished conn answer written) held)
        ∙ ap (λ (f : FrontState). Some (f, sent_for front conn answer)) (finish nothing)

  waits : (jobs : List PoolJob) (job : PoolJob) → map waiting jobs ++ waiting job ∷ [] ≡ map waiting (jobs ++ job ∷ [])
  waits [] job = refl
  waits (first ∷ jobs) job = ap (λ (more : List Job). waiting first ∷ more) (waits jobs job)

  joins : (number : ℕ) (conn : ConnId) (message : Message) → with_job was conn message ≡
      as_front workers (with_waiting pool (pool.waiting ++ record { number = number; conn = conn; request = message } ∷ [])) front
  joins number conn message = ap (λ (jobs : List Job). record was { queue = jobs })
      (waits pool.waiting (record { number = number; conn = conn; request = message }))

  has_room : length pool.waiting < front.site.queue → nat_lt (length was.queue) was.site.queue ≡ true
  has_room room = lt-ltb (length (map waiting pool.waiting)) front.site.queue (let long = length-map pool.waiting waiting in omega (arith, long, room))

  has_none : front.site.queue ≤ length pool.waiting → nat_lt (length was.queue) was.site.queue ≡ false
  has_none full = le-ltb (length (map waiting pool.waiting)) front.site.queue (let long = length-map pool.waiting waiting in omega (arith, long, full))

  restarts : after_restart was ≡ as_front workers new_pool (after_restart front)
  restarts = ap (λ (ws : List Worker). record was { connections = []; queue = []; workers = ws })
      (ap (λ (n : ℕ). replicate n Idle) (workers_are workers pool.works) ∙ sym (new_workers workers))

-- ---- what happens, as steps of the farm

module _ (site : Site) (workers : ℕ) where
  -- From a farm that is as what serves, the steps lead to one that is as what serves then.
  pub record GoesOn (old : ServedFarm) (shows : List FrontAt) (steps : List Step) (new : ServedFarm) : Type 0 where
    pub past : Past
    pub now : List FrontAt
    pub run : Run (with_workers workers site) (showing old.world shows) past (showing new.world now)
    pub steps_are : steps_in past ≡ steps
    pub all_apply : AllApply past
    pub are : AreShown workers new.pools new.world.fronts now

  by_step : (old new : ServedFarm) (shows now : List FrontAt) (step : Step) (losses : List LossAt) →
      FarmStep (with_workers workers site) (showing old.world shows) step true losses (showing new.world now) →
      AreShown workers new.pools new.world.fronts now → GoesOn old shows (step ∷ []) new
  by_step old new shows now step losses goes are = record {
    past = record { step = step; before = showing old.world shows; applied = true; losses = losses; after = showing new.world now } ∷ [];
    now = now;
    run = (refl, goes, refl);
    steps_are = refl;
    all_apply = (refl, tt);
    are = are;
  }

  -- a front stays as it was
  stays : (pools : NodeNo → PoolNow) (fronts shows : List FrontAt) (node : NodeNo) (front : FrontState) → AreShown workers pools fronts shows →
      front_at node fronts ≡ Some front → AreShown workers pools fronts (with_front node (as_front workers (pools node) front) shows)
  stays pools fronts shows node front are at =
      let there = as_front workers (pools node) front in
      one_changed workers pools pools fronts fronts shows node there there are (shown_at workers pools fronts shows node front are at)
      (sym (ap (shown workers (pools node)) at)) (λ other apart. refl)

  module _ (old : ServedFarm) (shows : List FrontAt) (are : AreShown workers old.pools old.world.fronts shows) where
    abbrev w : WorldState
    w = old.world

    -- ---- a message comes

    module _ (from node : NodeNo) (place : ℕ) (comes : Comes site old from node place) where
      abbrev front : FrontState
      front = comes.at.front

      abbrev there : FrontState
      there = as_front workers (old.pools node) front

      abbrev conn : ConnId
      conn = comes.flight.conn

      abbrev message : Message
      message = comes.flight.message

      abbrev left : WorldState
      left = record w { directions = comes.flight.directions }

      found : front_at node shows ≡ Some there
      found = shown_at workers old.pools w.fronts shows node front are comes.at.there

      -- what is sent at it, and the front then, where the message is a request or not, and there is room or not
      abbrev sent : Bool → Bool → Traffic
      sent request room = cond request (cond room [] ((conn, too_busy front.site message) ∷ [])) []

      abbrev next : Bool → Bool → FrontState
      next request room = cond request (cond room (with_job there conn message) there) there

      abbrev arrived : Bool → Bool → WorldState
      arrived request room = record left {
        directions = with_traffic_from node left.directions (sent request room);
        fronts = with_front node (next request room) shows;
      }

      abbrev room_is : Bool
      room_is = nat_lt (length there.queue) there.site.queue

      comes_up : is_among front.connections conn ≡ true → (request room : Bool) → message.header.request ≡ request → room_is ≡ room →
          arrived request room ≡ after_arrival_by (showing left shows) node conn message there
      comes_up up request room is has =
          sym (ap (λ (b : Bool). cond b (after_arrival_at_front (showing left shows) node conn message there) (showing left shows)) up
          ∙ ap (λ (r : Bool). arrived r room_is) is ∙ ap (arrived request) has)

      comes_down : is_among front.connections conn ≡ false → showing left shows ≡ after_arrival_by (showing left shows) node conn message there
      comes_down down = sym (ap (λ (b : Bool). cond b (after_arrival_at_front (showing left shows) node conn message there) (showing left shows)) down)

      delivered : (after : WorldState) → after ≡ after_arrival_by (showing left shows) node conn message there →
          FarmStep (with_workers workers site) (showing w shows) (Deliver from node place) true [] after
      delivered after same = deliver_goes (with_workers workers site) w shows node there found from place comes.flight after (no_client site node comes.is_one)
          comes.flies same

      stays_there : AreShown workers old.pools w.fronts (with_front node there shows)
      stays_there = stays old.pools w.fronts shows node front are comes.at.there

    ignores_goes : (from node : NodeNo) (place : ℕ) (new : ServedFarm) → Ignores site old from node place new →
        GoesOn old shows (Deliver from node place ∷ []) new
    ignores_goes from node place new h =
        subst (GoesOn old shows (Deliver from node place ∷ [])) (sym h.is) (go (is_among h.comes.at.front.connections h.comes.flight.conn) refl h.no_request)
      where
        go : (b : Bool) → is_among h.comes.at.front.connections h.comes.flight.conn ≡ b → (b && h.comes.flight.message.header.request) ≡ false →
            GoesOn old shows (Deliver from node place ∷ []) (record old { world = record old.world { directions = h.comes.flight.directions } })
        go true up request = by_step old (record old { world = record old.world { directions = h.comes.flight.directions } }) shows
            (with_front node (there from node place h.comes) shows) (Deliver from node place) []
            (delivered from node place h.comes (arrived from node place h.comes false (room_is from node place h.comes))
            (comes_up from node place h.comes up false (room_is from node place h.comes) request refl))
            (stays_there from node place h.comes)
        go false down request = by_step old (record old { world = record old.world { directions = h.comes.flight.directions } }) shows shows
            (Deliver from node place) [] (delivered from node place h.comes (showing (left from node place h.comes) shows) (comes_down from node place h.comes down))
            are

    hands_over_goes : (from node : NodeNo) (place number : ℕ) (new : ServedFarm) → HandsOver site old from node place number new →
        GoesOn old shows (Deliver from node place ∷ []) new
    hands_over_goes from node place number new h =
        let comes = h.asks.comes in
        let pool = old.pools node in
        let with_it = with_waiting pool (pool.waiting ++ job_of number comes.flight ∷ []) in
        let after : ServedFarm = record { world = record w { directions = comes.flight.directions }; pools = with_pool old.pools node with_it } in
        let now = with_job (there from node place comes) comes.flight.conn comes.flight.message in
        subst (GoesOn old shows (Deliver from node place ∷ [])) (sym h.is) (by_step old after shows (with_front node now shows) (Deliver from node place) []
        (delivered from node place comes (arrived from node place comes true true)
        (comes_up from node place comes h.asks.up true true h.asks.request (has_room workers pool comes.at.front h.room)))
        (pool_changed workers old.pools w.fronts shows node comes.at.front now with_it are comes.at.there
        (joins workers pool comes.at.front number comes.flight.conn comes.flight.message)))

    turns_away_goes : (from node : NodeNo) (place : ℕ) (new : ServedFarm) → TurnsAway site old from node place new →
        GoesOn old shows (Deliver from node place ∷ []) new
    turns_away_goes from node place new h =
        let comes = h.asks.comes in
        let pool = old.pools node in
        let busy = (comes.flight.conn, too_busy comes.at.front.site comes.flight.message) ∷ [] in
        let after : ServedFarm = record { world = record w { directions = with_traffic_from node comes.flight.directions busy }; pools = old.pools } in
        subst (GoesOn old shows (Deliver from node place ∷ [])) (sym h.is) (by_step old after shows (with_front node (there from node place comes) shows)
        (Deliver from node place) []
        (delivered from node place comes (arrived from node place comes true false)
        (comes_up from node place comes h.asks.up true false h.asks.request (has_none workers pool comes.at.front h.full)))
        (stays_there from node place comes))

    -- ---- a job

    takes_goes : (node : NodeNo) (number : ℕ) (new : ServedFarm) → number < workers → Takes old node number new → GoesOn old shows (Pick node number ∷ []) new
    takes_goes node number new less h =
        let pool = old.pools node in
        let front = h.at.front in
        let left = with_work (with_waiting pool h.behind) number (in_hand h.conn h.request) in
        let now = as_front workers left front in
        let after : ServedFarm = record { world = w; pools = with_pool old.pools node left } in
        subst (GoesOn old shows (Pick node number ∷ [])) (sym h.is) (by_step old after shows (with_front node now shows) (Pick node number) []
        (pick_goes (with_workers workers site) w shows node (as_front workers pool front)
        (shown_at workers old.pools w.fronts shows node front are h.at.there) number now
        (picks workers pool front number less h.conn h.request h.behind h.first h.alone))
        (pool_changed workers old.pools w.fronts shows node front now left are h.at.there refl))

    charges_goes : (node : NodeNo) (number : ℕ) (moment : Moment) (written : Bool) (new : ServedFarm) → number < workers →
        Charges old node number moment written new → GoesOn old shows (Charge node number moment ∷ []) new
    charges_goes node number moment written new less h =
        let pool = old.pools node in
        let front = h.holds.at.front in
        let left = with_work pool number (finished h.holds.conn h.answer written) in
        let now = as_front workers left front in
        let after : ServedFarm = record { world = record w { book = h.book }; pools = with_pool old.pools node left } in
        subst (GoesOn old shows (Charge node number moment ∷ [])) (sym h.is) (by_step old after shows (with_front node now shows) (Charge node number moment) []
        (charge_goes (with_workers workers site) w shows node (as_front workers pool front)
        (shown_at workers old.pools w.fronts shows node front are h.holds.at.there) number moment now h.book
        (charged workers pool front number less w.book moment h.holds.conn h.holds.message h.answer h.book written h.holds.held
        (has_answer front.site w.book moment h.holds.message h.answer h.book h.has_it)
        (has_left front.site w.book moment h.holds.message h.answer h.book h.has_it)))
        (pool_changed workers old.pools w.fronts shows node front now left are h.holds.at.there refl))

    finds_busy_goes : (node : NodeNo) (number : ℕ) (written : Bool) (new : ServedFarm) → number < workers → FindsBusy old node number written new →
        GoesOn old shows (Refuse node number ∷ []) new
    finds_busy_goes node number written new less h =
        let pool = old.pools node in
        let front = h.holds.at.front in
        let left = with_work pool number (finished h.holds.conn (too_busy front.site h.holds.message) written) in
        let now = as_front workers left front in
        let after : ServedFarm = record { world = w; pools = with_pool old.pools node left } in
        subst (GoesOn old shows (Refuse node number ∷ [])) (sym h.is) (by_step old after shows (with_front node now shows) (Refuse node number) []
        (refuse_goes (with_workers workers site) w shows node (as_front workers pool front)
        (shown_at workers old.pools w.fronts shows node front are h.holds.at.there) number now
        (busies workers pool front number less h.holds.conn h.holds.message written h.holds.held))
        (pool_changed workers old.pools w.fronts shows node front now left are h.holds.at.there refl))

    hands_out_goes : (node : NodeNo) (number : ℕ) (new : ServedFarm) → number < workers → HandsOut old node number new →
        GoesOn old shows (Emit node number ∷ []) new
    hands_out_goes node number new less h =
        let pool = old.pools node in
        let front = h.done.at.front in
        let left = with_work pool number nothing in
        let now = as_front workers left front in
        let out = sent_for front h.done.conn h.done.answer in
        let after : ServedFarm = record { world = record w { directions = with_traffic_from node w.directions out }; pools = with_pool old.pools node left } in
        subst (GoesOn old shows (Emit node number ∷ [])) (sym h.is) (by_step old after shows (with_front node now shows) (Emit node number) []
        (emit_goes (with_workers workers site) w shows node (as_front workers pool front)
        (shown_at workers old.pools w.fronts shows node front are h.done.at.there) number now out
        (emits workers pool front number less h.done.conn h.done.answer true h.done.held))
        (pool_changed workers old.pools w.fronts shows node front now left are h.done.at.there refl))

    -- ---- the book, and deaths

    sweeps_goes : (moment : Moment) (new : ServedFarm) → Sweeps old moment new → GoesOn old shows (Sweep moment ∷ []) new
    sweeps_goes moment new h =
        let after : ServedFarm = record old { world = record w { book = Rattle.cc_shared.specs.History.book_at h.shared.opened h.swept.seen.log } } in
        subst (GoesOn old shows (Sweep moment ∷ [])) (sym h.is) (by_step old after shows shows (Sweep moment) []
        ((refl, ap (λ (b : Ledger). record w { fronts = shows; book = b }) (sym (sweep_left w.book moment h.shared h.swept h.has_swept h.book))), refl) are)

    changes_goes : (moment : Moment) (change : TermsChange) (new : ServedFarm) → ChangesTerms old moment change new →
        GoesOn old shows (ChangeTerms moment change ∷ []) new
    changes_goes moment change new h =
        let after : ServedFarm = record old { world = record w { book = after_change_with w.book moment change (Ok h.place) } } in
        subst (GoesOn old shows (ChangeTerms moment change ∷ [])) (sym h.is) (by_step old after shows shows (ChangeTerms moment change) []
        ((refl, ap (λ (b : Ledger). record w { fronts = shows; book = b }) (sym (ap (after_change_with w.book moment change) h.answer))), refl) are)

    dies_goes : (node : NodeNo) (new : ServedFarm) → Dies site old node new → GoesOn old shows (Crash node ∷ []) new
    dies_goes node new h =
        let pool = old.pools node in
        let front = h.at.front in
        let there = shown_at workers old.pools w.fronts shows node front are h.at.there in
        let now = after_restart (as_front workers pool front) in
        let pools = with_pool old.pools node new_pool in
        let after : ServedFarm = record { world = after_crash w node; pools = pools } in
        let fronts = with_front node (after_restart front) w.fronts in
        let shown_then : AreShown workers pools fronts (with_front node now shows) =
        one_changed workers old.pools pools w.fronts fronts shows node (as_front workers pool front) now are there
        (ap (λ (f : FrontState). Some f) (restarts workers pool front)
        ∙ ap (λ (p : PoolNow). Some (as_front workers p (after_restart front))) (sym (pool_here old.pools node new_pool))
        ∙ sym (ap (shown workers (pools node)) (front_now node (after_restart front) front w.fronts h.at.there)))
        (λ other apart. ap (λ (p : PoolNow). shown workers p (front_at other fronts)) (pool_there old.pools node new_pool other apart)
        ∙ ap (shown workers (old.pools other)) (front_elsewhere node (after_restart front) w.fronts other apart)) in
        let can : (is_relay site node || is_front site node) ≡ true = or_right (is_relay site node) (is_front site node) h.is_one in
        let next = showing (after_crash w node) (with_front node now shows) in
        subst (GoesOn old shows (Crash node ∷ [])) (sym h.is) (by_step old after shows (with_front node now shows) (Crash node) [] (
          subst (λ (b : Bool). Outcome (cond b (Some (after_crash (showing w shows) node)) None) true (showing w shows) next) (sym can) (
            refl,
            ap (λ (f : Option FrontState). record (after_crash w node) { fronts = with_restart_of_front node shows f }) (sym there),
          ),
          refl,
        )
        (subst (λ (f : Option FrontState). AreShown workers pools (with_restart_of_front node w.fronts f) (with_front node now shows)) (sym h.at.there) shown_then))

    elsewhere_goes : (step : Step) (new : ServedFarm) → HappensElsewhere site old step new → GoesOn old shows (step ∷ []) new
    elsewhere_goes step new h =
        let alike = goes_alike site workers old.pools w h.world shows step h.losses are h.of_no_front h.goes in
        subst (GoesOn old shows (step ∷ [])) (sym h.is) (by_step old (record old { world = h.world }) shows alike.now step alike.at alike.goes alike.are)

    unanswered_goes : (node : NodeNo) (number : ℕ) (new : ServedFarm) → GoesUnanswered old node number new → GoesOn old shows [] new
    unanswered_goes node number new h = subst (GoesOn old shows []) (sym h.is)
        (record { past = []; now = shows; run = refl; steps_are = refl; all_apply = tt; are = are })

    pub follows_goes : (happening : Happening) (new : ServedFarm) → IsBelow workers happening → Follows site old happening new →
        GoesOn old shows (steps_at happening) new
    follows_goes (elsewhere step) new below h = elsewhere_goes step new h
    follows_goes (ignores from node place) new below h = ignores_goes from node place new h
    follows_goes (hands_over from node place number) new below h = hands_over_goes from node place number new h
    follows_goes (turns_away from node place) new below h = turns_away_goes from node place new h
    follows_goes (takes node number) new below h = takes_goes node number new below h
    follows_goes (charges node number moment written) new below h = charges_goes node number moment written new below h
    follows_goes (finds_busy node number written) new below h = finds_busy_goes node number written new below h
    follows_goes (hands_out node number) new below h = hands_out_goes node number new below h
    follows_goes (goes_unanswered node number) new below h = unanswered_goes node number new h
    follows_goes (sweeps moment) new below h = sweeps_goes moment new h
    follows_goes (changes_terms moment change) new below h = changes_goes moment change new h
    follows_goes (dies node) new below h = dies_goes node new h
