-- One thing after the other, from the start of a farm, as a run of it.
use Rattle.std.proofs.Common.{◌≡◌, ℕ, ◌+◌, ◌<◌, ◌≤◌, Bool, true, false, cond, not, List, [], ◌∷◌, ◌++◌, Some, refl, sym, subst, ap, ◌∙◌, arith}
use Rattle.std.specs.Prelude.{option_map}
use Rattle.std.specs.List.{find}
use Rattle.std.proofs.lemmas.List.Sums.{sum_by-cons}
use Rattle.dia_base.specs.declared.node.NodeKind.{NodeKind}
use Rattle.dia_base.specs.declared.node.NodeKind.TheVariants.{Relay, Front, Client}
use Rattle.dia_base.specs.declared.number.NodeNo.{NodeNo}
use Rattle.front_core.specs.declared.worker.Worker.{Worker}
use Rattle.front_core.specs.FrontState.{FrontState}
use Rattle.relay_core.specs.Connecting.{new_relay}
use Rattle.relay_peers.specs.declared.peers.LinkedPeer.{LinkedPeer}
use Rattle.farm_base.specs.declared.site.Node.{Node}
use Rattle.farm_base.specs.declared.site.Site.{Site}
use Rattle.farm_base.specs.declared.step.Step.{Step}
use Rattle.farm_base.specs.Nodes.{is_linked, is_node}
use Rattle.farm_model.specs.declared.state.FrontAt.{FrontAt}
use Rattle.farm_model.specs.declared.state.RelayAt.{RelayAt}
use Rattle.farm_model.specs.Run.{Past, Run, Transition, start, steps_in, skipped_in, fresh_front, front_if, fronts_from, peer_if, peers_from, relay_if}
use Rattle.farm_model.specs.Run.{relays_from, relay_site, trace_of}
use Rattle.farm_model.specs.World.{WorldState, is_front_at, front_at}
use Rattle.farm_base.specs.CheckedSite.{IsChecked}
use Rattle.farm_model.specs.declared.state.Trace.{Trace}
use Rattle.farm_model.specs.Promise.{KeepsPromise}
use Rattle.farm_model.specs.Run.{IsTrace}
use Rattle.farm_model.specs.SoundSite.{IsSound}
use Rattle.pool_law.specs.PoolRun.{AllApply}
use Rattle.pool_law.specs.ServedFarm.{Happening, ServedFarm, Serves, new_pool, new_served}
use Rattle.pool_law.specs.ServedFarm.{elsewhere, ignores, hands_over, turns_away, takes, charges, finds_busy, hands_out, goes_unanswered, sweeps, changes_terms, dies}
use Rattle.pool_law.specs.AsFarm.{AreBelow, IsBelow, RunsAsFarm, ServesAsPromised, as_front, steps_at, steps_for, with_workers}
use Rattle.pool_law.proofs.AtFronts.{GoesOn, follows_goes}
use Rattle.pool_law.proofs.Elsewhere.{showing}
use Rattle.pool_law.proofs.Pools.{AreShown, new_workers, shown}
use Rattle.pool_law.proofs.Waiting.{all_fit, have_room}

-- ---- runs behind one another

run_on : (site : Site) (old : WorldState) (past : Past) (mid : WorldState) (more : Past) (new : WorldState) → Run site old past mid → Run site mid more new →
    Run site old (past ++ more) new
run_on site old [] mid more new run rest = subst (λ (v : WorldState). Run site v more new) run rest
run_on site old (t ∷ past) mid more new run rest = (run.0, run.1, run_on site t.after past mid more new run.2 rest)

steps_on : (past more : Past) → steps_in (past ++ more) ≡ steps_in past ++ steps_in more
steps_on [] more = refl
steps_on (t ∷ past) more = ap (λ (steps : List Step). t.step ∷ steps) (steps_on past more)

all_on : (past more : Past) → AllApply past → AllApply more → AllApply (past ++ more)
all_on [] more one two = two
all_on (t ∷ past) more one two = (one.0, all_on past more one.1 two)

nothing_more : (n : ℕ) → n ≡ 0 → 0 + n ≡ 0
nothing_more n none = omega (arith, none)

none_skipped : (past : Past) → AllApply past → skipped_in past ≡ 0
none_skipped [] all = refl
none_skipped (t ∷ past) all =
    sum_by-cons (λ (other : Transition). cond {A = ℕ} (not other.applied) 1 0) t past
    ∙ ap (λ (b : Bool). cond {A = ℕ} (not b) 1 0 + skipped_in past) all.0 ∙ nothing_more (skipped_in past) (none_skipped past all.1)

module _ (site : Site) (workers : ℕ) where
  serves_on : (happenings : List Happening) (old new : ServedFarm) (shows : List FrontAt) → AreBelow workers happenings →
      AreShown workers old.pools old.world.fronts shows → Serves site old happenings new → GoesOn site workers old shows (steps_for happenings) new
  serves_on [] old new shows below are is = record {
    past = [];
    now = shows;
    run = ap (λ (s : ServedFarm). showing s.world shows) is;
    steps_are = refl;
    all_apply = tt;
    are = subst (λ (s : ServedFarm). AreShown workers s.pools s.world.fronts shows) (sym is) are;
  }
  serves_on (happening ∷ more) old new shows below are s =
      let one = follows_goes site workers old shows are happening s.0 below.0 s.1 in
      let rest = serves_on more s.0 new one.now below.1 one.are s.2 in
      record {
        past = one.past ++ rest.past;
        now = rest.now;
        run = run_on (with_workers workers site) (showing old.world shows) one.past (showing s.0.world one.now) rest.past (showing new.world rest.now) one.run
            rest.run;
        steps_are = steps_on one.past rest.past ∙ ap (λ (steps : List Step). steps ++ steps_in rest.past) one.steps_are
            ∙ ap (λ (steps : List Step). steps_at happening ++ steps) rest.steps_are;
        all_apply = all_on one.past rest.past one.all_apply rest.all_apply;
        are = rest.are;
      }

  -- ---- the start

  abbrev wide : Site
  wide = with_workers workers site

  same_peers : (at : NodeNo) (place : ℕ) (nodes : List Node) → peers_from wide at place nodes ≡ peers_from site at place nodes
  same_peers at place [] = refl
  same_peers at place (node ∷ nodes) = ap (λ (peers : List LinkedPeer). peer_if (is_linked site at (record { 0 = place })) place node ++ peers)
      (same_peers at (place + 1) nodes)

  same_relay : (place : ℕ) (node : Node) (kind : NodeKind) → relay_if wide place node kind ≡ relay_if site place node kind
  same_relay place node Relay = ap (λ (peers : List LinkedPeer). record {
    node = record { 0 = place };
    relay = new_relay
        (record (relay_site site (record { 0 = place }) node.name) { peers = peers });
  } ∷ []) (same_peers (record { 0 = place }) 0 site.nodes)
  same_relay place node Front = refl
  same_relay place node Client = refl

  same_relays : (place : ℕ) (nodes : List Node) → relays_from wide place nodes ≡ relays_from site place nodes
  same_relays place [] = refl
  same_relays place (node ∷ nodes) =
      ap (λ (relays : List RelayAt). relays ++ relays_from wide (place + 1) nodes) (same_relay place node node.kind)
      ∙ ap (λ (relays : List RelayAt). relay_if site place node node.kind ++ relays) (same_relays (place + 1) nodes)

  fresh_is : (node : Node) → fresh_front wide node ≡ as_front workers new_pool (fresh_front site node)
  fresh_is node = ap (λ (ws : List Worker). record (fresh_front wide node) { workers = ws }) (sym (new_workers workers))

  abbrev Same : ℕ → List Node → NodeNo → Type 0
  Same place nodes at = front_at at (fronts_from wide place nodes) ≡ shown workers new_pool (front_at at (fronts_from site place nodes))

  starts_shown : (place : ℕ) (nodes : List Node) → AreShown workers (λ node. new_pool) (fronts_from site place nodes) (fronts_from wide place nodes)
  starts_shown place [] at = refl
  starts_shown place (node ∷ nodes) at = go node.kind (starts_shown (place + 1) nodes at)
    where
      test : (b : Bool) → Same (place + 1) nodes at → option_map (λ (f : FrontAt). f.front)
          (cond b (Some (record { node = record { 0 = place }; front = fresh_front wide node })) (find (is_front_at at) (fronts_from wide (place + 1) nodes))) ≡
          shown workers new_pool (option_map (λ (f : FrontAt). f.front)
          (cond b (Some (record { node = record { 0 = place }; front = fresh_front site node })) (find (is_front_at at) (fronts_from site (place + 1) nodes))))
      test true same = ap (λ (f : FrontState). Some f) (fresh_is node)
      test false same = same

      go : (kind : NodeKind) → Same (place + 1) nodes at → front_at at (front_if wide place node kind ++ fronts_from wide (place + 1) nodes) ≡ shown workers new_pool
          (front_at at (front_if site place node kind ++ fronts_from site (place + 1) nodes))
      go Front same = test (is_node (record { 0 = place }) at) same
      go Relay same = same
      go Client same = same

  start_is : showing (start site) (fronts_from wide 0 site.nodes) ≡ start wide
  start_is = ap (λ (relays : List RelayAt). record (start wide) { relays = relays }) (sym (same_relays 0 site.nodes))

  pub runs_as_farm : (happenings : List Happening) (end : ServedFarm) → AreBelow workers happenings → Serves site (new_served site) happenings end →
      RunsAsFarm site workers happenings end
  runs_as_farm happenings end below s =
      let goes = serves_on happenings (new_served site) end (fronts_from wide 0 site.nodes) below (starts_shown 0 site.nodes) s in
      record {
        past = goes.past;
        last = showing end.world goes.now;
        run = subst (λ (v : WorldState). Run wide v goes.past (showing end.world goes.now)) start_is goes.run;
        steps_are = goes.steps_are;
        all_apply = goes.all_apply;
        as_served = record {
          directions = refl;
          fronts = λ node front at. goes.are node ∙ ap (shown workers (end.pools node)) at;
          no_others = λ node at. goes.are node ∙ ap (shown workers (end.pools node)) at;
          relays = refl;
          book = refl;
          sent = refl;
          received = refl;
          ends = refl;
        };
      }

-- ---- a worker for each number

abbrev number_in : Happening → ℕ
number_in (elsewhere step) = 0
number_in (ignores from node place) = 0
number_in (hands_over from node place number) = 0
number_in (turns_away from node place) = 0
number_in (takes node number) = number
number_in (charges node number moment written) = number
number_in (finds_busy node number written) = number
number_in (hands_out node number) = number
number_in (goes_unanswered node number) = 0
number_in (sweeps moment) = 0
number_in (changes_terms moment change) = 0
number_in (dies node) = 0

pub workers_for : List Happening → ℕ
workers_for [] = 0
workers_for (happening ∷ more) = number_in happening + 1 + workers_for more

is_below : (workers : ℕ) (happening : Happening) → number_in happening < workers → IsBelow workers happening
is_below workers (elsewhere step) less = tt
is_below workers (ignores from node place) less = tt
is_below workers (hands_over from node place number) less = tt
is_below workers (turns_away from node place) less = tt
is_below workers (takes node number) less = less
is_below workers (charges node number moment written) less = less
is_below workers (finds_busy node number written) less = less
is_below workers (hands_out node number) less = less
is_below workers (goes_unanswered node number) less = tt
is_below workers (sweeps moment) less = tt
is_below workers (changes_terms moment change) less = tt
is_below workers (dies node) less = tt

all_below : (workers : ℕ) (happenings : List Happening) → workers_for happenings ≤ workers → AreBelow workers happenings
unfolding workers_for
all_below workers [] most = tt
all_below workers (happening ∷ more) most =
    (is_below workers happening (omega (arith, most)), all_below workers more (omega (arith, most)))

pub all_have_workers : (happenings : List Happening) → AreBelow (workers_for happenings) happenings
all_have_workers happenings = all_below (workers_for happenings) happenings (omega arith)

-- ---- the promise

abbrev KeepsThem : Type 0
KeepsThem = (site : Site) (past : Past) (trace : Trace) → IsSound site → IsTrace site past trace → KeepsPromise site past trace

pub promised : KeepsThem → (site : Site) (happenings : List Happening) (end : ServedFarm) → IsChecked site → Serves site (new_served site) happenings end →
    ServesAsPromised site happenings end
promised keep site happenings end checked s =
    let workers = workers_for happenings in
    let runs = runs_as_farm site workers happenings end (all_have_workers happenings) s in
    let wide = with_workers workers site in
    let sound : IsSound wide =
    record { sound_names = checked.sound_names; sound_links = checked.sound_links; sound_routes = checked.sound_routes } in
    let told : KeepsPromise wide runs.past (trace_of (skipped_in runs.past) runs.last) =
    keep wide runs.past (trace_of (skipped_in runs.past) runs.last) sound (record { end = runs.last; run = runs.run; trace_is = refl }) in
    let same = runs.as_served in
    let rooms : (before : List Happening) (served : ServedFarm) → Serves site (new_served site) before served → (node : NodeNo) (front : FrontState) →
    front_at node served.world.fronts ≡ Some front → front.site.queue ≡ site.queue =
    λ before served then. have_room keep site (workers_for before) before served
    (record { sound_names = checked.sound_names; sound_links = checked.sound_links; sound_routes = checked.sound_routes })
    (runs_as_farm site (workers_for before) before served (all_have_workers before) then) in
    record {
      workers = workers;
      runs = runs;
      promise = subst (KeepsPromise wide runs.past) (λ i. record {
        sent = same.sent i;
        received = same.received i;
        book = same.book i;
        skipped = none_skipped runs.past runs.all_apply i;
        ends = same.ends i;
      }) told;
      waiting_fit = all_fit site rooms [] happenings (new_served site) end refl (λ node. omega arith) s;
    }
