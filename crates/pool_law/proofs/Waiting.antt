-- No more requests wait at a front than the site lets.
use Rattle.std.proofs.Common.{◌≡◌, ℕ, ◌<◌, ◌≤◌, Bool, true, false, cond, List, [], ◌∷◌, ◌++◌, length, Some, refl, sym, subst, ap, ◌∙◌, arith, length-append}
use Rattle.std.proofs.lemmas.List.Elements.{All-contains}
use Rattle.dia_base.specs.declared.number.Moment.{Moment}
use Rattle.dia_base.specs.declared.number.NodeNo.{NodeNo}
use Rattle.front_core.specs.FrontState.{FrontState}
use Rattle.front_pool.specs.declared.job.Job.{Job}
use Rattle.farm_law.specs.Lists.{here}
use Rattle.farm_base.specs.declared.site.Site.{Site}
use Rattle.farm_base.specs.declared.step.Step.TheVariants.{Sweep}
use Rattle.farm_base.specs.Nodes.{is_node}
use Rattle.farm_model.specs.declared.state.FrontAt.{FrontAt}
use Rattle.farm_model.specs.declared.state.Trace.{Trace}
use Rattle.farm_model.specs.FarmStep.{after_sweep_at}
use Rattle.farm_model.specs.Promise.{KeepsPromise}
use Rattle.farm_model.specs.Run.{IsTrace, Past, Run, Transition, skipped_in, start, trace_of}
use Rattle.farm_model.specs.SetUp.{HasNode, IsSetUp, KeepsSetUp}
use Rattle.farm_model.specs.SoundSite.{IsSound}
use Rattle.farm_model.specs.World.{WorldState, front_at}
use Rattle.farm_model.proofs.Lists.Among.{Contains-has, Has-right}
use Rattle.farm_model.proofs.Runs.RunLemmas.{Run-push}
use Rattle.farm_model.proofs.Wiring.WorldLemmas.{front_among, the_front}
use Rattle.front_core.specs.FrontStep.{too_busy}
use Rattle.pool_law.specs.ServedFarm.{Follows, Happening, PoolNow, ServedFarm, Serves, new_pool, new_served, with_pool, with_waiting, with_work}
use Rattle.pool_law.specs.ServedFarm.{in_hand, finished, nothing}
use Rattle.pool_law.specs.ServedFarm.{elsewhere, ignores, hands_over, turns_away, takes, charges, finds_busy, hands_out, goes_unanswered, sweeps, changes_terms, dies}
use Rattle.pool_law.specs.AsFarm.{RunsAsFarm, as_front, with_workers}

abbrev Keeps : Type 0
Keeps = (site : Site) (past : Past) (trace : Trace) → IsSound site → IsTrace site past trace → KeepsPromise site past trace

abbrev pub Fits : Site → ServedFarm → Type 0
Fits site served = (node : NodeNo) → length (served.pools node).waiting ≤ site.queue

-- each front has as much room as the site says
abbrev HaveRoom : Site → ServedFarm → Type 0
HaveRoom site served = (node : NodeNo) (front : FrontState) → front_at node served.world.fronts ≡ Some front → front.site.queue ≡ site.queue

-- ---- one thing more

one_fits : (most : ℕ) (pools : NodeNo → PoolNow) (at : NodeNo) (pool : PoolNow) → length pool.waiting ≤ most → ((node : NodeNo) → length (pools node).waiting ≤
    most) → (node : NodeNo) → length (with_pool pools at pool node).waiting ≤ most
one_fits most pools at pool few fits node = go (is_node at node)
  where
    go : (b : Bool) → length (cond b pool (pools node)).waiting ≤ most
    go true = few
    go false = fits node

one_more : (jobs : List Job) (job : Job) (room most : ℕ) → length jobs < room → room ≡ most → length (jobs ++ job ∷ []) ≤ most
one_more jobs job room most less same = let long = length-append jobs (job ∷ []) in omega (arith, long, less, same)

one_less : (jobs behind : List Job) (job : Job) (most : ℕ) → jobs ≡ job ∷ behind → length jobs ≤ most → length behind ≤ most
one_less jobs behind job most is few = let long : length jobs ≡ length (job ∷ behind) = ap length is in omega (arith, long, few)

module _ (site : Site) (old new : ServedFarm) (rooms : HaveRoom site old) (fits : Fits site old) where
  abbrev Then : ServedFarm → Type 0
  Then served = Fits site served

  follows_fits : (happening : Happening) → Follows site old happening new → Fits site new
  follows_fits (elsewhere step) h = subst Then (sym h.is) fits
  follows_fits (ignores from node place) h = subst Then (sym h.is) fits
  follows_fits (hands_over from node place number) h = subst Then (sym h.is) (one_fits site.queue old.pools node
      (with_waiting (old.pools node) ((old.pools node).waiting ++ record { number = number; conn = h.asks.comes.flight.conn; request = h.asks.comes.flight.message }
      ∷ []))
      (one_more (old.pools node).waiting (record { number = number; conn = h.asks.comes.flight.conn; request = h.asks.comes.flight.message })
      h.asks.comes.at.front.site.queue site.queue h.room (rooms node h.asks.comes.at.front h.asks.comes.at.there)) fits)
  follows_fits (turns_away from node place) h = subst Then (sym h.is) fits
  follows_fits (takes node number) h = subst Then (sym h.is) (one_fits site.queue old.pools node
      (with_work (with_waiting (old.pools node) h.behind) number (in_hand h.conn h.request))
      (one_less (old.pools node).waiting h.behind (record { number = number; conn = h.conn; request = h.request }) site.queue h.first (fits node)) fits)
  follows_fits (charges node number moment written) h = subst Then (sym h.is) (one_fits site.queue old.pools node
      (with_work (old.pools node) number (finished h.holds.conn h.answer written)) (fits node) fits)
  follows_fits (finds_busy node number written) h = subst Then (sym h.is) (one_fits site.queue old.pools node
      (with_work (old.pools node) number (finished h.holds.conn (too_busy h.holds.at.front.site h.holds.message) written)) (fits node) fits)
  follows_fits (hands_out node number) h = subst Then (sym h.is) (one_fits site.queue old.pools node (with_work (old.pools node) number nothing) (fits node) fits)
  follows_fits (goes_unanswered node number) h = subst Then (sym h.is) fits
  follows_fits (sweeps moment) h = subst Then (sym h.is) fits
  follows_fits (changes_terms moment change) h = subst Then (sym h.is) fits
  follows_fits (dies node) h = subst Then (sym h.is) (one_fits site.queue old.pools node new_pool (omega arith) fits)

-- ---- as the site says

-- the first moment, at which nothing needs to be due
abbrev at_first : Moment
at_first = record { 0 = 0 }

set_up_then : Keeps → (site : Site) (past : Past) (w : WorldState) → IsSound site → Run site (start site) past w → IsSetUp site w
set_up_then keep site past w sound run =
    let more : Transition = record { step = Sweep at_first; before = w; applied = true; losses = []; after = after_sweep_at w at_first } in
    let end = after_sweep_at w at_first in
    let all = past ++ more ∷ [] in
    let trace = trace_of (skipped_in all) end in
    let promise : KeepsPromise site all trace =
    keep site all trace sound (record { end = end; run = Run-push site (start site) past w (Sweep at_first) true [] end run ((refl, refl), refl); trace_is = refl }) in
    (All-contains (KeepsSetUp site) all more promise.set_up (Contains-has (Has-right past here))).before

room_of : (site : Site) (w : WorldState) (node : NodeNo) (front : FrontState) → IsSetUp site w → front_at node w.fronts ≡ Some front → front.site.queue ≡
    site.queue
room_of site w node front set_up at =
    let has : HasNode site node Rattle.dia_base.specs.declared.node.NodeKind.TheVariants.Front =
    All-contains (λ (there : FrontAt). HasNode site there.node Rattle.dia_base.specs.declared.node.NodeKind.TheVariants.Front) w.fronts (the_front node front)
    set_up.no_other_fronts (Contains-has (front_among node w.fronts front at)) in
    let stands = set_up.fronts node has.node has.at_place has.of_kind in
    let same : stands.state ≡ front = same_front (sym stands.there ∙ at) in
    ap (λ (f : FrontState). f.site.queue) (sym same) ∙ stands.as_said.queue
  where
    same_front : {x y : FrontState} → Some x ≡ Some y → x ≡ y
    same_front e = cc

pub have_room : Keeps → (site : Site) (workers : ℕ) (happenings : List Happening) (served : ServedFarm) → IsSound (with_workers workers site) →
    RunsAsFarm site workers happenings served → HaveRoom site served
have_room keep site workers happenings served sound runs node front at =
    room_of (with_workers workers site) runs.last node (as_front workers (served.pools node) front)
    (set_up_then keep (with_workers workers site) runs.past runs.last sound runs.run) (runs.as_served.fronts node front at)

-- ---- all that happens

serves_push : (site : Site) (old mid new : ServedFarm) (happenings : List Happening) (happening : Happening) → Serves site old happenings mid → Follows site mid
    happening new → Serves site old (happenings ++ happening ∷ []) new
serves_push site old mid new [] happening s f = (new, subst (λ (o : ServedFarm). Follows site o happening new) s f, refl)
serves_push site old mid new (first ∷ more) happening s f = (s.0, s.1, serves_push site s.0 mid new more happening s.2 f)

pub all_fit : (site : Site) → ((happenings : List Happening) (served : ServedFarm) → Serves site (new_served site) happenings served → HaveRoom site served)
    → (before more : List Happening) (old new : ServedFarm) → Serves site (new_served site) before old → Fits site old → Serves site old more new → Fits site new
all_fit site rooms before [] old new s fits is = subst (Fits site) (sym is) fits
all_fit site rooms before (happening ∷ more) old new s fits next =
    all_fit site rooms (before ++ happening ∷ []) more next.0 new (serves_push site (new_served site) old next.0 before happening s next.1)
    (follows_fits site old next.0 (rooms before old s) fits happening next.1) next.2
