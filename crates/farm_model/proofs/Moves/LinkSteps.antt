-- The steps by which connections come and go: what they lead on to, and the causes that they show.
use Rattle.std.proofs.Common.{◌≡◌, ◌≤◌, ◌+◌, ℕ, Bool, true, false, cond, not, List, [], ◌∷◌, Option, Some, None, inl, inr, refl, sym, subst, ap, ◌∙◌}
use Rattle.std.proofs.Common.{arith, true≢false}
use Rattle.std.specs.Prelude.{◌&&◌, ◌||◌, Contains, MatchBool, filter, count_by}
use Rattle.std.proofs.lemmas.Bool.{and_parts}
use Rattle.std.proofs.lemmas.Option.{same_Some}
use Rattle.std.specs.List.{find, list_any}
use Rattle.dia_base.specs.declared.number.ConnId.{ConnId}
use Rattle.dia_base.specs.declared.number.NodeNo.{NodeNo}
use Rattle.dia_base.proofs.Counting.{one, count-cons, count-map}
use Rattle.dia_base.proofs.Finding.{found_passes}
use Rattle.dia_message.specs.declared.message.Message.{Message}
use Rattle.cc_view.specs.declared.refusal.Refusal.{Refusal}
use Rattle.farm_law.specs.Farm.{Refused}
use Rattle.farm_law.specs.Invariant.{IsKept}
use Rattle.farm_law.specs.Moves.{done}
use Rattle.farm_base.specs.declared.site.Site.{Site}
use Rattle.farm_model.specs.declared.state.Direction.{Direction}
use Rattle.farm_model.specs.Cause.{HasCause, at_front, at_charge, by_order, at_relay, at_lost_link}
use Rattle.farm_model.specs.SoundSite.{IsSound}
use Rattle.farm_model.specs.FarmStep.{Outcome, after_accept, after_opened_on, after_opened, opened_if, after_up, can_connect}
use Rattle.farm_model.specs.FarmStep.{with_new_connection, next_conn, DropsIt, Cuts, can_restart, after_crash_at}
use Rattle.farm_model.specs.Loss.{LossAt, LearnLosses, after_end as without_its_end, EndGoes, end_with}
use Rattle.farm_model.specs.Loss.{after_losing_all, CutsBoth, after_crash, peers_of, DropAll, all_dropped, drops_too}
use Rattle.farm_model.specs.InFlight.{goes}
use Rattle.farm_base.specs.Nodes.{is_node, is_linked}
use Rattle.farm_model.specs.Run.{Transition}
use Rattle.farm_model.specs.World.{Ends, WorldState, is_heard, is_unheard, is_connected, knows, front_at}
use Rattle.farm_model.proofs.Lists.Among.{Contains-has}
use Rattle.farm_model.proofs.Wiring.Apart.{AreApart, goes_once}
use Rattle.farm_model.proofs.Moves.AsFarm.{parties, farm_of, LeadsTo}
use Rattle.farm_model.proofs.Moves.Connecting.{accept_wired, accept_moves, accept_leads, opened_wired, opened_moves, opened_leads}
use Rattle.farm_model.proofs.Lists.Finding.{Has-found, any_found}
use Rattle.farm_model.proofs.Moves.FrontRequests.{QueuesHoldRequests, losses_hold, with_restart_of_front_holds, with_connection_at_holds}
use Rattle.farm_model.proofs.Clients.HearingSteps.{MoreEnds}
use Rattle.farm_model.proofs.Moves.Losing.{RelayLoses, GivesReasons, MovesKeep, end_goes, end_found, end_once, cut_goes}
use Rattle.farm_model.proofs.Moves.Moving.{join}
use Rattle.farm_model.proofs.OwnCauses.Spending.{once_at}
use Rattle.farm_model.proofs.Lists.Numbering.{same_node, is_same_node, nodes_turned}
use Rattle.farm_model.proofs.Moves.Restarting.{crash_goes, restart_goes}
use Rattle.farm_model.proofs.OwnCauses.Refusing.{at_most_once, as_before, refused_for, refused_within}
use Rattle.farm_model.proofs.Runs.RunHolds.{IsServer}
use Rattle.farm_model.proofs.Wiring.Sides.{sides}
use Rattle.farm_model.proofs.Moves.StepGoes.{Reason, Goes, StepGoes}
use Rattle.farm_model.proofs.Wiring.Wired.{IsWired}
use Rattle.farm_model.proofs.Wiring.WiredLemmas.{front_wired, relay_wired}
use Rattle.farm_model.proofs.Wiring.WorldLemmas.{direction_nodes, heard_between}

-- ---- a step, with the causes of what nodes of the site refuse at it

-- the transition shows a cause, and the node answers requests
abbrev pub IsShown : Site → Transition → Refused → Type 0
IsShown site t r = Reason t r × IsServer site r.node

abbrev pub StepShows : Site → Ends → Transition → List Refused → Type 0
StepShows site all t refused = Goes site all (IsShown site t) (farm_of all refused t.before) t.after

-- at a step at which nobody learns of a loss, what refuses is a front or a relay of the farm
module _ (site : Site) (all : Ends) (t : Transition) (wired : IsWired site all t.before) (none : t.losses ≡ []) where
  nobody : (l : LossAt) → Contains [] l → ⊥
  nobody l k = let below = k.1 in absurd (omega (arith, below))

  server_of : (node : NodeNo) (conn : ConnId) (message : Message) (refusal : Refusal) → HasCause t node conn message refusal → IsServer site node
  server_of node conn message refusal (at_front front why is_delivered at cause) = inl (front_wired wired.fronts at).is_front
  server_of node conn message refusal (at_charge worker moment front why step at picked cause) = inl (front_wired wired.fronts at).is_front
  server_of node conn message refusal (by_order worker front step at picked) = inl (front_wired wired.fronts at).is_front
  server_of node conn message refusal (at_relay relay sender why is_delivered flag at peer refused) = inr (relay_wired wired.relays at).is_relay
  server_of node conn message refusal (at_lost_link w relay code among at stranded nowhere) = absurd
      (nobody (record { loss = record { node = node; conn = conn }; before = w })
      (subst (λ (ls : List LossAt). Contains ls (record { loss = record { node = node; conn = conn }; before = w })) none among))

  pub shown : (refused : List Refused) → StepGoes site all t refused → StepShows site all t refused
  shown refused g = record {
    leads = record {
      refused = g.leads.refused;
      moves = g.leads.moves;
      caused = refused_for (λ r why. (why, server_of r.node r.conn r.request r.refusal why)) g.leads.caused;
    };
    wired = g.wired;
    requests = g.requests;
  }

-- ---- who learns of a loss

-- once is not twice
once_or_not : (node n : NodeNo) → once_at node n ≤ 1
once_or_not node n = go (is_node node n)
  where
    go : (b : Bool) → one b ≤ 1
    go true = omega arith
    go false = omega arith

-- the two ends of a connection are two nodes
cut_once : (a b : NodeNo) → is_node a b ≡ false → (node : NodeNo) → once_at a node + once_at b node ≤ 1
cut_once a b two node = not_both (is_node a node) refl (is_node b node) refl
  where
    not_both : (p : Bool) → is_node a node ≡ p → (q : Bool) → is_node b node ≡ q → one p + one q ≤ 1
    not_both false e q f = at_most q
      where
        at_most : (r : Bool) → 0 + one r ≤ 1
        at_most true = omega arith
        at_most false = omega arith
    not_both true e false f = omega arith
    not_both true e true f = absurd (true≢false (sym (is_same_node a b (same_node a node e ∙ sym (same_node b node f))) ∙ two))

-- of a restart each node learns on its one connection with the node that restarts
restart_once : (node : NodeNo) (directions : List Direction) → AreApart (sides directions) → (other : NodeNo) → count_by (λ peer. is_node peer other)
    (peers_of node directions) ≤ 1
restart_once node directions apart other =
    let receiver : Direction → NodeNo = λ direction. direction.to in
    let a = count-map (λ peer. is_node peer other) receiver (filter (λ direction. is_node direction.from node) directions) in
    let b = goes_once directions apart node other in
    let c = both_tests directions in
    omega (arith, a, b, c)
  where
    counted : (p q : Bool) (x : Direction) (xs : List Direction) → one (is_node x.to other) ≡ one q → one (p && q) + count_by
        (λ (direction : Direction). is_node direction.to other) xs ≡ count_by (λ (direction : Direction). is_node direction.to other) (cond p (x ∷ xs) xs)
    counted true q x xs e = omega (arith, e, count-cons (λ (direction : Direction). is_node direction.to other) x xs)
    counted false q x xs e = omega arith

    both_tests : (xs : List Direction) → count_by (goes node other) xs ≡ count_by (λ (direction : Direction). is_node direction.to other)
        (filter (λ direction. is_node direction.from node) xs)
    both_tests [] = refl
    both_tests (x ∷ xs) =
        let more = both_tests xs in
        let this = counted (is_node x.from node) (is_node x.to other) x (filter (λ direction. is_node direction.from node) xs) refl in
        omega (arith, more, this, count-cons (goes node other) x xs)

-- ---- the steps

module _ (site : Site) (all : Ends) (checked : IsSound site) (relay_loses : RelayLoses site all) (moves_keep : MovesKeep site all) (t : Transition)
    (refused : List Refused) (kept : IsKept (parties site all) (farm_of all refused t.before))
    (wired : IsWired site all t.before) (apart : AreApart (sides t.before.directions)) (requests : QueuesHoldRequests t.before.fronts) where
  idle_shows : t.after ≡ t.before → StepShows site all t refused
  idle_shows same = subst (Goes site all (IsShown site t) (farm_of all refused t.before)) (sym same)
      (record { leads = record { refused = refused; moves = done; caused = as_before (IsShown site t) refused }; wired = wired; requests = requests })

  -- of an outcome, whatever comes of it
  outcome_shows : (found : Option WorldState) → Outcome found t.applied t.before t.after
      → ((next : WorldState) → found ≡ Some next → t.after ≡ next → Goes site all (IsShown site t) (farm_of all refused t.before) next) → StepShows site all t
      refused
  outcome_shows None out goes = idle_shows out.1
  outcome_shows (Some next) out goes = subst (Goes site all (IsShown site t) (farm_of all refused t.before)) (sym out.1) (goes next refl out.1)

  -- a new connection, which the node knows that it is opened to
  accepted : (at from : NodeNo) → can_connect site t.before from at ≡ true → MoreEnds (with_new_connection t.before from at).ends all → Goes site all
      (IsShown site t) (farm_of all refused t.before) (with_new_connection t.before from at)
  accepted at from can begins =
      let linked = (and_parts (is_linked site from at) (not (is_connected t.before.directions from at)) can).0 in
      record {
        leads = accept_leads site all checked t.before from at wired linked begins (IsShown site t) refused;
        wired = accept_wired site all checked t.before from at wired linked begins;
        requests = with_connection_at_holds at (next_conn t.before) t.before.fronts requests;
      }

  pub accept_shows : (at from : NodeNo) → Outcome (after_accept site t.before at from) t.applied t.before t.after → MoreEnds t.after.ends all → StepShows site
      all t refused
  accept_shows at from out more = go (can_connect site t.before from at) refl out
    where
      go : (c : Bool) → can_connect site t.before from at ≡ c → Outcome (cond c (Some (with_new_connection t.before from at)) None) t.applied t.before t.after →
          StepShows site all t refused
      go false e o = idle_shows o.1
      go true e o = subst (Goes site all (IsShown site t) (farm_of all refused t.before)) (sym o.1)
          (accepted at from e (subst (λ (w : WorldState). MoreEnds w.ends all) o.1 more))

  pub opened_shows : (a b : NodeNo) → Outcome (after_opened t.before a b) t.applied t.before t.after → StepShows site all t refused
  opened_shows a b out = go (find (is_unheard b a) t.before.directions) refl out
    where
      go : (found : Option Direction) → find (is_unheard b a) t.before.directions ≡ found → Outcome (after_opened_on t.before a b found) t.applied t.before
          t.after → StepShows site all t refused
      go None e o = idle_shows o.1
      go (Some direction) e o = subst (Goes site all (IsShown site t) (farm_of all refused t.before)) (sym o.1) (record {
        leads = opened_leads site all t.before a b direction e wired (IsShown site t) refused;
        wired = opened_wired site all t.before a b direction e wired;
        requests = with_connection_at_holds a direction.conn t.before.fronts requests;
      })

  -- one after the other
  up_goes : (a b : NodeNo) (next : WorldState) → can_connect site t.before a b ≡ true → MoreEnds next.ends all → (found : Option Direction) → find
      (is_unheard b a) (with_new_connection t.before a b).directions ≡ found
      → after_opened_on (with_new_connection t.before a b) a b found ≡ Some next → Goes site all (IsShown site t) (farm_of all refused t.before) next
  up_goes a b next can more None e is = absurd cc
  up_goes a b next can more (Some direction) e is =
      let v = with_new_connection t.before a b in
      let known_next = same_Some _ _ is in
      let first_goes = accepted b a can (subst (λ (n : WorldState). MoreEnds n.ends all) (sym known_next) more) in
      let linked = (and_parts (is_linked site a b) (not (is_connected t.before.directions a b)) can).0 in
      subst (Goes site all (IsShown site t) (farm_of all refused t.before)) known_next (record {
        leads = record {
          refused = refused;
          moves = join (accept_moves site all checked t.before a b wired linked (subst (λ (n : WorldState). MoreEnds n.ends all) (sym known_next) more) refused)
              (opened_moves site all v a b direction e first_goes.wired refused);
          caused = as_before (IsShown site t) refused;
        };
        wired = opened_wired site all v a b direction e first_goes.wired;
        requests = with_connection_at_holds a direction.conn v.fronts first_goes.requests;
      })

  pub up_shows : (a b : NodeNo) → Outcome (after_up site t.before a b) t.applied t.before t.after → MoreEnds t.after.ends all → StepShows site all t refused
  up_shows a b out more = go (can_connect site t.before a b) refl out
    where
      go : (c : Bool) → can_connect site t.before a b ≡ c → Outcome (opened_if a b (cond c (Some (with_new_connection t.before a b)) None)) t.applied t.before
          t.after → StepShows site all t refused
      go false e o = idle_shows o.1
      go true e o = outcome_shows (after_opened (with_new_connection t.before a b) a b) o
          (λ next is after_is. up_goes a b next e (subst (λ (w : WorldState). MoreEnds w.ends all) after_is more)
          (find (is_unheard b a) (with_new_connection t.before a b).directions) refl is)

  -- no node learns of two losses, so none refuses anything twice
  seldom : {most : NodeNo → ℕ} → LeadsTo (parties site all) all (IsShown site t) most (farm_of all refused t.before) t.after →
      ((node : NodeNo) → most node ≤ 1) → LeadsTo (parties site all) all (IsShown site t) at_most_once (farm_of all refused t.before) t.after
  seldom g once = record { refused = g.refused; moves = g.moves; caused = refused_within once g.caused }

  -- who learns of a loss has the cause that the transition shows
  reasons : GivesReasons site (IsShown site t) t.losses
  reasons w loss relay message code among at is_one stranded nowhere = (at_lost_link w relay code (Contains-has among) at stranded nowhere, inr is_one)

  -- queues hold requests where an end goes
  end_holds : (w after : WorldState) (node : NodeNo) (found : Option Direction) (losses : List LossAt) → EndGoes w node found losses after →
      QueuesHoldRequests w.fronts → QueuesHoldRequests after.fronts
  end_holds w after node None losses goes all_hold = subst (λ (v : WorldState). QueuesHoldRequests v.fronts) (sym goes.1) all_hold
  end_holds w after node (Some direction) losses goes all_hold = go direction.known goes
    where
      go : (b : Bool) → MatchBool b (LearnLosses (record { node = node; conn = direction.conn } ∷ []) (without_its_end w node direction.conn) losses after)
          ((losses ≡ []) × (after ≡ without_its_end w node direction.conn)) → QueuesHoldRequests after.fronts
      go true learn = losses_hold learn all_hold
      go false idle = subst (λ (v : WorldState). QueuesHoldRequests v.fronts) (sym idle.1) all_hold

  all_hold_still : {node : NodeNo} {peers : List NodeNo} {w after : WorldState} {losses : List LossAt} → DropAll node peers w losses after → QueuesHoldRequests
      w.fronts → QueuesHoldRequests after.fronts
  all_hold_still all_dropped holds = holds
  all_hold_still {node = node} (drops_too {peer = peer} {w = w} {next = mid} now later is one_more more) holds = all_hold_still more
      (end_holds w mid peer (end_with w.directions peer node) now one_more holds)

  pub drop_shows : (a b : NodeNo) → DropsIt t.before a (end_with t.before.directions a b) t.applied t.losses t.after → StepShows site all t refused
  drop_shows a b d =
      let found = end_with t.before.directions a b in
      let g = end_goes site all relay_loses moves_keep (IsShown site t) refused t.before a found t.after t.losses
      (end_found site all relay_loses moves_keep (IsShown site t) t.before a b) kept wired d.1 reasons in
      record {
        leads = seldom g.0 (λ node.
            let c = end_once site all relay_loses moves_keep (IsShown site t) a found node in
            let e = once_or_not a node in
            omega (arith, c, e));
        wired = g.1;
        requests = end_holds t.before t.after a found t.losses d.1 requests;
      }

  -- the two that have a connection are two
  two_nodes : (a b : NodeNo) → list_any (is_heard b a) t.before.directions ≡ true → is_node a b ≡ false
  two_nodes a b some =
      let found = any_found (is_heard b a) t.before.directions some in
      let nodes = direction_nodes b a found.0 (heard_between b a found.0 (found_passes (is_heard b a) t.before.directions found.0 found.1)) in
      let its = (wired.directions found.0 (Has-found (is_heard b a) t.before.directions found.1)).joins in
      ap (λ (n : NodeNo). is_node n b) (sym nodes.1) ∙ ap (λ (n : NodeNo). is_node (found.0).to n) (sym nodes.0) ∙ its.apart_turned

  pub cut_shows : (a b : NodeNo) → Cuts t.before a b t.applied t.losses t.after → StepShows site all t refused
  cut_shows a b c = go (knows t.before.directions a b) refl (knows t.before.directions b a) refl c
    where
      known_goes : is_node a b ≡ false → CutsBoth t.before a b t.losses t.after → StepShows site all t refused
      known_goes two cut =
          let g = cut_goes site all relay_loses moves_keep (IsShown site t) refused t.before a b t.after t.losses two kept wired cut reasons in
          record {
            leads = seldom g.0 (cut_once a b two);
            wired = g.1;
            requests = end_holds cut.middle t.after b (end_with cut.middle.directions b a) cut.second cut.other
                (end_holds (after_losing_all t.before a b) cut.middle a (end_with (after_losing_all t.before a b).directions a b) cut.first cut.one requests);
          }

      go : (p : Bool) → knows t.before.directions a b ≡ p → (q : Bool) → knows t.before.directions b a ≡ q → MatchBool (p || q)
          ((t.applied ≡ true) × CutsBoth t.before a b t.losses t.after) ((t.applied ≡ false) × (t.losses ≡ []) × (t.after ≡ t.before)) → StepShows site all t
          refused
      go true e q f cut = known_goes (two_nodes a b e) cut.1
      go false e true f cut = known_goes (nodes_turned b a (two_nodes b a f)) cut.1
      go false e false f idle = idle_shows idle.2

  pub crash_shows : (node : NodeNo) → Outcome (after_crash_at site t.before node) t.applied t.before t.after → StepShows site all t refused
  crash_shows node out = go (can_restart site node) out
    where
      go : (c : Bool) → Outcome (cond c (Some (after_crash t.before node)) None) t.applied t.before t.after → StepShows site all t refused
      go false o = idle_shows o.1
      go true o =
          let g = crash_goes site all t.before node wired (IsShown site t) refused in
          subst (Goes site all (IsShown site t) (farm_of all refused t.before)) (sym o.1) (record {
            leads = g.0;
            wired = g.1;
            requests = with_restart_of_front_holds node t.before.fronts (front_at node t.before.fronts) requests;
          })

  pub restart_shows : (node : NodeNo) (b : Bool) → MatchBool b
      ((t.applied ≡ true) × DropAll node (peers_of node t.before.directions) (after_crash t.before node) t.losses t.after)
      ((t.applied ≡ false) × (t.losses ≡ []) × (t.after ≡ t.before)) → StepShows site all t refused
  restart_shows node false c = idle_shows c.2
  restart_shows node true c =
      let g = restart_goes site all t.before node wired relay_loses moves_keep (IsShown site t) refused t.after t.losses kept c.1 reasons in
      record {
        leads = seldom (g.0) (restart_once node t.before.directions apart);
        wired = g.1;
        requests = all_hold_still c.1 (with_restart_of_front_holds node t.before.fronts (front_at node t.before.fronts) requests);
      }
