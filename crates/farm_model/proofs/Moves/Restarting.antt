-- A restart as moves: the connections of the node end, all that it held is gone, and the others learn it.
use Rattle.std.proofs.Common.{◌≡◌, ℕ, zero, suc, ◌≤◌, true, not, List, [], length, Option, Some, None, refl, sym, subst}
use Rattle.std.specs.Prelude.{flat_map, filter, replicate, count_by}
use Rattle.dia_base.specs.declared.number.ConnId.{ConnId}
use Rattle.dia_base.specs.declared.number.NodeNo.{NodeNo}
use Rattle.front_core.specs.declared.worker.Worker.TheVariants.{Idle}
use Rattle.front_core.specs.FrontState.{FrontState}
use Rattle.front_core.specs.FrontStep.{after_restart as front_after_restart}
use Rattle.relay_core.specs.RelayState.{RelayState}
use Rattle.relay_core.specs.Connecting.{after_restart as relay_after_restart}
use Rattle.farm_law.specs.Farm.{Item, PendingRow, Refused}
use Rattle.farm_law.specs.Invariant.{IsKept}
use Rattle.farm_law.specs.Lists.{Has, Left}
use Rattle.farm_law.specs.Moves.{Moves, next, done, ends, loses, drops}
use Rattle.farm_base.specs.declared.site.Site.{Site}
use Rattle.farm_model.specs.declared.state.Direction.{Direction}
use Rattle.farm_model.specs.declared.state.FrontAt.{FrontAt}
use Rattle.farm_model.specs.declared.state.RelayAt.{RelayAt}
use Rattle.farm_model.specs.Loss.{LossAt, peers_of, after_crash, DropAll, with_restart_of_front, with_restart_of_relay}
use Rattle.farm_base.specs.Nodes.{is_node}
use Rattle.farm_model.specs.World.{Ends, WorldState, is_inward, is_front_at, front_at, is_relay_at, relay_at}
use Rattle.farm_model.proofs.Lists.Among.{Has-filter, Has-unmap}
use Rattle.farm_model.proofs.Moves.AsFarm.{parties, flights, held_by, items_at, pending_of, rows_at, rows_of, has_ended_in, farm_of, LeadsTo}
use Rattle.farm_model.proofs.Wiring.Ending.{fails, inward_to, ended_if, still_ended}
use Rattle.farm_model.proofs.Lists.Finding.{any_none}
use Rattle.farm_model.proofs.OwnCauses.Refusing.{at_most_once, as_before}
use Rattle.farm_model.proofs.Moves.Losing.{RelayLoses, GivesReasons, MovesKeep, Leads, among_peers, all_drop}
use Rattle.farm_model.proofs.Moves.Moving.{join}
use Rattle.farm_model.proofs.Lists.Placing.{Left-all, Left-none, Left-parts, Left-filter, parts_left}
use Rattle.farm_model.proofs.Wiring.Wired.{FrontIsWired, RelayIsWired, IsWired}
use Rattle.farm_model.proofs.Wiring.WiredLemmas.{relay_wired, relays_wired, relays_alone, with_front_wired}
use Rattle.farm_model.proofs.Wiring.WorldLemmas.{the_front, front_stands, relay_stands}

-- workers that are all idle hold nothing
pub idle_hold : (all : Ends) (node : NodeNo) (count : ℕ) → flat_map (held_by all node) (replicate count Idle) ≡ []
idle_hold all node zero = refl
idle_hold all node (suc count) = idle_hold all node count

module _ (site : Site) (all : Ends) (w : WorldState) (node : NodeNo) (wired : IsWired site all w) where
  abbrev left : List Direction
  left = filter (λ direction. not (is_node direction.to node)) w.directions

  abbrev begun_anew : WorldState
  begun_anew = after_crash w node

  -- no direction comes to it any more
  ended_here : (conn : ConnId) → 1 ≤ conn.0 → conn.0 ≤ length w.ends → has_ended_in w.ends left node conn ≡ true
  ended_here conn numbered below = ended_if w.ends left node conn numbered below
      (any_none (is_inward node conn) left (λ d h. fails (is_inward node conn d) (λ e. inward_to node conn d e)
      (Has-filter (λ direction. not (is_node direction.to node)) w.directions h).1))

  -- ---- what the node held is gone

  front_items : (front : Option FrontState) → front_at node w.fronts ≡ front → Left (λ (item : Item). Unit {0}) (flat_map (items_at all) w.fronts)
      (flat_map (items_at all) (with_restart_of_front node w.fronts front))
  front_items None e = Left-all (flat_map (items_at all) w.fronts)
  front_items (Some front) e =
      let empty : items_at all (the_front node (front_after_restart front)) ≡ [] = idle_hold all node (length front.workers) in
      let held = items_at all (the_front node front) in
      parts_left (items_at all) (is_front_at node) (subst (λ (is : List Item). Left (λ (item : Item). Unit {0}) held is) (sym empty)
      (Left-none held (λ item h. tt))) w.fronts (front_stands node w.fronts front e)

  -- its rows were sent on connections that have ended
  relay_rows : (relay : Option RelayState) → relay_at node w.relays ≡ relay → Left (λ (row : PendingRow). has_ended_in w.ends left row.relay row.conn ≡ true)
      (rows_of all w.relays) (rows_of all (with_restart_of_relay node w.relays relay))
  relay_rows None e = Left-all (rows_of all w.relays)
  relay_rows (Some relay) e =
      let k = relay_wired wired.relays e in
      parts_left (rows_at all) (is_relay_at node) (Left-none (rows_at all (record { node = node; relay = relay })) (λ row h.
      let t = Has-unmap (pending_of all node) relay.pending.rows h in
      let r = k.rows t.0 t.1 in
      subst (λ (p : PendingRow). has_ended_in w.ends left p.relay p.conn ≡ true) t.2
      (ended_here (t.0).conn (r.joins).numbered r.below))) w.relays
      (relay_stands node w.relays relay e)

  -- ---- moves

  crash_moves : (refused : List Refused) → Moves (parties site all) (farm_of all refused w) (farm_of all refused begun_anew)
  crash_moves refused =
      next (loses (Left-parts (Left-filter flights (λ direction. not (is_node direction.to node)) w.directions (λ d h e b g. tt))
      (front_items (front_at node w.fronts) refl)))
      (next (ends (has_ended_in w.ends left) (λ n c e. still_ended w.ends w.directions left n c
      (λ d h. (Has-filter (λ direction. not (is_node direction.to node)) w.directions h).0) e))
      (next (drops (relay_rows (relay_at node w.relays) refl)) done))

  -- ---- the farm hangs together

  fronts_after : (front : Option FrontState) → front_at node w.fronts ≡ front → (at : FrontAt) → Has at (with_restart_of_front node w.fronts front) →
      FrontIsWired site at
  fronts_after None e = wired.fronts
  fronts_after (Some front) e = with_front_wired site node w.fronts front (front_after_restart front) e refl wired.fronts

  relays_after : (relay : Option RelayState) → relay_at node w.relays ≡ relay → (at : RelayAt) → Has at (with_restart_of_relay node w.relays relay) →
      RelayIsWired site all w.ends at.node at.relay
  relays_after None e = wired.relays
  relays_after (Some relay) e =
      let k = relay_wired wired.relays e in
      relays_wired node (relay_after_restart relay) wired.relays
      (record { is_relay = k.is_relay; node_is = k.node_is; links = λ link h. elim h [ ]; rows = λ row h. elim h [ ] })

  relay_alone : (relay : Option RelayState) → relay_at node w.relays ≡ relay → (n : NodeNo) → count_by (is_relay_at n)
      (with_restart_of_relay node w.relays relay) ≤ 1
  relay_alone None e = wired.alone
  relay_alone (Some relay) e = relays_alone w.relays node relay (relay_after_restart relay) e wired.alone

  crash_wired : IsWired site all begun_anew
  crash_wired = record {
    begins = wired.begins;
    directions = λ d h. wired.directions d (Has-filter (λ direction. not (is_node direction.to node)) w.directions h).0;
    fronts = fronts_after (front_at node w.fronts) refl;
    relays = relays_after (relay_at node w.relays) refl;
    alone = relay_alone (relay_at node w.relays) refl;
  }

  pub crash_goes : (HasReason : Refused → Type 0) (refused : List Refused) → LeadsTo (parties site all) all HasReason at_most_once (farm_of all refused w)
      begun_anew × IsWired site all begun_anew
  crash_goes HasReason refused = (record { refused = refused; moves = crash_moves refused; caused = as_before HasReason refused }, crash_wired)

  pub restart_goes : (relay_loses : RelayLoses site all) (moves_keep : MovesKeep site all) (HasReason : Refused → Type 0) (refused : List Refused)
      (after : WorldState) (later : List LossAt) → IsKept (parties site all) (farm_of all refused w) → DropAll node (peers_of node w.directions)
      begun_anew later after → GivesReasons site HasReason later
      → Leads site all relay_loses moves_keep HasReason
      (among_peers site all relay_loses moves_keep HasReason (peers_of node w.directions)) refused w after
  restart_goes relay_loses moves_keep HasReason refused after later kept drop reasons =
      let rest = all_drop site all relay_loses moves_keep HasReason refused drop (moves_keep _ _ (crash_moves refused) kept) crash_wired reasons in
      (record { refused = (rest.0).refused; moves = join (crash_moves refused) (rest.0).moves; caused = (rest.0).caused }, rest.1)
