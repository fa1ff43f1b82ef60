-- A cut and a restart as moves: connections end, what was in flight is gone, and one node after the other learns it.
use Rattle.std.proofs.Common.{◌≡◌, ℕ, ◌+◌, ◌≤◌, Bool, true, false, cond, not, List, [], ◌∷◌, ◌++◌}
use Rattle.std.proofs.Common.{map, arith, Option, Some, None, refl, sym, subst, ap, ◌∙◌}
use Rattle.std.specs.Prelude.{◌||◌, MatchBool, count_by, flat_map, Err, if◌then◌else◌}
use Rattle.dia_base.specs.declared.number.ConnId.{ConnId}
use Rattle.dia_base.specs.declared.number.NodeNo.{NodeNo}
use Rattle.dia_base.proofs.Counting.{count-cons}
use Rattle.dia_message.specs.declared.message.Message.{Message}
use Rattle.cc_view.specs.declared.code.ResultCode.{ResultCode}
use Rattle.cc_view.specs.Refusal.{refusal_with}
use Rattle.front_core.specs.FrontState.{FrontState}
use Rattle.front_core.specs.FrontStep.{without_connection}
use Rattle.relay_core.specs.declared.run.RelayEvent.TheVariants.{Lost}
use Rattle.relay_core.specs.Failover.{next_hop_again, after_end}
use Rattle.relay_core.specs.RelayState.{RelayState}
use Rattle.farm_law.specs.Farm.{Item, Refused, Farm}
use Rattle.farm_law.specs.Invariant.{IsKept}
use Rattle.farm_law.specs.Lists.{Has, Left, here, there}
use Rattle.farm_law.proofs.Lists.{Has-append}
use Rattle.farm_law.specs.Moves.{Moves, next, done, ends, loses}
use Rattle.farm_base.specs.declared.site.Site.{Site}
use Rattle.farm_model.specs.declared.state.Direction.{Direction}
use Rattle.farm_model.specs.Arrival.{RelayTurn, AtRelay}
use Rattle.farm_model.specs.Cause.{IsStranded}
use Rattle.farm_model.specs.Loss.{Loss, LearnsLoss, LossAt, LearnLosses, all_know, learns, after_end as without_its_end}
use Rattle.farm_model.specs.Loss.{EndGoes, DropAll, all_dropped, drops_too, end_with, after_losing_all, CutsBoth}
use Rattle.farm_base.specs.Nodes.{is_node, is_relay}
use Rattle.farm_model.specs.World.{Ends, WorldState, is_between, is_inward, without_end, emptied, with_front, front_at, relay_at}
use Rattle.farm_model.proofs.Lists.Among.{Has-filter, Has-unmap, Has-right}
use Rattle.farm_model.proofs.Moves.AsFarm.{parties, flights, flights_in, items_at, has_ended_in, farm_of, LeadsTo}
use Rattle.farm_model.proofs.Wiring.Ending.{still_ended, same_ended, ended_by_drop}
use Rattle.farm_model.proofs.Moves.Moving.{join}
use Rattle.farm_model.proofs.Lists.Placing.{Left-all, Left-none, Left-parts, Left-filter}
use Rattle.farm_model.proofs.Lists.Finding.{Has-found}
use Rattle.farm_model.proofs.Wiring.Sides.{Way, way_of, same_ways_inward}
use Rattle.farm_model.proofs.OwnCauses.Refusing.{none_refused, refused_twice}
use Rattle.farm_model.proofs.Moves.Sending.{traffic_ended}
use Rattle.farm_model.proofs.OwnCauses.Spending.{IsSingle, once_at}
use Rattle.farm_model.proofs.Wiring.Wired.{DirectionIsWired, IsWired}
use Rattle.farm_model.proofs.Wiring.WiredLemmas.{same_items, relay_wired, with_front_wired}

-- what a relay does when it learns of a loss is moves
abbrev pub RelayLoses : Site → Ends → Type 1
RelayLoses site all =
    (HasReason : Refused → Type 0) (refused : List Refused) (w : WorldState) (loss : Loss) (relay : RelayState) (after : WorldState) → IsWired site all w →
    relay_at loss.node w.relays ≡ Some relay → has_ended_in w.ends w.directions loss.node loss.conn ≡ true → IsSingle all w →
    RelayTurn w loss.node relay (Lost loss.conn) after →
    ((message : Message) (code : ResultCode) → IsStranded relay loss.conn message → next_hop_again (after_end loss.conn relay.node) message ≡ Err code →
    HasReason (record { node = loss.node; conn = loss.conn; request = message; refusal = refusal_with code })) →
    LeadsTo (parties site all) all HasReason (once_at loss.node) (farm_of all refused w) after × IsWired site all after

-- what nodes that learn of losses have reason to refuse
abbrev pub GivesReasons : Site → (Refused → Type 0) → List LossAt → Type 0
GivesReasons site HasReason losses = (w : WorldState) (loss : Loss) (relay : RelayState) (message : Message) (code : ResultCode) → Has
    (record { loss = loss; before = w }) losses → relay_at loss.node w.relays ≡ Some relay → is_relay site loss.node ≡ true → IsStranded relay loss.conn
    message →
    next_hop_again (after_end loss.conn relay.node) message ≡ Err code → HasReason
    (record { node = loss.node; conn = loss.conn; request = message; refusal = refusal_with code })

-- ---- one node learns

-- a node is to learn of a loss; how often it does
abbrev pub is_learned_by : NodeNo → Loss → Bool
is_learned_by node loss = is_node loss.node node

abbrev pub learned : List Loss → NodeNo → ℕ
learned losses node = count_by (is_learned_by node) losses

abbrev pub MovesKeep : Site → Ends → Type 0
MovesKeep site all = (old new : Farm) → Moves (parties site all) old new → IsKept (parties site all) old → IsKept (parties site all) new

module _ (site : Site) (all : Ends) (relay_loses : RelayLoses site all) (moves_keep : MovesKeep site all) (HasReason : Refused → Type 0) where
  abbrev pub Leads : (NodeNo → ℕ) → List Refused → WorldState → WorldState → Type 0
  Leads most refused w after = LeadsTo (parties site all) all HasReason most (farm_of all refused w) after × IsWired site all after

  nothing_moves : (most : NodeNo → ℕ) (refused : List Refused) (w : WorldState) → IsWired site all w → Leads most refused w w
  nothing_moves most refused w wired = (record { refused = refused; moves = done; caused = none_refused HasReason most refused }, wired)

  front_learns : (refused : List Refused) (w : WorldState) (loss : Loss) (front : FrontState) → front_at loss.node w.fronts ≡ Some front → IsWired site all w →
      Leads (once_at loss.node) refused w (record w { fronts = with_front loss.node (without_connection front loss.conn) w.fronts })
  front_learns refused w loss front e wired = (
    record {
      refused = refused;
      moves = subst (λ (is : List Item). Moves (parties site all) (farm_of all refused w)
          (record (farm_of all refused w) { items = flights_in w.directions ++ is }))
          (sym (same_items all loss.node w.fronts front (without_connection front loss.conn) e refl refl)) done;
      caused = none_refused HasReason (once_at loss.node) refused;
    },
    record {
      begins = wired.begins;
      directions = wired.directions;
      fronts = with_front_wired site loss.node w.fronts front (without_connection front loss.conn) e refl wired.fronts;
      relays = wired.relays;
      alone = wired.alone;
    },
  )

  one_learns : (refused : List Refused) (w : WorldState) (loss : Loss) (after : WorldState) (front : Option FrontState) → front_at loss.node w.fronts ≡ front →
      IsWired site all w → has_ended_in w.ends w.directions loss.node loss.conn ≡ true → IsSingle all w → LearnsLoss w loss front after
      → ((relay : RelayState) (message : Message) (code : ResultCode) → relay_at loss.node w.relays ≡ Some relay → is_relay site loss.node ≡ true → IsStranded
      relay loss.conn message → next_hop_again (after_end loss.conn relay.node) message ≡ Err code →
      HasReason (record { node = loss.node; conn = loss.conn; request = message; refusal = refusal_with code }))
      → Leads (once_at loss.node) refused w after
  one_learns refused w loss after (Some front) e wired ended single is reasons = subst (Leads (once_at loss.node) refused w) (sym is)
      (front_learns refused w loss front e wired)
  one_learns refused w loss after None e wired ended single is reasons = by_relay (relay_at loss.node w.relays) refl is
    where
      by_relay : (relay : Option RelayState) → relay_at loss.node w.relays ≡ relay → AtRelay w loss.node (Lost loss.conn) relay after → Leads
          (once_at loss.node) refused w after
      by_relay None none same = subst (Leads (once_at loss.node) refused w) (sym same) (nothing_moves (once_at loss.node) refused w wired)
      by_relay (Some relay) at turn = relay_loses HasReason refused w loss relay after wired at ended single turn
          (λ message code s h. reasons relay message code at (relay_wired wired.relays at).is_relay s h)

  -- what has ended before has ended afterwards
  ended_later : (w : WorldState) (loss : Loss) (after : WorldState) (front : Option FrontState) → LearnsLoss w loss front after →
      (end : NodeNo) (conn : ConnId) →
      has_ended_in w.ends w.directions end conn ≡ true → has_ended_in after.ends after.directions end conn ≡ true
  ended_later w loss after (Some front) is end conn e = subst (λ (v : WorldState). has_ended_in v.ends v.directions end conn ≡ true) (sym is) e
  ended_later w loss after None is end conn e = by_relay (relay_at loss.node w.relays) is
    where
      by_relay : (relay : Option RelayState) → AtRelay w loss.node (Lost loss.conn) relay after → has_ended_in after.ends after.directions end conn ≡ true
      by_relay None same = subst (λ (v : WorldState). has_ended_in v.ends v.directions end conn ≡ true) (sym same) e
      by_relay (Some relay) turn = subst (λ (v : WorldState). has_ended_in v.ends v.directions end conn ≡ true) (sym turn.next_is)
          (traffic_ended w.ends loss.node w.directions turn.sent end conn e)

  -- one after the other
  pub all_learn : {losses : List Loss} {w after : WorldState} {later : List LossAt} (refused : List Refused) → LearnLosses losses w later after → IsKept
      (parties site all) (farm_of all refused w) → IsWired site all w →
      ((loss : Loss) → Has loss losses → has_ended_in w.ends w.directions loss.node loss.conn ≡ true) →
      GivesReasons site HasReason later
      → Leads (learned losses) refused w after
  all_learn refused all_know kept wired ended reasons = nothing_moves (learned []) refused _ wired
  all_learn refused (learns {loss = loss} {losses = losses} {w = w} {next = mid} one more) kept wired ended reasons =
      let first_one = one_learns refused w loss mid (front_at loss.node w.fronts) refl wired (ended loss here) kept.single one
      (λ relay message code at is s h. reasons w loss relay message code here at is s h) in
      let others = all_learn (first_one.0).refused more (moves_keep _ _ (first_one.0).moves kept) first_one.1
      (λ l h. ended_later w loss mid (front_at loss.node w.fronts) one l.node l.conn (ended l (there h)))
      (λ v l relay message code h. reasons v l relay message code (there h)) in (
        record {
          refused = (others.0).refused;
          moves = join (first_one.0).moves (others.0).moves;
          caused = refused_twice (learned (loss ∷ losses)) (λ node. let a = count-cons (is_learned_by node) loss losses in omega (arith, a))
              (first_one.0).caused (others.0).caused;
        },
        others.1,
      )

  -- ---- an end goes

  -- who learns of it
  abbrev pub end_losses : NodeNo → Option Direction → List Loss
  end_losses node None = []
  end_losses node (Some direction) = if direction.known then record { node = node; conn = direction.conn } ∷ [] else []

  end_wired : (w : WorldState) (node : NodeNo) (conn : ConnId) → IsWired site all w → IsWired site all (without_its_end w node conn)
  end_wired w node conn wired = record {
    begins = wired.begins;
    directions = λ d h. wired.directions d (Has-filter (λ direction. not (is_inward node conn direction)) w.directions h).0;
    fronts = wired.fronts;
    relays = wired.relays;
    alone = wired.alone;
  }

  end_moves : (refused : List Refused) (w : WorldState) (node : NodeNo) (conn : ConnId) → Moves (parties site all) (farm_of all refused w)
      (farm_of all refused (without_its_end w node conn))
  end_moves refused w node conn =
      next (loses (Left-parts (Left-filter flights (λ direction. not (is_inward node conn direction)) w.directions (λ d h e b g. tt))
      (Left-all (flat_map (items_at all) w.fronts))))
      (next (ends (has_ended_in w.ends (without_end node conn w.directions))
      (λ n c e. still_ended w.ends w.directions (without_end node conn w.directions) n c
      (λ d h. (Has-filter (λ direction. not (is_inward node conn direction)) w.directions h).0) e)) done)

  pub end_goes : (refused : List Refused) (w : WorldState) (node : NodeNo) (found : Option Direction) (after : WorldState) (later : List LossAt) →
      ((direction : Direction) → found ≡ Some direction → Has direction w.directions) → IsKept (parties site all) (farm_of all refused w) → IsWired site all w →
      EndGoes w node found later after → GivesReasons site HasReason later → Leads (learned (end_losses node found)) refused w after
  end_goes refused w node None after later among kept wired goes reasons = subst (Leads (learned []) refused w) (sym goes.1)
      (nothing_moves (learned []) refused w wired)
  end_goes refused w node (Some direction) after later among kept wired goes reasons = by_end direction.known goes
    where
      moves : Moves (parties site all) (farm_of all refused w) (farm_of all refused (without_its_end w node direction.conn))
      moves = end_moves refused w node direction.conn

      still_wired : IsWired site all (without_its_end w node direction.conn)
      still_wired = end_wired w node direction.conn wired

      is_ended : (loss : Loss) → Has loss (record { node = node; conn = direction.conn } ∷ []) → has_ended_in w.ends
          (without_end node direction.conn w.directions) loss.node loss.conn ≡ true
      is_ended loss here = ended_by_drop w.directions direction node (wired.directions direction (among direction refl))
      is_ended loss (there h) = elim h [ ]

      by_end : (b : Bool)
          → MatchBool b (LearnLosses (record { node = node; conn = direction.conn } ∷ []) (without_its_end w node direction.conn) later after)
          ((later ≡ []) × (after ≡ without_its_end w node direction.conn))
          → Leads (learned (cond b (record { node = node; conn = direction.conn } ∷ []) [])) refused w after
      by_end true learn =
          let rest = all_learn refused learn (moves_keep _ _ moves kept) still_wired is_ended reasons in
          (record { refused = (rest.0).refused; moves = join moves (rest.0).moves; caused = (rest.0).caused }, rest.1)
      by_end false idle = subst (Leads (learned []) refused w) (sym idle.1)
          (record { refused = refused; moves = moves; caused = none_refused HasReason (learned []) refused }, still_wired)

  -- one after the other
  pub leads_on : {first second : NodeNo → ℕ} (most : NodeNo → ℕ) (refused : List Refused) (w between after : WorldState) →
      ((node : NodeNo) → first node + second node ≤ most node) → (one : Leads first refused w between) → Leads second (one.0).refused between after →
      Leads most refused w after
  leads_on most refused w between after within one two = (
    record {
      refused = (two.0).refused;
      moves = join (one.0).moves (two.0).moves;
      caused = refused_twice most within (one.0).caused (two.0).caused;
    },
    two.1,
  )

  -- a node learns of its own end alone, and once
  pub end_once : (node : NodeNo) (found : Option Direction) (n : NodeNo) → learned (end_losses node found) n ≤ once_at node n
  end_once node None n = omega arith
  end_once node (Some direction) n = go direction.known
    where
      go : (b : Bool) → learned (cond b (record { node = node; conn = direction.conn } ∷ []) []) n ≤ once_at node n
      go true = let c = count-cons (is_learned_by n) (record { node = node; conn = direction.conn }) [] in omega (arith, c)
      go false = omega arith

  -- ---- a cut

  emptied_wired : (w : WorldState) (a b : NodeNo) → IsWired site all w → IsWired site all (after_losing_all w a b)
  emptied_wired w a b wired = record {
    begins = wired.begins;
    directions = λ d h.
        let was = Has-unmap (emptied a b) w.directions h in
        subst (DirectionIsWired site all w.ends) was.2 (same_wired was.0 (is_between a b was.0 || is_between b a was.0) (wired.directions was.0 was.1));
    fronts = wired.fronts;
    relays = wired.relays;
    alone = wired.alone;
  }
    where
      same_wired : (d : Direction) (c : Bool) → DirectionIsWired site all w.ends d → DirectionIsWired site all w.ends (cond c (record d { messages = [] }) d)
      same_wired d true k = record { joins = k.joins; below = k.below; linked = k.linked }
      same_wired d false k = k

  emptied_moves : (refused : List Refused) (w : WorldState) (a b : NodeNo) → Moves (parties site all) (farm_of all refused w)
      (farm_of all refused (after_losing_all w a b))
  emptied_moves refused w a b =
      next (loses (Left-parts (fewer w.directions) (Left-all (flat_map (items_at all) w.fronts))))
      (next (ends (has_ended_in w.ends (map (emptied a b) w.directions))
      (λ n c e. same_ended w.ends w.directions (map (emptied a b) w.directions) n c
      (same_ways_inward w.directions (map (emptied a b) w.directions) n c (same_ways w.directions)) ∙ e)) done)
    where
      one_less : (d : Direction) (c : Bool) → Left (λ (item : Item). Unit {0}) (flights d) (flights (cond c (record d { messages = [] }) d))
      one_less d true = Left-none (flights d) (λ item h. tt)
      one_less d false = Left-all (flights d)

      fewer : (directions : List Direction) → Left (λ (item : Item). Unit {0}) (flights_in directions) (flights_in (map (emptied a b) directions))
      fewer [] = Left-all []
      fewer (d ∷ directions) = Left-parts (one_less d (is_between a b d || is_between b a d)) (fewer directions)

      same_way : (d : Direction) (c : Bool) → way_of (cond c (record d { messages = [] }) d) ≡ way_of d
      same_way d true = refl
      same_way d false = refl

      same_ways : (directions : List Direction) → map way_of (map (emptied a b) directions) ≡ map way_of directions
      same_ways [] = refl
      same_ways (d ∷ directions) = ap (λ (y : Way). y ∷ map way_of (map (emptied a b) directions)) (same_way d (is_between a b d || is_between b a d)) ∙ ap
          (λ (ys : List Way). way_of d ∷ ys) (same_ways directions)

  -- the end that is found stands
  pub end_found : (w : WorldState) (a b : NodeNo) (direction : Direction) → end_with w.directions a b ≡ Some direction → Has direction w.directions
  end_found w a b direction e = Has-found (is_between b a) w.directions e

  pub cut_goes : (refused : List Refused) (w : WorldState) (a b : NodeNo) (after : WorldState) (later : List LossAt) → is_node a b ≡ false → IsKept
      (parties site all) (farm_of all refused w) → IsWired site all w → CutsBoth w a b later after → GivesReasons site HasReason later → Leads
      (λ node. once_at a node + once_at b node) refused w after
  cut_goes refused w a b after later two kept wired cut reasons =
      let moves = emptied_moves refused w a b in
      let kept_then = moves_keep _ _ moves kept in
      let first_goes = end_goes refused (after_losing_all w a b) a (end_with (after_losing_all w a b).directions a b) cut.middle cut.first
      (end_found (after_losing_all w a b) a b) kept_then (emptied_wired w a b wired) cut.one
      (λ v loss relay message code h. reasons v loss relay message code
      (subst (λ (ls : List LossAt). Has (record { loss = loss; before = v }) ls) (sym cut.both) (Has-append cut.second h))) in
      let kept_later = moves_keep _ _ (first_goes.0).moves kept_then in
      let second_goes = end_goes (first_goes.0).refused cut.middle b (end_with cut.middle.directions b a) after cut.second (end_found cut.middle b a) kept_later
      first_goes.1 cut.other
      (λ v loss relay message code h. reasons v loss relay message code
      (subst (λ (ls : List LossAt). Has (record { loss = loss; before = v }) ls) (sym cut.both) (Has-right cut.first h))) in
      let both = leads_on (λ node. once_at a node + once_at b node) refused (after_losing_all w a b) cut.middle after
      (λ node.
      let c = end_once a (end_with (after_losing_all w a b).directions a b) node in
      let d = end_once b (end_with cut.middle.directions b a) node in
      omega (arith, c, d)) first_goes second_goes in
      (record { refused = (both.0).refused; moves = join moves (both.0).moves; caused = (both.0).caused }, both.1)

  -- ---- one peer after the other drops its connection with a node

  abbrev pub among_peers : List NodeNo → NodeNo → ℕ
  among_peers peers n = count_by (λ peer. is_node peer n) peers

  pub all_drop : {node : NodeNo} {peers : List NodeNo} {w after : WorldState} {later : List LossAt} (refused : List Refused)
      → DropAll node peers w later after → IsKept (parties site all) (farm_of all refused w) → IsWired site all w
      → GivesReasons site HasReason later → Leads (among_peers peers) refused w after
  all_drop refused all_dropped kept wired reasons = nothing_moves (among_peers []) refused _ wired
  all_drop {node = node} refused (drops_too {peer = peer} {peers = peers} {w = w} {next = mid} {last = last} now later is one more) kept wired reasons =
      let first_goes = end_goes refused w peer (end_with w.directions peer node) mid now (end_found w peer node) kept wired one
      (λ v loss relay message code h. reasons v loss relay message code
      (subst (λ (ls : List LossAt). Has (record { loss = loss; before = v }) ls) (sym is) (Has-append later h))) in
      let others = all_drop (first_goes.0).refused more (moves_keep _ _ (first_goes.0).moves kept) first_goes.1
      (λ v loss relay message code h. reasons v loss relay message code
      (subst (λ (ls : List LossAt). Has (record { loss = loss; before = v }) ls) (sym is) (Has-right now h))) in
      leads_on (among_peers (peer ∷ peers)) refused w mid last
      (λ n.
      let c = end_once peer (end_with w.directions peer node) n in
      let d = count-cons (λ p. is_node p n) peer peers in
      omega (arith, c, d)) first_goes others
