-- A relay that learns of a lost connection forgets who was at its other end, and nothing else of its peers.
use Rattle.std.proofs.Common.{◌≡◌, ℕ, true, false, List, ◌∷◌, Option, Some, None, inl, inr, refl, sym, subst, ap, ◌∙◌, eq-eqb}
use Rattle.std.specs.Prelude.{◌==◌, not, option_map, MatchOption}
use Rattle.std.specs.List.{find}
use Rattle.std.proofs.lemmas.Bool.{both_ways, ne_eqb, eqb-true, not-true}
use Rattle.dia_base.specs.declared.number.ConnId.{ConnId}
use Rattle.dia_base.specs.declared.number.NodeNo.{NodeNo}
use Rattle.dia_message.specs.Traffic.{Traffic}
use Rattle.front_core.specs.FrontState.{FrontState}
use Rattle.relay_peers.specs.declared.peers.Link.{Link}
use Rattle.relay_peers.specs.PeerTable.{is_on, peer_in, without_conn}
use Rattle.relay_core.specs.declared.run.RelayEvent.TheVariants.{Lost}
use Rattle.relay_core.specs.Failover.{OnConnLost}
use Rattle.relay_core.specs.RelayRun.{IsIdle}
use Rattle.relay_core.specs.RelayState.{RelayState}
use Rattle.farm_law.specs.Lists.{Has, here, there}
use Rattle.farm_base.specs.declared.site.Site.{Site}
use Rattle.farm_model.specs.Arrival.{AtRelay, RelayTurn, after_relay_turn}
use Rattle.farm_model.specs.Loss.{Loss, LossAt, LearnsLoss, LearnLosses, all_know, learns}
use Rattle.farm_model.specs.World.{WorldState, front_at, relay_at}
use Rattle.farm_model.proofs.Lists.Among.{Has-filter, Has-cons}
use Rattle.farm_model.proofs.Lists.Finding.{find_kept, not_found, found_mapped, none_mapped}
use Rattle.farm_model.proofs.Wiring.KindsAgree.{KindsAgree, learn_kinds, not_both}
use Rattle.farm_model.proofs.Wiring.KnowsPeers.{LinkStandsBut, KnowsPeersBut, KnowsPeers}
use Rattle.farm_model.proofs.Wiring.RelayPlaces.{relay_after_change, present_after_change}
use Rattle.farm_model.proofs.Wiring.SamePeers.{same_links_after, same_knows}
use Rattle.farm_model.proofs.Wiring.Sides.{Side, sides, sides_sent}

-- a loss is learned where the node has no link on the connection
pub loss_learned : {site : Site} {losses : List Loss} (w : WorldState) (loss : Loss) →
    ((relay : RelayState) (link : Link) → relay_at loss.node w.relays ≡ Some relay → Has link relay.node.peers.links → link.conn ≡ loss.conn → ⊥)
    → KnowsPeersBut site (loss ∷ losses) w → KnowsPeersBut site losses w
loss_learned {site} {losses} w loss none known = record {
  knows = known.knows;
  stands = λ node relay link at h. elim (known.stands node relay link at h) [
    | inl stood ↦ inl stood
    | inr lost ↦ elim (Has-cons lost) [
      | inl is ↦ absurd (none relay link (subst (λ (n : NodeNo). relay_at n w.relays ≡ Some relay) (ap (λ (l : Loss). l.node) is) at) h
          (ap (λ (l : Loss). l.conn) is))
      | inr later ↦ inr later
    ]
  ];
  present = known.present;
  ended = λ other from heard h. known.ended other from heard (there h);
}

-- ---- the connection is lost to a relay that had a link on it

-- the peers on other connections stay
peer_kept : (links : List Link) (ended conn : ConnId) (peer : NodeNo) → (conn ≡ ended → ⊥) → peer_in links conn ≡ Some peer → peer_in
    (without_conn links ended) conn ≡ Some peer
peer_kept links ended conn peer other e =
    let found = found_mapped (λ (l : Link). l.peer) (is_on conn) links e in
    ap (option_map (λ (l : Link). l.peer)) (find_kept (is_on conn) (λ l. not (is_on ended l)) links kept found.1) ∙ ap (λ (p : NodeNo). Some p) found.2
  where
    kept : (link : Link) → is_on conn link ≡ true → not (is_on ended link) ≡ true
    kept link on =
        let same : link.conn.0 ≡ conn.0 = eqb-true link.conn.0 conn.0 on in
        let off : is_on ended link ≡ false = ne_eqb link.conn.0 ended.0 (λ is. other (ap (λ (n : ℕ). record { 0 = n }) (sym same ∙ is))) in
        ap not off

-- a link that is left was there, on another connection
link_left : (links : List Link) (ended : ConnId) (link : Link) → Has link (without_conn links ended) → Has link links × (link.conn ≡ ended → ⊥)
link_left links ended link h =
    let was = Has-filter (λ (l : Link). not (is_on ended l)) links h in
    (was.0, λ same. both_ways (is_on ended link) (not-true (is_on ended link) was.1) (eq-eqb link.conn.0 ended.0 (ap (λ (c : ConnId). c.0) same)))

module _ {site : Site} {losses : List Loss} (w : WorldState) (loss : Loss) (known : KnowsPeersBut site (loss ∷ losses) w) (relay : RelayState)
    (at : relay_at loss.node w.relays ≡ Some relay) (sent : Traffic) (after : RelayState) where
  abbrev afterwards : WorldState
  afterwards = after_relay_turn w loss.node sent after

  directions_same : sides afterwards.directions ≡ sides w.directions
  directions_same = sides_sent loss.node w.directions sent

  old_side : {side : Side} → Has side (sides afterwards.directions) → Has side (sides w.directions)
  old_side {side} h = subst (λ (s : List Side). Has side s) directions_same h

  new_side : {side : Side} → Has side (sides w.directions) → Has side (sides afterwards.directions)
  new_side {side} h = subst (λ (s : List Side). Has side s) (sym directions_same) h

  -- what stood stands, and what is still to be learned is so
  still : (node : NodeNo) (link : Link) → LinkStandsBut (loss ∷ losses) w.directions node link → LinkStandsBut (loss ∷ losses) afterwards.directions node link
  still node link stands = elim stands [ inl stood ↦ inl (new_side stood) | inr lost ↦ inr lost ]

  -- it forgets the peer on the connection
  forgets : after.node.peers.links ≡ without_conn relay.node.peers.links loss.conn → KnowsPeersBut site (loss ∷ losses) afterwards
  forgets links = record {
    knows = λ node found conn from e h. elim (relay_after_change loss.node after w.relays node found e) [
      | inl is ↦
          let found_links : found.node.peers.links ≡ without_conn relay.node.peers.links loss.conn = ap (λ (r : RelayState). r.node.peers.links) is.1 ∙ links in
          let at_node : relay_at node w.relays ≡ Some relay = subst (λ (n : NodeNo). relay_at n w.relays ≡ Some relay) (sym is.0) at in
          let stood = old_side h in
          ap (λ (ls : List Link). peer_in ls conn) found_links
          ∙ peer_kept relay.node.peers.links loss.conn conn from
          (λ same. known.ended loss from true here (subst (λ (n : NodeNo). Has (loss.conn, from, n, true) (sides w.directions)) is.0
          (subst (λ (c : ConnId). Has (c, from, node, true) (sides w.directions)) same stood)))
          (known.knows node relay conn from at_node stood)
      | inr is ↦ known.knows node found conn from is.1 (old_side h)
    ];
    stands = λ node found link e h. elim (relay_after_change loss.node after w.relays node found e) [
      | inl is ↦
          let found_links : found.node.peers.links ≡ without_conn relay.node.peers.links loss.conn = ap (λ (r : RelayState). r.node.peers.links) is.1 ∙ links in
          let at_node : relay_at node w.relays ≡ Some relay = subst (λ (n : NodeNo). relay_at n w.relays ≡ Some relay) (sym is.0) at in
          still node link (known.stands node relay link at_node
          (link_left relay.node.peers.links loss.conn link (subst (λ (ls : List Link). Has link ls) found_links h)).0)
      | inr is ↦ still node link (known.stands node found link is.1 h)
    ];
    present = λ node is. present_after_change loss.node after w.relays node ∙ known.present node is;
    ended = λ other from heard h stood. known.ended other from heard h (old_side stood);
  }

  -- the relay at the node is the one that has learned
  relay_then : (found : RelayState) → relay_at loss.node afterwards.relays ≡ Some found → found ≡ after
  relay_then found e = elim (relay_after_change loss.node after w.relays loss.node found e) [
    | inl is ↦ is.1
    | inr is ↦ absurd (both_ways (loss.node.0 == loss.node.0) is.0 (eq-eqb loss.node.0 loss.node.0 refl))
  ]

  pub lost_known : OnConnLost relay loss.conn sent after → KnowsPeersBut site losses afterwards
  lost_known lost =
      let links : after.node.peers.links ≡ without_conn relay.node.peers.links loss.conn = ap (λ (r : RelayState). r.node.peers.links) lost.after in
      loss_learned afterwards loss (λ found link e h same.
      (link_left relay.node.peers.links loss.conn link (subst (λ (ls : List Link). Has link ls)
      (ap (λ (r : RelayState). r.node.peers.links) (relay_then found e) ∙ links) h)).1 same) (forgets links)

  pub unlinked_known : find (is_on loss.conn) relay.node.peers.links ≡ None → after ≡ relay → KnowsPeersBut site losses afterwards
  unlinked_known none same_relay =
      let links : after.node.peers.links ≡ relay.node.peers.links = ap (λ (r : RelayState). r.node.peers.links) same_relay in
      loss_learned afterwards loss (λ found link e h same.
      let was : Has link relay.node.peers.links = subst (λ (ls : List Link). Has link ls)
      (ap (λ (r : RelayState). r.node.peers.links) (relay_then found e) ∙ links) h in
      both_ways (is_on loss.conn link) (not_found (is_on loss.conn) none was) (eq-eqb link.conn.0 loss.conn.0 (ap (λ (c : ConnId). c.0) same)))
      (same_knows w afterwards directions_same (same_links_after loss.node relay after w.relays at links) known)

-- ---- any node learns it

turn_known : {site : Site} {losses : List Loss} (w next : WorldState) (loss : Loss) → KnowsPeersBut site (loss ∷ losses) w → (relay : RelayState) → relay_at
    loss.node w.relays ≡ Some relay → RelayTurn w loss.node relay (Lost loss.conn) next → KnowsPeersBut site losses next
turn_known {site} {losses} w next loss known relay at turn = subst (KnowsPeersBut site losses) (sym turn.next_is)
    (go (peer_in relay.node.peers.links loss.conn) refl turn.turn)
  where
    go : (o : Option NodeNo) → peer_in relay.node.peers.links loss.conn ≡ o → MatchOption o (IsIdle relay turn.sent turn.after)
        (λ peer. OnConnLost relay loss.conn turn.sent turn.after) → KnowsPeersBut site losses (after_relay_turn w loss.node turn.sent turn.after)
    go None e idle = unlinked_known w loss known relay at turn.sent turn.after (none_mapped (λ (l : Link). l.peer) (is_on loss.conn) relay.node.peers.links e)
        idle.1
    go (Some peer) e lost = lost_known w loss known relay at turn.sent turn.after lost

at_relay_known : {site : Site} {losses : List Loss} (w next : WorldState) (loss : Loss) → KnowsPeersBut site (loss ∷ losses) w → (o : Option RelayState) →
    relay_at loss.node w.relays ≡ o → AtRelay w loss.node (Lost loss.conn) o next → KnowsPeersBut site losses next
at_relay_known {site} {losses} w next loss known None e next_is =
    subst (KnowsPeersBut site losses) (sym next_is) (loss_learned w loss (λ relay link at h same. let some_is : None ≡ Some relay = sym e ∙ at in absurd cc)
    known)
at_relay_known w next loss known (Some relay) e turn = turn_known w next loss known relay e turn

pub learn_known : {site : Site} {losses : List Loss} (w next : WorldState) (loss : Loss) → KindsAgree site w → KnowsPeersBut site (loss ∷ losses) w →
    LearnsLoss w loss (front_at loss.node w.fronts) next → KnowsPeersBut site losses next
learn_known {site} {losses} w next loss kinds known learned = go (front_at loss.node w.fronts) refl learned
  where
    go : (o : Option FrontState) → front_at loss.node w.fronts ≡ o → LearnsLoss w loss o next → KnowsPeersBut site losses next
    go (Some front) e next_is =
        let left : KnowsPeersBut site losses w = loss_learned w loss (λ relay link at h same. not_both kinds loss.node front relay e at) known in
        subst (KnowsPeersBut site losses) (sym next_is) (record { knows = left.knows; stands = left.stands; present = left.present; ended = left.ended })
    go None e at_relay = at_relay_known w next loss known (relay_at loss.node w.relays) refl at_relay

-- all of them
pub losses_known : {site : Site} {losses : List Loss} {w last : WorldState} {later : List LossAt} → LearnLosses losses w later last → KindsAgree site w →
    KnowsPeersBut site losses w → KnowsPeers site last
losses_known all_know kinds known = known
losses_known (learns {loss} {losses} {w} {next} learned rest) kinds known = losses_known rest (learn_kinds w next loss kinds learned)
    (learn_known w next loss kinds known learned)
