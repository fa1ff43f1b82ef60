-- What hangs together still does where more connections are made, or a front or a relay changes.
use Rattle.std.proofs.Common.{◌≡◌, ℕ, ◌≤◌, Bool, List, length, map, Some, inl, inr, refl, sym, subst, ap, ◌∙◌, arith}
use Rattle.std.specs.Prelude.{flat_map, count_by}
use Rattle.std.specs.List.{find}
use Rattle.dia_base.specs.declared.number.NodeNo.{NodeNo}
use Rattle.dia_message.specs.declared.message.Message.{Message}
use Rattle.front_core.specs.FrontState.{FrontState}
use Rattle.relay_peers.specs.declared.peers.Link.{Link}
use Rattle.relay_core.specs.RelayState.{RelayState}
use Rattle.farm_law.specs.Lists.{Has}
use Rattle.farm_base.specs.declared.site.Site.{Site}
use Rattle.farm_model.specs.declared.state.Direction.{Direction}
use Rattle.farm_model.specs.declared.state.FrontAt.{FrontAt}
use Rattle.farm_model.specs.declared.state.RelayAt.{RelayAt}
use Rattle.farm_model.specs.World.{Ends, is_front_at, with_front, front_at, is_relay_at, with_relay, relay_at}
use Rattle.farm_base.specs.Lists.{replace_first}
use Rattle.farm_model.proofs.Moves.AsFarm.{items_at, rows_at, rows_of, pending_of}
use Rattle.farm_model.proofs.Lists.Finding.{Has-found}
use Rattle.farm_model.proofs.Lists.Placing.{parts_same}
use Rattle.farm_model.proofs.Lists.Replacing.{Has-replaced, count_replaced}
use Rattle.farm_model.proofs.Wiring.Wired.{DirectionIsWired, FrontIsWired, LinkIsWired, RelayIsWired}
use Rattle.farm_model.proofs.Wiring.WorldLemmas.{the_front, front_stands, front_among, relay_stands, relay_among}

-- ---- what is made of them stays, where what is made of the one that changes does

pub same_items : (ends : Ends) (node : NodeNo) (fronts : List FrontAt) (front next : FrontState) → front_at node fronts ≡ Some front → next.queue ≡ front.queue
    → next.workers ≡ front.workers
    → flat_map (items_at ends) (with_front node next fronts) ≡ flat_map (items_at ends) fronts
same_items ends node fronts front next e queue workers =
    let same : items_at ends (the_front node next) ≡ items_at ends (the_front node front) =
    ap (λ (q : List _). items_at ends (the_front node (record next { queue = q }))) queue
    ∙ ap (λ (ws : List _). items_at ends (the_front node (record next { queue = front.queue; workers = ws }))) workers in
    parts_same (items_at ends) (is_front_at node) same fronts (front_stands node fronts front e)

pub same_rows : (ends : Ends) (node : NodeNo) (relays : List RelayAt) (relay next : RelayState) → relay_at node relays ≡ Some relay → next.pending.rows ≡
    relay.pending.rows
    → rows_of ends (with_relay node next relays) ≡ rows_of ends relays
same_rows ends node relays relay next e rows =
    let same : rows_at ends (record { node = node; relay = next }) ≡ rows_at ends (record { node = node; relay = relay }) = ap (map (pending_of ends node))
    rows in
    parts_same (rows_at ends) (is_relay_at node) same relays (relay_stands node relays relay e)

-- ---- fronts and relays stand as they should

pub front_wired : {site : Site} {node : NodeNo} {fronts : List FrontAt} {front : FrontState} → ((at : FrontAt) → Has at fronts → FrontIsWired site at) →
    front_at node fronts ≡ Some front → FrontIsWired site (the_front node front)
front_wired {node = node} {fronts = fronts} {front = front} wired e = wired (the_front node front) (front_among node fronts front e)

pub with_front_wired : (site : Site) (node : NodeNo) (fronts : List FrontAt) (front changed : FrontState) → front_at node fronts ≡ Some front → changed.site ≡
    front.site → ((at : FrontAt) → Has at fronts → FrontIsWired site at)
    → (at : FrontAt) → Has at (with_front node changed fronts) → FrontIsWired site at
with_front_wired site node fronts front changed looked same wired at h = elim (Has-replaced (is_front_at node) (the_front node changed) fronts h) [
  | inl is ↦ subst (FrontIsWired site) (sym is) (let k = front_wired wired looked in record { is_front = k.is_front; site_is = same ∙ k.site_is })
  | inr g ↦ wired at g
]

pub relay_wired : {site : Site} {ends made : Ends} {node : NodeNo} {relays : List RelayAt} {relay : RelayState} →
    ((at : RelayAt) → Has at relays → RelayIsWired site ends made at.node at.relay) → relay_at node relays ≡ Some relay → RelayIsWired site ends made node relay
relay_wired {node = node} {relays = relays} {relay = relay} wired e = wired (record { node = node; relay = relay }) (relay_among node relays relay e)

pub relays_wired : {site : Site} {ends made : Ends} {relays : List RelayAt} (node : NodeNo) (next : RelayState) →
    ((at : RelayAt) → Has at relays → RelayIsWired site ends made at.node at.relay) → RelayIsWired site ends made node next
    → (at : RelayAt) → Has at (with_relay node next relays) → RelayIsWired site ends made at.node at.relay
relays_wired {site} {ends} {made} {relays} node next wired good at h = elim (Has-replaced (is_relay_at node) (record { node = node; relay = next }) relays h) [
  | inl e ↦ subst (λ (a : RelayAt). RelayIsWired site ends made a.node a.relay) (sym e) good
  | inr g ↦ wired at g
]

-- a node stands among the relays as often as before
pub relays_alone : (relays : List RelayAt) (node : NodeNo) (relay next : RelayState) → relay_at node relays ≡ Some relay →
    ((n : NodeNo) → count_by (is_relay_at n) relays ≤ 1) → (n : NodeNo) → count_by (is_relay_at n) (with_relay node next relays) ≤ 1
relays_alone relays node relay next e alone n =
    let old : RelayAt = record { node = node; relay = relay } in
    let new : RelayAt = record { node = node; relay = next } in
    subst (λ (k : ℕ). k ≤ 1) (sym (count_replaced (is_relay_at n) (is_relay_at node) old new relays (relay_stands node relays relay e) refl)) (alone n)

-- ---- directions

-- the first direction that passes gets other messages
pub directions_wired : {site : Site} {ends made : Ends} (test : Direction → Bool) (direction : Direction) (messages : List Message)
    (directions : List Direction) → find test directions ≡ Some direction
    → ((d : Direction) → Has d directions → DirectionIsWired site ends made d) → (d : Direction) → Has d
    (replace_first test (record direction { messages = messages }) directions) → DirectionIsWired site ends made d
directions_wired {site} {ends} {made} test direction messages directions found wired d h = elim
    (Has-replaced test (record direction { messages = messages }) directions h) [
      | inl is ↦ subst (DirectionIsWired site ends made) (sym is)
          (let k = wired direction (Has-found test directions found) in record { joins = k.joins; below = k.below; linked = k.linked })
      | inr g ↦ wired d g
    ]

-- ---- more connections were made

pub link_later : {ends made made' : Ends} {node : NodeNo} {link : Link} → length made ≤ length made' → LinkIsWired ends made node link → LinkIsWired ends made'
    node link
link_later more k = record { joins = k.joins; below = (let b = k.below in omega (arith, b, more)) }

module _ {site : Site} {ends made made' : Ends} (more : length made ≤ length made') where
  pub direction_later : {direction : Direction} → DirectionIsWired site ends made direction → DirectionIsWired site ends made' direction
  direction_later k = record { joins = k.joins; below = (let b = k.below in omega (arith, b, more)); linked = k.linked }

  pub relay_later : {node : NodeNo} {relay : RelayState} → RelayIsWired site ends made node relay → RelayIsWired site ends made' node relay
  relay_later k = record {
    is_relay = k.is_relay;
    node_is = k.node_is;
    links = λ link h. link_later more (k.links link h);
    rows = λ row h. let r = k.rows row h in record { joins = r.joins; below = (let b = r.below in omega (arith, b, more)); peer = r.peer };
  }
