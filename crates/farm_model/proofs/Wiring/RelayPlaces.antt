-- The relay at a node, where one is changed or new to the list.
use Rattle.std.proofs.Common.{◌≡◌, Bool, true, false, cond, List, [], ◌∷◌, Some, inl, inr, refl, sym, subst, ap, ◌∙◌}
use Rattle.std.specs.Prelude.{◌⊎◌, ◌||◌, option_map}
use Rattle.std.specs.List.{find, list_any}
use Rattle.dia_base.specs.declared.number.NodeNo.{NodeNo}
use Rattle.relay_core.specs.RelayState.{RelayState}
use Rattle.farm_model.specs.declared.state.RelayAt.{RelayAt}
use Rattle.farm_base.specs.Nodes.{is_node}
use Rattle.farm_model.specs.World.{is_relay_at, with_relay, relay_at}
use Rattle.farm_model.proofs.Lists.Finding.{any_found}
use Rattle.farm_model.proofs.Lists.Numbering.{same_node, nodes_turned}

-- ---- who is at a node

-- a node with a relay has one in the list
pub relay_there : (node : NodeNo) (relays : List RelayAt) → list_any (is_relay_at node) relays ≡ true → (relay : RelayState) ×
    (relay_at node relays ≡ Some relay)
relay_there node relays e = let found = any_found (is_relay_at node) relays e in (found.0.relay, ap (option_map (λ (at : RelayAt). at.relay)) found.1)

-- ---- one relay changed

-- who is at a node then
abbrev pub IsAfterChange : NodeNo → RelayState → List RelayAt → NodeNo → RelayState → Type 0
IsAfterChange node new relays other found = ((other ≡ node) × (found ≡ new)) ⊎ ((is_node node other ≡ false) × (relay_at other relays ≡ Some found))

pub relay_after_change : (node : NodeNo) (new : RelayState) (relays : List RelayAt) (other : NodeNo) (found : RelayState) → relay_at other
    (with_relay node new relays) ≡ Some found → IsAfterChange node new relays other found
relay_after_change node new [] other found e = absurd cc
relay_after_change node new (at ∷ relays) other found e = go (is_node at.node node) refl (relay_after_change node new relays other found) e
  where
    -- the relay that is changed stands first
    at_first : at.node ≡ node → (c : Bool) → is_node node other ≡ c → option_map (λ (a : RelayAt). a.relay)
        (cond c (Some (record { node = node; relay = new })) (find (is_relay_at other) relays)) ≡ Some found → IsAfterChange node new (at ∷ relays) other found
    at_first same true n k = let new_is : new ≡ found = cc in inl (sym (same_node node other n), sym new_is)
    at_first same false n k =
        let passed : is_node at.node other ≡ false = ap (λ (m : NodeNo). is_node m other) same ∙ n in
        inr (n, subst (λ (c : Bool). option_map (λ (a : RelayAt). a.relay) (cond c (Some at) (find (is_relay_at other) relays)) ≡ Some found) (sym passed) k)

    -- another one stands first
    behind : is_node at.node node ≡ false → (relay_at other (with_relay node new relays) ≡ Some found → IsAfterChange node new relays other found) → (c : Bool)
        → is_node at.node other ≡ c
        → option_map (λ (a : RelayAt). a.relay) (cond c (Some at) (find (is_relay_at other) (with_relay node new relays))) ≡ Some found → IsAfterChange node
        new (at ∷ relays) other found
    behind apart more true n k =
        let same : at.node ≡ other = same_node at.node other n in
        let turned : is_node node other ≡ false = nodes_turned other node (ap (λ (m : NodeNo). is_node m node) (sym same) ∙ apart) in
        inr (turned, subst (λ (c : Bool). option_map (λ (a : RelayAt). a.relay) (cond c (Some at) (find (is_relay_at other) relays)) ≡ Some found) (sym n) k)
    behind apart more false n k = elim (more k) [
      | inl is ↦ inl is
      | inr is ↦ inr (
        is.0,
        subst (λ (c : Bool). option_map (λ (a : RelayAt). a.relay) (cond c (Some at) (find (is_relay_at other) relays)) ≡ Some found)
            (sym n) is.1,
      )
    ]

    go : (b : Bool) → is_node at.node node ≡ b → (relay_at other (with_relay node new relays) ≡ Some found → IsAfterChange node new relays other found)
        → option_map (λ (a : RelayAt). a.relay) (find (is_relay_at other)
        (cond b (record { node = node; relay = new } ∷ relays) (at ∷ with_relay node new relays))) ≡ Some found → IsAfterChange node new (at ∷ relays)
        other found
    go true n more k = at_first (same_node at.node node n) (is_node node other) refl k
    go false n more k = behind n more (is_node at.node other) refl k

-- the nodes that have relays are the same
pub present_after_change : (node : NodeNo) (new : RelayState) (relays : List RelayAt) (other : NodeNo) → list_any (is_relay_at other)
    (with_relay node new relays) ≡ list_any (is_relay_at other) relays
present_after_change node new [] other = refl
present_after_change node new (at ∷ relays) other = go (is_node at.node node) refl (present_after_change node new relays other)
  where
    go : (b : Bool) → is_node at.node node ≡ b → list_any (is_relay_at other) (with_relay node new relays) ≡ list_any (is_relay_at other) relays
        → list_any (is_relay_at other) (cond b (record { node = node; relay = new } ∷ relays) (at ∷ with_relay node new relays)) ≡ list_any (is_relay_at other)
        (at ∷ relays)
    go true n more = ap (λ (m : NodeNo). is_node m other || list_any (is_relay_at other) relays) (sym (same_node at.node node n))
    go false n more = ap (λ (b : Bool). is_node at.node other || b) more

same_at : (at : RelayAt) (node : NodeNo) (relay : RelayState) → at.node ≡ node → at.relay ≡ relay → record { node = node; relay = relay } ≡ at
same_at at node relay n r =
    let nodes : record { node = node; relay = relay } ≡ record { node = at.node; relay = relay } = ap (λ (m : NodeNo). record { node = m; relay = relay })
    (sym n) in
    let relays : record { node = at.node; relay = relay } ≡ at = ap (λ (s : RelayState). record { node = at.node; relay = s }) (sym r) in
    nodes ∙ relays

-- a relay that stays as it is leaves the list as it is
pub with_relay_same : (node : NodeNo) (relay : RelayState) (relays : List RelayAt) → relay_at node relays ≡ Some relay → with_relay node relay relays ≡ relays
with_relay_same node relay [] e = refl
with_relay_same node relay (at ∷ relays) e = go (is_node at.node node) refl (with_relay_same node relay relays) e
  where
    go : (b : Bool) → is_node at.node node ≡ b → (relay_at node relays ≡ Some relay → with_relay node relay relays ≡ relays) → option_map
        (λ (a : RelayAt). a.relay) (cond b (Some at) (find (is_relay_at node) relays)) ≡ Some relay
        → cond b (record { node = node; relay = relay } ∷ relays) (at ∷ with_relay node relay relays) ≡ at ∷ relays
    go true n more k = let is : at.relay ≡ relay = cc in ap (λ (a : RelayAt). a ∷ relays) (same_at at node relay (same_node at.node node n) is)
    go false n more k = ap (λ (rest : List RelayAt). at ∷ rest) (more k)
