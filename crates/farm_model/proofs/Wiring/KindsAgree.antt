-- Fronts and relays stand at nodes of their kind, also while losses of connections are learned.
use Rattle.std.proofs.Common.{◌≡◌, true, List, Option, Some, None, inl, inr, refl, sym, subst, ap, ◌∙◌, true≢false}
use Rattle.dia_base.specs.declared.number.NodeNo.{NodeNo}
use Rattle.front_core.specs.FrontState.{FrontState}
use Rattle.front_core.specs.FrontStep.{without_connection, after_restart as front_after_restart}
use Rattle.relay_core.specs.declared.run.RelayEvent.{RelayEvent}
use Rattle.relay_core.specs.declared.run.RelayEvent.TheVariants.{Lost}
use Rattle.relay_core.specs.RelayState.{RelayState}
use Rattle.relay_core.specs.Connecting.{after_restart as relay_after_restart}
use Rattle.farm_law.specs.Lists.{Has}
use Rattle.farm_base.specs.declared.site.Site.{Site}
use Rattle.farm_model.specs.declared.state.FrontAt.{FrontAt}
use Rattle.farm_model.specs.declared.state.RelayAt.{RelayAt}
use Rattle.farm_model.specs.Arrival.{AtRelay}
use Rattle.farm_model.specs.Loss.{Loss, LearnsLoss, after_crash, with_restart_of_front, with_restart_of_relay}
use Rattle.farm_base.specs.Nodes.{is_front, is_relay, kind_at}
use Rattle.farm_model.specs.World.{Ends, WorldState, is_front_at, with_front, front_at, is_relay_at, with_relay, relay_at}
use Rattle.farm_model.proofs.Wiring.OneKind.{relay_no_front}
use Rattle.farm_model.proofs.Lists.Replacing.{Has-replaced}
use Rattle.farm_model.proofs.Wiring.Wired.{IsWired}
use Rattle.farm_model.proofs.Wiring.WorldLemmas.{relay_among, the_front, front_among}

pub record KindsAgree (site : Site) (w : WorldState) : Type 0 where
  pub fronts : (at : FrontAt) → Has at w.fronts → is_front site at.node ≡ true
  pub relays : (at : RelayAt) → Has at w.relays → is_relay site at.node ≡ true

pub wired_kinds : {site : Site} {ends : Ends} {w : WorldState} → IsWired site ends w → KindsAgree site w
wired_kinds wired = record { fronts = λ at h. (wired.fronts at h).is_front; relays = λ at h. (wired.relays at h).is_relay }

-- ---- who stands at a node

pub front_kind : {site : Site} {w : WorldState} → KindsAgree site w → (node : NodeNo) (front : FrontState) → front_at node w.fronts ≡ Some front → is_front
    site node ≡ true
front_kind {w} kinds node front e = kinds.fronts (the_front node front) (front_among node w.fronts front e)

pub relay_kind : {site : Site} {w : WorldState} → KindsAgree site w → (node : NodeNo) (relay : RelayState) → relay_at node w.relays ≡ Some relay → is_relay
    site node ≡ true
relay_kind {w} kinds node relay e = kinds.relays (record { node = node; relay = relay }) (relay_among node w.relays relay e)

-- no node has both a front and a relay
pub not_both : {site : Site} {w : WorldState} → KindsAgree site w → (node : NodeNo) (front : FrontState) (relay : RelayState) → front_at node w.fronts ≡ Some
    front → relay_at node w.relays ≡ Some relay → ⊥
not_both {site} kinds node front relay e f = true≢false (sym (front_kind kinds node front e) ∙ relay_no_front (kind_at site node)
    (relay_kind kinds node relay f))

-- ---- one of them changed

pub fronts_changed : (site : Site) (node : NodeNo) (front : FrontState) (fronts : List FrontAt) → is_front site node ≡ true →
    ((at : FrontAt) → Has at fronts → is_front site at.node ≡ true) → (at : FrontAt) → Has at (with_front node front fronts) → is_front site at.node ≡ true
fronts_changed site node front fronts kind all at h = elim (Has-replaced (is_front_at node) (record { node = node; front = front }) fronts h) [
  | inl is ↦ ap (λ (a : FrontAt). is_front site a.node) is ∙ kind
  | inr old ↦ all at old
]

pub relays_changed : (site : Site) (node : NodeNo) (relay : RelayState) (relays : List RelayAt) → is_relay site node ≡ true →
    ((at : RelayAt) → Has at relays → is_relay site at.node ≡ true) → (at : RelayAt) → Has at (with_relay node relay relays) → is_relay site at.node ≡ true
relays_changed site node relay relays kind all at h = elim (Has-replaced (is_relay_at node) (record { node = node; relay = relay }) relays h) [
  | inl is ↦ ap (λ (a : RelayAt). is_relay site a.node) is ∙ kind
  | inr old ↦ all at old
]

-- ---- a crash, and a loss that is learned

pub crash_kinds : {site : Site} (w : WorldState) (node : NodeNo) → KindsAgree site w → KindsAgree site (after_crash w node)
crash_kinds {site} w node kinds = record { fronts = of_fronts (front_at node w.fronts) refl; relays = of_relays (relay_at node w.relays) refl }
  where
    of_fronts : (o : Option FrontState) → front_at node w.fronts ≡ o → (at : FrontAt) → Has at (with_restart_of_front node w.fronts o) → is_front site at.node
        ≡ true
    of_fronts None e = kinds.fronts
    of_fronts (Some front) e = fronts_changed site node (front_after_restart front) w.fronts (front_kind kinds node front e) kinds.fronts

    of_relays : (o : Option RelayState) → relay_at node w.relays ≡ o → (at : RelayAt) → Has at (with_restart_of_relay node w.relays o) → is_relay site at.node
        ≡ true
    of_relays None e = kinds.relays
    of_relays (Some relay) e = relays_changed site node (relay_after_restart relay) w.relays (relay_kind kinds node relay e) kinds.relays

at_relay_kinds : {site : Site} (w next : WorldState) (node : NodeNo) (event : RelayEvent) → KindsAgree site w → (o : Option RelayState) → relay_at node
    w.relays ≡ o → AtRelay w node event o next → KindsAgree site next
at_relay_kinds {site} w next node event kinds None e next_is = subst (KindsAgree site) (sym next_is) kinds
at_relay_kinds {site} w next node event kinds (Some relay) e turn =
    subst (KindsAgree site) (sym turn.next_is) (record {
      fronts = kinds.fronts;
      relays = relays_changed site node turn.after w.relays
          (relay_kind kinds node relay e) kinds.relays;
    })

pub learn_kinds : {site : Site} (w next : WorldState) (loss : Loss) → KindsAgree site w → LearnsLoss w loss (front_at loss.node w.fronts) next → KindsAgree
    site next
learn_kinds {site} w next loss kinds learns = go (front_at loss.node w.fronts) refl learns
  where
    go : (o : Option FrontState) → front_at loss.node w.fronts ≡ o → LearnsLoss w loss o next → KindsAgree site next
    go (Some front) e next_is =
        subst (KindsAgree site) (sym next_is) (record {
          fronts = fronts_changed site loss.node (without_connection front loss.conn) w.fronts
              (front_kind kinds loss.node front e) kinds.fronts;
          relays = kinds.relays;
        })
    go None e at_relay = at_relay_kinds w next loss.node (Lost loss.conn) kinds (relay_at loss.node w.relays) refl at_relay
