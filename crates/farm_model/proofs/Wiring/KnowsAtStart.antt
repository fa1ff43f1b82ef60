-- Before the first step there are no connections, and each relay of the site is there.
use Rattle.std.proofs.Common.{◌≡◌, ℕ, zero, suc, ◌+◌, Bool, true, false, List, [], ◌∷◌, Some, inl, inr, sym, subst, ap, ◌∙◌, arith, eq-eqb}
use Rattle.std.specs.Prelude.{◌||◌, ◌==◌, slice_get}
use Rattle.std.specs.List.{list_any}
use Rattle.std.proofs.lemmas.List.Folds.{list_any-append}
use Rattle.std.proofs.lemmas.Bool.{or_left, or_right}
use Rattle.dia_base.specs.declared.number.NodeNo.{NodeNo}
use Rattle.dia_base.specs.declared.node.NodeKind.{NodeKind}
use Rattle.dia_base.specs.declared.node.NodeKind.TheVariants.{Relay, Front, Client}
use Rattle.relay_peers.specs.declared.peers.Link.{Link}
use Rattle.farm_law.specs.Lists.{Has}
use Rattle.farm_base.specs.declared.site.Node.{Node}
use Rattle.farm_base.specs.declared.site.Site.{Site}
use Rattle.farm_model.specs.declared.state.RelayAt.{RelayAt}
use Rattle.farm_base.specs.Nodes.{kind_in, means_relay}
use Rattle.farm_model.specs.Run.{relay_if, relays_from, start}
use Rattle.farm_model.specs.World.{is_relay_at}
use Rattle.farm_model.proofs.Lists.Among.{Has-parts, Has-cons}
use Rattle.farm_model.proofs.Wiring.KnowsPeers.{KnowsPeers}
use Rattle.farm_model.proofs.Wiring.WorldLemmas.{relay_among}

no_links_if : (site : Site) (place : ℕ) (node : Node) (kind : NodeKind) (at : RelayAt) → Has at (relay_if site place node kind) → at.relay.node.peers.links ≡ []
no_links_if site place node Relay at h = elim (Has-cons h) [ inl is ↦ ap (λ (a : RelayAt). a.relay.node.peers.links) is | inr g ↦ elim g [ ] ]
no_links_if site place node Front at h = elim h [ ]
no_links_if site place node Client at h = elim h [ ]

no_links : (site : Site) (place : ℕ) (nodes : List Node) (at : RelayAt) → Has at (relays_from site place nodes) → at.relay.node.peers.links ≡ []
no_links site place [] at h = elim h [ ]
no_links site place (node ∷ nodes) at h = elim (Has-parts (relay_if site place node node.kind) h) [
  | inl g ↦ no_links_if site place node node.kind at g
  | inr g ↦ no_links site (place + 1) nodes at g
]

present_if : (site : Site) (place : ℕ) (node : Node) (kind : NodeKind) (at : NodeNo) → at.0 ≡ place → means_relay (Some kind) ≡ true → list_any
    (is_relay_at at) (relay_if site place node kind) ≡ true
present_if site place node Relay at same e = let here_is : (place == at.0) ≡ true = eq-eqb place at.0 (sym same) in ap (λ (b : Bool). b || false) here_is
present_if site place node Front at same e = absurd cc
present_if site place node Client at same e = absurd cc

present_from : (site : Site) (at : NodeNo) (place : ℕ) (nodes : List Node) (k : ℕ) → at.0 ≡ place + k → means_relay (kind_in (slice_get nodes k)) ≡ true →
    list_any (is_relay_at at) (relays_from site place nodes) ≡ true
present_from site at place [] k same e = absurd cc
present_from site at place (node ∷ nodes) zero same e =
    let first_is : at.0 ≡ place = omega arith in
    list_any-append (is_relay_at at) (relay_if site place node node.kind) (relays_from site (place + 1) nodes)
    ∙ or_left (list_any (is_relay_at at) (relay_if site place node node.kind)) _ (present_if site place node node.kind at first_is e)
present_from site at place (node ∷ nodes) (suc k) same e =
    let rest_is : at.0 ≡ place + 1 + k = omega arith in
    list_any-append (is_relay_at at) (relay_if site place node node.kind) (relays_from site (place + 1) nodes)
    ∙ or_right (list_any (is_relay_at at) (relay_if site place node node.kind)) _ (present_from site at (place + 1) nodes k rest_is e)

pub knows_at_start : (site : Site) → KnowsPeers site (start site)
knows_at_start site = record {
  knows = λ node relay conn from e h. elim h [ ];
  stands = λ node relay link e h. elim (subst (λ (links : List Link). Has link links)
      (no_links site 0 site.nodes (record { node = node; relay = relay }) (relay_among node (relays_from site 0 site.nodes) relay e)) h) [ ];
  present = λ node is. let same : node.0 ≡ 0 + node.0 = omega arith in present_from site node 0 site.nodes node.0 same is;
  ended = λ loss from known h stood. elim h [ ];
}
