use Rattle.std.proofs.Common.{◌≡◌, ◌⊎◌, inr, List, ℕ, Bor, map, true, Some, ap, ◌∙◌, sym, subst, arith}
use Rattle.std.specs.List.{list_all}
use Rattle.dia_base.specs.declared.number.NodeNo.{NodeNo}
use Rattle.farm_base.specs.CheckedSite.{is_candidate}
use Rattle.toml.specs.View.{table_view}
use Rattle.farm_site.specs.declared.fault.SiteFault.TheVariants.{UnknownName}
use Rattle.farm_site.specs.declared.key.Key.TheVariants as keys
use Rattle.farm_site.specs.Faults.{IsFaultOf, IsUnknownAmong}
use Rattle.farm_site.specs.Graph.{drawn}
use Rattle.farm_site.specs.Spelling.{Names, texts, value_at}
use Rattle.farm_site.proofs.Refusing.{handed_on, unknown_among}
use Rattle.farm_site.proofs.Pushing.{all_push}
use Rattle.farm_site.proofs.Spelled.{zip_all, zip_more}
use Rattle.farm_site.proofs.route.peers_of.Goals as goal

pub loop-name-preserved : goal.loop-name-preserved
loop-name-preserved c =
    let old : List NodeNo = c.loop-name.peers.items in
    let peer : NodeNo = c.in_ok-peer.peer in
    record {
      counted = omega (arith, c.in_ok-push.ensures.len);
      candidates = subst (λ (ps : List NodeNo). list_all (is_candidate (drawn c.args.graph) c.args.relay) ps ≡ true) (sym c.in_ok-push.ensures.items) (all_push (is_candidate (drawn c.args.graph) c.args.relay) old peer c.loop-name.invariant.candidates c.in_ok-peer.ensures.candidate);
      named = zip_more (Names c.args.graph.nodes.now) (λ (name : Bor (List ℕ)). name.now) c.deref-name-items.result.now c.loop-name.name-index _ old c.push.new.self.items peer c.loop-name-test.true c.loop-name.invariant.named c.in_ok-peer.ensures.named c.in_ok-push.ensures.items;
    }

pub returns-clause-named : goal.returns-clause-named
returns-clause-named c = record {
  names = map (λ (name : Bor (List ℕ)). name.now) c.deref-name-items.result.now;
  stand = c.in_ok-names.ensures.value ∙ ap (λ (seen : List (Bor (List ℕ))). Some (texts (map (λ (name : Bor (List ℕ)). name.now) seen))) (sym c.deref-name-items.ensures.value);
  in_order = zip_all (Names c.args.graph.nodes.now) (λ (name : Bor (List ℕ)). name.now) c.deref-name-items.result.now c.loop-name.name-index c.loop-name.peers.items c.loop-name-test.false c.loop-name.invariant.named;
}

pub returns-in_err-peer-clause-fault : goal.returns-in_err-peer-clause-fault
returns-in_err-peer-clause-fault c = λ few.
    let nodes = c.args.graph.nodes.now in
    let entry = table_view c.args.entry.table.now in
    let fault = c.in_err-peer.field-0.0 in
    let told = c.in_err-peer.ensures.fault few in
    let stand : value_at keys.Peers entry ≡ Some (texts (map (λ (name : Bor (List ℕ)). name.now) c.deref-name-items.result.now)) =
    c.in_ok-names.ensures.value ∙ ap (λ (seen : List (Bor (List ℕ))). Some (texts (map (λ (name : Bor (List ℕ)). name.now) seen))) (sym c.deref-name-items.ensures.value) in
    let among : IsUnknownAmong nodes (is_candidate (drawn c.args.graph) c.args.relay) keys.Peers entry =
    unknown_among nodes (is_candidate (drawn c.args.graph) c.args.relay) keys.Peers entry c.deref-name-items.result.now c.loop-name.name-index _ stand c.loop-name-test.true told.1 in
    handed_on (λ fault. IsFaultOf entry fault ⊎ ((fault ≡ UnknownName keys.Peers) × IsUnknownAmong nodes (is_candidate (drawn c.args.graph) c.args.relay) keys.Peers entry)) c.from_residual-in_err-peer.result fault c.from_residual-in_err-peer.ensures.1 (inr (told.0, among))
