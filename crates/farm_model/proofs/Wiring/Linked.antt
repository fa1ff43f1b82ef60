-- Nodes that the site links: each is linked with the other, they are two, and at most one of them is a client.
use Rattle.std.proofs.Common.{◌≡◌, Bool, true, false, not, inl, inr, sym, subst, ap, ◌∙◌}
use Rattle.std.specs.Prelude.{◌&&◌}
use Rattle.std.proofs.lemmas.Bool.{and_parts, or_cases, not-true, or_left, or_right}
use Rattle.std.proofs.Math.Bool.{and_comm}
use Rattle.dia_base.specs.declared.number.NodeNo.{NodeNo}
use Rattle.dia_base.proofs.Finding.{found_passes}
use Rattle.farm_base.specs.declared.site.Link.{Link}
use Rattle.farm_base.specs.declared.site.Site.{Site}
use Rattle.farm_base.specs.CheckedSite.{is_known, is_sound_link, joins_two_of}
use Rattle.farm_model.specs.SoundSite.{IsSound}
use Rattle.farm_base.specs.Nodes.{is_node, is_client, is_front, joins, is_linked}
use Rattle.farm_model.proofs.Lists.Finding.{any_found, any_has, all_has, Has-found}
use Rattle.farm_model.proofs.Lists.Numbering.{same_node, nodes_turned}

-- ---- linked nodes are two of the site

-- the link of two nodes, in either direction
pub record LinkOf (site : Site) (a b : NodeNo) : Type 0 where
  pub link : Link
  pub sound : is_sound_link site link ≡ true
  pub joined : joins a b link ≡ true

link_of : {site : Site} → IsSound site → (a b : NodeNo) → is_linked site a b ≡ true → LinkOf site a b
link_of {site} checked a b e =
    let found = any_found (joins a b) site.links e in
    record {
      link = found.0;
      sound = all_has (is_sound_link site) checked.sound_links (Has-found (joins a b) site.links found.1);
      joined = found_passes
          (joins a b) site.links found.0 found.1;
    }

joins_turned : (a b : NodeNo) (link : Link) → joins a b link ≡ true → joins b a link ≡ true
joins_turned a b link e = elim (or_cases (is_node link.from a && is_node link.to b) (is_node link.from b && is_node link.to a) e) [
  | inl one ↦ or_right (is_node link.from b && is_node link.to a) (is_node link.from a && is_node link.to b) one
  | inr two ↦ or_left (is_node link.from b && is_node link.to a) (is_node link.from a && is_node link.to b) two
]

pub linked_turned : (site : Site) (a b : NodeNo) → is_linked site a b ≡ true → is_linked site b a ≡ true
linked_turned site a b e =
    let found = any_found (joins a b) site.links e in
    any_has (joins b a) (Has-found (joins a b) site.links found.1) (joins_turned a b found.0 (found_passes (joins a b) site.links found.0 found.1))

pub record AreTwoNodes (site : Site) (a b : NodeNo) : Type 0 where
  pub first_known : is_known site a ≡ true
  pub second_known : is_known site b ≡ true
  pub apart : is_node a b ≡ false
  pub one_client : (is_client site a && is_client site b) ≡ false

two_nodes_turned : {site : Site} {a b : NodeNo} → AreTwoNodes site a b → AreTwoNodes site b a
two_nodes_turned {site} {a} {b} two = record {
  first_known = two.second_known;
  second_known = two.first_known;
  apart = nodes_turned a b two.apart;
  one_client =
      and_comm (is_client site b) (is_client site a) ∙ two.one_client;
}

ends_are_two : (site : Site) (link : Link) → is_sound_link site link ≡ true → AreTwoNodes site link.from link.to
ends_are_two site link e =
    let clients = not (joins_two_of (is_client site) link) in
    let fronts = not (joins_two_of (is_front site) link) in
    let apart = not (is_node link.from link.to) in
    let without_fronts = and_parts (is_known site link.from && is_known site link.to && apart && clients) fronts e in
    let without_clients = and_parts (is_known site link.from && is_known site link.to && apart) clients without_fronts.0 in
    let parts = and_parts (is_known site link.from && is_known site link.to) apart without_clients.0 in
    let known = and_parts (is_known site link.from) (is_known site link.to) parts.0 in
    record {
      first_known = known.0;
      second_known = known.1;
      apart = not-true (is_node link.from link.to) parts.1;
      one_client = not-true
          (joins_two_of (is_client site) link) without_clients.1;
    }

joined_are_two : (site : Site) (a b : NodeNo) (link : Link) → (is_node link.from a && is_node link.to b) ≡ true → AreTwoNodes site link.from link.to →
    AreTwoNodes site a b
joined_are_two site a b link e two =
    let parts = and_parts (is_node link.from a) (is_node link.to b) e in
    let from_is : link.from ≡ a = same_node link.from a parts.0 in
    let to_is : link.to ≡ b = same_node link.to b parts.1 in
    subst (λ (n : NodeNo). AreTwoNodes site a n) to_is (subst (λ (n : NodeNo). AreTwoNodes site n link.to) from_is two)

pub linked_are_two : {site : Site} → IsSound site → (a b : NodeNo) → is_linked site a b ≡ true → AreTwoNodes site a b
linked_are_two {site} checked a b e =
    let between = link_of checked a b e in
    let two = ends_are_two site between.link between.sound in
    elim (or_cases (is_node between.link.from a && is_node between.link.to b) (is_node between.link.from b && is_node between.link.to a) between.joined) [
      | inl one ↦ joined_are_two site a b between.link one two
      | inr turned ↦ two_nodes_turned (joined_are_two site b a between.link turned two)
    ]

-- ---- at most one of them is a client

pub beside_client : (site : Site) → IsSound site → (a b : NodeNo) → is_linked site a b ≡ true → is_client site a ≡ true → is_client site b ≡ false
beside_client site checked a b linked is = ap (λ (c : Bool). c && is_client site b) (sym is) ∙ (linked_are_two checked a b linked).one_client

pub client_beside : (site : Site) → IsSound site → (a b : NodeNo) → is_linked site a b ≡ true → is_client site b ≡ true → is_client site a ≡ false
client_beside site checked a b linked is = beside_client site checked b a (linked_turned site a b linked) is
