-- Names of nodes that are written, and read again.
use Rattle.std.proofs.Common.{◌≡◌, ℕ, zero, suc, ◌^◌, ◌≤◌, Bool, true, false, not, ◌||◌, nat_le, List, [], ◌∷◌, length, slice_get, Some, Ok, refl, ap, ◌∙◌, inl, inr, arith}
use Rattle.std.specs.List.{list_all, list_any, position_or_len}
use Rattle.std.specs.Str.{bytes_eq}
use Rattle.std.proofs.lemmas.Bool.{lt-ltb, leb-true, eq-eqb}
use Rattle.std.proofs.lemmas.Option.{slice_get-map, slice_get_cases}
use Rattle.dia_base.specs.Folding.{folded_of}
use Rattle.dia_base.specs.declared.number.NodeNo.{NodeNo}
use Rattle.farm_base.specs.declared.site.Node.{Node}
use Rattle.farm_base.specs.declared.site.Site.{Site}
use Rattle.farm_base.specs.CheckedSite.{IsChecked, is_sound_name, is_visible, is_within, same_name}
use Rattle.farm_base.specs.Lists.{are_distinct}
use Rattle.farm_record.specs.Lines.{name_in}
use Rattle.farm_script.specs.Words.{node_of, is_named}
use Rattle.record_reader.specs.Telling.{IsKnown, names_of}
use Rattle.record_reader.proofs.SpacedWords.{IsWord, is_ink, and_first, and_second}

-- ---- the first item that is the same as one of distinct items is this one

pub not_true : (b : Bool) → not b ≡ true → b ≡ false
not_true true h = absurd cc
not_true false h = refl

neither : (a b : Bool) → (a || b) ≡ false → (a ≡ false) × (b ≡ false)
neither true b h = absurd cc
neither false b h = (refl, h)

other_than_any : {A : Type 0} (test : A → Bool) (items : List A) (n : ℕ) (item : A) → list_any test items ≡ false → slice_get items n ≡ Some item → test item ≡ false
other_than_any test [] n item none at = absurd cc
other_than_any test (first ∷ items) zero item none at =
    let is : first ≡ item = cc in
    rw is at (neither (test first) (list_any test items) none).0
other_than_any test (first ∷ items) (suc n) item none at = other_than_any test items n item (neither (test first) (list_any test items) none).1 at

place_of : {A : Type 0} (same : A → A → Bool) → ((a : A) → same a a ≡ true) → (items : List A) (n : ℕ) (item : A)
    → are_distinct same items ≡ true → slice_get items n ≡ Some item → position_or_len (λ other. same other item) items ≡ n
place_of same reflexive [] n item distinct at = absurd cc
place_of same reflexive (first ∷ items) zero item distinct at =
    let is : first ≡ item = cc in
    let found : same first item ≡ true = rw is (reflexive item) in
    rw found refl
place_of same reflexive (first ∷ items) (suc n) item distinct at =
    let alone = not_true (list_any (same first) items) (and_first (not (list_any (same first) items)) (are_distinct same items) distinct) in
    let other = other_than_any (same first) items n item alone at in
    let below = place_of same reflexive items n item (and_second (not (list_any (same first) items)) (are_distinct same items) distinct) at in
    rw (other, below) (omega arith)

sound_at : {A : Type 0} (test : A → Bool) (items : List A) (n : ℕ) (item : A) → list_all test items ≡ true → slice_get items n ≡ Some item → test item ≡ true
sound_at test [] n item all at = absurd cc
sound_at test (first ∷ items) zero item all at =
    let is : first ≡ item = cc in
    rw is at (and_first (test first) (list_all test items) all)
sound_at test (first ∷ items) (suc n) item all at = sound_at test items n item (and_second (test first) (list_all test items) all) at

-- ---- a node of a site

same_octets : (octets : List ℕ) → bytes_eq octets octets ≡ true
same_octets [] = refl
same_octets (octet ∷ octets) = rw (eq-eqb octet octet refl, same_octets octets) refl

visible_is_ink : (octets : List ℕ) → list_all is_visible octets ≡ true → list_all is_ink octets ≡ true
visible_is_ink [] all = refl
visible_is_ink (octet ∷ octets) all =
    let here = and_first (is_visible octet) (list_all is_visible octets) all in
    let least : 33 ≤ octet = leb-true 33 octet (and_first (nat_le 33 octet) (nat_le octet 126) here) in
    let ink : is_ink octet ≡ true = lt-ltb 32 octet (omega arith) in
    rw (ink, visible_is_ink octets (and_second (is_visible octet) (list_all is_visible octets) all)) refl

-- the node with this number
record Standing (site : Site) (node : NodeNo) : Type 0 where
  item : Node
  at : slice_get site.nodes node.0 ≡ Some item

standing : (site : Site) (node : NodeNo) → IsKnown site node → Standing site node
standing site node known = elim (slice_get_cases site.nodes node.0).1 [
  | inl is ↦ record { item = is.0; at = is.2 }
  | inr past ↦ absurd (let beyond = past.0 in omega arith)
]

name_is : (site : Site) (node : NodeNo) (item : Node) → slice_get site.nodes node.0 ≡ Some item → name_in (slice_get (names_of site) node.0) ≡ item.name
name_is site node item at = ap name_in (slice_get-map (λ (node : Node). node.name) site.nodes node.0) ∙ rw at refl

node_is : (site : Site) (node : NodeNo) (item : Node) → IsChecked site → IsKnown site node → slice_get site.nodes node.0 ≡ Some item → node_of site item.name ≡ Ok node
node_is site node item checked known at =
    let place : position_or_len (is_named item.name) site.nodes ≡ node.0 = place_of same_name (λ a. same_octets (folded_of a.name)) site.nodes node.0 item checked.names at in
    let within = lt-ltb node.0 (length site.nodes) known in
    let few : length site.nodes ≤ 64 = leb-true (length site.nodes) 64 checked.nodes in
    let small = lt-ltb node.0 (2 ^ 32) (omega arith) in
    rw (place, within, small) refl

pub node_of-name : (site : Site) (node : NodeNo) → IsChecked site → IsKnown site node → node_of site (name_in (slice_get (names_of site) node.0)) ≡ Ok node
node_of-name site node checked known =
    let there = standing site node known in
    rw (name_is site node there.item there.at) (node_is site node there.item checked known there.at)

pub IsWord-name : (site : Site) (node : NodeNo) → IsChecked site → IsKnown site node → IsWord (name_in (slice_get (names_of site) node.0))
IsWord-name site node checked known =
    let there = standing site node known in
    let sound = sound_at is_sound_name site.nodes node.0 there.item checked.sound_names there.at in
    let size = and_first (is_within 1 255 (length there.item.name)) (list_all is_visible there.item.name) sound in
    let least : 1 ≤ length there.item.name = leb-true 1 (length there.item.name) (and_first (nat_le 1 (length there.item.name)) (nat_le (length there.item.name) 255) size) in
    rw (name_is site node there.item there.at) (record {
      some = omega arith;
      ink = visible_is_ink there.item.name (and_second (is_within 1 255 (length there.item.name)) (list_all is_visible there.item.name) sound);
    })
