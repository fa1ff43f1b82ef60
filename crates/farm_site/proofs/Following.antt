-- What a node, a link, a route or a tariff keeps to, so that it may stand behind those before it.
use Rattle.std.proofs.Common.{◌≡◌, ℕ, ◌≤◌, Bool, true, false, cond, not, ◌&&◌, ◌||◌, ◌==◌, suc, List, [], ◌∷◌, length, Some, None, refl, All, arith, add-one, ℤ, pos, negsuc}
use Rattle.std.specs.Prelude.{nat_le, is_some, unsigned_abs, FitsSigned}
use Rattle.std.specs.Int.{w32}
use Rattle.std.specs.List.{list_all, list_any}
use Rattle.cc_rating.specs.declared.tariff.Tariff.{Tariff}
use Rattle.cc_rating.specs.declared.tariffs.TariffFault.TheVariants.{Twice, OutOfRange}
use Rattle.cc_rating.specs.Tariffs.{fault_after, has_key, in_range, is_twice, rates, units_limit}
use Rattle.dia_base.specs.Folding.{same_folded}
use Rattle.dia_base.specs.Identity.{fault_of}
use Rattle.dia_base.proofs.Faults.{IsIdentity-no_fault}
use Rattle.farm_base.specs.declared.site.Link.{Link}
use Rattle.farm_base.specs.declared.site.Node.{Node}
use Rattle.farm_base.specs.declared.site.Route.{Route}
use Rattle.farm_base.specs.declared.site.Site.{Site}
use Rattle.farm_base.specs.Nodes.{is_client, is_front, is_node, is_relay}
use Rattle.farm_base.specs.CheckedSite.{is_candidate, is_known, is_sound_link, is_sound_name, is_sound_route, is_visible, is_within, joins_two_of, same_name, same_pair, same_route, size_of}
use Rattle.farm_site.specs.Growing.{MayFollow}
use Rattle.farm_site.proofs.Pushing.{and_both, and_right}
use Rattle.std.proofs.lemmas.Bool.{le-leb, leb-true}
use Rattle.std.proofs.lemmas.Int.{fits_signed_from_abs}

-- ---- nodes

visible_octet : (octet : ℕ) → (33 ≤ octet) × (octet ≤ 126) → is_visible octet ≡ true
visible_octet octet h = and_both (nat_le 33 octet) (nat_le octet 126) (le-leb 33 octet h.0) (le-leb octet 126 h.1)

visible_name : (octets : List ℕ) → All (λ octet. (33 ≤ octet) × (octet ≤ 126)) octets → list_all is_visible octets ≡ true
visible_name [] h = refl
visible_name (x ∷ xs) h = and_both (is_visible x) (list_all is_visible xs) (visible_octet x (h 0 0 (omega arith))) (visible_name xs (λ k d lt. h (suc k) d (omega arith)))

pub node_may_follow : (nodes : List Node) (node : Node) → fault_of node.name ≡ None → list_any (λ other. same_folded other.name node.name) nodes ≡ false → MayFollow is_sound_name same_name nodes node
node_may_follow nodes node e none =
    let named = IsIdentity-no_fault node.name e in
    let n : ℕ = length node.name in
    record {
      sound = and_both (is_within 1 255 n) (list_all is_visible node.name) (and_both (nat_le 1 n) (nat_le n 255) (le-leb 1 n named.least) (le-leb n 255 named.most)) (visible_name node.name named.visible);
      new = none;
    }

-- ---- links

five : (a b c d e : Bool) → a ≡ true → b ≡ true → (c && d && e) ≡ true → (a && b && c && d && e) ≡ true
five true true c d e p q r = r
five true false c d e p q r = absurd cc
five false b c d e p q r = absurd cc

pub link_may_follow : (site : Site) (links : List Link) (link : Link) → is_known site link.from ≡ true → is_known site link.to ≡ true → (not (is_node link.from link.to) && not (joins_two_of (is_client site) link) && not (joins_two_of (is_front site) link)) ≡ true → list_any (λ other. same_pair other link) links ≡ false → MayFollow (is_sound_link site) same_pair links link
link_may_follow site links link from to apart none = record {
  sound = five (is_known site link.from) (is_known site link.to) (not (is_node link.from link.to)) (not (joins_two_of (is_client site) link)) (not (joins_two_of (is_front site) link)) from to apart;
  new = none;
}

-- ---- routes

three : (a b c : Bool) → a ≡ true → b ≡ true → c ≡ true → (a && b && c) ≡ true
three true true c p q r = r
three true false c p q r = absurd cc
three false b c p q r = absurd cc

pub route_may_follow : (site : Site) (routes : List Route) (route : Route) → is_relay site route.at ≡ true → length route.peers ≤ 16 → list_all (is_candidate site route.at) route.peers ≡ true → list_any (λ other. is_node other.at route.at && same_folded other.realm route.realm && (other.app == route.app)) routes ≡ false → MayFollow (is_sound_route site) same_route routes route
route_may_follow site routes route relay few peers none = record {
  sound = three (is_relay site route.at) (nat_le (length route.peers) 16) (list_all (is_candidate site route.at) route.peers) relay (le-leb (length route.peers) 16 few) peers;
  new = none;
}

-- ---- tariffs

no_fault : (within twice : Bool) → within ≡ true → twice ≡ false → cond (not within) (Some OutOfRange) (cond twice (Some Twice) None) ≡ None
no_fault true true p q = absurd cc
no_fault true false p q = refl
no_fault false twice p q = absurd cc

neither : (a b : Bool) → a ≡ false → b ≡ false → (a || b) ≡ false
neither true b p q = absurd cc
neither false b p q = q

-- a tariff has no fault where its key is new and its numbers are within their ranges
pub tariff_may_follow : (before : List Tariff) (tariff : Tariff) → (is_some tariff.group || is_some tariff.ident) ≡ true → (is_some tariff.group && is_some tariff.ident) ≡ false → list_any (rates tariff.group tariff.ident) before ≡ false → is_within 1 4294967296 tariff.block ≡ true → is_within 0 1048576 tariff.price ≡ true → is_within 1 (units_limit tariff.kind) tariff.quantum ≡ true → is_within 1 (units_limit tariff.kind) tariff.greatest ≡ true → fault_after before tariff ≡ None
tariff_may_follow before tariff key one new block price quantum greatest =
    let most : ℕ = units_limit tariff.kind in
    let numbers : (is_within 1 most tariff.quantum && is_within 1 most tariff.greatest) ≡ true = and_both (is_within 1 most tariff.quantum) (is_within 1 most tariff.greatest) quantum greatest in
    let priced : nat_le tariff.price 1048576 ≡ true = and_right (nat_le 0 tariff.price) (nat_le tariff.price 1048576) price in
    let costs : (nat_le tariff.price 1048576 && (is_within 1 most tariff.quantum && is_within 1 most tariff.greatest)) ≡ true = and_both (nat_le tariff.price 1048576) (is_within 1 most tariff.quantum && is_within 1 most tariff.greatest) priced numbers in
    let blocks : (is_within 1 4294967296 tariff.block && (nat_le tariff.price 1048576 && (is_within 1 most tariff.quantum && is_within 1 most tariff.greatest))) ≡ true = and_both (is_within 1 4294967296 tariff.block) (nat_le tariff.price 1048576 && (is_within 1 most tariff.quantum && is_within 1 most tariff.greatest)) block costs in
    no_fault (in_range tariff) (is_twice before tariff) (and_both (has_key tariff) (is_within 1 4294967296 tariff.block && (nat_le tariff.price 1048576 && (is_within 1 most tariff.quantum && is_within 1 most tariff.greatest))) key blocks) (neither (is_some tariff.group && is_some tariff.ident) (list_any (rates tariff.group tariff.ident) before) one new)

-- ---- the size of an integer

pub size_is : (z : ℤ) → size_of z ≡ unsigned_abs z
size_is (pos n) = refl
size_is (negsuc n) = add-one n

pub sized : (z : ℤ) (most : ℕ) → unsigned_abs z ≤ most → nat_le (size_of z) most ≡ true
sized z most h = le-leb (size_of z) most (let e : size_of z ≡ unsigned_abs z = size_is z in omega arith)

-- a number of this size fits an `i32`
pub fits_small : (z : ℤ) → nat_le (size_of z) 9 ≡ true → FitsSigned w32 z
fits_small z h =
    let e : size_of z ≡ unsigned_abs z = size_is z in
    let small : size_of z ≤ 9 = leb-true (size_of z) 9 h in
    fits_signed_from_abs w32 z (omega arith)
