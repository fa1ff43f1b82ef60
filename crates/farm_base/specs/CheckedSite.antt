-- What a site keeps to, so that the farm can be run over it.
use Rattle.std.specs.Prelude.{◌≡◌, ℕ, ◌+◌, Bool, true, false, not, ◌&&◌, ◌||◌, ◌==◌, List, [], ◌∷◌, length, None, nat_le, ℤ, pos, negsuc}
use Rattle.std.specs.List.{list_all}
use Rattle.cc_book.specs.declared.account.Account.{Account}
use Rattle.cc_rating.specs.Tariffs.{fault_of}
use Rattle.dia_base.specs.Folding.{same_folded}
use Rattle.dia_base.specs.declared.number.NodeNo.{NodeNo}
use Rattle.dia_grammar.specs.declared.profile.Tolerance.{Tolerance}
use Rattle.dia_grammar.specs.declared.profile.Tolerance.TheVariants.{OriginTwice, ApplicationInGroup}
use Rattle.farm_base.specs.declared.site.Link.{Link}
use Rattle.farm_base.specs.declared.site.Node.{Node}
use Rattle.farm_base.specs.declared.site.Route.{Route}
use Rattle.farm_base.specs.declared.site.Site.{Site}
use Rattle.farm_base.specs.Nodes.{is_node, is_client, is_front, is_relay, is_linked, joins}
use Rattle.farm_base.specs.Lists.{are_distinct}

abbrev pub is_within : ℕ → ℕ → ℕ → Bool
is_within least most n = nat_le least n && nat_le n most

-- ---- what fronts know and tolerate, and what is advertised: each once

abbrev pub same_number : ℕ → ℕ → Bool
same_number a b = a == b

-- the codes behind the last that the dictionary has, 461
abbrev pub is_free_code : ℕ → Bool
is_free_code code = is_within 462 4294967295 code

abbrev pub same_tolerance : Tolerance → Tolerance → Bool
same_tolerance OriginTwice OriginTwice = true
same_tolerance OriginTwice ApplicationInGroup = false
same_tolerance ApplicationInGroup OriginTwice = false
same_tolerance ApplicationInGroup ApplicationInGroup = true

-- ---- nodes: distinct names, without ASCII case (RFC 6733, section 4.3.1)

abbrev pub same_name : Node → Node → Bool
same_name a b = same_folded a.name b.name

-- an identity has 1 to 255 visible octets
abbrev pub is_visible : ℕ → Bool
is_visible octet = is_within 33 126 octet

abbrev pub is_sound_name : Node → Bool
is_sound_name node = is_within 1 255 (length node.name) && list_all is_visible node.name

-- ---- links: between two nodes of the site, each pair once in either direction; no two clients, no two fronts

abbrev pub joins_two_of : (NodeNo → Bool) → Link → Bool
joins_two_of test link = test link.from && test link.to

abbrev pub is_known : Site → NodeNo → Bool
is_known site node = nat_le (node.0 + 1) (length site.nodes)

abbrev pub is_sound_link : Site → Link → Bool
is_sound_link site link =
    is_known site link.from && is_known site link.to && not (is_node link.from link.to)
    && not (joins_two_of (is_client site) link) && not (joins_two_of (is_front site) link)

abbrev pub same_pair : Link → Link → Bool
same_pair a b = joins a.from a.to b

-- ---- routes: at a relay, to relays or fronts that are linked with it; one for each realm and application

abbrev pub is_candidate : Site → NodeNo → NodeNo → Bool
is_candidate site relay peer = is_linked site relay peer && (is_relay site peer || is_front site peer)

abbrev pub is_sound_route : Site → Route → Bool
is_sound_route site route = is_relay site route.at && nat_le (length route.peers) 16 && list_all (is_candidate site route.at) route.peers

abbrev pub same_route : Route → Route → Bool
same_route a b = is_node a.at b.at && same_folded a.realm b.realm && (a.app == b.app)

-- ---- accounts: distinct Subscription-Ids of 1 to 64 visible octets (RFC 8506, section 8.46)

abbrev pub size_of : ℤ → ℕ
size_of (pos n) = n
size_of (negsuc n) = n + 1

abbrev pub is_sound_account : Account → Bool
is_sound_account account =
    nat_le account.id_kind 4 && is_within 1 64 (length account.id) && list_all is_visible account.id
    && nat_le (size_of account.opening) 4611686018427387904

abbrev pub same_octets : List ℕ → List ℕ → Bool
same_octets [] [] = true
same_octets [] (y ∷ ys) = false
same_octets (x ∷ xs) [] = false
same_octets (x ∷ xs) (y ∷ ys) = (x == y) && same_octets xs ys

abbrev pub same_account : Account → Account → Bool
same_account a b = (a.id_kind == b.id_kind) && same_octets a.id b.id

-- ---- the whole: every number in its range, and what is said above of each part

pub record IsChecked (site : Site) : Type 0 where
  pub validity : is_within 1 86400 site.validity ≡ true
  pub limit : is_within 1 1048576 site.limit ≡ true
  pub workers : is_within 1 16 site.workers ≡ true
  pub queue : is_within 1 1024 site.queue ≡ true
  pub known_count : nat_le (length site.known) 256 ≡ true
  pub free_codes : list_all is_free_code site.known ≡ true
  pub known : are_distinct same_number site.known ≡ true
  pub tolerate : are_distinct same_tolerance site.tolerate ≡ true
  pub advertise_count : nat_le (length site.advertise) 16 ≡ true
  pub advertise : are_distinct same_number site.advertise ≡ true
  pub currency : nat_le site.currency 999 ≡ true
  pub exponent : nat_le (size_of site.exponent) 9 ≡ true
  pub watchdog : is_within 100 600000 site.watchdog ≡ true
  pub nodes : nat_le (length site.nodes) 64 ≡ true
  pub sound_names : list_all is_sound_name site.nodes ≡ true
  pub names : are_distinct same_name site.nodes ≡ true
  pub links : nat_le (length site.links) 256 ≡ true
  pub sound_links : list_all (is_sound_link site) site.links ≡ true
  pub pairs : are_distinct same_pair site.links ≡ true
  pub routes : nat_le (length site.routes) 256 ≡ true
  pub sound_routes : list_all (is_sound_route site) site.routes ≡ true
  pub destinations : are_distinct same_route site.routes ≡ true
  pub tariff_count : nat_le (length site.tariffs) 1024 ≡ true
  pub tariffs : fault_of site.tariffs ≡ None
  pub account_count : nat_le (length site.accounts) 65536 ≡ true
  pub sound_accounts : list_all is_sound_account site.accounts ≡ true
  pub identifiers : are_distinct same_account site.accounts ≡ true
