-- What the entries of a checked site spell has no fault.
use Rattle.std.proofs.Common.{◌≡◌, ℕ, zero, suc, ◌≤◌, Bool, true, false, not, ◌&&◌, ◌||◌, ◌==◌, List, [], ◌∷◌, length, All, Option, Some, None, refl, sym, subst, ap, ◌∙◌, inl, inr, ◌⊎◌, arith}
use Rattle.std.specs.Prelude.{IfSome, IsSome, is_some, nat_le, option_map}
use Rattle.std.proofs.Common.{cond}
use Rattle.std.proofs.lemmas.Option.{same_Some}
use Rattle.std.proofs.lemmas.Slice.Zip.{AllZip-long}
use Rattle.std.specs.List.{AllZip, Contains, list_all, list_any}
use Rattle.std.proofs.lemmas.Bool.{leb-true, le-leb}
use Rattle.toml.specs.Data.{Data, Members, integer, string}
use Rattle.cc_book.specs.declared.account.Account.{Account}
use Rattle.cc_rating.specs.Tariffs.{fault_after, has_key, in_range, is_twice, rates, units_limit}
use Rattle.cc_rating.specs.declared.tariff.Tariff.{Tariff}
use Rattle.cc_rating.specs.declared.tariff.UnitKind.{UnitKind}
use Rattle.cc_rating.specs.declared.tariffs.TariffFault.TheVariants as ratings
use Rattle.dia_base.specs.Folding.{same_folded}
use Rattle.dia_base.specs.Identity.{fault_of}
use Rattle.dia_base.specs.declared.number.NodeNo.{NodeNo}
use Rattle.dia_base.proofs.Faults.{fault_of-identity}
use Rattle.farm_base.specs.CheckedSite.{is_candidate, is_known, is_sound_account, is_sound_link, is_sound_name, is_sound_route, is_visible, is_within, joins_two_of, same_account, same_name, same_octets, same_pair, same_route, size_of}
use Rattle.farm_base.specs.Nodes.{is_client, is_front, is_node, is_relay}
use Rattle.farm_base.specs.declared.site.Link.{Link}
use Rattle.farm_base.specs.declared.site.Node.{Node}
use Rattle.farm_base.specs.declared.site.Route.{Route}
use Rattle.farm_base.specs.declared.site.Site.{Site}
use Rattle.farm_site.specs.Faults.{IsAccountFault, IsLinkFault, IsNoGrant, IsNodeFault, IsRouteFault, IsTariffFault, IsUnknownAt, NamesNone, is_bad_link}
use Rattle.farm_site.specs.Forms.{is_key, is_number, need_of_account, need_of_link, need_of_node, need_of_route, need_of_tariff, required}
use Rattle.farm_site.specs.Graph.{site_over}
use Rattle.farm_site.specs.Spelling.{Names, NamesAt, SpellsAccount, SpellsLink, SpellsNode, SpellsRoute, SpellsTariff, WritesAddress, has_32_bits, is_named, is_typed_route, is_typed_tariff, may_have_32_bits, node_word, number, texts, unit_word, value_at}
use Rattle.farm_site.specs.declared.fault.SiteFault.{SiteFault}
use Rattle.farm_site.specs.declared.fault.SiteFault.TheVariants.{Missing, OutOfRange, Twice, UnknownName, BadLink, OutOfMemory}
use Rattle.farm_site.specs.declared.key.Key.{Key}
use Rattle.farm_site.specs.declared.key.Key.TheVariants as keys
use Rattle.farm_site.proofs.OneSite.{named_at, number_at, one_link, string_same, text_at, texts_same, unit_word_same}
use Rattle.farm_site.proofs.Pushing.{and_both, and_left, and_right, or_right}
use Rattle.farm_site.proofs.Fitting.{account_id_fits, at_known, FitsAt, identity_fits, is_there, known_fits, no_fault_of, number_fits, optional_fits, sized_fits, text_fits, texts_fit, units_fit, word_fits}

-- ---- nodes

visible_octet : (octet : ℕ) → is_visible octet ≡ true → (33 ≤ octet) × (octet ≤ 126)
visible_octet octet visible = (leb-true 33 octet (and_left (nat_le 33 octet) (nat_le octet 126) visible), leb-true octet 126 (and_right (nat_le 33 octet) (nat_le octet 126) visible))

visible_all : (octets : List ℕ) → list_all is_visible octets ≡ true → All (λ octet. (33 ≤ octet) × (octet ≤ 126)) octets
visible_all [] all k d lt = absurd (omega arith)
visible_all (x ∷ xs) all zero d lt = visible_octet x (and_left (is_visible x) (list_all is_visible xs) all)
visible_all (x ∷ xs) all (suc k) d lt = visible_all xs (and_right (is_visible x) (list_all is_visible xs) all) k d (omega arith)

sound_identity : (node : Node) → is_sound_name node ≡ true → fault_of node.name ≡ None
sound_identity node sound =
    let n : ℕ = length node.name in
    let within : is_within 1 255 n ≡ true = and_left (is_within 1 255 n) (list_all is_visible node.name) sound in
    fault_of-identity node.name (record {
      least = leb-true 1 n (and_left (nat_le 1 n) (nat_le n 255) within);
      most = leb-true n 255 (and_right (nat_le 1 n) (nat_le n 255) within);
      visible = visible_all node.name (and_right (is_within 1 255 n) (list_all is_visible node.name) sound);
    })

node_key : (entry : Members) (node : Node) → SpellsNode entry node → is_sound_name node ≡ true → (key : Key) → is_key (need_of_node key) ≡ true → FitsAt key entry
node_key entry node spelled sound keys.Name has = known_fits keys.Name entry (string node.name) spelled.name (identity_fits keys.Name node.name refl (sound_identity node sound))
node_key entry node spelled sound keys.Kind has = known_fits keys.Kind entry (string (node_word node.kind)) spelled.kind (word_fits keys.Kind (node_word node.kind) refl)
node_key entry node spelled sound keys.Address has = optional_fits string keys.Address entry node.address spelled.address (λ text is. word_fits keys.Address text refl)
node_key entry node spelled sound key has = absurd cc

node_stands : (entry : Members) (node : Node) → SpellsNode entry node → (key : Key) → need_of_node key ≡ required → IsSome (value_at key entry)
node_stands entry node spelled keys.Name needed = is_there (value_at keys.Name entry) (string node.name) spelled.name
node_stands entry node spelled keys.Kind needed = is_there (value_at keys.Kind entry) (string (node_word node.kind)) spelled.kind
node_stands entry node spelled key needed = absurd cc

no_address : (address : Option (List ℕ)) (found : Option Data) (word : List ℕ) → found ≡ option_map string address → found ≡ Some (string word) → IfSome address WritesAddress → WritesAddress word
no_address None found word is at written = absurd cc
no_address (Some text) found word is at written =
    let same : text ≡ word = string_same text word (let both : Some (string text) ≡ Some (string word) = sym is ∙ at in cc) in
    subst WritesAddress same written

pub no_node_fault : (before : List Node) (entry : Members) (node : Node) (fault : SiteFault) → SpellsNode entry node → is_sound_name node ≡ true → list_any (λ other. same_name other node) before ≡ false → IsNodeFault before entry fault → fault ≡ OutOfMemory
no_node_fault before entry node (Twice keys.Name) spelled sound new told =
    let same : told.name ≡ node.name = text_at (value_at keys.Name entry) told.name node.name told.stands spelled.name in
    let there : list_any (is_named node.name) before ≡ true = subst (λ (name : List ℕ). list_any (is_named name) before ≡ true) same told.there in
    absurd (let none : list_any (is_named node.name) before ≡ false = new in cc)
no_node_fault before entry node (OutOfRange keys.Kind) spelled sound new told = absurd (told.none node.kind (text_at (value_at keys.Kind entry) told.word (node_word node.kind) told.stands spelled.kind))
no_node_fault before entry node (OutOfRange keys.Address) spelled sound new told =
    let writes : WritesAddress told.word = no_address node.address (value_at keys.Address entry) told.word spelled.address told.stands spelled.written in
    absurd (told.none writes.0 writes.1)
no_node_fault before entry node fault spelled sound new told = no_fault_of need_of_node entry fault (record { fit = node_key entry node spelled sound; stands = node_stands entry node spelled }) told.0 told.1

-- ---- links

-- who may stand at a key, and stands there, is known
no_unknown_at : (nodes : List Node) (may_stand : NodeNo → Bool) (key : Key) (entry : Members) (node : NodeNo) → NamesAt nodes key entry node → may_stand node ≡ true → IsUnknownAt nodes may_stand key entry → ⊥
no_unknown_at nodes may_stand key entry node named may told =
    let same : named.name ≡ told.name = text_at (value_at key entry) named.name told.name named.stands told.stands in
    let wrong : may_stand node ≡ false = told.none node (subst (λ (name : List ℕ). Names nodes name node) same named.means) in
    cc

link_key : (nodes : List Node) (entry : Members) (link : Link) → SpellsLink nodes entry link → (key : Key) → is_key (need_of_link key) ≡ true → FitsAt key entry
link_key nodes entry link spelled keys.From has = known_fits keys.From entry (string spelled.from.name) spelled.from.stands (text_fits keys.From spelled.from.name refl)
link_key nodes entry link spelled keys.To has = known_fits keys.To entry (string spelled.to.name) spelled.to.stands (text_fits keys.To spelled.to.name refl)
link_key nodes entry link spelled key has = absurd cc

link_stands : (nodes : List Node) (entry : Members) (link : Link) → SpellsLink nodes entry link → (key : Key) → need_of_link key ≡ required → IsSome (value_at key entry)
link_stands nodes entry link spelled keys.From needed = is_there (value_at keys.From entry) (string spelled.from.name) spelled.from.stands
link_stands nodes entry link spelled keys.To needed = is_there (value_at keys.To entry) (string spelled.to.name) spelled.to.stands
link_stands nodes entry link spelled key needed = absurd cc

known_ends : (k l a b c : Bool) → (k && l && a && b && c) ≡ true → (k ≡ true) × (l ≡ true)
known_ends true true a b c e = (refl, refl)
known_ends true false a b c e = absurd cc
known_ends false l a b c e = absurd cc

not_bad : (from to itself clients fronts there : Bool) → (from && to && not itself && not clients && not fronts) ≡ true → there ≡ false → (itself || clients || fronts || there) ≡ true → ⊥
not_bad false to itself clients fronts there sound new bad = cc
not_bad true false itself clients fronts there sound new bad = cc
not_bad true true true clients fronts there sound new bad = cc
not_bad true true false true fronts there sound new bad = cc
not_bad true true false false true there sound new bad = cc
not_bad true true false false false there sound new bad = cc

pub no_link_fault : (site : Site) (before : List Link) (entry : Members) (link : Link) (fault : SiteFault) → SpellsLink site.nodes entry link → is_sound_link site link ≡ true → list_any (λ other. same_pair other link) before ≡ false → IsLinkFault site.nodes before entry fault → fault ≡ OutOfMemory
no_link_fault site before entry link (UnknownName keys.From) spelled sound new told =
    absurd (no_unknown_at site.nodes (is_known (site_over site.nodes [])) keys.From entry link.from spelled.from (known_ends (is_known site link.from) (is_known site link.to) (not (is_node link.from link.to)) (not (joins_two_of (is_client site) link)) (not (joins_two_of (is_front site) link)) sound).0 told)
no_link_fault site before entry link (UnknownName keys.To) spelled sound new told =
    absurd (no_unknown_at site.nodes (is_known (site_over site.nodes [])) keys.To entry link.to spelled.to (known_ends (is_known site link.from) (is_known site link.to) (not (is_node link.from link.to)) (not (joins_two_of (is_client site) link)) (not (joins_two_of (is_front site) link)) sound).1 told)
no_link_fault site before entry link (UnknownName key) spelled sound new told = absurd told
no_link_fault site before entry link BadLink spelled sound new told =
    let same : told.link ≡ link = one_link site.nodes entry told.link link told.spelled spelled in
    let bad : is_bad_link site.nodes before link ≡ true = subst (λ (l : Link). is_bad_link site.nodes before l ≡ true) same told.bad in
    absurd (not_bad (is_known site link.from) (is_known site link.to) (is_node link.from link.to) (joins_two_of (is_client site) link) (joins_two_of (is_front site) link) (list_any (λ other. same_pair other link) before) sound new bad)
no_link_fault site before entry link fault spelled sound new told = no_fault_of need_of_link entry fault (record { fit = link_key site.nodes entry link spelled; stands = link_stands site.nodes entry link spelled }) told.0 told.1

-- ---- routes

no_more : {A : Type 0} (o : Option A) → not (is_some o) ≡ true → o ≡ None
no_more None e = refl
no_more (Some x) e = absurd cc

record RouteRanges (site : Site) (route : Route) : Type 0 where
  relay : is_relay site route.at ≡ true
  few : length route.peers ≤ 16
  peers : list_all (is_candidate site route.at) route.peers ≡ true

three_parts : (a b c : Bool) → (a && b && c) ≡ true → (a ≡ true) × (b ≡ true) × (c ≡ true)
three_parts true true true e = (refl, refl, refl)
three_parts true true false e = absurd cc
three_parts true false c e = absurd cc
three_parts false b c e = absurd cc

route_ranges : (site : Site) (route : Route) → is_sound_route site route ≡ true → RouteRanges site route
route_ranges site route sound =
    let parts = three_parts (is_relay site route.at) (nat_le (length route.peers) 16) (list_all (is_candidate site route.at) route.peers) sound in
    record { relay = parts.0; few = leb-true (length route.peers) 16 parts.1; peers = parts.2 }

-- one of the peers has each of the names
some_peer : (nodes : List Node) (may_stand : NodeNo → Bool) (names : List (List ℕ)) (peers : List NodeNo) → AllZip (Names nodes) names peers → list_all may_stand peers ≡ true → (name : List ℕ) → Contains names name → NamesNone nodes may_stand name → ⊥
some_peer nodes may_stand [] peers zip may name (k, lt, is) none = absurd (omega arith)
some_peer nodes may_stand (n ∷ names) [] zip may name among none = absurd zip
some_peer nodes may_stand (n ∷ names) (peer ∷ peers) zip may name (zero, lt, is) none =
    let wrong : may_stand peer ≡ false = none peer (subst (λ (text : List ℕ). Names nodes text peer) is zip.0) in
    let right : may_stand peer ≡ true = and_left (may_stand peer) (list_all may_stand peers) may in
    cc
some_peer nodes may_stand (n ∷ names) (peer ∷ peers) zip may name (suc k, lt, is) none =
    some_peer nodes may_stand names peers zip.1 (and_right (may_stand peer) (list_all may_stand peers) may) name (k, omega arith, is) none

route_key : (nodes : List Node) (entry : Members) (route : Route) → SpellsRoute nodes entry route → length route.peers ≤ 16 → is_typed_route route ≡ true → (key : Key) → is_key (need_of_route key) ≡ true → FitsAt key entry
route_key nodes entry route spelled few typed keys.At has = known_fits keys.At entry (string spelled.at.name) spelled.at.stands (text_fits keys.At spelled.at.name refl)
route_key nodes entry route spelled few typed keys.Realm has = known_fits keys.Realm entry (string route.realm) spelled.realm (identity_fits keys.Realm route.realm refl (no_more (fault_of route.realm) (and_left (not (is_some (fault_of route.realm))) (has_32_bits route.app) typed)))
route_key nodes entry route spelled few typed keys.App has = known_fits keys.App entry (number route.app) spelled.app (number_fits keys.App 0 4294967295 route.app refl (and_right (not (is_some (fault_of route.realm))) (has_32_bits route.app) typed))
route_key nodes entry route spelled few typed keys.Peers has =
    let len : length route.peers ≡ length spelled.peers.names = AllZip-long (Names nodes) spelled.peers.names route.peers spelled.peers.in_order in
    known_fits keys.Peers entry (texts spelled.peers.names) spelled.peers.stand (texts_fit keys.Peers 16 spelled.peers.names refl (omega arith))
route_key nodes entry route spelled few typed key has = absurd cc

route_stands : (nodes : List Node) (entry : Members) (route : Route) → SpellsRoute nodes entry route → (key : Key) → need_of_route key ≡ required → IsSome (value_at key entry)
route_stands nodes entry route spelled keys.At needed = is_there (value_at keys.At entry) (string spelled.at.name) spelled.at.stands
route_stands nodes entry route spelled keys.Realm needed = is_there (value_at keys.Realm entry) (string route.realm) spelled.realm
route_stands nodes entry route spelled keys.App needed = is_there (value_at keys.App entry) (number route.app) spelled.app
route_stands nodes entry route spelled keys.Peers needed = is_there (value_at keys.Peers entry) (texts spelled.peers.names) spelled.peers.stand
route_stands nodes entry route spelled key needed = absurd cc

pub no_route_fault : (site : Site) (before : List Route) (entry : Members) (route : Route) (fault : SiteFault) → SpellsRoute site.nodes entry route → is_sound_route site route ≡ true → is_typed_route route ≡ true → list_any (λ other. same_route other route) before ≡ false → IsRouteFault site.nodes site.links before entry fault → fault ≡ OutOfMemory
no_route_fault site before entry route (UnknownName keys.At) spelled sound typed new told =
    absurd (no_unknown_at site.nodes (is_relay (site_over site.nodes site.links)) keys.At entry route.at spelled.at (route_ranges site route sound).relay told)
no_route_fault site before entry route (UnknownName keys.Peers) spelled sound typed new (relay, named, among) =
    let same : relay ≡ route.at = named_at site.nodes keys.At entry relay route.at named spelled.at in
    let names : spelled.peers.names ≡ among.names = texts_same spelled.peers.names among.names (same_Some (texts spelled.peers.names) (texts among.names) (sym spelled.peers.stand ∙ among.stand)) in
    let there : Contains spelled.peers.names among.name = subst (λ (ns : List (List ℕ)). Contains ns among.name) (sym names) among.among in
    absurd (some_peer site.nodes (is_candidate (site_over site.nodes site.links) route.at) spelled.peers.names route.peers spelled.peers.in_order (route_ranges site route sound).peers among.name there (subst (λ (at : NodeNo). NamesNone site.nodes (is_candidate (site_over site.nodes site.links) at) among.name) same among.none))
no_route_fault site before entry route (UnknownName key) spelled sound typed new told = absurd told
no_route_fault site before entry route (Twice keys.Route) spelled sound typed new told =
    let at : told.relay ≡ route.at = named_at site.nodes keys.At entry told.relay route.at told.at spelled.at in
    let realm : told.realm ≡ route.realm = text_at (value_at keys.Realm entry) told.realm route.realm told.of_realm spelled.realm in
    let app : told.app ≡ route.app = number_at (value_at keys.App entry) told.app route.app told.of_app spelled.app in
    let there : list_any (λ other. is_node other.at route.at && same_folded other.realm route.realm && (other.app == route.app)) before ≡ true =
    subst (λ (a : ℕ). list_any (λ (other : Route). is_node other.at route.at && same_folded other.realm route.realm && (other.app == a)) before ≡ true) app
    (subst (λ (r : List ℕ). list_any (λ (other : Route). is_node other.at route.at && same_folded other.realm r && (other.app == told.app)) before ≡ true) realm
    (subst (λ (n : NodeNo). list_any (λ (other : Route). is_node other.at n && same_folded other.realm told.realm && (other.app == told.app)) before ≡ true) at told.there)) in
    absurd (let none : list_any (λ other. is_node other.at route.at && same_folded other.realm route.realm && (other.app == route.app)) before ≡ false = new in cc)
no_route_fault site before entry route fault spelled sound typed new told =
    no_fault_of need_of_route entry fault (record { fit = route_key site.nodes entry route spelled (route_ranges site route sound).few typed; stands = route_stands site.nodes entry route spelled }) told.0 told.1

-- ---- tariffs

-- a tariff that may follow these has its numbers in their ranges, and what it rates is new
may_follow : (within twice : Bool) → cond (not within) (Some ratings.OutOfRange) (cond twice (Some ratings.Twice) None) ≡ None → (within ≡ true) × (twice ≡ false)
may_follow true true e = absurd cc
may_follow true false e = (refl, refl)
may_follow false twice e = absurd cc

record TariffRanges (tariff : Tariff) : Type 0 where
  key : has_key tariff ≡ true
  block : is_within 1 4294967296 tariff.block ≡ true
  price : nat_le tariff.price 1048576 ≡ true
  quantum : is_within 1 (units_limit tariff.kind) tariff.quantum ≡ true
  greatest : is_within 1 (units_limit tariff.kind) tariff.greatest ≡ true

five_parts : (a b c d e : Bool) → (a && (b && (c && (d && e)))) ≡ true → (a ≡ true) × (b ≡ true) × (c ≡ true) × (d ≡ true) × (e ≡ true)
five_parts true true true true true h = (refl, refl, refl, refl, refl)
five_parts true true true true false h = absurd cc
five_parts true true true false e h = absurd cc
five_parts true true false d e h = absurd cc
five_parts true false c d e h = absurd cc
five_parts false b c d e h = absurd cc

tariff_ranges : (tariff : Tariff) → in_range tariff ≡ true → TariffRanges tariff
tariff_ranges tariff within =
    let most : ℕ = units_limit tariff.kind in
    let parts = five_parts (has_key tariff) (is_within 1 4294967296 tariff.block) (nat_le tariff.price 1048576) (is_within 1 most tariff.quantum) (is_within 1 most tariff.greatest) within in
    record { key = parts.0; block = parts.1; price = parts.2; quantum = parts.3; greatest = parts.4 }

small_option : (o : Option ℕ) (n : ℕ) → may_have_32_bits o ≡ true → o ≡ Some n → is_within 0 4294967295 n ≡ true
small_option o n small is = subst (λ (x : Option ℕ). may_have_32_bits x ≡ true) is small

tariff_key : (entry : Members) (tariff : Tariff) → SpellsTariff entry tariff → TariffRanges tariff → is_typed_tariff tariff ≡ true → (key : Key) → is_key (need_of_tariff key) ≡ true → FitsAt key entry
tariff_key entry tariff spelled ranges typed keys.Group has = optional_fits number keys.Group entry tariff.group spelled.group (λ n is. number_fits keys.Group 0 4294967295 n refl (small_option tariff.group n (and_left (may_have_32_bits tariff.group) (may_have_32_bits tariff.ident) typed) is))
tariff_key entry tariff spelled ranges typed keys.Ident has = optional_fits number keys.Ident entry tariff.ident spelled.ident (λ n is. number_fits keys.Ident 0 4294967295 n refl (small_option tariff.ident n (and_right (may_have_32_bits tariff.group) (may_have_32_bits tariff.ident) typed) is))
tariff_key entry tariff spelled ranges typed keys.Kind has = known_fits keys.Kind entry (string (unit_word tariff.kind)) spelled.kind (word_fits keys.Kind (unit_word tariff.kind) refl)
tariff_key entry tariff spelled ranges typed keys.Block has = known_fits keys.Block entry (number tariff.block) spelled.block (number_fits keys.Block 1 4294967296 tariff.block refl ranges.block)
tariff_key entry tariff spelled ranges typed keys.Price has = known_fits keys.Price entry (number tariff.price) spelled.price (number_fits keys.Price 0 1048576 tariff.price refl (and_both (nat_le 0 tariff.price) (nat_le tariff.price 1048576) (le-leb 0 tariff.price (omega arith)) ranges.price))
tariff_key entry tariff spelled ranges typed keys.Quantum has = known_fits keys.Quantum entry (number tariff.quantum) spelled.quantum (units_fit keys.Quantum tariff.quantum refl)
tariff_key entry tariff spelled ranges typed keys.Greatest has = known_fits keys.Greatest entry (number tariff.greatest) spelled.greatest (units_fit keys.Greatest tariff.greatest refl)
tariff_key entry tariff spelled ranges typed key has = absurd cc

tariff_stands : (entry : Members) (tariff : Tariff) → SpellsTariff entry tariff → (key : Key) → need_of_tariff key ≡ required → IsSome (value_at key entry)
tariff_stands entry tariff spelled keys.Kind needed = is_there (value_at keys.Kind entry) (string (unit_word tariff.kind)) spelled.kind
tariff_stands entry tariff spelled keys.Block needed = is_there (value_at keys.Block entry) (number tariff.block) spelled.block
tariff_stands entry tariff spelled keys.Price needed = is_there (value_at keys.Price entry) (number tariff.price) spelled.price
tariff_stands entry tariff spelled keys.Quantum needed = is_there (value_at keys.Quantum entry) (number tariff.quantum) spelled.quantum
tariff_stands entry tariff spelled keys.Greatest needed = is_there (value_at keys.Greatest entry) (number tariff.greatest) spelled.greatest
tariff_stands entry tariff spelled key needed = absurd cc

-- a quantum or a grant that stands there is one of its kind
no_grant : (key : Key) (entry : Members) (tariff : Tariff) (n : ℕ) → SpellsTariff entry tariff → value_at key entry ≡ Some (number n) → is_within 1 (units_limit tariff.kind) n ≡ true → IsNoGrant key entry → ⊥
no_grant key entry tariff n spelled stands within told =
    let kind : told.kind ≡ tariff.kind = unit_word_same told.kind tariff.kind (text_at (value_at keys.Kind entry) (unit_word told.kind) (unit_word tariff.kind) told.of_kind spelled.kind) in
    let outside : is_within 1 (units_limit told.kind) n ≡ false = at_known key entry (number n) (λ value. is_number 1 (units_limit told.kind) value ≡ false) stands told.outside in
    let wrong : is_within 1 (units_limit tariff.kind) n ≡ false = subst (λ (k : UnitKind). is_within 1 (units_limit k) n ≡ false) kind outside in
    cc

optional_is : (found : Option Data) (o : Option ℕ) (n : ℕ) → found ≡ option_map number o → found ≡ Some (number n) → o ≡ Some n
optional_is found None n is at = absurd cc
optional_is found (Some m) n is at = ap (λ (k : ℕ). Some k) (number_at found m n is at)

optional_none : (found : Option Data) (o : Option ℕ) → found ≡ option_map number o → found ≡ None → is_some o ≡ false
optional_none found None is at = refl
optional_none found (Some m) is at = absurd cc

optional_some : (found : Option Data) (o : Option ℕ) → found ≡ option_map number o → IsSome found → is_some o ≡ true
optional_some found None is some = absurd (let none : IsSome {T = Data} None = subst (λ (f : Option Data). IsSome f) is some in cc)
optional_some found (Some m) is some = refl

no_twice_group : (before : List Tariff) (group ident : Option ℕ) (n : ℕ) → group ≡ Some n → ((is_some group && is_some ident) || list_any (rates group ident) before) ≡ false → list_any (rates (Some n) None) before ≡ true → ⊥
no_twice_group before group ident n is new there =
    let none : list_any (rates group ident) before ≡ false = or_right (is_some group && is_some ident) (list_any (rates group ident) before) new in
    let wrong : list_any (rates (Some n) ident) before ≡ false = subst (λ (g : Option ℕ). list_any (rates g ident) before ≡ false) is none in
    let right : list_any (rates (Some n) ident) before ≡ true = there in
    cc

no_twice_ident : (before : List Tariff) (group ident : Option ℕ) (n : ℕ) → ident ≡ Some n → ((is_some group && is_some ident) || list_any (rates group ident) before) ≡ false → (is_some group ≡ true) ⊎ (list_any (rates None (Some n)) before ≡ true) → ⊥
no_twice_ident before None ident n is new (inl some) = cc
no_twice_ident before None ident n is new (inr there) =
    let wrong : list_any (rates None (Some n)) before ≡ false = subst (λ (i : Option ℕ). list_any (rates None i) before ≡ false) is new in
    cc
no_twice_ident before (Some g) None n is new there = cc
no_twice_ident before (Some g) (Some i) n is new there = cc

no_key_given : (group ident : Option ℕ) → (is_some group || is_some ident) ≡ true → is_some group ≡ false → is_some ident ≡ false → ⊥
no_key_given None None has none nothing = cc
no_key_given None (Some i) has none nothing = cc
no_key_given (Some g) ident has none nothing = cc

pub no_tariff_fault : (before : List Tariff) (entry : Members) (tariff : Tariff) (fault : SiteFault) → SpellsTariff entry tariff → fault_after before tariff ≡ None → is_typed_tariff tariff ≡ true → IsTariffFault before entry fault → fault ≡ OutOfMemory
no_tariff_fault before entry tariff (Twice keys.Group) spelled sound typed told =
    let new : is_twice before tariff ≡ false = (may_follow (in_range tariff) (is_twice before tariff) sound).1 in
    absurd (no_twice_group before tariff.group tariff.ident told.group (optional_is (value_at keys.Group entry) tariff.group told.group spelled.group told.stands) new told.there)
no_tariff_fault before entry tariff (Twice keys.Ident) spelled sound typed told =
    let new : is_twice before tariff ≡ false = (may_follow (in_range tariff) (is_twice before tariff) sound).1 in
    let there : (is_some tariff.group ≡ true) ⊎ (list_any (rates None (Some told.ident)) before ≡ true) = elim told.there [
      | inl some ↦ inl (optional_some (value_at keys.Group entry) tariff.group spelled.group some)
      | inr rated ↦ inr rated
    ] in
    absurd (no_twice_ident before tariff.group tariff.ident told.ident (optional_is (value_at keys.Ident entry) tariff.ident told.ident spelled.ident told.stands) new there)
no_tariff_fault before entry tariff (OutOfRange keys.Kind) spelled sound typed told = absurd (told.none tariff.kind (text_at (value_at keys.Kind entry) told.word (unit_word tariff.kind) told.stands spelled.kind))
no_tariff_fault before entry tariff (OutOfRange keys.Quantum) spelled sound typed told =
    absurd (no_grant keys.Quantum entry tariff tariff.quantum spelled spelled.quantum (tariff_ranges tariff (may_follow (in_range tariff) (is_twice before tariff) sound).0).quantum told)
no_tariff_fault before entry tariff (OutOfRange keys.Greatest) spelled sound typed told =
    absurd (no_grant keys.Greatest entry tariff tariff.greatest spelled spelled.greatest (tariff_ranges tariff (may_follow (in_range tariff) (is_twice before tariff) sound).0).greatest told)
no_tariff_fault before entry tariff (Missing keys.Group) spelled sound typed told =
    let ranges = tariff_ranges tariff (may_follow (in_range tariff) (is_twice before tariff) sound).0 in
    absurd (no_key_given tariff.group tariff.ident ranges.key (optional_none (value_at keys.Group entry) tariff.group spelled.group told.0) (optional_none (value_at keys.Ident entry) tariff.ident spelled.ident told.1))
no_tariff_fault before entry tariff fault spelled sound typed told =
    let ranges = tariff_ranges tariff (may_follow (in_range tariff) (is_twice before tariff) sound).0 in
    no_fault_of need_of_tariff entry fault (record { fit = tariff_key entry tariff spelled ranges typed; stands = tariff_stands entry tariff spelled }) told.0 told.1

-- ---- accounts

record AccountRanges (account : Account) : Type 0 where
  id_kind : nat_le account.id_kind 4 ≡ true
  id : (is_within 1 64 (length account.id) && list_all is_visible account.id) ≡ true
  opening : nat_le (size_of account.opening) 4611686018427387904 ≡ true

four_parts : (a b c d : Bool) → (a && b && c && d) ≡ true → (a ≡ true) × ((b && c) ≡ true) × (d ≡ true)
four_parts true true true true e = (refl, refl, refl)
four_parts true true true false e = absurd cc
four_parts true true false d e = absurd cc
four_parts true false c d e = absurd cc
four_parts false b c d e = absurd cc

account_ranges : (account : Account) → is_sound_account account ≡ true → AccountRanges account
account_ranges account sound =
    let parts = four_parts (nat_le account.id_kind 4) (is_within 1 64 (length account.id)) (list_all is_visible account.id) (nat_le (size_of account.opening) 4611686018427387904) sound in
    record { id_kind = parts.0; id = parts.1; opening = parts.2 }

account_key : (entry : Members) (account : Account) → SpellsAccount entry account → AccountRanges account → (key : Key) → is_key (need_of_account key) ≡ true → FitsAt key entry
account_key entry account spelled ranges keys.IdKind has = known_fits keys.IdKind entry (number account.id_kind) spelled.id_kind (number_fits keys.IdKind 0 4 account.id_kind refl (and_both (nat_le 0 account.id_kind) (nat_le account.id_kind 4) (le-leb 0 account.id_kind (omega arith)) ranges.id_kind))
account_key entry account spelled ranges keys.Id has = known_fits keys.Id entry (string account.id) spelled.id (account_id_fits keys.Id account.id refl ranges.id)
account_key entry account spelled ranges keys.Opening has = known_fits keys.Opening entry (integer account.opening) spelled.opening (sized_fits keys.Opening 4611686018427387904 account.opening refl ranges.opening)
account_key entry account spelled ranges key has = absurd cc

account_stands : (entry : Members) (account : Account) → SpellsAccount entry account → (key : Key) → need_of_account key ≡ required → IsSome (value_at key entry)
account_stands entry account spelled keys.IdKind needed = is_there (value_at keys.IdKind entry) (number account.id_kind) spelled.id_kind
account_stands entry account spelled keys.Id needed = is_there (value_at keys.Id entry) (string account.id) spelled.id
account_stands entry account spelled keys.Opening needed = is_there (value_at keys.Opening entry) (integer account.opening) spelled.opening
account_stands entry account spelled key needed = absurd cc

pub no_account_fault : (before : List Account) (entry : Members) (account : Account) (fault : SiteFault) → SpellsAccount entry account → is_sound_account account ≡ true → list_any (λ other. same_account other account) before ≡ false → IsAccountFault before entry fault → fault ≡ OutOfMemory
no_account_fault before entry account (Twice keys.Id) spelled sound new told =
    let kind : told.id_kind ≡ account.id_kind = number_at (value_at keys.IdKind entry) told.id_kind account.id_kind told.of_kind spelled.id_kind in
    let id : told.id ≡ account.id = text_at (value_at keys.Id entry) told.id account.id told.of_id spelled.id in
    let there : list_any (λ other. (other.id_kind == account.id_kind) && same_octets other.id account.id) before ≡ true =
    subst (λ (xs : List ℕ). list_any (λ (other : Account). (other.id_kind == account.id_kind) && same_octets other.id xs) before ≡ true) id
    (subst (λ (k : ℕ). list_any (λ (other : Account). (other.id_kind == k) && same_octets other.id told.id) before ≡ true) kind told.there) in
    absurd (let none : list_any (λ other. (other.id_kind == account.id_kind) && same_octets other.id account.id) before ≡ false = new in cc)
no_account_fault before entry account fault spelled sound new told = no_fault_of need_of_account entry fault (record { fit = account_key entry account spelled (account_ranges account sound); stands = account_stands entry account spelled }) told.0 told.1
