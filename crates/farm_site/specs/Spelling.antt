-- What the file of a site spells: each value of the site is the one that stands at its key, in the entry of its place.
use Rattle.std.specs.Prelude.{◌≡◌, ◌≤◌, ℕ, pos, Bool, true, not, ◌&&◌, List, [], ◌∷◌, length, map, codes, IfSome, Option, None, Some, is_some, option_map, unwrap_or, position}
use Rattle.std.specs.List.{AllZip, list_all}
use Rattle.std.specs.Net.Grammar.{IsSocketText}
use Rattle.std.specs.declared.net.socket_addr.SocketAddr.{SocketAddr}
use Rattle.toml.specs.Data.{Data, string, integer, array, table, Members, get_member}
use Rattle.toml.specs.Parse.{parse_document}
use Rattle.toml.specs.View.{items_of, table_view}
use Rattle.cc_book.specs.declared.account.Account.{Account}
use Rattle.cc_rating.specs.declared.tariff.Tariff.{Tariff}
use Rattle.cc_rating.specs.declared.tariff.UnitKind.{UnitKind}
use Rattle.cc_rating.specs.declared.tariff.UnitKind.TheVariants.{Time, Octets, Units}
use Rattle.dia_base.specs.Folding.{same_folded}
use Rattle.dia_base.specs.Identity.{fault_of}
use Rattle.dia_base.specs.declared.node.NodeKind.{NodeKind}
use Rattle.dia_base.specs.declared.node.NodeKind.TheVariants.{Relay, Front, Client}
use Rattle.dia_base.specs.declared.number.NodeNo.{NodeNo}
use Rattle.dia_grammar.specs.declared.profile.Tolerance.{Tolerance}
use Rattle.dia_grammar.specs.declared.profile.Tolerance.TheVariants.{OriginTwice, ApplicationInGroup}
use Rattle.farm_base.specs.CheckedSite.{IsChecked, is_within}
use Rattle.farm_base.specs.declared.site.Link.{Link}
use Rattle.farm_base.specs.declared.site.Node.{Node}
use Rattle.farm_base.specs.declared.site.Route.{Route}
use Rattle.farm_base.specs.declared.site.Site.{Site}
use Rattle.farm_site.specs.declared.entry.Entry.{Entry}
use Rattle.farm_site.specs.declared.key.Key.{Key}
use Rattle.farm_site.specs.declared.key.Key.TheVariants as keys
use Rattle.farm_site.specs.Keys.{spelled}

-- ---- what stands at a key of a table

abbrev pub value_at : Key → Members → Option Data
value_at key entry = get_member (spelled key) entry

-- what stands there, or this where the table leaves the key out
abbrev pub value_or : Data → Key → Members → Data
value_or absent key entry = unwrap_or (value_at key entry) absent

-- ---- values as a file has them

abbrev pub number : ℕ → Data
number n = integer (pos n)

abbrev pub numbers : List ℕ → Data
numbers ns = array (items_of (map number ns))

abbrev pub texts : List (List ℕ) → Data
texts ts = array (items_of (map string ts))

abbrev pub tables : List Members → Data
tables entries = array (items_of (map table entries))

abbrev pub node_word : NodeKind → List ℕ
node_word Relay = codes "relay"
node_word Front = codes "front"
node_word Client = codes "client"

abbrev pub unit_word : UnitKind → List ℕ
unit_word Time = codes "time"
unit_word Octets = codes "octets"
unit_word Units = codes "units"

abbrev pub tolerance_word : Tolerance → List ℕ
tolerance_word OriginTwice = codes "origin-twice"
tolerance_word ApplicationInGroup = codes "application-in-group"

-- ---- tables

-- The items are what the entries of the array of tables at a key spell, one after another: none is left out, and none
-- is added. A file that leaves the key out has none.
pub record SpellsTable {A : Type 0} (spells : Members → A → Type 0) (key : Key) (file : Members) (items : List A) : Type 0 where
  pub entries : List Members
  pub stand : value_or (tables []) key file ≡ tables entries
  pub in_order : AllZip spells entries items

-- the tables that were found
abbrev pub tables_of : List Entry → List Members
tables_of entries = map (λ entry. table_view entry.table.now) entries

-- ---- nodes, and where they are named: without ASCII case

-- the text writes an IPv4 address, or an IPv6 address in brackets, and a port
abbrev pub WritesAddress : List ℕ → Type 0
WritesAddress text = (address : SocketAddr) × IsSocketText text address

pub record SpellsNode (entry : Members) (node : Node) : Type 0 where
  pub name : value_at keys.Name entry ≡ Some (string node.name)
  pub kind : value_at keys.Kind entry ≡ Some (string (node_word node.kind))
  pub address : value_at keys.Address entry ≡ option_map string node.address
  pub written : IfSome node.address WritesAddress

abbrev pub is_named : List ℕ → Node → Bool
is_named name node = same_folded node.name name

-- the first node of this name has this number
abbrev pub Names : List Node → List ℕ → NodeNo → Type 0
Names nodes name node = position (is_named name) nodes ≡ Some node.0

pub record NamesAt (nodes : List Node) (key : Key) (entry : Members) (node : NodeNo) : Type 0 where
  pub name : List ℕ
  pub stands : value_at key entry ≡ Some (string name)
  pub means : Names nodes name node

pub record NamesAllAt (nodes : List Node) (key : Key) (entry : Members) (numbered : List NodeNo) : Type 0 where
  pub names : List (List ℕ)
  pub stand : value_at key entry ≡ Some (texts names)
  pub in_order : AllZip (Names nodes) names numbered

-- ---- links and routes between these nodes

pub record SpellsLink (nodes : List Node) (entry : Members) (link : Link) : Type 0 where
  pub from : NamesAt nodes keys.From entry link.from
  pub to : NamesAt nodes keys.To entry link.to

pub record SpellsRoute (nodes : List Node) (entry : Members) (route : Route) : Type 0 where
  pub at : NamesAt nodes keys.At entry route.at
  pub realm : value_at keys.Realm entry ≡ Some (string route.realm)
  pub app : value_at keys.App entry ≡ Some (number route.app)
  pub peers : NamesAllAt nodes keys.Peers entry route.peers

-- ---- money

pub record SpellsTariff (entry : Members) (tariff : Tariff) : Type 0 where
  pub group : value_at keys.Group entry ≡ option_map number tariff.group
  pub ident : value_at keys.Ident entry ≡ option_map number tariff.ident
  pub kind : value_at keys.Kind entry ≡ Some (string (unit_word tariff.kind))
  pub block : value_at keys.Block entry ≡ Some (number tariff.block)
  pub price : value_at keys.Price entry ≡ Some (number tariff.price)
  pub quantum : value_at keys.Quantum entry ≡ Some (number tariff.quantum)
  pub greatest : value_at keys.Greatest entry ≡ Some (number tariff.greatest)

pub record SpellsAccount (entry : Members) (account : Account) : Type 0 where
  pub id_kind : value_at keys.IdKind entry ≡ Some (number account.id_kind)
  pub id : value_at keys.Id entry ≡ Some (string account.id)
  pub opening : value_at keys.Opening entry ≡ Some (integer account.opening)

-- ---- the whole, with the default of each key that the file leaves out

pub record SpellsSite (file : Members) (site : Site) : Type 0 where
  pub realm : value_at keys.Realm file ≡ Some (string site.realm)
  pub validity : value_at keys.Validity file ≡ Some (number site.validity)
  pub limit : value_or (number 1048576) keys.Limit file ≡ number site.limit
  pub workers : value_or (number 2) keys.Workers file ≡ number site.workers
  pub queue : value_or (number 1024) keys.Queue file ≡ number site.queue
  pub vendors : value_or (numbers (10415 ∷ [])) keys.Vendors file ≡ numbers site.vendors
  pub known : value_or (numbers []) keys.Known file ≡ numbers site.known
  pub tolerate : value_or (texts []) keys.Tolerate file ≡ texts (map tolerance_word site.tolerate)
  pub advertise : value_or (numbers []) keys.Advertise file ≡ numbers site.advertise
  pub currency : value_at keys.Currency file ≡ Some (number site.currency)
  pub exponent : value_at keys.Exponent file ≡ Some (integer site.exponent)
  pub watchdog : value_or (number 30000) keys.Watchdog file ≡ number site.watchdog
  pub nodes : SpellsTable SpellsNode keys.Node file site.nodes
  pub links : SpellsTable (SpellsLink site.nodes) keys.Link file site.links
  pub routes : SpellsTable (SpellsRoute site.nodes) keys.Route file site.routes
  pub tariffs : SpellsTable SpellsTariff keys.Tariff file site.tariffs
  pub accounts : SpellsTable SpellsAccount keys.Account file site.accounts

-- the text is a TOML document, and spells the site
pub record Spells (text : List ℕ) (site : Site) : Type 0 where
  pub file : Members
  pub document : parse_document text ≡ Some file
  pub values : SpellsSite file site

-- ---- what the types of a site hold: identities, and numbers of 32 bits

abbrev pub has_32_bits : ℕ → Bool
has_32_bits n = is_within 0 4294967295 n

abbrev pub may_have_32_bits : Option ℕ → Bool
may_have_32_bits None = true
may_have_32_bits (Some n) = has_32_bits n

abbrev pub is_typed_route : Route → Bool
is_typed_route route = not (is_some (fault_of route.realm)) && has_32_bits route.app

abbrev pub is_typed_tariff : Tariff → Bool
is_typed_tariff tariff = may_have_32_bits tariff.group && may_have_32_bits tariff.ident

pub record IsTyped (site : Site) : Type 0 where
  pub realm : fault_of site.realm ≡ None
  pub vendors : list_all has_32_bits site.vendors ≡ true
  pub advertise : list_all has_32_bits site.advertise ≡ true
  pub routes : list_all is_typed_route site.routes ≡ true
  pub tariffs : list_all is_typed_tariff site.tariffs ≡ true

-- ---- site files

-- the text spells the site, which is checked, and is not too long
pub record IsSiteFile (text : List ℕ) (site : Site) : Type 0 where
  pub spelled : Spells text site
  pub checked : IsChecked site
  pub typed : IsTyped site
  pub short : length text ≤ 16777216
