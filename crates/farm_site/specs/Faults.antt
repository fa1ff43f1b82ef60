-- What a fault of a site file says of the file.
use Rattle.std.specs.Prelude.{◌≡◌, ◌≢◌, ◌⊎◌, ◌<◌, ℕ, Bool, true, false, ◌&&◌, ◌||◌, ◌==◌, List, [], ◌∷◌, ◌++◌, length, Some, None, IsSome}
use Rattle.std.specs.List.{AllZip, Contains, list_any}
use Rattle.std.specs.Net.Grammar.{IsSocketText}
use Rattle.std.specs.Str.{IsUtf8}
use Rattle.toml.specs.Data.{Data, string, Members}
use Rattle.toml.specs.Parse.{parse_document}
use Rattle.cc_book.specs.declared.account.Account.{Account}
use Rattle.cc_rating.specs.declared.tariff.Tariff.{Tariff}
use Rattle.cc_rating.specs.declared.tariff.UnitKind.{UnitKind}
use Rattle.cc_rating.specs.Tariffs.{rates, units_limit}
use Rattle.dia_base.specs.Folding.{same_folded}
use Rattle.dia_base.specs.Identity.{fault_of}
use Rattle.dia_base.specs.declared.number.NodeNo.{NodeNo}
use Rattle.dia_grammar.specs.declared.profile.Tolerance.{Tolerance}
use Rattle.farm_base.specs.CheckedSite.{is_candidate, is_known, joins_two_of, same_number, same_octets, same_pair}
use Rattle.farm_base.specs.Lists.{are_distinct}
use Rattle.farm_base.specs.Nodes.{is_client, is_front, is_node, is_relay}
use Rattle.farm_base.specs.declared.site.Link.{Link}
use Rattle.farm_base.specs.declared.site.Node.{Node}
use Rattle.farm_base.specs.declared.site.Route.{Route}
use Rattle.farm_site.specs.declared.fault.SiteFault.{SiteFault}
use Rattle.farm_site.specs.declared.fault.SiteFault.TheVariants.{NotToml, Missing, WrongType, OutOfRange, Twice, UnknownName, BadIdentity, TooMany, BadLink, OutOfMemory}
use Rattle.farm_site.specs.declared.key.Key.{Key}
use Rattle.farm_site.specs.declared.key.Key.TheVariants as keys
use Rattle.farm_site.specs.Forms.{Need, form_of, has_type, identity_text, is_in_range, is_number, has_too_many, is_key, need_of_account, need_of_file, need_of_link, need_of_node, need_of_route, need_of_tariff, required}
use Rattle.farm_site.specs.Graph.{site_over}
use Rattle.farm_site.specs.Spelling.{Names, NamesAt, SpellsAccount, SpellsLink, SpellsNode, SpellsRoute, SpellsTable, SpellsTariff, is_named, node_word, number, numbers, tables, texts, tolerance_word, unit_word, value_at, value_or}

-- ---- what stands at one key

-- something stands at the key, of which this holds
abbrev pub StandsAt : Key → Members → (Data → Type 0) → Type 0
StandsAt key entry Holds = (value : Data) × (value_at key entry ≡ Some value) × Holds value

-- What a fault says of one table of keys: the file, or an entry. What other entries decide is said below.
abbrev pub IsFaultOf : Members → SiteFault → Type 0
IsFaultOf entry NotToml = ⊥
IsFaultOf entry (Missing key) = value_at key entry ≡ None
IsFaultOf entry (WrongType key) = StandsAt key entry (λ value. has_type (form_of key) value ≡ false)
IsFaultOf entry (OutOfRange key) = StandsAt key entry (λ value. is_in_range (form_of key) value ≡ false)
IsFaultOf entry (Twice key) = ⊥
IsFaultOf entry (UnknownName key) = ⊥
IsFaultOf entry (BadIdentity key) = (form_of key ≡ identity_text) × StandsAt key entry (λ value. (name : List ℕ) × (value ≡ string name) × (fault_of name ≢ None))
IsFaultOf entry (TooMany key) = StandsAt key entry (λ value. has_too_many (form_of key) value ≡ true)
IsFaultOf entry BadLink = ⊥
IsFaultOf entry OutOfMemory = Unit {0}

-- ---- keys

-- a fault of what stands at one key names this key
abbrev pub IsOfKey : Key → SiteFault → Type 0
IsOfKey key (Missing told) = told ≡ key
IsOfKey key (WrongType told) = told ≡ key
IsOfKey key (OutOfRange told) = told ≡ key
IsOfKey key (BadIdentity told) = told ≡ key
IsOfKey key (TooMany told) = told ≡ key
IsOfKey key fault = Unit {0}

-- the same, where the key may be left out
abbrev pub IsOfOptionalKey : Key → SiteFault → Type 0
IsOfOptionalKey key (Missing told) = ⊥
IsOfOptionalKey key fault = IsOfKey key fault

-- it names a key that a table has; one that is missing is required
abbrev pub IsOfKeys : (Key → Need) → SiteFault → Type 0
IsOfKeys need (Missing key) = need key ≡ required
IsOfKeys need (WrongType key) = is_key (need key) ≡ true
IsOfKeys need (OutOfRange key) = is_key (need key) ≡ true
IsOfKeys need (BadIdentity key) = is_key (need key) ≡ true
IsOfKeys need (TooMany key) = is_key (need key) ≡ true
IsOfKeys need fault = Unit {0}

-- ---- names

-- a node that has the name, if there is one, may not stand there
abbrev pub NamesNone : List Node → (NodeNo → Bool) → List ℕ → Type 0
NamesNone nodes may_stand name = (node : NodeNo) → Names nodes name node → may_stand node ≡ false

-- the name that stands at the key is that of no node which may stand there
pub record IsUnknownAt (nodes : List Node) (may_stand : NodeNo → Bool) (key : Key) (entry : Members) : Type 0 where
  pub name : List ℕ
  pub stands : value_at key entry ≡ Some (string name)
  pub none : NamesNone nodes may_stand name

-- one of the names is
pub record IsUnknownAmong (nodes : List Node) (may_stand : NodeNo → Bool) (key : Key) (entry : Members) : Type 0 where
  pub names : List (List ℕ)
  pub name : List ℕ
  pub stand : value_at key entry ≡ Some (texts names)
  pub among : Contains names name
  pub none : NamesNone nodes may_stand name

-- of a link: an end that is no node
abbrev pub IsUnknownInLink : List Node → Members → Key → Type 0
IsUnknownInLink nodes entry keys.From = IsUnknownAt nodes (is_known (site_over nodes [])) keys.From entry
IsUnknownInLink nodes entry keys.To = IsUnknownAt nodes (is_known (site_over nodes [])) keys.To entry
IsUnknownInLink nodes entry key = ⊥

-- of a route: that is at no relay, or one of whose peers is no relay or front that is linked with that relay
abbrev pub IsUnknownInRoute : List Node → List Link → Members → Key → Type 0
IsUnknownInRoute nodes links entry keys.At = IsUnknownAt nodes (is_relay (site_over nodes links)) keys.At entry
IsUnknownInRoute nodes links entry keys.Peers = (relay : NodeNo) × NamesAt nodes keys.At entry relay × IsUnknownAmong nodes (is_candidate (site_over nodes links) relay) keys.Peers entry
IsUnknownInRoute nodes links entry key = ⊥

-- ---- elements of an array of the file

-- one of the numbers at the key stands twice
pub record IsNumberTwice (key : Key) (file : Members) : Type 0 where
  pub ns : List ℕ
  pub stand : value_at key file ≡ Some (numbers ns)
  pub twice : are_distinct same_number ns ≡ false

-- one of the names of tolerances does
pub record IsToleranceTwice (file : Members) : Type 0 where
  pub names : List (List ℕ)
  pub stand : value_at keys.Tolerate file ≡ Some (texts names)
  pub twice : are_distinct same_octets names ≡ false

-- one of them is the name of none
pub record IsNoTolerance (file : Members) : Type 0 where
  pub names : List (List ℕ)
  pub name : List ℕ
  pub stand : value_at keys.Tolerate file ≡ Some (texts names)
  pub among : Contains names name
  pub none : (tolerance : Tolerance) → ¬ (name ≡ tolerance_word tolerance)

abbrev pub IsElementFault : Members → SiteFault → Type 0
IsElementFault file (Twice keys.Known) = IsNumberTwice keys.Known file
IsElementFault file (Twice keys.Tolerate) = IsToleranceTwice file
IsElementFault file (Twice keys.Advertise) = IsNumberTwice keys.Advertise file
IsElementFault file (UnknownName keys.Tolerate) = IsNoTolerance file
IsElementFault file fault = ⊥

-- ---- links

-- of a node with itself, of two clients, of two fronts, or of two nodes between which there is one before it, in either
-- direction
abbrev pub is_bad_link : List Node → List Link → Link → Bool
is_bad_link nodes before link =
    is_node link.from link.to
    || joins_two_of (is_client (site_over nodes before)) link
    || joins_two_of (is_front (site_over nodes before)) link
    || list_any (λ other. same_pair other link) before

-- the entry spells a bad link
pub record SpellsBadLink (nodes : List Node) (before : List Link) (entry : Members) : Type 0 where
  pub link : Link
  pub spelled : SpellsLink nodes entry link
  pub bad : is_bad_link nodes before link ≡ true

-- ---- what stands twice: in the entry, and in an item before it

-- the name of a node, without ASCII case
pub record IsNameTwice (before : List Node) (entry : Members) : Type 0 where
  pub name : List ℕ
  pub stands : value_at keys.Name entry ≡ Some (string name)
  pub there : list_any (is_named name) before ≡ true

-- relay, realm and application of a route
pub record IsRouteTwice (nodes : List Node) (before : List Route) (entry : Members) : Type 0 where
  pub relay : NodeNo
  pub realm : List ℕ
  pub app : ℕ
  pub at : NamesAt nodes keys.At entry relay
  pub of_realm : value_at keys.Realm entry ≡ Some (string realm)
  pub of_app : value_at keys.App entry ≡ Some (number app)
  pub there : list_any (λ route. is_node route.at relay && same_folded route.realm realm && (route.app == app)) before ≡ true

-- the group of a tariff
pub record IsGroupTwice (before : List Tariff) (entry : Members) : Type 0 where
  pub group : ℕ
  pub stands : value_at keys.Group entry ≡ Some (number group)
  pub there : list_any (rates (Some group) None) before ≡ true

-- the identifier of a tariff, or a group beside it
pub record IsIdentTwice (before : List Tariff) (entry : Members) : Type 0 where
  pub ident : ℕ
  pub stands : value_at keys.Ident entry ≡ Some (number ident)
  pub there : IsSome (value_at keys.Group entry) ⊎ (list_any (rates None (Some ident)) before ≡ true)

-- type and text of an account
pub record IsIdTwice (before : List Account) (entry : Members) : Type 0 where
  pub id_kind : ℕ
  pub id : List ℕ
  pub of_kind : value_at keys.IdKind entry ≡ Some (number id_kind)
  pub of_id : value_at keys.Id entry ≡ Some (string id)
  pub there : list_any (λ account. (account.id_kind == id_kind) && same_octets account.id id) before ≡ true

-- ---- what its entry says not to be in range

-- the text that stands at the key means nothing
pub record IsUnknownWord {A : Type 0} (Means : List ℕ → A → Type 0) (key : Key) (entry : Members) : Type 0 where
  pub word : List ℕ
  pub stands : value_at key entry ≡ Some (string word)
  pub none : (meant : A) → ¬ (Means word meant)

-- a number that a quantum, or a grant, of the tariff's kind does not have
pub record IsNoGrant (key : Key) (entry : Members) : Type 0 where
  pub kind : UnitKind
  pub of_kind : value_at keys.Kind entry ≡ Some (string (unit_word kind))
  pub outside : StandsAt key entry (λ value. is_number 1 (units_limit kind) value ≡ false)

-- ---- entries, behind those that spell these items

abbrev pub IsNodeFault : List Node → Members → SiteFault → Type 0
IsNodeFault before entry (Twice keys.Name) = IsNameTwice before entry
IsNodeFault before entry (OutOfRange keys.Kind) = IsUnknownWord (λ word kind. word ≡ node_word kind) keys.Kind entry
IsNodeFault before entry (OutOfRange keys.Address) = IsUnknownWord IsSocketText keys.Address entry
IsNodeFault before entry fault = IsFaultOf entry fault × IsOfKeys need_of_node fault

abbrev pub IsLinkFault : List Node → List Link → Members → SiteFault → Type 0
IsLinkFault nodes before entry (UnknownName key) = IsUnknownInLink nodes entry key
IsLinkFault nodes before entry BadLink = SpellsBadLink nodes before entry
IsLinkFault nodes before entry fault = IsFaultOf entry fault × IsOfKeys need_of_link fault

abbrev pub IsRouteFault : List Node → List Link → List Route → Members → SiteFault → Type 0
IsRouteFault nodes links before entry (UnknownName key) = IsUnknownInRoute nodes links entry key
IsRouteFault nodes links before entry (Twice keys.Route) = IsRouteTwice nodes before entry
IsRouteFault nodes links before entry fault = IsFaultOf entry fault × IsOfKeys need_of_route fault

abbrev pub IsTariffFault : List Tariff → Members → SiteFault → Type 0
IsTariffFault before entry (Twice keys.Group) = IsGroupTwice before entry
IsTariffFault before entry (Twice keys.Ident) = IsIdentTwice before entry
IsTariffFault before entry (OutOfRange keys.Kind) = IsUnknownWord (λ word kind. word ≡ unit_word kind) keys.Kind entry
IsTariffFault before entry (OutOfRange keys.Quantum) = IsNoGrant keys.Quantum entry
IsTariffFault before entry (OutOfRange keys.Greatest) = IsNoGrant keys.Greatest entry
IsTariffFault before entry (Missing keys.Group) = (value_at keys.Group entry ≡ None) × (value_at keys.Ident entry ≡ None)
IsTariffFault before entry fault = IsFaultOf entry fault × IsOfKeys need_of_tariff fault

abbrev pub IsAccountFault : List Account → Members → SiteFault → Type 0
IsAccountFault before entry (Twice keys.Id) = IsIdTwice before entry
IsAccountFault before entry fault = IsFaultOf entry fault × IsOfKeys need_of_account fault

-- ---- tables, and the file

-- of what stands at the key of a table, or of an entry of it, where those before it spell these items
pub data IsTableFault {A : Type 0} (spells : Members → A → Type 0) (IsFault : List A → Members → SiteFault → Type 0) (key : Key) (file : Members) (fault : SiteFault) : Type 0 where
  of_table : IsFaultOf file fault → IsOfOptionalKey key fault → IsTableFault spells IsFault key file fault
  of_entry : (before after : List Members) (entry : Members) (items : List A) → value_or (tables []) key file ≡ tables (before ++ entry ∷ after) → AllZip spells before items → IsFault items entry fault → IsTableFault spells IsFault key file fault

-- of the file as a whole, of an element of one of its arrays, or of one of its tables: of links between the nodes of the file, of routes over its links
pub data IsFaultIn (file : Members) (fault : SiteFault) : Type 0 where
  of_file : IsFaultOf file fault → IsOfKeys need_of_file fault → IsFaultIn file fault
  of_elements : IsElementFault file fault → IsFaultIn file fault
  of_nodes : IsTableFault SpellsNode IsNodeFault keys.Node file fault → IsFaultIn file fault
  of_links : (nodes : List Node) → SpellsTable SpellsNode keys.Node file nodes → IsTableFault (SpellsLink nodes) (IsLinkFault nodes) keys.Link file fault → IsFaultIn file fault
  of_routes : (nodes : List Node) (links : List Link) → SpellsTable SpellsNode keys.Node file nodes → SpellsTable (SpellsLink nodes) keys.Link file links → IsTableFault (SpellsRoute nodes) (IsRouteFault nodes links) keys.Route file fault → IsFaultIn file fault
  of_tariffs : IsTableFault SpellsTariff IsTariffFault keys.Tariff file fault → IsFaultIn file fault
  of_accounts : IsTableFault SpellsAccount IsAccountFault keys.Account file fault → IsFaultIn file fault

-- the text is too long for a site file, or no TOML document
abbrev pub IsNoFile : List ℕ → Type 0
IsNoFile text = (16777216 < length text) ⊎ (parse_document text ≡ None)

-- the same of octets, which may be no text
abbrev pub AreNoFile : List ℕ → Type 0
AreNoFile octets = ¬ (IsUtf8 octets) ⊎ IsNoFile octets

-- the text is a document, of which the fault is told
abbrev pub IsToldOf : List ℕ → SiteFault → Type 0
IsToldOf text fault = (file : Members) × (parse_document text ≡ Some file) × IsFaultIn file fault

-- why a text is no site, unless memory ran out
abbrev pub IsWhyText : List ℕ → SiteFault → Type 0
IsWhyText text NotToml = IsNoFile text
IsWhyText text OutOfMemory = Unit {0}
IsWhyText text fault = IsToldOf text fault

abbrev pub AreWhyOctets : List ℕ → SiteFault → Type 0
AreWhyOctets octets NotToml = AreNoFile octets
AreWhyOctets octets OutOfMemory = Unit {0}
AreWhyOctets octets fault = IsToldOf octets fault
