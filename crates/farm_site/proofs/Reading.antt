-- A text that spells a checked site is read as this site, or memory runs out.
use Rattle.std.proofs.Common.{◌≡◌, ℕ, ◌<◌, ◌≤◌, Bool, true, false, List, [], ◌∷◌, length, map, Some, Result, Ok, Err, refl, sym, subst, ap, ◌∙◌, inl, inr, ◌⊎◌, arith}
use Rattle.std.proofs.lemmas.Option.{same_Some}
use Rattle.std.specs.List.{list_all}
use Rattle.std.specs.Prelude.{IfErr, IfOk, IsSome, nat_le, nat_lt}
use Rattle.std.proofs.lemmas.Bool.{leb-true, le-leb, ltb-false, ltb-true}
use Rattle.std.specs.Str.{IsUtf8}
use Rattle.toml.specs.Data.{Members, integer, string}
use Rattle.toml.specs.Parse.{parse_document}
use Rattle.cc_book.specs.declared.account.Account.{Account}
use Rattle.cc_rating.specs.Tariffs.{fault_from}
use Rattle.cc_rating.specs.declared.tariff.Tariff.{Tariff}
use Rattle.farm_base.specs.CheckedSite.{IsChecked, is_sound_account, is_sound_link, is_sound_name, is_sound_route, same_account, same_name, same_pair, same_route}
use Rattle.farm_base.specs.Lists.{are_distinct}
use Rattle.farm_base.specs.declared.site.Link.{Link}
use Rattle.farm_base.specs.declared.site.Node.{Node}
use Rattle.farm_base.specs.declared.site.Route.{Route}
use Rattle.farm_base.specs.declared.site.Site.{Site}
use Rattle.farm_site.specs.Faults.{AreNoFile, AreWhyOctets, IsAccountFault, IsFaultIn, IsLinkFault, IsNodeFault, IsRouteFault, IsTableFault, IsTariffFault, IsToldOf, IsWhyText, of_accounts, of_elements, of_file, of_links, of_nodes, of_routes, of_tariffs}
use Rattle.farm_site.specs.Forms.{is_key, need_of_file, required}
use Rattle.farm_site.specs.Spelling.{IsSiteFile, IsTyped, Spells, SpellsAccount, SpellsLink, SpellsNode, SpellsRoute, SpellsSite, SpellsTable, SpellsTariff, is_typed_route, is_typed_tariff, number, numbers, texts, tolerance_word, value_at}
use Rattle.farm_site.specs.declared.fault.SiteFault.{SiteFault}
use Rattle.farm_site.specs.declared.fault.SiteFault.TheVariants.{NotToml, Missing, WrongType, OutOfRange, Twice, UnknownName, BadIdentity, TooMany, BadLink, OutOfMemory}
use Rattle.farm_site.specs.declared.key.Key.{Key}
use Rattle.farm_site.specs.declared.key.Key.TheVariants as keys
use Rattle.farm_site.proofs.Elements.{no_element_fault}
use Rattle.farm_site.proofs.Faultless.{no_account_fault, no_link_fault, no_node_fault, no_route_fault, no_tariff_fault}
use Rattle.farm_site.proofs.Fitting.{FitsAt, NoFaultBehind, default_fits, identity_fits, is_there, known_fits, no_fault_of, no_table_fault, number_fits, numbers_fit, sized_fits, table_fits, vendors_fit, words_fit}
use Rattle.farm_site.proofs.OneSite.{one_account, one_link, one_node, one_route, one_site, one_table, one_tariff}
use Rattle.farm_site.proofs.Parting.{all_at, faultless_at, new_behind}
use Rattle.farm_site.proofs.Pushing.{and_both}

-- ---- the keys of the file

nodes_fit : (file : Members) (site : Site) → SpellsSite file site → IsChecked site → FitsAt keys.Node file
nodes_fit file site spelled checked = table_fits SpellsNode keys.Node 64 file site.nodes refl (leb-true (length site.nodes) 64 checked.nodes) spelled.nodes

links_fit : (file : Members) (site : Site) → SpellsSite file site → IsChecked site → FitsAt keys.Link file
links_fit file site spelled checked = table_fits (SpellsLink site.nodes) keys.Link 256 file site.links refl (leb-true (length site.links) 256 checked.links) spelled.links

routes_fit : (file : Members) (site : Site) → SpellsSite file site → IsChecked site → FitsAt keys.Route file
routes_fit file site spelled checked = table_fits (SpellsRoute site.nodes) keys.Route 256 file site.routes refl (leb-true (length site.routes) 256 checked.routes) spelled.routes

tariffs_fit : (file : Members) (site : Site) → SpellsSite file site → IsChecked site → FitsAt keys.Tariff file
tariffs_fit file site spelled checked = table_fits SpellsTariff keys.Tariff 1024 file site.tariffs refl (leb-true (length site.tariffs) 1024 checked.tariff_count) spelled.tariffs

accounts_fit : (file : Members) (site : Site) → SpellsSite file site → IsChecked site → FitsAt keys.Account file
accounts_fit file site spelled checked = table_fits SpellsAccount keys.Account 65536 file site.accounts refl (leb-true (length site.accounts) 65536 checked.account_count) spelled.accounts

file_key : (file : Members) (site : Site) → SpellsSite file site → IsChecked site → IsTyped site → (key : Key) → is_key (need_of_file key) ≡ true → FitsAt key file
file_key file site spelled checked typed keys.Realm has = known_fits keys.Realm file (string site.realm) spelled.realm (identity_fits keys.Realm site.realm refl typed.realm)
file_key file site spelled checked typed keys.Validity has = known_fits keys.Validity file (number site.validity) spelled.validity (number_fits keys.Validity 1 86400 site.validity refl checked.validity)
file_key file site spelled checked typed keys.Limit has = default_fits keys.Limit file (number 1048576) (number site.limit) spelled.limit (number_fits keys.Limit 1 1048576 site.limit refl checked.limit)
file_key file site spelled checked typed keys.Workers has = default_fits keys.Workers file (number 2) (number site.workers) spelled.workers (number_fits keys.Workers 1 16 site.workers refl checked.workers)
file_key file site spelled checked typed keys.Queue has = default_fits keys.Queue file (number 1024) (number site.queue) spelled.queue (number_fits keys.Queue 1 1024 site.queue refl checked.queue)
file_key file site spelled checked typed keys.Vendors has = default_fits keys.Vendors file (numbers (10415 ∷ [])) (numbers site.vendors) spelled.vendors (vendors_fit keys.Vendors site.vendors refl typed.vendors)
file_key file site spelled checked typed keys.Known has = default_fits keys.Known file (numbers []) (numbers site.known) spelled.known (numbers_fit keys.Known 462 256 site.known refl checked.free_codes (leb-true (length site.known) 256 checked.known_count))
file_key file site spelled checked typed keys.Tolerate has = default_fits keys.Tolerate file (texts []) (texts (map tolerance_word site.tolerate)) spelled.tolerate (words_fit keys.Tolerate (map tolerance_word site.tolerate) refl)
file_key file site spelled checked typed keys.Advertise has = default_fits keys.Advertise file (numbers []) (numbers site.advertise) spelled.advertise (numbers_fit keys.Advertise 0 16 site.advertise refl typed.advertise (leb-true (length site.advertise) 16 checked.advertise_count))
file_key file site spelled checked typed keys.Currency has = known_fits keys.Currency file (number site.currency) spelled.currency (number_fits keys.Currency 0 999 site.currency refl (and_both (nat_le 0 site.currency) (nat_le site.currency 999) (le-leb 0 site.currency (omega arith)) checked.currency))
file_key file site spelled checked typed keys.Exponent has = known_fits keys.Exponent file (integer site.exponent) spelled.exponent (sized_fits keys.Exponent 9 site.exponent refl checked.exponent)
file_key file site spelled checked typed keys.Watchdog has = default_fits keys.Watchdog file (number 30000) (number site.watchdog) spelled.watchdog (number_fits keys.Watchdog 100 600000 site.watchdog refl checked.watchdog)
file_key file site spelled checked typed keys.Node has = nodes_fit file site spelled checked
file_key file site spelled checked typed keys.Link has = links_fit file site spelled checked
file_key file site spelled checked typed keys.Route has = routes_fit file site spelled checked
file_key file site spelled checked typed keys.Tariff has = tariffs_fit file site spelled checked
file_key file site spelled checked typed keys.Account has = accounts_fit file site spelled checked
file_key file site spelled checked typed key has = absurd cc

file_stands : (file : Members) (site : Site) → SpellsSite file site → (key : Key) → need_of_file key ≡ required → IsSome (value_at key file)
file_stands file site spelled keys.Realm needed = is_there (value_at keys.Realm file) (string site.realm) spelled.realm
file_stands file site spelled keys.Validity needed = is_there (value_at keys.Validity file) (number site.validity) spelled.validity
file_stands file site spelled keys.Currency needed = is_there (value_at keys.Currency file) (number site.currency) spelled.currency
file_stands file site spelled keys.Exponent needed = is_there (value_at keys.Exponent file) (integer site.exponent) spelled.exponent
file_stands file site spelled key needed = absurd cc

-- ---- the tables of the file

no_nodes_fault : (site : Site) → IsChecked site → NoFaultBehind SpellsNode IsNodeFault site.nodes
no_nodes_fault site checked before rest node entry fault whole spelled told =
    no_node_fault before entry node fault spelled
    (all_at is_sound_name before rest node (ap (λ (xs : List Node). list_all is_sound_name xs) (sym whole) ∙ checked.sound_names))
    (new_behind same_name before rest node (ap (λ (xs : List Node). are_distinct same_name xs) (sym whole) ∙ checked.names)) told

no_links_fault : (site : Site) → IsChecked site → NoFaultBehind (SpellsLink site.nodes) (IsLinkFault site.nodes) site.links
no_links_fault site checked before rest link entry fault whole spelled told =
    no_link_fault site before entry link fault spelled
    (all_at (is_sound_link site) before rest link (ap (λ (xs : List Link). list_all (is_sound_link site) xs) (sym whole) ∙ checked.sound_links))
    (new_behind same_pair before rest link (ap (λ (xs : List Link). are_distinct same_pair xs) (sym whole) ∙ checked.pairs)) told

no_routes_fault : (site : Site) → IsChecked site → IsTyped site → NoFaultBehind (SpellsRoute site.nodes) (IsRouteFault site.nodes site.links) site.routes
no_routes_fault site checked typed before rest route entry fault whole spelled told =
    no_route_fault site before entry route fault spelled
    (all_at (is_sound_route site) before rest route (ap (λ (xs : List Route). list_all (is_sound_route site) xs) (sym whole) ∙ checked.sound_routes))
    (all_at is_typed_route before rest route (ap (λ (xs : List Route). list_all is_typed_route xs) (sym whole) ∙ typed.routes))
    (new_behind same_route before rest route (ap (λ (xs : List Route). are_distinct same_route xs) (sym whole) ∙ checked.destinations)) told

no_tariffs_fault : (site : Site) → IsChecked site → IsTyped site → NoFaultBehind SpellsTariff IsTariffFault site.tariffs
no_tariffs_fault site checked typed before rest tariff entry fault whole spelled told =
    no_tariff_fault before entry tariff fault spelled
    (faultless_at [] before rest tariff (ap (λ (xs : List Tariff). fault_from [] xs) (sym whole) ∙ checked.tariffs))
    (all_at is_typed_tariff before rest tariff (ap (λ (xs : List Tariff). list_all is_typed_tariff xs) (sym whole) ∙ typed.tariffs)) told

no_accounts_fault : (site : Site) → IsChecked site → NoFaultBehind SpellsAccount IsAccountFault site.accounts
no_accounts_fault site checked before rest account entry fault whole spelled told =
    no_account_fault before entry account fault spelled
    (all_at is_sound_account before rest account (ap (λ (xs : List Account). list_all is_sound_account xs) (sym whole) ∙ checked.sound_accounts))
    (new_behind same_account before rest account (ap (λ (xs : List Account). are_distinct same_account xs) (sym whole) ∙ checked.identifiers)) told

-- ---- the whole

no_fault_in : (file : Members) (site : Site) (fault : SiteFault) → SpellsSite file site → IsChecked site → IsTyped site → IsFaultIn file fault → fault ≡ OutOfMemory
no_fault_in file site fault spelled checked typed (of_file told of) = no_fault_of need_of_file file fault (record { fit = file_key file site spelled checked typed; stands = file_stands file site spelled }) told of
no_fault_in file site fault spelled checked typed (of_elements told) = no_element_fault file site fault spelled checked told
no_fault_in file site fault spelled checked typed (of_nodes told) = no_table_fault SpellsNode IsNodeFault one_node keys.Node file site.nodes fault (nodes_fit file site spelled checked) spelled.nodes (no_nodes_fault site checked) told
no_fault_in file site fault spelled checked typed (of_links nodes are_nodes told) =
    let same : nodes ≡ site.nodes = one_table SpellsNode one_node keys.Node file nodes site.nodes are_nodes spelled.nodes in
    let here : IsTableFault (SpellsLink site.nodes) (IsLinkFault site.nodes) keys.Link file fault = subst (λ (ns : List Node). IsTableFault (SpellsLink ns) (IsLinkFault ns) keys.Link file fault) same told in
    no_table_fault (SpellsLink site.nodes) (IsLinkFault site.nodes) (one_link site.nodes) keys.Link file site.links fault (links_fit file site spelled checked) spelled.links (no_links_fault site checked) here
no_fault_in file site fault spelled checked typed (of_routes nodes links are_nodes are_links told) =
    let same : nodes ≡ site.nodes = one_table SpellsNode one_node keys.Node file nodes site.nodes are_nodes spelled.nodes in
    let linked : SpellsTable (SpellsLink site.nodes) keys.Link file links = subst (λ (ns : List Node). SpellsTable (SpellsLink ns) keys.Link file links) same are_links in
    let same_links : links ≡ site.links = one_table (SpellsLink site.nodes) (one_link site.nodes) keys.Link file links site.links linked spelled.links in
    let between : IsTableFault (SpellsRoute site.nodes) (IsRouteFault site.nodes links) keys.Route file fault = subst (λ (ns : List Node). IsTableFault (SpellsRoute ns) (IsRouteFault ns links) keys.Route file fault) same told in
    let here : IsTableFault (SpellsRoute site.nodes) (IsRouteFault site.nodes site.links) keys.Route file fault = subst (λ (ls : List Link). IsTableFault (SpellsRoute site.nodes) (IsRouteFault site.nodes ls) keys.Route file fault) same_links between in
    no_table_fault (SpellsRoute site.nodes) (IsRouteFault site.nodes site.links) (one_route site.nodes) keys.Route file site.routes fault (routes_fit file site spelled checked) spelled.routes (no_routes_fault site checked typed) here
no_fault_in file site fault spelled checked typed (of_tariffs told) = no_table_fault SpellsTariff IsTariffFault one_tariff keys.Tariff file site.tariffs fault (tariffs_fit file site spelled checked) spelled.tariffs (no_tariffs_fault site checked typed) told
no_fault_in file site fault spelled checked typed (of_accounts told) = no_table_fault SpellsAccount IsAccountFault one_account keys.Account file site.accounts fault (accounts_fit file site spelled checked) spelled.accounts (no_accounts_fault site checked) told

one_document : (text : List ℕ) (a b : Members) → parse_document text ≡ Some a → parse_document text ≡ Some b → a ≡ b
one_document text a b p q = same_Some a b (sym p ∙ q)

never_told_of : (text : List ℕ) (site : Site) (fault : SiteFault) → IsSiteFile text site → IsToldOf text fault → fault ≡ OutOfMemory
never_told_of text site fault file (members, at, told) =
    let same : members ≡ file.spelled.file = one_document text members file.spelled.file at file.spelled.document in
    no_fault_in file.spelled.file site fault file.spelled.values file.checked file.typed (subst (λ (f : Members). IsFaultIn f fault) same told)

pub never_why : (text : List ℕ) (site : Site) (fault : SiteFault) → IsSiteFile text site → IsWhyText text fault → fault ≡ OutOfMemory
never_why text site NotToml file told = absurd (elim told [
  | inl long ↦ let short = file.short in omega arith
  | inr none ↦ let document = file.spelled.document in cc
])
never_why text site OutOfMemory file told = refl
never_why text site (Missing key) file told = never_told_of text site (Missing key) file told
never_why text site (WrongType key) file told = never_told_of text site (WrongType key) file told
never_why text site (OutOfRange key) file told = never_told_of text site (OutOfRange key) file told
never_why text site (Twice key) file told = never_told_of text site (Twice key) file told
never_why text site (UnknownName key) file told = never_told_of text site (UnknownName key) file told
never_why text site (BadIdentity key) file told = never_told_of text site (BadIdentity key) file told
never_why text site (TooMany key) file told = never_told_of text site (TooMany key) file told
never_why text site BadLink file told = never_told_of text site BadLink file told

never_told_of_octets : (octets : List ℕ) (site : Site) (fault : SiteFault) → IsUtf8 octets → IsSiteFile octets site → AreNoFile octets → fault ≡ OutOfMemory
never_told_of_octets octets site fault utf8 file (inl no_text) = absurd (no_text utf8)
never_told_of_octets octets site fault utf8 file (inr told) = absurd (let never : NotToml ≡ OutOfMemory = never_why octets site NotToml file told in cc)

pub never_why_octets : (octets : List ℕ) (site : Site) (fault : SiteFault) → IsUtf8 octets → IsSiteFile octets site → AreWhyOctets octets fault → fault ≡ OutOfMemory
never_why_octets octets site NotToml utf8 file told = never_told_of_octets octets site NotToml utf8 file told
never_why_octets octets site OutOfMemory utf8 file told = refl
never_why_octets octets site (Missing key) utf8 file told = never_told_of octets site (Missing key) file told
never_why_octets octets site (WrongType key) utf8 file told = never_told_of octets site (WrongType key) file told
never_why_octets octets site (OutOfRange key) utf8 file told = never_told_of octets site (OutOfRange key) file told
never_why_octets octets site (Twice key) utf8 file told = never_told_of octets site (Twice key) file told
never_why_octets octets site (UnknownName key) utf8 file told = never_told_of octets site (UnknownName key) file told
never_why_octets octets site (BadIdentity key) utf8 file told = never_told_of octets site (BadIdentity key) file told
never_why_octets octets site (TooMany key) utf8 file told = never_told_of octets site (TooMany key) file told
never_why_octets octets site BadLink utf8 file told = never_told_of octets site BadLink file told

-- ---- what is read

pub one_site_of : (text : List ℕ) (a b : Site) → Spells text a → Spells text b → a ≡ b
one_site_of text a b p q =
    let same : p.file ≡ q.file = one_document text p.file q.file p.document q.document in
    one_site q.file a b (subst (λ (f : Members). SpellsSite f a) same p.values) q.values

-- what the document spells, its text does
pub spelled_text : (text : List ℕ) (file : Members) (result : Result Site SiteFault) → parse_document text ≡ Some file → IfOk result (SpellsSite file) → IfOk result (Spells text)
spelled_text text file (Ok site) document values = record { file = file; document = document; values = values }
spelled_text text file (Err fault) document values = tt

no_longer_by : (n most : ℕ) (is_long : Bool) → nat_lt most n ≡ is_long → (most < n → ⊥) → n ≤ most
no_longer_by n most true e never = absurd (never (ltb-true most n e))
no_longer_by n most false e never = ltb-false most n e

pub no_longer : (n most : ℕ) → (most < n → ⊥) → n ≤ most
no_longer n most never = no_longer_by n most (nat_lt most n) refl never

pub is_file : (text : List ℕ) (result : Result Site SiteFault) → IfOk result (Spells text) → IfOk result IsChecked → IfOk result IsTyped → length text ≤ 16777216 → IfOk result (IsSiteFile text)
is_file text (Ok site) spelled checked typed short = record { spelled = spelled; checked = checked; typed = typed; short = short }
is_file text (Err fault) spelled checked typed short = tt

pub is_read : (text : List ℕ) (result : Result Site SiteFault) → IfOk result (Spells text) → IfErr result (IsWhyText text) → (site : Site) → IsSiteFile text site → (result ≡ Ok site) ⊎ (result ≡ Err OutOfMemory)
is_read text (Ok read) spelled why site file = inl (ap (λ (s : Site). Ok s) (one_site_of text read site spelled file.spelled))
is_read text (Err fault) spelled why site file = inr (ap (λ (f : SiteFault). Err f) (never_why text site fault file why))
