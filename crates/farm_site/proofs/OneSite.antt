-- A file spells one site at most.
use Rattle.std.proofs.Common.{◌≡◌, ℕ, ℤ, List, [], ◌∷◌, get_or, map, Option, Some, None, refl, sym, subst, ap, ◌∙◌, arith}
use Rattle.std.proofs.lemmas.Option.{same_Some}
use Rattle.std.specs.Prelude.{option_map, position}
use Rattle.std.specs.List.{AllZip}
use Rattle.toml.specs.Data.{Data, Items, Members, array, integer, string, table}
use Rattle.toml.specs.View.{items_of}
use Rattle.cc_book.specs.declared.account.Account.{Account}
use Rattle.cc_rating.specs.declared.tariff.Tariff.{Tariff}
use Rattle.cc_rating.specs.declared.tariff.UnitKind.{UnitKind}
use Rattle.cc_rating.specs.declared.tariff.UnitKind.TheVariants.{Time, Octets, Units}
use Rattle.dia_base.specs.declared.node.NodeKind.{NodeKind}
use Rattle.dia_base.specs.declared.node.NodeKind.TheVariants.{Relay, Front, Client}
use Rattle.dia_base.specs.declared.number.NodeNo.{NodeNo}
use Rattle.dia_grammar.specs.declared.profile.Tolerance.{Tolerance}
use Rattle.dia_grammar.specs.declared.profile.Tolerance.TheVariants.{OriginTwice, ApplicationInGroup}
use Rattle.farm_base.specs.declared.site.Link.{Link}
use Rattle.farm_base.specs.declared.site.Node.{Node}
use Rattle.farm_base.specs.declared.site.Route.{Route}
use Rattle.farm_base.specs.declared.site.Site.{Site}
use Rattle.farm_site.specs.declared.key.Key.{Key}
use Rattle.farm_site.specs.declared.key.Key.TheVariants as keys
use Rattle.farm_site.specs.Spelling.{Names, NamesAllAt, NamesAt, SpellsAccount, SpellsLink, SpellsNode, SpellsRoute, SpellsSite, SpellsTable, SpellsTariff, is_named, node_word, number, numbers, tables, texts, tolerance_word, unit_word, value_at}

-- ---- values

pub string_same : (a b : List ℕ) → string a ≡ string b → a ≡ b
string_same a b e = cc

integer_same : (a b : ℤ) → integer a ≡ integer b → a ≡ b
integer_same a b e = cc

number_same : (a b : ℕ) → number a ≡ number b → a ≡ b
number_same a b e = cc

table_same : (a b : Members) → table a ≡ table b → a ≡ b
table_same a b e = cc

array_same : (a b : Items) → array a ≡ array b → a ≡ b
array_same a b e = cc

items_same : (xs ys : List Data) → items_of xs ≡ items_of ys → xs ≡ ys
items_same [] [] e = refl
items_same [] (y ∷ ys) e = absurd cc
items_same (x ∷ xs) [] e = absurd cc
items_same (x ∷ xs) (y ∷ ys) e =
    let first : x ≡ y = cc in
    let rest : items_of xs ≡ items_of ys = cc in
    let others : xs ≡ ys = items_same xs ys rest in
    cc

map_same : {A B : Type 0} (f : A → B) → ((a b : A) → f a ≡ f b → a ≡ b) → (xs ys : List A) → map f xs ≡ map f ys → xs ≡ ys
map_same f one [] [] e = refl
map_same f one [] (y ∷ ys) e = absurd cc
map_same f one (x ∷ xs) [] e = absurd cc
map_same f one (x ∷ xs) (y ∷ ys) e =
    let first : f x ≡ f y = cc in
    let rest : map f xs ≡ map f ys = cc in
    let same : x ≡ y = one x y first in
    let others : xs ≡ ys = map_same f one xs ys rest in
    cc

pub tables_same : (xs ys : List Members) → tables xs ≡ tables ys → xs ≡ ys
tables_same xs ys e = map_same table table_same xs ys (items_same (map table xs) (map table ys) (array_same (items_of (map table xs)) (items_of (map table ys)) e))

pub texts_same : (xs ys : List (List ℕ)) → texts xs ≡ texts ys → xs ≡ ys
texts_same xs ys e = map_same string string_same xs ys (items_same (map string xs) (map string ys) (array_same (items_of (map string xs)) (items_of (map string ys)) e))

pub numbers_same : (xs ys : List ℕ) → numbers xs ≡ numbers ys → xs ≡ ys
numbers_same xs ys e = map_same number number_same xs ys (items_same (map number xs) (map number ys) (array_same (items_of (map number xs)) (items_of (map number ys)) e))

option_same : {A B : Type 0} (f : A → B) → ((a b : A) → f a ≡ f b → a ≡ b) → (x y : Option A) → option_map f x ≡ option_map f y → x ≡ y
option_same f one None None e = refl
option_same f one None (Some b) e = absurd cc
option_same f one (Some a) None e = absurd cc
option_same f one (Some a) (Some b) e =
    let values : f a ≡ f b = cc in
    let same : a ≡ b = one a b values in
    cc

-- words that begin with other letters
words_differ : (xs ys : List ℕ) → xs ≡ ys → (get_or xs 0 0 ≡ get_or ys 0 0 → ⊥) → ⊥
words_differ xs ys e differ = differ (ap (λ (word : List ℕ). get_or word 0 0) e)

node_word_same : (a b : NodeKind) → node_word a ≡ node_word b → a ≡ b
node_word_same Relay Relay e = refl
node_word_same Relay Front e = absurd (words_differ (node_word Relay) (node_word Front) e (λ first. omega arith))
node_word_same Relay Client e = absurd (words_differ (node_word Relay) (node_word Client) e (λ first. omega arith))
node_word_same Front Relay e = absurd (words_differ (node_word Front) (node_word Relay) e (λ first. omega arith))
node_word_same Front Front e = refl
node_word_same Front Client e = absurd (words_differ (node_word Front) (node_word Client) e (λ first. omega arith))
node_word_same Client Relay e = absurd (words_differ (node_word Client) (node_word Relay) e (λ first. omega arith))
node_word_same Client Front e = absurd (words_differ (node_word Client) (node_word Front) e (λ first. omega arith))
node_word_same Client Client e = refl

pub unit_word_same : (a b : UnitKind) → unit_word a ≡ unit_word b → a ≡ b
unit_word_same Time Time e = refl
unit_word_same Time Octets e = absurd (words_differ (unit_word Time) (unit_word Octets) e (λ first. omega arith))
unit_word_same Time Units e = absurd (words_differ (unit_word Time) (unit_word Units) e (λ first. omega arith))
unit_word_same Octets Time e = absurd (words_differ (unit_word Octets) (unit_word Time) e (λ first. omega arith))
unit_word_same Octets Octets e = refl
unit_word_same Octets Units e = absurd (words_differ (unit_word Octets) (unit_word Units) e (λ first. omega arith))
unit_word_same Units Time e = absurd (words_differ (unit_word Units) (unit_word Time) e (λ first. omega arith))
unit_word_same Units Octets e = absurd (words_differ (unit_word Units) (unit_word Octets) e (λ first. omega arith))
unit_word_same Units Units e = refl

pub tolerance_word_same : (a b : Tolerance) → tolerance_word a ≡ tolerance_word b → a ≡ b
tolerance_word_same OriginTwice OriginTwice e = refl
tolerance_word_same OriginTwice ApplicationInGroup e = absurd (words_differ (tolerance_word OriginTwice) (tolerance_word ApplicationInGroup) e (λ first. omega arith))
tolerance_word_same ApplicationInGroup OriginTwice e = absurd (words_differ (tolerance_word ApplicationInGroup) (tolerance_word OriginTwice) e (λ first. omega arith))
tolerance_word_same ApplicationInGroup ApplicationInGroup e = refl

pub tolerances_same : (xs ys : List Tolerance) → texts (map tolerance_word xs) ≡ texts (map tolerance_word ys) → xs ≡ ys
tolerances_same xs ys e = map_same tolerance_word tolerance_word_same xs ys (texts_same (map tolerance_word xs) (map tolerance_word ys) e)

-- what stands at a key stands there alone
pub text_at : (found : Option Data) (a b : List ℕ) → found ≡ Some (string a) → found ≡ Some (string b) → a ≡ b
text_at found a b p q = string_same a b (same_Some (string a) (string b) (sym p ∙ q))

pub number_at : (found : Option Data) (a b : ℕ) → found ≡ Some (number a) → found ≡ Some (number b) → a ≡ b
number_at found a b p q = number_same a b (same_Some (number a) (number b) (sym p ∙ q))

integer_at : (found : Option Data) (a b : ℤ) → found ≡ Some (integer a) → found ≡ Some (integer b) → a ≡ b
integer_at found a b p q = integer_same a b (same_Some (integer a) (integer b) (sym p ∙ q))

number_or : (found : Data) (a b : ℕ) → found ≡ number a → found ≡ number b → a ≡ b
number_or found a b p q = number_same a b (sym p ∙ q)

optional_at : (found : Option Data) (x y : Option ℕ) → found ≡ option_map number x → found ≡ option_map number y → x ≡ y
optional_at found x y p q = option_same number number_same x y (sym p ∙ q)

-- ---- names

pub name_means_one : (nodes : List Node) (name : List ℕ) (a b : NodeNo) → Names nodes name a → Names nodes name b → a ≡ b
name_means_one nodes name a b p q =
    let same : a.0 ≡ b.0 = same_Some a.0 b.0 (sym p ∙ q) in
    λ i. record { 0 = same i }

pub named_at : (nodes : List Node) (key : Key) (entry : Members) (a b : NodeNo) → NamesAt nodes key entry a → NamesAt nodes key entry b → a ≡ b
named_at nodes key entry a b p q =
    let names : p.name ≡ q.name = text_at (value_at key entry) p.name q.name p.stands q.stands in
    let means : position (is_named p.name) nodes ≡ Some b.0 = ap (λ (name : List ℕ). position (is_named name) nodes) names ∙ q.means in
    name_means_one nodes p.name a b p.means means

-- ---- lists

pub zipped_same : {A B : Type 0} (R : A → B → Type 0) → ((x : A) (y z : B) → R x y → R x z → y ≡ z) → (xs : List A) (ys zs : List B) → AllZip R xs ys → AllZip R xs zs → ys ≡ zs
zipped_same R one [] [] [] p q = refl
zipped_same R one [] [] (z ∷ zs) p q = absurd q
zipped_same R one [] (y ∷ ys) zs p q = absurd p
zipped_same R one (x ∷ xs) [] zs p q = absurd p
zipped_same R one (x ∷ xs) (y ∷ ys) [] p q = absurd q
zipped_same R one (x ∷ xs) (y ∷ ys) (z ∷ zs) p q = λ i. one x y z p.0 q.0 i ∷ zipped_same R one xs ys zs p.1 q.1 i

named_all_at : (nodes : List Node) (key : Key) (entry : Members) (a b : List NodeNo) → NamesAllAt nodes key entry a → NamesAllAt nodes key entry b → a ≡ b
named_all_at nodes key entry a b p q =
    let names : p.names ≡ q.names = texts_same p.names q.names (same_Some (texts p.names) (texts q.names) (sym p.stand ∙ q.stand)) in
    let order : AllZip (Names nodes) p.names b = subst (λ (xs : List (List ℕ)). AllZip (Names nodes) xs b) (sym names) q.in_order in
    zipped_same (Names nodes) (λ name x y p q. name_means_one nodes name x y p q) p.names a b p.in_order order

-- ---- entries

pub one_node : (entry : Members) (a b : Node) → SpellsNode entry a → SpellsNode entry b → a ≡ b
one_node entry a b p q =
    let name : a.name ≡ b.name = text_at _ a.name b.name p.name q.name in
    let kind : a.kind ≡ b.kind = node_word_same a.kind b.kind (text_at _ (node_word a.kind) (node_word b.kind) p.kind q.kind) in
    let address : a.address ≡ b.address = option_same string string_same a.address b.address (sym p.address ∙ q.address) in
    λ i. record { name = name i; kind = kind i; address = address i }

pub one_link : (nodes : List Node) (entry : Members) (a b : Link) → SpellsLink nodes entry a → SpellsLink nodes entry b → a ≡ b
one_link nodes entry a b p q =
    let from : a.from ≡ b.from = named_at nodes _ entry a.from b.from p.from q.from in
    let to : a.to ≡ b.to = named_at nodes _ entry a.to b.to p.to q.to in
    λ i. record { from = from i; to = to i }

pub one_route : (nodes : List Node) (entry : Members) (a b : Route) → SpellsRoute nodes entry a → SpellsRoute nodes entry b → a ≡ b
one_route nodes entry a b p q =
    let at : a.at ≡ b.at = named_at nodes _ entry a.at b.at p.at q.at in
    let realm : a.realm ≡ b.realm = text_at _ a.realm b.realm p.realm q.realm in
    let app : a.app ≡ b.app = number_at _ a.app b.app p.app q.app in
    let peers : a.peers ≡ b.peers = named_all_at nodes _ entry a.peers b.peers p.peers q.peers in
    λ i. record { at = at i; realm = realm i; app = app i; peers = peers i }

pub one_tariff : (entry : Members) (a b : Tariff) → SpellsTariff entry a → SpellsTariff entry b → a ≡ b
one_tariff entry a b p q =
    let group : a.group ≡ b.group = optional_at _ a.group b.group p.group q.group in
    let ident : a.ident ≡ b.ident = optional_at _ a.ident b.ident p.ident q.ident in
    let kind : a.kind ≡ b.kind = unit_word_same a.kind b.kind (text_at _ (unit_word a.kind) (unit_word b.kind) p.kind q.kind) in
    let block : a.block ≡ b.block = number_at _ a.block b.block p.block q.block in
    let price : a.price ≡ b.price = number_at _ a.price b.price p.price q.price in
    let quantum : a.quantum ≡ b.quantum = number_at _ a.quantum b.quantum p.quantum q.quantum in
    let greatest : a.greatest ≡ b.greatest = number_at _ a.greatest b.greatest p.greatest q.greatest in
    λ i. record { group = group i; ident = ident i; kind = kind i; block = block i; price = price i; quantum = quantum i; greatest = greatest i }

pub one_account : (entry : Members) (a b : Account) → SpellsAccount entry a → SpellsAccount entry b → a ≡ b
one_account entry a b p q =
    let id_kind : a.id_kind ≡ b.id_kind = number_at _ a.id_kind b.id_kind p.id_kind q.id_kind in
    let id : a.id ≡ b.id = text_at _ a.id b.id p.id q.id in
    let opening : a.opening ≡ b.opening = integer_at _ a.opening b.opening p.opening q.opening in
    λ i. record { id_kind = id_kind i; id = id i; opening = opening i }

-- ---- tables, and the whole

pub one_table : {A : Type 0} (spells : Members → A → Type 0) → ((entry : Members) (a b : A) → spells entry a → spells entry b → a ≡ b) → (key : Key) (file : Members) (a b : List A) → SpellsTable spells key file a → SpellsTable spells key file b → a ≡ b
one_table spells one key file a b p q =
    let entries : p.entries ≡ q.entries = tables_same p.entries q.entries (sym p.stand ∙ q.stand) in
    let order : AllZip spells p.entries b = subst (λ (xs : List Members). AllZip spells xs b) (sym entries) q.in_order in
    zipped_same spells one p.entries a b p.in_order order

pub one_site : (file : Members) (a b : Site) → SpellsSite file a → SpellsSite file b → a ≡ b
one_site file a b p q =
    let realm : a.realm ≡ b.realm = text_at _ a.realm b.realm p.realm q.realm in
    let validity : a.validity ≡ b.validity = number_at _ a.validity b.validity p.validity q.validity in
    let limit : a.limit ≡ b.limit = number_or _ a.limit b.limit p.limit q.limit in
    let workers : a.workers ≡ b.workers = number_or _ a.workers b.workers p.workers q.workers in
    let queue : a.queue ≡ b.queue = number_or _ a.queue b.queue p.queue q.queue in
    let vendors : a.vendors ≡ b.vendors = numbers_same a.vendors b.vendors (sym p.vendors ∙ q.vendors) in
    let known : a.known ≡ b.known = numbers_same a.known b.known (sym p.known ∙ q.known) in
    let tolerate : a.tolerate ≡ b.tolerate = tolerances_same a.tolerate b.tolerate (sym p.tolerate ∙ q.tolerate) in
    let advertise : a.advertise ≡ b.advertise = numbers_same a.advertise b.advertise (sym p.advertise ∙ q.advertise) in
    let currency : a.currency ≡ b.currency = number_at _ a.currency b.currency p.currency q.currency in
    let exponent : a.exponent ≡ b.exponent = integer_at _ a.exponent b.exponent p.exponent q.exponent in
    let watchdog : a.watchdog ≡ b.watchdog = number_or _ a.watchdog b.watchdog p.watchdog q.watchdog in
    let nodes : a.nodes ≡ b.nodes = one_table SpellsNode one_node _ file a.nodes b.nodes p.nodes q.nodes in
    let links : a.links ≡ b.links = one_table (SpellsLink a.nodes) (one_link a.nodes) _ file a.links b.links p.links (subst (λ (ns : List Node). SpellsTable (SpellsLink ns) keys.Link file b.links) (sym nodes) q.links) in
    let routes : a.routes ≡ b.routes = one_table (SpellsRoute a.nodes) (one_route a.nodes) _ file a.routes b.routes p.routes (subst (λ (ns : List Node). SpellsTable (SpellsRoute ns) keys.Route file b.routes) (sym nodes) q.routes) in
    let tariffs : a.tariffs ≡ b.tariffs = one_table SpellsTariff one_tariff _ file a.tariffs b.tariffs p.tariffs q.tariffs in
    let accounts : a.accounts ≡ b.accounts = one_table SpellsAccount one_account _ file a.accounts b.accounts p.accounts q.accounts in
    λ i. record {
      realm = realm i;
      validity = validity i;
      limit = limit i;
      workers = workers i;
      queue = queue i;
      vendors = vendors i;
      known = known i;
      tolerate = tolerate i;
      advertise = advertise i;
      currency = currency i;
      exponent = exponent i;
      watchdog = watchdog i;
      nodes = nodes i;
      links = links i;
      routes = routes i;
      tariffs = tariffs i;
      accounts = accounts i;
    }
