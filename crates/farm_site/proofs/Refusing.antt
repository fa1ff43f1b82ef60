-- Why nothing is read: of a key, of an entry, of a text.
use Rattle.std.proofs.Common.{Bor, ◌≡◌, ℕ, zero, suc, ◌<◌, Bool, true, false, not, ◌&&◌, ◌||◌, List, [], ◌∷◌, ◌++◌, length, map, take, drop, drop-cons, take-append-drop, get_or, Option, Some, None, Result, Ok, Err, ℤ, refl, sym, subst, ap, ◌∙◌, inl, inr, arith}
use Rattle.std.specs.Prelude.{IfErr, IsErrAnd, IsSome, is_some, option_map}
use Rattle.std.specs.List.{AllZip, Contains, list_any}
use Rattle.std.proofs.lemmas.Bool.{lt-ltb}
use Rattle.std.proofs.lemmas.List.{get_or-map, length-map, map-append}
use Rattle.std.proofs.lemmas.List.Elements.{Contains-get_or}
use Rattle.toml.specs.Data.{Data, Items, Members, array, integer, as_array, as_integer}
use Rattle.toml.specs.Parse.{parse_document}
use Rattle.toml.specs.View.{items_of, items_view, table_view, view}
use Rattle.toml.specs.declared.value.Value.{Value}
use Rattle.cc_book.specs.declared.account.Account.{Account}
use Rattle.cc_rating.specs.Tariffs.{rates}
use Rattle.cc_rating.specs.declared.tariff.Tariff.{Tariff}
use Rattle.dia_base.specs.declared.number.NodeNo.{NodeNo}
use Rattle.farm_base.specs.declared.site.Node.{Node}
use Rattle.farm_base.specs.declared.site.Site.{Site}
use Rattle.farm_site.specs.declared.entry.Entry.{Entry}
use Rattle.farm_site.specs.declared.fault.SiteFault.{SiteFault}
use Rattle.farm_site.specs.declared.fault.SiteFault.TheVariants.{NotToml, Missing, WrongType, OutOfRange, Twice, UnknownName, BadIdentity, TooMany, BadLink, OutOfMemory}
use Rattle.farm_site.specs.declared.key.Key.{Key}
use Rattle.farm_site.specs.declared.key.Key.TheVariants as keys
use Rattle.farm_site.specs.Faults.{AreWhyOctets, IsAccountFault, IsElementFault, IsFaultIn, IsFaultOf, IsGroupTwice, IsIdentTwice, IsLinkFault, IsOfKeys, IsNodeFault, IsRouteFault, IsTableFault, IsTariffFault, IsUnknownAmong, IsWhyText, NamesNone, of_accounts, of_elements, of_entry, of_file, of_links, of_nodes, of_routes, of_table, of_tariffs}
use Rattle.farm_site.specs.Forms.{Form, all_in, all_items, form_of, has_more_than, has_type, is_in_range, items_len, need_of_account, on_integer}
use Rattle.farm_site.specs.Spelling.{SpellsAccount, SpellsLink, SpellsNode, SpellsRoute, SpellsTariff, number, tables, tables_of, texts, value_at, value_or}

and_false : (a b : Bool) → b ≡ false → (a && b) ≡ false
and_false true b e = e
and_false false b e = refl

-- one that does not pass
one_fails : (test : Data → Bool) (values : List Data) (i : ℕ) (d : Data) → i < length values → test (get_or values i d) ≡ false → all_items test (items_of values) ≡ false
one_fails test [] i d h e = absurd (omega arith)
one_fails test (x ∷ xs) zero d h e = ap (λ (b : Bool). b && all_items test (items_of xs)) e
one_fails test (x ∷ xs) (suc i) d h e = and_false (test x) (all_items test (items_of xs)) (one_fails test xs i d (omega arith) e)

pub value_fails : (test : Data → Bool) (values : List Value) (i : ℕ) (value : Value) → i < length values → value ≡ get_or values i value → test (view value) ≡ false → all_items test (items_view values) ≡ false
value_fails test values i value h is e =
    let there : get_or (map view values) i (view value) ≡ view value = get_or-map view values i value (view value) h ∙ ap view (sym is) in
    let len : length (map view values) ≡ length values = simp length-map in
    one_fails test (map view values) i (view value) (omega arith) (ap test there ∙ e)

items_len-of : (values : List Data) → items_len (items_of values) ≡ length values
items_len-of [] = refl
items_len-of (x ∷ xs) = ap suc (items_len-of xs)

pub has_more : (most : ℕ) (values : List Value) → most < length values → has_more_than most (Some (items_view values)) ≡ true
has_more most values h =
    let len : items_len (items_view values) ≡ length values = items_len-of (map view values) ∙ simp length-map in
    lt-ltb most (items_len (items_view values)) (omega arith)

-- so no item of another type is in an array of the form that a key wants
pub array_fails : (test : Data → Bool) (value : Data) (items : Items) → value ≡ array items → all_items test items ≡ false → all_in test (as_array value) ≡ false
array_fails test value items is e = subst (λ (d : Data). all_in test (as_array d) ≡ false) (sym is) e

-- one of the integers is not within the range
pub integer_fails : (test : ℤ → Bool) (values : List Value) (integers : List ℤ) (i : ℕ) (d : ℤ) → map view values ≡ map integer integers → i < length integers → test (get_or integers i d) ≡ false → all_items (λ value. on_integer test (as_integer value)) (items_view values) ≡ false
integer_fails test values integers i d same h e =
    let there : get_or (map integer integers) i (integer d) ≡ integer (get_or integers i d) = get_or-map integer integers i d (integer d) h in
    let len : length (map integer integers) ≡ length integers = simp length-map in
    subst (λ (ds : List Data). all_items (λ value. on_integer test (as_integer value)) (items_of ds) ≡ false) (sym same)
    (one_fails (λ value. on_integer test (as_integer value)) (map integer integers) i (integer d) (omega arith) (ap (λ (d : Data). on_integer test (as_integer d)) there ∙ e))

-- what stands at the key is of another type
pub wrong_type : (entry : Members) (key : Key) (form : Form) (value : Data) (fault : SiteFault) → form_of key ≡ form → value_at key entry ≡ Some value → has_type form value ≡ false → fault ≡ WrongType key → IsFaultOf entry fault
wrong_type entry key form value fault wants at h is =
    subst (λ (f : SiteFault). IsFaultOf entry f) (sym is) (value, at, ap (λ (f : Form). has_type f value) wants ∙ h)

pub out_of_range : (entry : Members) (key : Key) (form : Form) (value : Data) (fault : SiteFault) → form_of key ≡ form → value_at key entry ≡ Some value → is_in_range form value ≡ false → fault ≡ OutOfRange key → IsFaultOf entry fault
out_of_range entry key form value fault wants at h is =
    subst (λ (f : SiteFault). IsFaultOf entry f) (sym is) (value, at, ap (λ (f : Form). is_in_range f value) wants ∙ h)

-- ---- tariffs

nothing_rated : (before : List Tariff) → list_any (rates None None) before ≡ false
nothing_rated [] = refl
nothing_rated (tariff ∷ before) = nothing_rated before

number_stands : (value : Option Data) (read : Option ℕ) → value ≡ option_map number read → is_some read ≡ true → IsSome value
number_stands value None is some = absurd cc
number_stands value (Some n) is some = subst (λ (v : Option Data). IsSome v) (sym is) refl

-- what is rated already stands in the entry
pub group_twice : (before : List Tariff) (entry : Members) (group : Option ℕ) → value_at keys.Group entry ≡ option_map number group → list_any (rates group None) before ≡ true → IsGroupTwice before entry
group_twice before entry None stands there = absurd (let none = nothing_rated before in cc)
group_twice before entry (Some group) stands there = record { group = group; stands = stands; there = there }

pub ident_twice : (before : List Tariff) (entry : Members) (ident : Option ℕ) → value_at keys.Ident entry ≡ option_map number ident → list_any (rates None ident) before ≡ true → IsIdentTwice before entry
ident_twice before entry None stands there = absurd (let none = nothing_rated before in cc)
ident_twice before entry (Some ident) stands there = record { ident = ident; stands = stands; there = inr there }

pub ident_beside_group : (before : List Tariff) (entry : Members) (group ident : Option ℕ) → value_at keys.Group entry ≡ option_map number group → value_at keys.Ident entry ≡ option_map number ident → is_some group ≡ true → is_some ident ≡ true → IsIdentTwice before entry
ident_beside_group before entry group None group_stands stands some_group some = absurd cc
ident_beside_group before entry group (Some ident) group_stands stands some_group some = record { ident = ident; stands = stands; there = inl (number_stands (value_at keys.Group entry) group group_stands some_group) }

-- ---- accounts

pub account_told : (before : List Account) (entry : Members) (fault : SiteFault) → IsFaultOf entry fault → IsOfKeys need_of_account fault → IsAccountFault before entry fault
account_told before entry NotToml told of = (told, of)
account_told before entry (Missing key) told of = (told, of)
account_told before entry (WrongType key) told of = (told, of)
account_told before entry (OutOfRange key) told of = (told, of)
account_told before entry (Twice key) told of = absurd told
account_told before entry (UnknownName key) told of = (told, of)
account_told before entry (BadIdentity key) told of = (told, of)
account_told before entry (TooMany key) told of = (told, of)
account_told before entry BadLink told of = (told, of)
account_told before entry OutOfMemory told of = (told, of)

-- ---- names

-- one of the names of an array
pub unknown_among : (nodes : List Node) (may_stand : NodeNo → Bool) (key : Key) (entry : Members) (names : List (Bor (List ℕ))) (i : ℕ) (d : Bor (List ℕ)) → value_at key entry ≡ Some (texts (map (λ name. name.now) names)) → i < length names → NamesNone nodes may_stand (get_or names i d).now → IsUnknownAmong nodes may_stand key entry
unknown_among nodes may_stand key entry names i d stand h none =
    let len : length (map (λ (name : Bor (List ℕ)). name.now) names) ≡ length names = simp length-map in
    let found : get_or (map (λ (name : Bor (List ℕ)). name.now) names) i (get_or names i d).now ≡ (get_or names i d).now = get_or-map (λ (name : Bor (List ℕ)). name.now) names i d (get_or names i d).now h in
    record {
      names = map (λ name. name.now) names;
      name = (get_or names i d).now;
      stand = stand;
      among = subst (λ (name : List ℕ). Contains (map (λ (name : Bor (List ℕ)). name.now) names) name) found (Contains-get_or (map (λ (name : Bor (List ℕ)). name.now) names) i (get_or names i d).now (omega arith));
      none = none;
    }

-- ---- links

pub bad_by_ends : (itself clients fronts there : Bool) → (not itself && not clients && not fronts) ≡ false → (itself || clients || fronts || there) ≡ true
bad_by_ends true clients fronts there e = refl
bad_by_ends false true fronts there e = refl
bad_by_ends false false true there e = refl
bad_by_ends false false false there e = absurd cc

pub bad_by_pair : (itself clients fronts there : Bool) → there ≡ true → (itself || clients || fronts || there) ≡ true
bad_by_pair true clients fronts there e = refl
bad_by_pair false true fronts there e = refl
bad_by_pair false false true there e = refl
bad_by_pair false false false there e = e

-- ---- entries, and the file

-- a fault of an entry of a table, where those before it are read
pub told_in : {A : Type 0} (spells : Members → A → Type 0) (IsFault : List A → Members → SiteFault → Type 0) (key : Key) (file : Members) (seen entries : List Entry) (i : ℕ) (entry : Entry) (items : List A) (fault : SiteFault) → seen ≡ entries → value_or (tables []) key file ≡ tables (tables_of entries) → i < length seen → entry ≡ get_or seen i entry → AllZip spells (tables_of (take i seen)) items → IsFault items (table_view entry.table.now) fault → IsTableFault spells IsFault key file fault
told_in spells IsFault key file seen entries i entry items fault same stand h is before told =
    let parts : take i seen ++ entry ∷ drop (suc i) seen ≡ seen =
    ap (λ (e : Entry). take i seen ++ e ∷ drop (suc i) seen) is ∙ ap (λ (es : List Entry). take i seen ++ es) (sym (drop-cons seen i entry h)) ∙ take-append-drop i seen in
    let split : tables_of seen ≡ tables_of (take i seen) ++ table_view entry.table.now ∷ tables_of (drop (suc i) seen) =
    ap tables_of (sym parts) ∙ map-append (λ (e : Entry). table_view e.table.now) (take i seen) (entry ∷ drop (suc i) seen) in
    of_entry (tables_of (take i seen)) (tables_of (drop (suc i) seen)) (table_view entry.table.now) items (stand ∙ ap (λ (es : List Entry). tables (tables_of es)) (sym same) ∙ ap tables split) before told

-- the same, as `?` hands it on
pub handed_on : {A : Type 0} (IsTold : SiteFault → Type 0) (result : Result A SiteFault) (fault : SiteFault) → IsErrAnd result (λ given. given ≡ fault) → IsTold fault → IfErr result IsTold
handed_on IsTold (Ok x) fault is told = tt
handed_on IsTold (Err given) fault is told = subst (λ (f : SiteFault). IsTold f) (sym is) told

-- ---- texts

never_of_table : {A : Type 0} (spells : Members → A → Type 0) (IsFault : List A → Members → SiteFault → Type 0) (key : Key) (file : Members) → ((items : List A) (entry : Members) → IsFault items entry NotToml → ⊥) → IsTableFault spells IsFault key file NotToml → ⊥
never_of_table spells IsFault key file never (of_table told of) = told
never_of_table spells IsFault key file never (of_entry before after entry items stand in_order told) = never items entry told

never_told : (file : Members) → IsFaultIn file NotToml → ⊥
never_told file (of_file told of) = told
never_told file (of_elements told) = told
never_told file (of_nodes told) = never_of_table SpellsNode IsNodeFault keys.Node file (λ items entry told. told.0) told
never_told file (of_links nodes are_nodes told) = never_of_table (SpellsLink nodes) (IsLinkFault nodes) keys.Link file (λ items entry told. told.0) told
never_told file (of_routes nodes links are_nodes are_links told) = never_of_table (SpellsRoute nodes) (IsRouteFault nodes links) keys.Route file (λ items entry told. told.0) told
never_told file (of_tariffs told) = never_of_table SpellsTariff IsTariffFault keys.Tariff file (λ items entry told. told.0) told
never_told file (of_accounts told) = never_of_table SpellsAccount IsAccountFault keys.Account file (λ items entry told. told.0) told

told_of_text : (text : List ℕ) (file : Members) (fault : SiteFault) → parse_document text ≡ Some file → IsFaultIn file fault → IsWhyText text fault
told_of_text text file NotToml at told = absurd (never_told file told)
told_of_text text file (Missing key) at told = (file, at, told)
told_of_text text file (WrongType key) at told = (file, at, told)
told_of_text text file (OutOfRange key) at told = (file, at, told)
told_of_text text file (Twice key) at told = (file, at, told)
told_of_text text file (UnknownName key) at told = (file, at, told)
told_of_text text file (BadIdentity key) at told = (file, at, told)
told_of_text text file (TooMany key) at told = (file, at, told)
told_of_text text file BadLink at told = (file, at, told)
told_of_text text file OutOfMemory at told = tt

pub why_text : (text : List ℕ) (file : Members) (result : Result Site SiteFault) → parse_document text ≡ Some file → IfErr result (IsFaultIn file) → IfErr result (IsWhyText text)
why_text text file (Ok site) at told = tt
why_text text file (Err fault) at told = told_of_text text file fault at told

told_of_octets : (octets : List ℕ) (fault : SiteFault) → IsWhyText octets fault → AreWhyOctets octets fault
told_of_octets octets NotToml told = inr told
told_of_octets octets (Missing key) told = told
told_of_octets octets (WrongType key) told = told
told_of_octets octets (OutOfRange key) told = told
told_of_octets octets (Twice key) told = told
told_of_octets octets (UnknownName key) told = told
told_of_octets octets (BadIdentity key) told = told
told_of_octets octets (TooMany key) told = told
told_of_octets octets BadLink told = told
told_of_octets octets OutOfMemory told = tt

pub why_octets : (octets text : List ℕ) (result : Result Site SiteFault) → text ≡ octets → IfErr result (IsWhyText text) → IfErr result (AreWhyOctets octets)
why_octets octets text (Ok site) same told = tt
why_octets octets text (Err fault) same told = told_of_octets octets fault (subst (λ (xs : List ℕ). IsWhyText xs fault) same told)
