-- What fits at the keys of a table has no fault.
use Rattle.std.proofs.Common.{◌≡◌, ℕ, suc, ◌≤◌, Bool, true, false, ◌&&◌, List, [], ◌∷◌, ◌++◌, length, map, ℤ, Option, Some, None, refl, sym, subst, ap, ◌∙◌, arith}
use Rattle.std.specs.Prelude.{IsSome, nat_le, option_map, unwrap_or}
use Rattle.std.specs.List.{AllZip, list_all}
use Rattle.std.proofs.lemmas.Bool.{le-ltb}
use Rattle.std.proofs.lemmas.Option.{same_Some}
use Rattle.std.proofs.lemmas.Slice.Zip.{AllZip-long}
use Rattle.toml.specs.Data.{Data, Members, integer, string, table}
use Rattle.toml.specs.View.{items_of}
use Rattle.dia_base.specs.Identity.{fault_of}
use Rattle.farm_base.specs.CheckedSite.{is_visible, is_within, size_of}
use Rattle.farm_site.specs.Faults.{IsFaultOf, IsOfKeys, IsOfOptionalKey, IsTableFault, StandsAt, of_entry, of_table}
use Rattle.farm_site.specs.Forms.{Form, Need, account_id, all_items, any_text, form_of, has_more_than, has_too_many, has_type, identity_text, integer_of_size, is_in_range, is_integer, is_key, is_number, is_string, is_table, items_len, known_word, list_of_numbers, list_of_numbers_from, list_of_tables, list_of_texts, list_of_words, number_within, units_number, required}
use Rattle.farm_site.specs.Spelling.{SpellsTable, has_32_bits, number, numbers, tables, texts, value_at, value_or}
use Rattle.farm_site.specs.declared.fault.SiteFault.{SiteFault}
use Rattle.farm_site.specs.declared.fault.SiteFault.TheVariants.{NotToml, Missing, WrongType, OutOfRange, Twice, UnknownName, BadIdentity, TooMany, BadLink, OutOfMemory}
use Rattle.farm_site.specs.declared.key.Key.{Key}
use Rattle.farm_site.proofs.OneSite.{string_same, tables_same, zipped_same}
use Rattle.farm_site.proofs.Pushing.{and_both, and_left, and_right}
use Rattle.farm_site.proofs.Parting.{parted}

-- ---- what stands at a key

-- what is said of what stands there holds of the value that is known to stand there
pub at_known : (key : Key) (entry : Members) (known : Data) (Holds : Data → Type 0) → value_at key entry ≡ Some known → StandsAt key entry Holds → Holds known
at_known key entry known Holds is (value, at, holds) = subst (λ (d : Data). Holds d) (same_Some value known (sym at ∙ is)) holds

-- a value as the key wants it: of its type, and an identity where it wants one
pub record Fits (key : Key) (value : Data) : Type 0 where
  pub type : has_type (form_of key) value ≡ true
  pub range : is_in_range (form_of key) value ≡ true
  pub count : has_too_many (form_of key) value ≡ false
  pub identity : form_of key ≡ identity_text → (name : List ℕ) → value ≡ string name → fault_of name ≡ None

-- what stands at the key fits, if anything does
abbrev pub FitsAt : Key → Members → Type 0
FitsAt key entry = (value : Data) → value_at key entry ≡ Some value → Fits key value

-- every key of the table fits, and no required one is missing
pub record AreFit (need : Key → Need) (entry : Members) : Type 0 where
  pub fit : (key : Key) → is_key (need key) ≡ true → FitsAt key entry
  pub stands : (key : Key) → need key ≡ required → IsSome (value_at key entry)

pub known_fits : (key : Key) (entry : Members) (known : Data) → value_at key entry ≡ Some known → Fits key known → FitsAt key entry
known_fits key entry known is fits = λ value at. subst (λ (d : Data). Fits key d) (same_Some known value (sym is ∙ at)) fits

pub default_fits : (key : Key) (entry : Members) (absent known : Data) → value_or absent key entry ≡ known → Fits key known → FitsAt key entry
default_fits key entry absent known is fits = λ value at.
    let same : known ≡ value = sym is ∙ ap (λ (found : Option Data). unwrap_or found absent) at in
    subst (λ (d : Data). Fits key d) same fits

pub is_there : (found : Option Data) (known : Data) → found ≡ Some known → IsSome found
is_there found known is = subst (λ (o : Option Data). IsSome o) (sym is) refl

-- so a fault of the keys of the table is want of memory
pub no_fault_of : (need : Key → Need) (entry : Members) (fault : SiteFault) → AreFit need entry → IsFaultOf entry fault → IsOfKeys need fault → fault ≡ OutOfMemory
no_fault_of need entry NotToml fit told of = absurd told
no_fault_of need entry (Missing key) fit told of = absurd (let some : IsSome (value_at key entry) = fit.stands key of in cc)
no_fault_of need entry (WrongType key) fit (value, at, wrong) of = absurd (let fits : Fits key value = fit.fit key of value at in let right = fits.type in cc)
no_fault_of need entry (OutOfRange key) fit (value, at, wrong) of = absurd (let fits : Fits key value = fit.fit key of value at in let right = fits.range in cc)
no_fault_of need entry (Twice key) fit told of = absurd told
no_fault_of need entry (UnknownName key) fit told of = absurd told
no_fault_of need entry (BadIdentity key) fit (form, (value, at, (name, is, bad))) of = absurd (let fits : Fits key value = fit.fit key of value at in bad (fits.identity form name is))
no_fault_of need entry (TooMany key) fit (value, at, wrong) of = absurd (let fits : Fits key value = fit.fit key of value at in let right = fits.count in cc)
no_fault_of need entry BadLink fit told of = absurd told
no_fault_of need entry OutOfMemory fit told of = refl

-- ---- values that fit

-- a value of the form that the key wants; identities are another form
fits : (key : Key) (form : Form) (value : Data) → form_of key ≡ form → has_type form value ≡ true → is_in_range form value ≡ true → has_too_many form value ≡ false → (form ≡ identity_text → ⊥) → Fits key value
fits key form value wants type range count other = record {
  type = ap (λ (f : Form). has_type f value) wants ∙ type;
  range = ap (λ (f : Form). is_in_range f value) wants ∙ range;
  count = ap (λ (f : Form). has_too_many f value) wants ∙ count;
  identity = λ is name same. absurd (other (sym wants ∙ is));
}

pub identity_fits : (key : Key) (name : List ℕ) → form_of key ≡ identity_text → fault_of name ≡ None → Fits key (string name)
identity_fits key name wants sound = record {
  type = ap (λ (f : Form). has_type f (string name)) wants;
  range = ap (λ (f : Form). is_in_range f (string name)) wants;
  count = ap (λ (f : Form). has_too_many f (string name)) wants;
  identity = λ is other same. subst (λ (n : List ℕ). fault_of n ≡ None) (string_same name other same) sound;
}

pub text_fits : (key : Key) (text : List ℕ) → form_of key ≡ any_text → Fits key (string text)
text_fits key text wants = fits key any_text (string text) wants refl refl refl (λ is. absurd cc)

pub word_fits : (key : Key) (word : List ℕ) → form_of key ≡ known_word → Fits key (string word)
word_fits key word wants = fits key known_word (string word) wants refl refl refl (λ is. absurd cc)

pub account_id_fits : (key : Key) (id : List ℕ) → form_of key ≡ account_id → (is_within 1 64 (length id) && list_all is_visible id) ≡ true → Fits key (string id)
account_id_fits key id wants sound = fits key account_id (string id) wants refl sound refl (λ is. absurd cc)

pub units_fit : (key : Key) (n : ℕ) → form_of key ≡ units_number → Fits key (number n)
units_fit key n wants = fits key units_number (number n) wants refl refl refl (λ is. absurd cc)

pub number_fits : (key : Key) (least most n : ℕ) → form_of key ≡ number_within least most → is_within least most n ≡ true → Fits key (number n)
number_fits key least most n wants within = fits key (number_within least most) (number n) wants refl within refl (λ is. absurd cc)

pub sized_fits : (key : Key) (size : ℕ) (z : ℤ) → form_of key ≡ integer_of_size size → nat_le (size_of z) size ≡ true → Fits key (integer z)
sized_fits key size z wants small = fits key (integer_of_size size) (integer z) wants refl small refl (λ is. absurd cc)

-- ---- arrays that fit

all_pass : {A : Type 0} (value : A → Data) (test : Data → Bool) → ((a : A) → test (value a) ≡ true) → (xs : List A) → all_items test (items_of (map value xs)) ≡ true
all_pass value test pass [] = refl
all_pass value test pass (x ∷ xs) = and_both (test (value x)) (all_items test (items_of (map value xs))) (pass x) (all_pass value test pass xs)

all_in_range : (least most : ℕ) (ns : List ℕ) → list_all (is_within least most) ns ≡ true → all_items (is_number least most) (items_of (map number ns)) ≡ true
all_in_range least most [] within = refl
all_in_range least most (n ∷ ns) within =
    and_both (is_within least most n) (all_items (is_number least most) (items_of (map number ns))) (and_left (is_within least most n) (list_all (is_within least most) ns) within)
    (all_in_range least most ns (and_right (is_within least most n) (list_all (is_within least most) ns) within))

mapped_len : {A : Type 0} (value : A → Data) (xs : List A) → items_len (items_of (map value xs)) ≡ length xs
mapped_len value [] = refl
mapped_len value (x ∷ xs) = ap suc (mapped_len value xs)

not_too_many : {A : Type 0} (value : A → Data) (xs : List A) (most : ℕ) → length xs ≤ most → has_more_than most (Some (items_of (map value xs))) ≡ false
not_too_many value xs most few = let len : items_len (items_of (map value xs)) ≡ length xs = mapped_len value xs in le-ltb most (items_len (items_of (map value xs))) (omega arith)

tables_fit : (key : Key) (most : ℕ) (entries : List Members) → form_of key ≡ list_of_tables most → length entries ≤ most → Fits key (tables entries)
tables_fit key most entries wants few = fits key (list_of_tables most) (tables entries) wants (all_pass table is_table (λ entry. refl) entries) refl (not_too_many table entries most few) (λ is. absurd cc)

pub texts_fit : (key : Key) (most : ℕ) (names : List (List ℕ)) → form_of key ≡ list_of_texts most → length names ≤ most → Fits key (texts names)
texts_fit key most names wants few = fits key (list_of_texts most) (texts names) wants (all_pass string is_string (λ name. refl) names) refl (not_too_many string names most few) (λ is. absurd cc)

pub vendors_fit : (key : Key) (ns : List ℕ) → form_of key ≡ list_of_numbers → list_all has_32_bits ns ≡ true → Fits key (numbers ns)
vendors_fit key ns wants small = fits key list_of_numbers (numbers ns) wants (all_pass number is_integer (λ n. refl) ns) (all_in_range 0 4294967295 ns small) refl (λ is. absurd cc)

pub numbers_fit : (key : Key) (least most : ℕ) (ns : List ℕ) → form_of key ≡ list_of_numbers_from least most → list_all (is_within least 4294967295) ns ≡ true → length ns ≤ most → Fits key (numbers ns)
numbers_fit key least most ns wants within few = fits key (list_of_numbers_from least most) (numbers ns) wants (all_pass number is_integer (λ n. refl) ns) (all_in_range least 4294967295 ns within) (not_too_many number ns most few) (λ is. absurd cc)

pub words_fit : (key : Key) (words : List (List ℕ)) → form_of key ≡ list_of_words → Fits key (texts words)
words_fit key words wants = fits key list_of_words (texts words) wants (all_pass string is_string (λ word. refl) words) refl refl (λ is. absurd cc)

-- ---- keys that may be left out

pub optional_fits : {A : Type 0} (value : A → Data) (key : Key) (entry : Members) (known : Option A) → value_at key entry ≡ option_map value known → ((a : A) → known ≡ Some a → Fits key (value a)) → FitsAt key entry
optional_fits value key entry None is fits = λ found at. absurd cc
optional_fits value key entry (Some a) is fits = known_fits key entry (value a) is (fits a refl)

-- ---- tables

no_fault_at : (key : Key) (file : Members) (fault : SiteFault) → FitsAt key file → IsFaultOf file fault → IsOfOptionalKey key fault → fault ≡ OutOfMemory
no_fault_at key file NotToml fit told of = absurd told
no_fault_at key file (Missing other) fit told of = absurd of
no_fault_at key file (WrongType other) fit told of = absurd (let at : StandsAt key file (λ value. has_type (form_of key) value ≡ false) = subst (λ (k : Key). StandsAt k file (λ value. has_type (form_of k) value ≡ false)) of told in let fits : Fits key at.0 = fit at.0 at.1 in let right = fits.type in let wrong = at.2 in cc)
no_fault_at key file (OutOfRange other) fit told of = absurd (let at : StandsAt key file (λ value. is_in_range (form_of key) value ≡ false) = subst (λ (k : Key). StandsAt k file (λ value. is_in_range (form_of k) value ≡ false)) of told in let fits : Fits key at.0 = fit at.0 at.1 in let right = fits.range in let wrong = at.2 in cc)
no_fault_at key file (Twice other) fit told of = absurd told
no_fault_at key file (UnknownName other) fit told of = absurd told
no_fault_at key file (BadIdentity other) fit told of = absurd (let at : IsFaultOf file (BadIdentity key) = subst (λ (k : Key). IsFaultOf file (BadIdentity k)) of told in let fits : Fits key at.1.0 = fit at.1.0 at.1.1 in at.1.2.2 (fits.identity at.0 at.1.2.0 at.1.2.1))
no_fault_at key file (TooMany other) fit told of = absurd (let at : StandsAt key file (λ value. has_too_many (form_of key) value ≡ true) = subst (λ (k : Key). StandsAt k file (λ value. has_too_many (form_of k) value ≡ true)) of told in let fits : Fits key at.0 = fit at.0 at.1 in let right = fits.count in let wrong = at.2 in cc)
no_fault_at key file BadLink fit told of = absurd told
no_fault_at key file OutOfMemory fit told of = refl

-- an entry behind these has no fault
abbrev pub NoFaultBehind : {A : Type 0} → (Members → A → Type 0) → (List A → Members → SiteFault → Type 0) → List A → Type 0
NoFaultBehind {A} spells IsFault items = (before rest : List A) (item : A) (entry : Members) (fault : SiteFault) → items ≡ before ++ item ∷ rest → spells entry item → IsFault before entry fault → fault ≡ OutOfMemory

pub table_fits : {A : Type 0} (spells : Members → A → Type 0) (key : Key) (most : ℕ) (file : Members) (items : List A) → form_of key ≡ list_of_tables most → length items ≤ most → SpellsTable spells key file items → FitsAt key file
table_fits spells key most file items form few whole =
    let len : length items ≡ length whole.entries = AllZip-long spells whole.entries items whole.in_order in
    default_fits key file (tables []) (tables whole.entries) whole.stand (tables_fit key most whole.entries form (omega arith))

pub no_table_fault : {A : Type 0} (spells : Members → A → Type 0) (IsFault : List A → Members → SiteFault → Type 0) → ((entry : Members) (a b : A) → spells entry a → spells entry b → a ≡ b) → (key : Key) (file : Members) (items : List A) (fault : SiteFault) → FitsAt key file → SpellsTable spells key file items → NoFaultBehind spells IsFault items → IsTableFault spells IsFault key file fault → fault ≡ OutOfMemory
no_table_fault spells IsFault one key file items fault fit whole none (of_table told of) = no_fault_at key file fault fit told of
no_table_fault spells IsFault one key file items fault fit whole none (of_entry before after entry read stand order told) =
    let entries : whole.entries ≡ before ++ entry ∷ after = tables_same whole.entries (before ++ entry ∷ after) (sym whole.stand ∙ stand) in
    let parts = parted spells before after entry items (subst (λ (es : List Members). AllZip spells es items) entries whole.in_order) in
    let same : read ≡ parts.before = zipped_same spells one before read parts.before order parts.together in
    none parts.before parts.rest parts.item entry fault parts.whole parts.one (subst (λ (xs : List _). IsFault xs entry fault) same told)
