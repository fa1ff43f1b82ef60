-- What has been read of an array, one value after another, is what the array spells; and why nothing is read.
use Rattle.std.proofs.Common.{◌≡◌, ℕ, ◌+◌, ◌<◌, ◌≤◌, List, [], ◌∷◌, ◌++◌, length, get_or, take, drop, suc, map, true, false, drop-cons, Some, None, Option, Result, Ok, Err, sym, subst}
use Rattle.std.proofs.Common.{ap, ◌∙◌, inl, inr, arith}
use Rattle.std.specs.Prelude.{◌⊎◌, IfErr, IfOk, IsErrAnd}
use Rattle.std.specs.List.{AllZip, Contains}
use Rattle.std.proofs.lemmas.List.{get_or-map, length-map, map-append, take-append-drop, take_all, take_more}
use Rattle.std.proofs.lemmas.List.Elements.{Contains-get_or}
use Rattle.std.proofs.lemmas.Slice.Zip.{all_zipped_more}
use Rattle.toml.specs.Data.{Data, Members, array, as_table, get_member}
use Rattle.toml.specs.Parse.{parse_document}
use Rattle.toml.specs.View.{items_of, items_view, view}
use Rattle.toml.specs.declared.value.Value.{Value}
use Rattle.farm_access.specs.declared.fault.AccessFault.{AccessFault}
use Rattle.farm_access.specs.declared.fault.AccessFault.TheVariants.{NotToml, NoTables, TooManyNodes, NoTexts, NoPrefix, TooManyPrefixes, NoWords, UnknownWord, WordTwice, OutOfMemory}
use Rattle.farm_access.specs.Spelling.{Asks, HasMore, HasOne, HasTwice, IsAtFrom, IsAtStrict, IsEntryFault, IsFileFault, IsFromFault, IsNoPrefix, IsNoText}
use Rattle.farm_access.specs.Spelling.{IsNoWord, IsNodesFault, IsPrefixFault, IsStrictFault, IsWhy, IsWordFault, SpellsAll, SpellsWord}
use Rattle.farm_access.specs.Spelling.{for_more, node_key, strict_key}
use Rattle.farm_access.specs.Strictness.{is_on, with_word}
use Rattle.farm_access.specs.declared.strict.Strict.{Strict}
use Rattle.farm_access.specs.declared.strict.Strictness.{Strictness}

-- ---- what is read

-- one more value, and one more item that it spells
pub values_more : {A : Type 0} (spells : Data → A → Type 0) (values : List Value) (i : ℕ) (value : Value) (old more : List A) (x : A)
    → i < length values → value ≡ get_or values i value → AllZip spells (map view (take i values)) old → spells (view value) x → more ≡ old ++ x ∷ []
    → AllZip spells (map view (take (i + 1) values)) more
values_more spells values i value old more x h is before one e =
    let there : spells (view (get_or values i value)) x = subst (λ (seen : Value). spells (view seen) x) is one in
    let parts : map view (take (i + 1) values) ≡ map view (take i values) ++ view (get_or values i value) ∷ [] =
    ap (map view) (take_more values i value h) ∙ map-append view (take i values) (get_or values i value ∷ []) in
    subst (λ (ys : List _). AllZip spells (map view (take (i + 1) values)) ys) (sym e)
    (subst (λ (zs : List _). AllZip spells zs (old ++ x ∷ [])) (sym parts)
    (all_zipped_more spells (map view (take i values)) old (view (get_or values i value)) x before there))

-- all values of the array
pub values_all : {A : Type 0} (spells : Data → A → Type 0) (value : Data) (values : List Value) (i : ℕ) (items : List A)
    → value ≡ array (items_view values) → length values ≤ 64 → length values ≤ i → AllZip spells (map view (take i values)) items
    → SpellsAll spells value items
values_all spells value values i items stand few h before =
    let len : length (map view values) ≡ length values = simp length-map in
    record {
      values = map view values;
      stand = stand;
      few = omega (arith, len, few);
      in_order = subst (λ (zs : List Value). AllZip spells (map view zs) items) (take_all i values h) before;
    }

-- ---- why nothing is read

pub has_one : (Holds : Data → Type 0) (value : Data) (values : List Value) (i : ℕ) (one : Value) → value ≡ array (items_view values)
    → i < length values → one ≡ get_or values i one → Holds (view one) → HasOne Holds value
has_one Holds value values i one stand h is holds =
    let len : length (map view values) ≡ length values = simp length-map in
    let there : get_or (map view values) i (view one) ≡ view one = get_or-map view values i one (view one) h ∙ ap view (sym is) in
    record {
      values = map view values;
      stand = stand;
      one = view one;
      among = subst (λ (d : Data). Contains (map view values) d) there (Contains-get_or (map view values) i (view one) (omega (arith, len, h)));
      holds = holds;
    }

pub has_more : (value : Data) (values : List Value) → value ≡ array (items_view values) → 64 < length values → HasMore value
has_more value values stand h =
    let len : length (map view values) ≡ length values = simp length-map in
    record { values = map view values; stand = stand; more = omega (arith, len, h) }

-- one of the values of `from`
pub prefix_told : (value : Data) (values : List Value) (i : ℕ) (one : Value) (fault : AccessFault) → value ≡ array (items_view values)
    → i < length values → one ≡ get_or values i one → IsPrefixFault (view one) fault → IsFromFault value fault
prefix_told value values i one fault stand h is (inl no_text) =
    subst (λ (f : AccessFault). IsFromFault value f) (sym no_text.0) (inr (has_one IsNoText value values i one stand h is no_text.1))
prefix_told value values i one fault stand h is (inr no_prefix) =
    subst (λ (f : AccessFault). IsFromFault value f) (sym no_prefix.0) (has_one IsNoPrefix value values i one stand h is no_prefix.1)

-- one of the entries of `node`
pub entry_told : (value : Data) (values : List Value) (i : ℕ) (one : Value) (fault : AccessFault) → value ≡ array (items_view values)
    → i < length values → one ≡ get_or values i one → IsEntryFault (view one) fault → IsNodesFault value fault
entry_told value values i one fault stand h is (inl no_table) =
    subst (λ (f : AccessFault). IsNodesFault value f) (sym no_table.0)
    (inr (has_one (λ entry. as_table entry ≡ None) value values i one stand h is no_table.1))
entry_told value values i one NotToml stand h is (inr at) = absurd at.told
entry_told value values i one NoTables stand h is (inr at) = absurd at.told
entry_told value values i one TooManyNodes stand h is (inr at) = absurd at.told
entry_told value values i one NoTexts stand h is (inr at) = has_one (λ entry. IsAtFrom entry NoTexts) value values i one stand h is at
entry_told value values i one NoPrefix stand h is (inr at) = has_one (λ entry. IsAtFrom entry NoPrefix) value values i one stand h is at
entry_told value values i one TooManyPrefixes stand h is (inr at) = has_one (λ entry. IsAtFrom entry TooManyPrefixes) value values i one stand h is at
entry_told value values i one NoWords stand h is (inr at) = absurd at.told
entry_told value values i one UnknownWord stand h is (inr at) = absurd at.told
entry_told value values i one WordTwice stand h is (inr at) = absurd at.told
entry_told value values i one OutOfMemory stand h is (inr at) = tt

-- as `?` hands it on
pub handed_on : {A : Type 0} (IsTold : AccessFault → Type 0) (result : Result A AccessFault) (fault : AccessFault)
    → IsErrAnd result (λ given. given ≡ fault) → IsTold fault → IfErr result IsTold
handed_on IsTold (Ok x) fault is told = tt
handed_on IsTold (Err given) fault is told = subst (λ (f : AccessFault). IsTold f) (sym is) told

-- one of the values of `strict`
pub word_told : (value : Data) (values : List Value) (i : ℕ) (one : Value) (fault : AccessFault) → value ≡ array (items_view values)
    → i < length values → one ≡ get_or values i one → IsWordFault (view one) fault → IsStrictFault value fault
word_told value values i one fault stand h is (inl no_text) =
    subst (λ (f : AccessFault). IsStrictFault value f) (sym no_text.0) (inr (has_one IsNoText value values i one stand h is no_text.1))
word_told value values i one fault stand h is (inr no_word) =
    subst (λ (f : AccessFault). IsStrictFault value f) (sym no_word.0) (has_one IsNoWord value values i one stand h is no_word.1)

-- ---- words

-- the values of an array up to a place, with the value there
views_more : (values : List Value) (i : ℕ) (value : Value) → i < length values → value ≡ get_or values i value
    → map view (take (i + 1) values) ≡ map view (take i values) ++ view value ∷ []
views_more values i value h is =
    ap (map view) (take_more values i value h) ∙ map-append view (take i values) (get_or values i value ∷ [])
    ∙ ap (λ (v : Value). map view (take i values) ++ view v ∷ []) (sym is)

-- one more word
pub asks_more : (values : List Value) (i : ℕ) (value : Value) (word : Strict) (before more : Strictness) → i < length values
    → value ≡ get_or values i value → Asks (map view (take i values)) before → SpellsWord (view value) word → is_on before word ≡ false
    → more ≡ with_word before word → Asks (map view (take (i + 1) values)) more
asks_more values i value word before more h is asks one fresh e =
    subst (λ (s : Strictness). Asks (map view (take (i + 1) values)) s) (sym e)
    (subst (λ (ys : List Data). Asks ys (with_word before word)) (sym (views_more values i value h is))
    (for_more (map view (take i values)) (view value) word before asks one fresh))

-- the values of an array round a place
views_split : (values : List Value) (i : ℕ) (value : Value) → i < length values → value ≡ get_or values i value
    → map view values ≡ map view (take i values) ++ view value ∷ map view (drop (suc i) values)
views_split values i value h is =
    ap (map view) (sym (take-append-drop i values)) ∙ map-append view (take i values) (drop i values)
    ∙ ap (λ (zs : List Value). map view (take i values) ++ map view zs) (drop-cons values i value h)
    ∙ ap (λ (v : Value). map view (take i values) ++ view v ∷ map view (drop (suc i) values)) (sym is)

-- a word that was asked for
pub twice_told : (value : Data) (values : List Value) (i : ℕ) (one : Value) (word : Strict) (before : Strictness) → value ≡ array (items_view values)
    → i < length values → one ≡ get_or values i one → Asks (map view (take i values)) before → SpellsWord (view one) word → is_on before word ≡ true
    → HasTwice value
twice_told value values i one word before stand h is asks spells twice = record {
  front = map view (take i values);
  word = word;
  back = map view (drop (suc i) values);
  stand =
      stand ∙ ap (λ (ds : List Data). array (items_of ds)) (views_split values i one h is
      ∙ ap (λ (d : Data). map view (take i values) ++ d ∷ map view (drop (suc i) values)) spells);
  before = before;
  asks = asks;
  twice = twice;
}

-- ---- texts

never_told : (at : Option Data) → IsFileFault at NotToml → ⊥
never_told None told = absurd cc
never_told (Some value) told = told

never_strict : (at : Option Data) → IsAtStrict at NotToml → ⊥
never_strict None told = told
never_strict (Some value) told = told

-- what is told of the nodes of a file or of what stands at `strict`
told_of_text : (text : List ℕ) (file : Members) (fault : AccessFault) → parse_document text ≡ Some file
    → IsAtStrict (get_member strict_key file) fault ⊎ IsFileFault (get_member node_key file) fault → IsWhy text fault
told_of_text text file NotToml document (inl told) = absurd (never_strict (get_member strict_key file) told)
told_of_text text file NotToml document (inr told) = absurd (never_told (get_member node_key file) told)
told_of_text text file NoTables document told = (file, document, told)
told_of_text text file TooManyNodes document told = (file, document, told)
told_of_text text file NoTexts document told = (file, document, told)
told_of_text text file NoPrefix document told = (file, document, told)
told_of_text text file TooManyPrefixes document told = (file, document, told)
told_of_text text file NoWords document told = (file, document, told)
told_of_text text file UnknownWord document told = (file, document, told)
told_of_text text file WordTwice document told = (file, document, told)
told_of_text text file OutOfMemory document told = tt

-- of a document of which a fault is told, whatever text it is of
pub why_of : {A : Type 0} (file : Members) (result : Result A AccessFault) (fault : AccessFault) → IsErrAnd result (λ given. given ≡ fault)
    → IsAtStrict (get_member strict_key file) fault ⊎ IsFileFault (get_member node_key file) fault
    → IfErr result (λ given. (text : List ℕ) → parse_document text ≡ Some file → IsWhy text given)
why_of file (Ok x) fault is told = tt
why_of file (Err given) fault is told = λ text document. subst (λ (f : AccessFault). IsWhy text f) (sym is) (told_of_text text file fault document told)

-- of a text whose document is this
pub why_text : {A : Type 0} (text : List ℕ) (file : Members) (result : Result A AccessFault) → parse_document text ≡ Some file
    → IfErr result (λ fault. (t : List ℕ) → parse_document t ≡ Some file → IsWhy t fault) → IfErr result (IsWhy text)
why_text text file (Ok x) document told = tt
why_text text file (Err fault) document told = told text document

pub spells_text : {A : Type 0} (Holds : List ℕ → A → Type 0) (text : List ℕ) (file : Members) (result : Result A AccessFault) → parse_document text ≡ Some file
    → IfOk result (λ given. (t : List ℕ) → parse_document t ≡ Some file → Holds t given) → IfOk result (Holds text)
spells_text Holds text file (Ok x) document told = told text document
spells_text Holds text file (Err fault) document told = tt
