-- What a site file says of who may come up, and why a text says nothing.
use Rattle.std.specs.Prelude.{◌≡◌, ◌⊎◌, ◌<◌, ◌≤◌, ℕ, true, false, List, [], ◌∷◌, ◌++◌, Option, Some, None, codes, length}
use Rattle.std.specs.List.{AllZip, Contains}
use Rattle.std.specs.Str.{IsUtf8}
use Rattle.toml.specs.Data.{Data, Members, array, string, table, as_array, as_str, as_table, get_member}
use Rattle.toml.specs.Parse.{parse_document}
use Rattle.toml.specs.View.{items_of}
use Rattle.farm_access.specs.declared.coming.AddressRule.{AddressRule}
use Rattle.farm_access.specs.declared.coming.AddressRule.TheVariants.{Any, Within}
use Rattle.farm_access.specs.declared.fault.AccessFault.{AccessFault}
use Rattle.farm_access.specs.declared.fault.AccessFault.TheVariants.{NotToml, NoTables, TooManyNodes, NoTexts, NoPrefix, TooManyPrefixes, NoWords, UnknownWord, WordTwice, OutOfMemory}
use Rattle.farm_access.specs.declared.prefix.Prefix.{Prefix}
use Rattle.farm_access.specs.declared.strict.Strict.{Strict}
use Rattle.farm_access.specs.declared.strict.Strictness.{Strictness}
use Rattle.farm_access.specs.Prefixes.{IsPrefixText}
use Rattle.farm_access.specs.Rules.{Policy}
use Rattle.farm_access.specs.Strictness.{is_on, lenient, with_word, word_of}

abbrev pub node_key : List ℕ
node_key = codes "node"

abbrev pub from_key : List ℕ
from_key = codes "from"

abbrev pub strict_key : List ℕ
strict_key = codes "strict"

-- ---- what a file spells

abbrev pub SpellsPrefix : Data → Prefix → Type 0
SpellsPrefix value prefix = (text : List ℕ) × (value ≡ string text) × IsPrefixText text prefix

-- The value is an array, and the items are what its values spell, one after another: none is left out, and none is added.
pub record SpellsAll {A : Type 0} (spells : Data → A → Type 0) (value : Data) (items : List A) : Type 0 where
  pub values : List Data
  pub stand : value ≡ array (items_of values)
  pub few : length values ≤ 64
  pub in_order : AllZip spells values items

-- by what stands at `from`
abbrev pub SpellsFrom : Option Data → AddressRule → Type 0
SpellsFrom None Any = Unit {0}
SpellsFrom None (Within prefixes) = ⊥
SpellsFrom (Some value) Any = ⊥
SpellsFrom (Some value) (Within prefixes) = SpellsAll SpellsPrefix value prefixes

-- the value is a table
pub record SpellsRule (entry : Data) (rule : AddressRule) : Type 0 where
  pub members : Members
  pub is : entry ≡ table members
  pub from : SpellsFrom (get_member from_key members) rule

-- by what stands at `node`: a rule for each entry
abbrev pub SpellsRules : Option Data → List AddressRule → Type 0
SpellsRules None rules = rules ≡ []
SpellsRules (Some value) rules = SpellsAll SpellsRule value rules

-- the value is this word
abbrev pub SpellsWord : Data → Strict → Type 0
SpellsWord value word = value ≡ string (word_of word)

-- Words are asked for one after another, and none twice.
pub data Asks : List Data → Strictness → Type 0 where
  for_nothing : Asks [] lenient
  for_more : (values : List Data) (value : Data) (word : Strict) (before : Strictness) → Asks values before → SpellsWord value word
      → is_on before word ≡ false → Asks (values ++ value ∷ []) (with_word before word)

-- the value is an array of words, which ask for this
pub record SpellsWords (value : Data) (strictness : Strictness) : Type 0 where
  pub values : List Data
  pub stand : value ≡ array (items_of values)
  pub asks : Asks values strictness

-- by what stands at `strict`
abbrev pub SpellsStrictness : Option Data → Strictness → Type 0
SpellsStrictness None strictness = strictness ≡ lenient
SpellsStrictness (Some value) strictness = SpellsWords value strictness

pub record Spells (text : List ℕ) (policy : Policy) : Type 0 where
  pub file : Members
  pub document : parse_document text ≡ Some file
  pub nodes : SpellsRules (get_member node_key file) policy.rules
  pub strict : SpellsStrictness (get_member strict_key file) policy.strict

-- ---- why a text spells nothing

-- one of the values of an array
pub record HasOne (Holds : Data → Type 0) (value : Data) : Type 0 where
  pub values : List Data
  pub stand : value ≡ array (items_of values)
  pub one : Data
  pub among : Contains values one
  pub holds : Holds one

-- an array of more than 64 values
pub record HasMore (value : Data) : Type 0 where
  pub values : List Data
  pub stand : value ≡ array (items_of values)
  pub more : 64 < length values

abbrev pub IsNoText : Data → Type 0
IsNoText value = as_str value ≡ None

-- a text that writes no prefix
abbrev pub IsNoPrefix : Data → Type 0
IsNoPrefix value = (text : List ℕ) × (value ≡ string text) × ((prefix : Prefix) → ¬ (IsPrefixText text prefix))

abbrev pub IsPrefixFault : Data → AccessFault → Type 0
IsPrefixFault value fault = ((fault ≡ NoTexts) × IsNoText value) ⊎ ((fault ≡ NoPrefix) × IsNoPrefix value)

-- of what stands at `from`
abbrev pub IsFromFault : Data → AccessFault → Type 0
IsFromFault value NotToml = ⊥
IsFromFault value NoTables = ⊥
IsFromFault value TooManyNodes = ⊥
IsFromFault value NoTexts = (as_array value ≡ None) ⊎ HasOne IsNoText value
IsFromFault value NoPrefix = HasOne IsNoPrefix value
IsFromFault value TooManyPrefixes = HasMore value
IsFromFault value NoWords = ⊥
IsFromFault value UnknownWord = ⊥
IsFromFault value WordTwice = ⊥
IsFromFault value OutOfMemory = Unit {0}

-- of an entry
pub record IsAtFrom (entry : Data) (fault : AccessFault) : Type 0 where
  pub members : Members
  pub value : Data
  pub is : entry ≡ table members
  pub stands : get_member from_key members ≡ Some value
  pub told : IsFromFault value fault

abbrev pub IsEntryFault : Data → AccessFault → Type 0
IsEntryFault entry fault = ((fault ≡ NoTables) × (as_table entry ≡ None)) ⊎ IsAtFrom entry fault

-- of what stands at `node`
abbrev pub IsNodesFault : Data → AccessFault → Type 0
IsNodesFault value NotToml = ⊥
IsNodesFault value NoTables = (as_array value ≡ None) ⊎ HasOne (λ entry. as_table entry ≡ None) value
IsNodesFault value TooManyNodes = HasMore value
IsNodesFault value NoTexts = HasOne (λ entry. IsAtFrom entry NoTexts) value
IsNodesFault value NoPrefix = HasOne (λ entry. IsAtFrom entry NoPrefix) value
IsNodesFault value TooManyPrefixes = HasOne (λ entry. IsAtFrom entry TooManyPrefixes) value
IsNodesFault value NoWords = ⊥
IsNodesFault value UnknownWord = ⊥
IsNodesFault value WordTwice = ⊥
IsNodesFault value OutOfMemory = Unit {0}

-- of a document
abbrev pub IsFileFault : Option Data → AccessFault → Type 0
IsFileFault None fault = fault ≡ OutOfMemory
IsFileFault (Some value) fault = IsNodesFault value fault

-- a text that is no word
abbrev pub IsNoWord : Data → Type 0
IsNoWord value = (text : List ℕ) × (value ≡ string text) × ((word : Strict) → ¬ (text ≡ word_of word))

abbrev pub IsWordFault : Data → AccessFault → Type 0
IsWordFault value fault = ((fault ≡ NoWords) × IsNoText value) ⊎ ((fault ≡ UnknownWord) × IsNoWord value)

-- a word that those before it have asked for
pub record HasTwice (value : Data) : Type 0 where
  pub front : List Data
  pub word : Strict
  pub back : List Data
  pub stand : value ≡ array (items_of (front ++ string (word_of word) ∷ back))
  pub before : Strictness
  pub asks : Asks front before
  pub twice : is_on before word ≡ true

-- of what stands at `strict`
abbrev pub IsStrictFault : Data → AccessFault → Type 0
IsStrictFault value NotToml = ⊥
IsStrictFault value NoTables = ⊥
IsStrictFault value TooManyNodes = ⊥
IsStrictFault value NoTexts = ⊥
IsStrictFault value NoPrefix = ⊥
IsStrictFault value TooManyPrefixes = ⊥
IsStrictFault value NoWords = (as_array value ≡ None) ⊎ HasOne IsNoText value
IsStrictFault value UnknownWord = HasOne IsNoWord value
IsStrictFault value WordTwice = HasTwice value
IsStrictFault value OutOfMemory = ⊥

abbrev pub IsAtStrict : Option Data → AccessFault → Type 0
IsAtStrict None fault = ⊥
IsAtStrict (Some value) fault = IsStrictFault value fault

-- the text is a document, of whose nodes the fault is told, or of what stands at `strict`
abbrev pub IsToldOf : List ℕ → AccessFault → Type 0
IsToldOf text fault =
    (file : Members) × (parse_document text ≡ Some file) × (IsAtStrict (get_member strict_key file) fault ⊎ IsFileFault (get_member node_key file) fault)

-- why octets spell nothing, unless memory ran out
abbrev pub IsWhy : List ℕ → AccessFault → Type 0
IsWhy text NotToml = ¬ (IsUtf8 text) ⊎ (parse_document text ≡ None)
IsWhy text OutOfMemory = Unit {0}
IsWhy text fault = IsToldOf text fault
