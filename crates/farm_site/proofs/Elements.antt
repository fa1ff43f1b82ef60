-- Elements of an array that stand once, and names of tolerances.
use Rattle.std.proofs.Common.{◌≡◌, ℕ, suc, ◌+◌, ◌<◌, ◌≤◌, Bool, true, false, not, ◌&&◌, ◌||◌, List, [], ◌∷◌, ◌++◌, length, get_or, map, take, drop, drop-cons, take-append-drop, Bor, Option, None, Some, refl, sym, subst, ap, ◌∙◌, arith}
use Rattle.std.specs.Prelude.{unwrap_or}
use Rattle.std.specs.List.{Contains, list_any}
use Rattle.std.proofs.lemmas.List.{get_or-map, length-map, map-append, take_more}
use Rattle.std.proofs.lemmas.List.Elements.{Contains-get_or}
use Rattle.toml.specs.Data.{Data, Members}
use Rattle.dia_grammar.specs.declared.profile.Tolerance.{Tolerance}
use Rattle.dia_grammar.specs.declared.profile.Tolerance.TheVariants.{OriginTwice, ApplicationInGroup}
use Rattle.farm_base.specs.CheckedSite.{IsChecked, same_number, same_octets, same_tolerance}
use Rattle.farm_base.specs.Lists.{are_distinct}
use Rattle.farm_base.specs.declared.site.Site.{Site}
use Rattle.farm_site.specs.Faults.{IsElementFault, IsNoTolerance, IsNumberTwice, IsToleranceTwice}
use Rattle.farm_site.specs.Spelling.{SpellsSite, numbers, texts, tolerance_word, value_at, value_or}
use Rattle.farm_site.specs.declared.fault.SiteFault.{SiteFault}
use Rattle.farm_site.specs.declared.fault.SiteFault.TheVariants.{Twice, UnknownName, OutOfMemory}
use Rattle.farm_site.specs.declared.key.Key.{Key}
use Rattle.farm_site.specs.declared.key.Key.TheVariants as keys
use Rattle.farm_site.proofs.OneSite.{numbers_same, texts_same}
use Rattle.farm_site.proofs.Parting.{new_behind}
use Rattle.farm_site.proofs.Pushing.{distinct_push}

not_true : (b : Bool) → (b ≡ true → ⊥) → b ≡ false
not_true true never = absurd (never refl)
not_true false never = refl

-- an item that stands before itself
pub twice_behind : {A : Type 0} (same : A → A → Bool) (before rest : List A) (x : A) → list_any (λ other. same other x) before ≡ true → are_distinct same (before ++ x ∷ rest) ≡ false
twice_behind same before rest x there =
    not_true (are_distinct same (before ++ x ∷ rest)) (λ distinct. let new : list_any (λ other. same other x) before ≡ false = new_behind same before rest x distinct in cc)

-- one more number, which is none of those before it
pub number_more : (ns : List ℕ) (place d : ℕ) → place < length ns → are_distinct same_number (take place ns) ≡ true → list_any (λ other. same_number other (get_or ns place d)) (take place ns) ≡ false → are_distinct same_number (take (place + 1) ns) ≡ true
number_more ns place d h distinct new =
    ap (λ (xs : List ℕ). are_distinct same_number xs) (take_more ns place d h) ∙ distinct_push same_number (take place ns) (get_or ns place d) distinct new

-- a number that is one of those before it
pub number_twice : (ns : List ℕ) (place d : ℕ) → place < length ns → list_any (λ other. same_number other (get_or ns place d)) (take place ns) ≡ true → are_distinct same_number ns ≡ false
number_twice ns place d h there =
    let parts : take place ns ++ get_or ns place d ∷ drop (suc place) ns ≡ ns = ap (λ (xs : List ℕ). take place ns ++ xs) (sym (drop-cons ns place d h)) ∙ take-append-drop place ns in
    ap (λ (xs : List ℕ). are_distinct same_number xs) (sym parts) ∙ twice_behind same_number (take place ns) (drop (suc place) ns) (get_or ns place d) there

-- ---- the names of tolerances

same_words : (a b : Tolerance) → same_octets (tolerance_word a) (tolerance_word b) ≡ same_tolerance a b
same_words OriginTwice OriginTwice = refl
same_words OriginTwice ApplicationInGroup = refl
same_words ApplicationInGroup OriginTwice = refl
same_words ApplicationInGroup ApplicationInGroup = refl

any_word : (test : List ℕ → Bool) (known : Tolerance → Bool) → ((t : Tolerance) → test (tolerance_word t) ≡ known t) → (ts : List Tolerance) → list_any test (map tolerance_word ts) ≡ list_any known ts
any_word test known same [] = refl
any_word test known same (t ∷ ts) = ap (λ (b : Bool). b || list_any test (map tolerance_word ts)) (same t) ∙ ap (λ (b : Bool). known t || b) (any_word test known same ts)

pub word_before : (t : Tolerance) (ts : List Tolerance) → list_any (λ other. same_octets other (tolerance_word t)) (map tolerance_word ts) ≡ list_any (λ other. same_tolerance other t) ts
word_before t ts = any_word (λ (other : List ℕ). same_octets other (tolerance_word t)) (λ (other : Tolerance). same_tolerance other t) (λ other. same_words other t) ts

distinct_words : (ts : List Tolerance) → are_distinct same_octets (map tolerance_word ts) ≡ are_distinct same_tolerance ts
distinct_words [] = refl
distinct_words (t ∷ ts) =
    ap (λ (b : Bool). not b && are_distinct same_octets (map tolerance_word ts)) (any_word (same_octets (tolerance_word t)) (same_tolerance t) (λ other. same_words t other) ts)
    ∙ ap (λ (b : Bool). not (list_any (same_tolerance t) ts) && b) (distinct_words ts)

-- a name among those of tolerances is the name of one
no_word : (ts : List Tolerance) (name : List ℕ) → Contains (map tolerance_word ts) name → ((t : Tolerance) → name ≡ tolerance_word t → ⊥) → ⊥
no_word ts name (k, h, is) none =
    let len : length (map tolerance_word ts) ≡ length ts = simp length-map in
    let within : k < length ts = omega arith in
    none (get_or ts k OriginTwice) (sym is ∙ get_or-map tolerance_word ts k OriginTwice name within)

-- what stands at a key that may be left out, where something is read
names_stand : (value : Option Data) (names : List (List ℕ)) → unwrap_or value (texts []) ≡ texts names → (names ≡ [] → ⊥) → value ≡ Some (texts names)
names_stand None names is some = absurd (some (texts_same names [] (sym is)))
names_stand (Some value) names is some = ap (λ (d : Data). Some d) is

abbrev pub words : List (Bor (List ℕ)) → List (List ℕ)
words names = map (λ name. name.now) names

pub words_stand : (file : Members) (names : List (Bor (List ℕ))) (place : ℕ) → value_or (texts []) keys.Tolerate file ≡ texts (words names) → place < length names → value_at keys.Tolerate file ≡ Some (texts (words names))
words_stand file names place is h =
    let len : length (words names) ≡ length names = simp length-map in
    names_stand (value_at keys.Tolerate file) (words names) is (λ none. let empty : length (words names) ≡ 0 = ap length none in omega arith)

-- the name of no tolerance, behind those of some
pub unknown_word : (file : Members) (names : List (Bor (List ℕ))) (place : ℕ) (d : Bor (List ℕ)) → value_or (texts []) keys.Tolerate file ≡ texts (words names) → place < length names → ((t : Tolerance) → (get_or names place d).now ≡ tolerance_word t → ⊥) → IsNoTolerance file
unknown_word file names place d is h none =
    let len : length (words names) ≡ length names = simp length-map in
    let there : get_or (words names) place (get_or names place d).now ≡ (get_or names place d).now = get_or-map (λ (name : Bor (List ℕ)). name.now) names place d (get_or names place d).now h in
    record {
      names = words names;
      name = (get_or names place d).now;
      stand = words_stand file names place is h;
      among = subst (λ (name : List ℕ). Contains (words names) name) there (Contains-get_or (words names) place (get_or names place d).now (omega arith));
      none = none;
    }

-- the name of a tolerance that is one of those before it
pub word_twice : (file : Members) (names : List (Bor (List ℕ))) (place : ℕ) (d : Bor (List ℕ)) (before : List Tolerance) (t : Tolerance) → value_or (texts []) keys.Tolerate file ≡ texts (words names) → place < length names → words (take place names) ≡ map tolerance_word before → (get_or names place d).now ≡ tolerance_word t → list_any (λ other. same_tolerance other t) before ≡ true → IsToleranceTwice file
word_twice file names place d before t is h named word there =
    let rest : List (List ℕ) = words (drop (suc place) names) in
    let parts : take place names ++ get_or names place d ∷ drop (suc place) names ≡ names =
    ap (λ (xs : List (Bor (List ℕ))). take place names ++ xs) (sym (drop-cons names place d h)) ∙ take-append-drop place names in
    let split : words names ≡ words (take place names) ++ (get_or names place d).now ∷ rest =
    ap words (sym parts) ∙ map-append (λ (name : Bor (List ℕ)). name.now) (take place names) (get_or names place d ∷ drop (suc place) names) in
    let read : words names ≡ map tolerance_word before ++ tolerance_word t ∷ rest =
    split ∙ ap (λ (xs : List (List ℕ)). xs ++ (get_or names place d).now ∷ rest) named ∙ ap (λ (x : List ℕ). map tolerance_word before ++ x ∷ rest) word in
    record {
      names = words names;
      stand = words_stand file names place is h;
      twice = ap (λ (xs : List (List ℕ)). are_distinct same_octets xs) read ∙ twice_behind same_octets (map tolerance_word before) rest (tolerance_word t) (word_before t before ∙ there);
    }

-- one name more
pub words_more : (names : List (Bor (List ℕ))) (place : ℕ) (d : Bor (List ℕ)) (old more : List Tolerance) (t : Tolerance) → place < length names → words (take place names) ≡ map tolerance_word old → (get_or names place d).now ≡ tolerance_word t → more ≡ old ++ t ∷ [] → words (take (place + 1) names) ≡ map tolerance_word more
words_more names place d old more t h named word is =
    ap words (take_more names place d h) ∙ map-append (λ (name : Bor (List ℕ)). name.now) (take place names) (get_or names place d ∷ [])
    ∙ ap (λ (xs : List (List ℕ)). xs ++ (get_or names place d).now ∷ []) named ∙ ap (λ (x : List ℕ). map tolerance_word old ++ x ∷ []) word
    ∙ sym (map-append tolerance_word old (t ∷ [])) ∙ ap (λ (ts : List Tolerance). map tolerance_word ts) (sym is)

pub tolerances_more : (old more : List Tolerance) (t : Tolerance) → are_distinct same_tolerance old ≡ true → list_any (λ other. same_tolerance other t) old ≡ false → more ≡ old ++ t ∷ [] → are_distinct same_tolerance more ≡ true
tolerances_more old more t distinct new is = ap (λ (ts : List Tolerance). are_distinct same_tolerance ts) is ∙ distinct_push same_tolerance old t distinct new

-- ---- elements of a checked site

found : (key : Key) (file : Members) (absent known read : Data) → value_or absent key file ≡ known → value_at key file ≡ Some read → read ≡ known
found key file absent known read is at = sym (ap (λ (value : Option Data). unwrap_or value absent) at) ∙ is

numbers_once : (key : Key) (file : Members) (ns : List ℕ) → value_or (numbers []) key file ≡ numbers ns → are_distinct same_number ns ≡ true → IsNumberTwice key file → ⊥
numbers_once key file ns is distinct told =
    let same : told.ns ≡ ns = numbers_same told.ns ns (found key file (numbers []) (numbers ns) (numbers told.ns) is told.stand) in
    let wrong : are_distinct same_number ns ≡ false = subst (λ (xs : List ℕ). are_distinct same_number xs ≡ false) same told.twice in
    cc

tolerances_once : (file : Members) (ts : List Tolerance) → value_or (texts []) keys.Tolerate file ≡ texts (map tolerance_word ts) → are_distinct same_tolerance ts ≡ true → IsToleranceTwice file → ⊥
tolerances_once file ts is distinct told =
    let same : told.names ≡ map tolerance_word ts = texts_same told.names (map tolerance_word ts) (found keys.Tolerate file (texts []) (texts (map tolerance_word ts)) (texts told.names) is told.stand) in
    let wrong : are_distinct same_octets (map tolerance_word ts) ≡ false = subst (λ (xs : List (List ℕ)). are_distinct same_octets xs ≡ false) same told.twice in
    let right : are_distinct same_octets (map tolerance_word ts) ≡ are_distinct same_tolerance ts = distinct_words ts in
    cc

tolerances_named : (file : Members) (ts : List Tolerance) → value_or (texts []) keys.Tolerate file ≡ texts (map tolerance_word ts) → IsNoTolerance file → ⊥
tolerances_named file ts is told =
    let same : told.names ≡ map tolerance_word ts = texts_same told.names (map tolerance_word ts) (found keys.Tolerate file (texts []) (texts (map tolerance_word ts)) (texts told.names) is told.stand) in
    no_word ts told.name (subst (λ (xs : List (List ℕ)). Contains xs told.name) same told.among) told.none

pub no_element_fault : (file : Members) (site : Site) (fault : SiteFault) → SpellsSite file site → IsChecked site → IsElementFault file fault → fault ≡ OutOfMemory
no_element_fault file site (Twice keys.Known) spelled checked told = absurd (numbers_once keys.Known file site.known spelled.known checked.known told)
no_element_fault file site (Twice keys.Tolerate) spelled checked told = absurd (tolerances_once file site.tolerate spelled.tolerate checked.tolerate told)
no_element_fault file site (Twice keys.Advertise) spelled checked told = absurd (numbers_once keys.Advertise file site.advertise spelled.advertise checked.advertise told)
no_element_fault file site (UnknownName keys.Tolerate) spelled checked told = absurd (tolerances_named file site.tolerate spelled.tolerate told)
no_element_fault file site fault spelled checked told = absurd told
