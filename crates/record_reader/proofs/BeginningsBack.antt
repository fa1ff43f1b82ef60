-- The line of a beginning says this beginning.
use Rattle.std.proofs.Common.{◌≡◌, ℕ, suc, ◌+◌, ◌-◌, ◌<◌, false, nat_lt, List, [], ◌∷◌, ◌++◌, length, map, take, flat_map, codes, decimal, Ok, refl, sym, ap, ◌∙◌, arith, append-nil, append_assoc, length-append}
use Rattle.std.specs.List.{AllByRecursion}
use Rattle.std.proofs.lemmas.Bool.{le-ltb}
use Rattle.std.proofs.lemmas.List.{length-map}
use Rattle.dia_base.specs.declared.number.Moment.{Moment}
use Rattle.dia_base.specs.declared.number.NodeNo.{NodeNo}
use Rattle.farm_base.specs.declared.site.Site.{Site}
use Rattle.farm_base.specs.CheckedSite.{IsChecked}
use Rattle.farm_record.specs.Lines.{name_word, number_word}
use Rattle.record_reader.specs.Reading.{Begins, begin_of, nodes_from, said_in, word_at}
use Rattle.record_reader.specs.Telling.{IsBeginning, IsKnown, names_of}
use Rattle.record_reader.proofs.SpacedWords.{IsWord, behind_space, spaced}
use Rattle.record_reader.proofs.NumbersBack.{number_of-decimal}
use Rattle.record_reader.proofs.NamesBack.{IsWord-name, node_of-name}
use Rattle.record_reader.proofs.EventsBack.{Says, by_words, ends_in_number, name, number, written}

-- ---- two words behind others

first_of_two : (words : List (List ℕ)) (a b : List ℕ) → word_at (words ++ a ∷ b ∷ []) (length words) ≡ a
first_of_two [] a b = refl
first_of_two (word ∷ words) a b = first_of_two words a b

second_of_two : (words : List (List ℕ)) (a b : List ℕ) → word_at (words ++ a ∷ b ∷ []) (suc (length words)) ≡ b
second_of_two [] a b = refl
second_of_two (word ∷ words) a b = second_of_two words a b

before_two : (words : List (List ℕ)) (a b : List ℕ) → take (length words) (words ++ a ∷ b ∷ []) ≡ words
before_two [] a b = refl
before_two (word ∷ words) a b = ap (λ (rest : List (List ℕ)). word ∷ rest) (before_two words a b)

size : (words : List (List ℕ)) (a b : List ℕ) → length (words ++ a ∷ b ∷ []) ≡ length words + 2
size words a b = length-append words (a ∷ b ∷ [])

-- ---- nodes

abbrev names : Site → List NodeNo → List (List ℕ)
names site nodes = map (name site) nodes

nodes_back : (before : List NodeNo) (site : Site) (nodes : List NodeNo) → IsChecked site → AllByRecursion (IsKnown site) nodes
    → nodes_from before site (names site nodes) ≡ Ok (before ++ nodes)
nodes_back before site [] checked all = ap Ok (sym (append-nil before))
nodes_back before site (node ∷ nodes) checked all =
    rw (node_of-name site node checked all.0) (nodes_back (before ++ node ∷ []) site nodes checked all.1 ∙ ap Ok (append_assoc before (node ∷ []) nodes))

names_are : (site : Site) (nodes : List NodeNo) (moment : ℕ) → IsChecked site → AllByRecursion (IsKnown site) nodes → IsWord (decimal moment)
    → AllByRecursion IsWord (names site nodes ++ codes "at" ∷ decimal moment ∷ [])
names_are site [] moment checked all is = (written (codes "at") refl, (is, tt))
names_are site (node ∷ nodes) moment checked all is = (IsWord-name site node checked all.0, names_are site nodes moment checked all.1 is)

names_line : (site : Site) (nodes : List NodeNo) (rest : List (List ℕ))
    → flat_map behind_space (names site nodes ++ rest) ≡ flat_map (name_word (names_of site)) nodes ++ flat_map behind_space rest
names_line site [] rest = refl
names_line site (node ∷ nodes) rest =
    ap (λ (line : List ℕ). behind_space (name site node) ++ line) (names_line site nodes rest)
    ∙ sym (append_assoc (behind_space (name site node)) (flat_map (name_word (names_of site)) nodes) (flat_map behind_space rest))

-- the line without the one before it
abbrev pub begin_line : Site → List NodeNo → ℕ → List ℕ
begin_line site nodes moment = codes "begin" ++ flat_map (name_word (names_of site)) nodes ++ codes " at" ++ number_word moment

begin_same : (site : Site) (nodes : List NodeNo) (moment : ℕ) → begin_line site nodes moment ≡ spaced (codes "begin") (names site nodes ++ codes "at" ∷ decimal moment ∷ [])
begin_same site nodes moment =
    let rest = names_line site nodes (codes "at" ∷ decimal moment ∷ []) in
    rw rest (simp (append_assoc, append-nil))

begin_back : (site : Site) (nodes : List NodeNo) (moment : Moment) → IsChecked site → IsBeginning site nodes moment.0
    → begin_of site (names site nodes ++ codes "at" ∷ decimal moment.0 ∷ []) ≡ Ok (Begins nodes moment)
begin_back site nodes moment checked is =
    let words = names site nodes in
    let all : List (List ℕ) = words ++ codes "at" ∷ decimal moment.0 ∷ [] in
    let count : length words ≡ length nodes = length-map nodes (name site) in
    let some : 0 < length nodes = is.some in
    let long : length all ≡ length words + 2 = size words (codes "at") (decimal moment.0) in
    let enough : nat_lt (length all) 3 ≡ false = le-ltb (length all) 3 (omega arith) in
    let front : length all - 2 ≡ length words = omega arith in
    let last : length all - 1 ≡ suc (length words) = omega arith in
    rw (
      enough,
      front,
      last,
      first_of_two words (codes "at") (decimal moment.0),
      before_two words (codes "at") (decimal moment.0),
      second_of_two words (codes "at") (decimal moment.0),
      nodes_back [] site nodes checked is.nodes,
      number_of-decimal moment.0 is.moment,
    ) refl

last_word : (verb : List ℕ) (words : List (List ℕ)) (a b : List ℕ) → word_at (verb ∷ (words ++ a ∷ b ∷ [])) (length (verb ∷ (words ++ a ∷ b ∷ [])) - 1) ≡ b
last_word verb words a b =
    let place : length (verb ∷ (words ++ a ∷ b ∷ [])) - 1 ≡ suc (suc (length words)) = omega (arith, size words a b) in
    rw place (second_of_two words a b)

begin_in : (site : Site) (nodes : List NodeNo) (moment : Moment) → IsChecked site → IsBeginning site nodes moment.0
    → said_in site (spaced (codes "begin") (names site nodes ++ codes "at" ∷ decimal moment.0 ∷ [])) (codes "begin" ∷ (names site nodes ++ codes "at" ∷ decimal moment.0 ∷ [])) ≡ Ok (Begins nodes moment)
begin_in site nodes moment checked is =
    rw (last_word (codes "begin") (names site nodes) (codes "at") (decimal moment.0), ends_in_number moment.0 is.moment) (begin_back site nodes moment checked is)

pub begin_says : (site : Site) (nodes : List NodeNo) (moment : Moment) → IsChecked site → IsBeginning site nodes moment.0 → Says site (begin_line site nodes moment.0) (Begins nodes moment)
begin_says site nodes moment checked is =
    by_words site (begin_line site nodes moment.0) (codes "begin") (names site nodes ++ codes "at" ∷ decimal moment.0 ∷ []) (Begins nodes moment)
    (begin_same site nodes moment.0) (written (codes "begin") refl) (names_are site nodes moment.0 checked is.nodes (number moment.0 is.moment)) (begin_in site nodes moment checked is)
