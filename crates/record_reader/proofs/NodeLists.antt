-- The nodes that names stand for, with one name more.
use Rattle.std.proofs.Common.{◌||◌, not, nat_lt, codes, if◌then◌else◌, ◌≡◌, ℕ, zero, suc, ◌+◌, ◌-◌, ◌<◌, List, [], ◌∷◌, ◌++◌, length, map, take, drop, get_or, Bor, Result, Ok, Err, refl, ap, add-one, drop-cons}
use Rattle.dia_base.specs.declared.number.NodeNo.{NodeNo}
use Rattle.farm_base.specs.declared.site.Site.{Site}
use Rattle.farm_script.specs.declared.fault.LineFault.{LineFault}
use Rattle.farm_script.specs.Words.{node_of, ◌>>=◌}
use Rattle.std.specs.Str.{bytes_eq}
use Rattle.std.proofs.lemmas.List.{length-map}
use Rattle.farm_script.specs.declared.fault.LineFault.TheVariants.{WrongCount}
use Rattle.record_reader.specs.Reading.{Said, begin_of, beginning, nodes_from, word_at}
use Rattle.record_reader.proofs.WordLists.{no_word}

abbrev pub octets_of : List (Bor (List ℕ)) → List (List ℕ)
octets_of words = map (λ word. word.now) words

-- what one node more makes of those before it
abbrev pub nodes_with : List NodeNo → Site → Result NodeNo LineFault → List (List ℕ) → Result (List NodeNo) LineFault
nodes_with before site (Ok node) names = nodes_from (before ++ node ∷ []) site names
nodes_with before site (Err fault) names = Err fault

with_node : (before : List NodeNo) (site : Site) (read : Result NodeNo LineFault) (names : List (List ℕ))
    → (read >>= (λ node. nodes_from (before ++ node ∷ []) site names)) ≡ nodes_with before site read names
with_node before site (Ok node) names = refl
with_node before site (Err fault) names = refl

pub node_next : (before : List NodeNo) (site : Site) (names : List (Bor (List ℕ))) (i : ℕ) → i < length names
    → nodes_from before site (octets_of (drop i names)) ≡ nodes_with before site (node_of site (get_or names i no_word).now) (octets_of (drop (i + 1) names))
node_next before site names i within =
    rw (add-one, drop-cons names i no_word within) (with_node before site (node_of site (get_or names i no_word).now) (octets_of (drop (suc i) names)))

-- ---- words in front of others

pub octets_at : (words : List (Bor (List ℕ))) (i : ℕ) → word_at (octets_of words) i ≡ (get_or words i no_word).now
octets_at [] i = refl
octets_at (word ∷ words) zero = refl
octets_at (word ∷ words) (suc i) = octets_at words i

pub octets_of-take : (n : ℕ) (words : List (Bor (List ℕ))) → octets_of (take n words) ≡ take n (octets_of words)
octets_of-take zero words = refl
octets_of-take (suc n) [] = refl
octets_of-take (suc n) (word ∷ words) = ap (λ (rest : List (List ℕ)). word.now ∷ rest) (octets_of-take n words)

pub length-octets_of : (words : List (Bor (List ℕ))) → length (octets_of words) ≡ length words
length-octets_of words = length-map words (λ word. word.now)

-- what the words of a beginning say, by the words as they lie
abbrev pub begun : Site → List (Bor (List ℕ)) → Result Said LineFault
begun site words =
    if nat_lt (length words) 3 || not (bytes_eq (get_or words (length words - 2) no_word).now (codes "at")) then Err WrongCount
    else beginning site (octets_of (take (length words - 2) words)) (get_or words (length words - 1) no_word).now

pub begin_words : (site : Site) (words : List (Bor (List ℕ))) → begin_of site (octets_of words) ≡ begun site words
begin_words site words =
    rw (length-octets_of words, octets_at words (length words - 2), octets_at words (length words - 1), ← octets_of-take (length words - 2) words) refl
