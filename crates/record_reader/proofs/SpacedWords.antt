-- Lines of words with one space between them, and the words that are read of them.
use Rattle.std.proofs.Common.{◌≡◌, ℕ, ◌<◌, ◌≤◌, Bool, true, false, not, ◌&&◌, ◌==◌, nat_lt, List, [], ◌∷◌, ◌++◌, length, filter, flat_map, refl, ap, ◌∙◌, arith, append-nil}
use Rattle.std.specs.List.{All, AllByRecursion, slice_split, list_all}
use Rattle.std.specs.Str.{bytes_eq}
use Rattle.std.proofs.lemmas.List.Splits.{slice_split_none, slice_split_at}
use Rattle.std.proofs.lemmas.List.Elements.{All-nil, All-cons}
use Rattle.std.proofs.lemmas.List.Folds.{list_all-append}
use Rattle.std.proofs.lemmas.Bool.{ne_eqb, ltb-true, lt-ltb}
use Rattle.farm_script.specs.Words.{words_of}

-- visible, as no space and no line feed is
abbrev pub is_ink : ℕ → Bool
is_ink octet = nat_lt 32 octet

-- octets that are one word of a line
pub record IsWord (word : List ℕ) : Type 0 where
  pub some : 0 < length word
  pub ink : list_all is_ink word ≡ true

abbrev pub behind_space : List ℕ → List ℕ
behind_space word = 32 ∷ word

-- a line of these words
abbrev pub spaced : List ℕ → List (List ℕ) → List ℕ
spaced word words = word ++ flat_map behind_space words

pub and_first : (a b : Bool) → (a && b) ≡ true → a ≡ true
and_first true b h = refl
and_first false b h = h

pub and_second : (a b : Bool) → (a && b) ≡ true → b ≡ true
and_second true b h = h
and_second false b h = absurd cc

pub ink_is_no : (blank : ℕ) → blank ≤ 32 → (word : List ℕ) → list_all is_ink word ≡ true → All (λ octet. (octet == blank) ≡ false) word
ink_is_no blank few [] h = All-nil (λ octet. (octet == blank) ≡ false)
ink_is_no blank few (octet ∷ word) h =
    let above : 32 < octet = ltb-true 32 octet (and_first (is_ink octet) (list_all is_ink word) h) in
    All-cons (λ octet. (octet == blank) ≡ false) octet word (ne_eqb octet blank (λ e. omega arith)) (ink_is_no blank few word (and_second (is_ink octet) (list_all is_ink word) h))

kept : (word : List ℕ) (words : List (List ℕ)) → 0 < length word → filter (λ word. not (length word == 0)) (word ∷ words) ≡ word ∷ filter (λ word. not (length word == 0)) words
kept word words some = let is : (length word == 0) ≡ false = ne_eqb (length word) 0 (λ z. omega arith) in rw is refl

words_of-one : (word : List ℕ) → IsWord word → words_of word ≡ word ∷ []
words_of-one word is = rw (slice_split_none (λ octet. octet == 32) word (ink_is_no 32 (omega arith) word is.ink)) (kept word [] is.some)

words_of-more : (word rest : List ℕ) → IsWord word → words_of (word ++ 32 ∷ rest) ≡ word ∷ words_of rest
words_of-more word rest is =
    rw (slice_split_at (λ octet. octet == 32) word 32 rest (ink_is_no 32 (omega arith) word is.ink) refl) (kept word (slice_split (λ octet. octet == 32) rest) is.some)

pub words_of-spaced : (word : List ℕ) (words : List (List ℕ)) → IsWord word → AllByRecursion IsWord words → words_of (spaced word words) ≡ word ∷ words
words_of-spaced word [] is all = rw (append-nil word) (words_of-one word is)
words_of-spaced word (next ∷ words) is all =
    words_of-more word (spaced next words) is ∙ ap (λ (rest : List (List ℕ)). word ∷ rest) (words_of-spaced next words all.0 all.1)

-- no octet of a line is a line feed
abbrev pub is_of_line : ℕ → Bool
is_of_line octet = nat_lt 31 octet

pub ink_in_line : (word : List ℕ) → list_all is_ink word ≡ true → list_all is_of_line word ≡ true
ink_in_line [] h = refl
ink_in_line (octet ∷ word) h =
    let above : 32 < octet = ltb-true 32 octet (and_first (is_ink octet) (list_all is_ink word) h) in
    let here : is_of_line octet ≡ true = lt-ltb 31 octet (omega arith) in
    rw (here, ink_in_line word (and_second (is_ink octet) (list_all is_ink word) h)) refl

words_in_line : (words : List (List ℕ)) → AllByRecursion IsWord words → list_all is_of_line (flat_map behind_space words) ≡ true
words_in_line [] all = refl
words_in_line (word ∷ words) all = list_all-append is_of_line word (flat_map behind_space words) ∙ rw (ink_in_line word all.0.ink, words_in_line words all.1) refl

pub spaced_in_line : (word : List ℕ) (words : List (List ℕ)) → IsWord word → AllByRecursion IsWord words → list_all is_of_line (spaced word words) ≡ true
spaced_in_line word words is all = list_all-append is_of_line word (flat_map behind_space words) ∙ rw (ink_in_line word is.ink, words_in_line words all) refl

pub line_has_no_feed : (line : List ℕ) → list_all is_of_line line ≡ true → All (λ octet. (octet == 10) ≡ false) line
line_has_no_feed [] h = All-nil (λ octet. (octet == 10) ≡ false)
line_has_no_feed (octet ∷ line) h =
    let above : 31 < octet = ltb-true 31 octet (and_first (is_of_line octet) (list_all is_of_line line) h) in
    All-cons (λ octet. (octet == 10) ≡ false) octet line (ne_eqb octet 10 (λ e. omega arith)) (line_has_no_feed line (and_second (is_of_line octet) (list_all is_of_line line) h))

-- ---- words that are not the one of a line that was not finished

abbrev pub is_below_tilde : ℕ → Bool
is_below_tilde octet = nat_lt octet 126

pub no_tilde : (word : List ℕ) → 0 < length word → list_all is_below_tilde word ≡ true → bytes_eq word (126 ∷ []) ≡ false
no_tilde [] some h = absurd (omega arith)
no_tilde (octet ∷ word) some h =
    let below : octet < 126 = ltb-true octet 126 (and_first (is_below_tilde octet) (list_all is_below_tilde word) h) in
    let other : (octet == 126) ≡ false = ne_eqb octet 126 (λ e. omega arith) in
    rw other refl
