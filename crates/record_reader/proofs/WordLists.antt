-- The words of a line, as the list of their octets.
use Rattle.std.proofs.Common.{◌≡◌, ℕ, ◌≤◌, ◌<◌, List, [], ◌∷◌, length, map, get_or, Bor, refl, arith}

-- what is read where there is no word
abbrev pub no_word : Bor (List ℕ)
no_word = record { ref_ptr = (0, 0); now = [] }

pub one_word : (words : List (Bor (List ℕ))) → 1 ≤ length words → length words < 2
    → map (λ word. word.now) words ≡ (get_or words 0 no_word).now ∷ []
one_word [] least most = absurd (omega arith)
one_word (a ∷ []) least most = refl
one_word (a ∷ b ∷ words) least most = absurd (omega arith)

pub two_words : (words : List (Bor (List ℕ))) → 2 ≤ length words → length words < 3
    → map (λ word. word.now) words ≡ (get_or words 0 no_word).now ∷ (get_or words 1 no_word).now ∷ []
two_words [] least most = absurd (omega arith)
two_words (a ∷ []) least most = absurd (omega arith)
two_words (a ∷ b ∷ []) least most = refl
two_words (a ∷ b ∷ c ∷ words) least most = absurd (omega arith)

pub three_words : (words : List (Bor (List ℕ))) → 3 ≤ length words → length words < 4
    → map (λ word. word.now) words ≡ (get_or words 0 no_word).now ∷ (get_or words 1 no_word).now ∷ (get_or words 2 no_word).now ∷ []
three_words [] least most = absurd (omega arith)
three_words (a ∷ []) least most = absurd (omega arith)
three_words (a ∷ b ∷ []) least most = absurd (omega arith)
three_words (a ∷ b ∷ c ∷ []) least most = refl
three_words (a ∷ b ∷ c ∷ d ∷ words) least most = absurd (omega arith)

pub four_words : (words : List (Bor (List ℕ))) → 4 ≤ length words → length words < 5
    → map (λ word. word.now) words ≡ (get_or words 0 no_word).now ∷ (get_or words 1 no_word).now ∷ (get_or words 2 no_word).now ∷ (get_or words 3 no_word).now ∷ []
four_words [] least most = absurd (omega arith)
four_words (a ∷ []) least most = absurd (omega arith)
four_words (a ∷ b ∷ []) least most = absurd (omega arith)
four_words (a ∷ b ∷ c ∷ []) least most = absurd (omega arith)
four_words (a ∷ b ∷ c ∷ d ∷ []) least most = refl
four_words (a ∷ b ∷ c ∷ d ∷ e ∷ words) least most = absurd (omega arith)

pub six_words : (words : List (Bor (List ℕ))) → 6 ≤ length words → length words < 7
    → map (λ word. word.now) words ≡ (get_or words 0 no_word).now ∷ (get_or words 1 no_word).now ∷ (get_or words 2 no_word).now ∷ (get_or words 3 no_word).now ∷ (get_or words 4 no_word).now ∷ (get_or words 5 no_word).now ∷ []
six_words [] least most = absurd (omega arith)
six_words (a ∷ []) least most = absurd (omega arith)
six_words (a ∷ b ∷ []) least most = absurd (omega arith)
six_words (a ∷ b ∷ c ∷ []) least most = absurd (omega arith)
six_words (a ∷ b ∷ c ∷ d ∷ []) least most = absurd (omega arith)
six_words (a ∷ b ∷ c ∷ d ∷ e ∷ []) least most = absurd (omega arith)
six_words (a ∷ b ∷ c ∷ d ∷ e ∷ f ∷ []) least most = refl
six_words (a ∷ b ∷ c ∷ d ∷ e ∷ f ∷ g ∷ words) least most = absurd (omega arith)
