-- The items of a change of the terms, as lists of octets.
use Rattle.std.proofs.Common.{◌≡◌, ℕ, ◌+◌, ◌-◌, ◌≤◌, ◌<◌, true, false, List, [], ◌∷◌, ◌++◌, length, map, codes, get_or, take, drop, drop-cons, length-drop, add-one, Bor, Some, None, Result, Ok, Err, refl, ap, ◌∙◌, arith}
use Rattle.std.proofs.lemmas.List.{take_all}
use Rattle.std.specs.Str.{bytes_eq}
use Rattle.cc_rating.specs.declared.tariff.Tariff.{Tariff}
use Rattle.farm_script.specs.declared.fault.LineFault.{LineFault}
use Rattle.farm_script.specs.declared.terms.AccountItem.{AccountItem}
use Rattle.farm_script.specs.declared.terms.Form.{Form}
use Rattle.farm_script.specs.TermsWords.{behind_tariffs, form_fault, item_of, items_from, next_form, tariff_of, tariffs_from}
use Rattle.farm_script.specs.Words.{◌>>=◌}
use Rattle.farm_script.proofs.WordLists.{no_word}

-- the octets of words
abbrev pub octets_of : List (Bor (List ℕ)) → List (List ℕ)
octets_of words = map (λ word. word.now) words

-- those of the word at a place
abbrev pub word_at : List (Bor (List ℕ)) → ℕ → List ℕ
word_at words place = (get_or words place no_word).now

-- the words behind the first ones
pub rest_is : (n : ℕ) (words : List (Bor (List ℕ))) → take (length words - n) (drop n words) ≡ drop n words
rest_is n words = take_all (length words - n) (drop n words) (omega (arith, length-drop n words))

-- ---- the form, behind one word more

pub form_next : (words : List (Bor (List ℕ))) (i : ℕ) (form : Form) → i < length words
    → form_fault (Ok form) (octets_of (drop i words)) ≡ form_fault (next_form form (word_at words i)) (octets_of (drop (i + 1) words))
form_next words i form within = rw (add-one, drop-cons words i no_word within) refl

-- ---- accounts

-- what one more account makes of those before it
abbrev pub items_with : List AccountItem → Result AccountItem LineFault → List (List ℕ) → Result (List AccountItem) LineFault
items_with before (Ok item) words = items_from (before ++ item ∷ []) words
items_with before (Err fault) words = Err fault

pub no_account : (words : List (Bor (List ℕ))) (before : List AccountItem) → length words < 4 → items_from before (octets_of words) ≡ Ok before
no_account [] before few = refl
no_account (a ∷ []) before few = refl
no_account (a ∷ b ∷ []) before few = refl
no_account (a ∷ b ∷ c ∷ []) before few = refl
no_account (a ∷ b ∷ c ∷ d ∷ words) before few = absurd (omega arith)

pub other_item : (words : List (Bor (List ℕ))) (before : List AccountItem) → 4 ≤ length words → bytes_eq (word_at words 0) (codes "account") ≡ false
    → items_from before (octets_of words) ≡ Ok before
other_item [] before least other = absurd (omega arith)
other_item (a ∷ []) before least other = absurd (omega arith)
other_item (a ∷ b ∷ []) before least other = absurd (omega arith)
other_item (a ∷ b ∷ c ∷ []) before least other = absurd (omega arith)
other_item (a ∷ b ∷ c ∷ d ∷ words) before least other = rw other refl

pub account_more : (words : List (Bor (List ℕ))) (before : List AccountItem) → 4 ≤ length words → bytes_eq (word_at words 0) (codes "account") ≡ true
    → items_from before (octets_of words) ≡ items_with before (item_of (word_at words 1) (word_at words 2) (word_at words 3)) (octets_of (drop 4 words))
account_more [] before least is = absurd (omega arith)
account_more (a ∷ []) before least is = absurd (omega arith)
account_more (a ∷ b ∷ []) before least is = absurd (omega arith)
account_more (a ∷ b ∷ c ∷ []) before least is = absurd (omega arith)
account_more (a ∷ b ∷ c ∷ d ∷ words) before least is = rw is (with_next (item_of b.now c.now d.now))
  where
    with_next : (one : Result AccountItem LineFault) → (one >>= (λ item. items_from (before ++ item ∷ []) (octets_of words))) ≡ items_with before one (octets_of words)
    with_next (Ok item) = refl
    with_next (Err fault) = refl

-- the accounts that are read, and the words that are left, behind one more
pub account_step : (all rest : List (Bor (List ℕ))) (before after : List AccountItem) (item : AccountItem)
    → items_from [] (octets_of all) ≡ items_from before (octets_of rest) → 4 ≤ length rest → bytes_eq (word_at rest 0) (codes "account") ≡ true
    → item_of (word_at rest 1) (word_at rest 2) (word_at rest 3) ≡ Ok item → after ≡ before ++ item ∷ []
    → items_from [] (octets_of all) ≡ items_from after (octets_of (take (length rest - 4) (drop 4 rest)))
account_step all rest before after item so_far least is one more =
    rw (more, rest_is 4 rest)
    (so_far ∙ account_more rest before least is ∙ ap (λ (r : Result AccountItem LineFault). items_with before r (octets_of (drop 4 rest))) one)

-- ---- the words behind `tariffs`

pub here_are_tariffs : (words : List (Bor (List ℕ))) → 1 ≤ length words → bytes_eq (word_at words 0) (codes "tariffs") ≡ true
    → behind_tariffs (octets_of words) ≡ Some (octets_of (drop 1 words))
here_are_tariffs [] least is = absurd (omega arith)
here_are_tariffs (a ∷ []) least is = rw is refl
here_are_tariffs (a ∷ b ∷ []) least is = rw is refl
here_are_tariffs (a ∷ b ∷ c ∷ []) least is = rw is refl
here_are_tariffs (a ∷ b ∷ c ∷ d ∷ words) least is = rw is refl

pub tariffs_are_later : (words : List (Bor (List ℕ))) → 4 ≤ length words → bytes_eq (word_at words 0) (codes "tariffs") ≡ false
    → behind_tariffs (octets_of words) ≡ behind_tariffs (octets_of (drop 4 words))
tariffs_are_later [] least other = absurd (omega arith)
tariffs_are_later (a ∷ []) least other = absurd (omega arith)
tariffs_are_later (a ∷ b ∷ []) least other = absurd (omega arith)
tariffs_are_later (a ∷ b ∷ c ∷ []) least other = absurd (omega arith)
tariffs_are_later (a ∷ b ∷ c ∷ d ∷ words) least other = rw other refl

pub no_tariffs : (words : List (Bor (List ℕ))) → 1 ≤ length words → length words < 4 → bytes_eq (word_at words 0) (codes "tariffs") ≡ false
    → behind_tariffs (octets_of words) ≡ None
no_tariffs [] least few other = absurd (omega arith)
no_tariffs (a ∷ []) least few other = rw other refl
no_tariffs (a ∷ b ∷ []) least few other = rw other refl
no_tariffs (a ∷ b ∷ c ∷ []) least few other = rw other refl
no_tariffs (a ∷ b ∷ c ∷ d ∷ words) least few other = absurd (omega arith)

-- ---- tariffs

pub no_tariff : (words : List (Bor (List ℕ))) (before : List Tariff) → length words < 8 → tariffs_from before (octets_of words) ≡ Ok before
no_tariff [] before few = refl
no_tariff (a ∷ []) before few = refl
no_tariff (a ∷ b ∷ []) before few = refl
no_tariff (a ∷ b ∷ c ∷ []) before few = refl
no_tariff (a ∷ b ∷ c ∷ d ∷ []) before few = refl
no_tariff (a ∷ b ∷ c ∷ d ∷ e ∷ []) before few = refl
no_tariff (a ∷ b ∷ c ∷ d ∷ e ∷ f ∷ []) before few = refl
no_tariff (a ∷ b ∷ c ∷ d ∷ e ∷ f ∷ g ∷ []) before few = refl
no_tariff (a ∷ b ∷ c ∷ d ∷ e ∷ f ∷ g ∷ h ∷ words) before few = absurd (omega arith)

-- what one more tariff makes of those before it
abbrev pub tariffs_with : List Tariff → Result Tariff LineFault → List (List ℕ) → Result (List Tariff) LineFault
tariffs_with before (Ok tariff) words = tariffs_from (before ++ tariff ∷ []) words
tariffs_with before (Err fault) words = Err fault

pub tariff_more : (words : List (Bor (List ℕ))) (before : List Tariff) → 8 ≤ length words
    → tariffs_from before (octets_of words)
    ≡ tariffs_with before (tariff_of (word_at words 1) (word_at words 2) (word_at words 3) (word_at words 4) (word_at words 5) (word_at words 6) (word_at words 7))
    (octets_of (drop 8 words))
tariff_more [] before least = absurd (omega arith)
tariff_more (a ∷ []) before least = absurd (omega arith)
tariff_more (a ∷ b ∷ []) before least = absurd (omega arith)
tariff_more (a ∷ b ∷ c ∷ []) before least = absurd (omega arith)
tariff_more (a ∷ b ∷ c ∷ d ∷ []) before least = absurd (omega arith)
tariff_more (a ∷ b ∷ c ∷ d ∷ e ∷ []) before least = absurd (omega arith)
tariff_more (a ∷ b ∷ c ∷ d ∷ e ∷ f ∷ []) before least = absurd (omega arith)
tariff_more (a ∷ b ∷ c ∷ d ∷ e ∷ f ∷ g ∷ []) before least = absurd (omega arith)
tariff_more (a ∷ b ∷ c ∷ d ∷ e ∷ f ∷ g ∷ h ∷ words) before least = with_next (tariff_of b.now c.now d.now e.now f.now g.now h.now)
  where
    with_next : (one : Result Tariff LineFault) → (one >>= (λ tariff. tariffs_from (before ++ tariff ∷ []) (octets_of words))) ≡ tariffs_with before one (octets_of words)
    with_next (Ok tariff) = refl
    with_next (Err fault) = refl

-- the tariffs that are read, and the words that are left, behind one more
pub tariff_step : (all rest : List (Bor (List ℕ))) (before after : List Tariff) (tariff : Tariff)
    → tariffs_from [] (octets_of all) ≡ tariffs_from before (octets_of rest) → 8 ≤ length rest
    → tariff_of (word_at rest 1) (word_at rest 2) (word_at rest 3) (word_at rest 4) (word_at rest 5) (word_at rest 6) (word_at rest 7) ≡ Ok tariff
    → after ≡ before ++ tariff ∷ []
    → tariffs_from [] (octets_of all) ≡ tariffs_from after (octets_of (take (length rest - 8) (drop 8 rest)))
tariff_step all rest before after tariff so_far least one more =
    rw (more, rest_is 8 rest)
    (so_far ∙ tariff_more rest before least ∙ ap (λ (r : Result Tariff LineFault). tariffs_with before r (octets_of (drop 8 rest))) one)
