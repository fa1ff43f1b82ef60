-- Codes that a site makes known are none of the dictionary's.
use Rattle.std.proofs.Common.{◌≡◌, ℕ, zero, suc, ◌<◌, ◌≤◌, Bool, true, false, ◌&&◌, List, [], ◌∷◌, length, get_or, None, refl, subst, arith}
use Rattle.std.specs.Prelude.{nat_le}
use Rattle.std.specs.List.{Contains, list_all}
use Rattle.std.proofs.lemmas.Bool.{leb-true}
use Rattle.dia_dict.specs.Dictionary.{row_of}
use Rattle.dia_dict.proofs.Unlisted.{gap_from_432}
use Rattle.dia_grammar.specs.Grammar.{is_standard}
use Rattle.farm_base.specs.CheckedSite.{is_free_code}
use Rattle.farm_base.specs.declared.site.Site.{Site}
use Rattle.farm_site.specs.Spelling.{IsSiteFile}
use Rattle.farm_site.proofs.Pushing.{and_left, and_right}

all_found : {A : Type 0} (test : A → Bool) (xs : List A) (k : ℕ) (d : A) → k < length xs → list_all test xs ≡ true → test (get_or xs k d) ≡ true
all_found test [] k d h all = absurd (omega arith)
all_found test (x ∷ xs) zero d h all = and_left (test x) (list_all test xs) all
all_found test (x ∷ xs) (suc k) d h all = all_found test xs k d (omega arith) (and_right (test x) (list_all test xs) all)

free_from : (code : ℕ) → is_free_code code ≡ true → 462 ≤ code
free_from code free = leb-true 462 code (and_left (nat_le 462 code) (nat_le code 4294967295) free)

pub known_from : (text : List ℕ) (site : Site) (code : ℕ) → IsSiteFile text site → Contains site.known code → 462 ≤ code
known_from text site code file (k, h, is) =
    free_from code (subst (λ (c : ℕ). is_free_code c ≡ true) is (all_found is_free_code site.known k code h file.checked.free_codes))

pub no_row_from : (code : ℕ) → 462 ≤ code → row_of code 0 ≡ None
no_row_from code least = gap_from_432 code 0 (omega arith) (λ is. omega arith) (λ is. omega arith) (λ is. omega arith) (λ is. omega arith) (λ is. omega arith) (λ is. omega arith) (λ is. omega arith) (λ is. omega arith) (λ is. omega arith) (λ is. omega arith) (λ is. omega arith) (λ is. omega arith) (λ is. omega arith) (λ is. omega arith) (λ is. omega arith) (λ is. omega arith)

not_at_most : (is_least is_most : Bool) → (is_most ≡ true → ⊥) → (is_least && is_most) ≡ false
not_at_most true true never = absurd (never refl)
not_at_most true false never = refl
not_at_most false is_most never = refl

pub not_standard_from : (code : ℕ) → 462 ≤ code → is_standard code 0 ≡ false
not_standard_from code least = not_at_most (nat_le 1 code) (nat_le code 461) (λ most. let small : code ≤ 461 = leb-true code 461 most in omega arith)
