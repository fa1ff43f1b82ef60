-- The folder of a path, by where its last slash stands.
use Rattle.std.proofs.Common.{◌≡◌, ℕ, zero, suc, ◌<◌, Bool, true, false, List, [], ◌∷◌, length, take, get_or, refl, sym, ap, ◌∙◌, arith, cond}
use Rattle.std.proofs.lemmas.Bool.Decides.{nat_tests}
use Rattle.std.proofs.lemmas.List.Folds.{list_any_at}
use Rattle.std.specs.List.{list_any}
use Rattle.book_place.specs.Place.{folder_of, is_slash}

has_slash : (path : List ℕ) (k : ℕ) → k < length path → get_or path k 0 ≡ 47 → list_any is_slash path ≡ true
has_slash path k lt at = list_any_at is_slash path k 0 lt (ap is_slash at)

no_slash : (path : List ℕ) → ((i : ℕ) → i < length path → get_or path i 0 ≡ 47 → ⊥) → list_any is_slash path ≡ false
no_slash [] none = refl
no_slash (octet ∷ path) none =
    let first : octet ≡ 47 → ⊥ = none 0 (omega arith) in
    let rest : list_any is_slash path ≡ false = no_slash path (λ i lt at. none (suc i) (omega arith) at) in
    grind (arith, nat_tests)

-- a path without a slash has no folder
pub no_folder : (path : List ℕ) → ((i : ℕ) → i < length path → get_or path i 0 ≡ 47 → ⊥) → [] ≡ folder_of path
no_folder [] none = refl
no_folder (octet ∷ path) none = sym (ap (λ (b : Bool). cond b (octet ∷ folder_of path) []) (no_slash (octet ∷ path) none))

-- it is what stands before the last slash, and that one
pub folder_to : (path : List ℕ) (k : ℕ) → k < length path → get_or path k 0 ≡ 47 → ((i : ℕ) → k < i → i < length path → get_or path i 0 ≡ 47 → ⊥) → take (suc k) path ≡ folder_of path
folder_to [] k lt at behind = absurd (omega arith)
folder_to (octet ∷ path) zero lt at behind =
    let none : [] ≡ folder_of path = no_folder path (λ i lt here. behind (suc i) (omega arith) (omega arith) here) in
    ap (λ (rest : List ℕ). octet ∷ rest) none
    ∙ sym (ap (λ (b : Bool). cond b (octet ∷ folder_of path) []) (has_slash (octet ∷ path) zero lt at))
folder_to (octet ∷ path) (suc k) lt at behind =
    let more : take (suc k) path ≡ folder_of path = folder_to path k (omega arith) at (λ i after lt here. behind (suc i) (omega arith) (omega arith) here) in
    ap (λ (rest : List ℕ). octet ∷ rest) more
    ∙ sym (ap (λ (b : Bool). cond b (octet ∷ folder_of path) []) (has_slash (octet ∷ path) (suc k) lt at))
