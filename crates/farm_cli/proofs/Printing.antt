-- Lines printed one after the other.
use Rattle.std.proofs.Common.{◌≡◌, ℕ, List, [], ◌∷◌, ◌++◌, sym, ap, ◌∙◌, append_assoc}
use Rattle.std.specs.List.{flat_map}
use Rattle.std.proofs.lemmas.List.{append-nil}

-- one more
pub flat_map-push : {A : Type 0} (line : A → List ℕ) (items : List A) (item : A) → flat_map line (items ++ item ∷ []) ≡ flat_map line items ++ line item
flat_map-push line [] item = append-nil (line item)
flat_map-push line (first ∷ items) item = ap (λ (out : List ℕ). line first ++ out) (flat_map-push line items item) ∙ sym (append_assoc (line first) (flat_map line items) (line item))
