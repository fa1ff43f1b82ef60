-- What is awaited changes at one node alone.
use Rattle.std.proofs.Common.{◌≡◌, ◌≢◌, ℕ, zero, suc, ◌<◌, Bool, true, false, ◌&&◌, if◌then◌else◌, List, [], ◌∷◌, length, Option, Some, slice_get, slice_set, refl, sym, ap, ◌∙◌, arith, true≢false}
use Rattle.std.specs.List.{list_all}
use Rattle.std.proofs.lemmas.Bool.Decides.{Decides-eqb}
use Rattle.dia_base.specs.declared.number.NodeNo.{NodeNo}
use Rattle.farm_base.specs.Nodes.{is_node}
use Rattle.farm_player.specs.Awaiting.{AwaitedList, is_settled, told_at, told_in, IsChangedAt}
use Rattle.farm_player.specs.Passing.{Passage}

-- ---- one item of a list is set

module _ {X : Type 0} where
  get-set_same : (xs : List X) (i : ℕ) (w : X) → i < length xs → slice_get (slice_set xs i w) i ≡ Some w
  get-set_same [] i w h = absurd (omega arith)
  get-set_same (x ∷ xs) zero w h = refl
  get-set_same (x ∷ xs) (suc i) w h = get-set_same xs i w (omega arith)

  get-set_other : (xs : List X) (i j : ℕ) (w : X) → j ≢ i → slice_get (slice_set xs i w) j ≡ slice_get xs j
  get-set_other [] i j w h = refl
  get-set_other (x ∷ xs) zero zero w h = absurd (h refl)
  get-set_other (x ∷ xs) zero (suc j) w h = refl
  get-set_other (x ∷ xs) (suc i) zero w h = refl
  get-set_other (x ∷ xs) (suc i) (suc j) w h = get-set_other xs i j w (λ e. h (ap suc e))

-- ---- one node

-- what is told of a node is set
pub changed_set : (node : NodeNo) (old : AwaitedList) (place : ℕ) (told : Option (List Passage)) → place ≡ node.0 → place < length old → IsChangedAt node told old
    (slice_set old place told)
changed_set node old place told is within other = go (is_node other node) refl
  where
    go : (b : Bool) → is_node other node ≡ b → told_at other (slice_set old place told) ≡ (if b then told else told_at other old)
    go true same =
        let here : other.0 ≡ place = (Decides-eqb other.0 node.0).0 same ∙ sym is in
        ap told_in (ap (slice_get (slice_set old place told)) here ∙ get-set_same old place told within)
    go false apart = ap told_in (get-set_other old place other.0 told (λ e. true≢false (sym ((Decides-eqb other.0 node.0).1 (e ∙ is)) ∙ apart)))

-- what is told of a node is what was
pub changed_none : (node : NodeNo) (old : AwaitedList) (told : Option (List Passage)) → told_at node old ≡ told → IsChangedAt node told old old
changed_none node old told is other = go (is_node other node) refl
  where
    go : (b : Bool) → is_node other node ≡ b → told_at other old ≡ (if b then told else told_at other old)
    go true same = ap (λ (n : ℕ). told_in (slice_get old n)) ((Decides-eqb other.0 node.0).0 same) ∙ is
    go false apart = refl

-- ---- all of them

both : (a b : Bool) → (a && b) ≡ true → (a ≡ true) × (b ≡ true)
both true b h = (refl, h)
both false b h = absurd (true≢false (sym h))

settled_at : (awaited : AwaitedList) (place : ℕ) → list_all is_settled awaited ≡ true → is_settled (told_in (slice_get awaited place)) ≡ true
settled_at [] zero e = refl
settled_at [] (suc place) e = refl
settled_at (told ∷ awaited) zero e = (both (is_settled told) (list_all is_settled awaited) e).0
settled_at (told ∷ awaited) (suc place) e = settled_at awaited place (both (is_settled told) (list_all is_settled awaited) e).1

pub all_settled : (awaited : AwaitedList) → list_all is_settled awaited ≡ true → (node : NodeNo) → is_settled (told_at node awaited) ≡ true
all_settled awaited e node = settled_at awaited node.0 e
