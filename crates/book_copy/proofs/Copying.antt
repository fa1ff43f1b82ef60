-- Rows that are copied one after the other, some of which wait to be stored.
use Rattle.std.proofs.Common.{◌≡◌, ℕ, ◌+◌, ◌<◌, ◌≤◌, List, [], ◌∷◌, ◌++◌, length, take, get_or, refl, sym, ap, ◌∙◌, append_assoc, arith, ◌⊎◌, inl, inr}
use Rattle.std.specs.Global.{Vec}
use Rattle.std.proofs.lemmas.List.{append-nil, take_all, take_more}
use Rattle.book_beside.specs.Beside.{Beside}
use Rattle.book_store.specs.Table.{Stored, octets_in, stored_with}
use Rattle.book_copy.specs.Copied.{IsBeginning}

octets_in-more : (waiting : List (Vec ℕ)) (octets : Vec ℕ) → octets_in (waiting ++ octets ∷ []) ≡ octets_in waiting ++ octets.items ∷ []
octets_in-more [] octets = refl
octets_in-more (first ∷ waiting) octets = ap (λ (xs : List (List ℕ)). first.items ∷ xs) (octets_in-more waiting octets)

-- one row more waits
pub one_more_waits : (stored : List (List ℕ)) (waiting : List (Vec ℕ)) (octets : Vec ℕ) (row : List ℕ) → octets.items ≡ row → stored ++ octets_in (waiting ++ octets ∷ []) ≡ (stored ++ octets_in waiting) ++ row ∷ []
one_more_waits stored waiting octets row is =
    ap (λ (xs : List (List ℕ)). stored ++ xs) (octets_in-more waiting octets)
    ∙ sym (append_assoc stored (octets_in waiting) (octets.items ∷ []))
    ∙ ap (λ (o : List ℕ). (stored ++ octets_in waiting) ++ o ∷ []) is

-- all that waited is stored
pub none_waits : (now all : List (List ℕ)) → now ≡ all → now ++ octets_in [] ≡ all
none_waits now all e = append-nil now ∙ e

-- one row more is copied
pub one_more_copied : (rows now copied more : List (List ℕ)) (place : ℕ) → place < length rows → now ≡ rows → more ≡ copied ++ get_or now place [] ∷ [] → copied ≡ take place rows → more ≡ take (place + 1) rows
one_more_copied rows now copied more place within same is e =
    is ∙ ap (λ (front : List (List ℕ)). front ++ get_or now place [] ∷ []) e
    ∙ ap (λ (rs : List (List ℕ)). take place rows ++ get_or rs place [] ∷ []) same
    ∙ sym (take_more rows place [] within)

pub all_copied : (rows copied : List (List ℕ)) (place : ℕ) → length rows ≤ place → copied ≡ take place rows → copied ≡ rows
all_copied rows copied place le e = e ∙ take_all place rows le

-- ---- what a crash leaves

module _ (about : List ℕ) (rows : List (List ℕ)) (beside : Beside) (left : Stored) where
  pub begins : (copied : List (List ℕ)) (n : ℕ) → n ≤ length rows → copied ≡ take n rows → left ≡ stored_with about copied beside → IsBeginning about rows beside left
  begins copied n le e is = (n, le, is ∙ ap (λ (r : List (List ℕ)). stored_with about r beside) e)

  pub begins_with_none : (copied : List (List ℕ)) → copied ≡ [] → left ≡ stored_with about copied beside → IsBeginning about rows beside left
  begins_with_none copied none is = begins copied 0 (omega arith) none is

  -- what was stored before is left, or that with one row more
  pub begins_with_more : (now : List ℕ) (seen copied : List (List ℕ)) (there : Beside) (place : ℕ) (Stands : Type 0) → place < length rows → now ≡ about → seen ≡ rows → there ≡ beside → copied ≡ take place rows
      → (Stands → IsBeginning about rows beside left) → Stands ⊎ (left ≡ stored_with now (copied ++ get_or seen place [] ∷ []) there) → IsBeginning about rows beside left
  begins_with_more now seen copied there place Stands within is same stays e before (inl stands) = before stands
  begins_with_more now seen copied there place Stands within is same stays e before (inr more) =
      begins (copied ++ get_or seen place [] ∷ []) (place + 1) (omega arith)
      (one_more_copied rows seen copied (copied ++ get_or seen place [] ∷ []) place within same refl e)
      (more ∙ ap (λ (a : List ℕ). stored_with a (copied ++ get_or seen place [] ∷ []) there) is ∙ ap (stored_with about (copied ++ get_or seen place [] ∷ [])) stays)

  -- the last of them is left out, or none
  pub begins_with_all : (now : List ℕ) (all : List (List ℕ)) (there : Beside) (Stands : Type 0) → now ≡ about → all ≡ rows → there ≡ beside → (Stands → IsBeginning about rows beside left)
      → Stands ⊎ (left ≡ stored_with now all there) → IsBeginning about rows beside left
  begins_with_all now all there Stands is e stays before (inl stands) = before stands
  begins_with_all now all there Stands is e stays before (inr whole) =
      begins all (length rows) (omega arith) (e ∙ sym (take_all (length rows) rows (omega arith))) (whole ∙ ap (λ (a : List ℕ). stored_with a all there) is ∙ ap (stored_with about all) stays)

-- what was stored before is left, or that with all that waited
pub leaves_all : (about : List ℕ) (more all : List (List ℕ)) (beside : Beside) (left : Stored) (Stands : Type 0) → more ≡ all → Stands ⊎ (left ≡ stored_with about more beside) → Stands ⊎ (left ≡ stored_with about all beside)
leaves_all about more all beside left Stands e (inl stands) = inl stands
leaves_all about more all beside left Stands e (inr is) = inr (is ∙ ap (λ (r : List (List ℕ)). stored_with about r beside) e)
