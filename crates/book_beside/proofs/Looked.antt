-- What a table has at each place behind a write.
use Rattle.std.proofs.Common.{◌≡◌, ◌==◌, ℕ, List, [], ◌∷◌, Bool, true, false, cond, refl, sym, ap, ◌∙◌, true≢false}
use Rattle.std.specs.Prelude.{Option, Some, None, find, not, negsuc, pos, ℤ}
use Rattle.std.specs.Bool.{Decides, one_answer}
use Rattle.std.specs.Cmp.{signed_Decides}
use Rattle.std.specs.Ordering.{int_cmp, is_eq, ordering_reverse}
use Rattle.std.proofs.lemmas.Bool.Decides.{Decides-eqb}
use Rattle.std.specs.declared.cmp.Ordering.{Ordering}
use Rattle.std.specs.declared.cmp.Ordering.TheVariants.{Equal, Greater, Less}
use Rattle.sqlite_value.specs.declared.value.Value.{Value}
use Rattle.sqlite_value.specs.declared.value.Value.TheVariants.{Int}
use Rattle.sqlite_value.specs.Order.{Row, value_cmp}
use Rattle.sqlite_value.proofs.OrderLemmas.{value_cmp-Int, value_cmp_total}
use Rattle.sqlite_trees.specs.Tree.{has_rowid, put_row, rowid, without_rowid}
use Rattle.book_beside.specs.Beside.{placed, row_at}

-- whether two numbers are the same rowid
pub same : ℤ → ℤ → Bool
same at id = is_eq (value_cmp (Int at) (Int id))

turned : (o : Ordering) → is_eq (ordering_reverse o) ≡ is_eq o
turned Less = refl
turned Equal = refl
turned Greater = refl

same-sym : (at id : ℤ) → same id at ≡ same at id
unfolding same
same-sym at id = ap is_eq (value_cmp_total.antisymm (Int id) (Int at)) ∙ turned (value_cmp (Int at) (Int id))

equal_of : (o : Ordering) → is_eq o ≡ true → o ≡ Equal
equal_of Equal e = refl
equal_of Less e = absurd (true≢false (sym e))
equal_of Greater e = absurd (true≢false (sym e))

-- a row that has one number has another where the two are the same
has_same : (r : Row) (at id : ℤ) → has_rowid at r ≡ true → has_rowid id r ≡ same at id
unfolding same
has_same r at id has = ap is_eq (value_cmp_total.congr (rowid r) (Int at) (Int id) (equal_of (value_cmp (rowid r) (Int at)) has))

is_false : (b : Bool) → (b ≡ true → ⊥) → b ≡ false
is_false true apart = absurd (apart refl)
is_false false apart = refl

lacks : (r : Row) (at id : ℤ) (a b : Bool) → has_rowid at r ≡ a → same at id ≡ b → (a ≡ b → ⊥) → has_rowid id r ≡ false
lacks r at id a b has tie apart = is_false (has_rowid id r) (λ it. apart (sym has ∙ has_same r id at it ∙ same-sym at id ∙ tie))

-- ---- a row that is put

module _ (new : Row) (at : ℤ) (is : rowid new ≡ Int at) (id : ℤ) where
  new_has : has_rowid id new ≡ same at id
  unfolding same
  new_has = ap (λ (v : Value). is_eq (value_cmp v (Int id))) is

  -- it is found by its own number, and another number finds what it found
  pub find-put_row : (table : List Row) → find (has_rowid id) (put_row new table) ≡ cond (same at id) (Some new) (find (has_rowid id) table)
  find-put_row [] = ap (λ (b : Bool). cond b (Some new) None) new_has
  find-put_row (r ∷ rs) = go (value_cmp (rowid r) (rowid new)) refl (same at id) refl (find-put_row rs)
    where
      has_at : (o : Ordering) → value_cmp (rowid r) (rowid new) ≡ o → has_rowid at r ≡ is_eq o
      has_at o t = ap is_eq (sym (ap (λ (v : Value). value_cmp (rowid r) v) is) ∙ t)

      go : (o : Ordering) → value_cmp (rowid r) (rowid new) ≡ o → (b : Bool) → same at id ≡ b → find (has_rowid id) (put_row new rs) ≡ cond (same at id) (Some new) (find (has_rowid id) rs)
          → find (has_rowid id) (put_row new (r ∷ rs)) ≡ cond (same at id) (Some new) (find (has_rowid id) (r ∷ rs))
      go Less t false tie more = rw (t, more, tie) refl
      go Less t true tie more = rw (t, more, tie, lacks r at id false true (has_at Less t) tie (λ e. true≢false (sym e))) refl
      go Equal t false tie more = rw (t, new_has, tie, lacks r at id true false (has_at Equal t) tie true≢false) refl
      go Equal t true tie more = rw (t, new_has, tie) refl
      go Greater t b tie more = rw (t, new_has) refl

-- ---- a row that is taken off

module _ (at id : ℤ) where
  -- its number finds nothing, and another number finds what it found
  pub find-without_rowid : (table : List Row) → find (has_rowid id) (without_rowid at table) ≡ cond (same at id) None (find (has_rowid id) table)
  find-without_rowid [] = none (same at id)
    where
      none : (b : Bool) → None ≡ cond {A = Option Row} b None None
      none true = refl
      none false = refl
  find-without_rowid (r ∷ rs) = go (has_rowid at r) refl (same at id) refl (find-without_rowid rs)
    where
      go : (a : Bool) → has_rowid at r ≡ a → (b : Bool) → same at id ≡ b → find (has_rowid id) (without_rowid at rs) ≡ cond (same at id) None (find (has_rowid id) rs)
          → find (has_rowid id) (without_rowid at (r ∷ rs)) ≡ cond (same at id) None (find (has_rowid id) (r ∷ rs))
      go true has true tie more = rw (has, more, tie) refl
      go true has false tie more = rw (has, more, tie, lacks r at id true false has tie true≢false) refl
      go false has true tie more = rw (has, lacks r at id false true has tie (λ e. true≢false (sym e)), more, tie) refl
      go false has false tie more = rw (has, more, tie) refl

-- ---- at each place

pos_same : (m n : ℕ) → pos m ≡ pos n → m ≡ n
pos_same m n e = cc

numbers_decide : (m n : ℕ) → Decides (is_eq (int_cmp (pos m) (pos n))) (m ≡ n)
numbers_decide m n = (λ has. pos_same m n ((signed_Decides (pos m) (pos n)).0 has), λ it. (signed_Decides (pos m) (pos n)).1 (ap pos it))

pub same_places : (m n : ℕ) → is_eq (value_cmp (Int (pos m)) (Int (pos n))) ≡ (m == n)
same_places m n = ap is_eq (value_cmp-Int (pos m) (pos n)) ∙ one_answer _ _ (numbers_decide m n) (Decides-eqb m n)

pub row_at-put : (table : List Row) (place : ℕ) (octets : List ℕ) (other : ℕ) → row_at (put_row (placed place octets) table) other ≡ cond (place == other) (Some (placed place octets)) (row_at table other)
unfolding same
row_at-put table place octets other =
    find-put_row (placed place octets) (pos place) refl (pos other) table ∙ ap (λ (b : Bool). cond b (Some (placed place octets)) (row_at table other)) (same_places place other)

pub row_at-without : (table : List Row) (place other : ℕ) → row_at (without_rowid (pos place) table) other ≡ cond (place == other) None (row_at table other)
unfolding same
row_at-without table place other = find-without_rowid (pos place) (pos other) table ∙ ap (λ (b : Bool). cond b None (row_at table other)) (same_places place other)

-- no place is below 0
pub apart_below : (m n : ℕ) → is_eq (value_cmp (Int (pos m)) (Int (negsuc n))) ≡ false
apart_below m n = is_false (is_eq (value_cmp (Int (pos m)) (Int (negsuc n)))) (λ e. impossible ((signed_Decides (pos m) (negsuc n)).0 (sym (ap is_eq (value_cmp-Int (pos m) (negsuc n))) ∙ e)))
  where
    impossible : pos m ≡ negsuc n → ⊥
    impossible e = cc

pub low-put : (table : List Row) (place : ℕ) (octets : List ℕ) (n : ℕ) → find (has_rowid (negsuc n)) (put_row (placed place octets) table) ≡ find (has_rowid (negsuc n)) table
unfolding same
low-put table place octets n =
    find-put_row (placed place octets) (pos place) refl (negsuc n) table ∙ ap (λ (b : Bool). cond b (Some (placed place octets)) (find (has_rowid (negsuc n)) table)) (apart_below place n)

pub low-without : (table : List Row) (place n : ℕ) → find (has_rowid (negsuc n)) (without_rowid (pos place) table) ≡ find (has_rowid (negsuc n)) table
unfolding same
low-without table place n = find-without_rowid (pos place) (negsuc n) table ∙ ap (λ (b : Bool). cond b None (find (has_rowid (negsuc n)) table)) (apart_below place n)
