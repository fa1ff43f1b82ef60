-- What a table in order has at each place.
use Rattle.std.proofs.Common.{◌≡◌, ◌==◌, ℕ, zero, suc, ◌+◌, ◌<◌, Bool, true, false, cond, List, [], ◌∷◌, Option, Some, None, option_map, slice_get, refl, sym, ap, ◌∙◌, arith, true≢false}
use Rattle.std.specs.Prelude.{find, negsuc, pos, ◌≢◌}
use Rattle.std.proofs.lemmas.Bool.Decides.{Decides-eqb}
use Rattle.sqlite_value.specs.Order.{Row}
use Rattle.sqlite_trees.specs.Tree.{has_rowid}
use Rattle.book_beside.specs.Beside.{placed, row_at}
use Rattle.book_beside.proofs.Looked.{apart_below, same_places}
use Rattle.book_store.specs.Table.{stored, table_from}

is_false : (b : Bool) → (b ≡ true → ⊥) → b ≡ false
is_false true apart = absurd (apart refl)
is_false false apart = refl

other : (m n : ℕ) → m ≢ n → (m == n) ≡ false
other m n apart = is_false (m == n) (λ e. apart ((Decides-eqb m n).0 e))

found_if : (b : Bool) (r : Row) (o : Option Row) → b ≡ true → cond b (Some r) o ≡ Some r
found_if b r o e = ap (λ (c : Bool). cond c (Some r) o) e

past_if : (b : Bool) (r : Row) (o : Option Row) → b ≡ false → cond b (Some r) o ≡ o
past_if b r o e = ap (λ (c : Bool). cond c (Some r) o) e

find_from : (k i p : ℕ) (rows : List (List ℕ)) → p ≡ k + i → find (has_rowid (pos p)) (table_from k rows) ≡ option_map (placed p) (slice_get rows i)
find_from k i p [] e = refl
find_from k zero p (row ∷ rows) e =
    let here : k ≡ p = omega (arith, e) in
    found_if _ (stored k row) (find (has_rowid (pos p)) (table_from (suc k) rows)) (same_places k p ∙ (Decides-eqb k p).1 here) ∙ ap (λ (n : ℕ). Some (placed n row)) here
find_from k (suc i) p (row ∷ rows) e =
    past_if _ (stored k row) (find (has_rowid (pos p)) (table_from (suc k) rows)) (same_places k p ∙ other k p (λ same. absurd (omega (arith, same, e))))
    ∙ find_from (suc k) i p rows (omega (arith, e))

pub row_at-from : (rows : List (List ℕ)) (place : ℕ) → row_at (table_from 0 rows) place ≡ option_map (placed place) (slice_get rows place)
row_at-from rows place = find_from 0 place place rows (omega arith)

low_behind : (k : ℕ) (rows : List (List ℕ)) (n : ℕ) → find (has_rowid (negsuc n)) (table_from k rows) ≡ None
low_behind k [] n = refl
low_behind k (row ∷ rows) n = past_if _ (stored k row) (find (has_rowid (negsuc n)) (table_from (suc k) rows)) (apart_below k n) ∙ low_behind (suc k) rows n

pub low_from : (rows : List (List ℕ)) (n : ℕ) → find (has_rowid (negsuc n)) (table_from 0 rows) ≡ None
low_from rows n = low_behind 0 rows n
