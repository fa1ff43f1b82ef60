-- The rows of a history place by place, and what they tell.
use Rattle.std.proofs.Common.{◌≡◌, ℕ, zero, suc, ◌+◌, List, [], ◌∷◌, ◌++◌, length, map, take, refl, sym, ap, subst, ◌∙◌, append_assoc, arith}
use Rattle.std.specs.Prelude.{Some, slice_get, All}
use Rattle.std.proofs.lemmas.List.{append-nil}
use Rattle.std.proofs.lemmas.List.Elements.{All-head, All-tail}
use Rattle.book_rows.specs.declared.row.Row.{Row}
use Rattle.book_rows.specs.Row.{IsRow, spelled}
use Rattle.book_rows.proofs.RowExact.{spelled_once}
use Rattle.cc_book.specs.declared.entry.Entry.{Entry}
use Rattle.cc_book.specs.declared.entry.Entry.TheVariants.{Take, Sweep, ChangeTerms}
use Rattle.cc_book.specs.declared.terms.Terms.{Terms}
use Rattle.book_entries.specs.Entries.{entry_of, history_of}
use Rattle.book_entries.specs.Rows.{HasRowAt, IsRowOf, last_sum, moment_of, row_behind, rows_from, rows_of, step_behind, stored_of, sum_of}

-- ---- what rows tell

entry_again : (terms : Terms) (before : List Entry) (sum : ℕ) (entry : Entry) → entry_of (row_behind terms before sum entry) ≡ entry
entry_again terms before sum (Take moment request) = refl
entry_again terms before sum (Sweep moment) = refl
entry_again terms before sum (ChangeTerms moment change) = refl

history_from : (terms : Terms) (before : List Entry) (sum : ℕ) (after : List Entry) → history_of (rows_from terms before sum after) ≡ after
history_from terms before sum [] = refl
history_from terms before sum (entry ∷ after) =
    let row = row_behind terms before sum entry in
    ap (λ (e : Entry). e ∷ history_of (rows_from terms (before ++ entry ∷ []) row.sum.0 after)) (entry_again terms before sum entry)
    ∙ ap (λ (es : List Entry). entry ∷ es) (history_from terms (before ++ entry ∷ []) row.sum.0 after)

pub history_again : (terms : Terms) (history : List Entry) → history_of (rows_of terms history) ≡ history
unfolding rows_of
history_again terms history = history_from terms [] 0 history

length_from : (terms : Terms) (before : List Entry) (sum : ℕ) (after : List Entry) → length (rows_from terms before sum after) ≡ length after
length_from terms before sum [] = refl
length_from terms before sum (entry ∷ after) = ap suc (length_from terms (before ++ entry ∷ []) (row_behind terms before sum entry).sum.0 after)

pub as_many : (terms : Terms) (history : List Entry) → length (rows_of terms history) ≡ length history
unfolding rows_of
as_many terms history = length_from terms [] 0 history

-- ---- place by place

record IsThere (terms : Terms) (before : List Entry) (sum : ℕ) (after : List Entry) (place : ℕ) (entry : Entry) : Type 0 where
  pub row : Row
  pub there : slice_get (rows_from terms before sum after) place ≡ Some row
  pub is : row ≡ row_behind terms (before ++ take place after) (last_sum sum (rows_from terms before sum (take place after))) entry

some_is : (a b : Entry) → Some a ≡ Some b → a ≡ b
some_is a b e = cc

is_there : (terms : Terms) (before : List Entry) (sum : ℕ) (after : List Entry) (place : ℕ) (entry : Entry) → slice_get after place ≡ Some entry → IsThere terms before sum after place entry
is_there terms before sum [] place entry e = absurd cc
is_there terms before sum (first ∷ after) zero entry e =
    let same : first ≡ entry = some_is first entry e in
    record {
      row = row_behind terms before sum first;
      there = refl;
      is = ap (λ (front : List Entry). row_behind terms front sum first) (sym (append-nil before)) ∙ ap (λ (x : Entry). row_behind terms (before ++ []) sum x) same;
    }
is_there terms before sum (first ∷ after) (suc place) entry e =
    let row = row_behind terms before sum first in
    let later = is_there terms (before ++ first ∷ []) row.sum.0 after place entry e in
    record {
      row = later.row;
      there = later.there;
      is = later.is ∙ ap (λ (front : List Entry). row_behind terms front (last_sum row.sum.0 (rows_from terms (before ++ first ∷ []) row.sum.0 (take place after))) entry) (append_assoc before (first ∷ []) (take place after));
    }

length_taken : (history : List Entry) (place : ℕ) (entry : Entry) → slice_get history place ≡ Some entry → length (take place history) ≡ place
length_taken [] place entry e = absurd cc
length_taken (first ∷ history) zero entry e = refl
length_taken (first ∷ history) (suc place) entry e = ap suc (length_taken history place entry e)

behind_is : (terms : Terms) (history : List Entry) (place : ℕ) (entry : Entry) → slice_get history place ≡ Some entry → IsRowOf terms history place entry (row_behind terms (take place history) (sum_of terms (take place history)) entry)
behind_is terms history place entry e = record { placed = length_taken history place entry e; moment = refl; step = refl; chains = refl }

pub has_row_at : (terms : Terms) (history : List Entry) (place : ℕ) (entry : Entry) → slice_get history place ≡ Some entry → HasRowAt terms history place entry
unfolding rows_of sum_of
has_row_at terms history place entry e =
    let found = is_there terms [] 0 history place entry e in
    record {
      row = found.row;
      there = found.there;
      is = subst (λ (r : Row). IsRowOf terms history place entry r) (sym found.is) (behind_is terms history place entry e);
    }

-- ---- octets

heads : (x y : List ℕ) (xs ys : List (List ℕ)) → x ∷ xs ≡ y ∷ ys → x ≡ y
heads x y xs ys e = cc

tails : (x y : List ℕ) (xs ys : List (List ℕ)) → x ∷ xs ≡ y ∷ ys → xs ≡ ys
tails x y xs ys e = cc

rows_are : (a b : List Row) → All IsRow a → All IsRow b → map spelled a ≡ map spelled b → a ≡ b
rows_are [] [] p q e = refl
rows_are [] (y ∷ b) p q e = absurd cc
rows_are (x ∷ a) [] p q e = absurd cc
rows_are (x ∷ a) (y ∷ b) p q e =
    let first : x ≡ y = spelled_once x y (All-head IsRow x a p) (All-head IsRow y b q) (heads (spelled x) (spelled y) (map spelled a) (map spelled b) e) in
    let others : a ≡ b = rows_are a b (All-tail IsRow x a p) (All-tail IsRow y b q) (tails (spelled x) (spelled y) (map spelled a) (map spelled b) e) in
    ap (λ (r : Row). r ∷ a) first ∙ ap (λ (rs : List Row). y ∷ rs) others

pub one_history : (terms others : Terms) (one other : List Entry) → All IsRow (rows_of terms one) → All IsRow (rows_of others other) → stored_of terms one ≡ stored_of others other → one ≡ other
unfolding stored_of
one_history terms others one other p q e =
    sym (history_again terms one) ∙ ap history_of (rows_are (rows_of terms one) (rows_of others other) p q e) ∙ history_again others other
