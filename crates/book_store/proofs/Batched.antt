-- Rows after one batch more.
use Rattle.std.proofs.Common.{◌≡◌, ℕ, ◌+◌, ◌<◌, ◌≤◌, List, [], ◌∷◌, ◌++◌, length, take, get_or, refl, sym, ap, ◌∙◌, append_assoc, arith, ◌⊎◌, inl, inr}
use Rattle.std.proofs.lemmas.List.{append-nil, take_all, take_more}
use Rattle.std.specs.Global.{Vec}
use Rattle.book_store.specs.declared.batches.Batch.{Batch}
use Rattle.book_beside.specs.Beside.{Beside, written_all}
use Rattle.book_beside.specs.declared.write.Write.{Write}
use Rattle.book_store.specs.Batches.{written_by, rows_of}
use Rattle.book_store.specs.Table.{Stored, octets_in, stored_with}

rows_of-more : (batches : List Batch) (batch : Batch) → rows_of (batches ++ batch ∷ []) ≡ rows_of batches ++ octets_in batch.rows.items
rows_of-more [] batch = append-nil (octets_in batch.rows.items)
rows_of-more (first ∷ batches) batch =
    ap (λ (rows : List (List ℕ)). octets_in first.rows.items ++ rows) (rows_of-more batches batch) ∙ sym (append_assoc (octets_in first.rows.items) (rows_of batches) (octets_in batch.rows.items))

pub no_batch : (rows : List (List ℕ)) → rows ≡ rows ++ rows_of []
no_batch rows = sym (append-nil rows)

pub one_more_batch : (rows before : List (List ℕ)) (batches : List Batch) (i : ℕ) (batch : Batch) (items : List (Vec ℕ)) → i < length batches → batch ≡ get_or batches i batch → items ≡ batch.rows.items → before ≡ rows ++ rows_of (take i batches)
    → before ++ octets_in items ≡ rows ++ rows_of (take (i + 1) batches)
one_more_batch rows before batches i batch items lt is same e =
    let longer : take (i + 1) batches ≡ take i batches ++ batch ∷ [] = take_more batches i batch lt ∙ ap (λ (b : Batch). take i batches ++ b ∷ []) (sym is) in
    ap (λ (xs : List (Vec ℕ)). before ++ octets_in xs) same
    ∙ ap (λ (front : List (List ℕ)). front ++ octets_in batch.rows.items) e
    ∙ append_assoc rows (rows_of (take i batches)) (octets_in batch.rows.items)
    ∙ ap (λ (more : List (List ℕ)). rows ++ more) (sym (rows_of-more (take i batches) batch))
    ∙ ap (λ (taken : List Batch). rows ++ rows_of taken) (sym longer)

pub all_batches : (rows : List (List ℕ)) (batches : List Batch) (i : ℕ) → length batches ≤ i → rows ++ rows_of (take i batches) ≡ rows ++ rows_of batches
all_batches rows batches i le = ap (λ (taken : List Batch). rows ++ rows_of taken) (take_all i batches le)

pub no_batch_stored : (about : List ℕ) (rows : List (List ℕ)) (beside : Beside) → stored_with about rows beside ≡ stored_with about (rows ++ rows_of []) beside
no_batch_stored about rows beside = ap (λ (r : List (List ℕ)). stored_with about r beside) (no_batch rows)

-- ---- what stands beside the rows

written_by-more : (beside : Beside) (batches : List Batch) (batch : Batch) → written_by beside (batches ++ batch ∷ []) ≡ written_all (written_by beside batches) batch.writes.items
written_by-more beside [] batch = refl
written_by-more beside (first ∷ batches) batch = written_by-more (written_all beside first.writes.items) batches batch

pub one_more_written : (beside before : Beside) (batches : List Batch) (i : ℕ) (batch : Batch) (writes : List Write) → i < length batches → batch ≡ get_or batches i batch → writes ≡ batch.writes.items → before ≡ written_by beside (take i batches)
    → written_all before writes ≡ written_by beside (take (i + 1) batches)
one_more_written beside before batches i batch writes lt is same e =
    let longer : take (i + 1) batches ≡ take i batches ++ batch ∷ [] = take_more batches i batch lt ∙ ap (λ (b : Batch). take i batches ++ b ∷ []) (sym is) in
    ap (written_all before) same
    ∙ ap (λ (b : Beside). written_all b batch.writes.items) e
    ∙ sym (written_by-more beside (take i batches) batch)
    ∙ ap (written_by beside) (sym longer)

pub all_written : (beside : Beside) (batches : List Batch) (i : ℕ) → length batches ≤ i → written_by beside (take i batches) ≡ written_by beside batches
all_written beside batches i le = ap (written_by beside) (take_all i batches le)

-- what a crash leaves has so many of the batches
abbrev pub HasSome : List ℕ → List (List ℕ) → Beside → List Batch → ℕ → Stored → Type 0
HasSome about rows beside batches i left = (n : ℕ) × (n ≤ i) × (left ≡ stored_with about (rows ++ rows_of (take n batches)) (written_by beside (take n batches)))

module _ (about now : List ℕ) (rows before : List (List ℕ)) (beside then_beside : Beside) (left : Stored) (batches : List Batch) (i : ℕ) where
  pub has_some_more : (batch : Batch) (items : List (Vec ℕ)) (writes : List Write) → i < length batches → batch ≡ get_or batches i batch → items ≡ batch.rows.items → writes ≡ batch.writes.items
      → now ≡ about → before ≡ rows ++ rows_of (take i batches) → then_beside ≡ written_by beside (take i batches)
      → HasSome about rows beside batches i left ⊎ (left ≡ stored_with now (before ++ octets_in items) (written_all then_beside writes)) → HasSome about rows beside batches (i + 1) left
  has_some_more batch items writes lt is same other book e b (inl some) = (some.0, omega (arith, some.1), some.2)
  has_some_more batch items writes lt is same other book e b (inr whole) = (
    i + 1,
    omega arith,
    whole
        ∙ ap (λ (a : List ℕ). stored_with a (before ++ octets_in items) (written_all then_beside writes)) book
        ∙ ap (λ (r : List (List ℕ)). stored_with about r (written_all then_beside writes)) (one_more_batch rows before batches i batch items lt is same e)
        ∙ ap (stored_with about (rows ++ rows_of (take (i + 1) batches))) (one_more_written beside then_beside batches i batch writes lt is other b),
  )

  pub has_some_of_all : i < length batches → HasSome about rows beside batches (i + 1) left → HasSome about rows beside batches (length batches) left
  has_some_of_all lt some = (some.0, omega (arith, some.1), some.2)

  pub some_or_whole : (items : List (Vec ℕ)) (writes : List Write) (Stands : Type 0) → (Stands → HasSome about rows beside batches i left)
      → Stands ⊎ (left ≡ stored_with now (before ++ octets_in items) (written_all then_beside writes))
      → HasSome about rows beside batches i left ⊎ (left ≡ stored_with now (before ++ octets_in items) (written_all then_beside writes))
  some_or_whole items writes Stands f (inl stands) = inl (f stands)
  some_or_whole items writes Stands f (inr whole) = inr whole
