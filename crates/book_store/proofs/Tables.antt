-- Tables of rows in order.
use Rattle.std.proofs.Common.{◌≡◌, ℕ, zero, suc, ◌+◌, ◌-◌, ◌<◌, List, [], ◌∷◌, ◌++◌, length, get_or, refl, sym, ap, subst, ◌∙◌, append_assoc, Result, Ok, Err, arith, inl, inr}
use Rattle.std.specs.Prelude.{pos, ◌<ℤ◌, filter, false, IsTrue, ◌⊎◌, ℤ, IfOk}
use Rattle.std.specs.Global.{Vec}
use Rattle.std.specs.Cmp.{int_cmp_is}
use Rattle.std.proofs.lemmas.Int.{ints}
use Rattle.std.proofs.lemmas.List.{append-nil, length-append}
use Rattle.std.specs.declared.cmp.Ordering.TheVariants.{Equal, Greater, Less}
use Rattle.sqlite_value.specs.declared.value.Value.TheVariants.{Blob, Int}
use Rattle.sqlite_value.specs.Order.{Row, column, value_cmp}
use Rattle.sqlite_value.proofs.OrderLemmas.{value_cmp-Int}
use Rattle.sqlite_trees.specs.Tree.{Trees, has_rowid, put_row, with_tree}
use Rattle.sqlite_trees.specs.View.{View}
use Rattle.book_beside.specs.Beside.{Beside, AreWritten, beside_in, written_all}
use Rattle.book_beside.specs.declared.write.Write.{Write}
use Rattle.book_rows.specs.declared.about.Standing.{Standing}
use Rattle.book_rows.specs.About.{last_of, moment_in, standing, standing_with, sum_in}
use Rattle.book_store.specs.Table.{HasTables, IsInOrder, IsMade, IsPut, IsReady, Leaves, Stored, about_in, book_table, octets_in, octets_of, put_from, rows_in, standing_in, stored, stored_in, stored_with, table_from}

less : (a b : ℕ) → a < b → value_cmp (Int (pos a)) (Int (pos b)) ≡ Less
less a b lt =
    let below : pos a <ℤ pos b = omega (arith, ints) in
    value_cmp-Int (pos a) (pos b) ∙ sym (int_cmp_is (pos a) (pos b) Less below)

-- a row behind the last goes to the end
put_behind : (rows : List (List ℕ)) (k n : ℕ) (octets : List ℕ) → n ≡ k + length rows → put_row (stored n octets) (table_from k rows) ≡ table_from k (rows ++ octets ∷ [])
put_behind [] k n octets e = ap (λ (place : ℕ). stored place octets ∷ []) (omega arith)
put_behind (row ∷ rows) k n octets e =
    rw (less k n (omega arith)) (ap (λ (rest : List Row). stored k row ∷ rest) (put_behind rows (suc k) n octets (omega arith)))

pub rows_in-table_from : (k : ℕ) (rows : List (List ℕ)) → rows_in (table_from k rows) ≡ rows
rows_in-table_from k [] = refl
rows_in-table_from k (row ∷ rows) = ap (λ (rest : List (List ℕ)). row ∷ rest) (rows_in-table_from (suc k) rows)

pub put_from-table_from : (batch rows : List (List ℕ)) (n : ℕ) → n ≡ length rows → put_from n batch (table_from 0 rows) ≡ table_from 0 (rows ++ batch)
put_from-table_from [] rows n e = ap (table_from 0) (sym (append-nil rows))
put_from-table_from (octets ∷ batch) rows n e =
    rw (put_behind rows 0 n octets (omega arith)) (put_from-table_from batch (rows ++ octets ∷ []) (suc n) (omega (arith, length-append rows (octets ∷ []))) ∙ ap (table_from 0) (append_assoc rows (octets ∷ []) batch))

-- ---- a batch behind the last row

pub after_put : (old new : List Row) (place : ℕ) (batch : List (List ℕ)) → IsInOrder old → place ≡ length (rows_in old) → new ≡ put_from place batch old → new ≡ table_from 0 (rows_in old ++ batch)
after_put old new place batch order behind put =
    put ∙ ap (put_from place batch) order ∙ put_from-table_from batch (rows_in old) place behind

pub rows_after_put : (old new : List Row) (place : ℕ) (batch : List (List ℕ)) → IsInOrder old → place ≡ length (rows_in old) → new ≡ put_from place batch old → rows_in new ≡ rows_in old ++ batch
rows_after_put old new place batch order behind put =
    ap rows_in (after_put old new place batch order behind put) ∙ rows_in-table_from 0 (rows_in old ++ batch)

pub order_after_put : (old new : List Row) (place : ℕ) (batch : List (List ℕ)) → IsInOrder old → place ≡ length (rows_in old) → new ≡ put_from place batch old → IsInOrder new
order_after_put old new place batch order behind put =
    after_put old new place batch order behind put ∙ ap (table_from 0) (sym (rows_after_put old new place batch order behind put))

-- ---- the row of a place

above : (a b : ℕ) → b < a → value_cmp (Int (pos a)) (Int (pos b)) ≡ Greater
above a b lt =
    let over : pos b <ℤ pos a = omega (arith, ints) in
    value_cmp-Int (pos a) (pos b) ∙ sym (int_cmp_is (pos a) (pos b) Greater over)

equal : (a b : ℕ) → a ≡ b → value_cmp (Int (pos a)) (Int (pos b)) ≡ Equal
equal a b e = value_cmp-Int (pos a) (pos b) ∙ sym (int_cmp_is (pos a) (pos b) Equal (ap pos e))

none_later : (k p : ℕ) (rows : List (List ℕ)) → p < k → filter (has_rowid (pos p)) (table_from k rows) ≡ []
none_later k p [] lt = refl
none_later k p (row ∷ rows) lt = rw (above k p lt) (none_later (suc k) p rows (omega arith))

found_from : (k i p : ℕ) (rows : List (List ℕ)) → p ≡ k + i → i < length rows → filter (has_rowid (pos p)) (table_from k rows) ≡ stored p (get_or rows i []) ∷ []
found_from k i p [] e lt = absurd (omega arith)
found_from k zero p (row ∷ rows) e lt =
    let here : k ≡ p = omega arith in
    rw (equal k p here, none_later (suc k) p rows (omega arith)) (ap (λ (n : ℕ). stored n row ∷ []) here)
found_from k (suc i) p (row ∷ rows) e lt = rw (less k p (omega arith)) (found_from (suc k) i p rows (omega arith) (omega arith))

pub row_is : (table : List Row) (p : ℕ) (row : Row) (octets : List ℕ) → IsInOrder table → p < length (rows_in table) → filter (has_rowid (pos p)) table ≡ row ∷ [] → column row 1 ≡ Blob octets → octets ≡ get_or (rows_in table) p []
row_is table p row octets order lt found blob =
    let one : row ∷ [] ≡ stored p (get_or (rows_in table) p []) ∷ [] = sym found ∙ ap (filter (has_rowid (pos p))) order ∙ found_from 0 p p (rows_in table) (omega arith) lt in
    let it : row ≡ stored p (get_or (rows_in table) p []) = ap (λ (rs : List Row). get_or rs 0 []) one in
    ap octets_of (sym blob ∙ ap (λ (r : Row). column r 1) it)

-- ---- a store before and after a batch

length-octets : (batch : List (Vec ℕ)) → length (octets_in batch) ≡ length batch
length-octets [] = refl
length-octets (octets ∷ batch) = ap suc (length-octets batch)

at_behind : (rows more : List (List ℕ)) (n k : ℕ) → n ≡ length rows + k → get_or (rows ++ more) n [] ≡ get_or more k []
at_behind [] more n k e = ap (λ (i : ℕ). get_or more i []) (omega arith)
at_behind (row ∷ rows) more zero k e = absurd (omega arith)
at_behind (row ∷ rows) more (suc n) k e = at_behind rows more n k (omega arith)

octets_of_last : (batch : List (Vec ℕ)) (n : ℕ) (last : Vec ℕ) → n < length batch → last ≡ get_or batch n last → get_or (octets_in batch) n [] ≡ last.items
octets_of_last [] n last lt is = absurd (omega arith)
octets_of_last (octets ∷ batch) zero last lt is = ap (λ (v : Vec ℕ). v.items) (sym is)
octets_of_last (octets ∷ batch) (suc n) last lt is = octets_of_last batch n last (omega arith) is

-- the last of rows and a batch that has one
last_behind : (rows : List (List ℕ)) (batch : List (Vec ℕ)) (n : ℕ) (last : Vec ℕ) → n + 1 ≡ length batch → last ≡ get_or batch n last → last_of (rows ++ octets_in batch) ≡ last.items
last_behind rows batch n last some is =
    at_behind rows (octets_in batch) (length (rows ++ octets_in batch) - 1) n (omega (arith, length-append rows (octets_in batch), length-octets batch)) ∙ octets_of_last batch n last (omega arith) is

standing_by : ℕ → ℕ → ℕ → Standing
standing_by count moment sum = record { count = count; moment = record { 0 = moment }; sum = record { 0 = sum } }

pub standing_is : (s : Standing) (rows : List (List ℕ)) (last : List ℕ) → s.count ≡ length rows → last ≡ last_of rows → s.moment.0 ≡ moment_in last → s.sum.0 ≡ sum_in last → s ≡ standing_with rows
unfolding standing_by
standing_is s rows last count is moment sum =
    ap (λ (n : ℕ). standing_by n s.moment.0 s.sum.0) count ∙ ap (λ (n : ℕ). standing_by (length rows) n s.sum.0) (moment ∙ ap moment_in is) ∙ ap (standing_by (length rows) (moment_in (last_of rows))) (sum ∙ ap sum_in is)

-- where a book stands behind a batch with a row
pub standing_more : (before now : Standing) (rows : List (List ℕ)) (batch : List (Vec ℕ)) (n : ℕ) (last : Vec ℕ) (octets : List ℕ) → before ≡ standing_with rows → now.count ≡ before.count + length batch → n + 1 ≡ length batch
    → last ≡ get_or batch n last → octets ≡ last.items → now.moment.0 ≡ moment_in octets → now.sum.0 ≡ sum_in octets → now ≡ standing_with (rows ++ octets_in batch)
standing_more before now rows batch n last octets stands count some is same moment sum =
    standing_is now (rows ++ octets_in batch) octets (omega (arith, count, ap (λ (s : Standing). s.count) stands, length-append rows (octets_in batch), length-octets batch)) (same ∙ sym (last_behind rows batch n last some is)) moment sum

pub standing_same : (before : Standing) (rows : List (List ℕ)) (batch : List (Vec ℕ)) → before ≡ standing_with rows → length batch ≡ 0 → before ≡ standing_with (rows ++ octets_in batch)
standing_same before rows [] stands none = stands ∙ ap standing_with (sym (append-nil rows))
standing_same before rows (octets ∷ batch) stands none = absurd (omega arith)

-- the table of what a book is, once it is said where it stands with other rows
pub book_put : (about : List ℕ) (rows : List (List ℕ)) (here : Standing) → put_row (stored 1 (standing.spell here)) (book_table about rows) ≡ table_from 0 (about ∷ standing.spell here ∷ [])
book_put about rows here = rw (less 0 1 (omega arith), equal 1 1 refl) refl

pub book_made : (about : List ℕ) (here : Standing) → put_row (stored 1 (standing.spell here)) (put_row (stored 0 about) []) ≡ table_from 0 (about ∷ standing.spell here ∷ [])
book_made about here = rw (less 0 1 (omega arith)) refl

pub put_all_three : (old mid later new : Trees) (place : ℕ) (batch : List (List ℕ)) (here : Standing) (writes : List Write) → mid 0 ≡ put_from place batch (old 0) → mid 1 ≡ old 1 → beside_in mid ≡ beside_in old
    → later ≡ with_tree mid 1 (put_row (stored 1 (standing.spell here)) (mid 1)) → AreWritten later writes new → IsPut place batch here writes old new
put_all_three old mid later new place batch here writes rows book beside put is = record {
  rows = is.rows ∙ ap (λ (t : Trees). t 0) put ∙ rows;
  book = is.book ∙ ap (λ (t : Trees). t 1) put ∙ ap (put_row (stored 1 (standing.spell here))) book;
  beside = is.beside ∙ ap (λ (b : Beside). written_all b writes) (ap beside_in put ∙ beside);
}

pub made_both : (old mid new : Trees) (about : List ℕ) (here : Standing) → mid ≡ with_tree old 1 (put_row (stored 0 about) (old 1)) → new ≡ with_tree mid 1 (put_row (stored 1 (standing.spell here)) (mid 1)) → IsMade about here old new
made_both old mid new about here first put = record {
  rows = ap (λ (t : Trees). t 0) put ∙ ap (λ (t : Trees). t 0) first;
  book = ap (λ (t : Trees). t 1) put ∙ ap (λ (t : Trees). put_row (stored 1 (standing.spell here)) (t 1)) first;
  beside = ap beside_in put ∙ ap beside_in first;
}

-- what is put into the tables of a book at rest
pub record IsWith (about : List ℕ) (rows : List (List ℕ)) (beside : Beside) (trees : Trees) : Type 0 where
  pub beside_is : beside_in trees ≡ beside
  pub about_is : about_in (trees 1) ≡ about
  pub rows_are : rows_in (trees 0) ≡ rows
  pub order : IsInOrder (trees 0)
  pub book : trees 1 ≡ book_table about rows

pub with_batch : (old : View) (here now : Standing) (place : ℕ) (batch : List (List ℕ)) (writes : List Write) (new : Trees) → IsReady old here → place ≡ here.count → now ≡ standing_with (rows_in (old.committed 0) ++ batch)
    → IsPut place batch now writes old.trees new
    → IsWith (about_in (old.committed 1)) (rows_in (old.committed 0) ++ batch) (written_all (beside_in old.committed) writes) new
with_batch old here now place batch writes new ready at stands put =
    let behind : place ≡ length (rows_in (old.committed 0)) = at ∙ ap (λ (s : Standing). s.count) ready.stands in
    let rows : new 0 ≡ put_from place batch (old.committed 0) = put.rows ∙ ap (put_from place batch) ready.rest.settled in
    let about = about_in (old.committed 1) in
    let book : new 1 ≡ book_table about (rows_in (old.committed 0) ++ batch) =
    put.book ∙ ap (put_row (stored 1 (standing.spell now))) (ready.rest.settled_book ∙ ready.rest.book)
    ∙ book_put about (rows_in (old.committed 0)) now
    ∙ ap (λ (s : Standing). table_from 0 (about ∷ standing.spell s ∷ [])) stands in
    record {
      beside_is = put.beside ∙ ap (λ (b : Beside). written_all b writes) ready.rest.settled_beside;
      about_is = ap about_in book;
      rows_are = rows_after_put (old.committed 0) (new 0) place batch ready.rest.order behind rows;
      order = order_after_put (old.committed 0) (new 0) place batch ready.rest.order behind rows;
      book = book;
    }

pub stored_of_with : (about : List ℕ) (rows : List (List ℕ)) (beside : Beside) (trees : Trees) → IsWith about rows beside trees → stored_in trees ≡ stored_with about rows beside
stored_of_with about rows beside trees is =
    ap (λ (a : List ℕ). record { about = a; rows = rows_in (trees 0); standing = standing_in (trees 1); beside = beside_in trees }) is.about_is
    ∙ ap (λ (r : List (List ℕ)). record { about = about; rows = r; standing = standing_in (trees 1); beside = beside_in trees }) is.rows_are
    ∙ ap (λ (t : List Row). record { about = about; rows = rows; standing = standing_in t; beside = beside_in trees }) is.book
    ∙ ap (λ (b : Beside). record { about = about; rows = rows; standing = standing.spell (standing_with rows); beside = b }) is.beside_is

-- a store that has committed such tables
pub ready_with : (new : View) (here : Standing) (about : List ℕ) (rows : List (List ℕ)) (beside : Beside) → IsWith about rows beside new.committed → new.trees ≡ new.committed → IsTrue new.is_open → new.is_broken ≡ false → HasTables new
    → here ≡ standing_with rows → IsReady new here
ready_with new here about rows beside is settled is_open sound tables stands =
    let book : new.committed 1 ≡ book_table (about_in (new.committed 1)) (rows_in (new.committed 0)) =
    is.book ∙ ap (λ (a : List ℕ). book_table a rows) (sym is.about_is) ∙ ap (book_table (about_in (new.committed 1))) (sym is.rows_are) in
    record {
      rest = record { is_open = is_open; sound = sound; tables = tables; settled = ap (λ (t : Trees). t 0) settled; settled_book = ap (λ (t : Trees). t 1) settled; settled_beside = ap beside_in settled; order = is.order; book = book };
      stands = stands ∙ ap standing_with (sym is.rows_are);
    }

pub crash_with : (about : List ℕ) (rows : List (List ℕ)) (beside : Beside) (left : Stored) (before after Put : Trees → Type 0) → ((db : Trees) → Put db → IsWith about rows beside db)
    → ((db : Trees) → after db → before db ⊎ Put db) → Leaves after left → Leaves before left ⊎ (left ≡ stored_with about rows beside)
crash_with about rows beside left before after Put is crash leaves =
    elim (crash leaves.database leaves.found) [
      | inl stands ↦ inl (record { database = leaves.database; found = stands; is = leaves.is })
      | inr put ↦ inr (leaves.is ∙ stored_of_with about rows beside leaves.database (is leaves.database put))
    ]

-- ---- a book that was made

pub with_made : (old : Trees) (about : List ℕ) (here : Standing) (new : Trees) → old 0 ≡ [] → old 1 ≡ [] → here ≡ standing_with [] → IsMade about here old new → IsWith about [] (beside_in old) new
with_made old about here new no_rows no_book stands made =
    let rows : new 0 ≡ [] = made.rows ∙ no_rows in
    let book : new 1 ≡ book_table about [] =
    made.book ∙ ap (λ (t : List Row). put_row (stored 1 (standing.spell here)) (put_row (stored 0 about) t)) no_book ∙ book_made about here ∙ ap (λ (s : Standing). table_from 0 (about ∷ standing.spell s ∷ [])) stands in
    record {
      beside_is = made.beside;
      about_is = ap about_in book;
      rows_are = ap rows_in rows;
      order = let P : List Row → Type 0 = λ t. IsInOrder t in subst P (sym rows) refl;
      book = book;
    }

pub made_crash : (old : Trees) (about : List ℕ) (here : Standing) (beside : Beside) (Before Mid : Trees → Type 0) → old 0 ≡ [] → old 1 ≡ [] → here ≡ standing_with [] → beside_in old ≡ beside → ((db : Trees) → Mid db → Before db)
    → (db : Trees) → Mid db ⊎ IsMade about here old db → Before db ⊎ (stored_in db ≡ stored_with about [] beside)
made_crash old about here beside Before Mid no_rows no_book stands same stay db (inl mid) = inl (stay db mid)
made_crash old about here beside Before Mid no_rows no_book stands same stay db (inr made) =
    inr (stored_of_with about [] (beside_in old) db (with_made old about here db no_rows no_book stands made) ∙ ap (stored_with about []) same)

-- ---- what a read gives

pub if_ok_map : {T E : Type 0} (r : Result T E) (P Q : T → Type 0) → ((x : T) → P x → Q x) → IfOk r P → IfOk r Q
if_ok_map (Ok x) P Q f h = f x h
if_ok_map (Err e) P Q f h = tt

pub row_of_place : (table : List Row) (place : ℕ) (id : ℤ) (row : Row) (octets : List ℕ) → IsInOrder table → place < length (rows_in table) → id ≡ pos place
    → filter (has_rowid id) table ≡ row ∷ [] → column row 1 ≡ Blob octets → octets ≡ get_or (rows_in table) place []
row_of_place table place id row octets order within e found blob =
    row_is table place row octets order within (ap (λ (z : ℤ). filter (has_rowid z) table) (sym e) ∙ found) blob
