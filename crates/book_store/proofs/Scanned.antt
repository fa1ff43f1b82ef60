-- Rows that are read one after the other.
use Rattle.std.proofs.Common.{◌≡◌, ℕ, zero, suc, ◌+◌, ◌<◌, List, [], ◌∷◌, ◌++◌, length, take, get_or, Option, Some, refl, sym, ap, subst, ◌∙◌, append_assoc, arith}
use Rattle.std.specs.Prelude.{true, false}
use Rattle.std.proofs.lemmas.List.{append-nil, length-append, take_at}
use Rattle.sqlite_value.specs.declared.keys.Order.{Order}
use Rattle.sqlite_value.specs.Order.{Row, column}
use Rattle.sqlite_trees.specs.Tree.{Trees, from_key}
use Rattle.sqlite_trees.specs.declared.store.Shape.TheVariants.{Table}
use Rattle.book_beside.specs.Beside.{HasBeside, beside_in, table_of, tree_of}
use Rattle.book_beside.specs.declared.write.Side.{Side}
use Rattle.book_beside.specs.declared.write.Side.TheVariants.{Accounts, Sessions}
use Rattle.sqlite_trees.specs.View.{Advances, View, with_cursor}
use Rattle.book_rows.specs.declared.about.Standing.{Standing}
use Rattle.book_rows.specs.About.{standing, standing_with}
use Rattle.book_store.specs.Damage.{HasRead, HasReadAll, IsAlike, IsDamagedAt, IsFound, IsFresh, StandsElsewhere}
use Rattle.book_store.specs.Table.{HasTables, IsCounted, IsInOrder, IsReady, about_in, book_table, octets_of, rows_in, standing_in, stored, table_from}
use Rattle.book_store.proofs.Tables.{rows_in-table_from}

pub from_no_key : (o : Order) (rows : List Row) → from_key o [] rows ≡ rows
from_no_key o [] = refl
from_no_key o ([] ∷ rows) = refl
from_no_key o ((v ∷ vs) ∷ rows) = refl

table_from-more : (k : ℕ) (rows : List (List ℕ)) (octets : List ℕ) → table_from k (rows ++ octets ∷ []) ≡ table_from k rows ++ stored (k + length rows) octets ∷ []
table_from-more k [] octets = ap (λ (n : ℕ). stored n octets ∷ []) (omega arith)
table_from-more k (row ∷ rows) octets =
    let place : suc k + length rows ≡ k + suc (length rows) = omega arith in
    ap (λ (t : List Row). stored k row ∷ t) (table_from-more (suc k) rows octets ∙ ap (λ (n : ℕ). table_from (suc k) rows ++ stored n octets ∷ []) place)

length-table_from : (k : ℕ) (rows : List (List ℕ)) → length (table_from k rows) ≡ length rows
length-table_from k [] = refl
length-table_from k (row ∷ rows) = ap suc (length-table_from (suc k) rows)

rows_in-append : (a b : List Row) → rows_in (a ++ b) ≡ rows_in a ++ rows_in b
rows_in-append [] b = refl
rows_in-append (r ∷ a) b = ap (λ (rows : List (List ℕ)). octets_of (column r 1) ∷ rows) (rows_in-append a b)

behind : (a : List Row) (r : Row) (b : List Row) (n : ℕ) → length a ≡ n → get_or (a ++ r ∷ b) n [] ≡ r
behind [] r b zero e = refl
behind [] r b (suc n) e = absurd (omega arith)
behind (x ∷ a) r b zero e = absurd (omega arith)
behind (x ∷ a) r b (suc n) e = behind a r b n (omega arith)

some_is : {X : Type 0} (a b : X) → Some a ≡ Some b → a ≡ b
some_is a b e = cc

moved_alike : (first old new : View) (cursor : ℕ) (left : List Row) → IsAlike first old → new ≡ with_cursor old cursor left → IsAlike first new
moved_alike first old new cursor left alike moved =
    let same : new ≡ record old { cursors = new.cursors } = moved ∙ ap (λ (cs : ℕ → Option (List Row)). record old { cursors = cs }) (sym (ap (λ (v : View). v.cursors) moved)) in
    same ∙ ap (λ (v : View). record v { cursors = new.cursors }) alike

pub read_none : (tree : ℕ) (first now : View) (rows : List Row) → now ≡ with_cursor first 0 rows → rows ≡ first.trees tree → HasRead tree first now 0
read_none tree first now rows moved all = record {
  alike = moved ∙ ap (λ (cs : ℕ → Option (List Row)). record first { cursors = cs }) (sym (ap (λ (v : View). v.cursors) moved));
  rows = [];
  left = rows;
  cursor = ap (λ (v : View). v.cursors 0) moved;
  table = sym all;
  count = refl;
}

pub read_one_more : (tree : ℕ) (first old new : View) (place : ℕ) (row : Row) → HasRead tree first old place → Advances old new 0 row true → row ≡ stored place (octets_of (column row 1)) → HasRead tree first new (place + 1)
read_one_more tree first old new place row so_far moved is =
    let octets = octets_of (column row 1) in
    let left : so_far.left ≡ row ∷ moved.0 = some_is so_far.left (row ∷ moved.0) (sym so_far.cursor ∙ moved.1) in
    let one : table_from 0 (so_far.rows ++ octets ∷ []) ≡ table_from 0 so_far.rows ++ row ∷ [] =
    table_from-more 0 so_far.rows octets ∙ ap (λ (r : Row). table_from 0 so_far.rows ++ r ∷ []) (ap (λ (n : ℕ). stored n octets) (omega (arith, so_far.count)) ∙ sym is) in
    record {
      alike = moved_alike first old new 0 moved.0 so_far.alike moved.2;
      rows = so_far.rows ++ octets ∷ [];
      left = moved.0;
      cursor = ap (λ (v : View). v.cursors 0) moved.2;
      table = so_far.table ∙ ap (λ (l : List Row). table_from 0 so_far.rows ++ l) left ∙ sym (append_assoc (table_from 0 so_far.rows) (row ∷ []) moved.0) ∙ ap (λ (t : List Row). t ++ moved.0) (sym one);
      count = omega (arith, so_far.count, length-append so_far.rows (octets ∷ []));
    }

pub read_all : (tree : ℕ) (first old new : View) (place : ℕ) (row : Row) → HasRead tree first old place → Advances old new 0 row false → HasReadAll tree first new place
read_all tree first old new place row so_far moved =
    let left : so_far.left ≡ [] = some_is so_far.left [] (sym so_far.cursor ∙ moved.0) in
    let table : first.trees tree ≡ table_from 0 so_far.rows = so_far.table ∙ ap (λ (l : List Row). table_from 0 so_far.rows ++ l) left ∙ append-nil (table_from 0 so_far.rows) in
    let rows : rows_in (first.trees tree) ≡ so_far.rows = ap rows_in table ∙ rows_in-table_from 0 so_far.rows in
    record {
      alike = moved.1 ∙ so_far.alike ∙ ap (λ (cs : ℕ → Option (List Row)). record first { cursors = cs }) (sym (ap (λ (v : View). v.cursors) moved.1));
      order = table ∙ ap (table_from 0) (sym rows);
      count = sym (ap length rows ∙ so_far.count);
    }

pub damaged_at : (tree : ℕ) (first old new : View) (place : ℕ) (row : Row) → HasRead tree first old place → Advances old new 0 row true → ((octets : List ℕ) → row ≡ stored place octets → ⊥) → IsDamagedAt (first.trees tree) place
damaged_at tree first old new place row so_far moved other =
    let front = table_from 0 so_far.rows in
    let left : so_far.left ≡ row ∷ moved.0 = some_is so_far.left (row ∷ moved.0) (sym so_far.cursor ∙ moved.1) in
    let table : first.trees tree ≡ front ++ (row ∷ moved.0) = so_far.table ∙ ap (λ (l : List Row). front ++ l) left in
    let long : length (table_from 0 so_far.rows) ≡ place = length-table_from 0 so_far.rows ∙ so_far.count in
    let at : get_or (first.trees tree) place [] ≡ row = ap (λ (t : List Row). get_or t place []) table ∙ behind front row moved.0 place long in
    let rows : take place (rows_in (first.trees tree)) ≡ so_far.rows =
    ap (λ (t : List Row). take place (rows_in t)) table ∙ ap (take place) (rows_in-append front (row ∷ moved.0) ∙ ap (λ (rs : List (List ℕ)). rs ++ rows_in (row ∷ moved.0)) (rows_in-table_from 0 so_far.rows)) ∙ take_at so_far.rows (rows_in (row ∷ moved.0)) place so_far.count in
    record {
      within = omega (arith, ap length table, length-append front (row ∷ moved.0), long);
      before = ap (take place) table ∙ take_at front (row ∷ moved.0) place long ∙ ap (table_from 0) (sym rows);
      here = λ octets e. other octets (sym at ∙ e);
    }

-- ---- an opened store

two_rows : (rows : List (List ℕ)) → length rows ≡ 2 → rows ≡ get_or rows 0 [] ∷ get_or rows 1 [] ∷ []
two_rows [] e = absurd (omega arith)
two_rows (a ∷ []) e = absurd (omega arith)
two_rows (a ∷ b ∷ []) e = refl
two_rows (a ∷ b ∷ c ∷ rows) e = absurd (omega arith)

-- a table with two rows, of which the second says where a book stands
pub is_book_table : (book : List Row) (rows : List (List ℕ)) → IsInOrder book → length (rows_in book) ≡ 2 → standing_in book ≡ standing.spell (standing_with rows) → book ≡ book_table (about_in book) rows
is_book_table book rows order two said =
    order ∙ ap (table_from 0) (two_rows (rows_in book) two ∙ ap (λ (last : List ℕ). about_in book ∷ last ∷ []) said)

pub alike_twice : (first old new : View) → IsAlike first old → IsAlike old new → IsAlike first new
alike_twice first old new one other = other ∙ ap (λ (v : View). record v { cursors = new.cursors }) one

pub no_rows : (table : List Row) → 0 ≡ length (rows_in table) → table ≡ []
no_rows [] e = refl
no_rows (row ∷ table) e = absurd (omega arith)

pub opened_ready : (first new : View) (here : Standing) → IsFound first new here → IsFresh first → HasTables first → IsReady new here
opened_ready first new here found fresh tables =
    let order : IsInOrder (first.committed 0) = let P : List Row → Type 0 = λ t. IsInOrder t in subst P fresh.settled found.order in
    let book : first.committed 1 ≡ book_table (about_in (first.committed 1)) (rows_in (first.committed 0)) =
    sym fresh.settled_book ∙ found.book ∙ ap (λ (t : List Row). book_table (about_in t) (rows_in (first.trees 0))) fresh.settled_book ∙ ap (λ (t : List Row). book_table (about_in (first.committed 1)) (rows_in t)) fresh.settled in
    let same : IsReady (record first { cursors = new.cursors }) here = record {
      rest = record {
        is_open = fresh.is_open;
        sound = fresh.sound;
        tables = record { rows = tables.rows; book = tables.book; beside = record { accounts = tables.beside.accounts; sessions = tables.beside.sessions } };
        settled = fresh.settled;
        settled_book = fresh.settled_book;
        settled_beside = fresh.settled_beside;
        order = order;
        book = book;
      };
      stands = found.stands ∙ ap (λ (t : List Row). standing_with (rows_in t)) fresh.settled;
    } in
    let Q : View → Type 0 = λ v. IsReady v here in
    subst Q (sym found.alike) same

pub opened_same : (first new : View) (here : Standing) → IsFound first new here → new.committed ≡ first.committed
opened_same first new here found = ap (λ (v : View). v.committed) found.alike

pub damaged_when_fresh : (first : View) (place : ℕ) → IsFresh first → IsDamagedAt (first.trees 0) place → IsDamagedAt (first.committed 0) place
damaged_when_fresh first place fresh damaged = let P : List Row → Type 0 = λ t. IsDamagedAt t place in subst P fresh.settled damaged

pub elsewhere_when_fresh : (first : View) → IsFresh first → StandsElsewhere (first.trees 0) (first.trees 1) → StandsElsewhere (first.committed 0) (first.committed 1)
elsewhere_when_fresh first fresh elsewhere =
    let P : List Row → Type 0 = λ t. StandsElsewhere t (first.trees 1) in
    let Q : List Row → Type 0 = λ t. StandsElsewhere (first.committed 0) t in
    subst Q fresh.settled_book (subst P fresh.settled elsewhere)

-- only cursors were moved in a store whose book is ready
pub still_ready : (old new : View) (here : Standing) → IsReady old here → IsAlike old new → IsReady new here
still_ready old new here ready alike =
    let same : IsReady (record old { cursors = new.cursors }) here = record {
      rest = record {
        is_open = ready.rest.is_open;
        sound = ready.rest.sound;
        tables = record { rows = ready.rest.tables.rows; book = ready.rest.tables.book; beside = record { accounts = ready.rest.tables.beside.accounts; sessions = ready.rest.tables.beside.sessions } };
        settled = ready.rest.settled;
        settled_book = ready.rest.settled_book;
        settled_beside = ready.rest.settled_beside;
        order = ready.rest.order;
        book = ready.rest.book;
      };
      stands = ready.stands;
    } in
    let Q : View → Type 0 = λ v. IsReady v here in
    subst Q (sym alike) same

-- a table beside the rows, of which all rows have been read
pub counted_beside : (side : Side) (first now : View) (count : ℕ) → HasReadAll (tree_of side) first now count → IsCounted (table_of side (beside_in first.trees)) count
counted_beside Accounts first now count read = record { order = read.order; count = read.count }
counted_beside Sessions first now count read = record { order = read.order; count = read.count }

pub tree_is : (side : Side) (trees : Trees) → table_of side (beside_in trees) ≡ trees (tree_of side)
tree_is Accounts trees = refl
tree_is Sessions trees = refl

pub shape_is : (side : Side) (view : View) → HasBeside view → view.shape (tree_of side) ≡ Table
shape_is Accounts view has = has.accounts
shape_is Sessions view has = has.sessions

-- what stands beside the rows of a book that is ready is committed
pub beside_is : (side : Side) (view : View) (here : Standing) → IsReady view here → table_of side (beside_in view.trees) ≡ table_of side (beside_in view.committed)
beside_is side view here ready = ap (table_of side) ready.rest.settled_beside

pub counted_committed : (side : Side) (view : View) (here : Standing) (count : ℕ) → IsReady view here → IsCounted (table_of side (beside_in view.trees)) count → IsCounted (table_of side (beside_in view.committed)) count
counted_committed side view here count ready counted = subst (λ (t : List Row). IsCounted t count) (beside_is side view here ready) counted

pub order_now : (side : Side) (view : View) (here : Standing) → IsReady view here → IsInOrder (table_of side (beside_in view.committed)) → IsInOrder (table_of side (beside_in view.trees))
order_now side view here ready order = let P : List Row → Type 0 = λ t. IsInOrder t in subst P (sym (beside_is side view here ready)) order

pub within_now : (side : Side) (view : View) (here : Standing) (place : ℕ) → IsReady view here → place < length (rows_in (table_of side (beside_in view.committed))) → place < length (rows_in (table_of side (beside_in view.trees)))
within_now side view here place ready within = subst (λ (t : List Row). place < length (rows_in t)) (sym (beside_is side view here ready)) within

pub octets_committed : (side : Side) (view : View) (here : Standing) (place : ℕ) (octets : List ℕ) → IsReady view here → octets ≡ get_or (rows_in (table_of side (beside_in view.trees))) place []
    → octets ≡ get_or (rows_in (table_of side (beside_in view.committed))) place []
octets_committed side view here place octets ready is = is ∙ ap (λ (t : List Row). get_or (rows_in t) place []) (beside_is side view here ready)
