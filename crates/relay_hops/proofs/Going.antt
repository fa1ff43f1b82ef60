-- A request that goes out again, seen by its key.
use Rattle.std.proofs.Common.{◌≡◌, ℕ, ◌<◌, ◌==◌, ◌&&◌, Bool, true, false, cond, List, length, Option, Some, None, option_map, is_some, IfSome, refl, ap, sym, subst, ◌∙◌, arith}
use Rattle.std.proofs.lemmas.Bool.{eqb-true, eq-eqb, ne_eqb, leb-false}
use Rattle.slab.specs.Slab.{get, slab_len}
use Rattle.slab.proofs.DrainLemmas.{length-values}
use Rattle.dia_base.specs.declared.number.ConnId.{ConnId}
use Rattle.relay_hops.specs.declared.row.Held.{Held}
use Rattle.relay_hops.specs.declared.row.Row.{Row}
use Rattle.relay_hops.specs.declared.places.Places.{Places}
use Rattle.relay_hops.specs.PendingTable.{PendingTable, is_full, is_sent_on, has_key, held_at, IsWith, IsMoved, resent}
use Rattle.relay_hops.specs.PlaceTable.{rows_of, key_at, if_key, row_under, row_at, IsIndexed}
use Rattle.relay_hops.proofs.Rows.{row_of_key}
use Rattle.relay_hops.proofs.Slab.{held-row}

-- the row that a key finds has it
pub row_is : (conn : ConnId) (hop : ℕ) (slot : Option Row) (row : Row) → if_key conn hop slot ≡ Some row → (slot ≡ Some row) × (has_key conn hop row ≡ true)
row_is conn hop None row e = absurd cc
row_is conn hop (Some other) row e = chosen (has_key conn hop other) refl e
  where
    chosen : (b : Bool) → has_key conn hop other ≡ b → cond b (Some other) None ≡ Some row → (Some other ≡ Some row) × (has_key conn hop row ≡ true)
    chosen true is f = let same : other ≡ row = cc in (f, ap (has_key conn hop) (sym same) ∙ is)
    chosen false is f = absurd cc

under_is : (p : Places) (conn : ConnId) (hop : ℕ) (key : Option ℕ) (row : Row) → row_under p conn hop key ≡ Some row → has_key conn hop row ≡ true
under_is p conn hop None row e = absurd cc
under_is p conn hop (Some key) row e = (row_is conn hop (get p.slab key) row e).1

pub keyed : (p : Places) (conn : ConnId) (hop : ℕ) (row : Row) → row_at p conn hop ≡ Some row → has_key conn hop row ≡ true
keyed p conn hop row e = under_is p conn hop (key_at p.index hop) row e

pub conn_is : (a b : ConnId) → (a.0 == b.0) ≡ true → a ≡ b
conn_is a b e = ap conn_id (eqb-true a.0 b.0 e)
  where
    conn_id : ℕ → ConnId
    conn_id n = record { 0 = n }

pub as_held : (row : Option Row) → is_some row ≡ is_some (option_map (λ (r : Row). r.held) row)
as_held None = refl
as_held (Some row) = refl

pub same_if_free : (new : Option ℕ) (there : Option Held) (hop : ℕ) → is_some new ≡ is_some there → IfSome new (λ fresh. there ≡ None → fresh ≡ hop)
same_if_free None there hop e = tt
same_if_free (Some fresh) None hop e = absurd cc
same_if_free (Some fresh) (Some held) hop e = λ f. absurd cc

both : (a b : Bool) → (a && b) ≡ true → a ≡ true
both true b e = refl
both false b e = absurd cc

not_both : (a b : Bool) → a ≡ false → (a && b) ≡ false
not_both true b e = absurd cc
not_both false b e = refl

-- a row that was sent on one connection is not found on another one
elsewhere_none : (conn to : ConnId) (hop : ℕ) (slot : Option Row) → (to.0 == conn.0) ≡ false → is_some (if_key conn hop slot) ≡ true → if_key to hop slot ≡ None
elsewhere_none conn to hop None ne there = refl
elsewhere_none conn to hop (Some row) ne there = ap (λ b. cond b (Some row) None) (not_both (is_sent_on to row) _ (ne_eqb row.conn.0 to.0 (λ same. absurd (
    let sent = eqb-true row.conn.0 conn.0 (both (is_sent_on conn row) _ (passes (has_key conn hop row) refl there)) in
    let yes = eq-eqb to.0 conn.0 (sym same ∙ sent) in cc))))
  where
    passes : (b : Bool) → has_key conn hop row ≡ b → is_some (cond b (Some row) None) ≡ true → has_key conn hop row ≡ true
    passes true e f = e
    passes false e f = absurd cc

under_none : (p : Places) (conn to : ConnId) (hop : ℕ) (key : Option ℕ) → (to.0 == conn.0) ≡ false → is_some (row_under p conn hop key) ≡ true → row_under p to hop key ≡ None
under_none p conn to hop None ne there = refl
under_none p conn to hop (Some key) ne there = elsewhere_none conn to hop (get p.slab key) ne there

abbrev held : Option Row → Option Held
held o = option_map (λ row. row.held) o

pub free_there : (p : Places) (conn to : ConnId) (hop : ℕ) (new : Option ℕ) → IsIndexed p → IfSome new (λ kept. kept ≡ hop) → is_some new ≡ is_some (row_at p conn hop) → (to.0 == conn.0) ≡ false
    → IfSome new (λ fresh. held_at (rows_of p) to fresh ≡ None)
free_there p conn to hop None s same there ne = tt
free_there p conn to hop (Some fresh) s same there ne =
    subst (λ (n : ℕ). held_at (rows_of p) to n ≡ None) (sym same) (held-row p to hop s ∙ ap held (under_none p conn to hop (key_at p.index hop) ne (sym there)))

-- nothing is held under an identifier whose place has no row
pub vacant_free : (p : Places) (conn : ConnId) (hop : ℕ) → IsIndexed p → key_at p.index hop ≡ None → held_at (rows_of p) conn hop ≡ None
vacant_free p conn hop s none = held-row p conn hop s ∙ ap (λ key. held (row_under p conn hop key)) none

moved_row : (conn to : ConnId) (new : Option ℕ) (row : Option Row) (before left : List Row) → ((r : Row) → row ≡ Some r → r ≡ record { conn = conn; held = r.held })
    → IfSome new (λ fresh. IfSome row (λ r. IsMoved r (resent to fresh r) before left))
    → IfSome new (λ fresh. IfSome (option_map (λ (r : Row). r.held) row) (λ held. IsMoved (record { conn = conn; held = held }) (resent to fresh (record { conn = conn; held = held })) before left))
moved_row conn to None row before left is moved = tt
moved_row conn to (Some fresh) None before left is moved = tt
moved_row conn to (Some fresh) (Some row) before left is moved = subst (λ (r : Row). IsMoved r (resent to fresh r) before left) (is row refl) moved

pub moved_held : (p : Places) (conn to : ConnId) (hop : ℕ) (new : Option ℕ) (left : List Row) → IfSome new (λ fresh. IfSome (row_at p conn hop) (λ r. IsMoved r (resent to fresh r) (rows_of p) left))
    → IfSome new (λ fresh. IfSome (option_map (λ (r : Row). r.held) (row_at p conn hop)) (λ held. IsMoved (record { conn = conn; held = held }) (resent to fresh (record { conn = conn; held = held })) (rows_of p) left))
moved_held p conn to hop new left moved = moved_row conn to new (row_at p conn hop) (rows_of p) left (λ r e. row_of_key conn hop r (keyed p conn hop r e)) moved

-- a row that is taken out and put back under another identifier
pub renumbered : (p : Places) (conn : ConnId) (hop fresh : ℕ) (row other : Row) (between left : List Row) → IsIndexed p → row_at p conn hop ≡ Some row → other ≡ resent conn fresh row
    → IsWith row between (rows_of p) → IsWith other between left
    → IfSome (held_at (rows_of p) conn hop) (λ held. IsMoved (record { conn = conn; held = held }) (resent conn fresh (record { conn = conn; held = held })) (rows_of p) left)
renumbered p conn hop fresh row other between left s there is out more =
    subst (λ (o : Option Held). IfSome o (λ held. IsMoved (record { conn = conn; held = held }) (resent conn fresh (record { conn = conn; held = held })) (rows_of p) left)) (sym (held-row p conn hop s ∙ ap held there))
    (subst (λ (r : Row). IsMoved r (resent conn fresh r) (rows_of p) left) (row_of_key conn hop row (keyed p conn hop row there))
    (record { rest = between; was = out; is = subst (λ (r : Row). IsWith r between left) is more }))

pub told_by : (p : Places) (conn : ConnId) (hop : ℕ) (row : Option Row) → IsIndexed p → row ≡ row_at p conn hop → held_at (rows_of p) conn hop ≡ held row
told_by p conn hop row s e = held-row p conn hop s ∙ ap held (sym e)

pub taken_held : (p : Places) (conn : ConnId) (hop : ℕ) (row : Option Row) → IsIndexed p → row ≡ row_at p conn hop → is_some row ≡ is_some (held_at (rows_of p) conn hop)
taken_held p conn hop row s e = as_held row ∙ sym (ap is_some (told_by p conn hop row s e))

pub none_left : (p : Places) (conn : ConnId) (hop : ℕ) → IsIndexed p → row_at p conn hop ≡ None → held_at (rows_of p) conn hop ≡ None
none_left p conn hop s e = told_by p conn hop None s (sym e)

-- a table that is not full has room
pub few : (p : Places) (limit next : ℕ) (pending : PendingTable) → record { limit = limit; rows = rows_of p; next = next } ≡ pending → is_full pending ≡ false → slab_len p.slab < limit
few p limit next pending e room =
    let some = leb-false limit (length (rows_of p)) (subst (λ table. is_full table ≡ false) (sym e) room) in
    omega (arith, length-values p.slab.slots)
