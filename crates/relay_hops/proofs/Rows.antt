-- Rows found, taken out, put in and changed.
use Rattle.std.proofs.Common.{◌≡◌, ℕ, ◌+◌, ◌≤◌, ◌&&◌, ◌==◌, Bool, true, false, List, ◌∷◌, map, length, None, option_map, refl, ap, sym, subst, ◌∙◌, arith, length-append}
use Rattle.std.specs.List.{count_by, list_any}
use Rattle.std.proofs.lemmas.Bool.{eqb-true}
use Rattle.dia_base.specs.declared.number.ConnId.{ConnId}
use Rattle.relay_hops.specs.declared.row.Row.{Row}
use Rattle.relay_hops.specs.PendingTable.{hop_of, is_sent_on, has_key, IsMap, held_at, IsWith, orphaned}
use Rattle.dia_base.proofs.Counting.{one, count-among, count-map, none_counted, none_any}

-- ---- keys

both : (a b : Bool) → (a && b) ≡ true → (a ≡ true) × (b ≡ true)
both true true e = (refl, refl)
both true false e = absurd cc
both false b e = absurd cc

conn_id : ℕ → ConnId
conn_id n = record { 0 = n }

pub its_key : (conn : ConnId) (hop : ℕ) (row : Row) → has_key conn hop row ≡ true → (row.conn ≡ conn) × (hop_of row ≡ hop)
unfolding conn_id
its_key conn hop row e =
    let parts = both (is_sent_on conn row) (hop_of row == hop) e in
    (ap conn_id (eqb-true _ _ parts.0), eqb-true _ _ parts.1)

-- the row of a key
pub row_of_key : (conn : ConnId) (hop : ℕ) (row : Row) → has_key conn hop row ≡ true → row ≡ record { conn = conn; held = row.held }
row_of_key conn hop row e = ap (λ (c : ConnId). record { conn = c; held = row.held }) (its_key conn hop row e).0

pub held-none : (rows : List Row) (conn : ConnId) (hop : ℕ) → list_any (has_key conn hop) rows ≡ false → held_at rows conn hop ≡ None
held-none rows conn hop e = ap (option_map (λ (r : Row). r.held)) (none_any (has_key conn hop) rows e).1

-- ---- one row less

counted : (row : Row) (others rows : List Row) → IsWith row others rows → (conn : ConnId) (hop : ℕ) → count_by (has_key conn hop) rows ≡ one (has_key conn hop row) + count_by (has_key conn hop) others
counted row others rows w conn hop =
    ap (count_by (has_key conn hop)) w.whole ∙ count-among (has_key conn hop) row w.before w.after
    ∙ ap (λ (xs : List Row). one (has_key conn hop row) + count_by (has_key conn hop) xs) (sym w.without)

pub IsMap-less : (row : Row) (others rows : List Row) → IsWith row others rows → IsMap rows → IsMap others
IsMap-less row others rows w m = record { single = λ conn hop. let le = m.single conn hop in omega (arith, counted row others rows w conn hop) }

-- the key of the row that is gone is free
pub free_after : (row : Row) (others rows : List Row) (conn : ConnId) (hop : ℕ) → IsWith row others rows → IsMap rows → has_key conn hop row ≡ true → held_at others conn hop ≡ None
free_after row others rows conn hop w m key =
    let le = m.single conn hop in
    let here : one (has_key conn hop row) ≡ 1 = ap one key in
    ap (option_map (λ (r : Row). r.held)) (none_counted (has_key conn hop) others (omega (arith, counted row others rows w conn hop)))

-- ---- one row more

pub at_most_one : (b : Bool) (n : ℕ) → n ≤ 1 → (b ≡ true → n ≡ 0) → one b + n ≤ 1
at_most_one true n le e = let none = e refl in omega arith
at_most_one false n le e = omega arith

pub IsMap-more : (row : Row) (others rows : List Row) → IsWith row others rows → count_by (has_key row.conn (hop_of row)) others ≡ 0 → IsMap others → IsMap rows
IsMap-more row others rows w none m = record {
  single = λ conn hop.
      let le = at_most_one (has_key conn hop row) (count_by (has_key conn hop) others) (m.single conn hop)
      (λ key. ap (λ (h : ℕ). count_by (has_key conn h) others) (sym (its_key conn hop row key).1) ∙ ap (λ (c : ConnId). count_by (has_key c (hop_of row)) others) (sym (its_key conn hop row key).0) ∙ none) in
      omega (arith, counted row others rows w conn hop);
}

-- ---- a row changed

pub IsMap-orphaned : (rows : List Row) (ended : ConnId) → IsMap rows → IsMap (map (orphaned ended) rows)
IsMap-orphaned rows ended m = record { single = λ conn hop. subst (λ (n : ℕ). n ≤ 1) (sym (count-map (has_key conn hop) (orphaned ended) rows)) (m.single conn hop) }

pub length-with : (row : Row) (others rows : List Row) → IsWith row others rows → length rows ≡ length others + 1
length-with row others rows w =
    let whole = ap length w.whole in
    let without = ap length w.without in
    omega (arith, length-append w.before (row ∷ w.after), length-append w.before w.after)
