-- What is held after a change, key by key.
use Rattle.std.proofs.Common.{◌≡◌, ℕ, ◌&&◌, ◌||◌, ◌==◌, Bool, true, false, cond, is_some, List, [], ◌∷◌, map, Option, Some, None, option_map, refl, ap, sym, ◌∙◌, arith}
use Rattle.std.specs.Option.{option_or}
use Rattle.std.specs.List.{find, filter, count_by, list_any}
use Rattle.std.proofs.lemmas.List.Folds.{find-append}
use Rattle.std.proofs.lemmas.List.Sums.{sum_by-append}
use Rattle.dia_base.specs.declared.number.ConnId.{ConnId}
use Rattle.relay_hops.specs.declared.row.Held.{Held}
use Rattle.relay_hops.specs.declared.row.Row.{Row}
use Rattle.relay_hops.specs.PendingTable.{hop_of, is_sent_on, has_key, IsMap, held_at, hops_on, IsWith, IsMoved, without_origin, orphaned}
use Rattle.dia_base.proofs.Counting.{one, count-cons, count_none, none_counted}

abbrev held : Option Row → Option Held
held o = option_map (λ row. row.held) o

joined : (b : Bool) (row : Row) (first second : Option Row) → (b ≡ true → first ≡ None) → held (option_or first (cond b (Some row) second)) ≡ cond b (Some row.held) (held (option_or first second))
joined true row None second e = refl
joined true row (Some other) second e = absurd (let none = e refl in cc)
joined false row None second e = refl
joined false row (Some other) second e = refl

pub held-with : (row : Row) (others rows : List Row) (conn : ConnId) (hop : ℕ) → IsWith row others rows → IsMap rows → held_at rows conn hop ≡ cond (has_key conn hop row) (Some row.held) (held_at others conn hop)
held-with row others rows conn hop w m =
    let le = m.single conn hop in
    let all = ap (count_by (has_key conn hop)) w.whole in
    let parts = sum_by-append (λ r. one (has_key conn hop r)) w.before (row ∷ w.after) in
    ap (λ (xs : List Row). held (find (has_key conn hop) xs)) w.whole
    ∙ ap held (find-append (has_key conn hop) w.before (row ∷ w.after))
    ∙ joined (has_key conn hop row) row (find (has_key conn hop) w.before) (find (has_key conn hop) w.after)
    (λ key. let here : one (has_key conn hop row) ≡ 1 = ap one key in none_counted (has_key conn hop) w.before (omega (arith, count-cons (has_key conn hop) row w.after)))
    ∙ ap (λ (o : Option Row). cond (has_key conn hop row) (Some row.held) (held o)) (sym (find-append (has_key conn hop) w.before w.after))
    ∙ ap (λ (xs : List Row). cond (has_key conn hop row) (Some row.held) (held (find (has_key conn hop) xs))) (sym w.without)

pub moved-rest : (row other : Row) (old new : List Row) → IsMoved row other old new → (rest : List Row) × IsWith row rest old × IsWith other rest new
moved-rest row other old new w = (w.rest, w.was, w.is)

front : (ended : ConnId) (b : Bool) (row : Row) (found rest : Option Row) → held found ≡ option_map (without_origin ended) (held rest) → held (cond b (Some (orphaned ended row)) found) ≡ option_map (without_origin ended) (held (cond b (Some row) rest))
front ended true row found rest e = refl
front ended false row found rest e = e

pub held-orphaned : (rows : List Row) (ended conn : ConnId) (hop : ℕ) → held_at (map (orphaned ended) rows) conn hop ≡ option_map (without_origin ended) (held_at rows conn hop)
held-orphaned [] ended conn hop = refl
held-orphaned (row ∷ rows) ended conn hop =
    front ended (has_key conn hop row) row (find (has_key conn hop) (map (orphaned ended) rows)) (find (has_key conn hop) rows) (held-orphaned rows ended conn hop)

some_front : (sent same : Bool) (row : Row) (rows : List Row) (hop : ℕ) (rest : Option Row) → (hop_of row == hop) ≡ same → list_any (λ h. h == hop) (map hop_of rows) ≡ is_some (held rest)
    → list_any (λ h. h == hop) (map hop_of (cond sent (row ∷ rows) rows)) ≡ is_some (held (cond (sent && same) (Some row) rest))
some_front true true row rows hop rest is e = ap (λ b. b || list_any (λ h. h == hop) (map hop_of rows)) is
some_front true false row rows hop rest is e = ap (λ b. b || list_any (λ h. h == hop) (map hop_of rows)) is ∙ e
some_front false same row rows hop rest is e = e

pub any-hops_on : (rows : List Row) (conn : ConnId) (hop : ℕ) → list_any (λ h. h == hop) (hops_on rows conn) ≡ is_some (held_at rows conn hop)
any-hops_on [] conn hop = refl
any-hops_on (row ∷ rows) conn hop = some_front (is_sent_on conn row) (hop_of row == hop) row (filter (is_sent_on conn) rows) hop (find (has_key conn hop) rows) refl (any-hops_on rows conn hop)

no_row : (o : Option Row) → held o ≡ None → o ≡ None
no_row None e = refl
no_row (Some row) e = absurd cc

pub count-free : (rows : List Row) (conn : ConnId) (hop : ℕ) → held_at rows conn hop ≡ None → count_by (has_key conn hop) rows ≡ 0
count-free rows conn hop e = count_none (has_key conn hop) rows (no_row (find (has_key conn hop) rows) e)

pub free-counted : (rows : List Row) (conn : ConnId) (hop : ℕ) → count_by (has_key conn hop) rows ≡ 0 → held_at rows conn hop ≡ None
free-counted rows conn hop e = ap held (none_counted (has_key conn hop) rows e)
