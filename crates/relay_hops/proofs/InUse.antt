-- Which identifiers are in use on a connection, while they are gone through the least first.
use Rattle.std.proofs.Common.{◌≡◌, ℕ, ◌<◌, ◌≤◌, ◌+◌, ◌&&◌, ◌||◌, ◌==◌, inl, inr, map, Bool, true, false, cond, is_some, List, [], ◌∷◌, Result, Ok, Err, IfOk, Option, Some, None, option_map, refl, ap, sym, ◌∙◌, arith}
use Rattle.std.specs.List.{find, filter, count_by, list_any, AllByRecursion, IsDistinct}
use Rattle.std.specs.Ordering.{nat_cmp}
use Rattle.std.specs.declared.cmp.Ordering.TheVariants.{Less}
use Rattle.std.specs.List.Sorted.{IsPermutation, IsSorted, IsStrictlyIncreasing}
use Rattle.std.proofs.lemmas.Bool.{eqb-true, eq-eqb, ne_eqb, and_parts, or_cases}
use Rattle.std.proofs.lemmas.Cmp.{ranked, nat_eq_equiv}
use Rattle.std.proofs.lemmas.List.Sorted.{list_any-IsPermutation, IsNonDecreasingBy-from_sort}
use Rattle.std.proofs.lemmas.Map.Keys.{sorted_head, sorted_tail, sorted_from_strictly_increasing, IsStrictlyIncreasing-from_distinct, IsDistinct-IsPermutation}
use Rattle.dia_base.specs.declared.number.ConnId.{ConnId}
use Rattle.relay_hops.specs.declared.row.Held.{Held}
use Rattle.relay_hops.specs.declared.row.Row.{Row}
use Rattle.relay_hops.specs.PendingTable.{IsMap, IsWith, AreInUse, is_sent_on, has_key, held_at, hop_of, hops_on}
use Rattle.dia_base.proofs.Counting.{one, count-cons}
use Rattle.relay_hops.proofs.LookUps.{any-hops_on, held-with}
use Rattle.relay_hops.proofs.Rows.{free_after}

pub first-held : (rows : List Row) (conn : ConnId) (hop : ℕ) (hops : List ℕ) → AreInUse rows conn (hop ∷ hops) → is_some (held_at rows conn hop) ≡ true
first-held rows conn hop hops u = u.used hop ∙ ap (λ b. b || list_any (λ h. h == hop) hops) (eq-eqb hop hop refl)

neither : (b c : Bool) → b ≡ false → c ≡ false → (b || c) ≡ false
neither true c e f = absurd cc
neither false c e f = f

above : (hop : ℕ) (hops : List ℕ) → AllByRecursion (λ h. nat_cmp hop h ≡ Less) hops → list_any (λ h. h == hop) hops ≡ false
above hop [] a = refl
above hop (h ∷ hops) a =
    let lt : hop < h = ranked hop h Less (sym a.0) in
    neither (h == hop) (list_any (λ x. x == hop) hops) (ne_eqb h hop (λ e. omega arith)) (above hop hops a.1)

at_least : (hop : ℕ) (hops : List ℕ) (other : ℕ) → AllByRecursion (λ h. nat_cmp hop h ≡ Less) hops → list_any (λ h. h == other) hops ≡ true → hop ≤ other
at_least hop [] other a e = absurd cc
at_least hop (h ∷ hops) other a e =
    let lt : hop < h = ranked hop h Less (sym a.0) in
    elim (or_cases (h == other) (list_any (λ x. x == other) hops) e) [
      | inl here ↦ let same = eqb-true h other here in omega arith
      | inr there ↦ at_least hop hops other a.1 there
    ]

pub first-least : (rows : List Row) (conn : ConnId) (hop : ℕ) (hops : List ℕ) → AreInUse rows conn (hop ∷ hops) → (other : ℕ) → is_some (held_at rows conn other) ≡ true → hop ≤ other
first-least rows conn hop hops u other e =
    elim (or_cases (hop == other) (list_any (λ h. h == other) hops) (sym (u.used other) ∙ e)) [
      | inl here ↦ let same = eqb-true hop other here in omega arith
      | inr there ↦ at_least hop hops other (sorted_head nat_cmp hop hops u.rising) there
    ]

one_less : (b c any : Bool) (held : Option Held) → c ≡ b → is_some held ≡ (c || any) → (b ≡ true → any ≡ false) → is_some (cond b None held) ≡ any
one_less true c any held e used absent = sym (absent refl)
one_less false c any held e used absent = used ∙ ap (λ x. x || any) e

pub rest-in_use : (rows new : List Row) (conn : ConnId) (hop : ℕ) (hops : List ℕ) → AreInUse rows conn (hop ∷ hops)
    → ((other : ℕ) → held_at new conn other ≡ cond (other == hop) None (held_at rows conn other)) → AreInUse new conn hops
rest-in_use rows new conn hop hops u without = record {
  used = λ other.
      ap is_some (without other)
      ∙ one_less (other == hop) (hop == other) (list_any (λ h. h == other) hops) (held_at rows conn other) (nat_eq_equiv.symm hop other) (u.used other)
      (λ e. ap (λ (n : ℕ). list_any (λ h. h == n) hops) (eqb-true other hop e) ∙ above hop hops (sorted_head nat_cmp hop hops u.rising));
  rising = sorted_tail nat_cmp hop hops u.rising;
}

-- ---- what is held under an identifier has it

found_passes : (p : Row → Bool) (b : Bool) (row found : Row) (rest : Option Row) → p row ≡ b → cond b (Some row) rest ≡ Some found → (rest ≡ Some found → p found ≡ true) → p found ≡ true
found_passes p true row found rest e f more = let same : row ≡ found = cc in ap p (sym same) ∙ e
found_passes p false row found rest e f more = more f

found : (p : Row → Bool) (rows : List Row) (row : Row) → find p rows ≡ Some row → p row ≡ true
found p [] row e = absurd cc
found p (r ∷ rows) row e = found_passes p (p r) r row (find p rows) refl e (found p rows row)

its_row : (rows : List Row) (conn : ConnId) (hop : ℕ) (held : Held) (o : Option Row) → find (has_key conn hop) rows ≡ o → option_map (λ row. row.held) o ≡ Some held → held.request.header.hop ≡ hop
its_row rows conn hop held None e f = absurd cc
its_row rows conn hop held (Some row) e f =
    let key = and_parts (row.conn.0 == conn.0) (hop_of row == hop) (found (has_key conn hop) rows row e) in
    let same : row.held ≡ held = cc in
    ap (λ (h : Held). h.request.header.hop) (sym same) ∙ eqb-true _ _ key.1

pub its_hop : (rows : List Row) (conn : ConnId) (hop : ℕ) (held : Held) → held_at rows conn hop ≡ Some held → held.request.header.hop ≡ hop
its_hop rows conn hop held e = its_row rows conn hop held (find (has_key conn hop) rows) refl e

-- ---- one row less

less : (key : Bool) (held : Held) (rest whole : Option Held) → whole ≡ cond key (Some held) rest → (key ≡ true → rest ≡ None) → rest ≡ cond key None whole
less true held rest whole is none = none refl
less false held rest whole is none = sym is

pub held-without : (row : Row) (others rows : List Row) (conn : ConnId) (hop : ℕ) → IsWith row others rows → IsMap rows → held_at others conn hop ≡ cond (has_key conn hop row) None (held_at rows conn hop)
held-without row others rows conn hop w m =
    less (has_key conn hop row) row.held (held_at others conn hop) (held_at rows conn hop) (held-with row others rows conn hop w m) (free_after row others rows conn hop w m)

-- ---- the identifiers on a connection, sorted

counted_front : (sent same : Bool) (row : Row) (rows : List Row) (hop n : ℕ) → (hop_of row == hop) ≡ same → count_by (λ h. h == hop) (map hop_of rows) ≤ n
    → count_by (λ h. h == hop) (map hop_of (cond sent (row ∷ rows) rows)) ≤ one (sent && same) + n
counted_front true same row rows hop n is le = let here : one (hop_of row == hop) ≡ one same = ap one is in omega (arith, count-cons (λ h. h == hop) (hop_of row) (map hop_of rows))
counted_front false same row rows hop n is le = omega arith

counted : (rows : List Row) (conn : ConnId) (hop : ℕ) → count_by (λ h. h == hop) (hops_on rows conn) ≤ count_by (has_key conn hop) rows
counted [] conn hop = omega arith
counted (row ∷ rows) conn hop =
    let le = counted_front (is_sent_on conn row) (hop_of row == hop) row (filter (is_sent_on conn) rows) hop (count_by (has_key conn hop) rows) refl (counted rows conn hop) in
    omega (arith, count-cons (has_key conn hop) row rows)

other : (x y : ℕ) → one (y == x) ≡ 0 → (x == y) ≡ false
other x y e = ne_eqb x y (λ same. absurd (let here : one (y == x) ≡ 1 = ap one (eq-eqb y x (sym same)) in omega arith))

none_same : (x : ℕ) (xs : List ℕ) → count_by (λ h. h == x) xs ≡ 0 → AllByRecursion (λ y. (x == y) ≡ false) xs
none_same x [] e = tt
none_same x (y ∷ ys) e = let parts = count-cons (λ h. h == x) y ys in (other x y (omega arith), none_same x ys (omega arith))

distinct : (xs : List ℕ) → ((k : ℕ) → count_by (λ h. h == k) xs ≤ 1) → IsDistinct (λ x y. x == y) xs
unfolding IsDistinct
distinct [] once = tt
distinct (x ∷ xs) once =
    let here : one (x == x) ≡ 1 = ap one (eq-eqb x x refl) in
    let le = once x in
    let parts = count-cons (λ h. h == x) x xs in (
      none_same x xs (omega arith),
      distinct xs (λ k. let more = once k in omega (arith, count-cons (λ h. h == k) x xs)),
    )

pub rising_on : (rows : List Row) (conn : ConnId) (hops : List ℕ) → IsMap rows → IsPermutation (hops_on rows conn) hops → IsSorted nat_cmp hops → IsStrictlyIncreasing hops
rising_on rows conn hops m same sorted =
    IsStrictlyIncreasing-from_distinct hops (IsNonDecreasingBy-from_sort (λ x. x) hops sorted)
    (IsDistinct-IsPermutation (λ x y. x == y) nat_eq_equiv.symm (hops_on rows conn) hops same
    (distinct (hops_on rows conn) (λ k. let le = counted rows conn k in let one_row = m.single conn k in omega arith)))

pub in_use-on : (rows : List Row) (conn : ConnId) (hops : List ℕ) → IsPermutation (hops_on rows conn) hops → IsStrictlyIncreasing hops → AreInUse rows conn hops
in_use-on rows conn hops same rising = record {
  used = λ hop. sym (any-hops_on rows conn hop) ∙ list_any-IsPermutation (λ h. h == hop) (hops_on rows conn) hops same;
  rising = sorted_from_strictly_increasing hops rising;
}

-- the same of a list that there may be
pub risen : {E L : Type 0} (items : L → List ℕ) (result : Result L E) (rows : List Row) (conn : ConnId) → IsMap rows → IfOk result (λ hops. IsPermutation (hops_on rows conn) (items hops)) → IfOk result (λ hops. IsSorted nat_cmp (items hops))
    → IfOk result (λ hops. IsStrictlyIncreasing (items hops)) × IfOk result (λ hops. AreInUse rows conn (items hops))
risen items (Ok hops) rows conn m same sorted = let rising = rising_on rows conn (items hops) m same sorted in (rising, in_use-on rows conn (items hops) same rising)
risen items (Err e) rows conn m same sorted = (tt, tt)
