-- What a test finds among the rows of slots, where the rows that pass it have one key.
use Rattle.std.proofs.Common.{◌≡◌, ℕ, zero, suc, ◌+◌, ◌≤◌, ◌||◌, Bool, true, false, cond, List, [], ◌∷◌, get_or, Option, Some, None, refl, ap, sym, ◌∙◌, arith}
use Rattle.std.specs.List.{find, count_by, list_any}
use Rattle.relay_hops.specs.declared.row.Row.{Row}
use Rattle.relay_hops.specs.PlaceTable.{rows_at}
use Rattle.dia_base.proofs.Counting.{one, count-cons, none_counted}
use Rattle.relay_hops.proofs.Rows.{at_most_one}

-- ---- rows that pass no test, or some

not_true : (b : Bool) → (b ≡ true → ⊥) → b ≡ false
not_true true never = absurd (never refl)
not_true false never = refl

-- no row in the slots passes
abbrev pub NonePasses : (Row → Bool) → List (Option Row) → Type 0
NonePasses test slots = (at : ℕ) (row : Row) → get_or slots at None ≡ Some row → test row ≡ true → ⊥

pub none_pass : (test : Row → Bool) (slots : List (Option Row)) → NonePasses test slots → count_by test (rows_at slots) ≡ 0
none_pass test [] never = refl
none_pass test (None ∷ slots) never = none_pass test slots (λ at. never (suc at))
none_pass test (Some row ∷ slots) never =
    let here : one (test row) ≡ 0 = ap one (not_true (test row) (never 0 row refl)) in
    omega (arith, count-cons test row (rows_at slots), none_pass test slots (λ at. never (suc at)))

neither : (b c : Bool) → b ≡ false → c ≡ false → (b || c) ≡ false
neither true c e f = absurd cc
neither false c e f = f

pub none_any_pass : (test : Row → Bool) (slots : List (Option Row)) → NonePasses test slots → list_any test (rows_at slots) ≡ false
none_any_pass test [] never = refl
none_any_pass test (None ∷ slots) never = none_any_pass test slots (λ at. never (suc at))
none_any_pass test (Some row ∷ slots) never = neither (test row) (list_any test (rows_at slots)) (not_true (test row) (never 0 row refl)) (none_any_pass test slots (λ at. never (suc at)))

or_true : (b c : Bool) → c ≡ true → (b || c) ≡ true
or_true true c e = refl
or_true false c e = e

pub one_passes : (test : Row → Bool) (slots : List (Option Row)) (at : ℕ) (row : Row) → get_or slots at None ≡ Some row → test row ≡ true → list_any test (rows_at slots) ≡ true
one_passes test [] at row e f = absurd cc
one_passes test (None ∷ slots) zero row e f = absurd cc
one_passes test (None ∷ slots) (suc at) row e f = one_passes test slots at row e f
one_passes test (Some other ∷ slots) zero row e f = let same : other ≡ row = cc in ap (λ b. b || list_any test (rows_at slots)) (ap test same ∙ f)
one_passes test (Some other ∷ slots) (suc at) row e f = or_true (test other) (list_any test (rows_at slots)) (one_passes test slots at row e f)

-- ---- one key

-- the key of a row is its own, where the first slot has this one
abbrev pub HaveKeys : (Row → Option ℕ) → ℕ → List (Option Row) → Type 0
HaveKeys key first slots = (at : ℕ) (row : Row) → get_or slots at None ≡ Some row → key row ≡ Some (first + at)

later : (key : Row → Option ℕ) (first : ℕ) (slot : Option Row) (slots : List (Option Row)) → HaveKeys key first (slot ∷ slots) → HaveKeys key (suc first) slots
later key first slot slots own at row e = let same : first + suc at ≡ suc first + at = omega arith in own (suc at) row e ∙ ap (λ (n : ℕ). Some n) same

-- the rows that pass the test have this key
abbrev pub PassWith : (Row → Option ℕ) → (Row → Bool) → Option ℕ → Type 0
PassWith key test at = (row : Row) → test row ≡ true → key row ≡ at

differ : (a b : ℕ) → Some a ≡ Some b → a ≡ b
differ a b e = cc

-- where they have the key of an earlier slot, none passes
beyond : (key : Row → Option ℕ) (test : Row → Bool) (wanted : Option ℕ) (first n : ℕ) (slots : List (Option Row)) → HaveKeys key (suc first) slots → PassWith key test wanted → wanted ≡ Some n → n ≤ first → NonePasses test slots
beyond key test wanted first n slots own pass is le at row e f = let same = differ n (suc first + at) (sym is ∙ sym (pass row f) ∙ own at row e) in omega arith

pub single : (key : Row → Option ℕ) (test : Row → Bool) (wanted : Option ℕ) (first : ℕ) (slots : List (Option Row)) → HaveKeys key first slots → PassWith key test wanted → count_by test (rows_at slots) ≤ 1
single key test wanted first [] own pass = omega arith
single key test wanted first (None ∷ slots) own pass = single key test wanted (suc first) slots (later key first None slots own) pass
single key test wanted first (Some row ∷ slots) own pass =
    let le = at_most_one (test row) (count_by test (rows_at slots)) (single key test wanted (suc first) slots (later key first (Some row) slots own) pass)
    (λ f. none_pass test slots (beyond key test wanted first (first + 0) slots (later key first (Some row) slots own) pass (sym (pass row f) ∙ own 0 row refl) (omega arith))) in
    omega (arith, count-cons test row (rows_at slots))

-- the row of an option, if it passes
abbrev pub if_passes : (Row → Bool) → Option Row → Option Row
if_passes test None = None
if_passes test (Some row) = cond (test row) (Some row) None

first_found : (b : Bool) (row : Row) (rest : Option Row) → rest ≡ None → cond b (Some row) rest ≡ cond b (Some row) None
first_found true row rest none = refl
first_found false row rest none = none

passed_over : (b : Bool) (row : Row) (rest found : Option Row) → b ≡ false → rest ≡ found → cond b (Some row) rest ≡ found
passed_over true row rest found e f = absurd cc
passed_over false row rest found e f = f

pub found_at : (key : Row → Option ℕ) (test : Row → Bool) (wanted : Option ℕ) (first at : ℕ) (slots : List (Option Row)) → HaveKeys key first slots → PassWith key test wanted → wanted ≡ Some (first + at)
    → find test (rows_at slots) ≡ if_passes test (get_or slots at None)
found_at key test wanted first at [] own pass is = refl
found_at key test wanted first zero (None ∷ slots) own pass is =
    none_counted test (rows_at slots) (none_pass test slots (beyond key test wanted first (first + 0) slots (later key first None slots own) pass is (omega arith)))
found_at key test wanted first zero (Some row ∷ slots) own pass is =
    first_found (test row) row (find test (rows_at slots))
    (none_counted test (rows_at slots) (none_pass test slots (beyond key test wanted first (first + 0) slots (later key first (Some row) slots own) pass is (omega arith))))
found_at key test wanted first (suc at) (None ∷ slots) own pass is =
    let same : first + suc at ≡ suc first + at = omega arith in
    found_at key test wanted (suc first) at slots (later key first None slots own) pass (is ∙ ap (λ (n : ℕ). Some n) same)
found_at key test wanted first (suc at) (Some row ∷ slots) own pass is =
    let same : first + suc at ≡ suc first + at = omega arith in
    passed_over (test row) row (find test (rows_at slots)) (if_passes test (get_or slots at None))
    (not_true (test row) (λ f. let e = differ (first + suc at) (first + 0) (sym is ∙ sym (pass row f) ∙ own 0 row refl) in absurd (omega arith)))
    (found_at key test wanted (suc first) at slots (later key first (Some row) slots own) pass (is ∙ ap (λ (n : ℕ). Some n) same))
