-- What becomes of all lines of one kind from one peer.
use Rattle.std.proofs.Common.{◌≡◌, ℕ, ◌+◌, ◌<◌, ◌≤◌, ◌⊎◌, inl, inr, Bool, true, false, ltb, List, ◌∷◌, Option, Some, None, refl, sym, ap, subst, ◌∙◌, arith, cond, min}
use Rattle.std.proofs.lemmas.Bool.{and_parts, cases_eq, eq-eqb, ne_eqb, ltb-true, ltb-false}
use Rattle.farm_log.specs.declared.count.Count.{Count}
use Rattle.farm_log.specs.Limits.{Runs, Told, after_line, after_look, begins, counts, first_in, holds, is_due, lines_in, with_held, with_written, writes}

-- ---- the lines of a second

one_more : (it second : ℕ) (seconds : List ℕ) → it ≡ second → lines_in second (it ∷ seconds) ≡ lines_in second seconds + 1
one_more it second seconds is =
    ap (λ (b : Bool). cond b (lines_in second seconds + 1) (lines_in second seconds)) (eq-eqb it second is)

no_more : (it second : ℕ) (seconds : List ℕ) → (it ≡ second → ⊥) → lines_in second (it ∷ seconds) ≡ lines_in second seconds
no_more it second seconds is =
    ap (λ (b : Bool). cond b (lines_in second seconds + 1) (lines_in second seconds)) (ne_eqb it second is)

-- In the last second so many were written, none in a later one, and at most ten in each.
pub record Few (last written : ℕ) (seconds : List ℕ) : Type 0 where
  pub few : written ≤ 10
  pub now : lines_in last seconds ≡ written
  pub later : (second : ℕ) → last < second → lines_in second seconds ≡ 0
  pub each : (second : ℕ) → lines_in second seconds ≤ 10

apart : (a b : ℕ) → a < b → a ≡ b → ⊥
apart a b less same = omega (arith, less, same)

grown : (it written : ℕ) (seconds : List ℕ) → written ≤ 10 → lines_in it seconds + 1 ≡ written
    → ((second : ℕ) → it < second → lines_in second seconds ≡ 0) → ((second : ℕ) → lines_in second seconds ≤ 10)
    → Few it written (it ∷ seconds)
grown it written seconds few now later each = record {
  few = few;
  now = one_more it it seconds refl ∙ now;
  later = λ second less. no_more it second seconds (apart it second less) ∙ later second less;
  each = λ second. go second (cases_eq it second);
}
  where
    go : (second : ℕ) → (it ≡ second) ⊎ (it ≡ second → ⊥) → lines_in second (it ∷ seconds) ≤ 10
    go second (inl same) =
        subst (λ (n : ℕ). n ≤ 10) (sym (one_more it second seconds same ∙ (subst (λ (s : ℕ). lines_in s seconds + 1 ≡ written) same now))) few
    go second (inr other) = subst (λ (n : ℕ). n ≤ 10) (sym (no_more it second seconds other)) (each second)

-- ---- a line

-- none is held back, and it is the first one of its second, or one of at most ten
pub record Written (second : ℕ) (count next : Count) : Type 0 where
  pub free : count.held ≡ 0
  pub by : ((count.second < second) × (next ≡ first_in second)) ⊎ ((count.written < 10) × (next ≡ with_written count))

same_answer : (p q : Bool × Count) → p ≡ q → p.0 ≡ q.0
same_answer p q is = ap (λ (pair : Bool × Count). pair.0) is

same_next : (p q : Bool × Count) → p ≡ q → p.1 ≡ q.1
same_next p q is = ap (λ (pair : Bool × Count). pair.1) is

-- the tests of a line, in their order
abbrev by_tests : Bool → Bool → Bool → ℕ → Count → Bool × Count
by_tests held later room second count =
    cond held (false, with_held count) (cond later (true, first_in second) (cond room (true, with_written count) (false, with_held count)))

no_held : (held : ℕ) → ltb 0 held ≡ false → held ≡ 0
no_held held is = let le : held ≤ 0 = ltb-false 0 held is in omega (arith, le)

written_by : (held later room : Bool) (second : ℕ) (count next : Count) → ltb 0 count.held ≡ held → ltb count.second second ≡ later → ltb count.written 10 ≡ room
    → by_tests held later room second count ≡ (true, next) → Written second count next
written_by true later room second count next h l r is = absurd (true_is (sym (same_answer (false, with_held count) (true, next) is)))
  where
    true_is : true ≡ false → ⊥
    true_is e = cc
written_by false true room second count next h l r is =
    record { free = no_held count.held h; by = inl (ltb-true count.second second l, sym (same_next (true, first_in second) (true, next) is)) }
written_by false false true second count next h l r is =
    record { free = no_held count.held h; by = inr (ltb-true count.written 10 r, sym (same_next (true, with_written count) (true, next) is)) }
written_by false false false second count next h l r is = absurd (true_is (sym (same_answer (false, with_held count) (true, next) is)))
  where
    true_is : true ≡ false → ⊥
    true_is e = cc

is_written : (second : ℕ) (count next : Count) → after_line second count ≡ (true, next) → Written second count next
is_written second count next is = written_by (ltb 0 count.held) (ltb count.second second) (ltb count.written 10) second count next refl refl refl is

held_by : (held later room : Bool) (second : ℕ) (count next : Count) → by_tests held later room second count ≡ (false, next) → next ≡ with_held count
held_by true later room second count next is = sym (same_next (false, with_held count) (false, next) is)
held_by false true room second count next is = absurd (true_is (same_answer (true, first_in second) (false, next) is))
  where
    true_is : true ≡ false → ⊥
    true_is e = cc
held_by false false true second count next is = absurd (true_is (same_answer (true, with_written count) (false, next) is))
  where
    true_is : true ≡ false → ⊥
    true_is e = cc
held_by false false false second count next is = sym (same_next (false, with_held count) (false, next) is)

is_held : (second : ℕ) (count next : Count) → after_line second count ≡ (false, next) → next ≡ with_held count
is_held second count next is = held_by (ltb 0 count.held) (ltb count.second second) (ltb count.written 10) second count next is

-- ---- a look

-- so many were held back, and their second is over
pub record Taken (second held : ℕ) (count next : Count) : Type 0 where
  pub held_is : held ≡ count.held
  pub later : count.second < second
  pub next_is : next ≡ first_in second

abbrev by_look : Bool → ℕ → Count → Option ℕ × Count
by_look due second count = cond due (Some count.held, first_in second) (None, count)

same_told : (p q : Option ℕ × Count) → p ≡ q → p.0 ≡ q.0
same_told p q is = ap (λ (pair : Option ℕ × Count). pair.0) is

same_looked : (p q : Option ℕ × Count) → p ≡ q → p.1 ≡ q.1
same_looked p q is = ap (λ (pair : Option ℕ × Count). pair.1) is

some_is : (a b : ℕ) → Some a ≡ Some b → b ≡ a
some_is a b is = cc

none_is : (a : ℕ) → None ≡ Some a → ⊥
none_is a is = cc

taken_by : (due : Bool) (second held : ℕ) (count next : Count) → is_due second count ≡ due → by_look due second count ≡ (Some held, next)
    → Taken second held count next
taken_by true second held count next d is =
    record {
      held_is = some_is count.held held (same_told (Some count.held, first_in second) (Some held, next) is);
      later = ltb-true count.second second (and_parts (ltb 0 count.held) (ltb count.second second) d).1;
      next_is = sym (same_looked (Some count.held, first_in second) (Some held, next) is);
    }
taken_by false second held count next d is = absurd (none_is held (same_told (None, count) (Some held, next) is))

is_taken : (second held : ℕ) (count next : Count) → after_look second count ≡ (Some held, next) → Taken second held count next
is_taken second held count next is = taken_by (is_due second count) second held count next refl is

-- ---- all lines

few_after : (second : ℕ) (count next : Count) (seconds : List ℕ) → Few count.second count.written seconds
    → ((count.second < second) × (next ≡ first_in second)) ⊎ ((count.written < 10) × (next ≡ with_written count))
    → Few next.second next.written (next.second ∷ seconds)
few_after second count next seconds few (inl first) =
    subst (λ (n : Count). Few n.second n.written (n.second ∷ seconds)) (sym first.1)
    (grown second 1 seconds (omega arith) (ap (λ (n : ℕ). n + 1) (few.later second first.0)) (λ s less. few.later s (omega (arith, first.0, less))) few.each)
few_after second count next seconds few (inr more) =
    subst (λ (n : Count). Few n.second n.written (n.second ∷ seconds)) (sym more.1)
    (grown count.second (count.written + 1) seconds (omega (arith, more.0)) (ap (λ (n : ℕ). n + 1) few.now) few.later few.each)

pub few_in : (count : Count) (told : Told) → Runs count told → Few count.second count.written told.seconds
few_in _ _ begins = record { few = omega arith; now = refl; later = λ second less. refl; each = λ second. omega arith }
few_in _ _ (writes count next before second runs is) =
    few_after second count next before.seconds (few_in count before runs) (is_written second count next is).by
few_in _ _ (holds count next before second runs is) =
    subst (λ (n : Count). Few n.second n.written before.seconds) (sym (is_held second count next is)) (few_in count before runs)
few_in _ _ (counts count next before second held runs is) =
    let few = few_in count before runs in
    let taken = is_taken second held count next is in
    subst (λ (n : Count). Few n.second n.written (n.second ∷ before.seconds)) (sym taken.next_is)
    (grown second 1 before.seconds (omega arith) (ap (λ (n : ℕ). n + 1) (few.later second taken.later))
    (λ s less. few.later s (omega (arith, taken.later, less))) few.each)

sum_written : (came written counted held next : ℕ) → came ≡ written + counted + held → held ≡ 0 → next ≡ 0 → came + 1 ≡ (written + 1) + counted + next
sum_written came written counted held next sum free is = omega (arith, sum, free, is)

sum_held : (came written counted held : ℕ) → came ≡ written + counted + held → came + 1 < 18446744073709551616
    → came + 1 ≡ written + counted + min (held + 1) 18446744073709551615
sum_held came written counted held sum below = omega (arith, sum, below)

sum_counted : (came written counted held told : ℕ) → came ≡ written + counted + held → told ≡ held → came ≡ written + (counted + told) + 0
sum_counted came written counted held told sum is = omega (arith, sum, is)

held_after : (second : ℕ) (count next : Count) → count.held ≡ 0
    → ((count.second < second) × (next ≡ first_in second)) ⊎ ((count.written < 10) × (next ≡ with_written count)) → next.held ≡ 0
held_after second count next free (inl first) = ap (λ (n : Count). n.held) first.1
held_after second count next free (inr more) = ap (λ (n : Count). n.held) more.1 ∙ free

less_before : (came : ℕ) → came + 1 < 18446744073709551616 → came < 18446744073709551616
less_before came less = omega (arith, less)

pub all_counted : (count : Count) (told : Told) → Runs count told → told.came < 18446744073709551616 → told.came ≡ told.written + told.counted + count.held
all_counted _ _ begins below = refl
all_counted _ _ (writes count next before second runs is) below =
    let written = is_written second count next is in
    sum_written before.came before.written before.counted count.held next.held
    (all_counted count before runs (less_before before.came below)) written.free (held_after second count next written.free written.by)
all_counted _ _ (holds count next before second runs is) below =
    sum_held before.came before.written before.counted count.held (all_counted count before runs (less_before before.came below)) below
    ∙ ap (λ (n : Count). before.written + before.counted + n.held) (sym (is_held second count next is))
all_counted _ _ (counts count next before second held runs is) below =
    let taken = is_taken second held count next is in
    sum_counted before.came before.written before.counted count.held held (all_counted count before runs below) taken.held_is
    ∙ ap (λ (n : Count). before.written + (before.counted + held) + n.held) (sym taken.next_is)
