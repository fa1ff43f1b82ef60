-- What all open sessions hold together, as they come, change and end, and how that is kept modulo 2^128.
use Rattle.std.proofs.Common.{◌≡◌, ℕ, zero, suc, ◌+◌, ◌-◌, ◌≤◌, ◌^◌, List, [], ◌∷◌, ◌++◌, Some, refl, sym, ap, ◌∙◌, arith, remove, slice_get, slice_set, sum_by}
use Rattle.std.specs.Prelude.{◌%◌, IsPermutation}
use Rattle.std.proofs.Math.Nat.{add-mod_right, mod-add-mod}
use Rattle.std.proofs.lemmas.List.Sums.{sum_by-cons}
use Rattle.std.proofs.lemmas.List.Sorted.{sum_by-IsPermutation}
use Rattle.cc_book.specs.declared.session.OpenSession.{OpenSession}
use Rattle.cc_book.specs.Standing.{held_by_all, held_in, without_at}
use Rattle.cc_book.proofs.WithoutAt.{without-shuffled}

abbrev held_of_one : OpenSession → ℕ
held_of_one session = held_in session.holds

as_sum : (ss : List OpenSession) → held_by_all ss ≡ sum_by held_of_one ss
as_sum [] = refl
as_sum (x ∷ ss) = ap (λ (n : ℕ). held_in x.holds + n) (as_sum ss) ∙ sym (sum_by-cons held_of_one x ss)

all-shuffled : (xs ys : List OpenSession) → IsPermutation xs ys → held_by_all xs ≡ held_by_all ys
all-shuffled xs ys moved = as_sum xs ∙ sym (sum_by-IsPermutation held_of_one xs ys moved) ∙ sym (as_sum ys)

pub all-push : (ss : List OpenSession) (s : OpenSession) → held_by_all (ss ++ s ∷ []) ≡ held_by_all ss + held_in s.holds
all-push [] s = omega arith
all-push (x ∷ ss) s = let more = all-push ss s in omega arith

pub all-set : (ss : List OpenSession) (place : ℕ) (s o : OpenSession) → slice_get ss place ≡ Some o
    → held_by_all (slice_set ss place s) + held_in o.holds ≡ held_by_all ss + held_in s.holds
all-set [] place s o there = absurd cc
all-set (x ∷ ss) zero s o there = let same : x ≡ o = cc in let held = ap (λ (y : OpenSession). held_in y.holds) same in omega arith
all-set (x ∷ ss) (suc place) s o there = let more = all-set ss place s o there in omega arith

all-remove : (ss : List OpenSession) (place : ℕ) (o : OpenSession) → slice_get ss place ≡ Some o
    → held_by_all (remove ss place) + held_in o.holds ≡ held_by_all ss
all-remove [] place o there = absurd cc
all-remove (x ∷ ss) zero o there = let same : x ≡ o = cc in let held = ap (λ (y : OpenSession). held_in y.holds) same in omega arith
all-remove (x ∷ ss) (suc place) o there = let more = all-remove ss place o there in omega arith

pub all-without : (ss : List OpenSession) (place : ℕ) (o : OpenSession) → slice_get ss place ≡ Some o
    → held_by_all (without_at ss place) + held_in o.holds ≡ held_by_all ss
all-without ss place o there =
    let same = all-shuffled (remove ss place) (without_at ss place) (without-shuffled ss place o there) in
    let all = all-remove ss place o there in
    omega arith

-- ---- modulo 2^128

pub wrapped-more : (kept all more after : ℕ) → kept ≡ all % 2 ^ 128 → after ≡ all + more → (kept + more) % 2 ^ 128 ≡ after % 2 ^ 128
wrapped-more kept all more after is sum =
    ap (λ (n : ℕ). (n + more) % 2 ^ 128) is ∙ mod-add-mod all (2 ^ 128) more ∙ ap (λ (n : ℕ). n % 2 ^ 128) (sym sum)

pub wrapped-less : (kept all less after : ℕ) → kept ≡ all % 2 ^ 128 → less ≤ 2 ^ 128 → after + less ≡ all
    → (kept + (2 ^ 128 - less)) % 2 ^ 128 ≡ after % 2 ^ 128
wrapped-less kept all less after is small sum =
    let whole : all + (2 ^ 128 - less) ≡ after + 2 ^ 128 = omega arith in
    ap (λ (n : ℕ). (n + (2 ^ 128 - less)) % 2 ^ 128) is ∙ mod-add-mod all (2 ^ 128) (2 ^ 128 - less)
    ∙ ap (λ (n : ℕ). n % 2 ^ 128) whole ∙ add-mod_right after (2 ^ 128)
