-- AVPs that are a second one of their code.
use Rattle.std.proofs.Common.{◌≡◌, ℕ, ◌+◌, ◌<◌, ◌≤◌, ◌==◌, Bool, true, false, ◌&&◌, ◌||◌, cond, List, [], ◌∷◌, ◌++◌, length, get_or, Option, Some, None, refl, ap, sym, subst, ◌∙◌, arith, append_assoc}
use Rattle.std.specs.List.{All, count_by}
use Rattle.std.proofs.lemmas.Bool.{and_parts, eqb-true, false_from_ne_true}
use Rattle.std.proofs.lemmas.List.{append-nil}
use Rattle.std.proofs.lemmas.List.Folds.{list_any_at, Any-from_list_any}
use Rattle.std.proofs.lemmas.List.Sums.{sum_by-append, sum_by-cons}
use Rattle.dia_avp.specs.declared.avp.RawAvp.{RawAvp}
use Rattle.dia_grammar.specs.Grammar.{is_of, is_among, has_avp, is_second, second_behind, second_of}
use Rattle.dia_grammar.specs.Request.{IsSecondAt}

-- ---- a step

step : (b : Bool) (n : ℕ) (o : Option ℕ) → b ≡ true → cond b (Some n) o ≡ Some n
step true n o e = refl
step false n o e = absurd cc

pub second_here : (codes : List ℕ) (before avps : List RawAvp) (avp : RawAvp) → is_second codes before avp ≡ true → second_behind codes before (avp ∷ avps) ≡ Some (length before)
second_here codes before avps avp e = step (is_second codes before avp) (length before) (second_behind codes (before ++ avp ∷ []) avps) e

pub second_later : (codes : List ℕ) (before avps : List RawAvp) (avp : RawAvp) → is_second codes before avp ≡ false → second_behind codes before (avp ∷ avps) ≡ second_behind codes (before ++ avp ∷ []) avps
second_later codes before avps avp e = ap (λ (b : Bool). cond b (Some (length before)) (second_behind codes (before ++ avp ∷ []) avps)) e

-- ---- how often a code stands there

code_is : (code : ℕ) (avp : RawAvp) → is_of code avp ≡ true → code ≡ avp.code
code_is code avp e = sym (eqb-true _ _ (and_parts (avp.vendor == 0) (avp.code == code) e).1)

count-cons : (code : ℕ) (avp : RawAvp) (avps : List RawAvp) → count_by (is_of code) (avp ∷ avps) ≡ cond (is_of code avp) 1 0 + count_by (is_of code) avps
count-cons code avp avps = sum_by-cons (λ (a : RawAvp). cond (is_of code a) 1 0) avp avps

count-append : (code : ℕ) (xs ys : List RawAvp) → count_by (is_of code) (xs ++ ys) ≡ count_by (is_of code) xs + count_by (is_of code) ys
count-append code xs ys = sum_by-append (λ (a : RawAvp). cond (is_of code a) 1 0) xs ys

none_here : (b r : Bool) (n : ℕ) → (b || r) ≡ false → (r ≡ false → n ≡ 0) → cond b 1 0 + n ≡ 0
none_here true r n e more = absurd cc
none_here false r n e more = omega (arith, more e)

count-none : (code : ℕ) (avps : List RawAvp) → has_avp code avps ≡ false → count_by (is_of code) avps ≡ 0
count-none code [] e = refl
count-none code (avp ∷ avps) e = count-cons code avp avps ∙ none_here (is_of code avp) (has_avp code avps) (count_by (is_of code) avps) e (count-none code avps)

some_here : (b r : Bool) (n : ℕ) → (b || r) ≡ true → (r ≡ true → 1 ≤ n) → 1 ≤ cond b 1 0 + n
some_here true r n e more = omega arith
some_here false r n e more = omega (arith, more e)

count-some : (code : ℕ) (avps : List RawAvp) → has_avp code avps ≡ true → 1 ≤ count_by (is_of code) avps
count-some code [] e = absurd cc
count-some code (avp ∷ avps) e =
    let some = some_here (is_of code avp) (has_avp code avps) (count_by (is_of code) avps) e (count-some code avps) in
    omega (arith, some, count-cons code avp avps)

count_with : (b : Bool) (n m : ℕ) → m ≡ n + cond b 1 0 → n ≤ 1 → (b ≡ true → n ≡ 0) → m ≤ 1
count_with true n m e le zero = omega (arith, zero refl)
count_with false n m e le zero = omega arith

count-push : (code : ℕ) (xs : List RawAvp) (avp : RawAvp) → count_by (is_of code) (xs ++ avp ∷ []) ≡ count_by (is_of code) xs + cond (is_of code avp) 1 0
count-push code xs avp = omega (arith, count-append code xs (avp ∷ []), count-cons code avp [])

among_at : (codes : List ℕ) (avp : RawAvp) (k d : ℕ) → k < length codes → is_of (get_or codes k d) avp ≡ true → is_among codes avp ≡ true
among_at codes avp k d lt e = list_any_at (λ (code : ℕ). is_of code avp) codes k d lt e

not_before : (among has : Bool) → (among && has) ≡ false → among ≡ true → has ≡ false
not_before true has e a = e
not_before false has e a = absurd cc

-- where an AVP is no second one, a code that stood there once at most still does with it
still_single : (codes : List ℕ) (before : List RawAvp) (avp : RawAvp) (code : ℕ) → (is_of code avp ≡ true → is_among codes avp ≡ true) → is_second codes before avp ≡ false → count_by (is_of code) before ≤ 1
    → count_by (is_of code) (before ++ avp ∷ []) ≤ 1
still_single codes before avp code listed other le =
    count_with (is_of code avp) (count_by (is_of code) before) (count_by (is_of code) (before ++ avp ∷ [])) (count-push code before avp) le
    (λ e. count-none code before (subst (λ (c : ℕ). has_avp c before ≡ false) (sym (code_is code avp e)) (not_before (is_among codes avp) (has_avp avp.code before) other (listed e))))

regroup : (before : List RawAvp) (avp : RawAvp) (avps : List RawAvp) → (before ++ avp ∷ []) ++ avps ≡ before ++ avp ∷ avps
regroup before avp avps = append_assoc before (avp ∷ []) avps

-- ---- none

none_twice : (codes : List ℕ) (code : ℕ) → ((avp : RawAvp) → is_of code avp ≡ true → is_among codes avp ≡ true) → (before avps : List RawAvp) → second_behind codes before avps ≡ None → count_by (is_of code) before ≤ 1
    → count_by (is_of code) (before ++ avps) ≤ 1
none_twice codes code listed before [] none le = subst (λ (xs : List RawAvp). count_by (is_of code) xs ≤ 1) (sym (append-nil before)) le
none_twice codes code listed before (avp ∷ avps) none le =
    let other : is_second codes before avp ≡ false = false_from_ne_true (is_second codes before avp) (λ e. let some = second_here codes before avps avp e in absurd cc) in
    subst (λ (xs : List RawAvp). count_by (is_of code) xs ≤ 1) (regroup before avp avps)
    (none_twice codes code listed (before ++ avp ∷ []) avps (sym (second_later codes before avps avp other) ∙ none) (still_single codes before avp code (listed avp) other le))

twice : (codes : List ℕ) (before : List RawAvp) (avp : RawAvp) (avps : List RawAvp) → is_second codes before avp ≡ true → All (λ code. count_by (is_of code) (before ++ avp ∷ avps) ≤ 1) codes → ⊥
twice codes before avp avps e single =
    let some = Any-from_list_any (λ (code : ℕ). is_of code avp) codes (and_parts (is_among codes avp) (has_avp avp.code before) e).0 in
    let same : some.1 ≡ avp.code = code_is some.1 avp some.4 in
    let earlier : has_avp some.1 before ≡ true = subst (λ (c : ℕ). has_avp c before ≡ true) (sym same) (and_parts (is_among codes avp) (has_avp avp.code before) e).1 in
    let once = subst (λ (c : ℕ). count_by (is_of c) (before ++ avp ∷ avps) ≤ 1) some.3 (single some.0 some.1 some.2) in
    let here : ◌≡◌ {A = ℕ} (cond (is_of some.1 avp) 1 0) 1 = ap (λ (b : Bool). cond {A = ℕ} b 1 0) some.4 in
    omega (arith, once, here, count-some some.1 before earlier, count-append some.1 before (avp ∷ avps), count-cons some.1 avp avps)

once_each : (codes : List ℕ) (before avps : List RawAvp) → All (λ code. count_by (is_of code) (before ++ avps) ≤ 1) codes → second_behind codes before avps ≡ None
once_each codes before [] single = refl
once_each codes before (avp ∷ avps) single =
    let other : is_second codes before avp ≡ false = false_from_ne_true (is_second codes before avp) (λ e. twice codes before avp avps e single) in
    second_later codes before avps avp other
    ∙ once_each codes (before ++ avp ∷ []) avps (subst (λ (xs : List RawAvp). All (λ code. count_by (is_of code) xs ≤ 1) codes) (sym (regroup before avp avps)) single)

pub single-from_none : (codes : List ℕ) (avps : List RawAvp) → second_of codes avps ≡ None → All (λ code. count_by (is_of code) avps ≤ 1) codes
single-from_none codes avps none k d lt = none_twice codes (get_or codes k d) (λ avp e. among_at codes avp k d lt e) [] avps none (omega arith)

pub none-from_single : (codes : List ℕ) (avps : List RawAvp) → All (λ code. count_by (is_of code) avps ≤ 1) codes → second_of codes avps ≡ None
none-from_single codes avps single = once_each codes [] avps single

-- ---- the first

second_is : (codes : List ℕ) (before : List RawAvp) (avp : RawAvp) (avps : List RawAvp) (at : ℕ) → is_second codes before avp ≡ true → length before ≡ at → All (λ code. count_by (is_of code) before ≤ 1) codes → IsSecondAt codes (before ++ avp ∷ avps) at
second_is codes before avp avps at e place single =
    let among = (and_parts (is_among codes avp) (has_avp avp.code before) e).0 in
    let earlier = (and_parts (is_among codes avp) (has_avp avp.code before) e).1 in
    let some = Any-from_list_any (λ (code : ℕ). is_of code avp) codes among in
    let same : some.1 ≡ avp.code = code_is some.1 avp some.4 in
    let most : count_by (is_of avp.code) before ≤ 1 = subst (λ (c : ℕ). count_by (is_of c) before ≤ 1) (some.3 ∙ same) (single some.0 some.1 some.2) in
    let least = count-some avp.code before earlier in
    record { before = before; avp = avp; behind = avps; parts = refl; place = place; among = among; second = omega arith; first = single }

here_or_later : (codes : List ℕ) (before : List RawAvp) (avp : RawAvp) (avps : List RawAvp) (at : ℕ) (b : Bool) → is_second codes before avp ≡ b → cond b (Some (length before)) (second_behind codes (before ++ avp ∷ []) avps) ≡ Some at
    → All (λ code. count_by (is_of code) before ≤ 1) codes
    → (second_behind codes (before ++ avp ∷ []) avps ≡ Some at → All (λ code. count_by (is_of code) (before ++ avp ∷ []) ≤ 1) codes → IsSecondAt codes ((before ++ avp ∷ []) ++ avps) at)
    → IsSecondAt codes (before ++ avp ∷ avps) at
here_or_later codes before avp avps at true is e single later = let place : length before ≡ at = cc in second_is codes before avp avps at is place single
here_or_later codes before avp avps at false is e single later =
    subst (λ (xs : List RawAvp). IsSecondAt codes xs at) (regroup before avp avps)
    (later e (λ k d lt. still_single codes before avp (get_or codes k d) (λ among. among_at codes avp k d lt among) is (single k d lt)))

first_second : (codes : List ℕ) (before avps : List RawAvp) (at : ℕ) → second_behind codes before avps ≡ Some at → All (λ code. count_by (is_of code) before ≤ 1) codes → IsSecondAt codes (before ++ avps) at
first_second codes before [] at e single = absurd cc
first_second codes before (avp ∷ avps) at e single = here_or_later codes before avp avps at (is_second codes before avp) refl e single (first_second codes (before ++ avp ∷ []) avps at)

pub second-is : (codes : List ℕ) (avps : List RawAvp) (at : ℕ) → second_of codes avps ≡ Some at → IsSecondAt codes avps at
second-is codes avps at e = first_second codes [] avps at e (λ k d lt. omega arith)
