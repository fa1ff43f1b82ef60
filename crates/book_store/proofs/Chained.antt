-- The sum after one row more.
use Rattle.std.proofs.Common.{◌≡◌, ℕ, suc, ◌+◌, ◌<◌, ◌≤◌, List, [], ◌∷◌, ◌++◌, length, take, get_or, Option, Some, None, refl, sym, ap, ◌∙◌, arith}
use Rattle.std.specs.Option.{option_and_then}
use Rattle.std.proofs.lemmas.List.{length-take-le, take_all, take_more}
use Rattle.book_store.specs.Chain.{IsWrongAt, next_sum, sum_of}

and_then_more : (a : Option ℕ) (f g h : ℕ → Option ℕ) → ((x : ℕ) → f x ≡ option_and_then g (h x)) → option_and_then f a ≡ option_and_then g (option_and_then h a)
and_then_more None f g h same = refl
and_then_more (Some x) f g h same = same x

some_after : (a : Option ℕ) → option_and_then (λ sum. Some sum) a ≡ a
some_after None = refl
some_after (Some x) = refl

sum_of-more : (place before n : ℕ) (rows : List (List ℕ)) (octets : List ℕ) → n ≡ place + length rows → sum_of place before (rows ++ octets ∷ []) ≡ option_and_then (λ sum. next_sum n sum octets) (sum_of place before rows)
sum_of-more place before n [] octets e =
    let here : place ≡ n = omega arith in
    some_after (next_sum place before octets) ∙ ap (λ (p : ℕ). next_sum p before octets) here
sum_of-more place before n (row ∷ rows) octets e =
    and_then_more (next_sum place before row) (λ sum. sum_of (suc place) sum (rows ++ octets ∷ [])) (λ sum. next_sum n sum octets) (λ sum. sum_of (suc place) sum rows)
    (λ sum. sum_of-more (suc place) sum n rows octets (omega arith))

pub one_more_sum : (rows : List (List ℕ)) (place sum next : ℕ) → place < length rows → sum_of 0 0 (take place rows) ≡ Some sum → next_sum place sum (get_or rows place []) ≡ Some next → sum_of 0 0 (take (place + 1) rows) ≡ Some next
one_more_sum rows place sum next lt so_far one =
    let n : place ≡ 0 + length (take place rows) = omega (arith, length-take-le place rows (omega arith)) in
    ap (sum_of 0 0) (take_more rows place [] lt) ∙ sum_of-more 0 0 place (take place rows) (get_or rows place []) n
    ∙ ap (option_and_then (λ s. next_sum place s (get_or rows place []))) so_far ∙ one

pub all_sums : (rows : List (List ℕ)) (place sum : ℕ) → length rows ≤ place → sum_of 0 0 (take place rows) ≡ Some sum → sum_of 0 0 rows ≡ Some sum
all_sums rows place sum le so_far = ap (sum_of 0 0) (sym (take_all place rows le)) ∙ so_far

pub wrong_at : (rows : List (List ℕ)) (place sum : ℕ) → place < length rows → sum_of 0 0 (take place rows) ≡ Some sum → next_sum place sum (get_or rows place []) ≡ None → IsWrongAt rows place
wrong_at rows place sum lt so_far none = record { within = lt; before = sum; right = so_far; wrong = none }
