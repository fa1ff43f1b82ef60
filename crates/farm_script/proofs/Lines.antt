-- The first line of a text, and what stands behind it.
use Rattle.std.proofs.Common.{◌≡◌, ℕ, ◌+◌, ◌<◌, ◌≤◌, Bool, true, false, not, ◌==◌, cond, nat_lt, List, [], ◌∷◌, length, take, drop, position, Some, None, refl, inl, inr, arith}
use Rattle.std.proofs.lemmas.Bool.Decides.{nat_tests}
use Rattle.std.proofs.lemmas.List.Splits.{slice_split_first}
use Rattle.std.proofs.lemmas.List.Sums.{prefix_len-le-length}
use Rattle.std.specs.List.{slice_split, onto_first, position_or_len}
use Rattle.std.specs.Str.Lines.{lines, lines_of_parts, strip_carriage_return}
use Rattle.std.proofs.lemmas.Bool.{cases_Bool, ltb-true, ltb-false}

onto_first_more : (x : List ℕ) (octet : ℕ) (parts : List (List ℕ)) → lines_of_parts (x ∷ onto_first octet parts) ≡ strip_carriage_return x ∷ lines_of_parts (onto_first octet parts)
onto_first_more x octet [] = refl
onto_first_more x octet (part ∷ parts) = refl

-- a part before others is a line that ends
lines_of_parts-more : (p : ℕ → Bool) (x text : List ℕ) → lines_of_parts (x ∷ slice_split p text) ≡ strip_carriage_return x ∷ lines_of_parts (slice_split p text)
lines_of_parts-more p x [] = refl
lines_of_parts-more p x (octet ∷ text) = elim (p octet) as (λ b. lines_of_parts (x ∷ cond b ([] ∷ slice_split p text) (onto_first octet (slice_split p text))) ≡ strip_carriage_return x ∷ lines_of_parts (cond b ([] ∷ slice_split p text) (onto_first octet (slice_split p text)))) [
  | true ↦ refl
  | false ↦ onto_first_more x octet (slice_split p text)
]

-- where nothing passes, there is one part
slice_split-whole : (p : ℕ → Bool) (text : List ℕ) → position_or_len p text ≡ length text → slice_split p text ≡ text ∷ []
slice_split-whole p [] h = refl
slice_split-whole p (octet ∷ text) h = elim (cases_Bool (p octet)) [
  | inl feeds ↦ absurd (omega (arith, rw feeds at h))
  | inr others ↦
      let same : position_or_len p text ≡ length text = omega (arith, rw others at h) in
      rw (others, slice_split-whole p text same) refl
]

lines_alone : (text : List ℕ) → 0 < length text → lines_of_parts (text ∷ []) ≡ text ∷ []
lines_alone [] h = absurd (omega arith)
lines_alone (octet ∷ text) h = grind (arith, nat_tests)

abbrev feed_place : List ℕ → ℕ
feed_place text = position_or_len (λ octet. octet == 10) text

-- a text without a line feed is one line
pub lines-whole : (text : List ℕ) → 0 < length text → position (λ octet. octet == 10) text ≡ None → lines text ≡ text ∷ []
lines-whole text h none = elim (cases_Bool (nat_lt (feed_place text) (length text))) [
  | inl lt ↦ absurd (let e : Some (feed_place text) ≡ None = rw lt at none in cc)
  | inr others ↦
      let most : feed_place text ≤ length text = prefix_len-le-length (λ octet. not (octet == 10)) text in
      let least : length text ≤ feed_place text = ltb-false _ _ others in
      let same : feed_place text ≡ length text = omega arith in
      rw (slice_split-whole (λ octet. octet == 10) text same) (lines_alone text h)
]

-- a line that ends stands before its line feed, less the carriage return
pub lines-first : (text : List ℕ) (at : ℕ) → position (λ octet. octet == 10) text ≡ Some at
    → lines text ≡ strip_carriage_return (take at text) ∷ lines (drop (at + 1) text)
lines-first text at some = elim (cases_Bool (nat_lt (feed_place text) (length text))) [
  | inl lt ↦
      let e : Some (feed_place text) ≡ Some at = rw lt at some in
      let place : feed_place text ≡ at = cc in
      let within : feed_place text < length text = ltb-true _ _ lt in
      rw (← place, slice_split_first (λ octet. octet == 10) text 0 within) (lines_of_parts-more (λ octet. octet == 10) (take (feed_place text) text) (drop (feed_place text + 1) text))
  | inr others ↦ absurd (let e : None ≡ Some at = rw others at some in cc)
]
