-- What is touched, and what a list has elsewhere.
use Rattle.std.proofs.Common.{◌≡◌, ◌==◌, ◌||◌, ℕ, zero, suc, ◌+◌, ◌-◌, ◌≤◌, ◌<◌, Bool, true, false, cond, List, [], ◌∷◌, ◌++◌, length, take, get_or, set, Option, Some, None, slice_get, swap_remove, refl, sym, ap, subst, ◌∙◌, arith, true≢false, ◌⊎◌, inl, inr}
use Rattle.std.specs.Prelude.{count_by, ◌≢◌}
use Rattle.std.specs.Bool.{one_answer}
use Rattle.std.specs.List.{list_any}
use Rattle.std.specs.Option.{option_map_or}
use Rattle.std.proofs.lemmas.Bool.Decides.{Decides-eqb}
use Rattle.std.proofs.lemmas.Option.{slice_get-get_or, slice_get_past}
use Rattle.std.proofs.lemmas.List.Sums.{count_by_more_no, count_by_more_yes, sum_by-cons}
use Rattle.std.proofs.lemmas.List.{length-take, length-set, length-append}
use Rattle.dia_base.specs.declared.number.Moment.{Moment}
use Rattle.cc_book.specs.declared.session.OpenSession.{OpenSession}
use Rattle.cc_book.specs.Standing.{is_due, without_at, without_due}
use Rattle.book_journal.specs.Tables.{is_due_in, is_touched, CoversDue, CoversFrom, Grows}

-- ---- whether a place is touched

same : (n : ℕ) → (n == n) ≡ true
same n = (Decides-eqb n n).1 refl

is_false : (b : Bool) → (b ≡ true → ⊥) → b ≡ false
is_false true apart = absurd (apart refl)
is_false false apart = refl

is_true : (b : Bool) → (b ≡ false → ⊥) → b ≡ true
is_true true apart = refl
is_true false apart = absurd (apart refl)

pub touched_before : (q : ℕ) (xs ys : List ℕ) → is_touched q (xs ++ ys) ≡ false → is_touched q xs ≡ false
touched_before q [] ys e = refl
touched_before q (x ∷ xs) ys e = go (q == x) e (touched_before q xs ys)
  where
    go : (b : Bool) → cond b true (is_touched q (xs ++ ys)) ≡ false → (is_touched q (xs ++ ys) ≡ false → is_touched q xs ≡ false) → cond b true (is_touched q xs) ≡ false
    go true h rest = h
    go false h rest = rest h

turned : (m n : ℕ) → (m == n) ≡ (n == m)
turned m n = one_answer (m == n) (n == m) (Decides-eqb m n) ((λ has. sym ((Decides-eqb n m).0 has)), (λ it. (Decides-eqb n m).1 (sym it)))

-- as the standard library looks for it
pub touched_any : (q : ℕ) (xs : List ℕ) → list_any (λ y. y == q) xs ≡ is_touched q xs
touched_any q [] = refl
touched_any q (x ∷ xs) =
    ap (λ (b : Bool). b || list_any (λ y. y == q) xs) (turned x q) ∙ ap (λ (b : Bool). (q == x) || b) (touched_any q xs) ∙ as_cond (q == x) (is_touched q xs)
  where
    as_cond : (a b : Bool) → (a || b) ≡ cond a true b
    as_cond true b = refl
    as_cond false b = refl

pub touched_last : (q : ℕ) (xs : List ℕ) → is_touched q (xs ++ q ∷ []) ≡ true
touched_last q [] = ap (λ (b : Bool). cond b true false) (same q)
touched_last q (x ∷ xs) = go (q == x) (touched_last q xs)
  where
    go : (b : Bool) → is_touched q (xs ++ q ∷ []) ≡ true → cond b true (is_touched q (xs ++ q ∷ [])) ≡ true
    go true rest = refl
    go false rest = rest

-- behind one place more
pub touched_more : (q place : ℕ) (xs : List ℕ) → is_touched q (xs ++ place ∷ []) ≡ cond (q == place) true (is_touched q xs)
touched_more q place [] = refl
touched_more q place (x ∷ xs) = ap (cond (q == x) true) (touched_more q place xs) ∙ turned (q == x) (q == place)
  where
    turned : (b a : Bool) → cond b true (cond a true (is_touched q xs)) ≡ cond a true (cond b true (is_touched q xs))
    turned true true = refl
    turned true false = refl
    turned false true = refl
    turned false false = refl

pub still_touched : (old new : List ℕ) (q : ℕ) → Grows old new → is_touched q old ≡ true → is_touched q new ≡ true
still_touched old new q grows there = is_true (is_touched q new) (λ not_there. true≢false (sym there ∙ grows q not_there))

pub covers_more : (old new : List ℕ) (from place : ℕ) → Grows old new → is_touched place new ≡ true → CoversFrom old from place → CoversFrom new from (place + 1)
covers_more old new from place grows there covers q above below = go (q == place) refl
  where
    go : (b : Bool) → (q == place) ≡ b → is_touched q new ≡ true
    go true e = ap (λ (n : ℕ). is_touched n new) ((Decides-eqb q place).0 e) ∙ there
    go false e =
        let apart : q ≢ place = λ at. true≢false (sym ((Decides-eqb q place).1 at) ∙ e) in
        still_touched old new q grows (covers q above (omega (arith, apart)))

-- ---- what a list has elsewhere

pub below : (a b : ℕ) → (a < b) ⊎ (b ≤ a)
below zero zero = inr (omega arith)
below zero (suc b) = inl (omega arith)
below (suc a) zero = inr (omega arith)
below (suc a) (suc b) = elim (below a b) [
  | inl lt ↦ inl (omega (arith, lt))
  | inr le ↦ inr (omega (arith, le))
]

module _ {X : Type 0} where
  pub slice_get-take : (xs : List X) (n q : ℕ) → q < n → slice_get (take n xs) q ≡ slice_get xs q
  slice_get-take [] n q lt = go n
    where
      go : (n : ℕ) → slice_get (take {A = X} n []) q ≡ None
      go zero = refl
      go (suc n) = refl
  slice_get-take (x ∷ xs) zero q lt = absurd (omega arith)
  slice_get-take (x ∷ xs) (suc n) zero lt = refl
  slice_get-take (x ∷ xs) (suc n) (suc q) lt = slice_get-take xs n q (omega arith)

  pub slice_get-set : (xs : List X) (place : ℕ) (x : X) (q : ℕ) → q ≢ place → slice_get (set xs place x) q ≡ slice_get xs q
  slice_get-set [] place x q apart = refl
  slice_get-set (y ∷ ys) zero x zero apart = absurd (apart refl)
  slice_get-set (y ∷ ys) zero x (suc q) apart = refl
  slice_get-set (y ∷ ys) (suc place) x zero apart = refl
  slice_get-set (y ∷ ys) (suc place) x (suc q) apart = slice_get-set ys place x q (λ e. apart (ap suc e))

  pub slice_get-push : (xs : List X) (x : X) (q : ℕ) → q ≢ length xs → slice_get (xs ++ x ∷ []) q ≡ slice_get xs q
  slice_get-push [] x zero apart = absurd (apart refl)
  slice_get-push [] x (suc q) apart = refl
  slice_get-push (y ∷ ys) x zero apart = refl
  slice_get-push (y ∷ ys) x (suc q) apart = slice_get-push ys x q (λ e. apart (ap suc e))

  pub slice_get-swap_remove : (xs : List X) (place : ℕ) (x : X) (q : ℕ) → q ≢ place → ((last : ℕ) → length xs ≡ last + 1 → q ≢ last) → slice_get (swap_remove xs place x) q ≡ slice_get xs q
  slice_get-swap_remove [] place x q apart last = go q
    where
      go : (q : ℕ) → slice_get (swap_remove {X = X} [] place x) q ≡ None
      go q = refl
  slice_get-swap_remove (y ∷ ys) place x q apart last =
      let n = length (y ∷ ys) - 1 in
      let moved = set (y ∷ ys) place (get_or (y ∷ ys) n x) in
      elim (below q n) [
        | inl lt ↦ slice_get-take moved n q lt ∙ slice_get-set (y ∷ ys) place (get_or (y ∷ ys) n x) q apart
        | inr le ↦
            let past : length (y ∷ ys) ≤ q = omega (arith, le, last (length ys) (omega arith)) in
            slice_get_past (take n moved) q (omega (arith, le, length-take n moved)) ∙ sym (slice_get_past (y ∷ ys) q past)
      ]

  pub slice_get-without_at : (xs : List X) (place q : ℕ) → q ≢ place → ((last : ℕ) → length xs ≡ last + 1 → q ≢ last) → slice_get (without_at xs place) q ≡ slice_get xs q
  slice_get-without_at xs place q apart last = go (slice_get xs place)
    where
      go : (o : Option X) → slice_get (option_map_or (λ x. swap_remove xs place x) o xs) q ≡ slice_get xs q
      go None = refl
      go (Some x) = slice_get-swap_remove xs place x q apart last

-- ---- what is left of a list

module _ (validity : ℕ) (moment : Moment) where
  -- the first gives its place to the last
  first_gone : (y : OpenSession) (ys : List OpenSession) → length (swap_remove (y ∷ ys) 0 y) ≡ length ys
  first_gone y ys =
      let n = length (y ∷ ys) - 1 in
      omega (arith, length-take n (set (y ∷ ys) 0 (get_or (y ∷ ys) n y)), length-set (y ∷ ys) 0 (get_or (y ∷ ys) n y))

  behind_first : (y : OpenSession) (ys : List OpenSession) (q : ℕ) → q + 1 < length ys → slice_get (swap_remove (y ∷ ys) 0 y) (suc q) ≡ slice_get ys q
  behind_first y ys q lt =
      slice_get-swap_remove (y ∷ ys) 0 y (suc q) (λ e. absurd (omega (arith, e))) (λ last is e. absurd (omega (arith, is, e, lt)))

  length-if : (b : Bool) (xs ys : List OpenSession) → length (cond b xs ys) ≡ cond b (length xs) (length ys)
  length-if true xs ys = refl
  length-if false xs ys = refl

  left_more : (b : Bool) (l now gone count counted n : ℕ) → now ≡ cond b gone (l + 1) → gone ≡ l → counted ≡ cond b 1 0 + count → l + count ≡ n → now + counted ≡ n + 1
  left_more true l now gone count counted n is at c rest = omega (arith, is, at, c, rest)
  left_more false l now gone count counted n is at c rest = omega (arith, is, c, rest)

  pub left_length : (xs : List OpenSession) → length (without_due validity moment xs) + count_by (is_due validity moment) xs ≡ length xs
  left_length [] = refl
  left_length (x ∷ xs) =
      let left = without_due validity moment xs in
      let long : length (x ∷ left) ≡ length left + 1 = omega arith in
      left_more (is_due validity moment x) (length left) (length (without_due validity moment (x ∷ xs))) (length (swap_remove (x ∷ left) 0 x)) (count_by (is_due validity moment) xs) (count_by (is_due validity moment) (x ∷ xs)) (length xs)
      (length-if (is_due validity moment x) (swap_remove (x ∷ left) 0 x) (x ∷ left) ∙ ap (cond (is_due validity moment x) (length (swap_remove (x ∷ left) 0 x))) long)
      (first_gone x left) (sum_by-cons (λ (y : OpenSession). cond {A = ℕ} (is_due validity moment y) 1 0) x xs) (left_length xs) ∙ omega arith

  pub left_there : (xs : List OpenSession) (q : ℕ) → is_due_in validity moment xs q ≡ false → q < length (without_due validity moment xs) → slice_get (without_due validity moment xs) q ≡ slice_get xs q
  left_there [] q lasts lt = refl
  left_there (x ∷ xs) zero lasts lt = ap (λ (b : Bool). slice_get (cond b (swap_remove (x ∷ without_due validity moment xs) 0 x) (x ∷ without_due validity moment xs)) 0) lasts
  left_there (x ∷ xs) (suc q) lasts lt = go (is_due validity moment x) (subst (λ (n : ℕ). suc q < n) (length-if (is_due validity moment x) (swap_remove (x ∷ without_due validity moment xs) 0 x) (x ∷ without_due validity moment xs)) lt) (left_there xs q lasts)
    where
      go : (b : Bool) → suc q < cond b (length (swap_remove (x ∷ without_due validity moment xs) 0 x)) (length (x ∷ without_due validity moment xs)) → (q < length (without_due validity moment xs) → slice_get (without_due validity moment xs) q ≡ slice_get xs q)
          → slice_get (cond b (swap_remove (x ∷ without_due validity moment xs) 0 x) (x ∷ without_due validity moment xs)) (suc q) ≡ slice_get xs q
      go false lt rest = rest (omega (arith, lt))
      go true lt rest =
          let gone = first_gone x (without_due validity moment xs) in
          behind_first x (without_due validity moment xs) q (omega (arith, lt, gone)) ∙ rest (omega (arith, lt, gone))

-- ---- sessions that are due, one after the other

abbrev pub CoversBefore : List ℕ → ℕ → Moment → List OpenSession → ℕ → Type 0
CoversBefore places validity moment sessions end = (q : ℕ) → q < end → is_due_in validity moment sessions q ≡ true → is_touched q places ≡ true

pub due_touched : (old new : List ℕ) (validity : ℕ) (moment : Moment) (sessions : List OpenSession) (place : ℕ) → Grows old new → is_touched place new ≡ true → CoversBefore old validity moment sessions place
    → CoversBefore new validity moment sessions (place + 1)
due_touched old new validity moment sessions place grows there covers q lt due = go (q == place) refl
  where
    go : (b : Bool) → (q == place) ≡ b → is_touched q new ≡ true
    go true e = ap (λ (n : ℕ). is_touched n new) ((Decides-eqb q place).0 e) ∙ there
    go false e =
        let apart : q ≢ place = λ at. true≢false (sym ((Decides-eqb q place).1 at) ∙ e) in
        still_touched old new q grows (covers q (omega (arith, apart, lt)) due)

pub not_due : (places : List ℕ) (validity : ℕ) (moment : Moment) (sessions : List OpenSession) (place : ℕ) → is_due_in validity moment sessions place ≡ false → CoversBefore places validity moment sessions place
    → CoversBefore places validity moment sessions (place + 1)
not_due places validity moment sessions place lasts covers q lt due = go (q == place) refl
  where
    go : (b : Bool) → (q == place) ≡ b → is_touched q places ≡ true
    go true e = absurd (true≢false (sym due ∙ ap (is_due_in validity moment sessions) ((Decides-eqb q place).0 e) ∙ lasts))
    go false e =
        let apart : q ≢ place = λ at. true≢false (sym ((Decides-eqb q place).1 at) ∙ e) in
        covers q (omega (arith, apart, lt)) due

pub all_due : (places : List ℕ) (validity : ℕ) (moment : Moment) (sessions : List OpenSession) (end : ℕ) → length sessions ≤ end → CoversBefore places validity moment sessions end → CoversDue places validity moment sessions
all_due places validity moment sessions end le covers q due = go (below q end)
  where
    go : (q < end) ⊎ (end ≤ q) → is_touched q places ≡ true
    go (inl lt) = covers q lt due
    go (inr past) =
        let none = slice_get_past sessions q (omega (arith, le, past)) in
        absurd (true≢false (sym due ∙ ap (λ (o : Option OpenSession). option_map_or (is_due validity moment) o false) none))

-- of the place of a session is asked what is asked of it
pub due_at : (validity : ℕ) (moment : Moment) (sessions : List OpenSession) (place : ℕ) (d : OpenSession) → place < length sessions → is_due validity moment (get_or sessions place d) ≡ is_due_in validity moment sessions place
due_at validity moment sessions place d lt = ap (λ (o : Option OpenSession). option_map_or (is_due validity moment) o false) (sym (slice_get-get_or sessions place d lt))

-- one more of the sessions has ended, or has not
pub counted_due : (validity : ℕ) (moment : Moment) (sessions : List OpenSession) (place : ℕ) → place < length sessions → is_due_in validity moment sessions place ≡ true
    → count_by (is_due validity moment) (take (place + 1) sessions) ≡ count_by (is_due validity moment) (take place sessions) + 1
counted_due validity moment [] place lt due = absurd (omega arith)
counted_due validity moment (first ∷ sessions) place lt due =
    count_by_more_yes (is_due validity moment) (first ∷ sessions) place first lt (due_at validity moment (first ∷ sessions) place first lt ∙ due)

pub counted_not_due : (validity : ℕ) (moment : Moment) (sessions : List OpenSession) (place : ℕ) → place < length sessions → is_due_in validity moment sessions place ≡ false
    → count_by (is_due validity moment) (take (place + 1) sessions) ≡ count_by (is_due validity moment) (take place sessions)
counted_not_due validity moment [] place lt lasts = absurd (omega arith)
counted_not_due validity moment (first ∷ sessions) place lt lasts =
    count_by_more_no (is_due validity moment) (first ∷ sessions) place first lt (due_at validity moment (first ∷ sessions) place first lt ∙ lasts)

pub due_still : (old new : List ℕ) (validity : ℕ) (moment : Moment) (sessions : List OpenSession) → Grows old new → CoversDue old validity moment sessions → CoversDue new validity moment sessions
due_still old new validity moment sessions grows covers q due = still_touched old new q grows (covers q due)
