-- Open sessions: which one has a Session-Id, and lists of them split at its place.
use Rattle.std.proofs.Common.{◌≡◌, ◌≢◌, ℕ, zero, suc, ◌+◌, ◌<◌, ◌≤◌, Bool, true, false, cond, not, eqb, ltb, List, [], ◌∷◌, ◌++◌, length, get_or, Option, Some, None, refl, sym, ap, subst, ◌∙◌, arith, rules, one-add, slice_get, slice_set, remove, find, AllPairs, length-set}
use Rattle.std.specs.List.{AllByRecursion, position_or_len}
use Rattle.std.proofs.lemmas.Bool.{and_from, and_parts}
use Rattle.std.proofs.lemmas.List.Elements.{All-from_recursion, recursion_from_All}
use Rattle.std.proofs.lemmas.List.Quantifiers.{all_pairs_push, all_pairs_remove}
use Rattle.cc_book.specs.declared.session.OpenSession.{OpenSession}
use Rattle.cc_book.specs.Duplicate.{same_session}
use Rattle.cc_book.specs.Standing.{is_session, place_in}

-- ---- Session-Ids

pub same_number : (n : ℕ) → eqb n n ≡ true
same_number n = search rules

pub equal_number : (m n : ℕ) → eqb m n ≡ true → m ≡ n
equal_number m n e = search rules

pub same_session-self : (xs : List ℕ) → same_session xs xs ≡ true
same_session-self [] = refl
same_session-self (x ∷ xs) = and_from (eqb x x) (same_session xs xs) (same_number x) (same_session-self xs)

pub same_session-equal : (xs ys : List ℕ) → same_session xs ys ≡ true → xs ≡ ys
same_session-equal [] [] e = refl
same_session-equal [] (y ∷ ys) e = absurd cc
same_session-equal (x ∷ xs) [] e = absurd cc
same_session-equal (x ∷ xs) (y ∷ ys) e =
    let parts = and_parts (eqb x y) (same_session xs ys) e in
    let head : x ≡ y = equal_number x y parts.0 in
    let tail : xs ≡ ys = same_session-equal xs ys parts.1 in cc

pub same_session-met : (xs ys : List ℕ) → xs ≡ ys → same_session xs ys ≡ true
same_session-met xs ys e = subst (λ (zs : List ℕ). same_session xs zs ≡ true) e (same_session-self xs)

pub same_session-other : (xs ys : List ℕ) → xs ≢ ys → same_session xs ys ≡ false
same_session-other xs ys other = by (same_session xs ys) refl where
  by : (b : Bool) → same_session xs ys ≡ b → b ≡ false
  by true e = absurd (other (same_session-equal xs ys e))
  by false e = refl

pub same_session-turned : (xs ys : List ℕ) → same_session xs ys ≡ false → same_session ys xs ≡ false
same_session-turned xs ys e = same_session-other ys xs (λ same. let met = same_session-met xs ys (sym same) in absurd cc)

pub same_session-turns : (xs ys : List ℕ) → same_session xs ys ≡ same_session ys xs
same_session-turns xs ys = by (same_session xs ys) refl where
  by : (b : Bool) → same_session xs ys ≡ b → same_session xs ys ≡ same_session ys xs
  by true e = e ∙ sym (same_session-met ys xs (sym (same_session-equal xs ys e)))
  by false e = e ∙ sym (same_session-turned xs ys e)

-- ---- sessions of other ids

abbrev pub Others : List ℕ → List OpenSession → Type 0
Others id sessions = AllByRecursion (λ session. is_session id session ≡ false) sessions

pub others-append : (id : List ℕ) (xs ys : List OpenSession) → Others id xs → Others id ys → Others id (xs ++ ys)
others-append id [] ys p q = q
others-append id (x ∷ xs) ys p q = (p.0, others-append id xs ys p.1 q)

pub find-others : (id : List ℕ) (xs : List OpenSession) → Others id xs → find (is_session id) xs ≡ None
find-others id [] p = refl
find-others id (x ∷ xs) p = ap (λ (b : Bool). cond b (Some x) (find (is_session id) xs)) p.0 ∙ find-others id xs p.1

pub find-behind : (id : List ℕ) (xs : List OpenSession) (s : OpenSession) (ys : List OpenSession) → Others id xs → is_session id s ≡ true
    → find (is_session id) (xs ++ s ∷ ys) ≡ Some s
find-behind id [] s ys p e = ap (λ (b : Bool). cond b (Some s) (find (is_session id) ys)) e
find-behind id (x ∷ xs) s ys p e = ap (λ (b : Bool). cond b (Some x) (find (is_session id) (xs ++ s ∷ ys))) p.0 ∙ find-behind id xs s ys p.1 e

-- a session of another id hides none
pub find-beside : (id : List ℕ) (xs : List OpenSession) (s : OpenSession) (ys : List OpenSession) → is_session id s ≡ false
    → find (is_session id) (xs ++ s ∷ ys) ≡ find (is_session id) (xs ++ ys)
find-beside id [] s ys e = ap (λ (b : Bool). cond b (Some s) (find (is_session id) ys)) e
find-beside id (x ∷ xs) s ys e = ap (λ (found : Option OpenSession). cond (is_session id x) (Some x) found) (find-beside id xs s ys e)

-- ---- the place of an id

others_by : (id : List ℕ) (xs : List OpenSession) → length xs ≤ position_or_len (is_session id) xs → Others id xs
others_by id [] le = tt
others_by id (x ∷ xs) le = by (is_session id x) refl (others_by id xs) where
  by : (b : Bool) → is_session id x ≡ b → (length xs ≤ position_or_len (is_session id) xs → Others id xs) → (is_session id x ≡ false) × Others id xs
  by true e more = absurd (let first : position_or_len (is_session id) (x ∷ xs) ≡ 0 =
      ap (λ (b : Bool). cond {A = ℕ} (not b) (1 + position_or_len (is_session id) xs) 0) e in omega arith)
  by false e more =
      let first : position_or_len (is_session id) (x ∷ xs) ≡ 1 + position_or_len (is_session id) xs =
      ap (λ (b : Bool). cond {A = ℕ} (not b) (1 + position_or_len (is_session id) xs) 0) e in
      (e, more (omega arith))

-- no session of an id is open where none has a place
pub others-closed : (id : List ℕ) (xs : List OpenSession) → place_in xs id ≡ None → Others id xs
others-closed id xs none = by (ltb (position_or_len (is_session id) xs) (length xs)) refl where
  by : (b : Bool) → ltb (position_or_len (is_session id) xs) (length xs) ≡ b → Others id xs
  by true e = absurd (let some : Some (position_or_len (is_session id) xs) ≡ None =
      sym (ap (λ (b : Bool). cond b (Some (position_or_len (is_session id) xs)) None) e) ∙ none in cc)
  by false e = let least : length xs ≤ position_or_len (is_session id) xs = search rules in others_by id xs least

-- the session at a place, with the id
abbrev Holds : List ℕ → List OpenSession → ℕ → Type 0
Holds id xs place = (session : OpenSession) × (slice_get xs place ≡ Some session) × (is_session id session ≡ true)

first_open : (id : List ℕ) (xs : List OpenSession) → position_or_len (is_session id) xs < length xs → Holds id xs (position_or_len (is_session id) xs)
first_open id [] lt = absurd (omega arith)
first_open id (x ∷ xs) lt = by (is_session id x) refl (first_open id xs) where
  by : (b : Bool) → is_session id x ≡ b → (position_or_len (is_session id) xs < length xs → Holds id xs (position_or_len (is_session id) xs))
      → Holds id (x ∷ xs) (position_or_len (is_session id) (x ∷ xs))
  by true e more =
      let first : position_or_len (is_session id) (x ∷ xs) ≡ 0 = ap (λ (b : Bool). cond {A = ℕ} (not b) (1 + position_or_len (is_session id) xs) 0) e in
      subst (Holds id (x ∷ xs)) (sym first) (x, refl, e)
  by false e more =
      let first : position_or_len (is_session id) (x ∷ xs) ≡ suc (position_or_len (is_session id) xs) =
      ap (λ (b : Bool). cond {A = ℕ} (not b) (1 + position_or_len (is_session id) xs) 0) e ∙ one-add (position_or_len (is_session id) xs) in
      subst (Holds id (x ∷ xs)) (sym first) (more (omega arith))

-- at the place of an id a session with that id is open
pub open_at_place : (id : List ℕ) (xs : List OpenSession) (place : ℕ) → place_in xs id ≡ Some place → Holds id xs place
open_at_place id xs place some = by (ltb (position_or_len (is_session id) xs) (length xs)) refl where
  by : (b : Bool) → ltb (position_or_len (is_session id) xs) (length xs) ≡ b → Holds id xs place
  by true e =
      let found : Some (position_or_len (is_session id) xs) ≡ Some place = sym (ap (λ (b : Bool). cond b (Some (position_or_len (is_session id) xs)) None) e)
      ∙ some in
      let less : position_or_len (is_session id) xs < length xs = search rules in
      let same : position_or_len (is_session id) xs ≡ place = cc in
      subst (Holds id xs) same (first_open id xs less)
  by false e = absurd (let none : None ≡ Some place = sym (ap (λ (b : Bool). cond b (Some (position_or_len (is_session id) xs)) None) e) ∙ some in cc)

-- ---- sessions with own ids, split at a place

abbrev pub OwnIds : List OpenSession → Type 0
OwnIds sessions = AllPairs (λ one other. one.id ≢ other.id) sessions

-- an open session with an id, between sessions of other ids
pub record IsAt (id : List ℕ) (sessions : List OpenSession) (place : ℕ) (session : OpenSession) : Type 0 where
  pub front : List OpenSession
  pub back : List OpenSession
  pub split : sessions ≡ front ++ session ∷ back
  pub set_there : (other : OpenSession) → slice_set sessions place other ≡ front ++ other ∷ back
  pub removed : remove sessions place ≡ front ++ back
  pub own : session.id ≡ id
  pub before : Others id front
  pub behind : Others id back
  pub within : place < length sessions

same_value : (x y : OpenSession) → Some x ≡ Some y → x ≡ y
same_value x y e = cc

pub session_there : (xs : List OpenSession) (place : ℕ) (s d : OpenSession) → slice_get xs place ≡ Some s → (get_or xs place d ≡ s) × (place < length xs)
session_there [] place s d at = absurd cc
session_there (x ∷ xs) zero s d at = (same_value x s at, omega arith)
session_there (x ∷ xs) (suc place) s d at = let more = session_there xs place s d at in (more.0, omega (arith, more.1))

pub others_after : (id : List ℕ) (x : OpenSession) (xs : List OpenSession) → x.id ≡ id → OwnIds (x ∷ xs) → Others id xs
others_after id x xs own pairs =
    recursion_from_All (λ (s : OpenSession). is_session id s ≡ false) xs
    (λ k d lt. same_session-other (get_or xs k d).id id (λ same. pairs 0 (suc k) d (omega arith) (omega arith) (own ∙ sym same)))

other_before : (id : List ℕ) (x : OpenSession) (xs : List OpenSession) (place : ℕ) (s : OpenSession) → slice_get xs place ≡ Some s → s.id ≡ id
    → OwnIds (x ∷ xs) → is_session id x ≡ false
other_before id x xs place s at own pairs =
    let there = session_there xs place s s at in
    same_session-other x.id id (λ same. pairs 0 (suc place) s (omega arith) (omega (arith, there.1))
    (same ∙ sym own ∙ ap (λ (y : OpenSession). y.id) (sym there.0)))

pub is_at : (id : List ℕ) (xs : List OpenSession) (place : ℕ) (s : OpenSession) → slice_get xs place ≡ Some s → s.id ≡ id → OwnIds xs → IsAt id xs place s
is_at id [] place s at own pairs = absurd cc
is_at id (x ∷ xs) zero s at own pairs =
    let e : x ≡ s = same_value x s at in
    record {
      front = [];
      back = xs;
      split = ap (λ (y : OpenSession). y ∷ xs) e;
      set_there = λ other. refl;
      removed = refl;
      own = own;
      before = tt;
      behind = others_after id x xs (ap (λ (y : OpenSession). y.id) e ∙ own) pairs;
      within = omega arith;
    }
is_at id (x ∷ xs) (suc place) s at own pairs =
    let rest = is_at id xs place s at own (λ i j d lt below. pairs (suc i) (suc j) d (omega arith) (omega arith)) in
    record {
      front = x ∷ rest.front;
      back = rest.back;
      split = ap (λ (ys : List OpenSession). x ∷ ys) rest.split;
      set_there = λ other. ap (λ (ys : List OpenSession). x ∷ ys) (rest.set_there other);
      removed = ap (λ (ys : List OpenSession). x ∷ ys) rest.removed;
      own = own;
      before = (other_before id x xs place s at own pairs, rest.before);
      behind = rest.behind;
      within = omega (arith, rest.within);
    }

pub is_at_place : (id : List ℕ) (xs : List OpenSession) (place : ℕ) (s : OpenSession) → place_in xs id ≡ Some place → slice_get xs place ≡ Some s → OwnIds xs
    → IsAt id xs place s
is_at_place id xs place s some at pairs =
    let there = open_at_place id xs place some in
    let same : there.0 ≡ s = same_value there.0 s (sym there.1 ∙ at) in
    is_at id xs place s at (ap (λ (y : OpenSession). y.id) (sym same) ∙ same_session-equal there.0.id id there.2) pairs

pub find-at : (id : List ℕ) (xs : List OpenSession) (place : ℕ) (s : OpenSession) → IsAt id xs place s → find (is_session id) xs ≡ Some s
find-at id xs place s at = ap (find (is_session id)) at.split ∙ find-behind id at.front s at.back at.before (same_session-met s.id id at.own)

-- ---- own ids stay

pub own_ids-push : (xs : List OpenSession) (s : OpenSession) → OwnIds xs → Others s.id xs → OwnIds (xs ++ s ∷ [])
own_ids-push xs s pairs others =
    all_pairs_push (λ (one other : OpenSession). one.id ≢ other.id) xs s pairs
    (λ k d lt same. let apart = All-from_recursion (λ (x : OpenSession). is_session s.id x ≡ false) xs others k d lt in
    let met = same_session-met (get_or xs k d).id s.id same in absurd cc)

pub own_ids-remove : (xs : List OpenSession) (place : ℕ) → place < length xs → OwnIds xs → OwnIds (remove xs place)
own_ids-remove xs place lt pairs = all_pairs_remove (λ (one other : OpenSession). one.id ≢ other.id) xs place lt pairs

set_id : (xs : List OpenSession) (place : ℕ) (s d : OpenSession) (k : ℕ) → s.id ≡ (get_or xs place s).id
    → (get_or (slice_set xs place s) k d).id ≡ (get_or xs k d).id
set_id [] place s d k same = refl
set_id (x ∷ xs) zero s d zero same = same
set_id (x ∷ xs) zero s d (suc k) same = refl
set_id (x ∷ xs) (suc place) s d zero same = refl
set_id (x ∷ xs) (suc place) s d (suc k) same = set_id xs place s d k same

pub own_ids-set : (id : List ℕ) (xs : List OpenSession) (place : ℕ) (s other : OpenSession) → slice_get xs place ≡ Some s → other.id ≡ s.id → OwnIds xs
    → OwnIds (slice_set xs place other)
own_ids-set id xs place s other at same pairs = λ i j d lt below e.
    let there = session_there xs place s other at in
    let kept = set_id xs place other d in
    let own : other.id ≡ (get_or xs place other).id = same ∙ ap (λ (y : OpenSession). y.id) (sym there.0) in
    pairs i j d lt (omega (arith, length-set {A = OpenSession})) (sym (kept i own) ∙ e ∙ kept j own)
