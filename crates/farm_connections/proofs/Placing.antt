-- One connection changes, at its place.
use Rattle.std.proofs.Common.{◌≡◌, ℕ, zero, suc, ◌+◌, ◌<◌, ◌||◌, Bool, true, false, cond, List, [], ◌∷◌, ◌++◌, length, get_or, Option, Some, None, refl, sym, ap, ◌∙◌, arith, IfNone}
use Rattle.std.specs.List.{list_any, remove}
use Rattle.std.specs.Prelude.{slice_set}
use Rattle.dia_base.proofs.Finding.{none-position, position-none}
use Rattle.farm_connections.specs.declared.link.Link.{Link}
use Rattle.dia_base.specs.declared.number.NodeNo.{NodeNo}
use Rattle.farm_connections.specs.declared.link.Standing.TheVariants.{Up, Over}
use Rattle.farm_connections.specs.Turns.{Kept, Mark, standing_as}
use Rattle.farm_connections.specs.Desks.{AreSettled, is_to_be_told, is_up, mark_of, marks_of, ups}

-- a node with these connections
abbrev pub keeping : {N : Type 0} → N → List Mark → ℕ → Kept N
keeping node marks made = record { node = node; marks = marks; made = made }

-- the marks before one, and those behind it
pub record Split {R W : Type 0} (links : List (Link R W)) (place : ℕ) (link : Link R W) : Type 0 where
  pub front : List Mark
  pub back : List Mark
  pub is : marks_of links ≡ front ++ mark_of link ∷ back
  pub set : (other : Link R W) → marks_of (slice_set links place other) ≡ front ++ mark_of other ∷ back

pub marks_split : {R W : Type 0} (links : List (Link R W)) (place : ℕ) (link : Link R W) → place < length links → link ≡ get_or links place link
    → Split links place link
marks_split [] place link within read = absurd (omega (arith, within))
marks_split (first ∷ links) zero link within read =
    record { front = []; back = marks_of links; is = ap (λ l. mark_of l ∷ marks_of links) (sym read); set = λ other. refl }
marks_split (first ∷ links) (suc place) link within read =
    let s = marks_split links place link (omega (arith, within)) read in
    record {
      front = mark_of first ∷ s.front;
      back = s.back;
      is = ap (λ (marks : List Mark). mark_of first ∷ marks) s.is;
      set =
          λ other. ap (λ (marks : List Mark). mark_of first ∷ marks) (s.set other);
    }

-- the same of one that is taken out
pub record Left {R W : Type 0} (links : List (Link R W)) (place : ℕ) : Type 0 where
  pub link : Link R W
  pub read : link ≡ get_or links place link
  pub front : List Mark
  pub back : List Mark
  pub is : marks_of links ≡ front ++ mark_of link ∷ back
  pub left : marks_of (remove links place) ≡ front ++ back

pub marks_left : {R W : Type 0} (links : List (Link R W)) (place : ℕ) → place < length links → Left links place
marks_left [] place within = absurd (omega (arith, within))
marks_left (first ∷ links) zero within = record { link = first; read = refl; front = []; back = marks_of links; is = refl; left = refl }
marks_left (first ∷ links) (suc place) within =
    let s = marks_left links place (omega (arith, within)) in
    record {
      link = s.link;
      read = s.read;
      front = mark_of first ∷ s.front;
      back = s.back;
      is = ap (λ (marks : List Mark). mark_of first ∷ marks) s.is;
      left = ap (λ (marks : List Mark). mark_of first ∷ marks) s.left;
    }

none_behind : (b c : Bool) → b || c ≡ false → c ≡ false
none_behind true c none = absurd cc
none_behind false c none = none

none_then : (b c d : Bool) → b || c ≡ false → (c ≡ false → d ≡ false) → b || d ≡ false
none_then true c d none next = absurd cc
none_then false c d none next = next none

none_left : {A : Type 0} (p : A → Bool) (xs : List A) (place : ℕ) → list_any p xs ≡ false → list_any p (remove xs place) ≡ false
none_left p [] zero none = none
none_left p [] (suc place) none = none
none_left p (x ∷ xs) zero none = none_behind (p x) (list_any p xs) none
none_left p (x ∷ xs) (suc place) none = none_then (p x) (list_any p xs) (list_any p (remove xs place)) none (none_left p xs place)

-- where all are told, all are once one is let go
pub settled_left : {R W : Type 0} (links : List (Link R W)) (place : ℕ) → AreSettled links → AreSettled (remove links place)
settled_left links place settled =
    none-position is_to_be_told (remove links place) (none_left is_to_be_told links place (position-none is_to_be_told links settled))

-- one that is the same in all that is told changes no mark
pub same_marks : {R W : Type 0} (links : List (Link R W)) (place : ℕ) (link other : Link R W) → place < length links → link ≡ get_or links place link
    → mark_of other ≡ mark_of link
    → marks_of (slice_set links place other) ≡ marks_of links
same_marks links place link other within read same =
    let s = marks_split links place link within read in
    s.set other ∙ ap (λ (mark : Mark). s.front ++ mark ∷ s.back) same ∙ sym s.is

pub none_is : (found all : Option ℕ) → found ≡ all → IfNone found (all ≡ None)
none_is None all e = sym e
none_is (Some place) all e = tt

-- one stands at a place among them
pub there_is : {A : Type 0} (xs : List A) (place : ℕ) → place < length xs → (x : A) × (x ≡ get_or xs place x)
there_is [] place within = absurd (omega (arith, within))
there_is (x ∷ xs) zero within = (x, refl)
there_is (x ∷ xs) (suc place) within = there_is xs place (omega (arith, within))

-- what is read twice is the same
pub same_read : {A : Type 0} (xs : List A) (place : ℕ) (x y : A) → place < length xs → x ≡ get_or xs place x → y ≡ get_or xs place y → x ≡ y
same_read [] place x y within first second = absurd (omega (arith, within))
same_read (z ∷ xs) zero x y within first second = first ∙ sym second
same_read (z ∷ xs) (suc place) x y within first second = same_read xs place x y (omega (arith, within)) first second

-- ---- fewer are up

-- numbers, put aside
pub less_at : (a b c d : ℕ) → a ≡ b → d ≡ c → b < c → a < d
less_at a b c d same also less = omega (arith, same, also, less)

less_by_one : (a b n : ℕ) → a ≡ 0 + n → b ≡ 1 + n → a < b
less_by_one a b n same more = omega (arith, same, more)

less_behind : (k a b x y : ℕ) → x ≡ k + a → y ≡ k + b → a < b → x < y
less_behind k a b x y same also less = omega (arith, same, also, less)

ups_cons : (mark : Mark) (marks : List Mark) → ups (mark ∷ marks) ≡ cond (is_up mark.standing) 1 0 + ups marks
ups_cons mark marks = refl

ups_fewer : (front back : List Mark) (mark : Mark) (peer : NodeNo) → is_up mark.standing ≡ true
    → ups (front ++ standing_as mark (Over peer) ∷ back) < ups (front ++ mark ∷ back)
ups_fewer [] back mark peer h =
    less_by_one (ups (standing_as mark (Over peer) ∷ back)) (ups (mark ∷ back)) (ups back) (ups_cons (standing_as mark (Over peer)) back)
    (ups_cons mark back ∙ ap {B = ℕ} (λ (b : Bool). cond b 1 0 + ups back) h)
ups_fewer (first ∷ front) back mark peer h =
    less_behind (cond (is_up first.standing) 1 0) (ups (front ++ standing_as mark (Over peer) ∷ back)) (ups (front ++ mark ∷ back)) _ _
    (ups_cons first (front ++ standing_as mark (Over peer) ∷ back)) (ups_cons first (front ++ mark ∷ back)) (ups_fewer front back mark peer h)

pub lost_fewer : {R W : Type 0} (links : List (Link R W)) (place : ℕ) (link other : Link R W) (peer : NodeNo) → place < length links
    → link ≡ get_or links place link → link.standing ≡ Up peer → mark_of other ≡ standing_as (mark_of link) (Over peer)
    → ups (marks_of (slice_set links place other)) < ups (marks_of links)
lost_fewer links place link other peer within read up_there is =
    let s = marks_split links place link within read in
    less_at _ _ _ _ (ap ups (s.set other ∙ ap (λ (mark : Mark). s.front ++ mark ∷ s.back) is)) (ap ups s.is)
    (ups_fewer s.front s.back (mark_of link) peer (ap is_up up_there))
