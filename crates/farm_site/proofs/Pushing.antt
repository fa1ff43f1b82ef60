-- A list with one more item.
use Rattle.std.proofs.Common.{◌≡◌, Bool, true, false, not, ◌&&◌, ◌||◌, List, [], ◌∷◌, ◌++◌, Option, Some, None, refl, sym, subst, ap, ◌∙◌, append_assoc, append-nil}
use Rattle.std.specs.List.{list_all, list_any}
use Rattle.std.specs.Option.{option_or}
use Rattle.cc_rating.specs.declared.tariff.Tariff.{Tariff}
use Rattle.cc_rating.specs.Tariffs.{fault_after, fault_from, fault_of}
use Rattle.farm_base.specs.Lists.{are_distinct}
use Rattle.farm_site.specs.Growing.{AreSound, MayFollow}

pub and_both : (a b : Bool) → a ≡ true → b ≡ true → (a && b) ≡ true
and_both true b p q = q
and_both false b p q = absurd cc

pub and_left : (a b : Bool) → (a && b) ≡ true → a ≡ true
and_left true b e = refl
and_left false b e = absurd cc

pub and_right : (a b : Bool) → (a && b) ≡ true → b ≡ true
and_right true b e = e
and_right false b e = absurd cc

pub or_left : (a b : Bool) → (a || b) ≡ false → a ≡ false
or_left true b e = absurd cc
or_left false b e = refl

pub or_right : (a b : Bool) → (a || b) ≡ false → b ≡ false
or_right true b e = absurd cc
or_right false b e = e

not_false : (a : Bool) → a ≡ false → not a ≡ true
not_false true e = absurd cc
not_false false e = refl

pub not_true : (a : Bool) → not a ≡ true → a ≡ false
not_true true e = absurd cc
not_true false e = refl

pub all_push : {A : Type 0} (test : A → Bool) (xs : List A) (x : A) → list_all test xs ≡ true → test x ≡ true → list_all test (xs ++ x ∷ []) ≡ true
all_push test [] x e h = and_both (test x) true h refl
all_push test (y ∷ ys) x e h = and_both (test y) (list_all test (ys ++ x ∷ [])) (and_left (test y) (list_all test ys) e) (all_push test ys x (and_right (test y) (list_all test ys) e) h)

any_push : {A : Type 0} (test : A → Bool) (xs : List A) (x : A) → list_any test xs ≡ false → test x ≡ false → list_any test (xs ++ x ∷ []) ≡ false
any_push test [] x e h = ap (λ b. b || false) h
any_push test (y ∷ ys) x e h =
    ap (λ b. b || list_any test (ys ++ x ∷ [])) (or_left (test y) (list_any test ys) e) ∙ any_push test ys x (or_right (test y) (list_any test ys) e) h

pub distinct_push : {A : Type 0} (same : A → A → Bool) (xs : List A) (x : A) → are_distinct same xs ≡ true → list_any (λ other. same other x) xs ≡ false → are_distinct same (xs ++ x ∷ []) ≡ true
distinct_push same [] x e new = refl
distinct_push same (y ∷ ys) x e new =
    and_both (not (list_any (same y) (ys ++ x ∷ []))) (are_distinct same (ys ++ x ∷ []))
    (not_false (list_any (same y) (ys ++ x ∷ [])) (any_push (same y) ys x (not_true (list_any (same y) ys) (and_left (not (list_any (same y) ys)) (are_distinct same ys) e)) (or_left (same y x) (list_any (λ other. same other x) ys) new)))
    (distinct_push same ys x (and_right (not (list_any (same y) ys)) (are_distinct same ys) e) (or_right (same y x) (list_any (λ other. same other x) ys) new))

-- sound and distinct items, and one that may follow them
pub sound_push : {A : Type 0} (sound_item : A → Bool) (same : A → A → Bool) (xs : List A) (x : A) → AreSound sound_item same xs → MayFollow sound_item same xs x → AreSound sound_item same (xs ++ x ∷ [])
sound_push sound_item same xs x before follows = record {
  sound = all_push sound_item xs x before.sound follows.sound;
  distinct = distinct_push same xs x before.distinct follows.new;
}

-- the same, where the lists are named otherwise
pub grown : {A : Type 0} (sound_item : A → Bool) (same : A → A → Bool) (old before more : List A) (x : A) → AreSound sound_item same old → before ≡ old → MayFollow sound_item same before x → more ≡ old ++ x ∷ [] → AreSound sound_item same more
grown sound_item same old before more x sound same_list follows e =
    subst (λ (ys : List _). AreSound sound_item same ys) (sym e) (sound_push sound_item same old x sound (subst (λ (ys : List _). MayFollow sound_item same ys x) same_list follows))

-- ---- tariffs

pub none_both : {A : Type 0} (a b : Option A) → option_or a b ≡ None → (a ≡ None) × (b ≡ None)
none_both None b e = (refl, e)
none_both (Some x) b e = absurd cc

none_of : {A : Type 0} (a b : Option A) → a ≡ None → b ≡ None → option_or a b ≡ None
none_of None b p q = q
none_of (Some x) b p q = absurd cc

from_push : (before xs : List Tariff) (x : Tariff) → fault_from before xs ≡ None → fault_after (before ++ xs) x ≡ None → fault_from before (xs ++ x ∷ []) ≡ None
from_push before [] x e h = none_of (fault_after before x) None (ap (λ (front : List Tariff). fault_after front x) (sym (append-nil before)) ∙ h) refl
from_push before (y ∷ ys) x e h =
    let parts = none_both (fault_after before y) (fault_from (before ++ y ∷ []) ys) e in
    none_of (fault_after before y) (fault_from (before ++ y ∷ []) (ys ++ x ∷ [])) parts.0
    (from_push (before ++ y ∷ []) ys x parts.1 (ap (λ (front : List Tariff). fault_after front x) (append_assoc before (y ∷ []) ys) ∙ h))

-- tariffs without fault, and one that has none after them
pub faultless_push : (xs : List Tariff) (x : Tariff) → fault_of xs ≡ None → fault_after xs x ≡ None → fault_of (xs ++ x ∷ []) ≡ None
faultless_push xs x e h = from_push [] xs x e h
