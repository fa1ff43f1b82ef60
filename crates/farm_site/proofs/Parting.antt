-- Parts of lists: what is said of the whole holds of an item, and of those before it.
use Rattle.std.proofs.Common.{◌≡◌, Bool, true, false, not, List, [], ◌∷◌, ◌++◌, None, refl, sym, ap, ◌∙◌, append-nil, append_assoc}
use Rattle.std.proofs.lemmas.Bool.{or_from}
use Rattle.std.specs.List.{AllZip, list_all, list_any}
use Rattle.cc_rating.specs.Tariffs.{fault_after, fault_from}
use Rattle.cc_rating.specs.declared.tariff.Tariff.{Tariff}
use Rattle.farm_base.specs.Lists.{are_distinct}
use Rattle.farm_site.proofs.Pushing.{and_left, and_right, none_both, not_true, or_left, or_right}

pub all_at : {A : Type 0} (test : A → Bool) (before rest : List A) (x : A) → list_all test (before ++ x ∷ rest) ≡ true → test x ≡ true
all_at test [] rest x all = and_left (test x) (list_all test rest) all
all_at test (y ∷ before) rest x all = all_at test before rest x (and_right (test y) (list_all test (before ++ x ∷ rest)) all)

pub none_at : {A : Type 0} (test : A → Bool) (before rest : List A) (x : A) → list_any test (before ++ x ∷ rest) ≡ false → test x ≡ false
none_at test [] rest x none = or_left (test x) (list_any test rest) none
none_at test (y ∷ before) rest x none = none_at test before rest x (or_right (test y) (list_any test (before ++ x ∷ rest)) none)

-- none of those before is the same
pub new_behind : {A : Type 0} (same : A → A → Bool) (before rest : List A) (x : A) → are_distinct same (before ++ x ∷ rest) ≡ true → list_any (λ other. same other x) before ≡ false
new_behind same [] rest x distinct = refl
new_behind same (y ∷ before) rest x distinct =
    let none : list_any (same y) (before ++ x ∷ rest) ≡ false = not_true (list_any (same y) (before ++ x ∷ rest)) (and_left (not (list_any (same y) (before ++ x ∷ rest))) (are_distinct same (before ++ x ∷ rest)) distinct) in
    or_from (same y x) (list_any (λ other. same other x) before) (none_at (same y) before rest x none)
    (new_behind same before rest x (and_right (not (list_any (same y) (before ++ x ∷ rest))) (are_distinct same (before ++ x ∷ rest)) distinct))

-- two lists that belong together, parted at a place of the first
pub record Parts {A B : Type 0} (R : A → B → Type 0) (xs : List A) (x : A) (ys : List B) : Type 0 where
  pub before : List B
  pub item : B
  pub rest : List B
  pub whole : ys ≡ before ++ item ∷ rest
  pub together : AllZip R xs before
  pub one : R x item

pub parted : {A B : Type 0} (R : A → B → Type 0) (xs zs : List A) (x : A) (ys : List B) → AllZip R (xs ++ x ∷ zs) ys → Parts R xs x ys
parted R [] zs x [] zip = absurd zip
parted R [] zs x (y ∷ ys) zip = record { before = []; item = y; rest = ys; whole = refl; together = tt; one = zip.0 }
parted R (w ∷ xs) zs x [] zip = absurd zip
parted R (w ∷ xs) zs x (y ∷ ys) zip =
    let behind = parted R xs zs x ys zip.1 in
    record {
      before = y ∷ behind.before;
      item = behind.item;
      rest = behind.rest;
      whole = ap (λ (bs : List _). y ∷ bs) behind.whole;
      together = (zip.0, behind.together);
      one = behind.one;
    }

-- a tariff has no fault behind those before it
pub faultless_at : (front before rest : List Tariff) (x : Tariff) → fault_from front (before ++ x ∷ rest) ≡ None → fault_after (front ++ before) x ≡ None
faultless_at front [] rest x none = ap (λ (seen : List Tariff). fault_after seen x) (append-nil front) ∙ (none_both (fault_after front x) (fault_from (front ++ x ∷ []) rest) none).0
faultless_at front (y ∷ before) rest x none =
    ap (λ (seen : List Tariff). fault_after seen x) (sym (append_assoc front (y ∷ []) before))
    ∙ faultless_at (front ++ y ∷ []) before rest x (none_both (fault_after front y) (fault_from (front ++ y ∷ []) (before ++ x ∷ rest)) none).1
