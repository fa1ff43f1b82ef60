-- Tariffs without fault, in the words of who writes them.
use Rattle.std.proofs.Common.{◌≡◌, ℕ, ◌+◌, ◌≤◌, Bool, true, false, not, ◌&&◌, ◌||◌, cond, eqb, eq-eqb, List, [], ◌∷◌, ◌++◌, All, Option, Some, None, refl, sym, ap, subst, ◌∙◌, arith, lit≤}
use Rattle.std.specs.Prelude.{count_by, is_some}
use Rattle.std.specs.List.{list_all, list_any}
use Rattle.std.specs.Option.{option_eq, option_or}
use Rattle.std.proofs.lemmas.Bool.{and_parts, eqb-true, false_from_ne_true}
use Rattle.std.proofs.lemmas.List.{append_assoc, append-nil}
use Rattle.std.proofs.lemmas.List.Elements.{All-cons, All-head, All-nil, All-tail}
use Rattle.std.proofs.lemmas.List.Folds.{Any-from_list_any, list_any_at}
use Rattle.std.proofs.lemmas.List.Sums.{sum_by-append, sum_by-cons}
use Rattle.cc_rating.specs.declared.tariff.Tariff.{Tariff}
use Rattle.cc_rating.specs.declared.tariffs.TariffFault.{TariffFault}
use Rattle.cc_rating.specs.declared.tariffs.TariffFault.TheVariants.{Twice, OutOfRange}
use Rattle.cc_rating.specs.Laws.{AreTariffs, HasOneKey}
use Rattle.cc_rating.specs.Tariffs.{rates}
use Rattle.cc_rating.specs.Tariffs.{fault_from, fault_of, has_key, in_range}
use Rattle.cc_rating.proofs.Faults.{fault_of-none}

-- ---- how many tariffs rate a service

counted-cons : (test : Tariff → Bool) (tariff : Tariff) (tariffs : List Tariff) → count_by test (tariff ∷ tariffs) ≡ cond (test tariff) 1 0 + count_by test tariffs
counted-cons test tariff tariffs = sum_by-cons (λ (t : Tariff). cond (test t) 1 0) tariff tariffs

counted-append : (test : Tariff → Bool) (xs ys : List Tariff) → count_by test (xs ++ ys) ≡ count_by test xs + count_by test ys
counted-append test xs ys = sum_by-append (λ (t : Tariff). cond (test t) 1 0) xs ys

none_here : (b r : Bool) (n : ℕ) → (b || r) ≡ false → (r ≡ false → n ≡ 0) → cond b 1 0 + n ≡ 0
none_here true r n e more = absurd cc
none_here false r n e more = omega (arith, more e)

counted-none : (test : Tariff → Bool) (tariffs : List Tariff) → list_any test tariffs ≡ false → count_by test tariffs ≡ 0
counted-none test [] e = refl
counted-none test (tariff ∷ tariffs) e = counted-cons test tariff tariffs ∙ none_here (test tariff) (list_any test tariffs) (count_by test tariffs) e (counted-none test tariffs)

some_here : (b r : Bool) (n : ℕ) → (b || r) ≡ true → (r ≡ true → 1 ≤ n) → 1 ≤ cond b 1 0 + n
some_here true r n e more = omega arith
some_here false r n e more = omega (arith, more e)

counted-some : (test : Tariff → Bool) (tariffs : List Tariff) → list_any test tariffs ≡ true → 1 ≤ count_by test tariffs
counted-some test [] e = absurd cc
counted-some test (tariff ∷ tariffs) e =
    let some = some_here (test tariff) (list_any test tariffs) (count_by test tariffs) e (counted-some test tariffs) in
    omega (arith, some, counted-cons test tariff tariffs)

regroup : (before : List Tariff) (tariff : Tariff) (after : List Tariff) → (before ++ tariff ∷ []) ++ after ≡ before ++ tariff ∷ after
regroup before tariff after = append_assoc before (tariff ∷ []) after

-- ---- keys

-- what rates a service of one of two tariffs that share it, by the key of the other
shares-by : (group ident one other : Option ℕ) (x : Tariff) → (is_some one && is_some other) ≡ false → (t : Tariff) → t.group ≡ one → t.ident ≡ other
    → rates group ident t ≡ true → rates group ident x ≡ true → rates one other x ≡ true
shares-by (Some g) ident (Some n) other x single t p q e f =
    let same : n ≡ g = eqb-true n g (sym (ap (λ (o : Option ℕ). option_eq eqb o (Some g)) p) ∙ e) in
    subst (λ (k : ℕ). option_eq eqb x.group (Some k) ≡ true) (sym same) f
shares-by (Some g) ident None other x single t p q e f = let no : false ≡ true = sym (ap (λ (o : Option ℕ). option_eq eqb o (Some g)) p) ∙ e in absurd cc
shares-by None (Some i) None (Some n) x single t p q e f =
    let same : n ≡ i = eqb-true n i (sym (ap (λ (o : Option ℕ). option_eq eqb o (Some i)) q) ∙ e) in
    subst (λ (k : ℕ). option_eq eqb x.ident (Some k) ≡ true) (sym same) f
shares-by None (Some i) (Some g) (Some n) x single t p q e f = absurd cc
shares-by None (Some i) one None x single t p q e f = let no : false ≡ true = sym (ap (λ (o : Option ℕ). option_eq eqb o (Some i)) q) ∙ e in absurd cc
shares-by None None one other x single t p q e f = absurd cc

shares : (group ident : Option ℕ) (t x : Tariff) → HasOneKey t → rates group ident t ≡ true → rates group ident x ≡ true → rates t.group t.ident x ≡ true
shares group ident t x single e f = shares-by group ident t.group t.ident x single t refl refl e f

-- a tariff rates what has its own key
rates-own : (t : Tariff) (one other : Option ℕ) → t.group ≡ one → t.ident ≡ other → (is_some one || is_some other) ≡ true → rates one other t ≡ true
rates-own t (Some g) other p q e = ap (λ (o : Option ℕ). option_eq eqb o (Some g)) p ∙ eq-eqb g g refl
rates-own t None (Some i) p q e = ap (λ (o : Option ℕ). option_eq eqb o (Some i)) q ∙ eq-eqb i i refl
rates-own t None None p q e = absurd cc

-- ---- from no fault

none_parts : (range both shared : Bool) (more : Option TariffFault) → option_or (cond (not range) (Some OutOfRange) (cond (both || shared) (Some Twice) None)) more ≡ None
    → (both ≡ false) × (shared ≡ false) × (more ≡ None)
none_parts true true shared more e = absurd cc
none_parts true false true more e = absurd cc
none_parts true false false more e = (refl, refl, e)
none_parts false both shared more e = absurd cc

abbrev is_both : Tariff → Bool
is_both t = is_some t.group && is_some t.ident

parts_of : (before : List Tariff) (t : Tariff) (after : List Tariff) → fault_from before (t ∷ after) ≡ None
    → (HasOneKey t) × (list_any (rates t.group t.ident) before ≡ false) × (fault_from (before ++ t ∷ []) after ≡ None)
parts_of before t after e = none_parts (in_range t) (is_both t) (list_any (rates t.group t.ident) before) (fault_from (before ++ t ∷ []) after) e

-- where one more tariff rates the service, none before it does
alone : (group ident : Option ℕ) (before : List Tariff) (t : Tariff) → HasOneKey t → list_any (rates t.group t.ident) before ≡ false → rates group ident t ≡ true → list_any (rates group ident) before ≡ false
alone group ident before t single other e = false_from_ne_true (list_any (rates group ident) before) (λ any.
    let some = Any-from_list_any (rates group ident) before any in
    let shared = shares group ident t some.1 single e some.4 in
    let found : list_any (rates t.group t.ident) before ≡ true = list_any_at (rates t.group t.ident) before some.0 some.1 some.2 (subst (λ (x : Tariff). rates t.group t.ident x ≡ true) (sym some.3) shared) in
    absurd (false_true (sym other ∙ found)))
  where
    false_true : false ≡ true → ⊥
    false_true e = absurd cc

one_more : (b : Bool) (n m : ℕ) → m ≡ n + cond b 1 0 → n ≤ 1 → (b ≡ true → n ≡ 0) → m ≤ 1
one_more true n m e le zero = omega (arith, zero refl)
one_more false n m e le zero = omega arith

single-after : (group ident : Option ℕ) (before after : List Tariff) → fault_from before after ≡ None → count_by (rates group ident) before ≤ 1 → count_by (rates group ident) (before ++ after) ≤ 1
single-after group ident before [] e le = subst (λ (xs : List Tariff). count_by (rates group ident) xs ≤ 1) (sym (append-nil before)) le
single-after group ident before (t ∷ after) e le =
    let parts = parts_of before t after e in
    let test = rates group ident in
    subst (λ (xs : List Tariff). count_by test xs ≤ 1) (regroup before t after)
    (single-after group ident (before ++ t ∷ []) after parts.2
    (one_more (test t) (count_by test before) (count_by test (before ++ t ∷ [])) (omega (arith, counted-append test before (t ∷ []), counted-cons test t [])) le
    (λ rated. counted-none test before (alone group ident before t parts.0 parts.1 rated))))

keys-after : (before after : List Tariff) → fault_from before after ≡ None → All HasOneKey after
keys-after before [] e = All-nil HasOneKey
keys-after before (t ∷ after) e =
    let parts = parts_of before t after e in
    All-cons HasOneKey t after parts.0 (keys-after (before ++ t ∷ []) after parts.2)

pub tariffs-from_none : (tariffs : List Tariff) → fault_of tariffs ≡ None → AreTariffs tariffs
tariffs-from_none tariffs e = record {
  ranges = fault_of-none tariffs e;
  keys = keys-after [] tariffs e;
  single = λ group ident. single-after group ident [] tariffs e (lit≤ tt);
}

-- ---- to no fault

no_fault : (range both shared : Bool) (more : Option TariffFault) → range ≡ true → both ≡ false → shared ≡ false → more ≡ None → option_or (cond (not range) (Some OutOfRange) (cond (both || shared) (Some Twice) None)) more ≡ None
no_fault true false false more p q r e = e
no_fault true false true more p q r e = absurd cc
no_fault true true shared more p q r e = absurd cc
no_fault false both shared more p q r e = absurd cc

none-after : (before after : List Tariff) → list_all in_range after ≡ true → All HasOneKey after → ((group ident : Option ℕ) → count_by (rates group ident) (before ++ after) ≤ 1) → fault_from before after ≡ None
none-after before [] ranges keys single = refl
none-after before (t ∷ after) ranges keys single =
    let range = and_parts (in_range t) (list_all in_range after) ranges in
    let test = rates t.group t.ident in
    let own : test t ≡ true = rates-own t t.group t.ident refl refl (and_parts (has_key t) _ range.0).0 in
    let shared : list_any test before ≡ false = false_from_ne_true (list_any test before) (λ any.
    let here : ◌≡◌ {A = ℕ} (cond (test t) 1 0) 1 = ap (λ (b : Bool). cond {A = ℕ} b 1 0) own in
    omega (arith, here, counted-some test before any, single t.group t.ident, counted-append test before (t ∷ after), counted-cons test t after)) in
    no_fault (in_range t) (is_both t) (list_any test before) (fault_from (before ++ t ∷ []) after) range.0 (All-head HasOneKey t after keys) shared
    (none-after (before ++ t ∷ []) after range.1 (All-tail HasOneKey t after keys)
    (λ group ident. subst (λ (xs : List Tariff). count_by (rates group ident) xs ≤ 1) (sym (regroup before t after)) (single group ident)))

pub none-from_tariffs : (tariffs : List Tariff) → AreTariffs tariffs → fault_of tariffs ≡ None
none-from_tariffs tariffs all = none-after [] tariffs all.ranges all.keys all.single
