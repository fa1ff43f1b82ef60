-- Names and codes match one to one.
use Rattle.std.proofs.Common.{◌≡◌, ◌≢◌, ◌<◌, ◌≤◌, ◌↔◌, ℕ, List, [], ◌∷◌, Bool, true, false, cond, eqb, Option, Some, None, refl, sym, ap, subst, ◌∙◌, arith, lit<}
use Rattle.std.specs.Prelude.{find, option_map, bytes_eq}
use Rattle.std.specs.List.{AllByRecursion}
use Rattle.std.proofs.lemmas.Bool.{eqb-true}
use Rattle.std.proofs.lemmas.Slice.Eq.{bytes_eq-Decides}
use Rattle.dia_dict.specs.Dictionary.{Entry, rows, row_of, row_named, name_of, code_of_name}
use Rattle.dia_dict.proofs.Unlisted.{fits, and-left}

-- a row is the one with its name, the one with its code, and has a code of at most 461
pub record Alone (r : Entry) : Type 0 where
  pub named : row_named r.name ≡ Some r
  pub coded : row_of r.code 0 ≡ Some r
  pub small : r.code < 462

abbrev pub alone : (r : Entry) → row_named r.name ≡ Some r → row_of r.code 0 ≡ Some r → r.code < 462 → Alone r
alone r named coded small = record { named = named; coded = coded; small = small }

-- what is found passes the test, and has what all have
found_at : (P : Entry → Type 0) (test : Entry → Bool) (x : Entry) (xs : List Entry) (r : Entry) (b : Bool) → test x ≡ b → P x
    → (find test xs ≡ Some r → P r × (test r ≡ true)) → cond b (Some x) (find test xs) ≡ Some r → P r × (test r ≡ true)
found_at P test x xs r true t here later e =
    let same : x ≡ r = cc in (subst P same here, subst (λ (y : Entry). test y ≡ true) same t)
found_at P test x xs r false t here later e = later e

found : (P : Entry → Type 0) (test : Entry → Bool) (xs : List Entry) (r : Entry) → AllByRecursion P xs → find test xs ≡ Some r → P r × (test r ≡ true)
found P test [] r all e = absurd (cc)
found P test (x ∷ xs) r all e = found_at P test x xs r (test x) refl all.0 (λ h. found P test xs r all.1 h) e

each_alone : AllByRecursion Alone rows
each_alone = (alone _ refl refl (lit< tt), (alone _ refl refl (lit< tt), (alone _ refl refl (lit< tt), (alone _ refl refl (lit< tt), (alone _ refl refl (lit< tt), (alone _ refl refl (lit< tt), (alone _ refl refl (lit< tt), (alone _ refl refl (lit< tt), (alone _ refl refl (lit< tt), (alone _ refl refl (lit< tt), (alone _ refl refl (lit< tt), (alone _ refl refl (lit< tt), (alone _ refl refl (lit< tt), (alone _ refl refl (lit< tt), (alone _ refl refl (lit< tt), (alone _ refl refl (lit< tt), (alone _ refl refl (lit< tt), (alone _ refl refl (lit< tt), (alone _ refl refl (lit< tt), (alone _ refl refl (lit< tt), (alone _ refl refl (lit< tt), (alone _ refl refl (lit< tt), (alone _ refl refl (lit< tt), (alone _ refl refl (lit< tt), (alone _ refl refl (lit< tt), (alone _ refl refl (lit< tt), (alone _ refl refl (lit< tt), (alone _ refl refl (lit< tt), (alone _ refl refl (lit< tt), (alone _ refl refl (lit< tt), (alone _ refl refl (lit< tt), (alone _ refl refl (lit< tt), (alone _ refl refl (lit< tt), (alone _ refl refl (lit< tt), (alone _ refl refl (lit< tt), (alone _ refl refl (lit< tt), (alone _ refl refl (lit< tt), (alone _ refl refl (lit< tt), (alone _ refl refl (lit< tt), (alone _ refl refl (lit< tt), (alone _ refl refl (lit< tt), (alone _ refl refl (lit< tt), (alone _ refl refl (lit< tt), (alone _ refl refl (lit< tt), (alone _ refl refl (lit< tt), (alone _ refl refl (lit< tt), (alone _ refl refl (lit< tt), (alone _ refl refl (lit< tt), (alone _ refl refl (lit< tt), (alone _ refl refl (lit< tt), (alone _ refl refl (lit< tt), (alone _ refl refl (lit< tt), (alone _ refl refl (lit< tt), (alone _ refl refl (lit< tt), (alone _ refl refl (lit< tt), (alone _ refl refl (lit< tt), (alone _ refl refl (lit< tt), (alone _ refl refl (lit< tt), (alone _ refl refl (lit< tt), (alone _ refl refl (lit< tt), (alone _ refl refl (lit< tt), (alone _ refl refl (lit< tt), (alone _ refl refl (lit< tt), (alone _ refl refl (lit< tt), tt))))))))))))))))))))))))))))))))))))))))))))))))))))))))))))))))

-- what an option that gives a value through a function holds
through : {B : Type 0} (f : Entry → B) (o : Option Entry) (b : B) → option_map f o ≡ Some b → (r : Entry) × (o ≡ Some r) × (f r ≡ b)
through f None b e = absurd (cc)
through f (Some r) b e = (r, refl, cc)

pub row_at : (code : ℕ) (r : Entry) → row_of code 0 ≡ Some r → Alone r × (r.code ≡ code)
row_at code r e =
    let f = found Alone (fits code 0) rows r each_alone e in
    (f.0, eqb-true r.code code (and-left (eqb r.code code) (eqb r.vendor 0) f.1))

pub code_from_name : (code : ℕ) (name : List ℕ) → name_of code ≡ Some name → code_of_name name ≡ Some code
code_from_name code name h =
    let w = through (λ r. r.name) (row_of code 0) name h in
    let f = row_at code w.0 w.1 in
    let named : row_named name ≡ Some w.0 = subst (λ (n : List ℕ). row_named n ≡ Some w.0) w.2 f.0.named in
    ap (option_map (λ r. r.code)) named ∙ ap Some f.1

pub name_from_code : (code : ℕ) (name : List ℕ) → code_of_name name ≡ Some code → (name_of code ≡ Some name) × (code < 462)
name_from_code code name h =
    let w = through (λ r. r.code) (row_named name) code h in
    let f = found Alone (λ r. bytes_eq r.name name) rows w.0 each_alone w.1 in
    let at : w.0.name ≡ name = (bytes_eq-Decides w.0.name name).0 f.1 in
    let coded : row_of code 0 ≡ Some w.0 = subst (λ (n : ℕ). row_of n 0 ≡ Some w.0) w.2 f.0.coded in
    (ap (option_map (λ r. r.name)) coded ∙ ap Some at, subst (λ (n : ℕ). n < 462) w.2 f.0.small)

pub one_to_one : (code : ℕ) (name : List ℕ) → (name_of code ≡ Some name) ↔ (code_of_name name ≡ Some code)
one_to_one code name = (code_from_name code name, λ h. (name_from_code code name h).0)

no_code : (name : List ℕ) (n : ℕ) (o : Option ℕ) → code_of_name name ≡ o → 462 ≤ n → ((k : ℕ) → k < n → name_of k ≢ Some name) → o ≡ None
no_code name n None e most passed = refl
no_code name n (Some code) e most passed =
    let w = name_from_code code name e in absurd (passed code (omega (arith, w.1)) w.0)

-- no code below 462 has the name, so no row has it
pub passed_all : (name : List ℕ) (n : ℕ) → 462 ≤ n → ((k : ℕ) → k < n → name_of k ≢ Some name) → code_of_name name ≡ None
passed_all name n most passed = no_code name n (code_of_name name) refl most passed

-- ---- a step of the loop over the codes

pub none_at_zero : (name : List ℕ) (k : ℕ) → k < 1 → name_of k ≢ Some name
none_at_zero name k lt e =
    let zero : k ≡ 0 = omega arith in
    let first : name_of 0 ≡ Some name = subst (λ (n : ℕ). name_of n ≡ Some name) zero e in cc

pub same_code : (code : ℕ) (known name : List ℕ) → Some known ≡ name_of code → bytes_eq known name ≡ true → code_of_name name ≡ Some code
same_code code known name h t =
    code_from_name code name (sym h ∙ ap Some ((bytes_eq-Decides known name).0 t))

pub other_code : (code : ℕ) (known name : List ℕ) → Some known ≡ name_of code → bytes_eq known name ≡ false → name_of code ≢ Some name
other_code code known name h f e =
    let same : known ≡ name = cc in
    let t : bytes_eq known name ≡ true = (bytes_eq-Decides known name).1 same in cc

pub nameless : (code : ℕ) (name : List ℕ) → None ≡ name_of code → name_of code ≢ Some name
nameless code name h e = cc
