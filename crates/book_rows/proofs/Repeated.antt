-- Reading and writing values one after the other, as a loop does.
use Rattle.std.proofs.Common.{◌≡◌, ℕ, suc, ◌-◌, ◌+◌, ◌≤◌, ◌<◌, List, [], ◌∷◌, ◌++◌, length, take, get_or, Result, Ok, Err, refl, sym, ap, subst, ◌∙◌, append_assoc, arith}
use Rattle.std.proofs.lemmas.List.{append-nil, take_more}
use Rattle.book_rows.specs.declared.fault.Fault.{Fault}
use Rattle.book_rows.specs.declared.fault.ReadError.{ReadError}
use Rattle.book_rows.specs.declared.fault.ReadError.TheVariants as errors
use Rattle.book_rows.specs.Form.{Form, ◌>>=◌, Adds, AddsAll, AllFit, Fails, all_spelled, listed, number, so_many}
use Rattle.book_rows.proofs.Exact.{fits_number}

-- ---- reading

-- what was read, behind what was read before
abbrev pub with_front : {A : Type 0} → List A → Result (List A × List ℕ) Fault → Result (List A × List ℕ) Fault
with_front front read = read >>= λ x. Ok (front ++ x.0, x.1)

regroup : {A : Type 0} (front : List A) (x : A) (read : Result (List A × List ℕ) Fault) → with_front front (read >>= λ others. Ok (x ∷ others.0, others.1)) ≡ with_front (front ++ x ∷ []) read
regroup {A = A} front x (Ok y) = ap (λ (xs : List A). Ok (xs, y.1)) (sym (append_assoc front (x ∷ []) y.0))
regroup front x (Err e) = refl

pub goes_on : {A : Type 0} (f : Form A) (front : List A) (count i : ℕ) (octets : List ℕ) (x : A) (rest : List ℕ) (total : Result (List A × List ℕ) Fault) → i < count → f.read octets ≡ Ok (x, rest)
    → with_front front (so_many f.read (count - i) octets) ≡ total → with_front (front ++ x ∷ []) (so_many f.read (count - (i + 1)) rest) ≡ total
unfolding so_many
goes_on f front count i octets x rest total lt h so_far =
    let k : count - i ≡ suc (count - (i + 1)) = omega arith in
    let one : with_front front (so_many f.read (count - i) octets) ≡ with_front (front ++ x ∷ []) (so_many f.read (count - (i + 1)) rest) = rw (k, h) (regroup front x (so_many f.read (count - (i + 1)) rest)) in
    sym one ∙ so_far

pub ends : {A : Type 0} (f : Form A) (e : ReadError) (front : List A) (count i : ℕ) (octets : List ℕ) (total : Result (List A × List ℕ) Fault) → i < count → Fails e (f.read octets)
    → with_front front (so_many f.read (count - i) octets) ≡ total → Fails e total
unfolding so_many
ends f errors.OutOfMemory front count i octets total lt h so_far = tt
ends f (errors.NoRow fault) front count i octets total lt h so_far =
    let k : count - i ≡ suc (count - (i + 1)) = omega arith in
    let one : with_front front (so_many f.read (count - i) octets) ≡ Err fault = rw (k, h) refl in
    sym so_far ∙ one

pub is_done : {A : Type 0} (f : Form A) (front : List A) (count i : ℕ) (octets : List ℕ) (total : Result (List A × List ℕ) Fault) → count ≤ i
    → with_front front (so_many f.read (count - i) octets) ≡ total → total ≡ Ok (front, octets)
unfolding so_many
is_done {A = A} f front count i octets total le so_far =
    let k : count - i ≡ 0 = omega arith in
    let one : with_front front (so_many f.read (count - i) octets) ≡ Ok (front, octets) = rw k (ap (λ (xs : List A). Ok (xs, octets)) (append-nil front)) in
    sym so_far ∙ one

-- ---- writing

pub none_of_all : {A : Type 0} (f : Form A) (old : List ℕ) → AddsAll f [] old old
none_of_all f old = record { spelled = sym (append-nil old); fits = tt }

all_spelled-more : {A : Type 0} (spell : A → List ℕ) (xs : List A) (x : A) → all_spelled spell (xs ++ x ∷ []) ≡ all_spelled spell xs ++ spell x
all_spelled-more spell [] x = append-nil (spell x)
all_spelled-more spell (first ∷ xs) x = ap (λ (s : List ℕ). spell first ++ s) (all_spelled-more spell xs x) ∙ sym (append_assoc (spell first) (all_spelled spell xs) (spell x))

AllFit-more : {A : Type 0} (Fits : A → Type 0) (xs : List A) (x : A) → AllFit Fits xs → Fits x → AllFit Fits (xs ++ x ∷ [])
AllFit-more Fits [] x all one = (one, tt)
AllFit-more Fits (first ∷ xs) x all one = (all.0, AllFit-more Fits xs x all.1 one)

pub one_more_of_all : {A : Type 0} (f : Form A) (xs : List A) (i : ℕ) (d : A) (old mid new : List ℕ) → i < length xs → AddsAll f (take i xs) old mid → Adds f (get_or xs i d) mid new → AddsAll f (take (i + 1) xs) old new
one_more_of_all {A = A} f xs i d old mid new lt before one =
    let x = get_or xs i d in
    let longer : AddsAll f (take i xs ++ x ∷ []) old new = record {
      spelled = one.spelled ∙ ap (λ (s : List ℕ). s ++ f.spell x) before.spelled ∙ append_assoc old (all_spelled f.spell (take i xs)) (f.spell x) ∙ ap (λ (s : List ℕ). old ++ s) (sym (all_spelled-more f.spell (take i xs) x));
      fits = AllFit-more f.Fits (take i xs) x before.fits one.fits;
    } in
    subst (λ (ys : List A). AddsAll f ys old new) (sym (take_more xs i d lt)) longer

pub listed_added : {A : Type 0} (f : Form A) (xs : List A) (old mid new : List ℕ) → Adds (number 8) (length xs) old mid → AddsAll f xs mid new → Adds (listed f) xs old new
unfolding listed
listed_added f xs old mid new size all = record {
  spelled = all.spelled ∙ ap (λ (s : List ℕ). s ++ all_spelled f.spell xs) size.spelled ∙ append_assoc old ((number 8).spell (length xs)) (all_spelled f.spell xs);
  fits = (fits_number 8 (length xs) size.fits, all.fits);
}
