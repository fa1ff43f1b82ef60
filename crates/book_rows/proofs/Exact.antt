-- Forms are exact: what a value is spelled as is read as this value, and what is read is spelled so.
use Rattle.std.proofs.Common.{◌≡◌, ℕ, zero, suc, ◌^◌, ◌<◌, ◌≤◌, Bool, true, false, cond, ltb, List, [], ◌∷◌, ◌++◌, length, take, drop, Option, Some, None, Result, Ok, Err, refl, sym, ap, subst, ◌∙◌, append_assoc, arith}
use Rattle.std.specs.Prelude.{◌==◌}
use Rattle.std.proofs.lemmas.Bool.{eqb-true, le-ltb, ltb-false}
use Rattle.std.proofs.lemmas.List.{drop_at, length-append, length-take, take-append-drop, take_at}
use Rattle.byteorder.specs.Endian.{big_bytes, big_number}
use Rattle.byteorder.specs.Numbers.{big_from-lt, big_number-reads_back, length-bytes_high_first}
use Rattle.book_rows.specs.declared.fault.Fault.{Fault}
use Rattle.book_rows.specs.declared.fault.Fault.TheVariants.{Short}
use Rattle.book_rows.specs.Form.{Form, ◌>>=◌, AllFit, all_spelled, both, checked, counted, listed, number, numbered, option_read, optional, so_many}
use Rattle.book_rows.proofs.Octets.{AreOctets, AreOctets-drop, AreOctets-rest, octets_of_number}

-- the octets are the spelling of the value, which has one, and the rest
pub record Takes {A : Type 0} (form : Form A) (octets : List ℕ) (value : A) (rest : List ℕ) : Type 0 where
  pub parts : octets ≡ form.spell value ++ rest
  pub rest_fits : AreOctets rest
  pub fits : form.Fits value

pub record IsExact {A : Type 0} (form : Form A) : Type 0 where
  pub again : (value : A) (rest : List ℕ) → form.Fits value → form.read (form.spell value ++ rest) ≡ Ok (value, rest)
  pub takes : (octets : List ℕ) (value : A) (rest : List ℕ) → AreOctets octets → form.read octets ≡ Ok (value, rest) → Takes form octets value rest

-- ---- steps that did not fail

pub bind_ok : {A B : Type 0} (r : Result A Fault) (f : A → Result B Fault) (y : B) → (r >>= f) ≡ Ok y → (x : A) × (r ≡ Ok x) × (f x ≡ Ok y)
bind_ok (Ok x) f y e = (x, refl, e)
bind_ok (Err d) f y e = absurd cc

pub guard_ok : {A : Type 0} (b : Bool) (d : Fault) (x y : A) → cond b (Err d) (Ok x) ≡ Ok y → (b ≡ false) × (x ≡ y)
guard_ok true d x y e = absurd cc
guard_ok false d x y e = (refl, cc)

pub test_ok : {A : Type 0} (b : Bool) (d : Fault) (x y : A) → cond b (Ok x) (Err d) ≡ Ok y → (b ≡ true) × (x ≡ y)
test_ok true d x y e = (refl, cc)
test_ok false d x y e = absurd cc

abbrev done : {A : Type 0} → A → Result A Fault
done x = Ok x

pub ok_is : {A : Type 0} (x y : A) → done x ≡ done y → x ≡ y
ok_is x y e = cc

-- ---- numbers

number_again : (n x : ℕ) (rest : List ℕ) → x < 256 ^ n → (number n).read ((number n).spell x ++ rest) ≡ Ok (x, rest)
unfolding number
number_again n x rest lt =
    let len = length-bytes_high_first n x in
    let long : ltb (length (big_bytes n x ++ rest)) n ≡ false = le-ltb (length (big_bytes n x ++ rest)) n (omega (arith, length-append (big_bytes n x) rest, len)) in
    rw (long, big_number-reads_back n x rest lt, drop_at (big_bytes n x) rest n len) refl

number_takes : (n : ℕ) (octets : List ℕ) (x : ℕ) (rest : List ℕ) → AreOctets octets → (number n).read octets ≡ Ok (x, rest) → Takes (number n) octets x rest
unfolding number
number_takes n octets x rest fits e =
    let g = guard_ok (ltb (length octets) n) Short (big_number n octets, drop n octets) (x, rest) e in
    let long : n ≤ length octets = ltb-false (length octets) n g.0 in
    let parts : octets ≡ big_bytes n (big_number n octets) ++ drop n octets =
    sym (take-append-drop n octets) ∙ ap (λ (front : List ℕ). front ++ drop n octets) (sym (octets_of_number n octets long fits)) in
    subst (λ (y : ℕ × List ℕ). Takes (number n) octets y.0 y.1) g.1 (record { parts = parts; rest_fits = AreOctets-drop n octets fits; fits = big_from-lt 0 n octets fits })

pub number_exact : (n : ℕ) → IsExact (number n)
unfolding number
number_exact n = record { again = number_again n; takes = number_takes n }

-- ---- one after the other

both_takes : {A B : Type 0} (f : Form A) (g : Form B) → IsExact f → IsExact g → (octets : List ℕ) (value : A × B) (rest : List ℕ) → AreOctets octets → (both f g).read octets ≡ Ok (value, rest) → Takes (both f g) octets value rest
both_takes {A = A} {B = B} f g p q octets value rest fits e =
    let a = bind_ok (f.read octets) (λ a. g.read a.1 >>= λ b. Ok ((a.0, b.0), b.1)) (value, rest) e in
    let b = bind_ok (g.read a.0.1) (λ b. Ok ((a.0.0, b.0), b.1)) (value, rest) a.2 in
    let t = p.takes octets a.0.0 a.0.1 fits a.1 in
    let u = q.takes a.0.1 b.0.0 b.0.1 t.rest_fits b.1 in
    let parts : octets ≡ (f.spell a.0.0 ++ g.spell b.0.0) ++ b.0.1 =
    t.parts ∙ ap (λ (s : List ℕ). f.spell a.0.0 ++ s) u.parts ∙ sym (append_assoc (f.spell a.0.0) (g.spell b.0.0) b.0.1) in
    subst (λ (y : (A × B) × List ℕ). Takes (both f g) octets y.0 y.1) (ok_is ((a.0.0, b.0.0), b.0.1) (value, rest) b.2) (record { parts = parts; rest_fits = u.rest_fits; fits = (t.fits, u.fits) })

both_again : {A B : Type 0} (f : Form A) (g : Form B) → IsExact f → IsExact g → (value : A × B) (rest : List ℕ) → (both f g).Fits value → (both f g).read ((both f g).spell value ++ rest) ≡ Ok (value, rest)
both_again f g p q value rest fits =
    ap (both f g).read (append_assoc (f.spell value.0) (g.spell value.1) rest) ∙ rw (p.again value.0 (g.spell value.1 ++ rest) fits.0, q.again value.1 rest fits.1) refl

pub both_exact : {A B : Type 0} (f : Form A) (g : Form B) → IsExact f → IsExact g → IsExact (both f g)
both_exact f g p q = record { again = both_again f g p q; takes = both_takes f g p q }

-- ---- values that stand for others

checked_takes : {A B : Type 0} (f : Form A) (to : A → Result B Fault) (of : B → A) → IsExact f → ((a : A) (b : B) → to a ≡ Ok b → a ≡ of b) → (octets : List ℕ) (value : B) (rest : List ℕ) → AreOctets octets → (checked f to of).read octets ≡ Ok (value, rest) → Takes (checked f to of) octets value rest
checked_takes {A = A} {B = B} f to of p inverse octets value rest fits e =
    let a = bind_ok (f.read octets) (λ a. to a.0 >>= λ b. Ok (b, a.1)) (value, rest) e in
    let b = bind_ok (to a.0.0) (λ b. Ok (b, a.0.1)) (value, rest) a.2 in
    let t = p.takes octets a.0.0 a.0.1 fits a.1 in
    let same : a.0.0 ≡ of b.0 = inverse a.0.0 b.0 b.1 in
    let P : A → Type 0 = λ x. f.Fits x in
    subst (λ (y : B × List ℕ). Takes (checked f to of) octets y.0 y.1) (ok_is (b.0, a.0.1) (value, rest) b.2)
    (record { parts = t.parts ∙ ap (λ (x : A). f.spell x ++ a.0.1) same; rest_fits = t.rest_fits; fits = (subst P same t.fits, ap to (sym same) ∙ b.1) })

checked_again : {A B : Type 0} (f : Form A) (to : A → Result B Fault) (of : B → A) → IsExact f → (value : B) (rest : List ℕ) → (checked f to of).Fits value → (checked f to of).read ((checked f to of).spell value ++ rest) ≡ Ok (value, rest)
checked_again f to of p value rest fits = rw (p.again (of value) rest fits.0, fits.1) refl

pub checked_exact : {A B : Type 0} (f : Form A) (to : A → Result B Fault) (of : B → A) → IsExact f → ((a : A) (b : B) → to a ≡ Ok b → a ≡ of b) → IsExact (checked f to of)
checked_exact f to of p inverse = record { again = checked_again f to of p; takes = checked_takes f to of p inverse }

pub total_inverse : {A B : Type 0} (make : A → B) (of : B → A) → ((a : A) → of (make a) ≡ a) → (a : A) (b : B) → done (make a) ≡ done b → a ≡ of b
total_inverse make of back a b e = sym (back a) ∙ ap of (ok_is (make a) b e)

numbered_by : {K : Type 0} (number_of : K → ℕ) (first : K) (others : Result K Fault) (n : ℕ) (k : K) (b : Bool) → (others ≡ Ok k → n ≡ number_of k) → (number_of first == n) ≡ b → cond b (done first) others ≡ Ok k → n ≡ number_of k
numbered_by number_of first others n k true later test e = sym (eqb-true (number_of first) n test) ∙ ap number_of (ok_is first k e)
numbered_by number_of first others n k false later test e = later e

pub numbered_inverse : {K : Type 0} (fault : Fault) (number_of : K → ℕ) (ks : List K) (n : ℕ) (k : K) → numbered fault number_of ks n ≡ Ok k → n ≡ number_of k
numbered_inverse fault number_of [] n k e = absurd cc
numbered_inverse fault number_of (first ∷ ks) n k e =
    numbered_by number_of first (numbered fault number_of ks n) n k (number_of first == n) (numbered_inverse fault number_of ks n k) refl e

-- ---- a value or none

optional_again : {A : Type 0} (fault : Fault) (f : Form A) → IsExact f → (value : Option A) (rest : List ℕ) → (optional fault f).Fits value → (optional fault f).read ((optional fault f).spell value ++ rest) ≡ Ok (value, rest)
unfolding optional
optional_again fault f p None rest fits = refl
optional_again fault f p (Some x) rest fits = rw (p.again x rest fits) refl

optional_takes : {A : Type 0} (fault : Fault) (f : Form A) → IsExact f → (octets : List ℕ) (value : Option A) (rest : List ℕ) → AreOctets octets → option_read fault f.read octets ≡ Ok (value, rest) → Takes (optional fault f) octets value rest
unfolding optional
optional_takes fault f p [] value rest fits e = absurd cc
optional_takes {A = A} fault f p (zero ∷ octets) value rest fits e =
    subst (λ (y : Option A × List ℕ). Takes (optional fault f) (0 ∷ octets) y.0 y.1) (ok_is (None, octets) (value, rest) e) (record { parts = refl; rest_fits = AreOctets-rest 0 octets fits; fits = tt })
optional_takes {A = A} fault f p (suc zero ∷ octets) value rest fits e =
    let a = bind_ok (f.read octets) (λ a. Ok (Some a.0, a.1)) (value, rest) e in
    let t = p.takes octets a.0.0 a.0.1 (AreOctets-rest 1 octets fits) a.1 in
    subst (λ (y : Option A × List ℕ). Takes (optional fault f) (1 ∷ octets) y.0 y.1) (ok_is (Some a.0.0, a.0.1) (value, rest) a.2) (record { parts = ap (λ (s : List ℕ). 1 ∷ s) t.parts; rest_fits = t.rest_fits; fits = t.fits })
optional_takes fault f p (suc (suc other) ∷ octets) value rest fits e = absurd cc

pub optional_exact : {A : Type 0} (fault : Fault) (f : Form A) → IsExact f → IsExact (optional fault f)
unfolding optional
optional_exact fault f p = record { again = optional_again fault f p; takes = optional_takes fault f p }

-- ---- octets

pub number_fits : (n x : ℕ) → x < 256 ^ n → (number n).Fits x
unfolding number
number_fits n x lt = lt

pub fits_number : (n x : ℕ) → (number n).Fits x → x < 256 ^ n
unfolding number
fits_number n x lt = lt

counted_again : (value rest : List ℕ) → length value < 256 ^ 8 → counted.read (counted.spell value ++ rest) ≡ Ok (value, rest)
unfolding counted
counted_again value rest lt =
    let long : ltb (length (value ++ rest)) (length value) ≡ false = le-ltb (length (value ++ rest)) (length value) (omega (arith, length-append value rest)) in
    let size : (number 8).read ((number 8).spell (length value) ++ (value ++ rest)) ≡ Ok (length value, value ++ rest) = (number_exact 8).again (length value) (value ++ rest) (number_fits 8 (length value) lt) in
    ap counted.read (append_assoc ((number 8).spell (length value)) value rest) ∙ rw (size, long, take_at value rest (length value) refl, drop_at value rest (length value) refl) refl

counted_takes : (octets value rest : List ℕ) → AreOctets octets → counted.read octets ≡ Ok (value, rest) → Takes counted octets value rest
unfolding counted
counted_takes octets value rest fits e =
    let n = bind_ok ((number 8).read octets) (λ n. cond (ltb (length n.1) n.0) (Err Short) (Ok (take n.0 n.1, drop n.0 n.1))) (value, rest) e in
    let t = (number_exact 8).takes octets n.0.0 n.0.1 fits n.1 in
    let g = guard_ok (ltb (length n.0.1) n.0.0) Short (take n.0.0 n.0.1, drop n.0.0 n.0.1) (value, rest) n.2 in
    let long : n.0.0 ≤ length n.0.1 = ltb-false (length n.0.1) n.0.0 g.0 in
    let len : n.0.0 ≡ length (take n.0.0 n.0.1) = omega (arith, length-take n.0.0 n.0.1) in
    let small : n.0.0 < 256 ^ 8 = fits_number 8 n.0.0 t.fits in
    let parts : octets ≡ ((number 8).spell (length (take n.0.0 n.0.1)) ++ take n.0.0 n.0.1) ++ drop n.0.0 n.0.1 =
    t.parts ∙ ap (λ (s : List ℕ). (number 8).spell n.0.0 ++ s) (sym (take-append-drop n.0.0 n.0.1)) ∙ sym (append_assoc ((number 8).spell n.0.0) (take n.0.0 n.0.1) (drop n.0.0 n.0.1)) ∙ ap (λ (k : ℕ). ((number 8).spell k ++ take n.0.0 n.0.1) ++ drop n.0.0 n.0.1) len in
    subst (λ (y : List ℕ × List ℕ). Takes counted octets y.0 y.1) g.1 (record { parts = parts; rest_fits = AreOctets-drop n.0.0 n.0.1 t.rest_fits; fits = subst (λ (k : ℕ). k < 256 ^ 8) len small })

pub counted_exact : IsExact counted
unfolding counted
counted_exact = record { again = counted_again; takes = counted_takes }

-- ---- values one after the other

so_many_again : {A : Type 0} (f : Form A) → IsExact f → (xs : List A) (rest : List ℕ) → AllFit f.Fits xs → so_many f.read (length xs) (all_spelled f.spell xs ++ rest) ≡ Ok (xs, rest)
unfolding so_many
so_many_again f p [] rest fits = refl
so_many_again f p (x ∷ xs) rest fits =
    ap (so_many f.read (suc (length xs))) (append_assoc (f.spell x) (all_spelled f.spell xs) rest) ∙ rw (p.again x (all_spelled f.spell xs ++ rest) fits.0, so_many_again f p xs rest fits.1) refl

pub record TakesMany {A : Type 0} (f : Form A) (n : ℕ) (octets : List ℕ) (xs : List A) (rest : List ℕ) : Type 0 where
  pub parts : octets ≡ all_spelled f.spell xs ++ rest
  pub count : n ≡ length xs
  pub rest_fits : AreOctets rest
  pub fits : AllFit f.Fits xs

so_many_takes : {A : Type 0} (f : Form A) → IsExact f → (n : ℕ) (octets : List ℕ) (xs : List A) (rest : List ℕ) → AreOctets octets → so_many f.read n octets ≡ Ok (xs, rest) → TakesMany f n octets xs rest
unfolding so_many
so_many_takes {A = A} f p zero octets xs rest fits e =
    subst (λ (y : List A × List ℕ). TakesMany f 0 octets y.0 y.1) (ok_is ([], octets) (xs, rest) e) (record { parts = refl; count = refl; rest_fits = fits; fits = tt })
so_many_takes {A = A} f p (suc n) octets xs rest fits e =
    let a = bind_ok (f.read octets) (λ first. so_many f.read n first.1 >>= λ others. Ok (first.0 ∷ others.0, others.1)) (xs, rest) e in
    let b = bind_ok (so_many f.read n a.0.1) (λ others. Ok (a.0.0 ∷ others.0, others.1)) (xs, rest) a.2 in
    let t = p.takes octets a.0.0 a.0.1 fits a.1 in
    let u = so_many_takes f p n a.0.1 b.0.0 b.0.1 t.rest_fits b.1 in
    let parts : octets ≡ (f.spell a.0.0 ++ all_spelled f.spell b.0.0) ++ b.0.1 =
    t.parts ∙ ap (λ (s : List ℕ). f.spell a.0.0 ++ s) u.parts ∙ sym (append_assoc (f.spell a.0.0) (all_spelled f.spell b.0.0) b.0.1) in
    subst (λ (y : List A × List ℕ). TakesMany f (suc n) octets y.0 y.1) (ok_is (a.0.0 ∷ b.0.0, b.0.1) (xs, rest) b.2) (record { parts = parts; count = ap suc u.count; rest_fits = u.rest_fits; fits = (t.fits, u.fits) })

listed_again : {A : Type 0} (f : Form A) → IsExact f → (xs : List A) (rest : List ℕ) → (listed f).Fits xs → (listed f).read ((listed f).spell xs ++ rest) ≡ Ok (xs, rest)
unfolding listed
listed_again f p xs rest fits =
    let size = (number_exact 8).again (length xs) (all_spelled f.spell xs ++ rest) (number_fits 8 (length xs) fits.0) in
    ap (listed f).read (append_assoc ((number 8).spell (length xs)) (all_spelled f.spell xs) rest) ∙ rw size (so_many_again f p xs rest fits.1)

listed_takes : {A : Type 0} (f : Form A) → IsExact f → (octets : List ℕ) (xs : List A) (rest : List ℕ) → AreOctets octets → (listed f).read octets ≡ Ok (xs, rest) → Takes (listed f) octets xs rest
unfolding listed
listed_takes f p octets xs rest fits e =
    let n = bind_ok ((number 8).read octets) (λ n. so_many f.read n.0 n.1) (xs, rest) e in
    let t = (number_exact 8).takes octets n.0.0 n.0.1 fits n.1 in
    let u = so_many_takes f p n.0.0 n.0.1 xs rest t.rest_fits n.2 in
    let parts : octets ≡ ((number 8).spell (length xs) ++ all_spelled f.spell xs) ++ rest =
    t.parts ∙ ap (λ (s : List ℕ). (number 8).spell n.0.0 ++ s) u.parts ∙ ap (λ (k : ℕ). (number 8).spell k ++ (all_spelled f.spell xs ++ rest)) u.count ∙ sym (append_assoc ((number 8).spell (length xs)) (all_spelled f.spell xs) rest) in
    record { parts = parts; rest_fits = u.rest_fits; fits = (subst (λ (k : ℕ). k < 256 ^ 8) u.count (fits_number 8 n.0.0 t.fits), u.fits) }

pub listed_exact : {A : Type 0} (f : Form A) → IsExact f → IsExact (listed f)
unfolding listed
listed_exact f p = record { again = listed_again f p; takes = listed_takes f p }
