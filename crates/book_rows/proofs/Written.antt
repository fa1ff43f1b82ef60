-- What was written part by part is the spelling of the whole.
use Rattle.std.proofs.Common.{◌≡◌, ℕ, ◌^◌, ◌<◌, List, [], ◌∷◌, ◌++◌, length, Some, None, Result, Ok, refl, ap, subst, ◌∙◌, append_assoc}
use Rattle.std.specs.Prelude.{Bool, true, false, ℤ, pos, negsuc, nat_lt}
use Rattle.std.proofs.lemmas.Bool.{lt-ltb}
use Rattle.book_rows.specs.Parts.{bool_number, bool_of, flag, signed, signed_of, signed_parts}
use Rattle.book_rows.specs.declared.fault.Fault.{Fault}
use Rattle.book_rows.specs.Form.{Form, Adds, both, checked, counted, number, optional}
use Rattle.book_rows.proofs.Exact.{fits_number}

pub both_added : {A B : Type 0} {f : Form A} {g : Form B} {a : A} {b : B} {old mid new : List ℕ} → Adds f a old mid → Adds g b mid new → Adds (both f g) (a, b) old new
both_added {f = f} {g = g} {a = a} {b = b} {old = old} first second = record {
  spelled = second.spelled ∙ ap (λ (front : List ℕ). front ++ g.spell b) first.spelled ∙ append_assoc old (f.spell a) (g.spell b);
  fits = (first.fits, second.fits);
}

pub checked_added : {A B : Type 0} (f : Form A) (to : A → Result B Fault) (of : B → A) (b : B) (old new : List ℕ) → to (of b) ≡ Ok b → Adds f (of b) old new → Adds (checked f to of) b old new
checked_added f to of b old new same added = record { spelled = added.spelled; fits = (added.fits, same) }

pub none_added : {A : Type 0} (fault : Fault) (f : Form A) (old new : List ℕ) → new ≡ old ++ 0 ∷ [] → Adds (optional fault f) None old new
unfolding optional
none_added fault f old new e = record { spelled = e; fits = tt }

pub some_added : {A : Type 0} (fault : Fault) {f : Form A} {a : A} {old mid new : List ℕ} → mid ≡ old ++ 1 ∷ [] → Adds f a mid new → Adds (optional fault f) (Some a) old new
unfolding optional
some_added fault {f = f} {a = a} {old = old} e added = record {
  spelled = added.spelled ∙ ap (λ (front : List ℕ). front ++ f.spell a) e ∙ append_assoc old (1 ∷ []) (f.spell a);
  fits = added.fits;
}

pub counted_added : (text old mid new : List ℕ) → Adds (number 8) (length text) old mid → new ≡ mid ++ text → Adds counted text old new
unfolding counted
counted_added text old mid new size e = record {
  spelled = e ∙ ap (λ (front : List ℕ). front ++ text) size.spelled ∙ append_assoc old ((number 8).spell (length text)) text;
  fits = fits_number 8 (length text) size.fits;
}

pub flag_added : (value : Bool) (old new : List ℕ) → Adds (number 1) (bool_number value) old new → Adds flag value old new
unfolding flag
flag_added true old new added = checked_added (number 1) bool_of bool_number true old new refl added
flag_added false old new added = checked_added (number 1) bool_of bool_number false old new refl added

signed_fits : (value : ℤ) → (signed_parts value).1 < 2 ^ 127 → signed_of (signed_parts value) ≡ Ok value
signed_fits (pos n) lt = let test : nat_lt n (2 ^ 127) ≡ true = lt-ltb n (2 ^ 127) lt in rw test refl
signed_fits (negsuc n) lt = let test : nat_lt n (2 ^ 127) ≡ true = lt-ltb n (2 ^ 127) lt in rw test refl

pub signed_added : (value : ℤ) (parts : Bool × ℕ) (old mid new : List ℕ) → parts ≡ signed_parts value → parts.1 < 2 ^ 127 → Adds flag parts.0 old mid → Adds (number 16) parts.1 mid new → Adds signed value old new
unfolding signed
signed_added value parts old mid new e lt below size =
    let whole : Adds (both flag (number 16)) (signed_parts value) old new = subst (λ (x : Bool × ℕ). Adds (both flag (number 16)) x old new) e (both_added below size) in
    checked_added (both flag (number 16)) signed_of signed_parts value old new (signed_fits value (subst (λ (x : Bool × ℕ). x.1 < 2 ^ 127) e lt)) whole
