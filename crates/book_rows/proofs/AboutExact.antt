-- What a book is and where it stands: their forms are exact, and they are written part by part.
use Rattle.std.proofs.Common.{◌≡◌, ℕ, cond, eqb, List, [], ◌++◌, length, Result, Ok, Err, refl, sym, ap, subst, ◌∙◌}
use Rattle.std.proofs.lemmas.Bool.{eqb-true}
use Rattle.std.proofs.lemmas.List.{append-nil, nil_from_length}
use Rattle.book_rows.specs.declared.about.About.{About}
use Rattle.book_rows.specs.declared.about.Standing.{Standing}
use Rattle.book_rows.specs.declared.fault.Fault.TheVariants.{LeftOver, OtherFormat}
use Rattle.book_rows.specs.Form.{Adds, Form, both, checked, counted, number}
use Rattle.book_rows.specs.About.{about, about_of, about_parts, format, format_number, format_of, standing, standing_of, standing_parts, whole}
use Rattle.book_rows.proofs.Exact.{IsExact, both_exact, checked_exact, counted_exact, number_exact, ok_is, test_ok}
use Rattle.book_rows.proofs.Written.{both_added, checked_added}

format_exact : IsExact format
unfolding format
format_exact =
    checked_exact (number 4) format_of format_number (number_exact 4)
    (λ n one e. eqb-true n 1 (test_ok (eqb n 1) OtherFormat tt one e).0)

pub about_exact : IsExact about
unfolding about
about_exact =
    checked_exact (both format (both (number 16) counted)) about_of about_parts (both_exact format (both (number 16) counted) format_exact (both_exact (number 16) counted (number_exact 16) counted_exact))
    (λ x a e. ap about_parts (ok_is (record { identity = record { 0 = x.1.0 }; terms = x.1.1 }) a e))

pub standing_exact : IsExact standing
unfolding standing
standing_exact =
    checked_exact (both (number 8) (both (number 8) (number 16))) standing_of standing_parts (both_exact (number 8) (both (number 8) (number 16)) (number_exact 8) (both_exact (number 8) (number 16) (number_exact 8) (number_exact 16)))
    (λ x s e. ap standing_parts (ok_is (record { count = x.0; moment = record { 0 = x.1.0 }; sum = record { 0 = x.1.1 } }) s e))

-- what is spelled is read again
pub whole_again : {A : Type 0} (form : Form A) → IsExact form → (a : A) → form.Fits a → whole form (form.spell a) ≡ Ok a
unfolding whole
whole_again form exact a fits = ap (λ (octets : List ℕ). whole form octets) (sym (append-nil (form.spell a))) ∙ rw (exact.again a [] fits) refl

pub about_added : (value : About) {old a b new : List ℕ} → Adds (number 4) 1 old a → Adds (number 16) value.identity.0 a b → Adds counted value.terms b new → Adds about value old new
unfolding about format
about_added value {old = old} {a = a} {new = new} p q r =
    checked_added (both format (both (number 16) counted)) about_of about_parts value old new refl (both_added (checked_added (number 4) format_of format_number tt old a refl p) (both_added q r))

pub standing_added : (value : Standing) {old a b new : List ℕ} → Adds (number 8) value.count old a → Adds (number 8) value.moment.0 a b → Adds (number 16) value.sum.0 b new → Adds standing value old new
unfolding standing
standing_added value {old = old} {new = new} p q r =
    checked_added (both (number 8) (both (number 8) (number 16))) standing_of standing_parts value old new refl (both_added p (both_added q r))

pub spelled_from_none : {A : Type 0} (form : Form A) (a : A) (none new : List ℕ) → none ≡ [] → Adds form a none new → new ≡ form.spell a
spelled_from_none form a none new e added = added.spelled ∙ ap (λ (old : List ℕ). old ++ form.spell a) e
