-- The form of a row is exact: rows are read back, and two rows that spell the same are the same.
use Rattle.std.proofs.Common.{◌≡◌, ℕ, zero, suc, cond, eqb, List, [], ◌∷◌, ◌++◌, length, Result, Ok, Err, refl, sym, ap, subst, ◌∙◌}
use Rattle.std.proofs.lemmas.Bool.{eqb-true}
use Rattle.std.proofs.lemmas.List.{append-nil, nil_from_length}
use Rattle.book_rows.specs.declared.fault.Fault.TheVariants.{LeftOver}
use Rattle.std.specs.Prelude.{IfOk}
use Rattle.book_rows.specs.declared.fault.ReadError.{ReadError}
use Rattle.book_rows.specs.declared.row.Row.{Row}
use Rattle.book_rows.specs.declared.row.Step.{Step}
use Rattle.book_rows.specs.declared.row.Step.TheVariants.{Take, Sweep, ChangeTerms}
use Rattle.book_rows.specs.Form.{Gives, both, number}
use Rattle.book_rows.specs.Parts.{reply, request, signed}
use Rattle.book_rows.specs.TermsParts.{change}
use Rattle.book_rows.specs.Row.{body, row, row_by, row_of, row_parts, spelled, IsRow, step, step_read, taken, taken_of, taken_parts}
use Rattle.book_rows.proofs.Exact.{IsExact, Takes, bind_ok, both_exact, checked_exact, number_exact, ok_is, test_ok}
use Rattle.book_rows.proofs.Octets.{AreOctets, AreOctets-rest}
use Rattle.book_rows.proofs.PartsExact.{reply_exact, request_exact, signed_exact}
use Rattle.book_rows.proofs.TermsPartsExact.{change_exact}

taken_exact : IsExact taken
unfolding taken
taken_exact =
    checked_exact (both request (both reply signed)) taken_of taken_parts
    (both_exact request (both reply signed) request_exact (both_exact reply signed reply_exact signed_exact))
    (λ x t e. ap taken_parts (ok_is (record { request = x.0; reply = x.1.0; debit = x.1.1 }) t e))

step_again : (value : Step) (rest : List ℕ) → step.Fits value → step.read (step.spell value ++ rest) ≡ Ok (value, rest)
unfolding step
step_again Sweep rest fits = refl
step_again (Take t) rest fits = rw (taken_exact.again t rest fits) refl
step_again (ChangeTerms c) rest fits = rw (change_exact.again c rest fits) refl

step_takes : (octets : List ℕ) (value : Step) (rest : List ℕ) → AreOctets octets → step_read octets ≡ Ok (value, rest) → Takes step octets value rest
unfolding step
step_takes [] value rest fits e = absurd cc
step_takes (zero ∷ octets) value rest fits e =
    subst (λ (y : Step × List ℕ). Takes step (0 ∷ octets) y.0 y.1) (ok_is (Sweep, octets) (value, rest) e) (record { parts = refl; rest_fits = AreOctets-rest 0 octets fits; fits = tt })
step_takes (suc zero ∷ octets) value rest fits e =
    let a = bind_ok (taken.read octets) (λ a. Ok (Take a.0, a.1)) (value, rest) e in
    let t = taken_exact.takes octets a.0.0 a.0.1 (AreOctets-rest 1 octets fits) a.1 in
    subst (λ (y : Step × List ℕ). Takes step (1 ∷ octets) y.0 y.1) (ok_is (Take a.0.0, a.0.1) (value, rest) a.2) (record { parts = ap (λ (s : List ℕ). 1 ∷ s) t.parts; rest_fits = t.rest_fits; fits = t.fits })
step_takes (suc (suc zero) ∷ octets) value rest fits e =
    let a = bind_ok (change.read octets) (λ a. Ok (ChangeTerms a.0, a.1)) (value, rest) e in
    let t = change_exact.takes octets a.0.0 a.0.1 (AreOctets-rest 2 octets fits) a.1 in
    subst (λ (y : Step × List ℕ). Takes step (2 ∷ octets) y.0 y.1) (ok_is (ChangeTerms a.0.0, a.0.1) (value, rest) a.2) (record { parts = ap (λ (s : List ℕ). 2 ∷ s) t.parts; rest_fits = t.rest_fits; fits = t.fits })
step_takes (suc (suc (suc other)) ∷ octets) value rest fits e = absurd cc

step_exact : IsExact step
unfolding step
step_exact = record { again = step_again; takes = step_takes }

body_exact : IsExact body
unfolding body
body_exact = both_exact (number 8) (both (number 8) step) (number_exact 8) (both_exact (number 8) step (number_exact 8) step_exact)

row_exact : IsExact row
unfolding row
row_exact =
    checked_exact (both body (number 16)) row_by row_parts (both_exact body (number 16) body_exact (number_exact 16))
    (λ x r e. ap row_parts (ok_is (record { place = x.0.0; moment = record { 0 = x.0.1.0 }; step = x.0.1.1; sum = record { 0 = x.1 } }) r e))

pub row_again : (r : Row) → IsRow r → row_of (spelled r) ≡ Ok r
unfolding row_of
row_again r fits = ap row_of (sym (append-nil (spelled r))) ∙ rw (row_exact.again r [] fits) refl

pub row_takes : (octets : List ℕ) (r : Row) → AreOctets octets → row_of octets ≡ Ok r → (octets ≡ spelled r) × IsRow r
unfolding row_of
row_takes octets r fits e =
    let a = bind_ok (row.read octets) (λ x. cond (eqb (length x.1) 0) (Ok x.0) (Err LeftOver)) r e in
    let t = row_exact.takes octets a.0.0 a.0.1 fits a.1 in
    let g = test_ok (eqb (length a.0.1) 0) LeftOver a.0.0 r a.2 in
    let nothing : a.0.1 ≡ [] = nil_from_length a.0.1 (eqb-true (length a.0.1) 0 g.0) in
    let whole : octets ≡ spelled a.0.0 = t.parts ∙ ap (λ (rest : List ℕ). spelled a.0.0 ++ rest) nothing ∙ append-nil (spelled a.0.0) in
    subst (λ (x : Row). (octets ≡ spelled x) × IsRow x) g.1 (whole, t.fits)

pub spelled_once : (a b : Row) → IsRow a → IsRow b → spelled a ≡ spelled b → a ≡ b
spelled_once a b p q e = ok_is a b (sym (row_again a p) ∙ ap row_of e ∙ row_again b q)

pub is_found : (octets : List ℕ) (r : Result Row ReadError) → AreOctets octets → Gives (λ row. row) r (row_of octets) → IfOk r (λ row. (octets ≡ spelled row) × IsRow row)
is_found octets (Ok row) fits given = row_takes octets row fits given
is_found octets (Err e) fits given = tt
