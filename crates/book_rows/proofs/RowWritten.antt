-- A row, written part by part.
use Rattle.std.proofs.Common.{◌≡◌, ℕ, List, [], ◌∷◌, ◌++◌, refl, ap, ◌∙◌, append_assoc}
use Rattle.cc_book.specs.declared.terms_change.TermsChange.{TermsChange}
use Rattle.book_rows.specs.declared.row.Row.{Row}
use Rattle.book_rows.specs.declared.row.Step.{Step}
use Rattle.book_rows.specs.declared.row.Step.TheVariants.{Take, Sweep, ChangeTerms}
use Rattle.book_rows.specs.declared.row.Taken.{Taken}
use Rattle.book_rows.specs.Form.{Adds, Form, both, number}
use Rattle.book_rows.specs.Parts.{reply, request, signed}
use Rattle.book_rows.specs.Row.{IsRow, body, body_of, row, row_by, row_parts, spelled, step, taken, taken_of, taken_parts}
use Rattle.book_rows.specs.TermsParts.{change}
use Rattle.book_rows.proofs.Written.{both_added, checked_added}

pub taken_added : (value : Taken) {old a b new : List ℕ} → Adds request value.request old a → Adds reply value.reply a b → Adds signed value.debit b new → Adds taken value old new
unfolding taken
taken_added value {old = old} {new = new} p q r = checked_added (both request (both reply signed)) taken_of taken_parts value old new refl (both_added p (both_added q r))

pub sweep_added : (old new : List ℕ) → new ≡ old ++ 0 ∷ [] → Adds step Sweep old new
unfolding step
sweep_added old new e = record { spelled = e; fits = tt }

-- a value behind the octet of its kind
behind_kind : {A : Type 0} (kind : ℕ) (f : Form A) (value : A) (old mid new : List ℕ) → mid ≡ old ++ kind ∷ [] → Adds f value mid new → new ≡ old ++ kind ∷ f.spell value
behind_kind kind f value old mid new e added =
    added.spelled ∙ ap (λ (front : List ℕ). front ++ f.spell value) e ∙ append_assoc old (kind ∷ []) (f.spell value)

pub take_added : (value : Taken) {old mid new : List ℕ} → mid ≡ old ++ 1 ∷ [] → Adds taken value mid new → Adds step (Take value) old new
unfolding step
take_added value {old = old} {mid = mid} {new = new} e added = record { spelled = behind_kind 1 taken value old mid new e added; fits = added.fits }

pub change_terms_added : (value : TermsChange) {old mid new : List ℕ} → mid ≡ old ++ 2 ∷ [] → Adds change value mid new → Adds step (ChangeTerms value) old new
unfolding step
change_terms_added value {old = old} {mid = mid} {new = new} e added = record { spelled = behind_kind 2 change value old mid new e added; fits = added.fits }

pub body_added : (place moment : ℕ) (s : Step) {old a b new : List ℕ} → Adds (number 8) place old a → Adds (number 8) moment a b → Adds step s b new → Adds body (place, (moment, s)) old new
unfolding body
body_added place moment s p q r = both_added p (both_added q r)

row_added : (r : Row) (old mid new : List ℕ) → Adds body (body_of r) old mid → Adds (number 16) r.sum.0 mid new → Adds row r old new
unfolding row
row_added r old mid new p q = checked_added (both body (number 16)) row_by row_parts r old new refl (both_added p q)

pub row_spelled : (r : Row) (none mid new : List ℕ) → none ≡ [] → Adds body (body_of r) none mid → Adds (number 16) r.sum.0 mid new → new ≡ spelled r
row_spelled r none mid new e p q = (row_added r none mid new p q).spelled ∙ ap (λ (old : List ℕ). old ++ spelled r) e

pub row_fits : (r : Row) (old mid new : List ℕ) → Adds body (body_of r) old mid → Adds (number 16) r.sum.0 mid new → IsRow r
row_fits r old mid new p q = (row_added r old mid new p q).fits
