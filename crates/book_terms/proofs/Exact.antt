-- The form of terms is exact: terms are read back, and two terms that spell the same are the same.
use Rattle.std.proofs.Common.{◌≡◌, ℕ, ◌^◌, cond, eqb, List, [], ◌++◌, length, Result, Ok, Err, sym, ap, subst, ◌∙◌}
use Rattle.std.specs.Prelude.{IfOk}
use Rattle.std.proofs.lemmas.Bool.{eqb-true}
use Rattle.std.proofs.lemmas.List.{append-nil, nil_from_length}
use Rattle.cc_book.specs.declared.terms.Terms.{Terms}
use Rattle.book_rows.specs.About.{whole}
use Rattle.book_rows.specs.declared.fault.Fault.TheVariants.{LeftOver}
use Rattle.book_rows.specs.declared.fault.ReadError.{ReadError}
use Rattle.book_rows.specs.Form.{Gives, both, listed, number}
use Rattle.book_rows.specs.TermsParts.{account, small, tariffs}
use Rattle.book_rows.proofs.AboutExact.{whole_again}
use Rattle.book_rows.proofs.Exact.{IsExact, bind_ok, both_exact, checked_exact, listed_exact, number_exact, ok_is, test_ok}
use Rattle.book_rows.proofs.Octets.{AreOctets}
use Rattle.book_rows.proofs.TermsPartsExact.{account_exact, small_exact, tariffs_exact}
use Rattle.book_terms.specs.Terms.{terms, terms_of, terms_parts}

terms_exact : IsExact terms
unfolding terms
terms_exact =
    let f3 = both tariffs (listed account) in
    let p3 : IsExact f3 = both_exact tariffs (listed account) tariffs_exact (listed_exact account account_exact) in
    let f2 = both (number 4) f3 in
    let p2 : IsExact f2 = both_exact (number 4) f3 (number_exact 4) p3 in
    let f1 = both (small (2 ^ 31)) f2 in
    let p1 : IsExact f1 = both_exact (small (2 ^ 31)) f2 (small_exact (2 ^ 31)) p2 in
    checked_exact (both (number 4) f1) terms_of terms_parts (both_exact (number 4) f1 (number_exact 4) p1)
    (λ x t e. ap terms_parts (ok_is (record { accounts = x.1.1.1.1; closed = []; tariffs = x.1.1.1.0; validity = x.1.1.0; money = record { currency = x.0; exponent = x.1.0 } }) t e))

pub terms_again : (t : Terms) → terms.Fits t → whole terms (terms.spell t) ≡ Ok t
terms_again = whole_again terms terms_exact

pub spelled_once : (a b : Terms) → terms.Fits a → terms.Fits b → terms.spell a ≡ terms.spell b → a ≡ b
spelled_once a b p q e = ok_is a b (sym (terms_again a p) ∙ ap (whole terms) e ∙ terms_again b q)

terms_take : (octets : List ℕ) (t : Terms) → AreOctets octets → whole terms octets ≡ Ok t → (octets ≡ terms.spell t) × terms.Fits t
unfolding whole
terms_take octets t fits e =
    let a = bind_ok (terms.read octets) (λ x. cond (eqb (length x.1) 0) (Ok x.0) (Err LeftOver)) t e in
    let taken = terms_exact.takes octets a.0.0 a.0.1 fits a.1 in
    let g = test_ok (eqb (length a.0.1) 0) LeftOver a.0.0 t a.2 in
    let nothing : a.0.1 ≡ [] = nil_from_length a.0.1 (eqb-true (length a.0.1) 0 g.0) in
    let all : octets ≡ terms.spell a.0.0 = taken.parts ∙ ap (λ (rest : List ℕ). terms.spell a.0.0 ++ rest) nothing ∙ append-nil (terms.spell a.0.0) in
    subst (λ (x : Terms). (octets ≡ terms.spell x) × terms.Fits x) g.1 (all, taken.fits)

pub is_found : (octets : List ℕ) (r : Result Terms ReadError) → AreOctets octets → Gives (λ terms. terms) r (whole terms octets) → IfOk r (λ t. (octets ≡ terms.spell t) × terms.Fits t)
is_found octets (Ok t) fits given = terms_take octets t fits given
is_found octets (Err e) fits given = tt
