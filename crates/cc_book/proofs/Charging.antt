-- What entries charged.
use Rattle.std.proofs.Common.{◌≡◌, ℕ, zero, suc, ◌-◌, ◌<◌, List, [], ◌∷◌, ◌++◌, length, map, refl, ap, sym, ◌∙◌, cond, arith, slice_get}
use Rattle.std.specs.Prelude.{Bool}
use Rattle.std.proofs.lemmas.List.{length-map, map-append}
use Rattle.cc_book.specs.declared.charges.Charge.{Charge}
use Rattle.cc_book.specs.declared.entry.Entry.{Entry}
use Rattle.cc_book.specs.declared.terms.Terms.{Terms}
use Rattle.cc_book.specs.AccountMachine.{posting_of, postings_of, terms_of}
use Rattle.cc_book.specs.Charging.{charge_of, charges_of, is_charge_to, latest}
use Rattle.cc_book.proofs.Postings.{postings_of-length, postings_of-push}

-- a book without entries has charged nothing
pub charges-empty : (terms : Terms) → charges_of terms [] ≡ []
unfolding charges_of postings_of
charges-empty terms = refl

-- what is charged with one more entry
pub charges-push : (terms : Terms) (history : List Entry) (entry : Entry)
    → charges_of terms (history ++ entry ∷ [])
    ≡ charges_of terms history ++ charge_of (posting_of (terms_of terms history) (postings_of terms history) entry) ∷ []
unfolding charges_of
charges-push terms history entry =
    ap (map charge_of) (postings_of-push terms history entry)
    ∙ map-append charge_of (postings_of terms history) (posting_of (terms_of terms history) (postings_of terms history) entry ∷ [])

-- there are as many as entries
pub charges-long : (terms : Terms) (history : List Entry) → length (charges_of terms history) ≡ length history
unfolding charges_of
charges-long terms history = length-map (postings_of terms history) charge_of ∙ postings_of-length terms history

-- ---- the last that charged an account

-- none, where there are to be none
pub latest-none : (account : ℕ) (charges : List Charge) (place : ℕ) → latest account charges place 0 ≡ []
latest-none account charges zero = refl
latest-none account charges (suc place) = refl

latest-step : (account : ℕ) (charges : List Charge) (place most : ℕ) (b : Bool) → is_charge_to account (slice_get charges place) ≡ b
    → latest account charges (suc place) (suc most)
    ≡ cond b (place ∷ latest account charges place most) (latest account charges place (suc most))
latest-step account charges place most b is =
    ap (λ (b : Bool). cond b (place ∷ latest account charges place most) (latest account charges place (suc most))) is

-- whether the one before a place charged it decides
pub latest-next : (account : ℕ) (charges : List Charge) (place most : ℕ) (b : Bool) → 0 < place → 0 < most
    → is_charge_to account (slice_get charges (place - 1)) ≡ b
    → latest account charges place most
    ≡ cond b ((place - 1) ∷ latest account charges (place - 1) (most - 1)) (latest account charges (place - 1) most)
latest-next account charges place most b some more is =
    let below : place ≡ suc (place - 1) = omega (arith, some) in
    let fewer : most ≡ suc (most - 1) = omega (arith, more) in
    (λ i. latest account charges (below i) (fewer i))
    ∙ latest-step account charges (place - 1) (most - 1) b is
    ∙ (λ i. cond b ((place - 1) ∷ latest account charges (place - 1) (most - 1)) (latest account charges (place - 1) (sym fewer i)))
