-- A book as it was at a place of its history.
use Rattle.std.proofs.Common.{◌≡◌, ℕ, zero, suc, ◌+◌, ◌<◌, ◌≤◌, add-one, arith, Bool, true, false, cond, leb, List, [], ◌∷◌, ◌++◌, length, take, drop}
use Rattle.std.proofs.Common.{Some, Ok, Err, refl, sym, subst, ap, ◌∙◌}
use Rattle.std.specs.Prelude.{slice_get}
use Rattle.std.proofs.lemmas.Bool.{leb-true}
use Rattle.std.proofs.lemmas.List.{length-take-le}
use Rattle.dia_base.specs.declared.number.Moment.{Moment}
use Rattle.cc_book.specs.declared.book.BookRefusal.TheVariants.{Full}
use Rattle.cc_book.specs.declared.entry.Entry.{Entry}
use Rattle.cc_book.specs.declared.entry.Entry.TheVariants.{Sweep, ChangeTerms}
use Rattle.cc_book.specs.declared.terms.Terms.{Terms}
use Rattle.cc_book.specs.declared.terms_change.TermsChange.{TermsChange}
use Rattle.cc_book.specs.Changing.{after_change_with}
use Rattle.cc_book.specs.History.{IsLegal, ended_sessions}
use Rattle.cc_book.specs.Taking.{Ledger, after_sweep, after_sweep_with, answer_to_sweep, with_sweep}
use Rattle.cc_shared.specs.declared.receipt.Receipt.{Receipt}
use Rattle.cc_shared.specs.Receipts.{Fits, Tells}
use Rattle.cc_book.proofs.Changing.{change-made}
use Rattle.cc_shared.proofs.Truth.{legal_front}
use Rattle.front_core.specs.ChangingTerms.{after_change}
use Rattle.front_pool.specs.Charging.{as_of}

-- what stands around an entry of a list
pub record Around (xs : List Entry) (i : ℕ) (x : Entry) : Type 0 where
  pub after : List Entry
  pub is : xs ≡ take i xs ++ x ∷ after
  pub within : i < length xs
  pub next : take (suc i) xs ≡ take i xs ++ x ∷ []

pub around : (xs : List Entry) (i : ℕ) (x : Entry) → slice_get xs i ≡ Some x → Around xs i x
around [] i x e = absurd cc
around (y ∷ ys) zero x e =
    let same : y ≡ x = cc in
    record { after = ys; is = ap (λ (z : Entry). z ∷ ys) same; within = omega arith; next = ap (λ (z : Entry). z ∷ []) same }
around (y ∷ ys) (suc i) x e =
    let rest = around ys i x e in
    let less : i < length ys = rest.within in
    record {
      after = rest.after;
      is = ap (λ (zs : List Entry). y ∷ zs) rest.is;
      within = omega arith;
      next = ap (λ (zs : List Entry). y ∷ zs) rest.next;
    }

-- ---- a sweep

sweep_of : (ledger : Ledger) (moment : Moment) (ended : ℕ) → 0 < ended → length ledger.history < ledger.limit →
    after_sweep_with ledger moment (answer_to_sweep ledger ended) ≡ with_sweep ledger moment
sweep_of ledger moment zero some room = absurd (omega (arith, some))
sweep_of ledger moment (suc more) some room =
    ap (λ (b : Bool). after_sweep_with ledger moment (cond b (Err (Full ledger.limit)) (Ok (suc more))))
    (no_more (leb ledger.limit (length ledger.history)) refl)
  where
    no_more : (b : Bool) → leb ledger.limit (length ledger.history) ≡ b → leb ledger.limit (length ledger.history) ≡ false
    no_more true e = absurd (let full = leb-true ledger.limit (length ledger.history) e in omega (arith, full, room))
    no_more false e = e

pub sweep_goes : (book : Ledger) (place : ℕ) (moment : Moment) → IsLegal book.terms book.history → length book.history ≤ book.limit →
    slice_get book.history place ≡ Some (Sweep moment) → after_sweep (as_of book place) moment ≡ as_of book (place + 1)
sweep_goes book place moment legal within at =
    let a = around book.history place (Sweep moment) at in
    let before = take place book.history in
    let inside = a.within in
    let long : length before ≡ place = length-take-le place book.history (omega (arith, inside)) in
    let room : length before < book.limit = omega (arith, inside, long, within) in
    let more : take (place + 1) book.history ≡ before ++ Sweep moment ∷ [] = rw add-one a.next in
    sweep_of (as_of book place) moment (ended_sessions book.terms before moment) (legal.sweeps before a.after moment a.is) room
    ∙ ap (λ (h : List Entry). record book { history = h }) (sym more)

-- ---- a change of the terms

pub change_goes : (book : Ledger) (place : ℕ) (moment : Moment) (change : TermsChange) → IsLegal book.terms book.history → length book.history ≤ book.limit →
    slice_get book.history place ≡ Some (ChangeTerms moment change) → after_change (as_of book place) moment change ≡ as_of book (place + 1)
change_goes book place moment change legal within at =
    let a = around book.history place (ChangeTerms moment change) at in
    let before = take place book.history in
    let inside = a.within in
    let long : length before ≡ place = length-take-le place book.history (omega (arith, inside)) in
    let room : length before < book.limit = omega (arith, inside, long, within) in
    let more : take (place + 1) book.history ≡ before ++ ChangeTerms moment change ∷ [] = rw add-one a.next in
    ap (after_change_with (as_of book place) moment change) (change-made (as_of book place) change (legal.changes before a.after moment change a.is) room)
    ∙ ap (λ (h : List Entry). record book { history = h }) (sym more)

-- ---- a receipt that stands in a history stands in each beginning of it that is long enough

pub get_of_take : (xs : List Entry) (i n : ℕ) → i < n → slice_get (take n xs) i ≡ slice_get xs i
get_of_take xs i zero less = absurd (omega (arith, less))
get_of_take [] i (suc n) less = refl
get_of_take (x ∷ xs) zero (suc n) less = refl
get_of_take (x ∷ xs) (suc i) (suc n) less = get_of_take xs i n (omega (arith, less))

take_of_take : (xs : List Entry) (i n : ℕ) → i < n → take i (take n xs) ≡ take i xs
take_of_take xs i zero less = absurd (omega (arith, less))
take_of_take [] zero (suc n) less = refl
take_of_take [] (suc i) (suc n) less = refl
take_of_take (x ∷ xs) zero (suc n) less = refl
take_of_take (x ∷ xs) (suc i) (suc n) less = ap (λ (ys : List Entry). x ∷ ys) (take_of_take xs i n (omega (arith, less)))

pub fits_before : (terms : Terms) (history : List Entry) (receipt : Receipt) (place : ℕ) → receipt.place < place → Fits terms history receipt →
    Fits terms (take place history) receipt
fits_before terms history receipt place less fits = record {
  taken = fits.taken;
  at = record { moment = fits.at.moment; entry = get_of_take history receipt.place place less ∙ fits.at.entry };
  told = subst (λ (before : List Entry). Tells terms before fits.taken receipt) (sym (take_of_take history receipt.place place less)) fits.told;
}

parts : (xs : List Entry) (n : ℕ) → xs ≡ take n xs ++ drop n xs
parts [] zero = refl
parts [] (suc n) = refl
parts (x ∷ xs) zero = refl
parts (x ∷ xs) (suc n) = ap (λ (ys : List Entry). x ∷ ys) (parts xs n)

pub legal_before : (terms : Terms) (history : List Entry) (place : ℕ) → IsLegal terms history → IsLegal terms (take place history)
legal_before terms history place legal =
    legal_front terms (take place history) (drop place history) (subst (λ (h : List Entry). IsLegal terms h) (parts history place) legal)
