-- Two beginnings of one history: the one begins the other, and what stands in the shorter one stands in the longer one.
use Rattle.std.proofs.Common.{◌≡◌, ◌⊎◌, inl, inr, ⊎_elim, ℕ, zero, suc, List, [], ◌∷◌, ◌++◌, Some, refl, ap, sym, subst, ◌∙◌, append_assoc}
use Rattle.std.specs.Prelude.{slice_get, take}
use mathlib.Core.List.{IsPrefix}
use Rattle.cc_book.specs.declared.entry.Entry.{Entry}
use Rattle.cc_book.specs.declared.terms.Terms.{Terms}
use Rattle.cc_book.specs.Taking.{Ledger}
use Rattle.cc_shared.specs.declared.logged.Logged.{Logged}
use Rattle.cc_shared.specs.declared.receipt.Receipt.{Receipt}
use Rattle.cc_shared.specs.History.{SharedLedger, book_at, entries_in}
use Rattle.cc_shared.specs.Receipts.{Fits, IsReceiptOf, StandTogether, Tells}
use Rattle.cc_shared.proofs.Histories.{entries_in-append}

-- ys goes on from xs
GoesOn : List Logged → List Logged → Type 0
GoesOn xs ys = (more : List Logged) × (ys ≡ xs ++ more)

goes_on : (x y : Logged) (xs ys : List Logged) → x ≡ y → GoesOn xs ys → GoesOn (x ∷ xs) (y ∷ ys)
unfolding GoesOn
goes_on x y xs ys same on = (on.0, cc (same, on.1))

one_begins_the_other : (xs ys all : List Logged) → IsPrefix xs all → IsPrefix ys all → GoesOn xs ys ⊎ GoesOn ys xs
unfolding GoesOn
one_begins_the_other [] ys all p q = inl (ys, refl)
one_begins_the_other (x ∷ xs) [] all p q = inr (x ∷ xs, refl)
one_begins_the_other (x ∷ xs) (y ∷ ys) [] p q = absurd (cc (p.1))
one_begins_the_other (x ∷ xs) (y ∷ ys) (a ∷ all) p q =
    let same : x ≡ y = cc (p.1, q.1) in
    ⊎_elim (λ (on : GoesOn xs ys). inl (goes_on x y xs ys same on)) (λ (on : GoesOn ys xs). inr (goes_on y x ys xs (sym same) on))
    (one_begins_the_other xs ys all (p.0, cc (p.1)) (q.0, cc (q.1)))

get_front : (xs ys : List Entry) (k : ℕ) (x : Entry) → slice_get xs k ≡ Some x → slice_get (xs ++ ys) k ≡ Some x
get_front [] ys k x e = absurd cc
get_front (z ∷ zs) ys zero x e = e
get_front (z ∷ zs) ys (suc k) x e = get_front zs ys k x e

take_front : (xs ys : List Entry) (k : ℕ) (x : Entry) → slice_get xs k ≡ Some x → take k xs ≡ take k (xs ++ ys)
take_front [] ys k x e = absurd cc
take_front (z ∷ zs) ys zero x e = refl
take_front (z ∷ zs) ys (suc k) x e = ap (λ (l : List Entry). z ∷ l) (take_front zs ys k x e)

fits_in_longer : (terms : Terms) (history more : List Entry) (receipt : Receipt) → Fits terms history receipt → Fits terms (history ++ more) receipt
fits_in_longer terms history more receipt fits = record {
  taken = fits.taken;
  at = record { moment = fits.at.moment; entry = get_front history more receipt.place _ fits.at.entry };
  told = subst (λ (h : List Entry). Tells terms h fits.taken receipt) (take_front history more receipt.place _ fits.at.entry) fits.told;
}

fits_behind :
    (opened : Ledger) (log later : List Logged) (receipt : Receipt) → GoesOn log later → Fits opened.terms (book_at opened log).history receipt
    → Fits opened.terms (book_at opened later).history receipt
unfolding GoesOn
fits_behind opened log later receipt on fits =
    let P : List Entry → Type 0 = λ h. Fits opened.terms h receipt in
    let longer : P ((opened.history ++ entries_in log) ++ entries_in on.0) = fits_in_longer opened.terms (opened.history ++ entries_in log) (entries_in on.0) receipt fits in
    let same : (opened.history ++ entries_in log) ++ entries_in on.0 ≡ opened.history ++ entries_in later =
    append_assoc opened.history (entries_in log) (entries_in on.0)
    ∙ ap (λ (es : List Entry). opened.history ++ es) (sym (entries_in-append log on.0) ∙ ap entries_in (sym on.1)) in
    subst P same longer

pub both_stand :
    (shared : SharedLedger) (one other : Receipt) (all : List Logged) → IsReceiptOf shared one → IsReceiptOf shared other
    → IsPrefix one.seen.log all → IsPrefix other.seen.log all → StandTogether shared one other
both_stand shared one other all this that p q =
    ⊎_elim
    (λ (on : GoesOn one.seen.log other.seen.log). record {
      log = other.seen.log;
      legal = that.stands.legal;
      this = fits_behind shared.opened one.seen.log other.seen.log one on this.stands.fits;
      that = that.stands.fits;
    })
    (λ (on : GoesOn other.seen.log one.seen.log). record {
      log = one.seen.log;
      legal = this.stands.legal;
      this = this.stands.fits;
      that = fits_behind shared.opened other.seen.log one.seen.log other on that.stands.fits;
    })
    (one_begins_the_other one.seen.log other.seen.log all p q)
