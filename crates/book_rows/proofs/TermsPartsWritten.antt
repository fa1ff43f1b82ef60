-- Accounts, tariffs and changes of terms, written part by part.
use Rattle.std.proofs.Common.{◌≡◌, ℕ, ◌^◌, List, length, None, refl, ap}
use Rattle.std.specs.Prelude.{true, ℤ}
use Rattle.cc_book.specs.declared.account.Account.{Account}
use Rattle.cc_book.specs.declared.terms_change.TermsChange.{TermsChange}
use Rattle.cc_rating.specs.declared.tariff.Tariff.{Tariff}
use Rattle.cc_rating.specs.declared.tariff.UnitKind.{UnitKind}
use Rattle.cc_rating.specs.declared.tariff.UnitKind.TheVariants.{Time, Octets, Units}
use Rattle.cc_rating.specs.Tariffs.{fault_of}
use Rattle.book_rows.specs.declared.fault.Fault.TheVariants.{BadFlag}
use Rattle.book_rows.specs.Form.{Adds, AddsAll, both, counted, listed, number, optional}
use Rattle.book_rows.specs.Parts.{is_small, signed, subscription}
use Rattle.book_rows.specs.TermsParts.{account, account_of, account_parts, change, change_of, change_parts, kind, kind_number, kind_of, small, small_of, tariff, tariff_of, tariff_parts, tariffs, tariffs_by, tariffs_of, the_number, the_tariffs}
use Rattle.book_rows.proofs.Repeated.{listed_added}
use Rattle.book_rows.proofs.Written.{both_added, checked_added}

pub small_added : (limit : ℕ) (value : ℤ) (old new : List ℕ) → is_small limit value ≡ true → Adds signed value old new → Adds (small limit) value old new
unfolding small
small_added limit value old new is added = checked_added signed (small_of limit) the_number value old new (rw is refl) added

pub kind_added : (value : UnitKind) (old new : List ℕ) → Adds (number 1) (kind_number value) old new → Adds kind value old new
unfolding kind
kind_added Time old new added = checked_added (number 1) kind_of kind_number Time old new refl added
kind_added Octets old new added = checked_added (number 1) kind_of kind_number Octets old new refl added
kind_added Units old new added = checked_added (number 1) kind_of kind_number Units old new refl added

pub tariff_added : (value : Tariff) {old a b c d e f new : List ℕ} → Adds (optional BadFlag (number 4)) value.group old a → Adds (optional BadFlag (number 4)) value.ident a b → Adds kind value.kind b c → Adds (number 8) value.block c d → Adds (number 8) value.price d e → Adds (number 8) value.quantum e f → Adds (number 8) value.greatest f new → Adds tariff value old new
unfolding tariff
tariff_added value {old = old} {new = new} p q r s t u v =
    checked_added (both (optional BadFlag (number 4)) (both (optional BadFlag (number 4)) (both kind (both (number 8) (both (number 8) (both (number 8) (number 8))))))) tariff_of tariff_parts value old new refl
    (both_added p (both_added q (both_added r (both_added s (both_added t (both_added u v))))))

pub tariffs_added : (xs : List Tariff) {old mid new : List ℕ} → fault_of xs ≡ None → Adds (number 8) (length xs) old mid → AddsAll tariff xs mid new → Adds tariffs xs old new
unfolding tariffs
tariffs_added xs {old = old} {mid = mid} {new = new} sound size all =
    checked_added (listed tariff) tariffs_of the_tariffs xs old new (ap (λ fault. tariffs_by fault xs) sound) (listed_added tariff xs old mid new size all)

pub account_added : (value : Account) {old a b new : List ℕ} → Adds (number 4) value.id_kind old a → Adds counted value.id a b → Adds (small (2 ^ 63)) value.opening b new → Adds account value old new
unfolding account
account_added value {old = old} {new = new} p q r =
    checked_added (both (number 4) (both counted (small (2 ^ 63)))) account_of account_parts value old new refl (both_added p (both_added q r))

pub change_added : (value : TermsChange) {old a b c new : List ℕ} → Adds (listed account) value.joining old a → Adds (listed subscription) value.closing a b
    → Adds (listed subscription) value.reopening b c → Adds (optional BadFlag tariffs) value.tariffs c new → Adds change value old new
unfolding change
change_added value {old = old} {new = new} p q r s =
    checked_added (both (listed account) (both (listed subscription) (both (listed subscription) (optional BadFlag tariffs)))) change_of change_parts value old new refl
    (both_added p (both_added q (both_added r s)))
