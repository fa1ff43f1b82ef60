-- The forms of accounts, tariffs and changes of terms are exact.
use Rattle.std.proofs.Common.{◌≡◌, ℕ, ◌^◌, List, Option, Some, None, Result, Ok, Err, ap}
use Rattle.std.specs.Prelude.{ℤ}
use Rattle.cc_rating.specs.declared.tariff.Tariff.{Tariff}
use Rattle.cc_rating.specs.declared.tariffs.TariffFault.{TariffFault}
use Rattle.cc_rating.specs.Tariffs.{fault_of}
use Rattle.book_rows.specs.declared.fault.Fault.TheVariants.{BadFlag, OutOfRange, UnknownKind}
use Rattle.book_rows.specs.Form.{both, counted, listed, number, optional}
use Rattle.book_rows.specs.Parts.{is_small, signed, subscription}
use Rattle.book_rows.specs.TermsParts.{account, account_of, account_parts, change, change_of, change_parts, kind, kind_number, kind_of, kinds, small, small_of, tariff, tariff_of, tariff_parts, tariffs, tariffs_by, tariffs_of, the_number, the_tariffs}
use Rattle.book_rows.proofs.Exact.{IsExact, both_exact, checked_exact, counted_exact, listed_exact, number_exact, numbered_inverse, ok_is, optional_exact, test_ok}
use Rattle.book_rows.proofs.PartsExact.{signed_exact, subscription_exact}

small_inverse : (limit : ℕ) (x z : ℤ) → small_of limit x ≡ Ok z → x ≡ the_number z
small_inverse limit x z e = (test_ok (is_small limit x) OutOfRange x z e).1

pub small_exact : (limit : ℕ) → IsExact (small limit)
unfolding small
small_exact limit = checked_exact signed (small_of limit) the_number signed_exact (small_inverse limit)

kind_exact : IsExact kind
unfolding kind
kind_exact = checked_exact (number 1) kind_of kind_number (number_exact 1) (numbered_inverse UnknownKind kind_number kinds)

tariff_exact : IsExact tariff
unfolding tariff
tariff_exact =
    let wide = number_exact 8 in
    let name = optional BadFlag (number 4) in
    let named : IsExact name = optional_exact BadFlag (number 4) (number_exact 4) in
    let f5 = both (number 8) (number 8) in
    let p5 : IsExact f5 = both_exact (number 8) (number 8) wide wide in
    let f4 = both (number 8) f5 in
    let p4 : IsExact f4 = both_exact (number 8) f5 wide p5 in
    let f3 = both (number 8) f4 in
    let p3 : IsExact f3 = both_exact (number 8) f4 wide p4 in
    let f2 = both kind f3 in
    let p2 : IsExact f2 = both_exact kind f3 kind_exact p3 in
    let f1 = both name f2 in
    let p1 : IsExact f1 = both_exact name f2 named p2 in
    checked_exact (both name f1) tariff_of tariff_parts (both_exact name f1 named p1)
    (λ x t e. ap tariff_parts (ok_is (record { group = x.0; ident = x.1.0; kind = x.1.1.0; block = x.1.1.1.0; price = x.1.1.1.1.0; quantum = x.1.1.1.1.1.0; greatest = x.1.1.1.1.1.1 }) t e))

tariffs_inverse_by : (fault : Option TariffFault) (xs ys : List Tariff) → tariffs_by fault xs ≡ Ok ys → xs ≡ the_tariffs ys
tariffs_inverse_by None xs ys e = ok_is xs ys e
tariffs_inverse_by (Some fault) xs ys e = absurd cc

tariffs_inverse : (xs ys : List Tariff) → tariffs_of xs ≡ Ok ys → xs ≡ the_tariffs ys
tariffs_inverse xs ys e = tariffs_inverse_by (fault_of xs) xs ys e

pub tariffs_exact : IsExact tariffs
unfolding tariffs
tariffs_exact = checked_exact (listed tariff) tariffs_of the_tariffs (listed_exact tariff tariff_exact) tariffs_inverse

pub account_exact : IsExact account
unfolding account
account_exact =
    let tail = both counted (small (2 ^ 63)) in
    let rest : IsExact tail = both_exact counted (small (2 ^ 63)) counted_exact (small_exact (2 ^ 63)) in
    checked_exact (both (number 4) tail) account_of account_parts (both_exact (number 4) tail (number_exact 4) rest)
    (λ x a e. ap account_parts (ok_is (record { id_kind = x.0; id = x.1.0; opening = x.1.1 }) a e))

pub change_exact : IsExact change
unfolding change
change_exact =
    let named = listed_exact subscription subscription_exact in
    let f3 = optional BadFlag tariffs in
    let p3 : IsExact f3 = optional_exact BadFlag tariffs tariffs_exact in
    let f2 = both (listed subscription) f3 in
    let p2 : IsExact f2 = both_exact (listed subscription) f3 named p3 in
    let f1 = both (listed subscription) f2 in
    let p1 : IsExact f1 = both_exact (listed subscription) f2 named p2 in
    checked_exact (both (listed account) f1) change_of change_parts (both_exact (listed account) f1 (listed_exact account account_exact) p1)
    (λ x c e. ap change_parts (ok_is (record { joining = x.0; closing = x.1.0; reopening = x.1.1.0; tariffs = x.1.1.1 }) c e))
