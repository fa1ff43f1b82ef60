-- The forms of the parts of a row are exact.
use Rattle.std.proofs.Common.{◌≡◌, ℕ, zero, suc, ◌^◌, Bool, true, false, ltb, List, [], ◌∷◌, None, Ok, refl, sym, ap, ◌∙◌}
use Rattle.std.specs.Prelude.{ℤ}
use Rattle.cc_view.specs.declared.request.Service.{Service}
use Rattle.cc_view.specs.declared.reply.Cost.{Cost}
use Rattle.cc_view.specs.Request.Number.{action_number, kind_number}
use Rattle.cc_view.specs.RequestView.Content.{are_within_limits}
use Rattle.cc_view.specs.ResultNumber.{number_of}
use Rattle.book_rows.specs.declared.fault.Fault.TheVariants.{BadFlag, OutOfRange, PastLimits, UnknownAction, UnknownRequestType, UnknownResultCode}
use Rattle.book_rows.specs.Form.{both, counted, listed, number, optional}
use Rattle.book_rows.specs.Parts.{action, action_of, actions, bool_number, bool_of, code, code_of, codes, cost, cost_by, cost_of, cost_parts, count, counts, flag, is_small, kind, kind_of, kinds, name, name_of, name_parts, reply, reply_of, reply_parts, request, request_of, request_parts, service, service_of, service_parts, service_reply, service_reply_of, service_reply_parts, services, services_of, signed, signed_by, signed_of, signed_parts, subscription, subscription_of, subscription_parts, sums, the_services, three_of, three_parts, unit, unit_number, unit_of}
use Rattle.book_rows.proofs.Exact.{IsExact, both_exact, checked_exact, counted_exact, listed_exact, number_exact, numbered_inverse, ok_is, optional_exact, test_ok}

bool_inverse : (n : ℕ) (b : Bool) → bool_of n ≡ Ok b → n ≡ bool_number b
bool_inverse zero true e = absurd cc
bool_inverse zero false e = refl
bool_inverse (suc zero) true e = refl
bool_inverse (suc zero) false e = absurd cc
bool_inverse (suc (suc n)) b e = absurd cc

pub flag_exact : IsExact flag
unfolding flag
flag_exact = checked_exact (number 1) bool_of bool_number (number_exact 1) bool_inverse

signed_back : (below : Bool) (n : ℕ) → signed_parts (signed_by below n) ≡ (below, n)
signed_back true n = refl
signed_back false n = refl

signed_inverse : (x : Bool × ℕ) (z : ℤ) → signed_of x ≡ Ok z → x ≡ signed_parts z
signed_inverse x z e = sym (signed_back x.0 x.1) ∙ ap signed_parts (test_ok (ltb x.1 (2 ^ 127)) OutOfRange (signed_by x.0 x.1) z e).1

pub signed_exact : IsExact signed
unfolding signed
signed_exact = checked_exact (both flag (number 16)) signed_of signed_parts (both_exact flag (number 16) flag_exact (number_exact 16)) signed_inverse

pub kind_exact : IsExact kind
unfolding kind
kind_exact = checked_exact (number 1) kind_of kind_number (number_exact 1) (numbered_inverse UnknownRequestType kind_number kinds)

pub action_exact : IsExact action
unfolding action
action_exact = checked_exact (number 1) action_of action_number (number_exact 1) (numbered_inverse UnknownAction action_number actions)

small_exact : IsExact (optional BadFlag (number 4))
small_exact = optional_exact BadFlag (number 4) (number_exact 4)

count_exact : IsExact count
count_exact = optional_exact BadFlag (number 8) (number_exact 8)

pub subscription_exact : IsExact subscription
unfolding subscription
subscription_exact =
    checked_exact (both (number 4) counted) subscription_of subscription_parts (both_exact (number 4) counted (number_exact 4) counted_exact)
    (λ x s e. ap subscription_parts (ok_is (record { kind = x.0; text = x.1 }) s e))

three_back : {A : Type 0} (none : A) (x : A × (A × A)) (xs : List A) → three_of x ≡ Ok xs → x ≡ three_parts none xs
three_back none x xs e = ap (three_parts none) (ok_is (x.0 ∷ x.1.0 ∷ x.1.1 ∷ []) xs e)

pub counts_exact : IsExact counts
unfolding counts
counts_exact =
    checked_exact (both count (both count count)) three_of (three_parts None)
    (both_exact count (both count count) count_exact (both_exact count count count_exact count_exact))
    (λ x xs e. three_back None x xs e)

pub sums_exact : IsExact sums
unfolding sums
sums_exact =
    let wide = number_exact 16 in
    checked_exact (both (number 16) (both (number 16) (number 16))) three_of (three_parts 0)
    (both_exact (number 16) (both (number 16) (number 16)) wide (both_exact (number 16) (number 16) wide wide))
    (λ x xs e. three_back 0 x xs e)

pub service_exact : IsExact service
unfolding service
service_exact =
    let asked = optional_exact BadFlag counts counts_exact in
    let tail = both_exact (optional BadFlag counts) sums asked sums_exact in
    let bare = both_exact flag (both (optional BadFlag counts) sums) flag_exact tail in
    let ident = both_exact (optional BadFlag (number 4)) (both flag (both (optional BadFlag counts) sums)) small_exact bare in
    let group = both_exact (optional BadFlag (number 4)) (both (optional BadFlag (number 4)) (both flag (both (optional BadFlag counts) sums))) small_exact ident in
    checked_exact (both (optional BadFlag (number 4)) (both (optional BadFlag (number 4)) (both flag (both (optional BadFlag counts) sums)))) service_of service_parts group
    (λ x s e. ap service_parts (ok_is (record { group = x.0; ident = x.1.0; bare = x.1.1.0; asked = x.1.1.1.0; used = x.1.1.1.1 }) s e))

services_inverse : (xs ys : List Service) → services_of xs ≡ Ok ys → xs ≡ the_services ys
services_inverse xs ys e = (test_ok (are_within_limits xs) PastLimits xs ys e).1

pub services_exact : IsExact services
unfolding services
services_exact = checked_exact (listed service) services_of the_services (listed_exact service service_exact) services_inverse

pub request_exact : IsExact request
unfolding request
request_exact =
    let wanted = optional BadFlag action in
    let f4 = both (listed subscription) services in
    let p4 : IsExact f4 = both_exact (listed subscription) services (listed_exact subscription subscription_exact) services_exact in
    let f3 = both wanted f4 in
    let p3 : IsExact f3 = both_exact wanted f4 (optional_exact BadFlag action action_exact) p4 in
    let f2 = both kind f3 in
    let p2 : IsExact f2 = both_exact kind f3 kind_exact p3 in
    let f1 = both (number 4) f2 in
    let p1 : IsExact f1 = both_exact (number 4) f2 (number_exact 4) p2 in
    checked_exact (both counted f1) request_of request_parts (both_exact counted f1 counted_exact p1)
    (λ x r e. ap request_parts (ok_is (record { session = x.0; number = x.1.0; kind = x.1.1.0; action = x.1.1.1.0; subscriptions = x.1.1.1.1.0; services = x.1.1.1.1.1 }) r e))

pub code_exact : IsExact code
unfolding code
code_exact = checked_exact (number 4) code_of number_of (number_exact 4) (numbered_inverse UnknownResultCode number_of codes)

pub unit_exact : IsExact unit
unfolding unit
unit_exact = checked_exact (number 4) unit_of unit_number (number_exact 4) (λ n c e. ap unit_number (ok_is (record { 0 = n }) c e))

cost_by_inverse : (digits exponent : Bool) (x : ℤ × (ℤ × ℕ)) (c : Cost) → cost_by digits exponent x ≡ Ok c → x ≡ cost_parts c
cost_by_inverse true true x c e = ap cost_parts (ok_is (record { digits = x.0; exponent = x.1.0; currency = x.1.1 }) c e)
cost_by_inverse true false x c e = absurd cc
cost_by_inverse false exponent x c e = absurd cc

cost_inverse : (x : ℤ × (ℤ × ℕ)) (c : Cost) → cost_of x ≡ Ok c → x ≡ cost_parts c
cost_inverse x c e = cost_by_inverse (is_small (2 ^ 63) x.0) (is_small (2 ^ 31) x.1.0) x c e

pub cost_exact : IsExact cost
unfolding cost
cost_exact =
    checked_exact (both signed (both signed (number 4))) cost_of cost_parts
    (both_exact signed (both signed (number 4)) signed_exact (both_exact signed (number 4) signed_exact (number_exact 4))) cost_inverse

pub name_exact : IsExact name
unfolding name
name_exact =
    checked_exact (both (optional BadFlag (number 4)) (optional BadFlag (number 4))) name_of name_parts
    (both_exact (optional BadFlag (number 4)) (optional BadFlag (number 4)) small_exact small_exact)
    (λ x n e. ap name_parts (ok_is (record { group = x.0; ident = x.1 }) n e))

pub service_reply_exact : IsExact service_reply
unfolding service_reply
service_reply_exact =
    let small = optional BadFlag (number 4) in
    let f5 = both small flag in
    let p5 : IsExact f5 = both_exact small flag small_exact flag_exact in
    let f4 = both count f5 in
    let p4 : IsExact f4 = both_exact count f5 count_exact p5 in
    let units = optional BadFlag unit in
    let f3 = both units f4 in
    let p3 : IsExact f3 = both_exact units f4 (optional_exact BadFlag unit unit_exact) p4 in
    let f2 = both code f3 in
    let p2 : IsExact f2 = both_exact code f3 code_exact p3 in
    let f1 = both flag f2 in
    let p1 : IsExact f1 = both_exact flag f2 flag_exact p2 in
    checked_exact (both name f1) service_reply_of service_reply_parts (both_exact name f1 name_exact p1)
    (λ x r e. ap service_reply_parts (ok_is (record { name = x.0; bare = x.1.0; code = x.1.1.0; kind = x.1.1.1.0; granted = x.1.1.1.1.0; validity = x.1.1.1.1.1.0; last = x.1.1.1.1.1.1 }) r e))

pub reply_exact : IsExact reply
unfolding reply
reply_exact =
    let price = optional BadFlag cost in
    let small = optional BadFlag (number 4) in
    let f2 = both price small in
    let p2 : IsExact f2 = both_exact price small (optional_exact BadFlag cost cost_exact) small_exact in
    let f1 = both (listed service_reply) f2 in
    let p1 : IsExact f1 = both_exact (listed service_reply) f2 (listed_exact service_reply service_reply_exact) p2 in
    checked_exact (both code f1) reply_of reply_parts (both_exact code f1 code_exact p1)
    (λ x r e. ap reply_parts (ok_is (record { code = x.0; services = x.1.0; cost = x.1.1.0; check = x.1.1.1 }) r e))
