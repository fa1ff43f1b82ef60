-- The units of an answer, as they are written one behind the other.
use Rattle.std.proofs.Common.{◌≡◌, ℕ, ◌≤◌, ℤ, List, [], ◌∷◌, ◌++◌, min, Bool, true, false, cond, eqb, Option, Some, sym, ap, ◌∙◌, arith}
use Rattle.std.proofs.lemmas.Bool.{leb-true}
use Rattle.dia_base.specs.declared.number.Code.{Code}
use Rattle.dia_avp.specs.declared.avp.RawAvp.{RawAvp}
use Rattle.dia_avp.specs.AvpList.{length_of}
use Rattle.dia_base.specs.Codes.{cc_time, cost_information, currency_code, exponent, failed_avp, granted_service_unit, multiple_services, rating_group, result_code, service_identifier, unit_value, validity_time, value_digits}
use Rattle.cc_view.specs.declared.reply.Cost.{Cost}
use Rattle.cc_view.specs.declared.reply.ServiceReply.{ServiceReply}
use Rattle.cc_view.specs.Answer.{final_part, granted_part, optional_u32, unit_avp}
use Rattle.cc_view.specs.Answer.Writing.{group_avp, i32_avp, i64_avp, spelling_of, u32_avp, u64_avp}
use Rattle.cc_view.specs.Refusal.FailedAvp.{failed_part, is_copied}
use Rattle.cc_view.specs.ResultNumber.{number_of}
use Rattle.cc_view.proofs.Drafts.{added_as, six_added, spelled_len, spelled_len-final, spelled_len-granted, spelled_len-optional, spelled_len-service, spelled_len-u32, spelled_len-unit_avp, three_added, two_added}
use Rattle.cc_view.proofs.Fitting.{padding-small, spelled_len-cons}
use Rattle.cc_view.proofs.FittingUnits.{cost_members, service_members, value_members}

-- the members of a service's group, behind its header
pub service_filled : (d0 d1 d2 d3 d4 d5 d6 d7 : List ℕ) (service : ServiceReply) (code : ℕ)
    → d1 ≡ d0 ++ spelling_of (group_avp multiple_services [] ∷ [])
    → d2 ≡ d1 ++ spelling_of (granted_part service.kind service.granted)
    → d3 ≡ d2 ++ spelling_of (optional_u32 service_identifier service.name.ident)
    → d4 ≡ d3 ++ spelling_of (optional_u32 rating_group service.name.group)
    → d5 ≡ d4 ++ spelling_of (optional_u32 validity_time service.validity)
    → d6 ≡ d5 ++ spelling_of (u32_avp result_code code ∷ [])
    → d7 ≡ d6 ++ spelling_of (final_part service.last)
    → code ≡ number_of service.code
    → d7 ≡ d0 ++ spelling_of (group_avp multiple_services [] ∷ service_members service)
service_filled d0 d1 d2 d3 d4 d5 d6 d7 service code e1 e2 e3 e4 e5 e6 e7 is_code =
    let granted = granted_part service.kind service.granted in
    let ident = optional_u32 service_identifier service.name.ident in
    let group = optional_u32 rating_group service.name.group in
    let validity = optional_u32 validity_time service.validity in
    let number = u32_avp result_code (number_of service.code) ∷ [] in
    let final = final_part service.last in
    two_added d0 d1 d7 (group_avp multiple_services [] ∷ []) (service_members service) e1
    (six_added d1 d2 d3 d4 d5 d6 d7 granted ident group validity number final e2 e3 e4 e5
    (added_as d5 d6 (u32_avp result_code code ∷ []) number (ap (λ (n : ℕ). u32_avp result_code n ∷ []) is_code) e6) e7)

pub service_fits : (service : ServiceReply) → spelled_len (service_members service) ≤ 92
service_fits service =
    spelled_len-service (granted_part service.kind service.granted) (optional_u32 service_identifier service.name.ident) (optional_u32 rating_group service.name.group)
    (optional_u32 validity_time service.validity) (u32_avp result_code (number_of service.code) ∷ []) (final_part service.last)
    (spelled_len-granted service.kind service.granted) (spelled_len-optional service_identifier service.name.ident) (spelled_len-optional rating_group service.name.group)
    (spelled_len-optional validity_time service.validity) (omega (arith, spelled_len-u32 result_code (number_of service.code))) (spelled_len-final service.last)

-- ---- the units of a grant

pub unit_of_time : (kind : Code) (n seconds : ℕ) → kind.0 ≡ cc_time → seconds ≡ min n 4294967295 → u32_avp cc_time seconds ≡ unit_avp kind n
unit_of_time kind n seconds is most = ap (λ (x : ℕ). u32_avp cc_time x) most ∙ ap (λ (x : ℕ). cond (eqb x cc_time) (u32_avp cc_time (min n 4294967295)) (u64_avp kind.0 n)) (sym is)

pub other_unit : (kind : Code) (n : ℕ) → eqb kind.0 cc_time ≡ false → u64_avp kind.0 n ≡ unit_avp kind n
other_unit kind n other = ap (λ (b : Bool). cond b (u32_avp cc_time (min n 4294967295)) (u64_avp kind.0 n)) (sym other)

pub unit_fits : (kind : Code) (n : ℕ) → spelled_len (unit_avp kind n ∷ []) ≤ 16
unit_fits kind n = spelled_len-unit_avp _ (min n 4294967295) kind.0 n

pub granted_by : (of : Option Code) (granted : Option ℕ) (kind : Code) (n : ℕ) → of ≡ Some kind → granted ≡ Some n → group_avp granted_service_unit (unit_avp kind n ∷ []) ∷ [] ≡ granted_part of granted
granted_by of granted kind n is some = sym (ap (λ (x : Option Code). granted_part x granted) is ∙ ap (λ (x : Option ℕ). granted_part (Some kind) x) some)

-- ---- costs

pub value_filled : (d0 d1 d2 d3 : List ℕ) (cost : Cost) (digits power : ℤ) → d1 ≡ d0 ++ spelling_of (group_avp unit_value [] ∷ []) → d2 ≡ d1 ++ spelling_of (i64_avp value_digits digits ∷ [])
    → d3 ≡ d2 ++ spelling_of (i32_avp exponent power ∷ []) → digits ≡ cost.digits → power ≡ cost.exponent → d3 ≡ d0 ++ spelling_of (group_avp unit_value [] ∷ value_members cost)
value_filled d0 d1 d2 d3 cost digits power e1 e2 e3 is_digits is_power =
    three_added d0 d1 d2 d3 (group_avp unit_value [] ∷ []) (i64_avp value_digits cost.digits ∷ []) (i32_avp exponent cost.exponent ∷ []) e1
    (added_as d1 d2 (i64_avp value_digits digits ∷ []) (i64_avp value_digits cost.digits ∷ []) (ap (λ (z : ℤ). i64_avp value_digits z ∷ []) is_digits) e2)
    (added_as d2 d3 (i32_avp exponent power ∷ []) (i32_avp exponent cost.exponent ∷ []) (ap (λ (z : ℤ). i32_avp exponent z ∷ []) is_power) e3)

pub cost_filled : (d0 d1 d2 d3 : List ℕ) (cost : Cost) → d1 ≡ d0 ++ spelling_of (group_avp cost_information [] ∷ []) → d2 ≡ d1 ++ spelling_of (group_avp unit_value (value_members cost) ∷ [])
    → d3 ≡ d2 ++ spelling_of (u32_avp currency_code cost.currency ∷ []) → d3 ≡ d0 ++ spelling_of (group_avp cost_information [] ∷ cost_members cost)
cost_filled d0 d1 d2 d3 cost e1 e2 e3 = three_added d0 d1 d2 d3 (group_avp cost_information [] ∷ []) (group_avp unit_value (value_members cost) ∷ []) (u32_avp currency_code cost.currency ∷ []) e1 e2 e3

-- ---- the AVP at fault

pub copied_fits : (avp : RawAvp) → is_copied avp ≡ true → spelled_len (avp ∷ []) ≤ 8195
copied_fits avp copied = omega (arith, leb-true (length_of avp) 8192 copied, padding-small (length_of avp), spelled_len-cons avp [])

pub failed_by : (failed : Option RawAvp) (avp : RawAvp) → failed ≡ Some avp → is_copied avp ≡ true → group_avp failed_avp (avp ∷ []) ∷ [] ≡ failed_part failed
failed_by failed avp is copied = sym (ap failed_part is ∙ ap (λ (b : Bool). cond b (group_avp failed_avp (avp ∷ []) ∷ []) []) copied)
