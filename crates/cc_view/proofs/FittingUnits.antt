-- How many octets the parts of an answer take.
use Rattle.std.proofs.Common.{ℕ, ◌+◌, ◌*◌, ◌<◌, ◌≤◌, ◌^◌, ℤ, List, [], ◌∷◌, ◌++◌, length, map, filter, not, min, Bool, true, false, cond, All, Option, Some, None, arith, lit≤}
use Rattle.std.specs.Prelude.{IfSome}
use Rattle.std.specs.Int.{cast_unsigned, w32, w64}
use Rattle.std.proofs.lemmas.List.Elements.{All-head, All-tail}
use Rattle.dia_base.specs.declared.number.Code.{Code}
use Rattle.dia_base.specs.Codes.{origin_host, origin_realm, service_identifier, cc_time, check_balance_result, cost_information, currency_code, exponent, final_unit_action, final_unit_indication, granted_service_unit, multiple_services, rating_group, result_code, unit_value, validity_time, value_digits}
use Rattle.dia_avp.specs.declared.avp.RawAvp.{RawAvp}
use Rattle.cc_view.specs.declared.reply.CcReply.{CcReply}
use Rattle.cc_view.specs.declared.reply.Cost.{Cost}
use Rattle.cc_view.specs.declared.reply.ServiceReply.{ServiceReply}
use Rattle.cc_view.specs.Answer.{bare_final_part, bare_granted_part, bare_in, bare_validity_part, cost_part, final_part, granted_part, optional_u32, origin_part, service_avp, services_part, unit_avp, units_part}
use Rattle.cc_view.specs.Answer.Fitting.{Fits, HasUnitCode}
use Rattle.cc_view.specs.ResultNumber.{number_of}
use Rattle.cc_view.specs.Answer.Writing.{group_avp, i32_avp, i64_avp, octets_avp, u32_avp, u64_avp}
use Rattle.cc_view.proofs.Fitting.{Takes, takes-append, takes-group, takes-more, takes-nil, takes-octets, takes-optional, takes-u32, takes-u64}

pub takes-origin : (host realm : List ℕ) → length host ≤ 255 → length realm ≤ 255 → Takes 532 (origin_part host realm)
takes-origin host realm p q =
    takes-append 266 266 (octets_avp origin_host host ∷ []) (octets_avp origin_realm realm ∷ [])
    (takes-octets origin_host 255 host (lit≤ tt) p (lit≤ tt)) (takes-octets origin_realm 255 realm (lit≤ tt) q (lit≤ tt))

-- ---- one service

takes-unit : (b : Bool) (m code n : ℕ) → code < 2 ^ 32 → Takes 16 (cond b (u32_avp cc_time m) (u64_avp code n) ∷ [])
takes-unit true m code n fits = takes-more 12 16 (u32_avp cc_time m ∷ []) (lit≤ tt) (takes-u32 cc_time m (lit≤ tt))
takes-unit false m code n fits = takes-u64 code n fits

pub takes-granted_units : (kind : Code) (n : ℕ) → kind.0 < 2 ^ 32 → Takes 16 (unit_avp kind n ∷ [])
takes-granted_units kind n fits = takes-unit _ (min n 4294967295) kind.0 n fits

takes-granted : (kind : Option Code) (n : Option ℕ) → IfSome kind (λ k. k.0 < 2 ^ 32) → Takes 24 (granted_part kind n)
takes-granted (Some kind) (Some n) fits = takes-group granted_service_unit 16 (unit_avp kind n ∷ []) (lit≤ tt) (lit≤ tt) (takes-granted_units kind n fits).most
takes-granted (Some kind) None fits = takes-more 0 24 [] (lit≤ tt) takes-nil
takes-granted None n fits = takes-more 0 24 [] (lit≤ tt) takes-nil

takes-final : (last : Bool) → Takes 20 (final_part last)
takes-final true = takes-group final_unit_indication 12 (u32_avp final_unit_action 0 ∷ []) (lit≤ tt) (lit≤ tt) (takes-u32 final_unit_action 0 (lit≤ tt)).most
takes-final false = takes-more 0 20 [] (lit≤ tt) takes-nil

-- the members of its Multiple-Services-Credit-Control
abbrev pub service_members : ServiceReply → List RawAvp
service_members service =
    granted_part service.kind service.granted
    ++ optional_u32 service_identifier service.name.ident
    ++ optional_u32 rating_group service.name.group
    ++ optional_u32 validity_time service.validity
    ++ u32_avp result_code (number_of service.code) ∷ []
    ++ final_part service.last

pub takes-members : (service : ServiceReply) → HasUnitCode service → Takes 92 (service_members service)
takes-members service fits =
    let granted = granted_part service.kind service.granted in
    let ident = optional_u32 service_identifier service.name.ident in
    let group = optional_u32 rating_group service.name.group in
    let validity = optional_u32 validity_time service.validity in
    let code = u32_avp result_code (number_of service.code) ∷ [] in
    takes-append 72 20 (granted ++ ident ++ group ++ validity ++ code) (final_part service.last)
    (takes-append 60 12 (granted ++ ident ++ group ++ validity) code
    (takes-append 48 12 (granted ++ ident ++ group) validity
    (takes-append 36 12 (granted ++ ident) group
    (takes-append 24 12 granted ident (takes-granted service.kind service.granted fits) (takes-optional service_identifier service.name.ident (lit≤ tt)))
    (takes-optional rating_group service.name.group (lit≤ tt)))
    (takes-optional validity_time service.validity (lit≤ tt)))
    (takes-u32 result_code (number_of service.code) (lit≤ tt)))
    (takes-final service.last)

takes-service : (service : ServiceReply) → HasUnitCode service → Takes 100 (service_avp service ∷ [])
takes-service service fits = takes-group multiple_services 92 (service_members service) (lit≤ tt) (lit≤ tt) (takes-members service fits).most

-- ---- all services

service_more : (bare : Bool) (service : ServiceReply) (others : List ServiceReply) (n : ℕ) → HasUnitCode service → Takes (100 * n) (map service_avp others)
    → Takes (100 * (n + 1)) (map service_avp (cond (not bare) (service ∷ others) others))
service_more true service others n fits p = takes-more (100 * n) (100 * (n + 1)) (map service_avp others) (omega arith) p
service_more false service others n fits p =
    takes-more (100 + 100 * n) (100 * (n + 1)) (service_avp service ∷ map service_avp others) (omega arith)
    (takes-append 100 (100 * n) (service_avp service ∷ []) (map service_avp others) (takes-service service fits) p)

takes-services : (services : List ServiceReply) → All HasUnitCode services → Takes (100 * length services) (services_part services)
takes-services [] fits = takes-nil
takes-services (service ∷ services) fits =
    takes-more (100 * (length services + 1)) (100 * length (service ∷ services)) (services_part (service ∷ services)) (omega arith)
    (service_more service.bare service (filter (λ other. not other.bare) services) (length services) (All-head HasUnitCode service services fits) (takes-services services (All-tail HasUnitCode service services fits)))

-- ---- the service of the command's own units

-- it has what all have
pub bare_has : (P : ServiceReply → Type 0) (services : List ServiceReply) → All P services → IfSome (bare_in services) P
bare_has P [] all = tt
bare_has P (service ∷ services) all = found service.bare service (bare_in services) (All-head P service services all) (bare_has P services (All-tail P service services all))
  where
    found : (b : Bool) (service : ServiceReply) (later : Option ServiceReply) → P service → IfSome later P → IfSome (cond b (Some service) later) P
    found true service later p q = p
    found false service later p q = q

takes-bare_granted : (bare : Option ServiceReply) → IfSome bare HasUnitCode → Takes 24 (bare_granted_part bare)
takes-bare_granted (Some service) fits = takes-granted service.kind service.granted fits
takes-bare_granted None fits = takes-more 0 24 [] (lit≤ tt) takes-nil

takes-bare_final : (bare : Option ServiceReply) → Takes 20 (bare_final_part bare)
takes-bare_final (Some service) = takes-final service.last
takes-bare_final None = takes-more 0 20 [] (lit≤ tt) takes-nil

takes-bare_validity : (bare : Option ServiceReply) → Takes 12 (bare_validity_part bare)
takes-bare_validity (Some service) = takes-optional validity_time service.validity (lit≤ tt)
takes-bare_validity None = takes-more 0 12 [] (lit≤ tt) takes-nil

-- ---- costs

takes-i64 : (code : ℕ) (z : ℤ) → code < 2 ^ 32 → Takes 16 (i64_avp code z ∷ [])
takes-i64 code z fits = takes-u64 code (cast_unsigned w64 z) fits

takes-i32 : (code : ℕ) (z : ℤ) → code < 2 ^ 32 → Takes 12 (i32_avp code z ∷ [])
takes-i32 code z fits = takes-u32 code (cast_unsigned w32 z) fits

-- the members of a Unit-Value, and of a Cost-Information
abbrev pub value_members : Cost → List RawAvp
value_members cost = i64_avp value_digits cost.digits ∷ i32_avp exponent cost.exponent ∷ []

abbrev pub cost_members : Cost → List RawAvp
cost_members cost = group_avp unit_value (value_members cost) ∷ u32_avp currency_code cost.currency ∷ []

pub takes-value : (cost : Cost) → Takes 28 (value_members cost)
takes-value cost = takes-append 16 12 (i64_avp value_digits cost.digits ∷ []) (i32_avp exponent cost.exponent ∷ []) (takes-i64 value_digits cost.digits (lit≤ tt)) (takes-i32 exponent cost.exponent (lit≤ tt))

pub takes-cost_members : (cost : Cost) → Takes 48 (cost_members cost)
takes-cost_members cost =
    takes-append 36 12 (group_avp unit_value (value_members cost) ∷ []) (u32_avp currency_code cost.currency ∷ [])
    (takes-group unit_value 28 (value_members cost) (lit≤ tt) (lit≤ tt) (takes-value cost).most)
    (takes-u32 currency_code cost.currency (lit≤ tt))

takes-cost : (cost : Option Cost) → Takes 56 (cost_part cost)
takes-cost None = takes-more 0 56 [] (lit≤ tt) takes-nil
takes-cost (Some cost) = takes-group cost_information 48 (cost_members cost) (lit≤ tt) (lit≤ tt) (takes-cost_members cost).most

-- ---- the whole

pub takes-units : (reply : CcReply) → Fits reply → Takes 3324 (units_part reply)
takes-units reply fits =
    let bare = bare_in reply.services in
    let granted = bare_granted_part bare in
    let services = services_part reply.services in
    let cost = cost_part reply.cost in
    let final = bare_final_part bare in
    let check = optional_u32 check_balance_result reply.check in
    takes-append 3312 12 (granted ++ services ++ cost ++ final ++ check) (bare_validity_part bare)
    (takes-append 3300 12 (granted ++ services ++ cost ++ final) check
    (takes-append 3280 20 (granted ++ services ++ cost) final
    (takes-append 3224 56 (granted ++ services) cost
    (takes-append 24 3200 granted services (takes-bare_granted bare (bare_has HasUnitCode reply.services fits.codes))
    (takes-more (100 * length reply.services) 3200 services (omega (arith, fits.few)) (takes-services reply.services fits.codes)))
    (takes-cost reply.cost))
    (takes-bare_final bare))
    (takes-optional check_balance_result reply.check (lit≤ tt)))
    (takes-bare_validity bare)
