-- Each AVP of an answer has a value of its kind.
use Rattle.std.proofs.Common.{◌≡◌, ℕ, ◌<◌, ◌^◌, List, [], ◌∷◌, ◌++◌, map, filter, not, Bool, true, false, cond, eqb, All, Option, Some, None, option_map, Ok, inl, inr, refl, sym, ap, subst, lit≤}
use Rattle.std.specs.Prelude.{IfSome, min, find, ◌||◌}
use Rattle.std.specs.Option.{unwrap_or}
use Rattle.std.specs.Str.{is_utf8, chars}
use lib.Utf8.{encode}
use Rattle.std.proofs.lemmas.Bool.{and_parts, eqb-true}
use Rattle.std.proofs.lemmas.List.Elements.{All-head, All-tail}
use Rattle.dia_base.specs.declared.number.Code.{Code}
use Rattle.dia_base.specs.Identity.{IsIdentity}
use Rattle.dia_base.specs.Codes.{auth_application_id, cc_request_number, cc_request_type, cc_session_failover, cc_service_specific_units, cc_time, cc_total_octets, check_balance_result, cost_information, credit_control_application, currency_code, exponent, final_unit_action, final_unit_indication, granted_service_unit, multiple_services, origin_host, origin_realm, proxy_info, rating_group, requested_action, result_code, service_identifier, session_id, unit_value, validity_time, value_digits}
use Rattle.dia_avp.specs.declared.avp.RawAvp.{RawAvp}
use Rattle.dia_avp.specs.AvpList.{AreOctets, raw_avp}
use Rattle.dia_avp.specs.AvpReading.{split_of}
use Rattle.dia_avp.proofs.ReadBack.{IsSpelling-written_list}
use Rattle.dia_avp.proofs.Splitting.{Reads-only}
use Rattle.dia_message.specs.declared.message.Message.{Message}
use Rattle.dia_message.specs.Header.{HasOctets}
use Rattle.dia_grammar.specs.Grammar.{is_among, is_of}
use Rattle.dia_grammar.specs.Profile.{RequestProfile}
use Rattle.cc_view.specs.declared.code.ResultCode.{ResultCode}
use Rattle.cc_view.specs.declared.code.ResultCode.TheVariants.{Success}
use Rattle.cc_view.specs.declared.reply.CcReply.{CcReply}
use Rattle.cc_view.specs.declared.reply.Cost.{Cost}
use Rattle.cc_view.specs.declared.reply.ServiceReply.{ServiceReply}
use Rattle.cc_view.specs.declared.request.CcRequest.{CcRequest}
use Rattle.cc_view.specs.declared.request.RequestKind.{RequestKind}
use Rattle.cc_view.specs.declared.request.RequestKind.TheVariants.{Initial, Update, Termination, Event}
use Rattle.cc_view.specs.Answer.{answer_avps, answer_to, bare_final_part, bare_granted_part, bare_in, bare_validity_part, command_part, cost_part, failover_part, final_part, granted_part, optional_u32, origin_part, service_avp, services_part, session_part, unit_avp, units_part}
use Rattle.cc_view.specs.Answer.Carried.{carriable_avps, proxies_in}
use Rattle.cc_view.specs.Answer.Fitting.{Fits, HasUnitCode}
use Rattle.cc_view.specs.Answer.Typed.{AreTypedInDepth, GrantsUnits, HasUnits, IsUnitCode, SplitTyped, is_group}
use Rattle.cc_view.specs.Answer.Typed.AreTypedInDepth.{none, value, group, carried}
use Rattle.cc_view.specs.Answer.Writing.{group_avp, octets_avp, spelling_of, i32_avp, i64_avp, u32_avp, u64_avp}
use Rattle.cc_view.specs.Request.Number.{kind_number}
use Rattle.cc_view.specs.RequestView.{view_under}
use Rattle.cc_view.specs.RequestView.Checking.{command_values}
use Rattle.cc_view.specs.RequestView.Content.{octets_in}
use Rattle.cc_view.specs.RequestView.Readable.{AreTyped, IsReadable, IsTyped}
use Rattle.cc_view.specs.ResultNumber.{number_of}
use Rattle.cc_view.proofs.Fitting.{Takes, takes-u32}
use Rattle.cc_view.proofs.FittingMessages.{answer-read_back}
use Rattle.cc_view.proofs.FittingUnits.{bare_has, cost_members, service_members, takes-cost_members, takes-granted_units, takes-members, takes-value, value_members}
use Rattle.cc_view.proofs.Readable.{viewed-readable}
use Rattle.cc_view.proofs.ViewedSessions.{session_part-viewed, viewed_avps}

-- ---- lists

append : (xs ys : List RawAvp) → AreTypedInDepth xs → AreTypedInDepth ys → AreTypedInDepth (xs ++ ys)
append [] ys none q = q
append (avp ∷ xs) ys (value _ _ plain is p) q = value avp (xs ++ ys) plain is (append xs ys p q)
append (avp ∷ xs) ys (group _ members _ is split inner p) q = group avp members (xs ++ ys) is split inner (append xs ys p q)
append (avp ∷ xs) ys (carried _ _ is p) q = carried avp (xs ++ ys) is (append xs ys p q)

alone : (avp : RawAvp) → is_group avp ≡ false → IsTyped avp → AreTypedInDepth (avp ∷ [])
alone avp plain is = value avp [] plain is none

grouped : (n code : ℕ) (members : List RawAvp) → is_group (group_avp code members) ≡ true → Takes n members → AreTypedInDepth members → AreTypedInDepth (group_avp code members ∷ [])
grouped n code members is takes inner =
    group (group_avp code members) members [] is (sym (Reads-only (spelling_of members) (Ok members) (IsSpelling-written_list members takes.each))) inner none

optional : (code : ℕ) → ((n : ℕ) → AreTypedInDepth (u32_avp code n ∷ [])) → (n : Option ℕ) → AreTypedInDepth (optional_u32 code n)
optional code each (Some n) = each n
optional code each None = none

-- ---- the units of a service

typed-unit : (kind : Code) (n : ℕ) → IsUnitCode kind.0 → AreTypedInDepth (unit_avp kind n ∷ [])
typed-unit kind n unit = by_code unit
  where
    -- the AVP for units of this code
    Typed : ℕ → Type 0
    Typed code = AreTypedInDepth (unit_avp (record { 0 = code }) n ∷ [])

    by_code : IsUnitCode kind.0 → Typed kind.0
    by_code (inl e) = subst Typed (sym e) (alone (u32_avp cc_time (min n 4294967295)) refl refl)
    by_code (inr (inl e)) = subst Typed (sym e) (alone (u64_avp cc_total_octets n) refl refl)
    by_code (inr (inr e)) = subst Typed (sym e) (alone (u64_avp cc_service_specific_units n) refl refl)

typed-granted : (kind : Option Code) (n : Option ℕ) → IfSome kind (λ k. k.0 < 2 ^ 32) → IfSome kind (λ k. IsUnitCode k.0) → AreTypedInDepth (granted_part kind n)
typed-granted (Some kind) (Some n) fits unit = grouped 16 granted_service_unit (unit_avp kind n ∷ []) refl (takes-granted_units kind n fits) (typed-unit kind n unit)
typed-granted (Some kind) None fits unit = none
typed-granted None n fits unit = none

typed-final : (last : Bool) → AreTypedInDepth (final_part last)
typed-final true = grouped 12 final_unit_indication (u32_avp final_unit_action 0 ∷ []) refl (takes-u32 final_unit_action 0 (lit≤ tt)) (alone (u32_avp final_unit_action 0) refl refl)
typed-final false = none

typed-validity : (n : Option ℕ) → AreTypedInDepth (optional_u32 validity_time n)
typed-validity n = optional validity_time (λ seconds. alone (u32_avp validity_time seconds) refl refl) n

typed-members : (service : ServiceReply) → HasUnitCode service → HasUnits service → AreTypedInDepth (service_members service)
typed-members service fits units =
    let granted = granted_part service.kind service.granted in
    let ident = optional_u32 service_identifier service.name.ident in
    let rating = optional_u32 rating_group service.name.group in
    let validity = optional_u32 validity_time service.validity in
    let code = u32_avp result_code (number_of service.code) ∷ [] in
    append (granted ++ ident ++ rating ++ validity ++ code) (final_part service.last)
    (append (granted ++ ident ++ rating ++ validity) code
    (append (granted ++ ident ++ rating) validity
    (append (granted ++ ident) rating
    (append granted ident (typed-granted service.kind service.granted fits units)
    (optional service_identifier (λ n. alone (u32_avp service_identifier n) refl refl) service.name.ident))
    (optional rating_group (λ n. alone (u32_avp rating_group n) refl refl) service.name.group))
    (typed-validity service.validity))
    (alone (u32_avp result_code (number_of service.code)) refl refl))
    (typed-final service.last)

service_more : (bare : Bool) (service : ServiceReply) (others : List ServiceReply) → AreTypedInDepth (service_avp service ∷ []) → AreTypedInDepth (map service_avp others)
    → AreTypedInDepth (map service_avp (cond (not bare) (service ∷ others) others))
service_more true service others p q = q
service_more false service others p q = append (service_avp service ∷ []) (map service_avp others) p q

typed-services : (services : List ServiceReply) → All HasUnitCode services → All HasUnits services → AreTypedInDepth (services_part services)
typed-services [] fits units = none
typed-services (service ∷ services) fits units =
    let here : HasUnitCode service = All-head HasUnitCode service services fits in
    service_more service.bare service (filter (λ other. not other.bare) services)
    (grouped 92 multiple_services (service_members service) refl (takes-members service here) (typed-members service here (All-head HasUnits service services units)))
    (typed-services services (All-tail HasUnitCode service services fits) (All-tail HasUnits service services units))

-- ---- the units of the command itself

typed-bare_granted : (bare : Option ServiceReply) → IfSome bare HasUnitCode → IfSome bare HasUnits → AreTypedInDepth (bare_granted_part bare)
typed-bare_granted (Some service) fits units = typed-granted service.kind service.granted fits units
typed-bare_granted None fits units = none

typed-bare_final : (bare : Option ServiceReply) → AreTypedInDepth (bare_final_part bare)
typed-bare_final (Some service) = typed-final service.last
typed-bare_final None = none

typed-bare_validity : (bare : Option ServiceReply) → AreTypedInDepth (bare_validity_part bare)
typed-bare_validity (Some service) = typed-validity service.validity
typed-bare_validity None = none

typed-cost : (cost : Option Cost) → AreTypedInDepth (cost_part cost)
typed-cost None = none
typed-cost (Some cost) =
    let digits = i64_avp value_digits cost.digits in
    let power = i32_avp exponent cost.exponent in
    let both : AreTypedInDepth (value_members cost) = value digits (power ∷ []) refl refl (alone power refl refl) in
    grouped 48 cost_information (cost_members cost) refl (takes-cost_members cost)
    (append (group_avp unit_value (value_members cost) ∷ []) (u32_avp currency_code cost.currency ∷ [])
    (grouped 28 unit_value (value_members cost) refl (takes-value cost) both)
    (alone (u32_avp currency_code cost.currency) refl refl))

typed-units : (reply : CcReply) → Fits reply → GrantsUnits reply → AreTypedInDepth (units_part reply)
typed-units reply fits units =
    let bare = bare_in reply.services in
    let granted = bare_granted_part bare in
    let services = services_part reply.services in
    let cost = cost_part reply.cost in
    let final = bare_final_part bare in
    let check = optional_u32 check_balance_result reply.check in
    append (granted ++ services ++ cost ++ final ++ check) (bare_validity_part bare)
    (append (granted ++ services ++ cost ++ final) check
    (append (granted ++ services ++ cost) final
    (append (granted ++ services) cost
    (append granted services (typed-bare_granted bare (bare_has HasUnitCode reply.services fits.codes) (bare_has HasUnits reply.services units)) (typed-services reply.services fits.codes units))
    (typed-cost reply.cost))
    (typed-bare_final bare))
    (optional check_balance_result (λ n. alone (u32_avp check_balance_result n) refl refl) reply.check))
    (typed-bare_validity bare)

-- ---- the Session-Id, which the view has read

abbrev value_or : Option RawAvp → List ℕ
value_or found = unwrap_or (option_map (λ avp. avp.value) found) []

session-typed : (avp : RawAvp) → is_of session_id avp ≡ true → IsTyped avp → IsTyped (octets_avp session_id avp.value)
session-typed avp is typed =
    let both = and_parts (eqb avp.vendor 0) (eqb avp.code session_id) is in
    subst (λ (v : ℕ). IsTyped (raw_avp session_id 64 v avp.value)) (eqb-true avp.vendor 0 both.0)
    (subst (λ (c : ℕ). IsTyped (raw_avp c 64 avp.vendor avp.value)) (eqb-true avp.code session_id both.1) typed)

no-session : IsTyped (octets_avp session_id [])
unfolding is_utf8 chars encode
no-session = refl

session_more : (b : Bool) (avp : RawAvp) (later : Option RawAvp) → is_of session_id avp ≡ b → (is_among command_values avp ≡ true → IsTyped avp) → IsTyped (octets_avp session_id (value_or later))
    → IsTyped (octets_avp session_id (value_or (cond b (Some avp) later)))
session_more true avp later is here behind = session-typed avp is (here (ap (λ (b : Bool). b || is_among (cc_request_type ∷ cc_request_number ∷ requested_action ∷ service_identifier ∷ []) avp) is))
session_more false avp later is here behind = behind

first-session : (avps : List RawAvp) → AreTyped command_values avps → IsTyped (octets_avp session_id (octets_in session_id avps))
first-session [] values = no-session
first-session (avp ∷ avps) values =
    let P = λ (x : RawAvp). is_among command_values x ≡ true → IsTyped x in
    session_more (is_of session_id avp) avp (find (is_of session_id) avps) refl (All-head P avp avps values) (first-session avps (All-tail P avp avps values))

typed-session : (profile : RequestProfile) (message : Message) (request : CcRequest) → view_under profile message ≡ Ok request → AreTypedInDepth (session_part request.session)
typed-session profile message request e =
    let readable : IsReadable message = viewed-readable profile message request e in
    let viewed = viewed_avps profile message request e in
    let body : split_of message.body ≡ Ok readable.avps = readable.body in
    let other : split_of message.body ≡ Ok viewed.0 = viewed.1 in
    let same : readable.avps ≡ viewed.0 = cc in
    let values : AreTyped command_values viewed.0 = subst (AreTyped command_values) same readable.values in
    let session : octets_in session_id viewed.0 ≡ request.session = ap (λ (r : CcRequest). r.session) viewed.3 in
    let typed : IsTyped (octets_avp session_id request.session) = subst (λ (octets : List ℕ). IsTyped (octets_avp session_id octets)) session (first-session viewed.0 values) in
    subst AreTypedInDepth (sym (session_part-viewed profile message request e)) (alone (octets_avp session_id request.session) refl typed)

-- ---- the command

typed-kind : (kind : RequestKind) → AreTypedInDepth (u32_avp cc_request_type (kind_number kind) ∷ [])
typed-kind Initial = alone (u32_avp cc_request_type 1) refl refl
typed-kind Update = alone (u32_avp cc_request_type 2) refl refl
typed-kind Termination = alone (u32_avp cc_request_type 3) refl refl
typed-kind Event = alone (u32_avp cc_request_type 4) refl refl

typed-failover : (kind : RequestKind) (code : ResultCode) → AreTypedInDepth (failover_part kind code)
typed-failover Initial Success = alone (u32_avp cc_session_failover 1) refl refl
typed-failover kind code = none

typed-command : (front realm : List ℕ) (request : CcRequest) (code : ResultCode) → AreTypedInDepth (session_part request.session) → AreTypedInDepth (command_part front realm request code)
typed-command front realm request code p =
    let session = session_part request.session in
    let result = u32_avp result_code (number_of code) ∷ [] in
    let origin = origin_part front realm in
    let application = u32_avp auth_application_id credit_control_application ∷ [] in
    let kind = u32_avp cc_request_type (kind_number request.kind) ∷ [] in
    let number = u32_avp cc_request_number request.number ∷ [] in
    append (session ++ result ++ origin ++ application ++ kind ++ number) (failover_part request.kind code)
    (append (session ++ result ++ origin ++ application ++ kind) number
    (append (session ++ result ++ origin ++ application) kind
    (append (session ++ result ++ origin) application
    (append (session ++ result) origin
    (append session result p (alone (u32_avp result_code (number_of code)) refl refl))
    (value (octets_avp origin_host front) (octets_avp origin_realm realm ∷ []) refl refl (alone (octets_avp origin_realm realm) refl refl)))
    (alone (u32_avp auth_application_id credit_control_application) refl refl))
    (typed-kind request.kind))
    (alone (u32_avp cc_request_number request.number) refl refl))
    (typed-failover request.kind code)

-- ---- what is carried back

proxy_more : (b : Bool) (avp : RawAvp) (others : List RawAvp) → is_of proxy_info avp ≡ b → AreTypedInDepth others → AreTypedInDepth (cond b (avp ∷ others) others)
proxy_more true avp others is p = carried avp others is p
proxy_more false avp others is p = p

typed-proxies : (avps : List RawAvp) → AreTypedInDepth (proxies_in avps)
typed-proxies [] = none
typed-proxies (avp ∷ avps) = proxy_more (is_of proxy_info avp) avp (proxies_in avps) refl (typed-proxies avps)

-- ---- the whole

pub answer-typed : (profile : RequestProfile) (front realm : List ℕ) (message : Message) (request : CcRequest) (reply : CcReply)
    → IsIdentity front → IsIdentity realm → HasOctets message.header → AreOctets message.body → view_under profile message ≡ Ok request → Fits reply → GrantsUnits reply
    → SplitTyped (answer_to front realm message request reply).body
answer-typed profile front realm message request reply p q header octets e fits units =
    let command = command_part front realm request reply.code in
    let proxies = proxies_in (carriable_avps (split_of message.body)) in
    let avps = answer_avps front realm message request reply in (
      avps,
      sym (Reads-only (answer_to front realm message request reply).body (Ok avps) (answer-read_back profile front realm message request reply p q header octets e fits).body),
      append (command ++ units_part reply) proxies
          (append command (units_part reply) (typed-command front realm request reply.code (typed-session profile message request e)) (typed-units reply fits units))
          (typed-proxies (carriable_avps (split_of message.body))),
    )
