-- A message that is read as a request is readable: nothing of it was refused.
use Rattle.std.proofs.Common.{◌≡◌, ℕ, Bool, true, false, ◌||◌, cond, eqb, List, [], ◌∷◌, All, Option, Some, None, option_map, Result, Ok, Err, refl, ap, sym, subst, ◌∙◌, arith}
use Rattle.std.specs.Prelude.{IsOk, is_some}
use Rattle.std.specs.List.{list_all}
use Rattle.std.specs.Option.{option_and_then, option_map_or, option_or}
use Rattle.std.specs.Result.{result_err}
use Rattle.std.specs.Str.{is_utf8}
use Rattle.std.proofs.lemmas.Bool.{and_parts, eqb-true}
use Rattle.std.proofs.lemmas.List.Elements.{All-cons, All-nil}
use Rattle.byteorder.specs.Endian.{big_number}
use Rattle.dia_base.specs.Codes.{multiple_services, requested_service_unit, subscription_id, used_service_unit}
use Rattle.dia_avp.specs.declared.avp.RawAvp.{RawAvp}
use Rattle.dia_avp.specs.declared.fault.AvpFault.{AvpFault}
use Rattle.dia_avp.specs.AvpReading.{split_of}
use Rattle.dia_dict.specs.declared.fault.DictFault.{DictFault}
use Rattle.dia_dict.specs.declared.fault.DictFault.TheVariants.{BadEnumerated, BadLength, BadUtf8, NoRow, OutOfMemory}
use Rattle.dia_dict.specs.declared.row.Kind.{Kind}
use Rattle.dia_dict.specs.declared.row.Kind.TheVariants.{Unsigned32, Unsigned64, Integer32, Integer64, Time, Enumerated, Utf8String, DiameterIdentity, OctetString, Address, Grouped}
use Rattle.dia_dict.specs.declared.value.Typed.{Typed}
use Rattle.dia_dict.specs.Dictionary.{Entry, row_of}
use Rattle.dia_dict.specs.Reading.{reading_by, unless}
use Rattle.dia_dict.specs.Values.{content_fault, has_length, in_range, value_fault, value_of}
use Rattle.dia_message.specs.declared.message.Message.{Message}
use Rattle.dia_grammar.specs.Grammar.{is_among, is_of, missing_of, second_of, unknown_of}
use Rattle.dia_grammar.specs.Profile.{RequestProfile}
use Rattle.cc_view.specs.declared.code.ResultCode.TheVariants.{AvpOccursTooManyTimes, AvpUnsupported, UnableToComply}
use Rattle.cc_view.specs.declared.refusal.Refusal.{Refusal}
use Rattle.cc_view.specs.declared.request.CcRequest.{CcRequest}
use Rattle.cc_view.specs.Answer.Carried.{carries_too_much}
use Rattle.cc_view.specs.Refusal.{avps_by, avps_of, grammar_refusal, refusal_at, refusal_for_missing, refusal_with, unless_refused}
use Rattle.cc_view.specs.RequestView.{request_refusal, view_under, view_of_list}
use Rattle.cc_view.specs.RequestView.Checking.{command_values, count_codes, fault_refusal, first_refusal, group_refusal, groups_refusal, group_values, inner_group_refusal, inner_refusal, is_units, members_refusal, service_codes, service_members_refusal, service_refusal, subscription_codes, subscription_refusal, tested_in, units_refusal, value_refusal, value_refusal_among, values_refusal}
use Rattle.cc_view.specs.RequestView.Counting.{counted}
use Rattle.cc_view.specs.RequestView.Content.{are_within_limits, content_of, request_in, services_in}
use Rattle.cc_view.specs.RequestView.Readable.{AreTyped, HasTypedMembers, HaveTypedUnits, IsReadable, IsTyped, IsTypedService}
use Rattle.cc_view.proofs.Reading.{unlike}
use Rattle.cc_view.proofs.ViewedSessions.{unrefused, viewed}
use Rattle.cc_view.proofs.WithinLimits.{within_limits}

-- ---- one test after the other, and none refuses

pub none-first : (a b : Option Refusal) → option_or a b ≡ None → a ≡ None
none-first None b e = refl
none-first (Some refusal) b e = absurd cc

none-next : (a b : Option Refusal) → option_or a b ≡ None → b ≡ None
none-next None b e = e
none-next (Some refusal) b e = absurd cc

each-passes : (test : RawAvp → Option Refusal) (P : RawAvp → Type 0) → ((avp : RawAvp) → test avp ≡ None → P avp) → (avps : List RawAvp) → first_refusal test avps ≡ None → All P avps
each-passes test P holds [] e = All-nil P
each-passes test P holds (avp ∷ avps) e =
    All-cons P avp avps (holds avp (none-first (test avp) (first_refusal test avps) e)) (each-passes test P holds avps (none-next (test avp) (first_refusal test avps) e))

-- ---- a value

abbrev is_value_fault : DictFault → Bool
is_value_fault (BadLength code) = true
is_value_fault (BadUtf8 code) = true
is_value_fault (BadEnumerated code) = true
is_value_fault (NoRow code) = false
is_value_fault OutOfMemory = false

abbrev Real : Option DictFault → Type 0
Real fault = option_map_or is_value_fault fault true ≡ true

real-if : (b : Bool) (fault other : Option DictFault) → Real fault → Real other → Real (cond b fault other)
real-if true fault other p q = p
real-if false fault other p q = q

real-content : (kind : Kind) (code : ℕ) (octets : List ℕ) → Real (content_fault kind code octets)
real-content Unsigned32 code octets = refl
real-content Unsigned64 code octets = refl
real-content Integer32 code octets = refl
real-content Integer64 code octets = refl
real-content Time code octets = refl
real-content Enumerated code octets = real-if (in_range code (big_number 4 octets)) None (Some (BadEnumerated code)) refl refl
real-content Utf8String code octets = real-if (is_utf8 octets) None (Some (BadUtf8 code)) refl refl
real-content DiameterIdentity code octets = refl
real-content OctetString code octets = refl
real-content Address code octets = refl
real-content Grouped code octets = refl

typed-unless : (avp : RawAvp) (fault : Option DictFault) (value : Typed) → Real fault → option_and_then (fault_refusal avp) (result_err (unless fault value)) ≡ None → IsOk (unless fault value)
typed-unless avp None value real e = refl
typed-unless avp (Some (BadLength code)) value real e = absurd cc
typed-unless avp (Some (BadUtf8 code)) value real e = absurd cc
typed-unless avp (Some (BadEnumerated code)) value real e = absurd cc
typed-unless avp (Some (NoRow code)) value real e = absurd cc
typed-unless avp (Some OutOfMemory) value real e = absurd cc

typed-by : (avp : RawAvp) (row : Option Entry) → is_some row ≡ true → option_and_then (fault_refusal avp) (result_err (reading_by row avp.code avp.value)) ≡ None → IsOk (reading_by row avp.code avp.value)
typed-by avp None known e = absurd cc
typed-by avp (Some row) known e =
    typed-unless avp (value_fault row.kind avp.code avp.value) (value_of row.kind avp.value)
    (real-if (has_length row.kind avp.value) (content_fault row.kind avp.code avp.value) (Some (BadLength avp.code)) (real-content row.kind avp.code avp.value) refl) e

-- each code has a row
abbrev have_rows : List ℕ → Bool
have_rows codes = list_all (λ code. is_some (row_of code 0)) codes

row-here : (b : Bool) (code : ℕ) (codes : List ℕ) (avp : RawAvp) → is_of code avp ≡ b → have_rows (code ∷ codes) ≡ true → (b || is_among codes avp) ≡ true
    → (is_among codes avp ≡ true → is_some (row_of avp.code avp.vendor) ≡ true) → is_some (row_of avp.code avp.vendor) ≡ true
row-here true code codes avp is known among later =
    let both = and_parts (eqb avp.vendor 0) (eqb avp.code code) is in
    subst (λ (c : ℕ). is_some (row_of c avp.vendor) ≡ true) (sym (eqb-true avp.code code both.1))
    (subst (λ (v : ℕ). is_some (row_of code v) ≡ true) (sym (eqb-true avp.vendor 0 both.0)) (and_parts (is_some (row_of code 0)) (have_rows codes) known).0)
row-here false code codes avp is known among later = later among

row-there : (codes : List ℕ) (avp : RawAvp) → have_rows codes ≡ true → is_among codes avp ≡ true → is_some (row_of avp.code avp.vendor) ≡ true
row-there [] avp known among = absurd cc
row-there (code ∷ codes) avp known among =
    row-here (is_of code avp) code codes avp refl known among (row-there codes avp (and_parts (is_some (row_of code 0)) (have_rows codes) known).1)

typed : (codes : List ℕ) (avp : RawAvp) → have_rows codes ≡ true → value_refusal_among codes avp ≡ None → is_among codes avp ≡ true → IsTyped avp
unfolding value_refusal
typed codes avp known e among =
    typed-by avp (row_of avp.code avp.vendor) (row-there codes avp known among) (ap (λ (b : Bool). cond b (value_refusal avp) None) (sym among) ∙ e)

command-rows : have_rows command_values ≡ true
command-rows = refl

group-rows : have_rows group_values ≡ true
group-rows = refl

typed-values : (codes : List ℕ) (avps : List RawAvp) → have_rows codes ≡ true → values_refusal codes avps ≡ None → AreTyped codes avps
typed-values codes avps known e = each-passes (value_refusal_among codes) (λ avp. is_among codes avp ≡ true → IsTyped avp) (λ avp none among. typed codes avp known none among) avps e

-- ---- a group

typed-members : (profile : RequestProfile) (single required : List ℕ) (avps : List RawAvp) → members_refusal profile single required avps ≡ None → AreTyped group_values avps
typed-members profile single required avps e =
    let unknown = option_and_then (refusal_at AvpUnsupported avps) (unknown_of profile avps) in
    let second = option_and_then (refusal_at AvpOccursTooManyTimes avps) (second_of single avps) in
    let missing = option_map refusal_for_missing (missing_of required avps) in
    let values = values_refusal group_values avps in
    typed-values group_values avps group-rows
    (none-next missing values (none-next second (option_or missing values) (none-next unknown (option_or second (option_or missing values)) e)))

splits : (test : List RawAvp → Option Refusal) (P : List RawAvp → Type 0) → ((members : List RawAvp) → test members ≡ None → P members) → (octets : List ℕ) (s : Result (List RawAvp) AvpFault)
    → split_of octets ≡ s → tested_in test (avps_by octets s) ≡ None → (members : List RawAvp) × (split_of octets ≡ Ok members) × P members
splits test P holds octets (Ok members) is e = (members, is, holds members e)
splits test P holds octets (Err fault) is e = absurd cc

subscription-splits : (profile : RequestProfile) (avp : RawAvp) → subscription_refusal profile avp ≡ None → HasTypedMembers avp
unfolding subscription_refusal
subscription-splits profile avp e =
    splits (members_refusal profile subscription_codes subscription_codes) (AreTyped group_values) (typed-members profile subscription_codes subscription_codes) avp.value (split_of avp.value) refl e

units-split : (profile : RequestProfile) (avp : RawAvp) → units_refusal profile avp ≡ None → HasTypedMembers avp
unfolding units_refusal
units-split profile avp e = splits (members_refusal profile count_codes []) (AreTyped group_values) (typed-members profile count_codes []) avp.value (split_of avp.value) refl e

inner-units : (profile : RequestProfile) (avp : RawAvp) → inner_group_refusal profile avp ≡ None → is_units avp ≡ true → HasTypedMembers avp
inner-units profile avp e units = units-split profile avp (ap (λ (b : Bool). cond b (units_refusal profile avp) None) (sym units) ∙ e)

service-splits : (profile : RequestProfile) (avp : RawAvp) → service_refusal profile avp ≡ None → IsTypedService avp
unfolding service_refusal
service-splits profile avp e =
    splits (service_members_refusal profile) (λ members. AreTyped group_values members × HaveTypedUnits members)
    (λ members none.
    let first = members_refusal profile service_codes [] members in
    let inner = inner_refusal profile members in (
      typed-members profile service_codes [] members (none-first first inner none),
      each-passes (inner_group_refusal profile) (λ avp. is_units avp ≡ true → HasTypedMembers avp) (inner-units profile) members (none-next first inner none),
    ))
    avp.value (split_of avp.value) refl e

-- ---- which group an AVP is

units-no-subscription : (requested used : Bool) (avp : RawAvp) → is_of requested_service_unit avp ≡ requested → is_of used_service_unit avp ≡ used → (requested || used) ≡ true → is_of subscription_id avp ≡ false
units-no-subscription true used avp p q e = unlike requested_service_unit subscription_id avp (λ same. omega (arith, same)) p
units-no-subscription false true avp p q e = unlike used_service_unit subscription_id avp (λ same. omega (arith, same)) q
units-no-subscription false false avp p q e = absurd cc

abbrev group_by : RequestProfile → RawAvp → Bool → Bool → Bool → Option Refusal
group_by profile avp subscription units service =
    cond subscription (subscription_refusal profile avp) (cond units (units_refusal profile avp) (cond service (service_refusal profile avp) None))

subscription-here : (profile : RequestProfile) (avp : RawAvp) → group_refusal profile avp ≡ None → is_of subscription_id avp ≡ true → HasTypedMembers avp
subscription-here profile avp e is = subscription-splits profile avp (ap (λ (b : Bool). group_by profile avp b (is_units avp) (is_of multiple_services avp)) (sym is) ∙ e)

units-here : (profile : RequestProfile) (avp : RawAvp) → group_refusal profile avp ≡ None → is_units avp ≡ true → HasTypedMembers avp
units-here profile avp e is =
    let no_subscription = units-no-subscription (is_of requested_service_unit avp) (is_of used_service_unit avp) avp refl refl is in
    units-split profile avp (
    ap (λ (b : Bool). group_by profile avp false b (is_of multiple_services avp)) (sym is)
    ∙ ap (λ (b : Bool). group_by profile avp b (is_units avp) (is_of multiple_services avp)) (sym no_subscription) ∙ e)

service-here : (profile : RequestProfile) (avp : RawAvp) → group_refusal profile avp ≡ None → is_of multiple_services avp ≡ true → IsTypedService avp
service-here profile avp e is =
    let no_subscription = unlike multiple_services subscription_id avp (λ same. omega (arith, same)) is in
    let no_requested = unlike multiple_services requested_service_unit avp (λ same. omega (arith, same)) is in
    let no_used = unlike multiple_services used_service_unit avp (λ same. omega (arith, same)) is in
    let no_units : is_units avp ≡ false = ap (λ (b : Bool). b || is_of used_service_unit avp) no_requested ∙ no_used in
    service-splits profile avp (
    ap (λ (b : Bool). group_by profile avp false false b) (sym is)
    ∙ ap (λ (b : Bool). group_by profile avp false b (is_of multiple_services avp)) (sym no_units)
    ∙ ap (λ (b : Bool). group_by profile avp b (is_units avp) (is_of multiple_services avp)) (sym no_subscription) ∙ e)

-- ---- the message

pub not_refused : (refusal : Option Refusal) (content : Result CcRequest Refusal) (request : CcRequest) (much : Bool)
    → cond much (Err (refusal_with UnableToComply)) (unless_refused refusal content) ≡ Ok request → refusal ≡ None
not_refused refusal content request true e = absurd cc
not_refused None content request false e = refl
not_refused (Some given) content request false e = absurd cc

within : (limits : Bool) (content request : CcRequest) → cond limits (Ok content) (Err (refusal_with UnableToComply)) ≡ Ok request → limits ≡ true
within true content request e = refl
within false content request e = absurd cc

readable_avps : (profile : RequestProfile) (message : Message) (request : CcRequest) (s : Result (List RawAvp) AvpFault) → split_of message.body ≡ s → view_of_list profile (avps_by message.body s) ≡ Ok request → IsReadable message
readable_avps profile message request (Err fault) is e = absurd cc
readable_avps profile message request (Ok avps) is e =
    let grammar = grammar_refusal profile (counted profile avps) in
    let values = values_refusal command_values avps in
    let groups = groups_refusal profile avps in
    let none : request_refusal profile avps ≡ None = not_refused (request_refusal profile avps) (content_of avps) request (carries_too_much avps) e in
    let later = none-next grammar (option_or values groups) none in
    let passed : groups ≡ None = none-next values groups later in
    let parts = unrefused (carries_too_much avps) (request_refusal profile avps) (content_of avps) request e in
    let limits = within_limits (services_in avps) (within (are_within_limits (services_in avps)) (request_in avps) request parts.1) in
    record {
      avps = avps;
      body = is;
      values = typed-values command_values avps command-rows (none-first values groups later);
      subscriptions = each-passes (group_refusal profile) (λ avp. is_of subscription_id avp ≡ true → HasTypedMembers avp) (subscription-here profile) avps passed;
      units = each-passes (group_refusal profile) (λ avp. is_units avp ≡ true → HasTypedMembers avp) (units-here profile) avps passed;
      services = each-passes (group_refusal profile) (λ avp. is_of multiple_services avp ≡ true → IsTypedService avp) (service-here profile) avps passed;
      names = limits.own_names;
    }

pub viewed-readable : (profile : RequestProfile) (message : Message) (request : CcRequest) → view_under profile message ≡ Ok request → IsReadable message
unfolding view_under
viewed-readable profile message request e =
    readable_avps profile message request (split_of message.body) refl
    (viewed profile (eqb message.header.application 4) (eqb message.header.command 272) (avps_of message.body) request e)
