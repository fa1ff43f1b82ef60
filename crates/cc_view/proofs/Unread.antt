-- What a view reads, without the AVPs that it does not read.
use Rattle.std.proofs.Common.{◌≡◌, ℕ, zero, suc, ◌<◌, Bool, true, false, not, ◌&&◌, ◌||◌, cond, eqb, eq-eqb, List, [], ◌∷◌, ◌++◌, length, get_or, map, Option, Some, None, option_map, Result, Ok, Err, refl, ap, sym, subst, ◌∙◌, arith}
use Rattle.std.specs.List.{filter, find, list_any, sum_by}
use Rattle.std.specs.Option.{option_and_then, option_or, unwrap_or}
use Rattle.std.proofs.lemmas.Bool.{and_parts, eqb-true, false_from_ne_true, not-false, or_from}
use Rattle.std.proofs.lemmas.List.Folds.{Any-from_list_any, list_any-append, list_any_at}
use Rattle.std.proofs.lemmas.List.Elements.{filter-append}
use Rattle.byteorder.specs.Endian.{big_number}
use Rattle.dia_avp.specs.declared.avp.RawAvp.{RawAvp}
use Rattle.dia_avp.specs.declared.fault.AvpFault.{AvpFault}
use Rattle.dia_message.specs.declared.message.Message.{Message}
use Rattle.dia_base.specs.Codes.{auth_application_id, origin_host, origin_realm, cc_request_number, cc_request_type, requested_action, requested_service_unit, service_identifier, session_id, multiple_services, subscription_id, used_service_unit}
use Rattle.dia_grammar.specs.Grammar.{begins_with_session, has_avp, has_row, is_among, is_event_type, is_mandatory, is_of, is_second, is_standard, is_unknown_mandatory, missing_of, required_codes, required_in, single_codes}
use Rattle.dia_grammar.specs.Profile.{RequestProfile, tolerates_application_in_group, tolerates_origin_twice}
use Rattle.cc_view.specs.declared.code.ResultCode.TheVariants.{ApplicationUnsupported, CommandUnsupported, UnableToComply}
use Rattle.cc_view.specs.declared.refusal.Refusal.{Refusal}
use Rattle.cc_view.specs.declared.request.CcRequest.{CcRequest}
use Rattle.cc_view.specs.declared.request.Service.{Service}
use Rattle.cc_view.specs.Answer.Carried.{carries_too_much}
use Rattle.cc_view.specs.RequestView.Checking.{command_values, group_refusal, groups_refusal, is_units, service_refusal, subscription_refusal, units_refusal, value_refusal, value_refusal_among, values_refusal}
use Rattle.cc_view.specs.RequestView.Content.{action_by, are_within_limits, content_of, is_own, kind_by, own_services_in, service_of, services_by, services_in, subscription_of}
use Rattle.cc_view.specs.Refusal.{avps_by, avps_of, refusal_with, unless_refused}
use Rattle.cc_view.specs.RequestView.{view_under, view_of_avps, view_of_list}
use Rattle.cc_view.specs.RequestView.Counting.{applications_inside, counted, first_with, inner_applications, is_left_out, is_said, kept_behind, put_in, stand_ins, stand_ins_by, vendor_specific_application_id}
use Rattle.cc_view.specs.RequestView.Counts.{counts_of, members_of, octets_of, time_of, u32_value, units_of}
use Rattle.cc_view.specs.RequestView.UnreadAvps.{DifferUnread, is_read, read_of, unread_codes}
use Rattle.cc_view.proofs.Kept.{MissesBy, filter-filter, find-filter, first_refusal-filter, list_any-filter}
use Rattle.cc_view.proofs.Places.{grammar-is, grammar_by, second_in}

-- ---- tests that no unread AVP passes

abbrev pub Misses : (RawAvp → Bool) → Type 0
Misses test = MissesBy is_read test

not_both : (b : Bool) → not b ≡ true → b ≡ true → ⊥
not_both true e f = absurd cc
not_both false e f = absurd cc

pub code_is : (code : ℕ) (avp : RawAvp) → is_of code avp ≡ true → avp.code ≡ code
code_is code avp e = eqb-true avp.code code (and_parts (eqb avp.vendor 0) (eqb avp.code code) e).1

-- a code that is none of the unread ones
abbrev pub is_other : ℕ → Bool
is_other code = not (list_any (λ unread. eqb unread code) unread_codes)

pub misses-one : (code : ℕ) → is_other code ≡ true → Misses (is_of code)
misses-one code other avp unread = false_from_ne_true (is_of code avp) (λ e.
    let some = Any-from_list_any (λ (c : ℕ). is_of c avp) unread_codes (not-false (is_among unread_codes avp) unread) in
    let same : some.1 ≡ code = sym (code_is some.1 avp some.4) ∙ code_is code avp e in
    let found : list_any (λ (c : ℕ). eqb c code) unread_codes ≡ true =
    list_any_at (λ (c : ℕ). eqb c code) unread_codes some.0 some.1 some.2 (subst (λ (c : ℕ). eqb c code ≡ true) (sym some.3) (eq-eqb some.1 code same)) in
    absurd (not_both (list_any (λ (c : ℕ). eqb c code) unread_codes) other found))

abbrev are_other : List ℕ → Bool
are_other [] = true
are_other (code ∷ codes) = is_other code && are_other codes

misses-among : (codes : List ℕ) → are_other codes ≡ true → Misses (is_among codes)
misses-among [] other avp unread = refl
misses-among (code ∷ codes) other avp unread =
    or_from (is_of code avp) (is_among codes avp) (misses-one code (and_parts (is_other code) (are_other codes) other).0 avp unread)
    (misses-among codes (and_parts (is_other code) (are_other codes) other).1 avp unread)

misses-either : (p q : RawAvp → Bool) → Misses p → Misses q → Misses (λ avp. p avp || q avp)
misses-either p q misses others avp unread = or_from (p avp) (q avp) (misses avp unread) (others avp unread)

-- ---- the grammar

known : (code : ℕ) (avp : RawAvp) → is_of code avp ≡ true → is_standard code 0 ≡ true → is_standard avp.code avp.vendor ≡ true
known code avp e standard =
    subst (λ (c : ℕ). is_standard c avp.vendor ≡ true) (sym (code_is code avp e))
    (subst (λ (v : ℕ). is_standard code v ≡ true) (sym (eqb-true avp.vendor 0 (and_parts (eqb avp.vendor 0) (eqb avp.code code) e).0)) standard)

-- each unread code is a standard one
unread-standard : (avp : RawAvp) → is_read avp ≡ false → is_standard avp.code avp.vendor ≡ true
unread-standard avp unread =
    let some = Any-from_list_any (λ (c : ℕ). is_of c avp) unread_codes (not-false (is_among unread_codes avp) unread) in
    known some.1 avp some.4 (subst (λ (c : ℕ). is_standard c 0 ≡ true) some.3 (all_standard some.0 some.1 some.2))
  where
    all_standard : (k d : ℕ) → k < length unread_codes → is_standard (get_or unread_codes k d) 0 ≡ true
    all_standard zero d lt = refl
    all_standard (suc zero) d lt = refl
    all_standard (suc (suc zero)) d lt = refl
    all_standard (suc (suc (suc zero))) d lt = refl
    all_standard (suc (suc (suc (suc k)))) d lt = absurd (omega (arith, lt))

not_unknown : (mandatory own row standard listed : Bool) → standard ≡ true → (mandatory && not (own || (row || standard || listed))) ≡ false
not_unknown true true row standard listed e = refl
not_unknown true false true standard listed e = refl
not_unknown true false false true listed e = refl
not_unknown true false false false listed e = absurd cc
not_unknown false own row standard listed e = refl

misses-unknown : (profile : RequestProfile) → Misses (is_unknown_mandatory profile)
misses-unknown profile avp unread =
    not_unknown (is_mandatory avp) (is_among profile.known avp) (has_row avp.code avp.vendor) (is_standard avp.code avp.vendor) (list_any (λ (vendor : ℕ). eqb vendor avp.vendor) profile.vendors) (unread-standard avp unread)

-- each code has been there alike
abbrev Alike : List ℕ → List RawAvp → List RawAvp → Type 0
Alike codes before others = (avp : RawAvp) → is_among codes avp ≡ true → has_avp avp.code before ≡ has_avp avp.code others

and_same : (a b c : Bool) → (a ≡ true → b ≡ c) → (a && b) ≡ (a && c)
and_same true b c same = same refl
and_same false b c same = refl

or_false : (a b : Bool) → b ≡ false → (a || (b || false)) ≡ a
or_false true b e = refl
or_false false true e = absurd cc
or_false false false e = refl

alike-both : (codes : List ℕ) (before others : List RawAvp) (x : RawAvp) → Alike codes before others → Alike codes (before ++ x ∷ []) (others ++ x ∷ [])
alike-both codes before others x alike avp among =
    list_any-append (is_of avp.code) before (x ∷ []) ∙ ap (λ (b : Bool). b || (is_of avp.code x || false)) (alike avp among) ∙ sym (list_any-append (is_of avp.code) others (x ∷ []))

none_of : (codes : List ℕ) (x : RawAvp) (k d : ℕ) → is_among codes x ≡ false → k < length codes → is_of (get_or codes k d) x ≡ false
none_of codes x k d none lt = false_from_ne_true (is_of (get_or codes k d) x) (λ e. let some = list_any_at (λ (c : ℕ). is_of c x) codes k d lt e in absurd cc)

alike-unread : (codes : List ℕ) (before others : List RawAvp) (x : RawAvp) → is_among codes x ≡ false → Alike codes before others → Alike codes (before ++ x ∷ []) others
alike-unread codes before others x none alike avp among =
    let some = Any-from_list_any (λ (c : ℕ). is_of c avp) codes among in
    let other : is_of avp.code x ≡ false = subst (λ (c : ℕ). is_of c x ≡ false) (some.3 ∙ sym (code_is some.1 avp some.4)) (none_of codes x some.0 some.1 none some.2) in
    list_any-append (is_of avp.code) before (x ∷ []) ∙ or_false (has_avp avp.code before) (is_of avp.code x) other ∙ alike avp among

second_here : (b : Bool) (codes : List ℕ) (before others : List RawAvp) (x : RawAvp) (ys xs : List RawAvp) → (b ≡ false → is_among codes x ≡ false) → Alike codes before others
    → ((fronts backs : List RawAvp) → Alike codes fronts backs → second_in codes fronts xs ≡ second_in codes backs ys)
    → second_in codes before (x ∷ xs) ≡ second_in codes others (cond b (x ∷ ys) ys)
second_here true codes before others x ys xs misses alike later =
    ap (λ (b : Bool). cond b (Some x) (second_in codes (before ++ x ∷ []) xs)) (and_same (is_among codes x) (has_avp x.code before) (has_avp x.code others) (alike x))
    ∙ ap (λ (o : Option RawAvp). cond (is_second codes others x) (Some x) o) (later (before ++ x ∷ []) (others ++ x ∷ []) (alike-both codes before others x alike))
second_here false codes before others x ys xs misses alike later =
    ap (λ (b : Bool). cond (b && has_avp x.code before) (Some x) (second_in codes (before ++ x ∷ []) xs)) (misses refl)
    ∙ later (before ++ x ∷ []) others (alike-unread codes before others x (misses refl) alike)

second-read : (codes : List ℕ) → are_other codes ≡ true → (avps before others : List RawAvp) → Alike codes before others → second_in codes before avps ≡ second_in codes others (read_of avps)
second-read codes other [] before others alike = refl
second-read codes other (x ∷ xs) before others alike =
    second_here (is_read x) codes before others x (read_of xs) xs (misses-among codes other x) alike (λ fronts backs same. second-read codes other xs fronts backs same)

missing-read : (codes : List ℕ) → are_other codes ≡ true → (avps : List RawAvp) → missing_of codes (read_of avps) ≡ missing_of codes avps
missing-read [] other avps = refl
missing-read (code ∷ codes) other avps =
    ap (λ (b : Bool). cond (not b) (Some code) (missing_of codes (read_of avps))) (list_any-filter is_read (is_of code) (misses-one code (and_parts (is_other code) (are_other codes) other).0) avps)
    ∙ ap (λ (o : Option ℕ). cond (not (has_avp code avps)) (Some code) o) (missing-read codes (and_parts (is_other code) (are_other codes) other).1 avps)

misses-event : Misses is_event_type
misses-event avp unread = ap (λ (b : Bool). b && eqb (length avp.value) 4 && eqb (big_number 4 avp.value) 4) (misses-one cc_request_type refl avp unread)

required_others : (event : Bool) → are_other (cond event (required_codes ++ requested_action ∷ []) required_codes) ≡ true
required_others true = refl
required_others false = refl

required-read : (avps : List RawAvp) → missing_of (required_in (read_of avps)) (read_of avps) ≡ missing_of (required_in avps) avps
required-read avps =
    ap (λ (b : Bool). missing_of (cond b (required_codes ++ requested_action ∷ []) required_codes) (read_of avps)) (list_any-filter is_read is_event_type misses-event avps)
    ∙ missing-read (required_in avps) (required_others (list_any is_event_type avps)) avps

-- the refusal by the grammar, where it is given whether a Session-Id comes first
abbrev grammar_from : RequestProfile → Bool → List RawAvp → Option Refusal
grammar_from profile begins avps =
    grammar_by (has_avp session_id avps) begins (find (is_unknown_mandatory profile) avps) (second_in single_codes [] avps) (missing_of (required_in avps) avps)

grammar-read : (profile : RequestProfile) (begins : Bool) (avps : List RawAvp) → grammar_from profile begins (read_of avps) ≡ grammar_from profile begins avps
grammar-read profile begins avps =
    let kept = read_of avps in
    let unknown = find (is_unknown_mandatory profile) in
    ap (λ (b : Bool). grammar_by b begins (unknown kept) (second_in single_codes [] kept) (missing_of (required_in kept) kept)) (list_any-filter is_read (is_of session_id) (misses-one session_id refl) avps)
    ∙ ap (λ (o : Option RawAvp). grammar_by (has_avp session_id avps) begins o (second_in single_codes [] kept) (missing_of (required_in kept) kept)) (find-filter is_read (is_unknown_mandatory profile) (misses-unknown profile) avps)
    ∙ ap (λ (o : Option RawAvp). grammar_by (has_avp session_id avps) begins (unknown avps) o (missing_of (required_in kept) kept)) (sym (second-read single_codes refl avps [] [] (λ avp among. refl)))
    ∙ ap (λ (o : Option ℕ). grammar_by (has_avp session_id avps) begins (unknown avps) (second_in single_codes [] avps) o) (required-read avps)

-- ---- the AVPs as they are counted

none_left : (tolerated host realm said told : Bool) → host ≡ false → realm ≡ false → (tolerated && ((host && said) || (realm && told))) ≡ false
none_left false host realm said told p q = refl
none_left true true realm said told p q = absurd cc
none_left true false true said told p q = absurd cc
none_left true false false said told p q = refl

left-unread : (profile : RequestProfile) (host realm : Option RawAvp) (x : RawAvp) → is_read x ≡ false → is_left_out profile host realm x ≡ false
left-unread profile host realm x unread =
    none_left (tolerates_origin_twice profile) (is_of origin_host x) (is_of origin_realm x) (is_said host x) (is_said realm x)
    (misses-one origin_host refl x unread) (misses-one origin_realm refl x unread)

kept_step : (b l m : Bool) (x : RawAvp) (kept both rest : List RawAvp) → is_read x ≡ b → (b ≡ true → (l ≡ m) × (read_of kept ≡ both)) → (b ≡ false → (l ≡ false) × (read_of kept ≡ rest))
    → read_of (cond l kept (x ∷ kept)) ≡ cond b (cond m both (x ∷ both)) rest
kept_step true true true x kept both rest e f g = (f refl).1
kept_step true true false x kept both rest e f g = let differ : true ≡ false = (f refl).0 in absurd cc
kept_step true false true x kept both rest e f g = let differ : false ≡ true = (f refl).0 in absurd cc
kept_step true false false x kept both rest e f g =
    ap (λ (b : Bool). cond b (x ∷ read_of kept) (read_of kept)) e ∙ ap (λ (ys : List RawAvp). x ∷ ys) (f refl).1
kept_step false true m x kept both rest e f g = let left : true ≡ false = (g refl).0 in absurd cc
kept_step false false m x kept both rest e f g = ap (λ (b : Bool). cond b (x ∷ read_of kept) (read_of kept)) e ∙ (g refl).1

-- an AVP that is not of the code leaves its first one
first-other : (first : Option RawAvp) (b : Bool) (x : RawAvp) → b ≡ false → option_or first (cond b (Some x) None) ≡ first
first-other None true x e = absurd cc
first-other None false x e = refl
first-other (Some first) b x e = refl

first-unread : (code : ℕ) (first : Option RawAvp) (x : RawAvp) → is_other code ≡ true → is_read x ≡ false → first_with code first x ≡ first
first-unread code first x other unread = first-other first (is_of code x) x (misses-one code other x unread)

kept_if : (profile : RequestProfile) (b : Bool) (host realm : Option RawAvp) (x : RawAvp) (ys : List RawAvp)
    → cond b (kept_behind profile host realm (x ∷ ys)) (kept_behind profile host realm ys) ≡ kept_behind profile host realm (cond b (x ∷ ys) ys)
kept_if profile true host realm x ys = refl
kept_if profile false host realm x ys = refl

kept-read : (profile : RequestProfile) (avps : List RawAvp) (host realm : Option RawAvp) → read_of (kept_behind profile host realm avps) ≡ kept_behind profile host realm (read_of avps)
kept-read profile [] host realm = refl
kept-read profile (x ∷ xs) host realm =
    let first = first_with origin_host host x in
    let second = first_with origin_realm realm x in
    kept_step (is_read x) (is_left_out profile host realm x) (is_left_out profile host realm x) x (kept_behind profile first second xs)
    (kept_behind profile first second (read_of xs)) (kept_behind profile host realm (read_of xs)) refl
    (λ read. (refl, kept-read profile xs first second))
    (λ unread. (
      left-unread profile host realm x unread,
      ap (λ (o : Option RawAvp). read_of (kept_behind profile o second xs)) (first-unread origin_host host x refl unread)
          ∙ ap (λ (o : Option RawAvp). read_of (kept_behind profile host o xs)) (first-unread origin_realm realm x refl unread)
          ∙ kept-read profile xs host realm,
    ))
    ∙ kept_if profile (is_read x) host realm x (read_of xs)

inner_if : (b : Bool) (x : RawAvp) (ys xs : List RawAvp) → (b ≡ false → is_of vendor_specific_application_id x ≡ false) → inner_applications ys ≡ inner_applications xs
    → inner_applications (cond b (x ∷ ys) ys) ≡ inner_applications (x ∷ xs)
inner_if true x ys xs misses same = ap (λ (zs : List RawAvp). applications_inside x ++ zs) same
inner_if false x ys xs misses same =
    same ∙ sym (ap (λ (b : Bool). cond b (filter (is_of auth_application_id) (members_of x)) [] ++ inner_applications xs) (misses refl))

inner-read : (avps : List RawAvp) → inner_applications (read_of avps) ≡ inner_applications avps
inner-read [] = refl
inner-read (x ∷ xs) = inner_if (is_read x) x (read_of xs) xs (misses-one vendor_specific_application_id refl x) (inner-read xs)

filter-alike : (p q : RawAvp → Bool) → ((avp : RawAvp) → p avp ≡ q avp) → (avps : List RawAvp) → filter p avps ≡ filter q avps
filter-alike p q same [] = refl
filter-alike p q same (x ∷ xs) =
    ap (λ (b : Bool). cond b (x ∷ filter p xs) (filter p xs)) (same x) ∙ ap (λ (ys : List RawAvp). cond (q x) (x ∷ ys) ys) (filter-alike p q same xs)

abbrev put_by : Bool → Option RawAvp → List RawAvp → List RawAvp
put_by tolerated own inner = cond tolerated (stand_ins_by own inner) []

put-read : (profile : RequestProfile) (avps : List RawAvp) → put_in profile (read_of avps) ≡ put_in profile avps
put-read profile avps =
    let tolerated = tolerates_application_in_group profile in
    ap (λ (own : Option RawAvp). put_by tolerated own (inner_applications (read_of avps))) (find-filter is_read (is_of auth_application_id) (misses-one auth_application_id refl) avps)
    ∙ ap (λ (inner : List RawAvp). put_by tolerated (find (is_of auth_application_id) avps) inner) (inner-read avps)

counted-read : (profile : RequestProfile) (avps : List RawAvp) → read_of (counted profile (read_of avps)) ≡ read_of (counted profile avps)
unfolding counted
counted-read profile avps =
    let kept = kept_behind profile None None avps in
    filter-append is_read (kept_behind profile None None (read_of avps)) (put_in profile (read_of avps))
    ∙ ap (λ (xs : List RawAvp). read_of xs ++ read_of (put_in profile (read_of avps))) (sym (kept-read profile avps None None))
    ∙ ap (λ (xs : List RawAvp). xs ++ read_of (put_in profile (read_of avps))) (filter-filter is_read is_read (λ avp unread. unread) kept)
    ∙ ap (λ (xs : List RawAvp). read_of kept ++ read_of xs) (put-read profile avps)
    ∙ sym (filter-append is_read kept (put_in profile avps))

counted_grammar-read : (profile : RequestProfile) (begins : Bool) (avps : List RawAvp) → grammar_from profile begins (counted profile (read_of avps)) ≡ grammar_from profile begins (counted profile avps)
counted_grammar-read profile begins avps =
    sym (grammar-read profile begins (counted profile (read_of avps))) ∙ ap (grammar_from profile begins) (counted-read profile avps) ∙ grammar-read profile begins (counted profile avps)

-- the first AVP is always kept
first_kept : (tolerated host realm : Bool) (x : RawAvp) (kept put : List RawAvp) → begins_with_session (cond (tolerated && ((host && false) || (realm && false))) kept (x ∷ kept) ++ put) ≡ is_of session_id x
first_kept false host realm x kept put = refl
first_kept true true true x kept put = refl
first_kept true true false x kept put = refl
first_kept true false true x kept put = refl
first_kept true false false x kept put = refl

nothing_put : (tolerated : Bool) → begins_with_session (cond tolerated (stand_ins []) []) ≡ false
nothing_put true = refl
nothing_put false = refl

begins-counted : (profile : RequestProfile) (avps : List RawAvp) → begins_with_session (counted profile avps) ≡ begins_with_session avps
unfolding counted
begins-counted profile [] = nothing_put (tolerates_application_in_group profile)
begins-counted profile (x ∷ xs) =
    first_kept (tolerates_origin_twice profile) (is_of origin_host x) (is_of origin_realm x) x (kept_behind profile (first_with origin_host None x) (first_with origin_realm None x) xs) (put_in profile (x ∷ xs))

-- ---- values and groups

values-read : (avps : List RawAvp) → values_refusal command_values (read_of avps) ≡ values_refusal command_values avps
values-read avps = first_refusal-filter is_read (value_refusal_among command_values) (λ avp unread. ap (λ (b : Bool). cond b (value_refusal avp) None) (misses-among command_values refl avp unread)) avps

misses-units : Misses is_units
misses-units = misses-either (is_of requested_service_unit) (is_of used_service_unit) (misses-one requested_service_unit refl) (misses-one used_service_unit refl)

no_group : (a b c : Bool) (x y z : Option Refusal) → a ≡ false → b ≡ false → c ≡ false → cond a x (cond b y (cond c z None)) ≡ None
no_group true b c x y z p q r = absurd cc
no_group false true c x y z p q r = absurd cc
no_group false false true x y z p q r = absurd cc
no_group false false false x y z p q r = refl

group-unread : (profile : RequestProfile) (avp : RawAvp) → is_read avp ≡ false → group_refusal profile avp ≡ None
group-unread profile avp unread =
    no_group (is_of subscription_id avp) (is_units avp) (is_of multiple_services avp)
    (subscription_refusal profile avp) (units_refusal profile avp) (service_refusal profile avp)
    (misses-one subscription_id refl avp unread) (misses-units avp unread) (misses-one multiple_services refl avp unread)

groups-read : (profile : RequestProfile) (avps : List RawAvp) → groups_refusal profile (read_of avps) ≡ groups_refusal profile avps
groups-read profile avps = first_refusal-filter is_read (group_refusal profile) (group-unread profile) avps

abbrev refusal_from : RequestProfile → Bool → List RawAvp → Option Refusal
refusal_from profile begins avps = option_or (grammar_from profile begins (counted profile avps)) (option_or (values_refusal command_values avps) (groups_refusal profile avps))

refusal_from-read : (profile : RequestProfile) (begins : Bool) (avps : List RawAvp) → refusal_from profile begins (read_of avps) ≡ refusal_from profile begins avps
refusal_from-read profile begins avps =
    ap (λ (o : Option Refusal). option_or o (option_or (values_refusal command_values (read_of avps)) (groups_refusal profile (read_of avps)))) (counted_grammar-read profile begins avps)
    ∙ ap (λ (o : Option Refusal). option_or (grammar_from profile begins (counted profile avps)) (option_or o (groups_refusal profile (read_of avps)))) (values-read avps)
    ∙ ap (λ (o : Option Refusal). option_or (grammar_from profile begins (counted profile avps)) (option_or (values_refusal command_values avps) o)) (groups-read profile avps)

-- ---- the content

misses-own : Misses is_own
misses-own avp unread =
    or_from (is_units avp) (is_of service_identifier avp) (misses-units avp unread) (misses-one service_identifier refl avp unread)

services_by-same : (avps others : List RawAvp) (services : List Service) → own_services_in avps ≡ own_services_in others → services_by avps services ≡ services_by others services
services_by-same avps others [] same = same
services_by-same avps others (service ∷ services) same = refl

abbrev sum_of : (RawAvp → Option ℕ) → List RawAvp → ℕ
sum_of count used = sum_by (λ (avp : RawAvp). unwrap_or (count avp) 0) used

abbrev sums_of : List RawAvp → List ℕ
sums_of used = sum_of time_of used ∷ sum_of octets_of used ∷ sum_of units_of used ∷ []

-- the service of a command's own units
abbrev own_by : Bool → Option RawAvp → Option RawAvp → List RawAvp → List Service
own_by own ident asked used =
    cond own (record { group = None; ident = option_and_then u32_value ident; bare = true; asked = option_map counts_of asked; used = sums_of used } ∷ []) []

own-read : (avps : List RawAvp) → own_services_in (read_of avps) ≡ own_services_in avps
own-read avps =
    let kept = read_of avps in
    ap (λ (b : Bool). own_by b (find (is_of service_identifier) kept) (find (is_of requested_service_unit) kept) (filter (is_of used_service_unit) kept)) (list_any-filter is_read is_own misses-own avps)
    ∙ ap (λ (o : Option RawAvp). own_by (list_any is_own avps) o (find (is_of requested_service_unit) kept) (filter (is_of used_service_unit) kept)) (find-filter is_read (is_of service_identifier) (misses-one service_identifier refl) avps)
    ∙ ap (λ (o : Option RawAvp). own_by (list_any is_own avps) (find (is_of service_identifier) avps) o (filter (is_of used_service_unit) kept)) (find-filter is_read (is_of requested_service_unit) (misses-one requested_service_unit refl) avps)
    ∙ ap (λ (xs : List RawAvp). own_by (list_any is_own avps) (find (is_of service_identifier) avps) (find (is_of requested_service_unit) avps) xs) (filter-filter is_read (is_of used_service_unit) (misses-one used_service_unit refl) avps)

services-read : (avps : List RawAvp) → services_in (read_of avps) ≡ services_in avps
services-read avps =
    services_by-same (read_of avps) avps (map service_of (filter (is_of multiple_services) (read_of avps))) (own-read avps)
    ∙ ap (λ (xs : List RawAvp). services_by avps (map service_of xs)) (filter-filter is_read (is_of multiple_services) (misses-one multiple_services refl) avps)

-- the content by what is found
abbrev content_by : Option RawAvp → Option RawAvp → Option RawAvp → Option RawAvp → List RawAvp → List Service → Result CcRequest Refusal
content_by session number kind action subscriptions services =
    cond (are_within_limits services) (Ok (record {
      session = unwrap_or (option_map (λ (avp : RawAvp). avp.value) session) [];
      number = unwrap_or (option_and_then u32_value number) 0;
      kind = kind_by (unwrap_or (option_and_then u32_value kind) 0);
      action = option_map action_by (option_and_then u32_value action);
      subscriptions = map subscription_of subscriptions;
      services = services;
    })) (Err (refusal_with UnableToComply))

content-read : (avps : List RawAvp) → content_of (read_of avps) ≡ content_of avps
content-read avps =
    let kept = read_of avps in
    ap (λ (o : Option RawAvp). content_by o (find (is_of cc_request_number) kept) (find (is_of cc_request_type) kept) (find (is_of requested_action) kept) (filter (is_of subscription_id) kept) (services_in kept)) (find-filter is_read (is_of session_id) (misses-one session_id refl) avps)
    ∙ ap (λ (o : Option RawAvp). content_by (find (is_of session_id) avps) o (find (is_of cc_request_type) kept) (find (is_of requested_action) kept) (filter (is_of subscription_id) kept) (services_in kept)) (find-filter is_read (is_of cc_request_number) (misses-one cc_request_number refl) avps)
    ∙ ap (λ (o : Option RawAvp). content_by (find (is_of session_id) avps) (find (is_of cc_request_number) avps) o (find (is_of requested_action) kept) (filter (is_of subscription_id) kept) (services_in kept)) (find-filter is_read (is_of cc_request_type) (misses-one cc_request_type refl) avps)
    ∙ ap (λ (o : Option RawAvp). content_by (find (is_of session_id) avps) (find (is_of cc_request_number) avps) (find (is_of cc_request_type) avps) o (filter (is_of subscription_id) kept) (services_in kept)) (find-filter is_read (is_of requested_action) (misses-one requested_action refl) avps)
    ∙ ap (λ (xs : List RawAvp). content_by (find (is_of session_id) avps) (find (is_of cc_request_number) avps) (find (is_of cc_request_type) avps) (find (is_of requested_action) avps) xs (services_in kept)) (filter-filter is_read (is_of subscription_id) (misses-one subscription_id refl) avps)
    ∙ ap (λ (xs : List Service). content_by (find (is_of session_id) avps) (find (is_of cc_request_number) avps) (find (is_of cc_request_type) avps) (find (is_of requested_action) avps) (filter (is_of subscription_id) avps) xs) (services-read avps)

-- ---- the view

abbrev view_by : Bool → Option Refusal → Result CcRequest Refusal → Result CcRequest Refusal
view_by much refusal content = cond much (Err (refusal_with UnableToComply)) (unless_refused refusal content)

-- the view, where it is given whether a Session-Id comes first and whether too much is carried
abbrev view_with : RequestProfile → Bool → Bool → List RawAvp → Result CcRequest Refusal
view_with profile begins much avps = view_by much (refusal_from profile begins avps) (content_of avps)

view_with-is : (profile : RequestProfile) (avps : List RawAvp) → view_of_avps profile avps ≡ view_with profile (begins_with_session avps) (carries_too_much avps) avps
view_with-is profile avps =
    ap (λ (o : Option Refusal). view_by (carries_too_much avps) (option_or o (option_or (values_refusal command_values avps) (groups_refusal profile avps))) (content_of avps)) (grammar-is profile (counted profile avps))
    ∙ ap (λ (b : Bool). view_with profile b (carries_too_much avps) avps) (begins-counted profile avps)

view_with-read : (profile : RequestProfile) (begins much : Bool) (avps : List RawAvp) → view_with profile begins much (read_of avps) ≡ view_with profile begins much avps
view_with-read profile begins much avps =
    ap (λ (o : Option Refusal). view_by much o (content_of (read_of avps))) (refusal_from-read profile begins avps)
    ∙ ap (λ (r : Result CcRequest Refusal). view_by much (refusal_from profile begins avps) r) (content-read avps)

alike-view : (profile : RequestProfile) (avps others : List RawAvp) → read_of avps ≡ read_of others → begins_with_session avps ≡ begins_with_session others → carries_too_much avps ≡ carries_too_much others
    → view_of_avps profile avps ≡ view_of_avps profile others
alike-view profile avps others read begins carried =
    view_with-is profile avps
    ∙ sym (view_with-read profile (begins_with_session avps) (carries_too_much avps) avps)
    ∙ ap (view_with profile (begins_with_session avps) (carries_too_much avps)) read
    ∙ view_with-read profile (begins_with_session avps) (carries_too_much avps) others
    ∙ ap (λ (b : Bool). view_with profile b (carries_too_much avps) others) begins
    ∙ ap (λ (b : Bool). view_with profile (begins_with_session others) b others) carried
    ∙ sym (view_with-is profile others)

abbrev view_from : RequestProfile → ℕ → ℕ → Result CcRequest Refusal → Result CcRequest Refusal
view_from profile application command view =
    cond (not (eqb application 4)) (Err (refusal_with ApplicationUnsupported)) (cond (not (eqb command 272)) (Err (refusal_with CommandUnsupported)) view)

pub view-unread : (profile : RequestProfile) (message other : Message) → DifferUnread message other → view_under profile message ≡ view_under profile other
unfolding view_under
view-unread profile message other d =
    ap (λ (n : ℕ). view_from profile n message.header.command (view_of_list profile (avps_of message.body))) d.application
    ∙ ap (λ (n : ℕ). view_from profile other.header.application n (view_of_list profile (avps_of message.body))) d.command
    ∙ ap (view_from profile other.header.application other.header.command)
    (ap (λ (s : Result (List RawAvp) AvpFault). view_of_list profile (avps_by message.body s)) d.body
    ∙ alike-view profile d.avps d.others d.read d.first d.carried
    ∙ sym (ap (λ (s : Result (List RawAvp) AvpFault). view_of_list profile (avps_by other.body s)) d.other_body))
