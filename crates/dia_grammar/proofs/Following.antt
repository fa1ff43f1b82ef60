-- AVPs that may stand behind the others.
use Rattle.std.proofs.Common.{◌≡◌, ℕ, ◌+◌, ◌==◌, Bool, true, false, not, ◌&&◌, ◌||◌, cond, List, [], ◌∷◌, ◌++◌, length, Option, Some, None, refl, ap, sym, ◌∙◌}
use Rattle.std.specs.List.{list_any, position_from}
use Rattle.std.proofs.lemmas.Iterator.Adapters.{position_from-zero}
use Rattle.std.proofs.lemmas.List.Folds.{list_any-append}
use Rattle.byteorder.specs.Endian.{big_number}
use Rattle.dia_avp.specs.declared.avp.RawAvp.{RawAvp}
use Rattle.dia_grammar.specs.declared.fault.GrammarFault.TheVariants.{Missing, FirstNotSessionId}
use Rattle.dia_base.specs.Codes.{session_id, cc_request_type, requested_action, requested_service_unit, service_identifier}
use Rattle.dia_grammar.specs.Profile.{RequestProfile}
use Rattle.dia_grammar.specs.Grammar.{is_of, is_among, is_mandatory, is_known, is_unknown_mandatory, has_row, has_avp, unknown_of, is_second, second_behind, second_of, missing_of, session_fault, required_codes, single_codes, is_event_type, required_in, grammar_fault}
use Rattle.dia_grammar.specs.Request.{route_record}
use Rattle.std.proofs.lemmas.Bool.{or_parts}
use Rattle.dia_grammar.proofs.Requests.{fault-is}

or_last : (a b : Bool) → b ≡ false → (a || (b || false)) ≡ a
or_last true b e = refl
or_last false true e = absurd cc
or_last false false e = refl

any_follows : (p : RawAvp → Bool) (avps : List RawAvp) (avp : RawAvp) → p avp ≡ false → list_any p (avps ++ avp ∷ []) ≡ list_any p avps
any_follows p avps avp e = list_any-append p avps (avp ∷ []) ∙ or_last (list_any p avps) (p avp) e

-- ---- each part

session_follows : (avps : List RawAvp) (avp : RawAvp) → is_of session_id avp ≡ false → session_fault (avps ++ avp ∷ []) ≡ session_fault avps
session_follows [] avp e = ap (λ (b : Bool). cond (not (b || false)) (Some (Missing session_id)) (cond (not b) (Some FirstNotSessionId) None)) e
session_follows (first ∷ avps) avp e =
    ap (λ (b : Bool). cond (not b) (Some (Missing session_id)) (cond (not (is_of session_id first)) (Some FirstNotSessionId) None))
    (any_follows (is_of session_id) (first ∷ avps) avp e)

position_follows : (p : RawAvp → Bool) (i : ℕ) (avps : List RawAvp) (avp : RawAvp) → p avp ≡ false → position_from p i (avps ++ avp ∷ []) ≡ position_from p i avps
position_follows p i [] avp e = ap (λ (b : Bool). cond b (Some i) None) e
position_follows p i (first ∷ avps) avp e = ap (λ (o : Option ℕ). cond (p first) (Some i) o) (position_follows p (i + 1) avps avp e)

unknown_follows : (profile : RequestProfile) (avps : List RawAvp) (avp : RawAvp) → is_unknown_mandatory profile avp ≡ false → unknown_of profile (avps ++ avp ∷ []) ≡ unknown_of profile avps
unknown_follows profile avps avp e =
    position_from-zero (is_unknown_mandatory profile) (avps ++ avp ∷ [])
    ∙ position_follows (is_unknown_mandatory profile) 0 avps avp e
    ∙ sym (position_from-zero (is_unknown_mandatory profile) avps)

second_follows : (codes : List ℕ) (before avps : List RawAvp) (avp : RawAvp) → is_among codes avp ≡ false → second_behind codes before (avps ++ avp ∷ []) ≡ second_behind codes before avps
second_follows codes before [] avp e = ap (λ (b : Bool). cond (b && has_avp avp.code before) (Some (length before)) None) e
second_follows codes before (first ∷ avps) avp e =
    ap (λ (o : Option ℕ). cond (is_second codes before first) (Some (length before)) o) (second_follows codes (before ++ first ∷ []) avps avp e)

missing_follows : (codes : List ℕ) (avps : List RawAvp) (avp : RawAvp) → is_among codes avp ≡ false → missing_of codes (avps ++ avp ∷ []) ≡ missing_of codes avps
missing_follows [] avps avp e = refl
missing_follows (code ∷ codes) avps avp e =
    ap (λ (b : Bool). cond (not b) (Some code) (missing_of codes (avps ++ avp ∷ []))) (any_follows (is_of code) avps avp (or_parts (is_of code avp) (is_among codes avp) e).0)
    ∙ ap (λ (o : Option ℕ). cond (not (has_avp code avps)) (Some code) o) (missing_follows codes avps avp (or_parts (is_of code avp) (is_among codes avp) e).1)

-- ---- the codes of a request

front_lacks : (codes more : List ℕ) (avp : RawAvp) → is_among (codes ++ more) avp ≡ false → is_among codes avp ≡ false
front_lacks codes more avp e = (or_parts (is_among codes avp) (is_among more avp) (sym (list_any-append (λ (code : ℕ). is_of code avp) codes more) ∙ e)).0

not_event_codes : (avp : RawAvp) → is_among single_codes avp ≡ false → is_among (required_codes ++ requested_action ∷ []) avp ≡ false
not_event_codes avp e =
    front_lacks (required_codes ++ requested_action ∷ []) (requested_service_unit ∷ service_identifier ∷ []) avp
    (or_parts (is_of session_id avp) (is_among ((required_codes ++ requested_action ∷ []) ++ requested_service_unit ∷ service_identifier ∷ []) avp) e).1

not_required : (event : Bool) (avp : RawAvp) → is_among single_codes avp ≡ false → is_among (cond event (required_codes ++ requested_action ∷ []) required_codes) avp ≡ false
not_required true avp e = not_event_codes avp e
not_required false avp e = front_lacks required_codes (requested_action ∷ []) avp (not_event_codes avp e)

not_of : (codes more : List ℕ) (code : ℕ) (avp : RawAvp) → is_among (codes ++ code ∷ more) avp ≡ false → is_of code avp ≡ false
not_of [] more code avp e = (or_parts (is_of code avp) (is_among more avp) e).0
not_of (first ∷ codes) more code avp e = not_of codes more code avp (or_parts (is_of first avp) (is_among (codes ++ code ∷ more) avp) e).1

event_follows : (avps : List RawAvp) (avp : RawAvp) → is_of cc_request_type avp ≡ false → list_any is_event_type (avps ++ avp ∷ []) ≡ list_any is_event_type avps
event_follows avps avp e = any_follows is_event_type avps avp (ap (λ (b : Bool). b && (length avp.value == 4) && (big_number 4 avp.value == 4)) e)

no_request_type : (avp : RawAvp) → is_among single_codes avp ≡ false → is_of cc_request_type avp ≡ false
no_request_type avp e = not_of (263 ∷ 264 ∷ 296 ∷ 283 ∷ 258 ∷ 461 ∷ []) (415 ∷ 436 ∷ 437 ∷ 439 ∷ []) cc_request_type avp e

required_follows : (avps : List RawAvp) (avp : RawAvp) → is_among single_codes avp ≡ false → missing_of (required_in (avps ++ avp ∷ [])) (avps ++ avp ∷ []) ≡ missing_of (required_in avps) avps
required_follows avps avp e =
    ap (λ (b : Bool). missing_of (cond b (required_codes ++ requested_action ∷ []) required_codes) (avps ++ avp ∷ [])) (event_follows avps avp (no_request_type avp e))
    ∙ missing_follows (required_in avps) avps avp (not_required (list_any is_event_type avps) avp e)

-- ---- a request

pub fault-follows : (profile : RequestProfile) (avps : List RawAvp) (avp : RawAvp) → is_unknown_mandatory profile avp ≡ false → is_among single_codes avp ≡ false → grammar_fault profile (avps ++ avp ∷ []) ≡ grammar_fault profile avps
unfolding grammar_fault
fault-follows profile avps avp known other =
    fault-is profile (avps ++ avp ∷ []) (session_fault avps) (unknown_of profile avps) (second_of single_codes avps) (missing_of (required_in avps) avps)
    (session_follows avps avp (or_parts (is_of session_id avp) _ other).0)
    (unknown_follows profile avps avp known)
    (second_follows single_codes [] avps avp other)
    (required_follows avps avp other)

-- ---- Route-Record

known_by : (own row listed : Bool) → (own || ((row || true) || listed)) ≡ true
known_by true row listed = refl
known_by false true listed = refl
known_by false false listed = refl

not_unknown : (mandatory known : Bool) → known ≡ true → (mandatory && not known) ≡ false
not_unknown true true e = refl
not_unknown true false e = absurd cc
not_unknown false known e = refl

pub record-known : (profile : RequestProfile) (flags : ℕ) (value : List ℕ) → is_unknown_mandatory profile (route_record flags value) ≡ false
record-known profile flags value =
    not_unknown (is_mandatory (route_record flags value)) (is_known profile (route_record flags value))
    (known_by (is_among profile.known (route_record flags value)) (has_row 282 0) (list_any (λ (vendor : ℕ). vendor == 0) profile.vendors))
