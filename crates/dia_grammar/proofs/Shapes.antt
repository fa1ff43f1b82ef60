-- AVPs without their values.
use Rattle.std.proofs.Common.{◌≡◌, ℕ, ◌+◌, Bool, not, ◌&&◌, ◌||◌, cond, List, [], ◌∷◌, ◌++◌, map, length, Option, Some, None, refl, ap, sym, ◌∙◌}
use Rattle.std.specs.List.{list_any, position_from}
use Rattle.std.proofs.lemmas.Iterator.Adapters.{position_from-zero}
use Rattle.std.proofs.lemmas.List.{length-map, map-append}
use Rattle.dia_avp.specs.declared.avp.RawAvp.{RawAvp}
use Rattle.dia_grammar.specs.declared.fault.GrammarFault.TheVariants.{Missing, FirstNotSessionId}
use Rattle.dia_base.specs.Codes.{session_id, requested_action}
use Rattle.dia_grammar.specs.Profile.{RequestProfile}
use Rattle.dia_grammar.specs.Grammar.{is_of, is_among, is_unknown_mandatory, has_avp, unknown_of, is_second, second_behind, second_of, missing_of, session_fault, required_codes, single_codes, is_event_type, required_in, grammar_fault}
use Rattle.dia_grammar.specs.Request.{shape_of}
use Rattle.dia_grammar.proofs.Requests.{fault-is}

has_avp-shapes : (code : ℕ) (avps : List RawAvp) → has_avp code (map shape_of avps) ≡ has_avp code avps
has_avp-shapes code [] = refl
has_avp-shapes code (avp ∷ avps) = ap (λ (b : Bool). is_of code avp || b) (has_avp-shapes code avps)

session-shapes : (avps : List RawAvp) → session_fault (map shape_of avps) ≡ session_fault avps
session-shapes [] = refl
session-shapes (avp ∷ avps) =
    ap (λ (b : Bool). cond (not b) (Some (Missing session_id)) (cond (not (is_of session_id avp)) (Some FirstNotSessionId) None))
    (has_avp-shapes session_id (avp ∷ avps))

unknown_from-shapes : (profile : RequestProfile) (i : ℕ) (avps : List RawAvp) → position_from (is_unknown_mandatory profile) i (map shape_of avps) ≡ position_from (is_unknown_mandatory profile) i avps
unknown_from-shapes profile i [] = refl
unknown_from-shapes profile i (avp ∷ avps) =
    ap (λ (o : Option ℕ). cond (is_unknown_mandatory profile avp) (Some i) o) (unknown_from-shapes profile (i + 1) avps)

unknown-shapes : (profile : RequestProfile) (avps : List RawAvp) → unknown_of profile (map shape_of avps) ≡ unknown_of profile avps
unknown-shapes profile avps =
    position_from-zero (is_unknown_mandatory profile) (map shape_of avps)
    ∙ unknown_from-shapes profile 0 avps
    ∙ sym (position_from-zero (is_unknown_mandatory profile) avps)

second_behind-shapes : (codes : List ℕ) (before avps : List RawAvp) → second_behind codes (map shape_of before) (map shape_of avps) ≡ second_behind codes before avps
second_behind-shapes codes before [] = refl
second_behind-shapes codes before (avp ∷ avps) =
    ap (λ (b : Bool). cond (is_among codes avp && b) (Some (length (map shape_of before))) (second_behind codes (map shape_of before ++ shape_of avp ∷ []) (map shape_of avps))) (has_avp-shapes avp.code before)
    ∙ ap (λ (n : ℕ). cond (is_second codes before avp) (Some n) (second_behind codes (map shape_of before ++ shape_of avp ∷ []) (map shape_of avps))) (length-map before shape_of)
    ∙ ap (λ (o : Option ℕ). cond (is_second codes before avp) (Some (length before)) o)
    (ap (λ (xs : List RawAvp). second_behind codes xs (map shape_of avps)) (sym (map-append shape_of before (avp ∷ []))) ∙ second_behind-shapes codes (before ++ avp ∷ []) avps)

missing-shapes : (codes : List ℕ) (avps : List RawAvp) → missing_of codes (map shape_of avps) ≡ missing_of codes avps
missing-shapes [] avps = refl
missing-shapes (code ∷ codes) avps =
    ap (λ (b : Bool). cond (not b) (Some code) (missing_of codes (map shape_of avps))) (has_avp-shapes code avps)
    ∙ ap (λ (o : Option ℕ). cond (not (has_avp code avps)) (Some code) o) (missing-shapes codes avps)

-- what reads no value answers alike to lists of one shape
alike : {Y : Type 0} (f : List RawAvp → Y) → ((avps : List RawAvp) → f (map shape_of avps) ≡ f avps) → (avps others : List RawAvp) → map shape_of avps ≡ map shape_of others → f avps ≡ f others
alike f same avps others e = sym (same avps) ∙ ap f e ∙ same others

required-alike : (avps others : List RawAvp) → map shape_of avps ≡ map shape_of others → list_any is_event_type avps ≡ list_any is_event_type others → missing_of (required_in avps) avps ≡ missing_of (required_in others) others
required-alike avps others e event =
    ap (λ (b : Bool). missing_of (cond b (required_codes ++ requested_action ∷ []) required_codes) avps) event
    ∙ alike (missing_of (required_in others)) (missing-shapes (required_in others)) avps others e

pub fault-alike : (profile : RequestProfile) (avps others : List RawAvp) → map shape_of avps ≡ map shape_of others → list_any is_event_type avps ≡ list_any is_event_type others → grammar_fault profile avps ≡ grammar_fault profile others
unfolding grammar_fault
fault-alike profile avps others e event =
    fault-is profile avps (session_fault others) (unknown_of profile others) (second_of single_codes others) (missing_of (required_in others) others)
    (alike session_fault session-shapes avps others e)
    (alike (unknown_of profile) (unknown-shapes profile) avps others e)
    (alike (second_of single_codes) (second_behind-shapes single_codes []) avps others e)
    (required-alike avps others e event)
