-- The AVP at the place that a fault of the grammar names.
use Rattle.std.proofs.Common.{◌≡◌, ℕ, ◌+◌, Bool, true, false, not, cond, List, [], ◌∷◌, ◌++◌, length, Option, Some, None, option_map, refl, ap, sym, subst, ◌∙◌, arith}
use Rattle.std.specs.List.{find, position, position_from, slice_get}
use Rattle.std.specs.Option.{is_some, option_and_then, option_or}
use Rattle.std.proofs.Math.Seq.{get_or-append_seam}
use Rattle.std.proofs.lemmas.Iterator.Adapters.{position_from-zero}
use Rattle.std.proofs.lemmas.List.{append_assoc, length-append}
use Rattle.std.proofs.lemmas.Option.{slice_get-get_or}
use Rattle.dia_avp.specs.declared.avp.RawAvp.{RawAvp}
use Rattle.dia_grammar.specs.declared.fault.GrammarFault.{GrammarFault}
use Rattle.dia_grammar.specs.declared.fault.GrammarFault.TheVariants.{Missing, Twice, UnknownM, FirstNotSessionId}
use Rattle.dia_base.specs.Codes.{session_id}
use Rattle.dia_grammar.specs.Grammar.{begins_with_session, first_fault, grammar_fault, has_avp, is_second, is_unknown_mandatory, missing_of, required_in, second_behind, second_of, single_codes, unknown_of}
use Rattle.dia_grammar.specs.Profile.{RequestProfile}
use Rattle.cc_view.specs.declared.code.ResultCode.TheVariants.{AvpUnsupported, AvpOccursTooManyTimes, UnableToComply}
use Rattle.cc_view.specs.declared.refusal.Refusal.{Refusal}
use Rattle.cc_view.specs.Refusal.{grammar_refusal, refusal_with, refusal_by_fault, refusal_for, refusal_for_missing}

-- the AVP at a place, where there is one
abbrev pub IsAt : List RawAvp → Option ℕ → Option RawAvp → Type 0
IsAt avps place avp = (option_and_then (slice_get avps) place ≡ avp) × (is_some place ≡ is_some avp)

behind : (before : List RawAvp) (avp : RawAvp) (avps : List RawAvp) → slice_get (before ++ avp ∷ avps) (length before) ≡ Some avp
behind before avp avps =
    slice_get-get_or (before ++ avp ∷ avps) (length before) avp (omega (arith, length-append before (avp ∷ avps)))
    ∙ ap (λ (x : RawAvp). Some x) (get_or-append_seam before avp avps avp)

pub regroup : (before : List RawAvp) (avp : RawAvp) (avps : List RawAvp) → (before ++ avp ∷ []) ++ avps ≡ before ++ avp ∷ avps
regroup before avp avps = append_assoc before (avp ∷ []) avps

here_or_later : (b : Bool) (before : List RawAvp) (avp : RawAvp) (avps : List RawAvp) (place : Option ℕ) (found : Option RawAvp) → IsAt ((before ++ avp ∷ []) ++ avps) place found
    → IsAt (before ++ avp ∷ avps) (cond b (Some (length before)) place) (cond b (Some avp) found)
here_or_later true before avp avps place found later = (behind before avp avps, refl)
here_or_later false before avp avps place found later = subst (λ (xs : List RawAvp). IsAt xs place found) (regroup before avp avps) later

-- ---- the first that passes a test

find_from : (test : RawAvp → Bool) (before avps : List RawAvp) → IsAt (before ++ avps) (position_from test (length before) avps) (find test avps)
find_from test before [] = (refl, refl)
find_from test before (avp ∷ avps) =
    here_or_later (test avp) before avp avps (position_from test (length before + 1) avps) (find test avps)
    (subst (λ (n : ℕ). IsAt ((before ++ avp ∷ []) ++ avps) (position_from test n avps) (find test avps)) (length-append before (avp ∷ [])) (find_from test (before ++ avp ∷ []) avps))

find-is : (test : RawAvp → Bool) (avps : List RawAvp) → IsAt avps (position test avps) (find test avps)
find-is test avps = subst (λ (place : Option ℕ). IsAt avps place (find test avps)) (sym (position_from-zero test avps)) (find_from test [] avps)

-- ---- the first that is a second one of its code

abbrev pub second_in : List ℕ → List RawAvp → List RawAvp → Option RawAvp
second_in codes before [] = None
second_in codes before (avp ∷ avps) = cond (is_second codes before avp) (Some avp) (second_in codes (before ++ avp ∷ []) avps)

second-is : (codes : List ℕ) (before avps : List RawAvp) → IsAt (before ++ avps) (second_behind codes before avps) (second_in codes before avps)
second-is codes before [] = (refl, refl)
second-is codes before (avp ∷ avps) =
    here_or_later (is_second codes before avp) before avp avps (second_behind codes (before ++ avp ∷ []) avps) (second_in codes (before ++ avp ∷ []) avps)
    (second-is codes (before ++ avp ∷ []) avps)

-- ---- the refusal by the grammar, without places

-- there is a Session-Id, the first AVP is one, the first unknown one with M, the first second one, the first missing code
abbrev pub grammar_by : Bool → Bool → Option RawAvp → Option RawAvp → Option ℕ → Option Refusal
grammar_by has begins unknown second missing =
    cond (not has) (Some (refusal_for_missing session_id)) (cond (not begins) (Some (refusal_with UnableToComply))
    (option_or (option_map (refusal_for AvpUnsupported) unknown) (option_or (option_map (refusal_for AvpOccursTooManyTimes) second) (option_map refusal_for_missing missing))))

abbrev fault_by : Bool → Bool → Option ℕ → Option ℕ → Option ℕ → Option GrammarFault
fault_by has begins unknown second missing = first_fault (
    cond (not has) (Some (Missing session_id)) (cond (not begins) (Some FirstNotSessionId) None)
    ∷ option_map (λ at. UnknownM at) unknown ∷ option_map (λ at. Twice at) second ∷ option_map (λ code. Missing code) missing ∷ [])

by_parts : (avps : List RawAvp) (has begins : Bool) (u : Option ℕ) (x : Option RawAvp) (t : Option ℕ) (y : Option RawAvp) (m : Option ℕ) → IsAt avps u x → IsAt avps t y
    → option_and_then (refusal_by_fault avps) (fault_by has begins u t m) ≡ grammar_by has begins x y m
by_parts avps false begins u x t y m p q = refl
by_parts avps true false u x t y m p q = refl
by_parts avps true true (Some at) (Some avp) t y m p q = ap (option_map (refusal_for AvpUnsupported)) p.0
by_parts avps true true (Some at) None t y m p q = let no = p.1 in absurd cc
by_parts avps true true None (Some avp) t y m p q = let no = p.1 in absurd cc
by_parts avps true true None None (Some at) (Some avp) m p q = ap (option_map (refusal_for AvpOccursTooManyTimes)) q.0
by_parts avps true true None None (Some at) None m p q = let no = q.1 in absurd cc
by_parts avps true true None None None (Some avp) m p q = let no = q.1 in absurd cc
by_parts avps true true None None None None (Some code) p q = refl
by_parts avps true true None None None None None p q = refl

pub grammar-is : (profile : RequestProfile) (avps : List RawAvp) → grammar_refusal profile avps
    ≡ grammar_by (has_avp session_id avps) (begins_with_session avps) (find (is_unknown_mandatory profile) avps) (second_in single_codes [] avps) (missing_of (required_in avps) avps)
unfolding grammar_fault
grammar-is profile avps =
    by_parts avps (has_avp session_id avps) (begins_with_session avps)
    (unknown_of profile avps) (find (is_unknown_mandatory profile) avps)
    (second_of single_codes avps) (second_in single_codes [] avps)
    (missing_of (required_in avps) avps)
    (find-is (is_unknown_mandatory profile) avps) (second-is single_codes [] avps)
