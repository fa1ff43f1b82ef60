-- A list of AVPs with no fault is a request.
use Rattle.std.proofs.Common.{◌≡◌, ℕ, Bool, true, false, not, ◌&&◌, cond, List, [], ◌∷◌, ◌++◌, get_or, Option, Some, None, refl, ap, sym, ◌∙◌, arith}
use Rattle.std.specs.Option.{is_some, option_map, option_or}
use Rattle.std.specs.List.{All, list_any}
use Rattle.std.proofs.lemmas.List.Folds.{find-append, list_any_none}
use Rattle.dia_avp.specs.declared.avp.RawAvp.{RawAvp}
use Rattle.dia_grammar.specs.declared.fault.GrammarFault.{GrammarFault}
use Rattle.dia_grammar.specs.declared.fault.GrammarFault.TheVariants.{Missing, Twice, UnknownM, FirstNotSessionId}
use Rattle.dia_base.specs.Codes.{session_id, requested_action}
use Rattle.dia_grammar.specs.Profile.{RequestProfile}
use Rattle.dia_grammar.specs.Grammar.{is_of, is_mandatory, is_known, is_unknown_mandatory, has_avp, unknown_of, second_of, missing_of, begins_with_session, session_fault, required_codes, single_codes, is_event_type, required_in, first_fault, grammar_fault}
use Rattle.dia_grammar.specs.Request.{IsRequest}
use Rattle.std.proofs.lemmas.Bool.{not-false, not_from_true, or_left}
use Rattle.dia_base.proofs.Finding.{none_passes, find-none, none-find, position-none, none-position}
use Rattle.dia_grammar.proofs.Seconds.{single-from_none, none-from_single}

-- ---- no fault of four

unmapped : (f : ℕ → GrammarFault) (o : Option ℕ) → option_map f o ≡ None → o ≡ None
unmapped f None e = refl
unmapped f (Some n) e = absurd cc

all_none : (a b c d : Option GrammarFault) → first_fault (a ∷ b ∷ c ∷ d ∷ []) ≡ None → (a ≡ None) × (b ≡ None) × (c ≡ None) × (d ≡ None)
all_none (Some x) b c d e = absurd cc
all_none None (Some x) c d e = absurd cc
all_none None None (Some x) d e = absurd cc
all_none None None None (Some x) e = absurd cc
all_none None None None None e = (refl, refl, refl, refl)

four : (a a2 b b2 c c2 d d2 : Option GrammarFault) → a ≡ a2 → b ≡ b2 → c ≡ c2 → d ≡ d2 → first_fault (a ∷ b ∷ c ∷ d ∷ []) ≡ first_fault (a2 ∷ b2 ∷ c2 ∷ d2 ∷ [])
four a a2 b b2 c c2 d d2 p q r s = cc

-- the fault of AVPs, by what the four looks at them give
pub fault-is : (profile : RequestProfile) (avps : List RawAvp) (session : Option GrammarFault) (unknown second missing : Option ℕ)
    → session_fault avps ≡ session → unknown_of profile avps ≡ unknown → second_of single_codes avps ≡ second → missing_of (required_in avps) avps ≡ missing
    → grammar_fault profile avps ≡ first_fault (session ∷ option_map (λ at. UnknownM at) unknown ∷ option_map (λ at. Twice at) second ∷ option_map (λ code. Missing code) missing ∷ [])
unfolding grammar_fault
fault-is profile avps session unknown second missing p q r s =
    four (session_fault avps) session
    (option_map (λ at. UnknownM at) (unknown_of profile avps)) (option_map (λ at. UnknownM at) unknown)
    (option_map (λ at. Twice at) (second_of single_codes avps)) (option_map (λ at. Twice at) second)
    (option_map (λ code. Missing code) (missing_of (required_in avps) avps)) (option_map (λ code. Missing code) missing)
    p (ap (option_map (λ at. UnknownM at)) q) (ap (option_map (λ at. Twice at)) r) (ap (option_map (λ code. Missing code)) s)

-- ---- Session-Id

begins : (has first : Bool) → cond (not has) (Some (Missing session_id)) (cond (not first) (Some FirstNotSessionId) None) ≡ None → first ≡ true
begins true true e = refl
begins true false e = absurd cc
begins false first e = absurd cc

no_session_fault : (has first : Bool) → has ≡ true → first ≡ true → cond (not has) (Some (Missing session_id)) (cond (not first) (Some FirstNotSessionId) None) ≡ None
no_session_fault true true p q = refl
no_session_fault true false p q = absurd cc
no_session_fault false first p q = absurd cc

has_first : (avps : List RawAvp) → begins_with_session avps ≡ true → has_avp session_id avps ≡ true
has_first [] e = absurd cc
has_first (avp ∷ avps) e = or_left (is_of session_id avp) (has_avp session_id avps) e

-- ---- what is known

known_if : (mandatory known : Bool) → (mandatory && not known) ≡ false → mandatory ≡ true → known ≡ true
known_if true known e m = not-false known e
known_if false known e m = absurd cc

passes_if : (mandatory known : Bool) → (mandatory ≡ true → known ≡ true) → (mandatory && not known) ≡ false
passes_if true known f = not_from_true known (f refl)
passes_if false known f = refl

all_known : (profile : RequestProfile) (avps : List RawAvp) → unknown_of profile avps ≡ None → All (λ avp. is_mandatory avp ≡ true → is_known profile avp ≡ true) avps
all_known profile avps none k d lt =
    known_if (is_mandatory (get_or avps k d)) (is_known profile (get_or avps k d))
    (none_passes (is_unknown_mandatory profile) avps (position-none (is_unknown_mandatory profile) avps none) k d lt)

none_unknown : (profile : RequestProfile) (avps : List RawAvp) → All (λ avp. is_mandatory avp ≡ true → is_known profile avp ≡ true) avps → unknown_of profile avps ≡ None
none_unknown profile avps known =
    none-position (is_unknown_mandatory profile) avps
    (list_any_none (is_unknown_mandatory profile) avps (λ k d lt. passes_if (is_mandatory (get_or avps k d)) (is_known profile (get_or avps k d)) (known k d lt)))

-- ---- what is there

all_there : (codes : List ℕ) (avps : List RawAvp) → missing_of codes avps ≡ None → All (λ code. has_avp code avps ≡ true) codes
all_there codes avps none k d lt =
    not-false (has_avp (get_or codes k d) avps)
    (none_passes (λ (code : ℕ). not (has_avp code avps)) codes (find-none (λ (code : ℕ). not (has_avp code avps)) codes none) k d lt)

none_missing : (codes : List ℕ) (avps : List RawAvp) → All (λ code. has_avp code avps ≡ true) codes → missing_of codes avps ≡ None
none_missing codes avps there =
    none-find (λ (code : ℕ). not (has_avp code avps)) codes
    (list_any_none (λ (code : ℕ). not (has_avp code avps)) codes (λ k d lt. not_from_true (has_avp (get_or codes k d) avps) (there k d lt)))

or_none : (a b : Option ℕ) → option_or a b ≡ None → (a ≡ None) × (b ≡ None)
or_none None b e = (refl, e)
or_none (Some n) b e = absurd cc

missing-append : (codes more : List ℕ) (avps : List RawAvp) → missing_of (codes ++ more) avps ≡ option_or (missing_of codes avps) (missing_of more avps)
missing-append codes more avps = find-append (λ (code : ℕ). not (has_avp code avps)) codes more

required_parts : (event : Bool) (avps : List RawAvp) → missing_of (cond event (required_codes ++ requested_action ∷ []) required_codes) avps ≡ None
    → (missing_of required_codes avps ≡ None) × (event ≡ true → has_avp requested_action avps ≡ true)
required_parts true avps none =
    let parts = or_none (missing_of required_codes avps) (missing_of (requested_action ∷ []) avps) (sym (missing-append required_codes (requested_action ∷ []) avps) ∙ none) in
    (parts.0, λ e. all_there (requested_action ∷ []) avps parts.1 0 0 (omega arith))
required_parts false avps none = (none, λ e. absurd cc)

required_whole : (event : Bool) (avps : List RawAvp) → missing_of required_codes avps ≡ None → (event ≡ true → has_avp requested_action avps ≡ true)
    → missing_of (cond event (required_codes ++ requested_action ∷ []) required_codes) avps ≡ None
required_whole true avps none action =
    missing-append required_codes (requested_action ∷ []) avps
    ∙ ap (λ (o : Option ℕ). option_or o (missing_of (requested_action ∷ []) avps)) none
    ∙ ap (λ (b : Bool). cond (not b) (Some requested_action) None) (action refl)
required_whole false avps none action = none

or_some : (a b : Option ℕ) → is_some a ≡ true → option_or a b ≡ a
or_some None b e = absurd cc
or_some (Some n) b e = refl

-- where one of the codes of each request is missing, an event misses the same one
pub missing_already : (event : Bool) (avps : List RawAvp) → is_some (missing_of required_codes avps) ≡ true → missing_of (cond event (required_codes ++ requested_action ∷ []) required_codes) avps ≡ missing_of required_codes avps
missing_already true avps e = missing-append required_codes (requested_action ∷ []) avps ∙ or_some (missing_of required_codes avps) (missing_of (requested_action ∷ []) avps) e
missing_already false avps e = refl

-- ---- a request

pub request-from_none : (profile : RequestProfile) (avps : List RawAvp) → grammar_fault profile avps ≡ None → IsRequest profile avps
unfolding grammar_fault
request-from_none profile avps e =
    let parts = all_none (session_fault avps) (option_map (λ at. UnknownM at) (unknown_of profile avps)) (option_map (λ at. Twice at) (second_of single_codes avps)) (option_map (λ code. Missing code) (missing_of (required_in avps) avps)) e in
    let required = required_parts (list_any is_event_type avps) avps (unmapped (λ code. Missing code) (missing_of (required_in avps) avps) parts.3) in
    record {
      session = begins (has_avp session_id avps) (begins_with_session avps) parts.0;
      known = all_known profile avps (unmapped (λ at. UnknownM at) (unknown_of profile avps) parts.1);
      single = single-from_none single_codes avps (unmapped (λ at. Twice at) (second_of single_codes avps) parts.2);
      required = all_there required_codes avps required.0;
      action = required.1;
    }

pub none-from_request : (profile : RequestProfile) (avps : List RawAvp) → IsRequest profile avps → grammar_fault profile avps ≡ None
none-from_request profile avps r =
    fault-is profile avps None None None None
    (no_session_fault (has_avp session_id avps) (begins_with_session avps) (has_first avps r.session) r.session)
    (none_unknown profile avps r.known)
    (none-from_single single_codes avps r.single)
    (required_whole (list_any is_event_type avps) avps (none_missing required_codes avps r.required) r.action)
