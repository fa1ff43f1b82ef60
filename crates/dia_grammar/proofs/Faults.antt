-- A fault is one of the AVPs.
use Rattle.std.proofs.Common.{◌≡◌, ℕ, ◌+◌, ◌||◌, Bool, true, false, not, cond, List, [], ◌∷◌, ◌++◌, length, Option, Some, None, refl, ap, sym, subst, ◌∙◌, arith}
use Rattle.std.specs.Option.{option_map}
use Rattle.std.specs.List.{Contains, list_any, position_from}
use Rattle.std.proofs.lemmas.Iterator.Adapters.{position_from-zero}
use Rattle.std.proofs.lemmas.List.Elements.{Contains-append_left, Contains-append_right}
use Rattle.dia_avp.specs.declared.avp.RawAvp.{RawAvp}
use Rattle.dia_grammar.specs.declared.fault.GrammarFault.{GrammarFault}
use Rattle.dia_grammar.specs.declared.fault.GrammarFault.TheVariants.{Missing, Twice, UnknownM, FirstNotSessionId}
use Rattle.dia_base.specs.Codes.{session_id}
use Rattle.dia_grammar.specs.Profile.{RequestProfile}
use Rattle.dia_grammar.specs.Grammar.{is_unknown_mandatory, has_avp, unknown_of, second_of, missing_of, begins_with_session, session_fault, single_codes, required_in, first_fault, grammar_fault}
use Rattle.dia_grammar.specs.Request.{IsUnknownAt, IsFaultOf}
use Rattle.dia_base.proofs.Finding.{none_passes}
use Rattle.dia_grammar.proofs.Seconds.{second-is}

-- ---- the place of the first one

-- the first element that passes, where the list begins at the place i
record IsFirstFrom {X : Type 0} (p : X → Bool) (i : ℕ) (xs : List X) (at : ℕ) : Type 0 where
  before : List X
  x : X
  behind : List X
  parts : xs ≡ before ++ x ∷ behind
  place : i + length before ≡ at
  passes : p x ≡ true
  first : list_any p before ≡ false

first_here : {X : Type 0} (p : X → Bool) (b : Bool) (i : ℕ) (x : X) (xs : List X) (at : ℕ) (rest : Option ℕ) → p x ≡ b → cond b (Some i) rest ≡ Some at → (rest ≡ Some at → IsFirstFrom p (i + 1) xs at) → IsFirstFrom p i (x ∷ xs) at
first_here p true i x xs at rest is e more =
    let same : i ≡ at = cc in
    record { before = []; x = x; behind = xs; parts = refl; place = omega arith; passes = is; first = refl }
first_here p false i x xs at rest is e more =
    let found = more e in
    let place = found.place in
    record { before = x ∷ found.before; x = found.x; behind = found.behind; parts = ap (λ ys. x ∷ ys) found.parts; place = omega arith; passes = found.passes; first = ap (λ b. b || list_any p found.before) is ∙ found.first }

first_from : {X : Type 0} (p : X → Bool) (i : ℕ) (xs : List X) (at : ℕ) → position_from p i xs ≡ Some at → IsFirstFrom p i xs at
first_from p i [] at e = absurd cc
first_from p i (x ∷ xs) at e = first_here p (p x) i x xs at (position_from p (i + 1) xs) refl e (first_from p (i + 1) xs at)

unknown-is : (profile : RequestProfile) (avps : List RawAvp) (at : ℕ) → unknown_of profile avps ≡ Some at → IsUnknownAt profile avps at
unknown-is profile avps at e =
    let found = first_from (is_unknown_mandatory profile) 0 avps at (sym (position_from-zero (is_unknown_mandatory profile) avps) ∙ e) in
    let place = found.place in
    record { before = found.before; avp = found.x; behind = found.behind; parts = found.parts; place = omega arith; unknown = found.passes; first = none_passes (is_unknown_mandatory profile) found.before found.first }

-- ---- what is missing

missing_here : (codes : List ℕ) (avps : List RawAvp) (has : Bool) (first code : ℕ) (rest : Option ℕ) → has_avp first avps ≡ has → cond (not has) (Some first) rest ≡ Some code
    → (rest ≡ Some code → Contains codes code × (has_avp code avps ≡ false)) → Contains (first ∷ codes) code × (has_avp code avps ≡ false)
missing_here codes avps false first code rest is e more =
    let same : first ≡ code = cc in
    (Contains-append_left (first ∷ []) codes code (0, omega arith, same), subst (λ (c : ℕ). has_avp c avps ≡ false) same is)
missing_here codes avps true first code rest is e more =
    let found = more e in
    (Contains-append_right (first ∷ []) codes code found.0, found.1)

missing-is : (codes : List ℕ) (avps : List RawAvp) (code : ℕ) → missing_of codes avps ≡ Some code → Contains codes code × (has_avp code avps ≡ false)
missing-is [] avps code e = absurd cc
missing-is (first ∷ codes) avps code e = missing_here codes avps (has_avp first avps) first code (missing_of codes avps) refl e (missing-is codes avps code)

missing_is_fault : (profile : RequestProfile) (avps : List RawAvp) (code : ℕ) → missing_of (required_in avps) avps ≡ Some code → IsFaultOf profile avps (Missing code)
missing_is_fault profile avps code e =
    let found = missing-is (required_in avps) avps code e in
    (Contains-append_right (session_id ∷ []) (required_in avps) code found.0, found.1)

-- ---- Session-Id

session_case : (profile : RequestProfile) (avps : List RawAvp) (has first : Bool) (fault : GrammarFault) → has_avp session_id avps ≡ has → begins_with_session avps ≡ first
    → cond (not has) (Some (Missing session_id)) (cond (not first) (Some FirstNotSessionId) None) ≡ Some fault → IsFaultOf profile avps fault
session_case profile avps false first fault has_is first_is e =
    let same : Missing session_id ≡ fault = cc in
    subst (IsFaultOf profile avps) same ((0, omega arith, refl), has_is)
session_case profile avps true false fault has_is first_is e =
    let same : FirstNotSessionId ≡ fault = cc in
    subst (IsFaultOf profile avps) same (has_is, first_is)
session_case profile avps true true fault has_is first_is e = absurd cc

-- ---- any fault

one_of_four : (P : GrammarFault → Type 0) (a b c d : Option GrammarFault) (fault : GrammarFault) → first_fault (a ∷ b ∷ c ∷ d ∷ []) ≡ Some fault
    → (a ≡ Some fault → P fault) → (b ≡ Some fault → P fault) → (c ≡ Some fault → P fault) → (d ≡ Some fault → P fault) → P fault
one_of_four P (Some x) b c d fault e in_a in_b in_c in_d = in_a e
one_of_four P None (Some x) c d fault e in_a in_b in_c in_d = in_b e
one_of_four P None None (Some x) d fault e in_a in_b in_c in_d = in_c e
one_of_four P None None None (Some x) fault e in_a in_b in_c in_d = in_d e
one_of_four P None None None None fault e in_a in_b in_c in_d = absurd cc

mapped : (P : GrammarFault → Type 0) (f : ℕ → GrammarFault) (o : Option ℕ) (fault : GrammarFault) → ((n : ℕ) → o ≡ Some n → P (f n)) → option_map f o ≡ Some fault → P fault
mapped P f None fault is e = absurd cc
mapped P f (Some n) fault is e = let same : f n ≡ fault = cc in subst P same (is n refl)

pub fault-of : (profile : RequestProfile) (avps : List RawAvp) (fault : GrammarFault) → grammar_fault profile avps ≡ Some fault → IsFaultOf profile avps fault
unfolding grammar_fault
fault-of profile avps fault e =
    one_of_four (IsFaultOf profile avps)
    (session_fault avps) (option_map (λ at. UnknownM at) (unknown_of profile avps)) (option_map (λ at. Twice at) (second_of single_codes avps)) (option_map (λ code. Missing code) (missing_of (required_in avps) avps))
    fault e
    (session_case profile avps (has_avp session_id avps) (begins_with_session avps) fault refl refl)
    (mapped (IsFaultOf profile avps) (λ at. UnknownM at) (unknown_of profile avps) fault (λ at. unknown-is profile avps at))
    (mapped (IsFaultOf profile avps) (λ at. Twice at) (second_of single_codes avps) fault (λ at. second-is single_codes avps at))
    (mapped (IsFaultOf profile avps) (λ code. Missing code) (missing_of (required_in avps) avps) fault (λ code. missing_is_fault profile avps code))
