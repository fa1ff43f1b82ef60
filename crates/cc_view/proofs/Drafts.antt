-- AVPs that are added one after the other, and how long they get.
use Rattle.std.proofs.Common.{◌≡◌, ℕ, ◌+◌, ◌<◌, ◌≤◌, List, [], ◌∷◌, ◌++◌, length, map, filter, take, get_or, not, Bool, true, false, cond, Option, Some, None, min, Result, Ok, Err, refl, sym, ap, ◌∙◌, length-append, append_assoc, add-one, arith, lit≤}
use Rattle.std.specs.Prelude.{OnOk}
use Rattle.std.proofs.lemmas.List.{append-nil, map-append}
use Rattle.std.proofs.lemmas.List.Elements.{filter-append}
use Rattle.std.proofs.Math.Seq.{take-suc}
use Rattle.dia_base.specs.declared.number.Code.{Code}
use Rattle.dia_avp.specs.declared.avp.RawAvp.{RawAvp}
use Rattle.dia_avp.specs.AvpList.{written}
use Rattle.cc_view.specs.declared.reply.ServiceReply.{ServiceReply}
use Rattle.cc_view.specs.Answer.{optional_u32, granted_part, final_part, service_avp, services_part}
use Rattle.dia_base.specs.Codes.{cc_time, granted_service_unit}
use Rattle.cc_view.specs.Answer.Writing.{u32_avp, u64_avp, group_avp, spelling_of}
use Rattle.cc_view.proofs.Spelling.{spelling_of-append}

-- ---- additions

-- one AVP is spelled as it is written
pub one_written : (avp : RawAvp) → spelling_of (avp ∷ []) ≡ written avp
one_written avp = append-nil (written avp)

pub nothing_added : (old : List ℕ) (a : List RawAvp) → a ≡ [] → old ≡ old ++ spelling_of a
nothing_added old a e = sym (append-nil old) ∙ ap (λ (x : List RawAvp). old ++ spelling_of x) (sym e)

-- what was added to nothing
pub from_nothing : (d0 d1 : List ℕ) (a : List RawAvp) → d0 ≡ [] → d1 ≡ d0 ++ spelling_of a → d1 ≡ spelling_of a
from_nothing d0 d1 a e0 e1 = e1 ∙ ap (λ (x : List ℕ). x ++ spelling_of a) e0

-- one addition and then another
pub two_added : (d0 d1 d2 : List ℕ) (a b : List RawAvp) → d1 ≡ d0 ++ spelling_of a → d2 ≡ d1 ++ spelling_of b → d2 ≡ d0 ++ spelling_of (a ++ b)
two_added d0 d1 d2 a b e1 e2 =
    e2 ∙ ap (λ (x : List ℕ). x ++ spelling_of b) e1 ∙ append_assoc d0 (spelling_of a) (spelling_of b) ∙ ap (λ (x : List ℕ). d0 ++ x) (sym (spelling_of-append a b))

pub three_added : (d0 d1 d2 d3 : List ℕ) (a b c : List RawAvp) → d1 ≡ d0 ++ spelling_of a → d2 ≡ d1 ++ spelling_of b → d3 ≡ d2 ++ spelling_of c → d3 ≡ d0 ++ spelling_of (a ++ b ++ c)
three_added d0 d1 d2 d3 a b c e1 e2 e3 = two_added d0 d2 d3 (a ++ b) c (two_added d0 d1 d2 a b e1 e2) e3

pub five_added : (d0 d1 d2 d3 d4 d5 : List ℕ) (a b c d e : List RawAvp) → d1 ≡ d0 ++ spelling_of a → d2 ≡ d1 ++ spelling_of b → d3 ≡ d2 ++ spelling_of c → d4 ≡ d3 ++ spelling_of d
    → d5 ≡ d4 ++ spelling_of e → d5 ≡ d0 ++ spelling_of (a ++ b ++ c ++ d ++ e)
five_added d0 d1 d2 d3 d4 d5 a b c d e e1 e2 e3 e4 e5 =
    three_added d0 d3 d4 d5 (a ++ b ++ c) d e (three_added d0 d1 d2 d3 a b c e1 e2 e3) e4 e5

pub six_added : (d0 d1 d2 d3 d4 d5 d6 : List ℕ) (a b c d e f : List RawAvp) → d1 ≡ d0 ++ spelling_of a → d2 ≡ d1 ++ spelling_of b → d3 ≡ d2 ++ spelling_of c → d4 ≡ d3 ++ spelling_of d
    → d5 ≡ d4 ++ spelling_of e → d6 ≡ d5 ++ spelling_of f → d6 ≡ d0 ++ spelling_of (a ++ b ++ c ++ d ++ e ++ f)
six_added d0 d1 d2 d3 d4 d5 d6 a b c d e f e1 e2 e3 e4 e5 e6 =
    two_added d0 d5 d6 (a ++ b ++ c ++ d ++ e) f (five_added d0 d1 d2 d3 d4 d5 a b c d e e1 e2 e3 e4 e5) e6

-- the same where the second may lack memory
pub added_behind : {E : Type 0} (r : Result (Unit {0}) E) (d0 d1 d2 : List ℕ) (a b : List RawAvp) → d1 ≡ d0 ++ spelling_of a → OnOk r (d2 ≡ d1 ++ spelling_of b) → OnOk r (d2 ≡ d0 ++ spelling_of (a ++ b))
added_behind (Ok _) d0 d1 d2 a b e1 e2 = two_added d0 d1 d2 a b e1 e2
added_behind (Err _) d0 d1 d2 a b e1 e2 = tt

-- the same AVPs by another name
pub added_as : (old new : List ℕ) (a b : List RawAvp) → a ≡ b → new ≡ old ++ spelling_of a → new ≡ old ++ spelling_of b
added_as old new a b e h = h ∙ ap (λ (x : List RawAvp). old ++ spelling_of x) e

pub OnOk-as : {E : Type 0} (r : Result (Unit {0}) E) (old new : List ℕ) (a b : List RawAvp) → a ≡ b → OnOk r (new ≡ old ++ spelling_of a) → OnOk r (new ≡ old ++ spelling_of b)
OnOk-as (Ok _) old new a b e h = added_as old new a b e h
OnOk-as (Err _) old new a b e h = tt

-- ---- lengths

abbrev pub spelled_len : List RawAvp → ℕ
spelled_len avps = length (spelling_of avps)

pub spelled_len-append : (xs ys : List RawAvp) → spelled_len (xs ++ ys) ≡ spelled_len xs + spelled_len ys
spelled_len-append xs ys = ap length (spelling_of-append xs ys) ∙ length-append (spelling_of xs) (spelling_of ys)

pub spelled_len-u32 : (code n : ℕ) → spelled_len (u32_avp code n ∷ []) ≡ 12
spelled_len-u32 code n = refl

pub spelled_len-optional : (code : ℕ) (n : Option ℕ) → spelled_len (optional_u32 code n) ≤ 12
spelled_len-optional code (Some n) = lit≤ tt
spelled_len-optional code None = lit≤ tt

pub spelled_len-final : (last : Bool) → spelled_len (final_part last) ≤ 20
spelled_len-final true = lit≤ tt
spelled_len-final false = lit≤ tt

pub spelled_len-unit : (b : Bool) (m code n : ℕ) → spelled_len (group_avp granted_service_unit (cond b (u32_avp cc_time m) (u64_avp code n) ∷ []) ∷ []) ≤ 24
spelled_len-unit true m code n = lit≤ tt
spelled_len-unit false m code n = lit≤ tt

pub spelled_len-granted : (kind : Option Code) (n : Option ℕ) → spelled_len (granted_part kind n) ≤ 24
spelled_len-granted (Some kind) (Some n) = spelled_len-unit _ (min n 4294967295) kind.0 n
spelled_len-granted (Some kind) None = lit≤ tt
spelled_len-granted None n = lit≤ tt

pub spelled_len-unit_avp : (b : Bool) (m code n : ℕ) → spelled_len (cond b (u32_avp cc_time m) (u64_avp code n) ∷ []) ≤ 16
spelled_len-unit_avp true m code n = lit≤ tt
spelled_len-unit_avp false m code n = lit≤ tt

-- the members of a service's group
pub spelled_len-service : (granted ident group validity code final : List RawAvp) → spelled_len granted ≤ 24 → spelled_len ident ≤ 12 → spelled_len group ≤ 12 → spelled_len validity ≤ 12
    → spelled_len code ≤ 12 → spelled_len final ≤ 20 → spelled_len (granted ++ ident ++ group ++ validity ++ code ++ final) ≤ 92
spelled_len-service granted ident group validity code final a b c d e f =
    omega (
      arith,
      spelled_len-append granted ident,
      spelled_len-append (granted ++ ident) group,
      spelled_len-append (granted ++ ident ++ group) validity,
      spelled_len-append (granted ++ ident ++ group ++ validity) code,
      spelled_len-append (granted ++ ident ++ group ++ validity ++ code) final,
    )

-- ---- services

services_part-append : (xs ys : List ServiceReply) → services_part (xs ++ ys) ≡ services_part xs ++ services_part ys
services_part-append xs ys = ap (map service_avp) (filter-append (λ service. not service.bare) xs ys) ∙ map-append service_avp (filter (λ service. not service.bare) xs) (filter (λ service. not service.bare) ys)

one_service : (service : ServiceReply) (b : Bool) → service.bare ≡ b → services_part (service ∷ []) ≡ cond b [] (service_avp service ∷ [])
one_service service b e = ap (λ (x : Bool). map service_avp (cond (not x) (service ∷ []) [])) e ∙ shown b
  where
    shown : (b : Bool) → map service_avp (cond (not b) (service ∷ []) []) ≡ cond b [] (service_avp service ∷ [])
    shown true = refl
    shown false = refl

pub services_part-take : (xs : List ServiceReply) (i : ℕ) (service : ServiceReply) (b : Bool) → i < length xs → service ≡ get_or xs i service → service.bare ≡ b
    → services_part (take (i + 1) xs) ≡ services_part (take i xs) ++ cond b [] (service_avp service ∷ [])
services_part-take xs i service b h e is =
    let more : take (i + 1) xs ≡ take i xs ++ service ∷ [] = rw add-one (take-suc xs i service h ∙ ap (λ (x : ServiceReply). take i xs ++ x ∷ []) (sym e)) in
    ap services_part more ∙ services_part-append (take i xs) (service ∷ []) ∙ ap (λ (x : List RawAvp). services_part (take i xs) ++ x) (one_service service b is)
