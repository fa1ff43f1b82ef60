-- Worked examples: requests of c1.example with room for its Route-Record, and without it.
use Rattle.std.proofs.Common.{◌≡◌, ◌∙◌, ℕ, ◌+◌, true, false, List, [], ◌∷◌, length, length-append, nat_lt, replicate, codes, Result, Ok, Err, refl, ap}
use Rattle.dia_avp.specs.declared.avp.RawAvp.{RawAvp}
use Rattle.dia_avp.specs.AvpList.{padding_of, with_padding, written}
use Rattle.cc_view.specs.Refusal.{avps_of}
use Rattle.cc_view.specs.declared.refusal.Refusal.{Refusal}
use Rattle.relay_routes.specs.Routing.{record_of}
use Rattle.relay_core.specs.Forwarding.{recorded, is_too_long}
use Rattle.relay_core.specs.RuleExample.{all_up, avp, nowhere, ocs, of_body, told_by, way_of}
use Rattle.relay_core.specs.Verdict.{verdict}
use Rattle.relay_core.proofs.Rules.{verdict_by_hop, verdict-too_long}

abbrev c1_name : List ℕ
c1_name = codes "c1.example"

abbrev zeros : ℕ → List ℕ
zeros size = replicate (padding_of size) 0

padded : (body : List ℕ) (size : ℕ) → length body ≡ size → length (with_padding body) ≡ size + length (zeros size)
padded body size e = length-append body (zeros (length body)) ∙ ap (λ (n : ℕ). n + length (zeros n)) e

recorded-length : (body : List ℕ) (size : ℕ) → length body ≡ size → length (recorded c1_name body) ≡ size + length (zeros size) + 20
recorded-length body size e = length-append (with_padding body) (written (record_of c1_name)) ∙ ap (λ (n : ℕ). n + 20) (padded body size e)

has_room : (body : List ℕ) → length body ≡ 262104 → is_too_long (recorded c1_name body) ≡ false
has_room body e = ap (λ (n : ℕ). nat_lt 262144 (20 + n)) (recorded-length body 262104 e)

has_none : (body : List ℕ) → length body ≡ 262108 → is_too_long (recorded c1_name body) ≡ true
has_none body e = ap (λ (n : ℕ). nat_lt 262144 (20 + n)) (recorded-length body 262108 e)

-- by the AVPs that the body splits into
by_avps : (body : List ℕ) (avps : List RawAvp) → avps_of body ≡ Ok avps → way_of all_up (of_body body) ≡ told_by (verdict all_up c1_name (of_body body) (Ok avps))
by_avps body avps e = ap (λ (r : Result (List RawAvp) Refusal). told_by (verdict all_up c1_name (of_body body) r)) e

pub longest : (body value : List ℕ) → avps_of body ≡ Ok (ocs ∷ avp 33 value ∷ []) → length body ≡ 262104 → way_of all_up (of_body body) ≡ Ok 2
longest body value e size =
    by_avps body (ocs ∷ avp 33 value ∷ []) e ∙ ap told_by (verdict_by_hop all_up c1_name (of_body body) (ocs ∷ avp 33 value ∷ []) refl refl refl refl (has_room body size))

pub too_long : (body value : List ℕ) → avps_of body ≡ Ok (ocs ∷ avp 33 value ∷ []) → length body ≡ 262108 → way_of all_up (of_body body) ≡ Err 3002
too_long body value e size =
    by_avps body (ocs ∷ avp 33 value ∷ []) e ∙ ap told_by (verdict-too_long all_up c1_name (of_body body) (ocs ∷ avp 33 value ∷ []) refl refl refl refl (has_none body size))

pub sixth : (body value : List ℕ) → avps_of body ≡ Ok (nowhere ∷ avp 33 value ∷ []) → length body ≡ 262108 → way_of all_up (of_body body) ≡ Err 3002
sixth body value e size =
    by_avps body (nowhere ∷ avp 33 value ∷ []) e ∙ ap told_by (verdict-too_long all_up c1_name (of_body body) (nowhere ∷ avp 33 value ∷ []) refl refl refl refl (has_none body size))

pub fifth : (body value : List ℕ) → avps_of body ≡ Ok (avp 33 value ∷ []) → length body ≡ 262108 → way_of all_up (of_body body) ≡ Err 3007
fifth body value e size = by_avps body (avp 33 value ∷ []) e
