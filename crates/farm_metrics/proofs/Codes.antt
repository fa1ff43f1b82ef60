-- The Result-Code of AVPs, from one AVP to the next.
use Rattle.std.proofs.Common.{◌≡◌, ◌≢◌, ◌⊎◌, inl, inr, ◌<◌, ◌≤◌, ◌+◌, ◌-◌, ◌^◌, ◌∙◌, ℕ, min, zero, suc, List, [], Option, Some, None, length, drop, take, ap, refl, sym, arith, length-drop}
use Rattle.std.proofs.lemmas.Grind.{common_steps}
use Rattle.std.proofs.lemmas.Bool.{cases_lt}
use Rattle.std.proofs.lemmas.List.{drop-drop, drop_all, take_all}
use Rattle.farm_metrics.specs.Reading.{code_in, code_or, code_within, room_of}

-- no octets have a code
pub code_of_none : (count : ℕ) → code_within count [] ≡ 0
code_of_none zero = refl
code_of_none (suc count) = refl

or_others : (found : Option ℕ) (room others : ℕ) → found ≡ None → room ≢ 0 → others ≡ code_or found room others
or_others (Some code) room others none some = absurd cc
or_others None room others none some = grind (arith, common_steps)

-- of so many AVPs at most it is the first code
abbrev pub HasCode : List ℕ → ℕ → Type 0
HasCode avps code = (count : ℕ) × (length avps ≤ count) × (code_within count avps ≡ code)

-- an AVP that is no Result-Code and has room is passed over
pub code_behind : (count : ℕ) (avps : List ℕ) → 0 < length avps → length avps ≤ count → code_in avps ≡ None → room_of avps ≢ 0 → HasCode (drop (room_of avps) avps) (code_within count avps)
code_behind zero avps some within none room = absurd (omega arith)
code_behind (suc count) avps some within none room =
    (count, simp length-drop (omega arith), or_others (code_in avps) (room_of avps) (code_within count (drop (room_of avps) avps)) none room)

or_first : (found : Option ℕ) (room others code : ℕ) → found ≡ Some code → code ≡ code_or found room others
or_first found room others code is = simp is

-- an AVP that is a Result-Code is the first one
pub code_first : (count : ℕ) (avps : List ℕ) (code : ℕ) → 0 < length avps → length avps ≤ count → code_in avps ≡ Some code → code ≡ code_within count avps
code_first zero avps code some within is = absurd (omega arith)
code_first (suc count) avps code some within is = or_first (code_in avps) (room_of avps) (code_within count (drop (room_of avps) avps)) code is

or_none : (found : Option ℕ) (room others : ℕ) → found ≡ None → room ≡ 0 → 0 ≡ code_or found room others
or_none found room others none nought = simp (none, nought)

-- nothing is behind an AVP whose header is not whole
pub code_without : (count : ℕ) (avps : List ℕ) → code_in avps ≡ None → room_of avps ≡ 0 → 0 ≡ code_within count avps
code_without zero avps none nought = refl
code_without (suc count) avps none nought = or_none (code_in avps) (room_of avps) (code_within count (drop (room_of avps) avps)) none nought

drop_by : (body : List ℕ) (at room next : ℕ) → (at + room < length body) ⊎ (length body ≤ at + room) → length body < 2 ^ 64 → next ≡ min (at + room) (2 ^ 64 - 1) → drop next body ≡ drop room (drop at body)
drop_by body at room next (inl within) fits is =
    let e : next ≡ at + room = omega arith in
    ap (λ (n : ℕ). drop n body) e ∙ sym (drop-drop room at body)
drop_by body at room next (inr beyond) fits is =
    let past : length body ≤ next = omega arith in
    drop_all next body past ∙ sym (drop-drop room at body ∙ drop_all (at + room) body beyond)

-- what stands behind an AVP, also where the sum of both numbers stays at the greatest one
pub drop_behind : (body : List ℕ) (at room next : ℕ) → length body < 2 ^ 64 → next ≡ min (at + room) (2 ^ 64 - 1) → drop next body ≡ drop room (drop at body)
drop_behind body at room next fits is = drop_by body at room next (cases_lt (at + room) (length body)) fits is

-- what stands from a place on
pub take_behind : (body : List ℕ) (at : ℕ) → take (length body - at) (drop at body) ≡ drop at body
take_behind body at = take_all (length body - at) (drop at body) (simp length-drop (omega arith))
