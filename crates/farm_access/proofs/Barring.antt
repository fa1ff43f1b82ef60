-- Which places are among those of nodes that may not come up.
use Rattle.std.proofs.Common.{◌≡◌, ◌==◌, ℕ, ◌+◌, ◌<◌, zero, suc, Bool, true, false, not, List, [], ◌∷◌, ◌++◌, length, arith, refl, ap, ◌∙◌}
use Rattle.std.specs.Prelude.{◌||◌, ◌&&◌, slice_get}
use Rattle.std.specs.List.{list_any}
use Rattle.std.proofs.lemmas.Bool.Decides.{nat_tests}
use Rattle.std.specs.declared.net.ip_addr.IpAddr.{IpAddr}
use Rattle.dia_base.specs.declared.number.NodeNo.{NodeNo}
use Rattle.farm_access.specs.Rules.{barred_from, barred_unless, is_among, may_connect, may_connect_if}
use Rattle.farm_access.specs.declared.coming.AddressRule.{AddressRule}
use Rattle.farm_access.specs.declared.strict.Strictness.{Strictness}

abbrev pub is_in : ℕ → List NodeNo → Bool
is_in n nodes = list_any (λ other. other.0 == n) nodes

-- the place of one rule, before the places of those behind it
one_more : (b : Bool) (place n : ℕ) (nodes : List NodeNo) → is_in n (barred_unless b place ++ nodes) ≡ (not b && place == n) || is_in n nodes
one_more true place n nodes = refl
one_more false place n nodes = refl

apart : (place n : ℕ) → n < place → (place == n) ≡ false
apart place n h = grind (arith, nat_tests)

after : (place n k : ℕ) → n ≡ place + suc k → (place == n) ≡ false
after place n k e = grind (arith, nat_tests)

alike : (place n : ℕ) → n ≡ place + 0 → (place == n) ≡ true
alike place n e = grind (arith, nat_tests)

none_of : (b e r : Bool) → e ≡ false → r ≡ false → ((not b && e) || r) ≡ false
none_of true e r off none = none
none_of false true r off none = absurd cc
none_of false false r off none = none

those_behind : (b e r : Bool) → e ≡ false → ((not b && e) || r) ≡ r
those_behind true e r off = refl
those_behind false true r off = absurd cc
those_behind false false r off = refl

this_one : (b e r : Bool) → e ≡ true → r ≡ false → ((not b && e) || r) ≡ not b
this_one true e r is none = none
this_one false true r is none = refl
this_one false false r is none = absurd cc

-- the places of rules begin with that of the first one
none_below : (strict : Strictness) (callers : List NodeNo) (place : ℕ) (rules : List AddressRule) (address : IpAddr) (n : ℕ) → n < place
    → is_in n (barred_from strict callers place rules address) ≡ false
none_below strict callers place [] address n h = refl
none_below strict callers place (rule ∷ rules) address n h =
    one_more (may_connect strict rule address (is_among callers place)) place n (barred_from strict callers (place + 1) rules address)
    ∙ none_of (may_connect strict rule address (is_among callers place)) (place == n) (is_in n (barred_from strict callers (place + 1) rules address))
    (apart place n h) (none_below strict callers (place + 1) rules address n (omega arith))

pub barred_at : (strict : Strictness) (callers : List NodeNo) (place : ℕ) (rules : List AddressRule) (address : IpAddr) (k n : ℕ) → k < length rules
    → n ≡ place + k
    → is_in n (barred_from strict callers place rules address) ≡ not (may_connect_if strict (slice_get rules k) address (is_among callers n))
barred_at strict callers place [] address k n h e = absurd (omega arith)
barred_at strict callers place (rule ∷ rules) address zero n h e =
    let here : place ≡ n = omega arith in
    one_more (may_connect strict rule address (is_among callers place)) place n (barred_from strict callers (place + 1) rules address)
    ∙ this_one (may_connect strict rule address (is_among callers place)) (place == n) (is_in n (barred_from strict callers (place + 1) rules address))
    (alike place n e) (none_below strict callers (place + 1) rules address n (omega arith))
    ∙ ap (λ (m : ℕ). not (may_connect strict rule address (is_among callers m))) here
barred_at strict callers place (rule ∷ rules) address (suc k) n h e =
    one_more (may_connect strict rule address (is_among callers place)) place n (barred_from strict callers (place + 1) rules address)
    ∙ those_behind (may_connect strict rule address (is_among callers place)) (place == n) (is_in n (barred_from strict callers (place + 1) rules address))
    (after place n k e) ∙ barred_at strict callers (place + 1) rules address k n (omega arith) (omega arith)
