-- Octets have no fault exactly where they are an identity.
use Rattle.std.proofs.Common.{◌≡◌, ℕ, ◌≤◌, List, [], ◌∷◌, length, Bool, true, false, cond, ltb, leb, not, All, get_or, Option, Some, None, refl, ap, arith}
use Rattle.std.specs.Prelude.{position, option_map}
use Rattle.std.specs.List.{position_or_len}
use Rattle.std.proofs.lemmas.Bool.{ltb-false, le-ltb, leb-true, le-leb, and_parts, and_from}
use Rattle.std.proofs.lemmas.List.Sums.{prefix_len_passes, prefix_len_is}
use Rattle.dia_base.specs.declared.identity.IdentityFault.{IdentityFault}
use Rattle.dia_base.specs.declared.identity.IdentityFault.TheVariants.{TooLong, BadOctet}
use Rattle.dia_base.specs.Identity.{IsIdentity, visible, fault_of}

abbrev Visible : ℕ → Type 0
Visible octet = (33 ≤ octet) × (octet ≤ 126)

visible_from : (octet : ℕ) → Visible octet → visible octet ≡ true
visible_from octet v = and_from (leb 33 octet) (leb octet 126) (le-leb 33 octet v.0) (le-leb octet 126 v.1)

visible_is : (octet : ℕ) → visible octet ≡ true → Visible octet
visible_is octet e = let parts = and_parts (leb 33 octet) (leb octet 126) e in (leb-true 33 octet parts.0, leb-true octet 126 parts.1)

twice : (b : Bool) → not (not b) ≡ true → b ≡ true
twice true e = refl
twice false e = e

twice_back : (b : Bool) → b ≡ true → not (not b) ≡ true
twice_back true e = refl
twice_back false e = e

abbrev hidden : ℕ → Bool
hidden octet = not (visible octet)

-- no octet is hidden where each is visible
position-none : (octets : List ℕ) → All Visible octets → position hidden octets ≡ None
position-none octets all =
    let whole : position_or_len hidden octets ≡ length octets =
    prefix_len_is (λ octet. not (hidden octet)) octets (length octets) 0 (omega arith) (λ k lt. twice_back (visible (get_or octets k 0)) (visible_from (get_or octets k 0) (all k 0 lt))) (λ lt. absurd (omega arith)) in
    let past : ltb (position_or_len hidden octets) (length octets) ≡ false = le-ltb _ _ (omega arith) in
    ap (λ (b : Bool). cond b (Some (position_or_len hidden octets)) None) past

some_or_none : (b : Bool) (x : ℕ) → cond b (Some x) None ≡ None → b ≡ false
some_or_none true x e = absurd cc
some_or_none false x e = refl

position-all : (octets : List ℕ) → position hidden octets ≡ None → All Visible octets
position-all octets e k d lt =
    let whole : length octets ≤ position_or_len hidden octets = ltb-false _ _ (some_or_none _ _ e) in
    visible_is (get_or octets k d) (twice (visible (get_or octets k d)) (prefix_len_passes (λ octet. not (hidden octet)) octets k d (omega arith)))

abbrev bad : Option ℕ → Option IdentityFault
bad o = option_map (λ at. BadOctet at) o

none_bad : (o : Option ℕ) → bad o ≡ None → o ≡ None
none_bad None e = refl
none_bad (Some at) e = absurd cc

tested : (long : Bool) (o : Option ℕ) → cond long (Some TooLong) (bad o) ≡ None → (long ≡ false) × (o ≡ None)
tested true o e = absurd cc
tested false o e = (refl, none_bad o e)

both : (long : Bool) (o : Option ℕ) → long ≡ false → o ≡ None → cond long (Some TooLong) (bad o) ≡ None
both true o p q = absurd cc
both false None p q = refl
both false (Some at) p q = absurd cc

pub IsIdentity-no_fault : (octets : List ℕ) → fault_of octets ≡ None → IsIdentity octets
IsIdentity-no_fault [] e = absurd cc
IsIdentity-no_fault (b ∷ bs) e =
    let t = tested (ltb 255 (length (b ∷ bs))) (position hidden (b ∷ bs)) e in
    record { least = omega arith; most = ltb-false 255 (length (b ∷ bs)) t.0; visible = position-all (b ∷ bs) t.1 }

pub fault_of-identity : (octets : List ℕ) → IsIdentity octets → fault_of octets ≡ None
fault_of-identity [] h = let one : 1 ≤ 0 = h.least in absurd (omega arith)
fault_of-identity (b ∷ bs) h = both (ltb 255 (length (b ∷ bs))) (position hidden (b ∷ bs)) (le-ltb 255 (length (b ∷ bs)) h.most) (position-none (b ∷ bs) h.visible)
