-- Where a connection stands among those that are in the order of their numbers.
use Rattle.std.proofs.Common.{◌≡◌, ℕ, zero, suc, ◌<◌, ◌≤◌, ◌⊎◌, inl, inr, Bool, true, false, ltb, List, [], ◌∷◌, length, get_or, Option, Some, None, IfNone, sym, ap, ◌∙◌, arith}
use Rattle.std.specs.List.Sorted.{IsPartitionedBy, IsPartitionPoint}
use Rattle.std.proofs.lemmas.Bool.{cases_lt, lt-ltb, ltb-false, ltb-true}
use Rattle.dia_base.specs.declared.number.ConnId.{ConnId}
use Rattle.farm_connections.specs.declared.link.Link.{Link}
use Rattle.farm_connections.specs.Desks.{marks_of}
use Rattle.farm_connections.specs.Sending.{AreInOrder, HasNone}
use Rattle.farm_connections.specs.Turns.{AreRising}

above : {R W : Type 0} (low : ℕ) (links : List (Link R W)) (k : ℕ) (d : Link R W) → AreRising low (marks_of links) → k < length links
    → low < (get_or links k d).id.0
above low [] k d rising within = absurd (omega (arith, within))
above low (first ∷ links) zero d rising within = rising.0
above low (first ∷ links) (suc k) d rising within = omega (arith, rising.0, above first.id.0 links k d rising.1 (omega (arith, within)))

-- the number of each is below those of all behind it
rises : {R W : Type 0} (low : ℕ) (links : List (Link R W)) (i j : ℕ) (d : Link R W) → AreRising low (marks_of links) → i < j → j < length links
    → (get_or links i d).id.0 < (get_or links j d).id.0
rises low [] i j d rising less within = absurd (omega (arith, within))
rises low (first ∷ links) zero zero d rising less within = absurd (omega (arith, less))
rises low (first ∷ links) zero (suc j) d rising less within = above first.id.0 links j d rising.1 (omega (arith, within))
rises low (first ∷ links) (suc i) zero d rising less within = absurd (omega (arith, less))
rises low (first ∷ links) (suc i) (suc j) d rising less within = rises first.id.0 links i j d rising.1 (omega (arith, less)) (omega (arith, within))

-- its number is below this one
abbrev pub is_below : {R W : Type 0} → ConnId → Link R W → Bool
is_below conn link = ltb link.id.0 conn.0

below_first : {R W : Type 0} (links : List (Link R W)) (conn : ConnId) → AreInOrder links → (i j : ℕ) (d : Link R W) → j < length links → i ≤ j
    → (i < j) ⊎ (j ≤ i) → is_below conn (get_or links j d) ≡ true → is_below conn (get_or links i d) ≡ true
below_first links conn order i j d within le (inl less) is =
    let before : (get_or links i d).id.0 < (get_or links j d).id.0 = rises 0 links i j d order less within in
    let below : (get_or links j d).id.0 < conn.0 = ltb-true _ _ is in
    lt-ltb _ _ (omega (arith, before, below))
below_first links conn order i j d within le (inr more) is =
    let same : j ≡ i = omega (arith, le, more) in ap (λ (k : ℕ). is_below conn (get_or links k d)) (sym same) ∙ is

-- those of lower numbers stand before the others
pub parted : {R W : Type 0} (links : List (Link R W)) (conn : ConnId) → AreInOrder links → IsPartitionedBy (is_below conn) links
parted links conn order i j d le within is = below_first links conn order i j d within le (cases_lt i j) is

apart : (n m : ℕ) → n ≡ m → n < m → ⊥
apart n m same less = omega (arith, same, less)

not_below : {R W : Type 0} (links : List (Link R W)) (conn : ConnId) (place k : ℕ) (link : Link R W) → AreInOrder links
    → IsPartitionPoint (λ y. is_below conn y ≡ true) (λ y. is_below conn y ≡ false) links place
    → (place < length links → link ≡ get_or links place link → ⊥) → k < length links → link ≡ get_or links k link → (get_or links k link).id.0 ≡ conn.0
    → (k < place) ⊎ (place ≤ k) → (place < k) ⊎ (k ≤ place) → ⊥
not_below links conn place k link order point other within read is (inl before) side =
    apart (get_or links k link).id.0 conn.0 is (ltb-true _ _ (point.0 k link (omega arith) before))
not_below links conn place k link order point other within read is (inr from) (inl behind) =
    let first : conn.0 ≤ (get_or links place link).id.0 = ltb-false _ _ (point.1 place link (omega arith) (omega (arith, behind, within))) in
    let more : (get_or links place link).id.0 < (get_or links k link).id.0 = rises 0 links place k link order behind within in
    let wrong : ⊥ = omega (arith, first, more, is) in
    wrong
not_below links conn place k link order point other within read is (inr from) (inr to) =
    let same : k ≡ place = omega (arith, from, to) in
    other (omega (arith, same, within)) (read ∙ ap (λ (i : ℕ). get_or links i link) same)

-- where the one at the place has another number, or is none, none has the number
pub has_none : {R W : Type 0} (links : List (Link R W)) (conn : ConnId) (place : ℕ) → AreInOrder links
    → IsPartitionPoint (λ y. is_below conn y ≡ true) (λ y. is_below conn y ≡ false) links place
    → ((link : Link R W) → place < length links → link ≡ get_or links place link → link.id ≡ conn → ⊥) → HasNone links conn
has_none {R} {W} links conn place order point other k link within read is =
    not_below links conn place k link order point (λ inside there. other link inside there is) within read
    (ap (λ (l : Link R W). l.id.0) (sym read) ∙ ap (λ (c : ConnId). c.0) is) (cases_lt k place) (cases_lt place k)

pub if_none : (found : Option ℕ) (P : Type 0) → P → IfNone found P
if_none None P p = p
if_none (Some place) P p = tt

pub same_number : {R W : Type 0} (link other : Link R W) (conn : ConnId) → other ≡ link → link.id ≡ conn → other.id.0 ≡ conn.0
same_number {R} {W} link other conn same is = ap (λ (l : Link R W). l.id.0) same ∙ ap (λ (c : ConnId). c.0) is
