-- What is collected at one event comes to few octets.
use Rattle.std.proofs.Common.{◌≡◌, ◌≤◌, ◌<◌, ◌+◌, ℕ, List, [], ◌∷◌, ◌++◌, Ok, Some, length, refl, sym, subst, ◌∙◌, ap, append-nil, append_assoc, arith}
use Rattle.std.specs.Prelude.{All}
use Rattle.std.proofs.lemmas.List.Elements.{All-cons, All-head, All-nil, All-tail}
use Rattle.std.proofs.lemmas.List.Sums.{sum_by-append, sum_by-cons}
use Rattle.std.proofs.Math.Nat.{mul-le-mul_right}
use Rattle.dia_message.specs.Traffic.{Traffic}
use Rattle.pool_node.specs.Measure.{AddsFew, AddsOctets, AddsOne, AreAtMost, IsFew, item_length, octets_in}

all_left : {X : Type 0} (P : X → Type 0) (xs ys : List X) → All P (xs ++ ys) → All P xs
all_left P [] ys h = All-nil P
all_left P (x ∷ xs) ys h = All-cons P x xs (All-head P x (xs ++ ys) h) (all_left P xs ys (All-tail P x (xs ++ ys) h))

all_right : {X : Type 0} (P : X → Type 0) (xs ys : List X) → All P (xs ++ ys) → All P ys
all_right P [] ys h = h
all_right P (x ∷ xs) ys h = all_right P xs ys (All-tail P x (xs ++ ys) h)

-- one message at most is no longer than each is
one_at_most : (more : Traffic) (most : ℕ) → length more ≤ 1 → AreAtMost most more → octets_in more ≤ most
one_at_most [] most short all = omega arith
one_at_most (item ∷ []) most short all = omega (arith, sum_by-cons item_length item [], All-head (λ item. item_length item ≤ most) item [] all)
one_at_most (item ∷ other ∷ items) most short all = absurd (omega (arith, short))

-- behind what is sent nothing was put yet
pub no_octets : (before : Traffic) → AddsOctets 0 before before
no_octets before = record { more = []; is = sym (append-nil before); counts = refl }

pub octets_more : (octets more all : ℕ) (before mid after : Traffic) → AddsOctets octets before mid → AddsOne (Ok (Some more)) mid after → all ≡ octets + more → AddsOctets all before after
octets_more octets more all before mid after a one is = record {
  more = a.more ++ one.0;
  is = one.1 ∙ ap (λ (sent : Traffic). sent ++ one.0) a.is ∙ append_assoc before a.more one.0;
  counts = omega (arith, sum_by-append item_length a.more one.0, a.counts, one.2, is);
}

-- fewer octets than end the collecting
pub few_octets : (octets : ℕ) (before after : Traffic) → AddsOctets octets before after → octets < 262144 → AddsFew 1 before after
few_octets octets before after a under = record { more = a.more; is = a.is; few = λ most all. omega (arith, a.counts, under) }

-- the same, and one message more
pub few_at_last : (octets more : ℕ) (before mid after : Traffic) → AddsOctets octets before mid → octets < 262144 → AddsOne (Ok (Some more)) mid after → AddsFew 1 before after
few_at_last octets more before mid after a under one = record {
  more = a.more ++ one.0;
  is = one.1 ∙ ap (λ (sent : Traffic). sent ++ one.0) a.is ∙ append_assoc before a.more one.0;
  few = λ most all.
      let last = one_at_most one.0 most one.3 (all_right (λ item. item_length item ≤ most) a.more one.0 all) in
      omega (arith, sum_by-append item_length a.more one.0, a.counts, under, last);
}

-- of no front anything
pub few_nothing : (before : Traffic) → AddsFew 0 before before
few_nothing before = record { more = []; is = sym (append-nil before); few = λ most all. omega arith }

-- one front more
pub few_more : (fronts all : ℕ) (before mid after : Traffic) → AddsFew fronts before mid → AddsFew 1 mid after → fronts < all → AddsFew all before after
few_more fronts all before mid after a b below = record {
  more = a.more ++ b.more;
  is = b.is ∙ ap (λ (sent : Traffic). sent ++ b.more) a.is ∙ append_assoc before a.more b.more;
  few = λ most each.
      let first = a.few most (all_left (λ item. item_length item ≤ most) a.more b.more each) in
      let then = b.few most (all_right (λ item. item_length item ≤ most) a.more b.more each) in
      let within : fronts + 1 ≤ all = omega (arith, below) in
      omega (arith, sum_by-append item_length a.more b.more, first, then, mul-le-mul_right (262143 + most) within);
}

-- what goes out is what was put behind nothing
pub goes_out : (fronts : ℕ) (none put sent : Traffic) → none ≡ [] → AddsFew fronts none put → sent ≡ put → IsFew fronts sent
goes_out fronts none put sent empty a same =
    let is : sent ≡ a.more = same ∙ a.is ∙ ap (λ (first : Traffic). first ++ a.more) empty in
    subst (IsFew fronts) (sym is) a.few
