-- Services pass the test of their limits exactly where they are within them.
use Rattle.std.proofs.Common.{◌≡◌, ◌≢◌, ℕ, suc, ◌<◌, ◌^◌, Bool, true, false, not, ◌&&◌, ◌||◌, leb, nat_lt, List, [], ◌∷◌, length, All, Option, Some, None, eq-eqb, refl, sym, ap, ◌∙◌, arith}
use Rattle.std.specs.Prelude.{AllPairs, nat_eq}
use Rattle.std.specs.List.{list_all, list_any}
use Rattle.std.specs.Option.{option_eq}
use Rattle.std.proofs.lemmas.Bool.{and_parts, eqb-true, le-leb, leb-true, lt-ltb, ltb-true, or_parts}
use Rattle.std.proofs.lemmas.List.Elements.{All-cons, All-head, All-nil, All-tail}
use Rattle.std.proofs.lemmas.List.Kept.{AllPairs-cons}
use Rattle.cc_view.specs.declared.request.Service.{Service}
use Rattle.cc_view.specs.declared.request.ServiceName.{ServiceName}
use Rattle.cc_view.specs.Request.ServiceLimits.{HasSmallSums, WithinLimits, name_of}
use Rattle.cc_view.specs.RequestView.Content.{are_within_limits, has_small_sums, have_names_of_their_own, same_name}

-- ---- names

abbrev IsOther : Service → Service → Type 0
IsOther service other = name_of service ≢ name_of other

same-itself : (n : Option ℕ) → option_eq nat_eq n n ≡ true
same-itself (Some n) = eq-eqb n n refl
same-itself None = refl

both : (a b : Bool) → a ≡ true → b ≡ true → (a && b) ≡ true
both true b p q = q
both false b p q = absurd cc

abbrev same_as : ServiceName → ServiceName → Bool
same_as name other = option_eq nat_eq name.group other.group && option_eq nat_eq name.ident other.ident

differ : (service other : Service) → same_name service other ≡ false → IsOther service other
differ service other none e =
    let itself : same_as (name_of service) (name_of service) ≡ true =
    both (option_eq nat_eq service.group service.group) (option_eq nat_eq service.ident service.ident) (same-itself service.group) (same-itself service.ident) in
    let same : same_name service other ≡ true = ap (same_as (name_of service)) (sym e) ∙ itself in
    absurd cc

not_named : (b : Bool) → not b ≡ true → b ≡ false
not_named true e = absurd cc
not_named false e = refl

others : (service : Service) (services : List Service) → list_any (same_name service) services ≡ false → All (IsOther service) services
others service [] none = All-nil (IsOther service)
others service (other ∷ services) none =
    All-cons (IsOther service) other services (differ service other (or_parts (same_name service other) (list_any (same_name service) services) none).0)
    (others service services (or_parts (same_name service other) (list_any (same_name service) services) none).1)

no_pairs : AllPairs IsOther []
no_pairs i j d lt long = absurd (omega (arith, long))

own_names : (services : List Service) → have_names_of_their_own services ≡ true → AllPairs IsOther services
own_names [] e = no_pairs
own_names (service ∷ services) e =
    let named = list_any (same_name service) services in
    AllPairs-cons IsOther service services (others service services (not_named named (and_parts (not named) (have_names_of_their_own services) e).0))
    (own_names services (and_parts (not named) (have_names_of_their_own services) e).1)

-- ---- sums

small_sums : (sums : List ℕ) → list_all (λ sum. nat_lt sum (2 ^ 78)) sums ≡ true → All (λ sum. sum < 2 ^ 78) sums
small_sums [] e = All-nil (λ sum. sum < 2 ^ 78)
small_sums (sum ∷ sums) e =
    let later = list_all (λ sum. nat_lt sum (2 ^ 78)) sums in
    All-cons (λ sum. sum < 2 ^ 78) sum sums (ltb-true sum (2 ^ 78) (and_parts (nat_lt sum (2 ^ 78)) later e).0) (small_sums sums (and_parts (nat_lt sum (2 ^ 78)) later e).1)

small : (services : List Service) → list_all has_small_sums services ≡ true → All HasSmallSums services
small [] e = All-nil HasSmallSums
small (service ∷ services) e =
    All-cons HasSmallSums service services (small_sums service.used (and_parts (has_small_sums service) (list_all has_small_sums services) e).0)
    (small services (and_parts (has_small_sums service) (list_all has_small_sums services) e).1)

pub within_limits : (services : List Service) → are_within_limits services ≡ true → WithinLimits services
within_limits services e =
    let few = leb (length services) 32 in
    let names = have_names_of_their_own services in
    let sums = list_all has_small_sums services in
    let front = (and_parts (few && names) sums e).0 in
    record {
      few = leb-true (length services) 32 (and_parts few names front).0;
      own_names = own_names services (and_parts few names front).1;
      small = small services (and_parts (few && names) sums e).1;
    }

-- ---- services within the limits pass the test

option_same : (a b : Option ℕ) → option_eq nat_eq a b ≡ true → a ≡ b
option_same (Some a) (Some b) e = ap Some (eqb-true a b e)
option_same (Some a) None e = absurd cc
option_same None (Some b) e = absurd cc
option_same None None e = refl

named_alike : (service other : Service) → same_name service other ≡ true → name_of service ≡ name_of other
named_alike service other e =
    let p = and_parts (option_eq nat_eq service.group other.group) (option_eq nat_eq service.ident other.ident) e in
    let group = option_same service.group other.group p.0 in
    let ident = option_same service.ident other.ident p.1 in
    cc

not_alike : (service other : Service) (b : Bool) → same_name service other ≡ b → IsOther service other → same_name service other ≡ false
not_alike service other true e h = absurd (h (named_alike service other e))
not_alike service other false e h = e

nor : (a b : Bool) → a ≡ false → b ≡ false → (a || b) ≡ false
nor true b p q = absurd cc
nor false b p q = q

unnamed : (service : Service) (services : List Service) → All (IsOther service) services → list_any (same_name service) services ≡ false
unnamed service [] all = refl
unnamed service (other ∷ services) all =
    nor (same_name service other) (list_any (same_name service) services) (not_alike service other (same_name service other) refl (All-head (IsOther service) other services all))
    (unnamed service services (All-tail (IsOther service) other services all))

have_names : (services : List Service) → AllPairs IsOther services → have_names_of_their_own services ≡ true
have_names [] pairs = refl
have_names (service ∷ services) pairs =
    let first : All (IsOther service) services = λ k d lt. pairs 0 (suc k) d (omega arith) (omega arith) in
    let others : AllPairs IsOther services = λ i j d lt long. pairs (suc i) (suc j) d (omega arith) (omega arith) in
    both (not (list_any (same_name service) services)) (have_names_of_their_own services) (ap not (unnamed service services first)) (have_names services others)

pass_sums : (sums : List ℕ) → All (λ sum. sum < 2 ^ 78) sums → list_all (λ sum. nat_lt sum (2 ^ 78)) sums ≡ true
pass_sums [] all = refl
pass_sums (sum ∷ sums) all =
    both (nat_lt sum (2 ^ 78)) (list_all (λ sum. nat_lt sum (2 ^ 78)) sums) (lt-ltb sum (2 ^ 78) (All-head (λ sum. sum < 2 ^ 78) sum sums all)) (pass_sums sums (All-tail (λ sum. sum < 2 ^ 78) sum sums all))

pass_small : (services : List Service) → All HasSmallSums services → list_all has_small_sums services ≡ true
pass_small [] all = refl
pass_small (service ∷ services) all =
    both (has_small_sums service) (list_all has_small_sums services) (pass_sums service.used (All-head HasSmallSums service services all)) (pass_small services (All-tail HasSmallSums service services all))

pub limits_pass : (services : List Service) → WithinLimits services → are_within_limits services ≡ true
limits_pass services within =
    both (leb (length services) 32 && have_names_of_their_own services) (list_all has_small_sums services)
    (both (leb (length services) 32) (have_names_of_their_own services) (le-leb (length services) 32 within.few) (have_names services within.own_names))
    (pass_small services within.small)
