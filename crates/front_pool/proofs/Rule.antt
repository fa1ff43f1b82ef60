-- Each step of a queue's users keeps its rule.
use Rattle.std.proofs.Common.{◌≡◌, ◌≢◌, ℕ, Bool, true, false, true≢false, ◌+◌, ◌<◌, ◌≤◌, zero, suc, List, [], ◌∷◌, ◌++◌, length, get_or, set, refl, sym, ap, ◌∙◌, subst, ⊎_elim, arith}
use Rattle.std.specs.Prelude.{All, MatchBool, sum_by, ⊤}
use mathlib.Core.Option.{some, some-injective, some-ne-none}
use lib.ListN.{get_elem?}
use Rattle.std.proofs.lemmas.List.Sums.{sum_by-append, sum_by-cons}
use Rattle.std.proofs.lemmas.List.Elements.{All-append}
use Rattle.crossbeam_queue.specs.Fifo.{Forks, Learns, Pops, Pushes}
use Rattle.crossbeam_queue.proofs.Lists.{at_set, at_snoc, set_again}
use Rattle.front_pool.specs.declared.queues.Moves.{Moves}
use Rattle.front_pool.specs.Moving.{Anything, AreUsers, Balanced, GivesFinished, GivesJobs, of_pool, of_worker, with_put, with_taken}

-- the sum after a change of one user
sum_set :
    {V : Type 0} (f : V → ℕ) (views : List V) (user : ℕ) (v w : V) → get_elem? views user ≡ some v
    → sum_by f (set views user w) + f v ≡ sum_by f views + f w
sum_set f [] user v w at = absurd (some-ne-none v (sym at))
sum_set f (u ∷ us) zero v w at =
    let same : f u ≡ f v = ap f (some-injective u v at) in
    let before : sum_by f (u ∷ us) ≡ f u + sum_by f us = sum_by-cons f u us in
    let after : sum_by f (w ∷ us) ≡ f w + sum_by f us = sum_by-cons f w us in
    let sum : sum_by f (w ∷ us) + f v ≡ sum_by f (u ∷ us) + f w = omega (arith, same, before, after) in
    sum
sum_set f (u ∷ us) (suc user) v w at =
    let rest : sum_by f (set us user w) + f v ≡ sum_by f us + f w = sum_set f us user v w at in
    let before : sum_by f (u ∷ us) ≡ f u + sum_by f us = sum_by-cons f u us in
    let after : sum_by f (u ∷ set us user w) ≡ f u + sum_by f (set us user w) = sum_by-cons f u (set us user w) in
    let sum : sum_by f (u ∷ set us user w) + f v ≡ sum_by f (u ∷ us) + f w = omega (arith, rest, before, after) in
    sum

sum_nothing : {V : Type 0} (f : V → ℕ) (views : List V) → ((j : ℕ) (u : V) → get_elem? views j ≡ some u → f u ≡ 0) → sum_by f views ≡ 0
sum_nothing f [] none = refl
sum_nothing f (u ∷ us) none =
    let first : f u ≡ 0 = none 0 u refl in
    let rest : sum_by f us ≡ 0 = sum_nothing f us (λ j w e. none (suc j) w e) in
    let sum : sum_by f (u ∷ us) ≡ f u + sum_by f us = sum_by-cons f u us in
    let all : sum_by f (u ∷ us) ≡ 0 = omega (arith, first, rest, sum) in
    all

one_at : {T : Type 0} (Is : T → Type 0) (x : T) → Is x → (k : ℕ) (d : T) → k < length (x ∷ []) → Is (get_or (x ∷ []) k d)
one_at Is x is zero d below = is
one_at Is x is (suc k) d below = absurd (omega arith)

all_one : {T : Type 0} (Is : T → Type 0) (x : T) → Is x → All Is (x ∷ [])
all_one Is x is = λ k d below. one_at Is x is k d below

pub all_append : {T : Type 0} (Is : T → Type 0) (items : List T) (x : T) → All Is items → Is x → All Is (items ++ x ∷ [])
all_append Is items x all is = All-append Is items (x ∷ []) all (all_one Is x is)

all_rest : {T : Type 0} (Is : T → Type 0) (x : T) (items : List T) → All Is (x ∷ items) → All Is items
all_rest Is x items all = λ k d below. all (suc k) d (omega arith)

-- ---- the users of a queue

users_set :
    {T : Type 0} (Uses : Moves T → Type 0) (users : List (Moves T)) (user : ℕ) (v w : Moves T) → AreUsers Uses users → get_elem? users user ≡ some v
    → w.by_pool ≡ v.by_pool → (Uses v → Uses w) → AreUsers Uses (set users user w)
users_set {T} Uses users user v w are at same keeps =
    let was = are.each user v at in
    let mine : (w.by_pool ≡ true → user ≡ are.pool) × Uses w = ((λ yes. was.0 (sym same ∙ yes)), keeps was.1) in
    record {
      pool = are.pool;
      each = λ j u e. ⊎_elim
          (λ (x : (j ≡ user) × (w ≡ u)). subst (λ (y : ℕ × Moves T). (y.1.by_pool ≡ true → y.0 ≡ are.pool) × Uses y.1) (λ i. (sym x.0 i, x.1 i)) mine)
          (λ (x : (j ≢ user) × (get_elem? users j ≡ some u)). are.each j u x.1)
          (at_set users user j w u e);
    }

users_snoc :
    {T : Type 0} (Uses : Moves T → Type 0) (users : List (Moves T)) → AreUsers Uses users → Uses of_worker → AreUsers Uses (users ++ of_worker ∷ [])
users_snoc {T} Uses users are uses =
    let new : Moves T = of_worker {T = T} in
    let mine : (j : ℕ) → (new.by_pool ≡ true → j ≡ are.pool) × Uses new = λ j. ((λ yes. absurd (true≢false (sym yes))), uses) in
    record {
      pool = are.pool;
      each = λ j u e. ⊎_elim
          (λ (was : get_elem? users j ≡ some u). are.each j u was)
          (λ (same : new ≡ u). subst (λ (m : Moves T). (m.by_pool ≡ true → j ≡ are.pool) × Uses m) same (mine j))
          (at_snoc users new u j e);
    }

first_user :
    {T : Type 0} (Uses : Moves T → Type 0) → Uses of_pool → (j : ℕ) (u : Moves T) → get_elem? (of_pool ∷ []) j ≡ some u → (u.by_pool ≡ true → j ≡ 0) × Uses u
first_user {T} Uses uses zero u e =
    let new : Moves T = of_pool {T = T} in
    let none : ℕ = zero in
    subst (λ (m : Moves T). (m.by_pool ≡ true → none ≡ none) × Uses m) (some-injective new u e) ((λ yes. refl), uses)
first_user Uses uses (suc j) u e = absurd (some-ne-none u (sym e))

match_true : (b : Bool) (A B C : Type 0) → b ≡ true → MatchBool b A B → MatchBool b A C
match_true true A B C is a = a
match_true false A B C is a = absurd (true≢false (sym is))

match_false : (b : Bool) (A B C : Type 0) → b ≡ false → MatchBool b A B → MatchBool b C B
match_false true A B C is b = absurd (true≢false is)
match_false false A B C is b = b

-- ---- steps of any such queue

pushes :
    {T : Type 0} (Uses : Moves T → Type 0) (Is : T → Type 0) (n user : ℕ) (v : Moves T) (x : T) → Is x → (Uses v → Uses (with_put v x))
    → Pushes (Balanced Uses Is) n user v x (λ w. w ≡ with_put v x)
pushes Uses Is n user v x is keeps items views room rule at = (
  with_put v x,
  record {
    are = all_append Is items x rule.are is;
    same = λ weight.
        let put = sum_set (λ u. sum_by weight u.put) views user v (with_put v x) at in
        let taken = sum_set (λ u. sum_by weight u.taken) views user v (with_put v x) at in
        let before = rule.same weight in
        omega (arith, put, taken, before, sum_by-append weight v.put (x ∷ []), sum_by-append weight items (x ∷ []));
    users_are = users_set Uses views user v (with_put v x) rule.users_are at refl keeps;
  },
  refl,
)

pops :
    {T : Type 0} (Uses : Moves T → Type 0) (Is : T → Type 0) (user : ℕ) (v : Moves T) → ((x : T) → Uses v → Uses (with_taken v x))
    → Pops (Balanced Uses Is) user v (λ x w. Is x × (w ≡ with_taken v x))
pops Uses Is user v keeps x items views rule at = (
  with_taken v x,
  record {
    are = all_rest Is x items rule.are;
    same = λ weight.
        let put = sum_set (λ u. sum_by weight u.put) views user v (with_taken v x) at in
        let taken = sum_set (λ u. sum_by weight u.taken) views user v (with_taken v x) at in
        let before = rule.same weight in
        omega (arith, put, taken, before, sum_by-append weight v.taken (x ∷ []), sum_by-cons weight x items, sum_by-cons weight x []);
    users_are = users_set Uses views user v (with_taken v x) rule.users_are at refl (keeps x);
  },
  (rule.are 0 x (omega arith), refl),
)

forks :
    {T : Type 0} (Uses : Moves T → Type 0) (Is : T → Type 0) (user : ℕ) (v : Moves T) → Uses of_worker → Forks (Balanced Uses Is) user v v of_worker
forks {T} Uses Is user v uses items views rule at =
    let P : List (Moves T) → Type 0 = λ us. Balanced Uses Is items (us ++ of_worker ∷ []) in
    let hired : P views = record {
      are = rule.are;
      same = λ weight.
          let before = rule.same weight in
          omega (arith, before, sum_by-append (λ u. sum_by weight u.put) views (of_worker ∷ []), sum_by-append (λ u. sum_by weight u.taken) views (of_worker ∷ []));
      users_are = users_snoc Uses views rule.users_are uses;
    } in
    subst P (sym (set_again views user v at)) hired

begins : {T : Type 0} (Uses : Moves T → Type 0) (Is : T → Type 0) → Uses of_pool → Balanced Uses Is [] (of_pool ∷ [])
begins Uses Is uses = record {
  are = λ k d below. absurd (omega arith);
  same = λ weight. refl;
  users_are = record { pool = 0; each = λ j u e. first_user Uses uses j u e };
}

pub learns_nothing : {T : Type 0} (Uses : Moves T → Type 0) (Is : T → Type 0) (user : ℕ) (v : Moves T) → Learns (Balanced Uses Is) user v (λ items. ⊤)
learns_nothing Uses Is user v items views rule at = tt

-- ---- the jobs, which the pool puts and its workers take

pub jobs_begin : {T : Type 0} (Is : T → Type 0) → Balanced GivesJobs Is [] (of_pool ∷ [])
jobs_begin Is = begins GivesJobs Is refl

pub hires_for_jobs : {T : Type 0} (Is : T → Type 0) (user : ℕ) (v : Moves T) → Forks (Balanced GivesJobs Is) user v v of_worker
hires_for_jobs Is user v = forks GivesJobs Is user v refl

pub pool_puts :
    {T : Type 0} (Is : T → Type 0) (n user : ℕ) (v : Moves T) (x : T) → Is x → v.by_pool ≡ true → Pushes (Balanced GivesJobs Is) n user v x (λ w. w ≡ with_put v x)
pool_puts Is n user v x is by_pool =
    pushes GivesJobs Is n user v x is (match_true v.by_pool (v.taken ≡ []) (v.put ≡ []) (v.put ++ x ∷ [] ≡ []) by_pool)

pub worker_takes :
    {T : Type 0} (user : ℕ) (v : Moves T) → v.by_pool ≡ false → Pops (Balanced GivesJobs Anything) user v (λ x w. w ≡ with_taken v x)
worker_takes {T} user v by_worker x items views rule at =
    let keeps : (y : T) → GivesJobs v → GivesJobs (with_taken v y) =
    λ y. match_false v.by_pool (v.taken ≡ []) (v.put ≡ []) (v.taken ++ y ∷ [] ≡ []) by_worker in
    let popped = pops GivesJobs Anything user v keeps x items views rule at in (popped.0, popped.1, popped.2.1)

-- what one user alone adds to the sum
sum_alone :
    {V : Type 0} (f : V → ℕ) (views : List V) (user : ℕ) (v : V) → get_elem? views user ≡ some v
    → ((j : ℕ) (u : V) → j ≢ user → get_elem? views j ≡ some u → f u ≡ 0) → sum_by f views ≡ f v
sum_alone f [] user v at others = absurd (some-ne-none v (sym at))
sum_alone f (u ∷ us) zero v at others =
    let same : f u ≡ f v = ap f (some-injective u v at) in
    let rest : sum_by f us ≡ 0 = sum_nothing f us (λ j w e. others (suc j) w (λ (z : suc j ≡ zero). omega arith) e) in
    let sum : sum_by f (u ∷ us) ≡ f u + sum_by f us = sum_by-cons f u us in
    let all : sum_by f (u ∷ us) ≡ f v = omega (arith, same, rest, sum) in
    all
sum_alone f (u ∷ us) (suc user) v at others =
    let none : f u ≡ 0 = others 0 u (λ (z : zero ≡ suc user). omega arith) refl in
    let rest : sum_by f us ≡ f v = sum_alone f us user v at (λ j w apart e. others (suc j) w (λ (z : suc j ≡ suc user). apart (omega arith)) e) in
    let sum : sum_by f (u ∷ us) ≡ f u + sum_by f us = sum_by-cons f u us in
    let all : sum_by f (u ∷ us) ≡ f v = omega (arith, none, rest, sum) in
    all

weighs_length : {T : Type 0} (items : List T) → sum_by (λ item. 1) items ≡ length items
weighs_length [] = refl
weighs_length (x ∷ items) =
    let rest : sum_by (λ item. 1) items ≡ length items = weighs_length items in
    let sum : sum_by (λ item. 1) (x ∷ items) ≡ 1 + sum_by (λ item. 1) items = sum_by-cons (λ item. 1) x items in
    let all : sum_by (λ item. 1) (x ∷ items) ≡ length (x ∷ items) = omega (arith, rest, sum) in
    all

of_false : (b : Bool) (A B : Type 0) → (b ≡ true → ⊥) → MatchBool b A B → B
of_false true A B not_true m = absurd (not_true refl)
of_false false A B not_true m = m

-- the queue of the jobs holds no more than the pool has put
pub holds_what_was_put :
    {T : Type 0} (user : ℕ) (v : Moves T) → v.by_pool ≡ true → Learns (Balanced GivesJobs Anything) user v (λ items. length items ≤ length v.put)
holds_what_was_put {T} user v by_pool items views rule at =
    let one : T → ℕ = λ item. 1 in
    let here : user ≡ rule.users_are.pool = (rule.users_are.each user v at).0 by_pool in
    let nothing : (j : ℕ) (u : Moves T) → j ≢ user → get_elem? views j ≡ some u → sum_by one u.put ≡ 0 =
    λ j u apart e. ap (sum_by one)
    (of_false u.by_pool (u.taken ≡ []) (u.put ≡ []) (λ yes. apart ((rule.users_are.each j u e).0 yes ∙ sym here)) (rule.users_are.each j u e).1) in
    let put : sum_by (λ (u : Moves T). sum_by one u.put) views ≡ sum_by one v.put = sum_alone (λ (u : Moves T). sum_by one u.put) views user v at nothing in
    let taken : ℕ = sum_by (λ (u : Moves T). sum_by one u.taken) views in
    let both : sum_by (λ (u : Moves T). sum_by one u.put) views ≡ taken + sum_by one items = rule.same one in
    let held : sum_by one items ≡ length items = weighs_length items in
    let put_here : sum_by one v.put ≡ length v.put = weighs_length v.put in
    let enough : length items ≤ length v.put = omega (arith, put, both, held, put_here) in
    enough

-- ---- the finished jobs, which workers put and their pool takes

pub finished_begin : {T : Type 0} (Is : T → Type 0) → Balanced GivesFinished Is [] (of_pool ∷ [])
finished_begin Is = begins GivesFinished Is refl

pub hires_for_finished : {T : Type 0} (Is : T → Type 0) (user : ℕ) (v : Moves T) → Forks (Balanced GivesFinished Is) user v v of_worker
hires_for_finished Is user v = forks GivesFinished Is user v refl

pub worker_puts :
    {T : Type 0} (Is : T → Type 0) (n user : ℕ) (v : Moves T) (x : T) → Is x → v.by_pool ≡ false
    → Pushes (Balanced GivesFinished Is) n user v x (λ w. w ≡ with_put v x)
worker_puts Is n user v x is by_worker =
    pushes GivesFinished Is n user v x is (match_false v.by_pool (v.put ≡ []) (v.taken ≡ []) (v.put ++ x ∷ [] ≡ []) by_worker)

pub pool_takes :
    {T : Type 0} (Is : T → Type 0) (user : ℕ) (v : Moves T) → v.by_pool ≡ true → Pops (Balanced GivesFinished Is) user v (λ x w. Is x × (w ≡ with_taken v x))
pool_takes {T} Is user v by_pool =
    pops GivesFinished Is user v (λ y. match_true v.by_pool (v.put ≡ []) (v.taken ≡ []) (v.taken ++ y ∷ [] ≡ []) by_pool)
