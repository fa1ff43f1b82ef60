-- What travels through a queue: whatever was put into it was taken out, or is in it. A pool and its workers use it, each from one end.
use Rattle.std.specs.Prelude.{◌≡◌, ℕ, ◌+◌, List, [], ◌∷◌, ◌++◌, All, sum_by, true, false, MatchBool}
use mathlib.Core.Option.{some}
use lib.ListN.{get_elem?}
use Rattle.front_pool.specs.declared.queues.Moves.{Moves}

-- the pool before it has used a queue
abbrev pub of_pool : {T : Type 0} → Moves T
of_pool = record { by_pool = true; put = []; taken = [] }

-- a worker before it has used a queue
abbrev pub of_worker : {T : Type 0} → Moves T
of_worker = record { by_pool = false; put = []; taken = [] }

abbrev pub with_put : {T : Type 0} → Moves T → T → Moves T
with_put moves item = record moves { put = moves.put ++ item ∷ [] }

abbrev pub with_taken : {T : Type 0} → Moves T → T → Moves T
with_taken moves item = record moves { taken = moves.taken ++ item ∷ [] }

-- nothing is asked of an item
abbrev pub Anything : {T : Type 0} → T → Type 0
Anything item = Unit {0}

-- the pool puts jobs and takes none, and its workers take them and put none
abbrev pub GivesJobs : {T : Type 0} → Moves T → Type 0
GivesJobs user = MatchBool user.by_pool (user.taken ≡ []) (user.put ≡ [])

-- workers put finished jobs and take none, and the pool takes them and puts none
abbrev pub GivesFinished : {T : Type 0} → Moves T → Type 0
GivesFinished user = MatchBool user.by_pool (user.put ≡ []) (user.taken ≡ [])

-- One user at most is the pool, and each uses the queue from its end.
pub record AreUsers {T : Type 0} (Uses : Moves T → Type 0) (users : List (Moves T)) : Type 0 where
  pub pool : ℕ
  pub each : (user : ℕ) (moves : Moves T) → get_elem? users user ≡ some moves → (moves.by_pool ≡ true → user ≡ pool) × Uses moves

-- Each item of the queue is as it has to be. What all its users have put into it is what they have taken out and what it holds,
-- each item as often: however the items are weighed, both sides weigh the same.
pub record Balanced {T : Type 0} (Uses : Moves T → Type 0) (Is : T → Type 0) (items : List T) (users : List (Moves T)) : Type 0 where
  pub are : All Is items
  pub same : (weight : T → ℕ) → sum_by (λ user. sum_by weight user.put) users ≡ sum_by (λ user. sum_by weight user.taken) users + sum_by weight items
  pub users_are : AreUsers Uses users
