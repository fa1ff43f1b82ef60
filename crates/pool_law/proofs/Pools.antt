-- Workers by number, and the fronts that pools are.
use Rattle.std.proofs.Common.{◌≡◌, ℕ, zero, suc, ◌<◌, Bool, true, false, cond, List, ◌∷◌, length, Option, Some, None, refl, sym, subst, ap, ◌∙◌, arith}
use Rattle.std.proofs.Common.{eq-eqb, eqb-true, ne_eqb, replicate}
use Rattle.std.specs.Prelude.{◌==◌, slice_get, slice_set}
use Rattle.std.proofs.lemmas.Bool.{eqb-false}
use Rattle.dia_base.specs.declared.number.NodeNo.{NodeNo}
use Rattle.front_core.specs.declared.worker.Worker.{Worker}
use Rattle.front_core.specs.declared.worker.Worker.TheVariants.{Idle}
use Rattle.front_core.specs.FrontState.{FrontState}
use Rattle.farm_base.specs.Nodes.{is_node}
use Rattle.farm_model.specs.declared.state.FrontAt.{FrontAt}
use Rattle.farm_model.specs.World.{with_front, front_at}
use Rattle.farm_model.proofs.Lists.Numbering.{same_node, node_itself}
use Rattle.pool_law.specs.ServedFarm.{PoolNow, Work, nothing, with_pool}
use Rattle.pool_law.specs.AsFarm.{as_front, worker_of, workers_of}
use Rattle.pool_law.proofs.Turns.{front_now, front_elsewhere}

-- ---- workers by number

pub worker_at : (workers : ℕ) (works : ℕ → Work) (number : ℕ) → number < workers → slice_get (workers_of workers works) number ≡ Some
    (worker_of (works number))
worker_at zero works number less = absurd (omega (arith, less))
worker_at (suc more) works zero less = refl
worker_at (suc more) works (suc number) less = worker_at more (λ n. works (suc n)) number (omega (arith, less))

-- two numbers are the same where those behind them are
next_same : (one other : ℕ) → (one == other) ≡ (suc one == suc other)
next_same one other = go (one == other) refl
  where
    go : (b : Bool) → (one == other) ≡ b → b ≡ (suc one == suc other)
    go true is =
        let same = eqb-true one other is in
        sym (eq-eqb (suc one) (suc other) (omega (arith, same)))
    go false is = sym (ne_eqb (suc one) (suc other) (λ e. eqb-false one other is (omega (arith, e))))

no_zero : (number : ℕ) → false ≡ (suc number == 0)
no_zero number = sym (ne_eqb (suc number) 0 (λ e. absurd (omega (arith, e))))

not_zero : (number : ℕ) → false ≡ (0 == suc number)
not_zero number = sym (ne_eqb 0 (suc number) (λ e. absurd (omega (arith, e))))

pub worker_set : (workers : ℕ) (works : ℕ → Work) (number : ℕ) (work : Work) → slice_set (workers_of workers works) number (worker_of work) ≡
    workers_of workers (λ other. cond (other == number) work (works other))
worker_set zero works number work = refl
worker_set (suc more) works zero work =
    λ i. worker_of (cond (sym (eq-eqb 0 0 refl) i) work (works 0)) ∷ workers_of more (λ n. cond (no_zero n i) work (works (suc n)))
worker_set (suc more) works (suc number) work =
    ap (λ (ws : List Worker). worker_of (works 0) ∷ ws) (worker_set more (λ n. works (suc n)) number work)
    ∙ (λ i. worker_of (cond (not_zero number i) work (works 0)) ∷ workers_of more (λ n. cond (next_same n number i) work (works (suc n))))

pub new_workers : (workers : ℕ) → workers_of workers (λ number. nothing) ≡ replicate workers Idle
new_workers zero = refl
new_workers (suc more) = ap (λ (ws : List Worker). Idle ∷ ws) (new_workers more)

pub workers_are : (workers : ℕ) (works : ℕ → Work) → length (workers_of workers works) ≡ workers
workers_are zero works = refl
workers_are (suc more) works = let rest = workers_are more (λ n. works (suc n)) in omega (arith, rest)

-- ---- the fronts that pools are

abbrev pub shown : ℕ → PoolNow → Option FrontState → Option FrontState
shown workers pool None = None
shown workers pool (Some front) = Some (as_front workers pool front)

-- at each node the one list has the front of the other, as its pool is
abbrev pub AreShown : ℕ → (NodeNo → PoolNow) → List FrontAt → List FrontAt → Type 0
AreShown workers pools fronts shows = (node : NodeNo) → front_at node shows ≡ shown workers (pools node) (front_at node fronts)

pub shown_at : (workers : ℕ) (pools : NodeNo → PoolNow) (fronts shows : List FrontAt) (node : NodeNo) (front : FrontState) → AreShown workers pools fronts shows
    → front_at node fronts ≡ Some front → front_at node shows ≡ Some (as_front workers (pools node) front)
shown_at workers pools fronts shows node front are at = are node ∙ ap (shown workers (pools node)) at

-- one front has changed, or its pool
pub one_changed : (workers : ℕ) (pools pools' : NodeNo → PoolNow) (fronts fronts' shows : List FrontAt) (node : NodeNo) (was now : FrontState)
    → AreShown workers pools fronts shows → front_at node shows ≡ Some was → Some now ≡ shown workers (pools' node) (front_at node fronts')
    → ((other : NodeNo) → is_node node other ≡ false → shown workers (pools' other) (front_at other fronts') ≡ shown workers (pools other) (front_at other fronts))
    → AreShown workers pools' fronts' (with_front node now shows)
one_changed workers pools pools' fronts fronts' shows node was now are at here others other = go (is_node node other) refl
  where
    go : (b : Bool) → is_node node other ≡ b → front_at other (with_front node now shows) ≡ shown workers (pools' other) (front_at other fronts')
    go true is = subst (λ (n : NodeNo). front_at n (with_front node now shows) ≡ shown workers (pools' n) (front_at n fronts')) (same_node node other is)
        (front_now node now was shows at ∙ here)
    go false is = front_elsewhere node now shows other is ∙ are other ∙ sym (others other is)

pub pool_here : (pools : NodeNo → PoolNow) (node : NodeNo) (pool : PoolNow) → with_pool pools node pool node ≡ pool
pool_here pools node pool = ap (λ (b : Bool). cond b pool (pools node)) (node_itself node)

pub pool_there : (pools : NodeNo → PoolNow) (node : NodeNo) (pool : PoolNow) (other : NodeNo) → is_node node other ≡ false → with_pool pools node pool other ≡
    pools other
pool_there pools node pool other apart = ap (λ (b : Bool). cond b pool (pools other)) apart

-- the pool alone has changed
pub pool_changed : (workers : ℕ) (pools : NodeNo → PoolNow) (fronts shows : List FrontAt) (node : NodeNo) (front now : FrontState) (pool : PoolNow) →
    AreShown workers pools fronts shows → front_at node fronts ≡ Some front → now ≡ as_front workers pool front →
    AreShown workers (with_pool pools node pool) fronts (with_front node now shows)
pool_changed workers pools fronts shows node front now pool are at is =
    one_changed workers pools (with_pool pools node pool) fronts fronts shows node (as_front workers (pools node) front) now are
    (shown_at workers pools fronts shows node front are at)
    (ap (λ (f : FrontState). Some f) is ∙ ap (λ (p : PoolNow). Some (as_front workers p front)) (sym (pool_here pools node pool))
    ∙ sym (ap (shown workers (with_pool pools node pool node)) at))
    (λ other apart. ap (λ (p : PoolNow). shown workers p (front_at other fronts)) (pool_there pools node pool other apart))
