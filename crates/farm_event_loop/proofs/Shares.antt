-- The shares of all connections of a node fit its room.
use Rattle.std.proofs.Common.{◌≡◌, ℕ, zero, suc, ◌*◌, ◌/◌, ◌≤◌, max, sym, subst, ap, ◌∙◌, arith}
use Rattle.std.proofs.Math.Nat.{mul-div-le}
use Rattle.std.proofs.lemmas.Nat.{le-div}
use Rattle.farm_event_loop.specs.Sharing.{share_of}

max_one : (n : ℕ) → 1 ≤ n → max n 1 ≡ n
max_one n h = grind arith

pub shares_fit : (room links : ℕ) → links ≤ room → links * share_of room links ≤ room
shares_fit room zero h = omega arith
shares_fit room (suc n) h =
    let wide : max (suc n) 1 ≡ suc n = max_one (suc n) (omega arith) in
    let some : 1 ≤ room / suc n = le-div 1 room (suc n) (omega arith) (omega arith) in
    let each : share_of room (suc n) ≡ room / suc n = ap (λ (links : ℕ). max (room / links) 1) wide ∙ max_one (room / suc n) some in
    subst (λ (share : ℕ). suc n * share ≤ room) (sym each) (mul-div-le room (suc n))
