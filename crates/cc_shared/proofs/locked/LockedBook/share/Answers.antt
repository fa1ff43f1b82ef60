use Rattle.std.proofs.Common.{◌≡◌, ℕ, subst, arith}
use Rattle.std.specs.Prelude.{replicate}
use Rattle.cc_shared.proofs.locked.LockedBook.share.Goals as goal

pub returns-clause-seats : goal.returns-clause-seats
returns-clause-seats g c =
    let done : c.loop-made._made ≡ c.args.seats = omega (arith, c.loop-made.invariant.0, c.loop-made-test.false) in
    subst (λ (n : ℕ). c.loop-made.places.items ≡ replicate n 0) done c.loop-made.invariant.2
