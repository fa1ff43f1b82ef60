use Rattle.std.proofs.Common.{◌≡◌, ℕ, ◌*◌, ◌<◌, ◌∙◌, ap, sym, subst, arith}
use Rattle.relay_hops.specs.Identifiers.{doubled, places_for, IsMasked}
use Rattle.relay_hops.proofs.Numbers.{doubled-le, doubled-some, doubled-masked}
use Rattle.relay_hops.proofs.index.places_for.Goals as goal

pub returns-clause-size : goal.returns-clause-size
unfolding places_for
returns-clause-size c =
    let all : c.loop-doublings._doublings ≡ 31 = omega arith in
    c.loop-doublings.invariant ∙ ap (λ (times : ℕ). doubled times (2 * c.args.limit)) all

pub returns-clause-some : goal.returns-clause-some
returns-clause-some c = subst (λ (size : ℕ). 0 < size) (sym c.loop-doublings.invariant) (doubled-some c.loop-doublings._doublings (2 * c.args.limit))

pub returns-clause-numbered : goal.returns-clause-numbered
returns-clause-numbered c =
    let all : c.loop-doublings._doublings ≡ 31 = omega arith in
    let le = doubled-le 31 (2 * c.args.limit) in
    let same = c.loop-doublings.invariant ∙ ap (λ (times : ℕ). doubled times (2 * c.args.limit)) all in
    omega (arith, le, same)

pub returns-clause-masked : goal.returns-clause-masked
returns-clause-masked c = subst IsMasked (sym c.loop-doublings.invariant) (doubled-masked c.loop-doublings._doublings (2 * c.args.limit))
