use Rattle.std.proofs.Common.{arith}
use Rattle.cc_shared.proofs.Histories.{takes_are_few}
use Rattle.cc_shared.proofs.open.OpenBook.take.Goals as goal

pub enter-requires-clause-count : goal.enter-requires-clause-count
enter-requires-clause-count g c =
    let few = takes_are_few c.self.inside.seen in
    omega (arith, few, c.self.invariant.2, c.self.invariant.3, c.audit.ensures.bound, c.audit.ensures.seat)
