use Rattle.std.proofs.Common.{List, ap, subst}
use mathlib.Core.List.{IsPrefix}
use Rattle.cc_shared.specs.declared.logged.Logged.{Logged}
use Rattle.cc_shared.proofs.Together.{both_stand}
use Rattle.cc_shared.proofs.receipt.Receipt.stands_with.Goals as goal

pub returns : goal.returns
returns g c =
    let all = c.learn.new.self.log in
    let this : IsPrefix c.args.self.now.seen.log all = subst (λ (l : List Logged). IsPrefix l all) (ap (λ s. s.log) c.again-both.ensures) c.learn.ensures.2 in
    both_stand g.L.Sharing.shared c.args.self.now c.args.other.now all c.requires.this c.requires.that this c.learn.ensures.3
