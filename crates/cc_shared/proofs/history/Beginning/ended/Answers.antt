use Rattle.std.proofs.Common.{◌≡◌, ◌++◌, ◌∷◌, [], ap, ◌∙◌, rules}
use Rattle.cc_shared.specs.declared.logged.Logged.TheVariants.{Closed}
use Rattle.cc_shared.specs.History.{is_closed}
use Rattle.cc_shared.proofs.Histories.{ended_is_closed}
use Rattle.cc_shared.proofs.history.Beginning.ended.Goals as goal

pub invariant_of-result : goal.invariant_of-result
invariant_of-result g c =
    let added : c.add.new.self ≡ c.args.self.now ++ Closed ∷ [] = search rules in
    ap is_closed added ∙ ended_is_closed c.args.self.now
