use Rattle.std.proofs.Common.{◌≡◌, Option, MatchOption, subst, sym, ◌∙◌}
use Rattle.dia_base.specs.declared.number.ConnId.{ConnId}
use Rattle.farm_connections.specs.Doing.{EndsOne}
use Rattle.farm_connections.proofs.ticking.end_unanswered.Goals as goal

pub returns-in-Some-clause-ends : goal.returns-in-Some-clause-ends
returns-in-Some-clause-ends g c =
    let old = c.args.links.now.items in let new = c.end_one.new.links.items in
    subst (λ (o : Option ConnId). MatchOption o (new ≡ old) (λ conn. EndsOne conn old new)) (sym c.in-Some.is ∙ c.unanswered_by.ensures) c.end_one.ensures.ends
