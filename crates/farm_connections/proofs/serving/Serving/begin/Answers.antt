use Rattle.std.proofs.Common.{◌≡◌, ap, rules, sym, ◌∙◌}
use Rattle.farm_connections.specs.Locals.{site_at}
use Rattle.farm_connections.proofs.Sending.{begins_by}
use Rattle.farm_connections.proofs.serving.Serving.begin.Goals as goal

pub returns-in-Ok-clause-life : goal.returns-in-Ok-clause-life
returns-in-Ok-clause-life g c =
    let seen : c.deref.result.now ≡ c.args.self.now.locals.items = search rules in
    begins_by _ _ c.args.side c.args.moment _ _ (ap (λ locals. site_at c.args.local locals) (sym seen) ∙ sym c.in-Some.ensures) c.in-Ok.ensures.watch c.in-Ok.ensures.acts
