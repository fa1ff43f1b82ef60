use Rattle.std.proofs.Common.{◌≡◌, Bool, true, subst, rules}
use Rattle.std.proofs.lemmas.Result.{IfOk-weaker}
use Rattle.farm_model.specs.FarmStep.{Outcome, after_accept}
use Rattle.farm_world.proofs.Turning.{up_turn}
use Rattle.farm_world.proofs.world.World.up.Goals as goal

pub returns-else-is_err-clause-ok : goal.returns-else-is_err-clause-ok
returns-else-is_err-clause-ok c =
    let site = c.args.site.now in
    let old = c.args.self.now in
    let mid = c.accept.new.self in
    let yes : c.in_ok-accept.field-0 ≡ true = search rules in
    let accepted = subst (λ (x : Bool). Outcome (after_accept site old c.args.b c.args.a) x old mid) yes c.in_ok-accept.ensures.ok in
    IfOk-weaker c.opened-opened.result _ _
    (λ applied learned. up_turn site old mid c.opened-opened.new.self c.args.a c.args.b applied accepted learned)
    c.opened-opened.ensures.ok
