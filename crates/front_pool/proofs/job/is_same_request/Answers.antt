use Rattle.std.proofs.Common.{◌≡◌, Bool, subst, sym}
use Rattle.std.specs.Bool.{Decides}
use Rattle.front_pool.proofs.Comparing.{message_decides}
use Rattle.front_pool.proofs.job.is_same_request.Goals as goal

pub returns : goal.returns
returns c = subst (λ (v : Bool). Decides v (c.args.one.now ≡ c.args.other.now)) (sym c.eq.ensures) (message_decides c.args.one.now c.args.other.now)
