use Rattle.std.proofs.Common.{[], refl, ◌∙◌}
use Rattle.farm_connections.specs.Sending.{greets_none}
use Rattle.farm_connections.proofs.Sending.{all_greeted, one_greeted}
use Rattle.farm_connections.proofs.desk.greet.Goals as goal

pub loop-act-init : goal.loop-act-init
loop-act-init g c = record { mark = refl; greeted = record { done = []; all_is = refl; greets = greets_none } }

pub loop-act-preserved : goal.loop-act-preserved
loop-act-preserved g c = record {
  mark = c.greet_at.ensures.mark ∙ c.loop-act.invariant.mark;
  greeted = one_greeted c.args.link.now c.loop-act.link c.greet_at.new.link c.args.acts c.loop-act.acts _ _ c.loop-act.invariant.greeted c.in-Some.ensures.taken
      c.greet_at.ensures.greets;
}

pub returns-clause-greets : goal.returns-clause-greets
returns-clause-greets g c = all_greeted c.args.link.now c.loop-act.link c.args.acts c.loop-act.acts c.loop-act.invariant.greeted c.in_default.ensures.none
