use Rattle.std.proofs.Common.{◌≡◌, ◌∙◌, ◌∷◌, [], ap, length, List, rules, arith, subst}
use Rattle.std.specs.Prelude.{All}
use Rattle.std.specs.Vec.Iter.{into_iter_items}
use Rattle.std.proofs.lemmas.List.Elements.{All-tail}
use Rattle.cc_shared.specs.declared.asking.Served.{Served}
use Rattle.front_pool.specs.declared.job.Job.{Job}
use Rattle.front_pool.specs.Answering.{IsServedAt}
use Rattle.front_pool.specs.Counting.{takes_served}
use Rattle.front_pool.specs.Working.{Turns, with_jobs_finished}
use Rattle.front_pool.proofs.Serving.{HandsInSoFar, hands_in_more}
use Rattle.front_pool.proofs.worker.Worker.finish_served.Goals as goal

pub loop-one-preserved : goal.loop-one-preserved
loop-one-preserved g c =
    let sites = g.L.Pooling.site in let shared = g.L.Sharing.shared in let old = c.args.self.now in
    let next = c.in-Some.ensures.steps in let rest = into_iter_items c.next.new.self in
    let so_far = subst (λ (xs : List (Served Job)). HandsInSoFar sites shared (λ one. one.job) takes_served c.args.served.items xs old c.loop-one.self) next.0
    c.loop-one.invariant.so_far in
    let served_at = subst (λ (xs : List (Served Job)). All (IsServedAt (sites old.front) shared) xs) next.0 c.loop-one.invariant.served_at in
    let is : c.finish.new.self ≡ with_jobs_finished c.loop-one.self (c.spell-done.result ∷ []) = search rules in
    let whole = ap length next.0 in
    record {
      can = tt;
      finite = tt;
      count = omega (arith, whole, c.loop-one.invariant.count, next.1);
      front = ap (λ (t : Turns). t.front) is ∙ c.loop-one.invariant.front;
      served_at = All-tail (IsServedAt (sites old.front) shared) c.in-Some.one rest served_at;
      so_far = hands_in_more sites shared (λ one. one.job) takes_served c.args.served.items c.in-Some.one rest old c.loop-one.self c.finish.new.self
          c.spell-done.result so_far c.spell-done.ensures.job c.spell-done.ensures.answered c.spell-done.ensures.count is;
    }
