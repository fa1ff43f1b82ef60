use Rattle.std.proofs.Common.{◌≡◌, ◌∙◌, ◌∷◌, [], ap, length, List, rules, arith, subst}
use Rattle.std.specs.Vec.Iter.{into_iter_items}
use Rattle.cc_shared.specs.declared.asking.Asked.{Asked}
use Rattle.front_pool.specs.declared.job.Job.{Job}
use Rattle.front_pool.specs.Working.{Turns, with_jobs_finished}
use Rattle.front_pool.proofs.Serving.{HandsInSoFar, hands_in_more, hands_in_refused, tells_no_take}
use Rattle.front_pool.proofs.worker.Worker.finish_refused.Goals as goal

pub loop-one-preserved : goal.loop-one-preserved
loop-one-preserved g c =
    let sites = g.L.Pooling.site in let shared = g.L.Sharing.shared in let old = c.args.self.now in
    let next = c.in-Some.ensures.steps in let rest = into_iter_items c.next.new.self in
    let so_far = subst (λ (xs : List (Asked Job)). HandsInSoFar sites shared (λ one. one.job) (λ one. 0) c.args.asked.items xs old c.loop-one.self) next.0
    c.loop-one.invariant.so_far in
    let is : c.finish.new.self ≡ with_jobs_finished c.loop-one.self (c.refuse-done.result ∷ []) = search rules in
    let whole = ap length next.0 in
    record {
      can = tt;
      finite = tt;
      count = omega (arith, whole, c.loop-one.invariant.count, next.1);
      front = ap (λ (t : Turns). t.front) is ∙ c.loop-one.invariant.front;
      so_far = hands_in_more sites shared (λ one. one.job) (λ one. 0) c.args.asked.items c.in-Some.one rest old c.loop-one.self c.finish.new.self
          c.refuse-done.result so_far c.refuse-done.ensures.job c.refuse-done.ensures.answered (tells_no_take c.refuse-done.result c.refuse-done.ensures.receipt) is;
    }

pub returns : goal.returns
returns g c =
    let none : length (into_iter_items c.loop-one.one-iterator) ≡ 0 = c.loop-one.invariant.count ∙ c.in-None.ensures.steps.0 in
    hands_in_refused g.L.Pooling.site g.L.Sharing.shared (λ one. one.job) c.args.asked.items (into_iter_items c.loop-one.one-iterator) c.args.self.now c.loop-one.self none
    c.loop-one.invariant.so_far
