use Rattle.std.proofs.Common.{◌≡◌, ◌∙◌, ◌∷◌, [], ap, length, List, refl, rules, arith, subst, sym, vec_len}
use Rattle.std.specs.Vec.Iter.{into_iter_items}
use Rattle.dia_base.specs.declared.number.NodeNo.{NodeNo}
use Rattle.cc_shared.specs.declared.asking.Asked.{Asked}
use Rattle.front_pool.specs.declared.job.Job.{Job}
use Rattle.front_pool.specs.declared.answering.Reading.TheVariants.{Answered, Asks}
use Rattle.front_pool.specs.Answering.{Reads}
use Rattle.front_pool.specs.Working.{Turns, with_jobs_finished}
use Rattle.front_pool.proofs.Serving.{ReadsSoFar, reads_answered, reads_asked, reads_nothing}
use Rattle.front_pool.proofs.worker.Worker.read_all.Goals as goal

pub loop-job-init : goal.loop-job-init
loop-job-init g c =
    let sites = g.L.Pooling.site in let shared = g.L.Sharing.shared in let old = c.args.self.now in let asked = c.args.asked.items in
    let given : into_iter_items c.into_iter-job-iterator.result ≡ c.args.jobs.items = search rules in
    let none : vec_len c.args.asked ≡ 0 = search rules in
    let jobs : length c.args.jobs.items ≡ vec_len c.args.jobs = search rules in
    record {
      can = tt;
      finite = tt;
      count = search rules;
      front = refl;
      so_far = subst (λ (rest : List Job). ReadsSoFar sites shared old.front c.args.jobs.items rest asked old old) (sym given)
          (reads_nothing sites shared old.front c.args.jobs.items asked old c.requires.none);
      room = (let whole = ap length given in omega (arith, none, whole, jobs, c.requires.room));
    }

pub loop-job-preserved-in-Answered : goal.loop-job-preserved-in-Answered
loop-job-preserved-in-Answered g c =
    let sites = g.L.Pooling.site in let shared = g.L.Sharing.shared in let old = c.args.self.now in
    let front = old.front in let now = c.loop-job.self in let asked = c.loop-job.asked.items in
    let next = c.in-Some.ensures.steps in let rest = into_iter_items c.next.new.self in
    let so_far = subst (λ (xs : List Job). ReadsSoFar sites shared front c.args.jobs.items xs asked old now) next.0 c.loop-job.invariant.so_far in
    let finished = c.in-Answered.finished in
    let reads : Reads sites shared now.front c.in-Some.job (Answered finished) = search rules in
    let is : c.finish.new.self ≡ with_jobs_finished now (finished ∷ []) = search rules in
    let whole = ap length next.0 in
    record {
      can = tt;
      finite = tt;
      count = omega (arith, whole, c.loop-job.invariant.count, next.1);
      front = ap (λ (t : Turns). t.front) is ∙ c.loop-job.invariant.front;
      so_far = reads_answered sites shared front c.args.jobs.items c.in-Some.job rest asked old now c.finish.new.self finished so_far reads.0 reads.1 reads.2 is;
      room = omega (arith, whole, c.loop-job.invariant.room);
    }

pub loop-job-preserved : goal.loop-job-preserved
loop-job-preserved g c =
    let sites = g.L.Pooling.site in let shared = g.L.Sharing.shared in let old = c.args.self.now in
    let front = old.front in let now = c.loop-job.self in let asked = c.loop-job.asked.items in
    let next = c.in-Some.ensures.steps in let rest = into_iter_items c.next.new.self in
    let so_far = subst (λ (xs : List Job). ReadsSoFar sites shared front c.args.jobs.items xs asked old now) next.0 c.loop-job.invariant.so_far in
    let one = c.in-Asks.one in
    let here : Reads sites shared now.front c.in-Some.job (Asks one) = search rules in
    let reads : Reads sites shared front c.in-Some.job (Asks one) =
    subst (λ (n : NodeNo). Reads sites shared n c.in-Some.job (Asks one)) c.loop-job.invariant.front here in
    let whole = ap length next.0 in
    record {
      can = tt;
      finite = tt;
      count = omega (arith, whole, c.loop-job.invariant.count, next.1);
      front = c.loop-job.invariant.front;
      so_far = subst (λ (xs : List (Asked Job)). ReadsSoFar sites shared front c.args.jobs.items rest xs old now) (sym c.push_reserved.ensures.items)
          (reads_asked sites shared front c.args.jobs.items c.in-Some.job rest asked old now one so_far reads.0 reads.1);
      room = omega (arith, whole, c.loop-job.invariant.room, c.push_reserved.ensures.len, c.push_reserved.ensures.capacity);
    }
