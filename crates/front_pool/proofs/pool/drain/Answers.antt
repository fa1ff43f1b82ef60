use Rattle.std.proofs.Common.{◌≡◌, ◌++◌, ◌∷◌, [], ◌∙◌, List, ap, arith, refl, rules, subst, sym}
use Rattle.std.specs.Prelude.{All}
use Rattle.std.specs.List.Sorted.{IsPermutation}
use Rattle.front_pool.specs.declared.job.Finished.{Finished}
use Rattle.front_pool.specs.Answering.{IsAnsweredBy, IsAnsweredByOne}
use Rattle.front_pool.specs.Jobs.{job_of, jobs_of}
use Rattle.front_pool.specs.Keeping.{IsTakenOff}
use Rattle.front_pool.proofs.Jobs.{settles}
use Rattle.front_pool.proofs.Serving.{by_front}
use Rattle.front_pool.specs.Moving.{GivesFinished}
use Rattle.front_pool.specs.declared.queues.Moves.{Moves}
use Rattle.front_pool.proofs.Rule.{all_append, learns_nothing, pool_takes}
use Rattle.front_pool.proofs.pool.drain.Goals as goal

pub pop_as-requires-clause-rule : goal.pop_as-requires-clause-rule
pop_as-requires-clause-rule g c =
    let Is = IsAnsweredByOne g.L.Pooling.site g.L.Sharing.shared in
    (pool_takes Is _ _ c.loop.invariant.by_pool, learns_nothing GivesFinished Is _ _)

pub loop-preserved-then-take_off : goal.loop-preserved-then-take_off
loop-preserved-then-take_off g c =
    let Is = IsAnsweredBy c.args.front g.L.Pooling.site g.L.Sharing.shared in
    let next = c.in-Some-pop_as.next in let left = c.take_off.new.jobs.items in
    let same = c.as_finished.ensures in
    let taken = subst (λ (f : Finished). IsTakenOff (job_of f) c.loop.left.items left) same c.if-take_off.ensures.taken in
    let pushed : c.push_reserved.new.self.items ≡ c.loop.finished.items ++ next ∷ [] =
    c.push_reserved.ensures.items ∙ ap (λ (f : Finished). c.loop.finished.items ++ f ∷ []) c.into_finished.ensures in
    record {
      next = tt;
      finite = tt;
      pass = search rules;
      by_pool = ap (λ (m : Moves Finished). m.by_pool) c.in-Some-pop_as.ensures.rule.1 ∙ c.loop.invariant.by_pool;
      jobs = subst (λ (l : List Finished). IsPermutation c.args.unanswered.items (jobs_of l ++ left)) (sym pushed)
          (settles c.args.unanswered.items c.loop.finished.items next c.loop.left.items left c.loop.invariant.jobs taken);
      answered = subst (λ (l : List Finished). All Is l) (sym pushed)
          (all_append Is c.loop.finished.items next c.loop.invariant.answered
          (by_front c.args.front g.L.Pooling.site g.L.Sharing.shared next (ap (λ (f : Finished). f.front) (sym same) ∙ c.if-take_off.ensures.front refl) c.in-Some-pop_as.ensures.rule.0));
      room = omega (arith, c.if-take_off.ensures.len, c.push_reserved.ensures.len, c.push_reserved.ensures.capacity, c.loop.invariant.room);
    }
