use Rattle.std.proofs.Common.{◌≡◌, ◌+◌, ◌<◌, ◌≤◌, List, [], ◌∷◌, ◌++◌, length, take, refl, sym, ap, ◌∙◌, arith}
use Rattle.std.proofs.lemmas.List.{take_all, take_more}
use Rattle.farm_base.specs.declared.site.Site.{Site}
use Rattle.farm_model.specs.declared.state.Trace.{Trace}
use Rattle.farm_base.specs.declared.step.Step.{Step}
use Rattle.farm_base.specs.CheckedSite.{IsChecked}
use Rattle.farm_model.specs.Promise.{KeepsPromise, IsPromised}
use Rattle.farm_model.specs.Run.{Past, Transition, start, Run, steps_in, skipped_in, trace_of, TellsSame, IsTrace}
use Rattle.farm_model.specs.World.{WorldState}
use Rattle.farm_model.proofs.Runs.RunLemmas.{Run-push, steps_in-push, skipped_in-push, trace_before}
use Rattle.farm_world.proofs.runs.run.Goals as goal

pub loop-place-preserved : goal.loop-place-preserved
loop-place-preserved g c =
    let site : Site = c.args.site.now in
    let steps = c.args.steps.now in
    let place = c.loop-place.place in
    let step : Step = c.index-steps-place.result in
    let past : Past = c.loop-place.invariant.0 in
    let made = c.in-Ok-step.ensures.ok in
    let t : Transition = record { step = step; before = c.loop-place.world; applied = c.in-Ok-step.applied; losses = made.0; after = c.step.new.self } in
    let within : place < length steps = omega arith in
    let more : take (place + 1) steps ≡ take place steps ++ step ∷ [] =
    take_more steps place step within ∙ ap (λ (s : Step). take place steps ++ s ∷ []) (sym c.index-steps-place.is) in
    let counted : c.loop-place.skipped ≤ place = c.loop-place.invariant.4 in
    let most = c.skips-skipped.ensures.most in (
      past ++ t ∷ [],
      Run-push site (start site) past c.loop-place.world step c.in-Ok-step.applied made.0 c.step.new.self c.loop-place.invariant.1 made.1,
      steps_in-push past t ∙ ap (λ (done : List Step). done ++ step ∷ []) c.loop-place.invariant.2 ∙ sym more,
      (let before = c.loop-place.invariant.3 in let one = c.skips-skipped.ensures.count in let push = skipped_in-push past t in omega (arith, before, one, push)),
      omega (arith, counted, most),
    )

abbrev PromisesRuns : Type 0
PromisesRuns = (site : Site) (past : Past) (trace : Trace) → IsChecked site → IsTrace site past trace → KeepsPromise site past trace

-- the trace that is told keeps the promise
promised : PromisesRuns → (site : Site) (past : Past) (steps : List Step) (old new : WorldState) (skipped : _) (trace : Trace) → IsChecked site → Run site (start site) past old → TellsSame old new → steps_in past ≡ steps → skipped ≡ skipped_in past → trace ≡ trace_of skipped new → IsPromised site steps trace
promised keeps site past steps old new skipped trace checked run same steps_are counted trace_is =
    let is_trace = trace_before site past old new trace run same (trace_is ∙ ap (λ n. trace_of n new) counted) in
    record { past = past; steps_are = steps_are; is_trace = is_trace; promise = keeps site past trace checked is_trace }

pub returns-in_default-step-clause-err : goal.returns-in_default-step-clause-err
returns-in_default-step-clause-err g c =
    let i = c.loop-place.invariant in
    (omega arith, promised c.runs_keep_the_promise.ensures c.args.site.now i.0 (take c.loop-place.place c.args.steps.now) c.loop-place.world c.step.new.self c.loop-place.skipped c.trace_of.result c.requires i.1 c.in_default-step.ensures.err i.2 i.3 c.trace_of.ensures)

pub returns-clause-ok : goal.returns-clause-ok
returns-clause-ok g c =
    let i = c.loop-place.invariant in
    let steps = c.args.steps.now in
    let past : length steps ≤ c.loop-place.place = omega arith in
    promised c.runs_keep_the_promise.ensures c.args.site.now i.0 steps c.loop-place.world c.loop-place.world c.loop-place.skipped c.trace_of-2.result c.requires i.1 (refl, refl, refl, refl) (i.2 ∙ take_all c.loop-place.place steps past) i.3 c.trace_of-2.ensures
