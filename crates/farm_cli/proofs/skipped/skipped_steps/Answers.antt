use Rattle.std.proofs.Common.{◌≡◌, ◌+◌, ◌<◌, ◌≤◌, ℕ, List, [], ◌∷◌, ◌++◌, length, take, sym, ap, ◌∙◌, arith}
use Rattle.std.proofs.lemmas.List.{take_all, take_more}
use Rattle.farm_base.specs.declared.site.Site.{Site}
use Rattle.farm_base.specs.declared.step.Step.{Step}
use Rattle.farm_model.specs.Run.{Past, Transition, start}
use Rattle.farm_model.proofs.Runs.RunLemmas.{Run-push, steps_in-push}
use Rattle.farm_cli.specs.Skipped.{number_if, skipped_from}
use Rattle.farm_cli.proofs.Skipping.{length_so_far, skipped_from-push}
use Rattle.farm_cli.proofs.skipped.skipped_steps.Goals as goal

pub loop-place-preserved : goal.loop-place-preserved
loop-place-preserved g c =
    let site : Site = c.args.site.now in
    let steps = c.args.steps.now in
    let place = c.loop-place.place in
    let step : Step = c.index-steps-place.result in
    let past : Past = c.loop-place.invariant.0 in
    let applied = c.in_ok-applied.applied in
    let made = c.in_ok-applied.ensures.ok in
    let t : Transition = record { step = step; before = c.loop-place.world; applied = applied; losses = made.0; after = c.step.new.self } in
    let within : place < length steps = omega arith in
    let more : take (place + 1) steps ≡ take place steps ++ step ∷ [] =
    take_more steps place step within ∙ ap (λ (s : Step). take place steps ++ s ∷ []) (sym c.index-steps-place.is) in
    let many : length past ≡ place = length_so_far past steps place c.loop-place.invariant.2 within in
    let number : 1 + length past ≡ place + 1 = omega (arith, many) in (
      past ++ t ∷ [],
      Run-push site (start site) past c.loop-place.world step applied made.0 c.step.new.self c.loop-place.invariant.1 made.1,
      steps_in-push past t ∙ ap (λ (done : List Step). done ++ step ∷ []) c.loop-place.invariant.2 ∙ sym more,
      c.in_ok-push_skipped.ensures ∙ (ap (λ (numbers : List ℕ). numbers ++ number_if applied (place + 1)) c.loop-place.invariant.3 ∙ (ap (λ (n : ℕ). skipped_from 1 past ++ number_if applied n) (sym number) ∙ sym (skipped_from-push 1 past t))),
    )

pub returns : goal.returns
returns g c =
    let i = c.loop-place.invariant in
    let past : length c.args.steps.now ≤ c.loop-place.place = omega arith in
    record {
      past = i.0;
      end = c.loop-place.world;
      run = i.1;
      steps_are = i.2 ∙ take_all c.loop-place.place c.args.steps.now past;
      numbers_are = i.3;
    }
