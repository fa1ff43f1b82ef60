use Rattle.std.proofs.Common.{◌≡◌, ℕ, ◌+◌, Bool, false, cond, List, [], ◌∷◌, ◌++◌, length, Ok, sym, subst, ◌∙◌, arith}
use Rattle.std.proofs.lemmas.Grind.{common_steps}
use Rattle.std.specs.Str.Lines.{lines}
use Rattle.farm_script.specs.Schedule.{limited, step_of, steps_of}
use Rattle.farm_script.specs.Words.{words_of, says_nothing}
use Rattle.farm_base.specs.declared.step.Step.{Step}
use Rattle.farm_script.proofs.Readings.{Continues, Continues-memory, Continues-step, read_by}
use Rattle.farm_script.proofs.steps_of.Goals as goal

pub returns-in_err-step : goal.returns-in_err-step
returns-in_err-step c =
    let before = Continues-memory c.args.site.now (steps_of c.args.site.now c.args.text.now) c.loop-rest.steps.items (c.loop-rest.line + 1) (lines c.loop-rest.rest.now) c.loop-rest.invariant.spelled in
    grind (arith, common_steps, before)

pub returns-in_err-map_err : goal.returns-in_err-map_err
returns-in_err-map_err c =
    let before = Continues-memory c.args.site.now (steps_of c.args.site.now c.args.text.now) c.loop-rest.steps.items (c.loop-rest.line + 1) (lines c.loop-rest.rest.now) c.loop-rest.invariant.spelled in
    grind (arith, common_steps, before)

pub loop-rest-preserved-in_ok-map_err : goal.loop-rest-preserved-in_ok-map_err
loop-rest-preserved-in_ok-map_err c =
    let site = c.args.site.now in
    let spelled = steps_of site c.args.text.now in
    let steps = c.loop-rest.steps.items in
    let first = c.first_line.result.0.now in
    let left = lines c.first_line.result.1.now in
    let step = c.in_ok-step.step in
    let h = subst (λ (ls : List (List ℕ)). Continues site spelled steps (c.loop-rest.line + 1) ls) c.first_line.ensures.line c.loop-rest.invariant.spelled in
    let something : says_nothing first ≡ false = sym c.is_skipped.ensures ∙ c.if-not-is_skipped.true in
    let read = read_by (limited c.len.result (step_of site (words_of first))) c.step_in.result step c.step_in.ensures c.in_ok-step.ensures.cases in
    let counted : c.len.result ≡ length steps = omega (arith, c.len.ensures, c.loop-rest.steps.ok.0) in
    let here = subst (λ (before : ℕ). limited before (step_of site (words_of first)) ≡ Ok step) counted read in
    let next = Continues-step site spelled steps (c.loop-rest.line + 1) first left step h something here in
    record {
      spelled = subst (λ (ss : List Step). Continues site spelled ss (c.loop-rest.line + 1 + 1) left) (sym c.push.ensures.items)
          (subst (λ (pushed : Bool). Continues site spelled (cond pushed (steps ++ step ∷ []) steps) (c.loop-rest.line + 1 + 1) left) c.in_ok-map_err.ensures.variant next);
      counted = grind (arith, common_steps);
      numbered = grind (arith, common_steps);
    }
