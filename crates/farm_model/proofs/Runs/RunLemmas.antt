-- Runs that go on by one step.
use Rattle.std.proofs.Common.{◌≡◌, ℕ, ◌+◌, Bool, true, false, cond, not, List, [], ◌∷◌, ◌++◌, refl, sym, subst, ap, ◌∙◌, arith}
use Rattle.std.proofs.lemmas.List.Sums.{sum_by_push}
use Rattle.dia_base.specs.declared.number.NodeNo.{NodeNo}
use Rattle.dia_message.specs.Traffic.{Traffic}
use Rattle.cc_book.specs.Taking.{Ledger}
use Rattle.farm_base.specs.declared.site.Site.{Site}
use Rattle.farm_model.specs.declared.state.Trace.{Trace}
use Rattle.farm_base.specs.declared.step.Step.{Step}
use Rattle.farm_model.specs.FarmStep.{FarmStep}
use Rattle.farm_model.specs.Loss.{LossAt}
use Rattle.farm_model.specs.Run.{Past, Transition, Run, start, steps_in, skips, skipped_in, trace_of, TellsSame, IsTrace}
use Rattle.farm_model.specs.World.{WorldState}

pub Run-push : (site : Site) (old : WorldState) (past : Past) (mid : WorldState) (step : Step) (applied : Bool) (losses : List LossAt) (new : WorldState) → Run
    site old past mid → FarmStep site mid step applied losses new
    → Run site old (past ++ record { step = step; before = mid; applied = applied; losses = losses; after = new } ∷ []) new
Run-push site old [] mid step applied losses new run made = (run, made, refl)
Run-push site old (first ∷ past) mid step applied losses new run made = (run.0, run.1, Run-push site first.after past mid step applied losses new run.2 made)

pub steps_in-push : (past : Past) (t : Transition) → steps_in (past ++ t ∷ []) ≡ steps_in past ++ t.step ∷ []
steps_in-push [] t = refl
steps_in-push (first ∷ past) t = ap (λ (steps : List Step). first.step ∷ steps) (steps_in-push past t)

skips_is : (applied : Bool) → cond {A = ℕ} (not applied) 1 0 ≡ skips applied
skips_is true = refl
skips_is false = refl

pub skipped_in-push : (past : Past) (t : Transition) → skipped_in (past ++ t ∷ []) ≡ skipped_in past + skips t.applied
skipped_in-push past t = let one = skips_is t.applied in omega (arith, one, sum_by_push (λ (other : Transition). cond {A = ℕ} (not other.applied) 1 0) past t)

-- what is told after a step that failed is what was told before it
pub trace_before : (site : Site) (past : Past) (old new : WorldState) (trace : Trace) → Run site (start site) past old → TellsSame old new → trace ≡ trace_of
    (skipped_in past) new → IsTrace site past trace
trace_before site past old new trace run same is =
    let skipped = skipped_in past in
    let one = ap (λ (sent : Traffic). trace_of skipped (record new { sent = sent })) same.0 in
    let two = ap (λ (received : Traffic). trace_of skipped (record new { sent = old.sent; received = received })) same.1 in
    let three = ap (λ (book : Ledger). trace_of skipped (record new { sent = old.sent; received = old.received; book = book })) same.2 in
    let four = ap (λ (ends : List (NodeNo × NodeNo)). trace_of skipped (record new { sent = old.sent; received = old.received; book = old.book; ends = ends }))
    same.3 in
    subst (IsTrace site past) (sym (is ∙ one ∙ two ∙ three ∙ four)) (record { end = old; run = run; trace_is = refl })
