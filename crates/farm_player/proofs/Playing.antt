-- A farm that is played stays at the end of a run.
use Rattle.std.proofs.Common.{◌≡◌, ℕ, ◌+◌, ◌-◌, ◌^◌, ◌<◌, Bool, true, false, if◌then◌else◌, Option, Some, None, List, [], ◌∷◌, ◌++◌, refl, sym, subst, ap, ◌∙◌, append_assoc, arith}
use Rattle.std.specs.Prelude.{IfNone, IfSome}
use Rattle.std.proofs.lemmas.List.{append-nil}
use Rattle.dia_base.specs.declared.number.NodeNo.{NodeNo}
use Rattle.farm_base.specs.declared.site.Site.{Site}
use Rattle.farm_base.specs.declared.step.Step.{Step}
use Rattle.farm_model.specs.FarmStep.{FarmStep}
use Rattle.farm_model.specs.Loss.{LossAt}
use Rattle.farm_model.specs.Run.{start}
use Rattle.farm_model.specs.World.{WorldState}
use Rattle.farm_player.specs.PlayedRun.{Turn, Try, Draw, AreLastLines, IsPlayed, PlaysStep, applied_in, lines_of, passages_in, with_start}
use Rattle.farm_player.specs.Passing.{Passage, passed_by}
use Rattle.farm_player.specs.Counting.{steps_after, lines_after}
use Rattle.farm_player.specs.StepLines.{step_line}

-- ---- lines

-- before the first step there are none
no_lines : (prints : Bool) → AreLastLines prints [] []
no_lines true = ([], refl)
no_lines false = refl

-- one line more
line_more : (prints : Bool) (site : Site) (step : Step) (all lines : List ℕ) → AreLastLines prints all lines → AreLastLines prints (all ++ step_line site step)
    (lines_after prints true site step lines)
line_more true site step all lines last = (last.0, sym (append_assoc last.0 lines (step_line site step)) ∙ ap (λ (front : List ℕ). front ++ step_line site step) last.1)
line_more false site step all lines last = last

-- none more
line_same : (prints : Bool) (site : Site) (step : Step) (all lines : List ℕ) → AreLastLines prints all lines → AreLastLines prints all
    (lines_after prints false site step lines)
line_same true site step all lines last = last
line_same false site step all lines last = last

-- all of them are handed out
none_left : (prints : Bool) (all lines : List ℕ) → AreLastLines prints all lines → AreLastLines prints all []
none_left true all lines last = (all, append-nil all)
none_left false all lines last = refl

-- ---- the count of steps

count_more : (steps applied : ℕ) → (steps < 2 ^ 64 - 1 → steps ≡ applied) → steps_after true steps < 2 ^ 64 - 1 → steps_after true steps ≡ applied + 1
count_more steps applied counted below = let fewer : steps < 2 ^ 64 - 1 = omega arith in let same = counted fewer in omega (arith, same)

-- ---- what has passed

nothing_passes : (applied : Bool) (old passage : List Passage) → passage ≡ [] → old ≡ old ++ (if applied then passage else [])
nothing_passes true old passage none = sym (ap (λ (more : List Passage). old ++ more) none ∙ append-nil old)
nothing_passes false old passage none = sym (append-nil old)

it_passes : (applied : Bool) (old all passage : List Passage) → all ≡ old ++ passage → (if applied then all else old) ≡ old ++ (if applied then passage else [])
it_passes true old all passage is = is
it_passes false old all passage is = sym (append-nil old)

-- what has passed, with that of a step where there is some and the step applied
pub passed_after : {L : Type 0} (more : Option L) (items : L → List Passage) (applied : Bool) (old new passage : List Passage)
    → IfSome more (λ m. items m ≡ old ++ passage) → IfNone more (passage ≡ []) → IfSome more (λ m. new ≡ (if applied then items m else old)) → IfNone more (new ≡ old)
    → new ≡ old ++ (if applied then passage else [])
passed_after None items applied old new passage all none kept same = same ∙ nothing_passes applied old passage none
passed_after (Some m) items applied old new passage all none kept same = kept ∙ it_passes applied old (items m) passage all

-- ---- the farm

pub IsPlayed-open : (site : Site) (world : WorldState) (passed : List Passage) (prints : Bool) (lines : List ℕ) → world ≡ start site → passed ≡ [] → lines ≡ []
    → IsPlayed site world passed 0 prints lines
IsPlayed-open site world passed prints lines opened quiet none =
    let empty : IsPlayed site (start site) [] 0 prints [] = record { turns = []; run = refl; passes = refl; counted = λ _. refl; printed = no_lines prints } in
    let at_world : IsPlayed site world [] 0 prints [] = subst (λ (w : WorldState). IsPlayed site w [] 0 prints []) (sym opened) empty in
    let with_none : IsPlayed site world passed 0 prints [] = subst (λ (r : List Passage). IsPlayed site world r 0 prints []) (sym quiet) at_world in
    subst (λ (text : List ℕ). IsPlayed site world passed 0 prints text) (sym none) with_none

-- a step was tried
module _ (site : Site) (old new : WorldState) (step : Step) (passed : List Passage) (losses : List LossAt) (steps : ℕ) (prints : Bool) (lines : List ℕ) where
  passed_more : (turns : List Turn) (applied : Bool) → passed ≡ passages_in turns → passed ++ passed_by old step applied ≡ passages_in (Try
      (record { step = step; before = old; applied = applied; losses = losses; after = new }) ∷ turns)
  passed_more turns applied is = ap (λ (so_far : List Passage). so_far ++ passed_by old step applied) is

  tried : (applied : Bool) → IsPlayed site old passed steps prints lines → FarmStep site old step applied losses new → IsPlayed site new
      (passed ++ passed_by old step applied) (steps_after applied steps) prints (lines_after prints applied site step lines)
  tried true played made =
      record {
        turns = Try (record { step = step; before = old; applied = true; losses = losses; after = new }) ∷ played.turns;
        run = (played.run, made, refl);
        passes = passed_more played.turns true played.passes;
        counted = count_more steps (applied_in played.turns) played.counted;
        printed = line_more prints site step (lines_of site played.turns) lines played.printed;
      }
  tried false played made =
      record {
        turns = Try (record { step = step; before = old; applied = false; losses = losses; after = new }) ∷ played.turns;
        run = (played.run, made, refl);
        passes = passed_more played.turns false played.passes;
        counted = played.counted;
        printed = line_same prints site step (lines_of site played.turns) lines played.printed;
      }

  pub IsPlayed-stepped : (applied : Bool) (all_passed : List Passage) (after : ℕ) (more : List ℕ) → IsPlayed site old passed steps prints lines → FarmStep site old step
      applied losses new → all_passed ≡ passed ++ passed_by old step applied → after ≡ steps_after applied steps → more ≡ lines_after prints applied site step lines
      → IsPlayed site new all_passed after prints more
  IsPlayed-stepped applied all_passed after more played made passes_so counted printed =
      let made_so = tried applied played made in
      let with_all : IsPlayed site new all_passed (steps_after applied steps) prints (lines_after prints applied site step lines) =
      subst (λ (r : List Passage). IsPlayed site new r (steps_after applied steps) prints (lines_after prints applied site step lines)) (sym passes_so) made_so in
      let count : IsPlayed site new all_passed after prints (lines_after prints applied site step lines) =
      subst (λ (n : ℕ). IsPlayed site new all_passed n prints (lines_after prints applied site step lines)) (sym counted) with_all in
      subst (λ (text : List ℕ). IsPlayed site new all_passed after prints text) (sym printed) count

-- a relay has drawn its start
pub IsPlayed-drawn : (site : Site) (old new : WorldState) (passed : List Passage) (node : NodeNo) (from steps : ℕ) (prints : Bool) (lines : List ℕ) → IsPlayed site
    old passed steps prints lines → new ≡ with_start node from old → IsPlayed site new passed steps prints lines
IsPlayed-drawn site old new passed node from steps prints lines played drawn =
    record {
      turns = Draw node from old ∷ played.turns;
      run = (played.run, drawn);
      passes = played.passes;
      counted = played.counted;
      printed = played.printed;
    }

-- the lines are handed out
pub IsPlayed-handed : (site : Site) (world : WorldState) (passed : List Passage) (steps : ℕ) (prints : Bool) (lines left : List ℕ) → IsPlayed site world passed
    steps prints lines → left ≡ [] → IsPlayed site world passed steps prints left
IsPlayed-handed site world passed steps prints lines left played none =
    let handed : IsPlayed site world passed steps prints [] =
    record {
      turns = played.turns;
      run = played.run;
      passes = played.passes;
      counted = played.counted;
      printed = none_left prints (lines_of site played.turns) lines played.printed;
    } in
    subst (λ (text : List ℕ). IsPlayed site world passed steps prints text) (sym none) handed

-- ---- what is seen of a step

pub plays_step : (site : Site) (before after : WorldState) (step : Step) (applied : Bool) (losses : List LossAt) (passed all : List Passage) (steps count : ℕ) (prints : Bool)
    (lines more : List ℕ) (whole left : Bool) → FarmStep site before step applied losses after → all ≡ passed ++ passed_by before step applied
    → count ≡ steps_after applied steps → more ≡ lines_after prints applied site step lines → left ≡ whole
    → PlaysStep (record { site = site; world = before; passed = passed; steps = steps; prints = prints; lines = lines; is_whole = whole }) step applied
    (record { site = site; world = after; passed = all; steps = count; prints = prints; lines = more; is_whole = left })
plays_step site before after step applied losses passed all steps count prints lines more whole left made passes counted printed same =
    record { world = after; losses = losses; played = made; leaves = rw (passes, counted, printed, same) refl }
