use Rattle.std.proofs.Common.{◌≡◌, ◌++◌, true}
use Rattle.farm_player.specs.Passing.{passage_of, passed_by}
use Rattle.farm_player.proofs.Playing.{IsPlayed-stepped, passed_after, plays_step}
use Rattle.farm_player.proofs.farm.PlayedFarm.play.Goals as goal

pub invariant_of-self-2 : goal.invariant_of-self-2
invariant_of-self-2 c = λ whole.
    let f = c.self.inside in
    let made = c.in_ok-applied.ensures.ok in
    let applied = c.in_ok-applied.applied in
    let was_whole : f.is_whole ≡ true = cc in
    let more = c.with_passage-passed in
    let passed : c.keep_if.new.passed.items ≡ f.passed.items ++ passed_by f.world c.args.step.now applied =
    passed_after more.result (λ all. all.items) applied f.passed.items c.keep_if.new.passed.items (passage_of f.world c.args.step.now) more.ensures.some more.ensures.none c.keep_if.ensures.some c.keep_if.ensures.none in
    IsPlayed-stepped f.site.now f.world c.step.new.self c.args.step.now f.passed.items made.0 f.steps f.prints f.lines.items applied c.keep_if.new.passed.items c.steps_after-self-inside.result c.push_if.new.lines.items (c.self.invariant was_whole) made.1 passed c.steps_after-self-inside.ensures c.in_ok-push_if.ensures

pub returns-clause-ok : goal.returns-clause-ok
returns-clause-ok c =
    let f = c.self.inside in
    let made = c.in_ok-applied.ensures.ok in
    let applied = c.in_ok-applied.applied in
    let more = c.with_passage-passed in
    let passed : c.keep_if.new.passed.items ≡ f.passed.items ++ passed_by f.world c.args.step.now applied =
    passed_after more.result (λ all. all.items) applied f.passed.items c.keep_if.new.passed.items (passage_of f.world c.args.step.now) more.ensures.some more.ensures.none c.keep_if.ensures.some c.keep_if.ensures.none in
    let whole : c.replace-is_whole.result ≡ f.is_whole = c.replace-is_whole.ensures.value in
    rw (← c.self.view_is) (plays_step f.site.now f.world c.step.new.self c.args.step.now applied made.0 f.passed.items c.keep_if.new.passed.items f.steps c.steps_after-self-inside.result f.prints f.lines.items c.push_if.new.lines.items f.is_whole c.replace-is_whole.result made.1 passed c.steps_after-self-inside.ensures c.in_ok-push_if.ensures whole)
