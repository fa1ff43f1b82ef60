use Rattle.std.proofs.Common.{◌≡◌, true, List, length, map, ap, ◌∙◌, subst, arith}
use Rattle.std.proofs.lemmas.Grind.{common_steps}
use Rattle.std.proofs.lemmas.List.{length-map, with_items_is}
use Rattle.farm_model.specs.declared.state.Direction.{Direction}
use Rattle.farm_model.specs.FarmStep.{DropsIt, can_cut}
use Rattle.farm_model.specs.Loss.{LossAt, end_with}
use Rattle.farm_model.specs.World.{WorldState, emptied}
use Rattle.farm_world.proofs.Losing.{cut_turn}
use Rattle.farm_world.proofs.world.World.cut.Goals as goal
use Rattle.farm_world.proofs.world.World.cut.Goals.{else-not-knows-via-then-not-knows+else-not-knows-2, else-not-knows-via-else-not-knows}

pub returns-clause-ok : goal.returns-clause-ok
returns-clause-ok g c =
    let i = c.self.inside in
    let w : WorldState = record { directions = i.directions.items; fronts = i.fronts.items; relays = i.relays.items; book = i.book; sent = i.sent.items; received = i.received.items; ends = i.ends.items } in
    let a = c.args.a in
    let b = c.args.b in
    let emptied_ones : List Direction = c.lose_all.new.directions in
    let can : can_cut w a b ≡ true =
    elim c.else-not-knows.branch [
      | else-not-knows-via-then-not-knows+else-not-knows-2 v ↦ grind (arith, common_steps)
      | else-not-knows-via-else-not-knows v ↦ grind (arith, common_steps)
    ] in
    let all = c.lose_all.ensures ∙ ap (map (emptied a b)) c.deref_mut.ensures.value in
    let len : length emptied_ones ≡ i.directions.len = ap length c.lose_all.ensures ∙ length-map c.deref_mut.result.now (emptied a b) ∙ c.deref_mut.ensures.len in
    let items = with_items_is i.directions emptied_ones len ∙ all in
    let one = subst (λ (ds : List Direction). (first : List LossAt) × DropsIt (record w { directions = ds }) a (end_with ds a b) c.in_ok-drop_end.field-0 first c.drop_end.new.self) items c.in_ok-drop_end.ensures.ok in
    rw (← c.self.view_is) (cut_turn w c.drop_end.new.self c.drop_end-2.new.self a b c.in_ok-drop_end.field-0 c.in_ok-drop_end-2.field-0 can one c.in_ok-drop_end-2.ensures.ok)
