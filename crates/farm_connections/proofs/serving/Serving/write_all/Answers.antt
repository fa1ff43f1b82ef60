use Rattle.std.proofs.Common.{◌≡◌, ◌<◌, List, ap, length, rules, ◌∙◌}
use Rattle.std.specs.Prelude.{slice_set}
use Rattle.farm_connections.specs.Turns.{Mark}
use Rattle.farm_connections.proofs.Placing.{keeping, same_marks}
use Rattle.farm_connections.proofs.Telling.{no_way, way_then}
use Rattle.farm_connections.proofs.serving.Serving.write_all.Goals as goal

pub loop-place-preserved : goal.loop-place-preserved
loop-place-preserved g c =
    let desk = c.loop-place.self.desk in let links = desk.links.items in let place = c.loop-place.place in let next = c.flush_at.new.link in
    let within : place < length links = search rules in
    let places : length (slice_set links place next) ≡ length c.args.self.now.desk.links.items = search rules in
    let marks = same_marks links place c.index_mut.result.now next within c.index_mut.ensures.value c.flush_at.ensures.mark in
    record {
      kept = ap (λ (marks : List Mark). keeping desk.node marks desk.made) marks ∙ c.loop-place.invariant.kept;
      places = places;
      locals = c.loop-place.invariant.locals;
    }

pub returns-clause-tells : goal.returns-clause-tells
returns-clause-tells g c = way_then (no_way _ _ c.loop-place.invariant.kept) c.settle.ensures.tells

pub returns-clause-writes : goal.returns-clause-writes
returns-clause-writes g c = record { mid = c.loop-place.self.desk; does = c.loop-place.invariant.kept; settles = c.settle.ensures.settles }
