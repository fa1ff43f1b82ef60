use Rattle.std.proofs.Common.{refl, rules, subst}
use Rattle.front_pool.specs.declared.job.Finished.{Finished}
use Rattle.pool_node.specs.Booked.{HasTakenIn}
use Rattle.pool_node.specs.Fronts.{FrontsState}
use Rattle.pool_node.proofs.Collecting.{collects_more, finds_no_more, no_room}
use Rattle.pool_node.proofs.fronts.PoolFronts.collect_one.Goals as goal

pub returns-in_err-octets-clause-collects : goal.returns-in_err-octets-clause-collects
returns-in_err-octets-clause-collects g c =
    let w = c.self.inside in
    let old : FrontsState = record { fronts = w.fronts.items; under_way = w.sweeper; next_sweep = w.book.next_sweep; figures = w.book.figures; is_recorded = w.book.events.is_on } in
    let front = c.index_mut-front.result.now in let next = c.collect.new.self in
    let taken = subst (λ (f : Finished). HasTakenIn f w.book c.collected.new.self) c.as_finished.ensures c.collected.ensures in
    rw (← c.self.view_is) (collects_more _ _ old c.args.place front next c.in-Some.finished w.book c.collected.new.self c.args.sent.now.items c.reserve.new.self.items
    c.post.new.sent.items _ (search rules) c.index_mut-front.ensures.value c.in-Some.ensures.some refl refl refl taken
    c.reserve.ensures.items c.post.ensures.sent (search rules))

pub returns-clause-collects : goal.returns-clause-collects
returns-clause-collects g c =
    let w = c.self.inside in
    let old : FrontsState = record { fronts = w.fronts.items; under_way = w.sweeper; next_sweep = w.book.next_sweep; figures = w.book.figures; is_recorded = w.book.events.is_on } in
    let front = c.index_mut-front.result.now in let next = c.collect.new.self in
    let taken = subst (λ (f : Finished). HasTakenIn f w.book c.collected.new.self) c.as_finished.ensures c.collected.ensures in
    rw (← c.self.view_is) (collects_more _ _ old c.args.place front next c.in-Some.finished w.book c.collected.new.self c.args.sent.now.items c.reserve.new.self.items
    c.post.new.sent.items _ (search rules) c.index_mut-front.ensures.value c.in-Some.ensures.some refl refl refl taken
    c.reserve.ensures.items c.post.ensures.sent (search rules))

pub returns-then-is_err-clause-collects : goal.returns-then-is_err-clause-collects
returns-then-is_err-clause-collects g c =
    no_room _ _ c.args.self.now c.args.self.now c.args.sent.now.items c.reserve.new.self.items refl c.reserve.ensures.items

pub returns-in_default-clause-collects : goal.returns-in_default-clause-collects
returns-in_default-clause-collects g c =
    let w = c.self.inside in
    let old : FrontsState = record { fronts = w.fronts.items; under_way = w.sweeper; next_sweep = w.book.next_sweep; figures = w.book.figures; is_recorded = w.book.events.is_on } in
    let front = c.index_mut-front.result.now in let next = c.collect.new.self in
    rw (← c.self.view_is) (finds_no_more _ _ old c.args.place front next c.args.sent.now.items c.reserve.new.self.items
    (search rules) c.index_mut-front.ensures.value c.in_default.ensures.none c.reserve.ensures.items)
