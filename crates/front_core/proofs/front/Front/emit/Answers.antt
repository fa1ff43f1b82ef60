use Rattle.std.proofs.Common.{rules, ◌≡◌, ◌<◌, [], ◌∷◌, ◌++◌, length, ap, ◌∙◌, true, false, Some}
use Rattle.std.specs.Prelude.{slice_get}
use Rattle.dia_message.specs.Traffic.{Traffic}
use Rattle.front_core.specs.declared.worker.Worker.{Worker}
use Rattle.front_core.specs.declared.worker.Worker.TheVariants.{Done}
use Rattle.front_core.specs.FrontState.{FrontState, is_among}
use Rattle.front_core.specs.FrontStep.{with_worker}
use Rattle.front_core.proofs.Emitting.{held_at, after_emit-done}
use Rattle.front_core.proofs.front.Front.emit.Goals as goal

pub returns-then-not-contains-clause-ok : goal.returns-then-not-contains-clause-ok
returns-then-not-contains-clause-ok c =
    let at = c.args.worker in
    let workers = c.self.inside.workers.items in
    let within : at < length workers = search rules in
    let held : slice_get workers at ≡ Some (Done c.in-Done.conn c.in-Done.answer) = held_at workers at c.replace-held.result (Done c.in-Done.conn c.in-Done.answer) within (cc) (search rules) in
    let among : is_among c.self.inside.connections.items c.in-Done.conn ≡ false = search rules in
    let front : FrontState = record {
      site = c.self.inside.site;
      connections = c.self.inside.connections.items;
      queue = c.self.inside.queue.items;
      workers = workers;
    } in
    rw (← c.self.view_is, after_emit-done front at c.in-Done.conn c.in-Done.answer false held among)
    (c.nothing.ensures, ap (λ (w : Worker). with_worker front at w) c.replace-held.ensures.after)

pub returns-clause-ok : goal.returns-clause-ok
returns-clause-ok c =
    let at = c.args.worker in
    let workers = c.self.inside.workers.items in
    let within : at < length workers = search rules in
    let held : slice_get workers at ≡ Some (Done c.in-Done.conn c.in-Done.answer) = held_at workers at c.replace-held.result (Done c.in-Done.conn c.in-Done.answer) within (cc) (search rules) in
    let among : is_among c.self.inside.connections.items c.in-Done.conn ≡ true = search rules in
    let front : FrontState = record {
      site = c.self.inside.site;
      connections = c.self.inside.connections.items;
      queue = c.self.inside.queue.items;
      workers = workers;
    } in
    rw (← c.self.view_is, after_emit-done front at c.in-Done.conn c.in-Done.answer true held among) (
      c.from_vec.ensures ∙ (c.push_reserved.ensures.items ∙ ap (λ (xs : Traffic). xs ++ (c.in-Done.conn, c.in-Done.answer) ∷ []) c.in_ok-items.ensures.items),
      ap (λ (w : Worker). with_worker front at w) c.replace-held.ensures.after,
    )
