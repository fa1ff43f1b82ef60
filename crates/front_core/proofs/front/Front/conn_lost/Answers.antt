use Rattle.std.proofs.Common.{rules, not, eqb, List, ap}
use Rattle.std.proofs.lemmas.Fn.{filter_same}
use Rattle.dia_base.specs.declared.number.ConnId.{ConnId}
use Rattle.front_core.specs.FrontState.{FrontState}
use Rattle.front_core.proofs.front.Front.conn_lost.Goals as goal

pub returns : goal.returns
returns c =
    let kept = filter_same _ (λ (up : ConnId). not (eqb up.0 c.args.conn.0)) _ (λ x b f k. search rules) _ _ c.retain.ensures.filtered in
    let front = λ (conns : List ConnId). let f : FrontState = record { site = c.self.inside.site; connections = conns; queue = c.self.inside.queue.items; workers = c.self.inside.workers.items } in f in
    rw (← c.self.view_is) (ap front kept)
