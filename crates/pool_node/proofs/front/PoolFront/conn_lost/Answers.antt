use Rattle.std.proofs.Common.{rules, not, eqb, List, ap}
use Rattle.std.proofs.lemmas.Fn.{filter_same}
use Rattle.dia_base.specs.declared.number.ConnId.{ConnId}
use Rattle.pool_node.specs.Fronts.{FrontState}
use Rattle.pool_node.proofs.front.PoolFront.conn_lost.Goals as goal

pub returns : goal.returns
returns g c =
    let kept = filter_same _ (λ (up : ConnId). not (eqb up.0 c.args.conn.0)) _ (λ x b f k. search rules) _ _ c.retain.ensures.filtered in
    let front = λ (conns : List ConnId). let f : FrontState = record { connections = conns; pool = c.self.inside.pool } in f in
    rw (← c.self.view_is) (ap front kept)
