use Rattle.pool_node.proofs.fronts.PoolFrontsNode.on_tick.Goals as goal

pub returns : goal.returns
returns g c = record { before = c.take_in-reaction.new.self; takes = c.take_in-reaction.ensures; asks = c.ask_if_due.ensures }
