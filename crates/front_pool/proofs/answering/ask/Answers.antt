use Rattle.front_pool.proofs.answering.ask.Goals as goal

pub returns-in-None : goal.returns-in-None
returns-in-None g c = (c.refuse.ensures.job, c.refuse.ensures.answered, c.refuse.ensures.receipt, c.refuse.ensures.moment)
