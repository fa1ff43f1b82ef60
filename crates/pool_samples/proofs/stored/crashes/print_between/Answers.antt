use Rattle.pool_samples.proofs.stored.crashes.print_between.Goals as goal

pub crash-requires : goal.crash-requires
crash-requires g c = c.put.ensures.reopens (c.append_all.ensures.reopens c.in_ok-store.ensures.reopens)

pub crash-requires-2 : goal.crash-requires-2
crash-requires-2 g c = c.append_all-2.ensures.reopens (c.print_store.ensures.reopens c.in_ok-store-2.ensures.reopens)
