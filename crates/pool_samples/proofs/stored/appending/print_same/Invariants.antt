use Rattle.pool_samples.proofs.stored.appending.print_same.Given as goal

abbrev pub invariant-loop-octets : goal.invariant-loop-octets
invariant-loop-octets g l = g.L.RowStore.is_clean l.store → g.L.RowStore.is_ready l.store
