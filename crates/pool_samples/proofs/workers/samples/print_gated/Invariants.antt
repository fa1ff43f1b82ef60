use Rattle.std.specs.Prelude.{false}
use Rattle.pool_samples.proofs.workers.samples.print_gated.Given as goal

abbrev pub ghosts-run-L-Pooling : goal.ghosts-run-L-Pooling
ghosts-run-L-Pooling g a = record { site = λ front. record { name = a.queue.name; realm = a.queue.realm; profile = a.queue.profile } }

abbrev pub ghosts-run-L-Sharing : goal.ghosts-run-L-Sharing
ghosts-run-L-Sharing g a = record { shared = record { opened = a.book; log = a.history; stored = false } }

abbrev pub ghosts-run-L-Ledger : goal.ghosts-run-L-Ledger
ghosts-run-L-Ledger g a = record { name = a.blank.name; parts = a.blank.parts }
