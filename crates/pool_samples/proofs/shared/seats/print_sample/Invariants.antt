use Rattle.std.specs.Prelude.{false}
use Rattle.pool_samples.proofs.shared.seats.print_sample.Given as goal

abbrev pub ghosts-run-L-Sharing : goal.ghosts-run-L-Sharing
ghosts-run-L-Sharing g a = record { shared = record { opened = a.book; log = a.history; stored = false } }

abbrev pub ghosts-run-L-Ledger : goal.ghosts-run-L-Ledger
ghosts-run-L-Ledger g a = record { name = a.blank.name; parts = a.blank.parts }
