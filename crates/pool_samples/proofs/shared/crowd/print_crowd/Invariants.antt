use Rattle.std.specs.Prelude.{false}
use Rattle.pool_samples.proofs.shared.crowd.print_crowd.Given as goal

abbrev pub ghosts-crowd-L-Sharing : goal.ghosts-crowd-L-Sharing
ghosts-crowd-L-Sharing g a = record { shared = record { opened = a.book; log = a.history; stored = false } }

abbrev pub ghosts-crowd-L-Ledger : goal.ghosts-crowd-L-Ledger
ghosts-crowd-L-Ledger g a = record { name = a.blank.name; parts = a.blank.parts }
