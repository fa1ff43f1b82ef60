use Rattle.std.specs.Prelude.{false}
use Rattle.pool_node.specs.Fronts.{site_of}
use Rattle.pool_samples.proofs.fronts.samples.print_sample.Given as goal

abbrev pub ghosts-print_on-L-Pooling : goal.ghosts-print_on-L-Pooling
ghosts-print_on-L-Pooling g a = record { site = site_of a.site.now }

abbrev pub ghosts-print_on-L-Sharing : goal.ghosts-print_on-L-Sharing
ghosts-print_on-L-Sharing g a = record { shared = record { opened = a.book; log = a.history; stored = false } }

abbrev pub ghosts-print_on-L-Ledger : goal.ghosts-print_on-L-Ledger
ghosts-print_on-L-Ledger g a = record { name = a.blank.name; parts = a.blank.parts }
