use Rattle.std.specs.Prelude.{false}
use Rattle.pool_samples.proofs.shared.seats.another_receipt.Given as goal

abbrev pub ghosts-sixth-L-Sharing : goal.ghosts-sixth-L-Sharing
ghosts-sixth-L-Sharing g a = record { shared = record { opened = a.book; log = a.history; stored = false } }

abbrev pub ghosts-sixth-L-Ledger : goal.ghosts-sixth-L-Ledger
ghosts-sixth-L-Ledger g a = record { name = a.blank.name; parts = a.blank.parts }
