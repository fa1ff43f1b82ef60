use Rattle.std.specs.Prelude.{is_some}
use Rattle.pool_node.specs.Fronts.{site_of}
use Rattle.farm_live.proofs.fronts.serve_fronts.Given as goal

abbrev pub ghosts-serve_on-L-Pooling : goal.ghosts-serve_on-L-Pooling
ghosts-serve_on-L-Pooling g a = record { site = site_of a.setting.now.site.now }

abbrev pub ghosts-serve_on-L-Sharing : goal.ghosts-serve_on-L-Sharing
ghosts-serve_on-L-Sharing g a = record { shared = record { opened = a.book; log = a.history; stored = is_some a.journal.store } }

abbrev pub ghosts-serve_on-L-Ledger : goal.ghosts-serve_on-L-Ledger
ghosts-serve_on-L-Ledger g a = record { name = a.blank.name; parts = a.blank.parts }
