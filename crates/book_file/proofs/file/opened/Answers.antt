use Rattle.book_file.proofs.Fresh.{found_fresh}
use Rattle.book_file.proofs.file.opened.Goals as goal

pub returns-in-Ok-clause-fresh : goal.returns-in-Ok-clause-fresh
returns-in-Ok-clause-fresh g c = found_fresh c.with_tables.result c.in-Ok.store c.in-Ok.ensures.ready c.with_tables.ensures.same
