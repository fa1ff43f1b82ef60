use Rattle.book_store.proofs.Scanned.{damaged_when_fresh, elsewhere_when_fresh}
use Rattle.book_store.proofs.tree.open_tree.Goals as goal

pub returns-in-Err-clause-damaged : goal.returns-in-Err-clause-damaged
returns-in-Err-clause-damaged g c = λ place e clean.
    damaged_when_fresh (g.S.Store.view c.args.store) place (c.requires.fresh (c.in-Err.ensures.clean clean)) (c.in-Err.ensures.damaged place (cc) clean)

pub returns-in-Err-clause-elsewhere : goal.returns-in-Err-clause-elsewhere
returns-in-Err-clause-elsewhere g c = λ e clean.
    elsewhere_when_fresh (g.S.Store.view c.args.store) (c.requires.fresh (c.in-Err.ensures.clean clean)) (c.in-Err.ensures.elsewhere (cc) clean)
