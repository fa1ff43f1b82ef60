use Rattle.book_store.proofs.opening.stands_by_rows.Goals as goal

pub returns-in-Err-clause-damaged : goal.returns-in-Err-clause-damaged
returns-in-Err-clause-damaged g c = λ place e clean. c.in-Err.ensures.damaged place (cc) clean
