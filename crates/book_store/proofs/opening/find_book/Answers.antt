use Rattle.std.proofs.Common.{List, ap, subst}
use Rattle.sqlite_value.specs.Order.{Row}
use Rattle.sqlite_trees.specs.View.{View}
use Rattle.book_store.specs.Damage.{IsDamagedAt}
use Rattle.book_store.proofs.opening.find_book.Goals as goal

pub returns-in-Err-clause-damaged : goal.returns-in-Err-clause-damaged
returns-in-Err-clause-damaged g c = λ place e clean.
    let read = c.in_ok-has_book.ensures.two (c.in-Err.ensures.clean clean) in
    subst (λ (t : List Row). IsDamagedAt t place) (ap (λ (v : View). v.trees 0) read.alike) (c.in-Err.ensures.damaged place (cc) clean)
