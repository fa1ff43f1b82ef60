use Rattle.cc_book.proofs.Bounds.{full-at-limit}
use Rattle.cc_book.proofs.Ranges.{entries-little, opened-small}
use Rattle.cc_book.proofs.bound_laws.short_books_are_full_at_their_limit.Goals as goal

pub returns-clause-by_ranges : goal.returns-clause-by_ranges
returns-clause-by_ranges c = λ ledger request short small none ranges.
    full-at-limit ledger request short (opened-small ledger.terms ledger.history small none ranges) (entries-little ledger.terms ledger.history none ranges)

pub returns-clause-by_moves : goal.returns-clause-by_moves
returns-clause-by_moves c = full-at-limit
