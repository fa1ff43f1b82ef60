-- The book after a change of its terms for which there is memory.
use Rattle.dia_base.specs.declared.number.Moment.{Moment}
use Rattle.cc_book.specs.declared.terms_change.TermsChange.{TermsChange}
use Rattle.cc_book.specs.Changing.{after_change_with, change_answer}
use Rattle.cc_book.specs.Taking.{Ledger}

-- One entry more, where the book makes the change; else, as where the change has a fault or the book is full, the book as it was.
abbrev pub after_change : Ledger → Moment → TermsChange → Ledger
after_change ledger moment change = after_change_with ledger moment change (change_answer ledger change)
