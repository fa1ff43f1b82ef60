use Rattle.cc_book.proofs.Paying.{checked, enquired, refunded, refused, unnamed}
use Rattle.cc_book.proofs.laws.refunds_are_debits_below_zero.Goals as goal

pub returns-clause-refunded : goal.returns-clause-refunded
returns-clause-refunded c = refunded

pub returns-clause-checked : goal.returns-clause-checked
returns-clause-checked c = checked

pub returns-clause-enquired : goal.returns-clause-enquired
returns-clause-enquired c = enquired

pub returns-clause-unnamed : goal.returns-clause-unnamed
returns-clause-unnamed c = unnamed

pub returns-clause-refused : goal.returns-clause-refused
returns-clause-refused c = refused
