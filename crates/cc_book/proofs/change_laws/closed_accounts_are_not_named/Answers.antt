use Rattle.cc_book.proofs.Closing.{named-open}
use Rattle.cc_book.proofs.change_laws.closed_accounts_are_not_named.Goals as goal

pub returns : goal.returns
returns c = named-open
