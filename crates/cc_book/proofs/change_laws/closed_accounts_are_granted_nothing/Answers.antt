use Rattle.cc_book.specs.AccountMachine.{postings_of, terms_of}
use Rattle.cc_book.proofs.Closing.{closed-none}
use Rattle.cc_book.proofs.change_laws.closed_accounts_are_granted_nothing.Goals as goal

pub returns : goal.returns
returns c = λ terms history request. closed-none (terms_of terms history) (postings_of terms history) request
