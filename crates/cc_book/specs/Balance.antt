-- What the accounts have after a history.
use Rattle.std.specs.Prelude.{ℕ, List, ℤ, ◌-ℤ◌}
use Rattle.cc_view.specs.declared.request.CcRequest.{CcRequest}
use Rattle.cc_book.specs.declared.entry.Entry.{Entry}
use Rattle.cc_book.specs.declared.terms.Terms.{Terms}
use Rattle.cc_book.specs.AccountMachine.{opening_at, debit_after, postings_of, terms_of}
use Rattle.cc_book.specs.Posting.{debits_to}
use Rattle.cc_book.specs.Reservation.{reserved_by}
use Rattle.cc_book.specs.Session.{open_count}

-- what a request debits after a history
unfoldable pub debit_of : Terms → List Entry → CcRequest → ℤ
debit_of opening history request = debit_after (terms_of opening history) (postings_of opening history) request

-- the debits of the requests of an account, each after the entries before it
unfoldable pub spent_by : Terms → List Entry → ℕ → ℤ
spent_by opening history account = debits_to account (postings_of opening history)

unfoldable pub balance_of : Terms → List Entry → ℕ → ℤ
balance_of opening history account = opening_at (terms_of opening history).accounts account -ℤ spent_by opening history account

-- what sessions hold of an account
unfoldable pub reserved_of : Terms → List Entry → ℕ → ℕ
reserved_of opening history account = reserved_by opening.validity account (postings_of opening history)

-- how many sessions are open
unfoldable pub open_sessions_of : Terms → List Entry → ℕ
open_sessions_of opening history = open_count opening.validity (postings_of opening history)
