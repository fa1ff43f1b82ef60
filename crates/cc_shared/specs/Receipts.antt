-- What a receipt says of the one history.
use Rattle.std.specs.Prelude.{◌≡◌, ℕ, ◌+◌, List, length, take, slice_get, Some, IsTrue, true}
use Rattle.dia_base.specs.declared.number.Moment.{Moment}
use Rattle.cc_view.specs.declared.request.CcRequest.{CcRequest}
use Rattle.cc_book.specs.declared.entry.Entry.{Entry}
use Rattle.cc_book.specs.declared.entry.Entry.TheVariants.{Take}
use Rattle.cc_book.specs.declared.terms.Terms.{Terms}
use Rattle.cc_book.specs.AccountMachine.{repeat_reply}
use Rattle.cc_book.specs.Duplicate.{key_of, same_key}
use Rattle.cc_book.specs.History.{IsLegal}
use Rattle.cc_book.specs.Taking.{Ledger}
use Rattle.cc_shared.specs.declared.logged.Logged.{Logged}
use Rattle.cc_shared.specs.declared.receipt.Receipt.{Receipt}
use Rattle.cc_shared.specs.History.{SharedLedger, book_at}

-- What a receipt tells of the request that was taken under its key, after these entries: its reply is the account
-- machine's, if its own request is the one that was taken, else DIAMETER_UNABLE_TO_COMPLY alone. A fresh receipt's own
-- request is the one that was taken.
pub record Tells (terms : Terms) (before : List Entry) (taken : CcRequest) (receipt : Receipt) : Type 0 where
  pub same : IsTrue (same_key (key_of taken) (key_of receipt.request))
  pub reply : receipt.reply ≡ repeat_reply terms before taken receipt.request
  pub own : receipt.fresh ≡ true → taken ≡ receipt.request

-- A receipt is true: what it tells holds after a legal history that has as many entries as its place says.
pub record IsTrueReceipt (terms : Terms) (receipt : Receipt) : Type 0 where
  pub before : List Entry
  pub legal : IsLegal terms before
  pub place : length before ≡ receipt.place
  pub taken : CcRequest
  pub told : Tells terms before taken receipt

-- the entry at this place is the take of a request
pub record IsTakenAt (history : List Entry) (place : ℕ) (taken : CcRequest) : Type 0 where
  pub moment : Moment
  pub entry : slice_get history place ≡ Some (Take moment taken)

-- A receipt stands in this history: the entry at its place is the take of which it tells, after the entries before it.
pub record Fits (terms : Terms) (history : List Entry) (receipt : Receipt) : Type 0 where
  pub taken : CcRequest
  pub at : IsTakenAt history receipt.place taken
  pub told : Tells terms (take receipt.place history) taken receipt

-- ---- the one history

-- A receipt stands in a book: its history is legal, and the entry at the receipt's place is the take of which it tells. A fresh
-- receipt's is the last one.
pub record StandsIn (book : Ledger) (receipt : Receipt) : Type 0 where
  pub legal : IsLegal book.terms book.history
  pub fits : Fits book.terms book.history receipt
  pub last : receipt.fresh ≡ true → length book.history ≡ receipt.place + 1

-- A receipt stands in the one history of the book that was shared, in what was seen of it as the receipt was made.
pub record IsReceiptOf (shared : SharedLedger) (receipt : Receipt) : Type 0 where
  pub of : receipt.seen.book ≡ shared.log
  pub stands : StandsIn (book_at shared.opened receipt.seen.log) receipt

-- a fresh receipt's entry is the take of its request at this moment
abbrev pub IsEnteredAt : Ledger → Moment → Receipt → Type 0
IsEnteredAt opened moment receipt = slice_get (book_at opened receipt.seen.log).history receipt.place ≡ Some (Take moment receipt.request)

-- Two receipts of one book stand in one legal history of it, each at its place.
pub record StandTogether (shared : SharedLedger) (one other : Receipt) : Type 0 where
  pub log : List Logged
  pub legal : IsLegal shared.opened.terms (book_at shared.opened log).history
  pub this : Fits shared.opened.terms (book_at shared.opened log).history one
  pub that : Fits shared.opened.terms (book_at shared.opened log).history other
