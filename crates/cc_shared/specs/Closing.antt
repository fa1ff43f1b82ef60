-- When a shared book is finished.
use Rattle.std.specs.Prelude.{◌≡◌, ℕ, List, length, sum, true, All, Any, Result, Ok, Err}
use Rattle.cc_book.specs.History.{IsLegal}
use Rattle.cc_book.specs.Taking.{Ledger}
use Rattle.cc_shared.specs.declared.error.CloseError.{CloseError}
use Rattle.cc_shared.specs.declared.error.CloseError.TheVariants.{ReceiptNotInHistory, CountsDiffer, OutOfMemory, Closed}
use Rattle.cc_shared.specs.declared.receipt.Receipt.{Receipt}
use Rattle.cc_shared.specs.Receipts.{Fits}
use Rattle.logbook.specs.Pages.{Book as LogName}
use Rattle.cc_shared.specs.declared.logged.Logged.{Logged}
use Rattle.cc_shared.specs.History.{SharedLedger, book_at, is_closed}
use Rattle.cc_shared.specs.Sharing.{HasGrown, Stood}

-- A finished book: its legal history goes on from that which was handed in, with as many takes as the seats counted,
-- and every receipt stands in it.
pub record IsFinished (opened : Ledger) (counts : List ℕ) (handed_in : List Receipt) (book : Ledger) : Type 0 where
  pub grown : HasGrown opened book (sum counts)
  pub legal : IsLegal book.terms book.history
  pub receipts : All (λ receipt. Fits book.terms book.history receipt) handed_in

-- Why a book was not finished. With all seats, of which there are so many, their counts do not differ.
abbrev pub HasCause : Ledger → ℕ → List ℕ → List Receipt → CloseError → Type 0
HasCause opened seats counts receipts (ReceiptNotInHistory place book) =
    Stood opened book × Any (λ receipt. (receipt.place ≡ place) × (Fits book.terms book.history receipt → ⊥)) receipts
HasCause opened seats counts receipts (CountsDiffer book) =
    Stood opened book × (HasGrown opened book (sum counts) → ⊥) × (length counts ≡ seats → ⊥)
HasCause opened seats counts receipts (OutOfMemory book) = Stood opened book
HasCause opened seats counts receipts Closed = Unit {0}

abbrev pub FinishesWith : Ledger → ℕ → List ℕ → List Receipt → Result Ledger CloseError → Type 0
FinishesWith opened seats counts receipts (Ok book) = IsFinished opened counts receipts book
FinishesWith opened seats counts receipts (Err error) = HasCause opened seats counts receipts error

-- A book is the one that was shared, as it was behind its whole history, which has ended with its closing.
pub record IsWhole (shared : SharedLedger) (book : Ledger) (of : LogName) (log : List Logged) : Type 0 where
  pub of_it : of ≡ shared.log
  pub closed : is_closed log ≡ true
  pub book_is : book ≡ book_at shared.opened log
