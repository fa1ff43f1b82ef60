-- A stored row that a book takes again.
use Rattle.std.specs.Prelude.{◌≡◌, ℕ, List, [], ◌∷◌, ◌++◌}
use Rattle.cc_book.specs.Taking.{Ledger}
use Rattle.book_entries.specs.Rows.{stored_of, sum_of}

-- what is stored of a book
abbrev pub stored_in : Ledger → List (List ℕ)
stored_in ledger = stored_of ledger.terms ledger.history

-- the sum of a book's history
abbrev pub sum_in : Ledger → ℕ
sum_in ledger = sum_of ledger.terms ledger.history

-- The book has one entry more, of which these octets are stored, under the same terms.
pub record HasTaken (old new : Ledger) (octets : List ℕ) (sum : ℕ) : Type 0 where
  pub terms : new.terms ≡ old.terms
  pub limit : new.limit ≡ old.limit
  pub stored : stored_in new ≡ stored_in old ++ octets ∷ []
  pub last : sum ≡ sum_in new
