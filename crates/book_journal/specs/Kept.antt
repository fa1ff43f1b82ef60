-- A book that is kept by a journal: what is stored of it, and what waits to be stored, is its history; and what stands beside the rows
-- is what the history that is stored makes of its accounts and sessions.
use Rattle.std.specs.Prelude.{◌≡◌, ◌<◌, ℕ, List, [], ◌++◌, Option, None, Some, IfSome, vec_capacity, vec_len}
use Rattle.std.specs.Global.{Vec}
use Rattle.cc_book.specs.Taking.{Ledger}
use Rattle.book_entries.specs.Replayed.{HasTaken, stored_in, sum_in}
use Rattle.book_beside.specs.Beside.{Beside}
use Rattle.book_store.specs.Table.{Stored, octets_in, stored_with}
use Rattle.book_journal.specs.declared.journal.Journal.{Journal}
use Rattle.book_journal.specs.declared.journal.NewRow.{NewRow}
use Rattle.book_journal.specs.declared.touched.Touched.{Touched}
use Rattle.book_journal.specs.Tables.{IsBeside, IsSameBut}

-- nothing was touched
pub record IsUntouched (touched : Touched) : Type 0 where
  pub accounts : touched.accounts.items ≡ []
  pub sessions : touched.sessions.items ≡ []

-- nothing waits to be stored
pub record IsSettled {S : Type 0} (journal : Journal S) : Type 0 where
  pub rows : journal.waiting.items ≡ []
  pub touched : IsUntouched journal.touched

-- there is room for a row among those that wait
abbrev pub HasRoom : {S : Type 0} → Journal S → Type 0
HasRoom journal = vec_len journal.waiting < vec_capacity journal.waiting

-- a book is under the terms and the limit of another
pub record IsUnder (old new : Ledger) : Type 0 where
  pub terms : new.terms ≡ old.terms
  pub limit : new.limit ≡ old.limit

-- Rows that are stored in a store, behind them rows that wait, and the sum of the last, are a book's: as long as no wrong answer of
-- the store was taken as true, the store can be used, and these rows, each once and in order, are those of the book's history. The
-- rows that are stored are those of a book before it, and what stands beside them is what stands so of that book. It differs from
-- this one at places that were touched alone.
pub record Keeps {S : Type 0} (is_clean is_ready : S → Type 0) (rows : S → List (List ℕ)) (beside : S → Beside) (store : S) (waiting : List (Vec ℕ)) (touched : Touched) (sum : ℕ) (ledger : Ledger) : Type 0 where
  pub ready : is_clean store → is_ready store
  pub stored : is_clean store → rows store ++ octets_in waiting ≡ stored_in ledger
  pub last : sum ≡ sum_in ledger
  pub was : Ledger
  pub was_stored : is_clean store → rows store ≡ stored_in was
  pub was_under : IsUnder was ledger
  pub stands : is_clean store → IsBeside was (beside store)
  pub elsewhere : IsSameBut touched was ledger

-- of a book that is kept in memory alone nothing is stored, and nothing waits
abbrev pub KeepsIn : {S : Type 0} → (S → Type 0) → (S → Type 0) → (S → List (List ℕ)) → (S → Beside) → Option S → List (Vec ℕ) → Touched → ℕ → Ledger → Type 0
KeepsIn is_clean is_ready rows beside None waiting touched sum ledger = waiting ≡ []
KeepsIn is_clean is_ready rows beside (Some store) waiting touched sum ledger = Keeps is_clean is_ready rows beside store waiting touched sum ledger

abbrev pub IsKeptBy : {S : Type 0} → (S → Type 0) → (S → Type 0) → (S → List (List ℕ)) → (S → Beside) → Journal S → Ledger → Type 0
IsKeptBy is_clean is_ready rows beside journal ledger = KeepsIn is_clean is_ready rows beside journal.store journal.waiting.items journal.touched journal.sum.0 ledger

-- it is stored, and not in memory alone
abbrev pub IsStoredIn : {S : Type 0} → Option S → Type 0
IsStoredIn None = ⊥
IsStoredIn (Some store) = Unit {0}

abbrev pub IsStored : {S : Type 0} → Journal S → Type 0
IsStored journal = IsStoredIn journal.store

-- what it is stored in can be used
abbrev pub IsSoundIn : {S : Type 0} → (S → Type 0) → (S → Type 0) → Journal S → Type 0
IsSoundIn is_clean is_ready journal = IfSome journal.store (λ store. is_clean store → is_ready store)

-- What is stored of one book is what is stored of the other, and this row, if there is one.
abbrev pub Follows : Ledger → Ledger → Option NewRow → Type 0
Follows before after None = (stored_in after ≡ stored_in before) × (sum_in after ≡ sum_in before)
Follows before after (Some row) = HasTaken before after row.octets.items row.sum.0

-- the row of what a book has more than before, whose accounts and sessions differ at touched places alone: none where nothing is stored
abbrev pub IsNextIn : {S : Type 0} → Option S → Touched → Ledger → Ledger → Option NewRow → Type 0
IsNextIn None touched before after row = row ≡ None
IsNextIn (Some store) touched before after row = Follows before after row × IsUnder before after × IsSameBut touched before after

abbrev pub IsNext : {S : Type 0} → Journal S → Ledger → Ledger → Option NewRow → Type 0
IsNext journal before after row = IsNextIn journal.store journal.touched before after row

-- A crash leaves the rows of a book, and beside them what its history makes of its accounts and its sessions.
pub record IsLeft (about : List ℕ) (ledger : Ledger) (left : Stored) : Type 0 where
  pub beside : Beside
  pub is : left ≡ stored_with about (stored_in ledger) beside
  pub stands : IsBeside ledger beside

-- A crash leaves an earlier book under the same terms, and beside its rows what its history makes of its accounts and its sessions.
pub record IsLeftBefore (about : List ℕ) (ledger : Ledger) (left : Stored) : Type 0 where
  pub was : Ledger
  pub under : IsUnder was ledger
  pub is_left : IsLeft about was left
