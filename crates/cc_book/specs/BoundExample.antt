-- Worked examples: an account near the bounds of its amounts. A block of 1000 octets costs one price.
use Rattle.std.specs.Prelude.{ℕ, ◌-◌, ◌^◌, List, [], ◌∷◌, codes, None, ℤ}
use Rattle.cc_view.specs.declared.request.CcRequest.{CcRequest}
use Rattle.cc_view.specs.declared.request.RequestKind.TheVariants.{Initial, Termination}
use Rattle.cc_book.specs.declared.entry.Entry.{Entry}
use Rattle.cc_book.specs.declared.terms.Terms.{Terms}
use Rattle.cc_book.specs.RowExample.{octets, request_of, row_service, row_tariff, row_terms, taken}
use Rattle.cc_book.specs.Taking.{Ledger}

-- the least size of a balance, and the least reservation, with which an account bears no request
abbrev pub balance_edge : ℕ
balance_edge = 2 ^ 124 - 2 ^ 103

abbrev pub reserved_edge : ℕ
reserved_edge = 2 ^ 124 - 2 ^ 89

-- one account with this opening amount, and one tariff of this price
abbrev pub edge_terms : ℕ → ℤ → Terms
edge_terms price opening = record row_terms {
  accounts = record { id_kind = 0; id = codes "491700000001"; opening = opening } ∷ [];
  tariffs = record row_tariff { price = price } ∷ [];
}

abbrev pub edge_book : ℕ → ℤ → List Entry → Ledger
edge_book price opening history = record { terms = edge_terms price opening; limit = 10; history = history }

-- an INITIAL that reports one block as used, and asks for nothing
abbrev pub block_used : CcRequest
block_used = request_of 0 Initial None (codes "491700000001") (row_service None None 1000 ∷ [])

-- an INITIAL of another session, which asks for one block
abbrev pub block_asked : CcRequest
block_asked = record (request_of 0 Initial None (codes "491700000001") (row_service None (octets 1000) 0 ∷ [])) { session = codes "c1;1;2" }

-- the TERMINATION of that session, which used nothing
abbrev pub block_returned : CcRequest
block_returned = record (request_of 1 Termination None (codes "491700000001") (row_service None None 0 ∷ [])) { session = codes "c1;1;2" }

-- a block is reserved for one session, and then another one pays for a block: where the account has one price, all of
-- it is reserved, and its balance is 0
abbrev pub all_reserved : List Entry
all_reserved = taken 1000 block_asked ∷ taken 2000 block_used ∷ []
