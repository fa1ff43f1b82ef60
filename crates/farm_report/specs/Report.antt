-- The report of a book, as text: a line for the book, and one for each account.
use Rattle.std.specs.Prelude.{ℕ, List, [], ◌∷◌, ◌++◌, length, codes, ℤ, pos, encode_utf8_all}
use Rattle.std.specs.List.{concat, flat_map, enumerate_from}
use Rattle.std.specs.Fmt.{decimal, signed_decimal}
use Rattle.cc_book.specs.AccountMachine.{terms_of}
use Rattle.cc_book.specs.Balance.{balance_of, reserved_of, open_sessions_of}
use Rattle.cc_book.specs.Taking.{Ledger}
use Rattle.cc_book.specs.declared.account.Account.{Account}

-- each line ends with it
abbrev pub line_feed : List ℕ
line_feed = 10 ∷ []

-- `entries K open S`
abbrev pub heading_of : Ledger → List ℕ
heading_of book = concat (
    codes "entries " ∷ decimal (length book.history)
    ∷ codes " open " ∷ decimal (open_sessions_of book.terms book.history) ∷ line_feed ∷ [])

-- `account TYPE ID balance B reserved R`; an octet of the ID stands for the character with its code
abbrev pub account_line : Account → ℤ → ℤ → List ℕ
account_line account balance reserved = concat (
    codes "account " ∷ decimal account.id_kind ∷ codes " " ∷ encode_utf8_all account.id
    ∷ codes " balance " ∷ signed_decimal balance ∷ codes " reserved " ∷ signed_decimal reserved ∷ line_feed ∷ [])

-- the line of the account at a place
abbrev pub line_of : Ledger → ℕ × Account → List ℕ
line_of book (place, account) =
    account_line account (balance_of book.terms book.history place) (pos (reserved_of book.terms book.history place))

-- the report of a book: its accounts are those that it began with, and those that have joined
abbrev pub report_of : Ledger → List ℕ
report_of book = heading_of book ++ flat_map (line_of book) (enumerate_from 0 (terms_of book.terms book.history).accounts)
