-- What an entry of the history did to the accounts, given the entries before it.
use Rattle.std.specs.Prelude.{ℕ, List, [], ◌∷◌, Bool, false, ◌==◌, if◌then◌else◌, Option, Some, None, ℤ, pos, ◌+ℤ◌}
use Rattle.cc_view.specs.declared.reply.CcReply.{CcReply}
use Rattle.cc_book.specs.declared.session.Hold.{Hold}
use Rattle.cc_rating.specs.declared.tariff.Tariff.{Tariff}
use Rattle.cc_book.specs.declared.entry.Entry.{Entry}

pub record Posting : Type 0 where
  pub entry : Entry
  -- the account that it charges, by its place
  pub account : Option ℕ
  -- what it debits that account
  pub debit : ℤ
  -- whether it settles the services of its session
  pub settles : Bool
  -- the tariffs by which it grants, none where it is no request
  pub tariffs : List Tariff
  -- what it reserves
  pub grants : List Hold
  -- the reply to its request
  pub reply : Option CcReply

abbrev pub is_account : ℕ → Option ℕ → Bool
is_account account None = false
is_account account (Some other) = account == other

-- what a posting debits this account
abbrev pub debit_to : ℕ → Posting → ℤ
debit_to account posting = if is_account account posting.account then posting.debit else pos 0

-- what postings debit this account
abbrev pub debits_to : ℕ → List Posting → ℤ
debits_to account [] = pos 0
debits_to account (posting ∷ postings) = debit_to account posting +ℤ debits_to account postings
