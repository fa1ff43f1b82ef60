-- Accounts that are named one after another, and looked for among those of a book: which of them join.
use Rattle.std.specs.Prelude.{◌≡◌, ℕ, List, ◌++◌, length, Bool, true, false, get_or, Option, Some, None, Ok, option_to_list}
use Rattle.std.specs.List.{list_all, list_any}
use Rattle.cc_book.specs.declared.account.Account.{Account}
use Rattle.cc_book.specs.Owners.{account_with, owner_of}
use Rattle.book_terms.specs.Difference.{has_other_opening, joining_of}
use Rattle.farm_base.specs.declared.site.Site.{Site}
use Rattle.farm_script.specs.AccountLines.{account_in, accounts_of}
use Rattle.farm_terms.specs.SiteAccounts.{AreAccountsOf, StandOnce}
use Rattle.farm_terms.specs.declared.joining.Named.{Named}

-- whether the place is marked at which the book has the first account of an owner, if it has one
abbrev pub marked_at : List Bool → Option ℕ → Bool
marked_at marks None = true
marked_at marks (Some place) = get_or marks place false

abbrev pub is_marked : List Account → List Bool → Account → Bool
is_marked there marks account = marked_at marks (account_with there (owner_of account))

-- Of the accounts that were named no two have one Subscription-Id, and the book has none of them with another opening. Those that it has
-- are marked, and the others join.
pub record IsNamed (there : List Account) (accounts : List Account) (named : Named) : Type 0 where
  pub once : StandOnce accounts
  pub openings : list_any (has_other_opening there) accounts ≡ false
  pub marked : list_all (is_marked there named.marks.items) accounts ≡ true
  pub joining : named.joining ≡ joining_of there accounts
  pub counted : named.count ≡ length accounts

-- behind all accounts that were named before, these are named too
abbrev pub GoesOn : List Account → List Account → Named → Named → Type 0
GoesOn there accounts old new = (before : List Account) → IsNamed there before old → IsNamed there (before ++ accounts) new

-- the account of a line is named, if it has one
abbrev pub IsLineNamed : List Account → List ℕ → Named → Named → Type 0
IsLineNamed there line old new = (found : Option Account) × (account_in line ≡ Ok found) × GoesOn there (option_to_list found) old new

-- the accounts that a text spells are named
abbrev pub IsTextNamed : List Account → List ℕ → Named → Named → Type 0
IsTextNamed there text old new = (read : List Account) × (accounts_of text ≡ Ok read) × GoesOn there read old new

-- the accounts of a site and a text that join those of a book, which has none of them with another opening
pub record AreJoining (site : Site) (text : List ℕ) (there : List Account) (joined : List Account) : Type 0 where
  pub accounts : List Account
  pub are : AreAccountsOf site text accounts
  pub openings : list_any (has_other_opening there) accounts ≡ false
  pub joining : joined ≡ joining_of there accounts
