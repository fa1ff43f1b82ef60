-- What a site's terms have that the terms of a book have not: what a change brings, and what no change can bring.
use Rattle.std.specs.Prelude.{◌≡◌, ◌≢◌, ℕ, ◌<◌, List, [], length, take, slice_get, Bool, true, false, not, ◌&&◌, Option, None, Some}
use Rattle.std.specs.List.{filter, list_all, list_any, position}
use Rattle.std.specs.Ordering.{int_eq}
use Rattle.cc_book.specs.declared.account.Account.{Account}
use Rattle.cc_book.specs.declared.terms.Terms.{Terms}
use Rattle.cc_book.specs.declared.terms_change.TermsChange.{TermsChange}
use Rattle.cc_book.specs.TermsChange.{same_owner}
use Rattle.cc_rating.specs.declared.tariff.Tariff.{Tariff}
use Rattle.book_terms.specs.declared.key.TermsKey.{TermsKey}
use Rattle.book_terms.specs.declared.key.TermsKey.TheVariants as keys

-- ---- numbers

-- the money and the validity are the same
pub record AgreeInNumbers (one other : Terms) : Type 0 where
  pub currency : one.money.currency ≡ other.money.currency
  pub exponent : one.money.exponent ≡ other.money.exponent
  pub validity : one.validity ≡ other.validity

-- the first of them that differs
abbrev pub DifferInNumbers : TermsKey → Terms → Terms → Type 0
DifferInNumbers keys.Currency one other = one.money.currency ≢ other.money.currency
DifferInNumbers keys.Exponent one other = (one.money.currency ≡ other.money.currency) × (one.money.exponent ≢ other.money.exponent)
DifferInNumbers keys.Validity one other = (one.money.currency ≡ other.money.currency) × (one.money.exponent ≡ other.money.exponent) × (one.validity ≢ other.validity)
DifferInNumbers (keys.Opening place) one other = ⊥

-- ---- tariffs

-- both have a tariff at this place, not the same one, and the same tariffs before it
pub record DifferAt (place : ℕ) (one other : List Tariff) : Type 0 where
  pub before : take place one ≡ take place other
  pub in_one : place < length one
  pub in_other : place < length other
  pub apart : slice_get one place ≢ slice_get other place

-- all tariffs that both have are the same: one is the front of the other
abbrev pub AgreeAsFarAsBothGo : List Tariff → List Tariff → Type 0
AgreeAsFarAsBothGo one other = take (length other) one ≡ take (length one) other

-- ---- accounts

-- one owner, and one opening
abbrev pub same_account : Account → Account → Bool
same_account one other = same_owner one other && int_eq one.opening other.opening

-- the account is among these, with its opening
abbrev pub is_there : List Account → Account → Bool
is_there there account = list_any (same_account account) there

-- its owner has an account among these
abbrev pub is_known : List Account → Account → Bool
is_known there account = list_any (same_owner account) there

-- its owner has an account among these, with another opening
abbrev pub has_other_opening : List Account → Account → Bool
has_other_opening there account = is_known there account && not (is_there there account)

-- of these accounts those that join the ones that are there: their owners have none
abbrev pub joining_of : List Account → List Account → List Account
joining_of there wanted = filter (λ account. not (is_known there account)) wanted

-- ---- terms

-- What no change can bring, and where it differs first: the money, the validity, or the opening of an account that is there.
abbrev pub DiffersIn : TermsKey → Terms → Terms → Type 0
DiffersIn keys.Currency now wanted = DifferInNumbers keys.Currency now wanted
DiffersIn keys.Exponent now wanted = DifferInNumbers keys.Exponent now wanted
DiffersIn keys.Validity now wanted = DifferInNumbers keys.Validity now wanted
DiffersIn (keys.Opening place) now wanted = AgreeInNumbers now wanted × (position (has_other_opening now.accounts) wanted.accounts ≡ Some place)

-- a change says the tariffs that are wanted where others hold, and else none
abbrev pub SaysTariffs : List Tariff → List Tariff → Option (List Tariff) → Type 0
SaysTariffs now wanted None = now ≡ wanted
SaysTariffs now wanted (Some tariffs) = (tariffs ≡ wanted) × (now ≢ wanted)

-- The change that leads from the terms that hold to those that are wanted: accounts that are not there join, and the tariffs hold.
-- An account that is there and not wanted stays, and so does one that is closed.
pub record IsNeeded (now wanted : Terms) (change : TermsChange) : Type 0 where
  pub numbers : AgreeInNumbers now wanted
  pub openings : list_any (has_other_opening now.accounts) wanted.accounts ≡ false
  pub joining : change.joining ≡ joining_of now.accounts wanted.accounts
  pub closing : change.closing ≡ []
  pub reopening : change.reopening ≡ []
  pub tariffs : SaysTariffs now.tariffs wanted.tariffs change.tariffs

-- The terms that are wanted hold: money, validity and tariffs, and each account is there with its opening. There may be others.
pub record Hold (now wanted : Terms) : Type 0 where
  pub numbers : AgreeInNumbers now wanted
  pub tariffs : now.tariffs ≡ wanted.tariffs
  pub accounts : list_all (is_there now.accounts) wanted.accounts ≡ true
