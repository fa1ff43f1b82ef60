-- The accounts of a site, and of a text beside it.
use Rattle.std.specs.Prelude.{◌≡◌, ◌⊎◌, ℕ, ◌-◌, ◌<◌, ◌≤◌, List, [], ◌∷◌, ◌++◌, length, take, Bool, true, false, not, ◌&&◌, IfSome, IsSomeAnd, IsTrue, Some, slice_get, Ok, Err}
use Rattle.std.specs.List.{list_any}
use Rattle.cc_book.specs.declared.account.Account.{Account}
use Rattle.cc_book.specs.declared.terms.Terms.{Terms}
use Rattle.cc_book.specs.Owners.{same_owner}
use Rattle.farm_base.specs.declared.site.Site.{Site}
use Rattle.farm_script.specs.AccountLines.{accounts_of, line_of_account}
use Rattle.farm_script.specs.declared.fault.ScriptFault.TheVariants.{Line as on_line}
use Rattle.farm_terms.specs.declared.fault.AccountsFault.{AccountsFault}
use Rattle.farm_terms.specs.declared.fault.AccountsFault.TheVariants.{Line, Twice, CutOff, TooMany, OutOfMemory}
use Rattle.farm_terms.specs.Lines.{ends}
use Rattle.farm_terms.specs.declared.opening.AccountsText.{AccountsText}
use Rattle.farm_terms.specs.declared.opening.SiteTermsFault.{SiteTermsFault}
use Rattle.farm_terms.specs.declared.opening.SiteTermsFault.TheVariants as terms

-- the account at this place has the Subscription-Id of one before it
pub record StandsTwiceAt (accounts : List Account) (place : ℕ) : Type 0 where
  pub account : Account
  pub there : slice_get accounts place ≡ Some account
  pub before : list_any (same_owner account) (take place accounts) ≡ true

-- no account has the Subscription-Id of one before it, where these stand before all
abbrev pub stand_once_behind : List Account → List Account → Bool
stand_once_behind before [] = true
stand_once_behind before (account ∷ accounts) = not (list_any (same_owner account) before) && stand_once_behind (before ++ account ∷ []) accounts

abbrev pub StandOnce : List Account → Type 0
StandOnce accounts = stand_once_behind [] accounts ≡ true

-- the accounts of a site and, behind them, those that a text spells
pub record AreAccountsOf (site : Site) (text : List ℕ) (accounts : List Account) : Type 0 where
  pub read : List Account
  pub spelled : accounts_of text ≡ Ok read
  pub few : length read ≤ 1000000
  pub joined : accounts ≡ site.accounts ++ read
  pub once : StandOnce accounts

-- a text spells accounts, each of which stands once beside those of a site
abbrev pub AreSound : Site → List ℕ → Type 0
AreSound site text = (accounts : List Account) × AreAccountsOf site text accounts

-- ---- why a text spells none

abbrev pub IsReadFault : List ℕ → AccountsFault → Type 0
IsReadFault text (Line number fault) = accounts_of text ≡ Err (on_line number fault)
IsReadFault text CutOff = ends text ≡ false
IsReadFault text TooMany = (read : List Account) × (accounts_of text ≡ Ok read) × (1000000 < length read)
IsReadFault text (Twice line) = ⊥
IsReadFault text OutOfMemory = Unit {0}

-- the line is that of an account that stands before it, in the site or in the text
pub record IsTwiceOn (site : Site) (text : List ℕ) (line : ℕ) : Type 0 where
  pub read : List Account
  pub spelled : accounts_of text ≡ Ok read
  pub place : ℕ
  pub twice : StandsTwiceAt (site.accounts ++ read) place
  pub here : line ≡ line_of_account text (place - length site.accounts)

abbrev pub AreNoAccountsOf : Site → List ℕ → AccountsFault → Type 0
AreNoAccountsOf site text (Twice line) = IsTwiceOn site text line
AreNoAccountsOf site text fault = IsReadFault text fault

-- ---- the terms that the book of a site begins with

abbrev pub terms_with : Site → List Account → Terms
terms_with site accounts = record {
  accounts = accounts;
  closed = [];
  tariffs = site.tariffs;
  validity = site.validity;
  money = record { currency = site.currency; exponent = site.exponent };
}

-- the accounts of the text, if there is one, are sound
abbrev pub IsSoundFor : Site → AccountsText → Type 0
IsSoundFor site read = IfSome read.text (λ text. AreSound site text.items)

-- those with the accounts of the site alone, or with those of a text behind them
abbrev pub AreTermsOf : Site → Bool → Terms → Type 0
AreTermsOf site false terms = terms ≡ terms_with site site.accounts
AreTermsOf site true terms = (text : List ℕ) × (accounts : List Account) × AreAccountsOf site text accounts × (terms ≡ terms_with site accounts)

-- ---- why there are none

-- there is a text, and it spells no accounts beside those of the site
abbrev pub AreNoTerms : Site → AccountsText → SiteTermsFault → Type 0
AreNoTerms site read terms.NotRead = ⊥
AreNoTerms site read (terms.Accounts fault) = IsSomeAnd read.text (λ text. AreNoAccountsOf site text.items fault)
AreNoTerms site read terms.OutOfMemory = Unit {0}

-- a file cannot be read, or is longer than may be, or memory ran out
abbrev pub IsNotRead : SiteTermsFault → Type 0
IsNotRead terms.NotRead = Unit {0}
IsNotRead (terms.Accounts fault) = fault ≡ TooMany
IsNotRead terms.OutOfMemory = Unit {0}

-- memory ran out, or a file of accounts is named: it is not read, it is longer than may be, or a text was read that spells no accounts
-- beside those of the site
abbrev pub AreNoTermsAt : Site → Bool → SiteTermsFault → Type 0
AreNoTermsAt site with_file terms.NotRead = IsTrue with_file
AreNoTermsAt site with_file (terms.Accounts fault) = IsTrue with_file × ((fault ≡ TooMany) ⊎ ((text : List ℕ) × AreNoAccountsOf site text fault))
AreNoTermsAt site with_file terms.OutOfMemory = Unit {0}
