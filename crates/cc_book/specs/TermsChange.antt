-- Changes of the terms: accounts that join, close and open again, and tariffs that hold from a place on.
pub use Rattle.cc_book.specs.Owners.{account_with, is_among, owns, same_owner, same_subscription}
use Rattle.std.specs.Prelude.{List, [], ◌∷◌, ◌++◌, length, Bool, true, false, not, ◌&&◌, if◌then◌else◌, Option, Some, None, is_none, unwrap_or}
use Rattle.std.specs.List.{filter, list_any}
use Rattle.std.specs.Option.{option_or}
use Rattle.cc_rating.specs.declared.tariff.Tariff.{Tariff}
use Rattle.cc_view.specs.declared.request.Subscription.{Subscription}
use Rattle.cc_book.specs.declared.account.Account.{Account}
use Rattle.cc_book.specs.declared.entry.Entry.{Entry}
use Rattle.cc_book.specs.declared.entry.Entry.TheVariants.{Take, Sweep, ChangeTerms}
use Rattle.cc_book.specs.declared.terms.Terms.{Terms}
use Rattle.cc_book.specs.declared.terms_change.ChangeRefusal.{ChangeRefusal}
use Rattle.cc_book.specs.declared.terms_change.ChangeRefusal.TheVariants.{Nothing, AlreadyThere, Twice, NotThere, ClosedAlready, ClosedTwice, NotClosed, ReopenedTwice}
use Rattle.cc_book.specs.declared.terms_change.TermsChange.{TermsChange}

-- ---- the terms after an entry

-- the accounts after an entry: those that join stand behind those that were there, each at its place for good
abbrev pub accounts_with : List Account → Entry → List Account
accounts_with accounts (Take moment request) = accounts
accounts_with accounts (Sweep moment) = accounts
accounts_with accounts (ChangeTerms moment change) = accounts ++ change.joining

-- the Subscription-Ids of closed accounts after a change: without those that open again, and with those that close
abbrev pub closed_by : TermsChange → List Subscription → List Subscription
closed_by change closed = filter (λ subscription. not (is_among change.reopening subscription)) closed ++ change.closing

-- the same after an entry
abbrev pub closed_with : List Subscription → Entry → List Subscription
closed_with closed (Take moment request) = closed
closed_with closed (Sweep moment) = closed
closed_with closed (ChangeTerms moment change) = closed_by change closed

-- the tariffs after an entry
abbrev pub tariffs_with : List Tariff → Entry → List Tariff
tariffs_with tariffs (Take moment request) = tariffs
tariffs_with tariffs (Sweep moment) = tariffs
tariffs_with tariffs (ChangeTerms moment change) = unwrap_or change.tariffs tariffs

-- the terms after an entry: validity and money stay
abbrev pub terms_with : Terms → Entry → Terms
terms_with terms entry = record {
  accounts = accounts_with terms.accounts entry;
  closed = closed_with terms.closed entry;
  tariffs = tariffs_with terms.tariffs entry;
  validity = terms.validity;
  money = terms.money;
}

-- the terms after a change
abbrev pub changed_terms : Terms → TermsChange → Terms
changed_terms terms change = record {
  accounts = terms.accounts ++ change.joining;
  closed = closed_by change terms.closed;
  tariffs = unwrap_or change.tariffs terms.tariffs;
  validity = terms.validity;
  money = terms.money;
}

-- the terms that a book began with, and those that hold now
pub record TermsOfBook : Type 0 where
  pub begun : Terms
  pub current : Terms

-- ---- what is wrong with a change

-- what is wrong with an account that joins, where these are there, and these join before it
abbrev pub account_fault : List Account → List Account → Account → Option ChangeRefusal
account_fault accounts before account =
    if list_any (same_owner account) accounts then Some (AlreadyThere (length before))
    else if list_any (same_owner account) before then Some (Twice (length before)) else None

-- the fault of the first account that has one
abbrev pub joining_fault : List Account → List Account → List Account → Option ChangeRefusal
joining_fault accounts before [] = None
joining_fault accounts before (account ∷ after) = option_or (account_fault accounts before account) (joining_fault accounts (before ++ account ∷ []) after)

-- what is wrong with an account that closes, where these close before it
abbrev pub closing_fault : Terms → List Subscription → Subscription → Option ChangeRefusal
closing_fault terms before subscription =
    if is_none (account_with terms.accounts subscription) then Some (NotThere (length before))
    else if is_among terms.closed subscription then Some (ClosedAlready (length before))
    else if is_among before subscription then Some (ClosedTwice (length before)) else None

-- what is wrong with an account that opens again, where these do so before it
abbrev pub reopening_fault : Terms → List Subscription → Subscription → Option ChangeRefusal
reopening_fault terms before subscription =
    if not (is_among terms.closed subscription) then Some (NotClosed (length before))
    else if is_among before subscription then Some (ReopenedTwice (length before)) else None

-- the first fault, where each is of a Subscription-Id and those before it
abbrev pub first_fault : (List Subscription → Subscription → Option ChangeRefusal) → List Subscription → List Subscription → Option ChangeRefusal
first_fault fault before [] = None
first_fault fault before (subscription ∷ after) = option_or (fault before subscription) (first_fault fault (before ++ subscription ∷ []) after)

-- the fault of the first account that has one of those that close, and then of those that open again
abbrev pub standing_fault : Terms → TermsChange → Option ChangeRefusal
standing_fault terms change =
    option_or (first_fault (closing_fault terms) [] change.closing) (first_fault (reopening_fault terms) [] change.reopening)

abbrev pub no_accounts : List Account → Bool
no_accounts [] = true
no_accounts (account ∷ accounts) = false

abbrev pub no_subscriptions : List Subscription → Bool
no_subscriptions [] = true
no_subscriptions (subscription ∷ subscriptions) = false

-- whether a change changes nothing: no account joins, closes or opens again, and the tariffs stay
abbrev pub says_nothing : TermsChange → Bool
says_nothing change =
    no_accounts change.joining && (no_subscriptions change.closing && (no_subscriptions change.reopening && is_none change.tariffs))

-- what is wrong with a change of these terms, none where it can be made
abbrev pub fault_of_change : Terms → TermsChange → Option ChangeRefusal
fault_of_change terms change =
    if says_nothing change then Some Nothing else option_or (joining_fault terms.accounts [] change.joining) (standing_fault terms change)
