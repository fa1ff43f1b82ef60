-- Worked examples: terms that change. A block of 1000 octets costs 5, and 7 once the tariff has changed; an account joins
-- with 50.
use Rattle.std.specs.Prelude.{ℕ, List, [], ◌∷◌, ◌++◌, codes, None, Some}
use Rattle.cc_rating.specs.declared.tariff.Tariff.{Tariff}
use Rattle.cc_view.specs.declared.request.CcRequest.{CcRequest}
use Rattle.cc_view.specs.declared.request.Subscription.{Subscription}
use Rattle.cc_book.specs.declared.account.Account.{Account}
use Rattle.cc_book.specs.declared.entry.Entry.{Entry}
use Rattle.cc_book.specs.declared.entry.Entry.TheVariants.{ChangeTerms}
use Rattle.cc_book.specs.declared.terms_change.TermsChange.{TermsChange}
use Rattle.cc_book.specs.RowExample.{any_units, initial, opened_by, row_account, row_tariff, subscription, taken, update}

abbrev pub dear_tariff : Tariff
dear_tariff = record row_tariff { price = 7 }

abbrev pub joiner : Account
joiner = row_account (codes "491700000006") 50

-- accounts join, and the tariffs stay
abbrev pub joined_by : List Account → TermsChange
joined_by joining = record { joining = joining; closing = []; reopening = []; tariffs = None }

abbrev pub joins : TermsChange
joins = joined_by (joiner ∷ [])

-- the dear tariff holds, and no account joins
abbrev pub dearer : TermsChange
dearer = record { joining = []; closing = []; reopening = []; tariffs = Some (dear_tariff ∷ []) }

abbrev pub changed : ℕ → TermsChange → Entry
changed moment change = ChangeTerms (record { 0 = moment }) change

-- an INITIAL of the account that joins
abbrev pub joiner_initial : CcRequest
joiner_initial = initial (codes "491700000006") any_units

-- a session that was granted 5000 octets at 5 a block, a tariff of 7, and an UPDATE that reports used octets
abbrev pub dear_update : ℕ → List Entry
dear_update used = opened_by (codes "491700000001") ++ changed 2000 dearer ∷ taken 3000 (update (codes "491700000001") used) ∷ []

-- ---- accounts that close

-- accounts of these numbers close, and accounts of those open again
abbrev pub standing_by : List Subscription → List Subscription → TermsChange
standing_by closing reopening = record { joining = []; closing = closing; reopening = reopening; tariffs = None }

-- the first account, which has 1000
abbrev pub first_number : Subscription
first_number = subscription 0 (codes "491700000001")

abbrev pub closes : TermsChange
closes = standing_by (first_number ∷ []) []

abbrev pub reopens : TermsChange
reopens = standing_by [] (first_number ∷ [])

-- a session that was granted 5000 octets at 5 a block, its account closed, and an UPDATE that reports used octets
abbrev pub closed_update : ℕ → List Entry
closed_update used = opened_by (codes "491700000001") ++ changed 2000 closes ∷ taken 3000 (update (codes "491700000001") used) ∷ []

-- an INITIAL that names the first account, and behind it the fourth
abbrev pub either_initial : CcRequest
either_initial = record (initial (codes "491700000001") any_units) { subscriptions = first_number ∷ subscription 0 (codes "491700000004") ∷ [] }
