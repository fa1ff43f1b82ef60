-- What a history has left: the balances of the accounts, and the sessions that are open with what they hold. It is
-- all that the book looks at to answer a request.
use Rattle.std.specs.Prelude.{◌≡◌, ◌≢◌, ℕ, ◌+◌, ◌-◌, ◌^◌, ◌<◌, ◌≤◌, List, [], ◌∷◌, ◌++◌, length, swap_remove, slice_get, slice_index_or, slice_set, map, All, AllPairs, Bool, ◌&&◌, not, ◌==◌, nat_le, if◌then◌else◌, Option, Some, None, IfSome, unwrap_or, find, ℤ, pos, negsuc, ◌-ℤ◌, ◌≤ℤ◌}
use Rattle.std.specs.List.{filter, fold, list_any, position}
use Rattle.std.specs.Option.{option_map, option_map_or}
use Rattle.dia_base.specs.declared.number.Moment.{Moment}
use Rattle.cc_view.specs.declared.request.CcRequest.{CcRequest}
use Rattle.cc_view.specs.declared.request.RequestKind.{RequestKind}
use Rattle.cc_view.specs.declared.request.RequestKind.TheVariants.{Initial, Update, Termination, Event}
use Rattle.cc_view.specs.declared.request.Service.{Service}
use Rattle.cc_book.specs.declared.account.Account.{Account}
use Rattle.cc_book.specs.declared.outcome.Change.{Change}
use Rattle.cc_book.specs.declared.outcome.Change.TheVariants.{Stays, Opens, GoesOn, Ends}
use Rattle.cc_book.specs.declared.outcome.Outcome.{Outcome}
use Rattle.cc_book.specs.declared.entry.Entry.{Entry}
use Rattle.cc_book.specs.declared.entry.Entry.TheVariants.{Take, Sweep, ChangeTerms}
use Rattle.cc_book.specs.declared.session.Hold.{Hold}
use Rattle.cc_book.specs.declared.session.OpenSession.{OpenSession}
use Rattle.cc_book.specs.declared.terms.Terms.{Terms}
use Rattle.cc_book.specs.AccountMachine.{account_of, charged_account, debit_after, grants_after, opening_at, posting_of, postings_of, reply_after}
use Rattle.cc_book.specs.Duplicate.{same_session}
use Rattle.cc_book.specs.declared.price.Price.{Price}
use Rattle.cc_rating.specs.declared.tariff.Tariff.{Tariff}
use Rattle.cc_view.specs.declared.request.ServiceName.{ServiceName}
use Rattle.cc_book.specs.Posting.{Posting, debits_to}
use Rattle.cc_book.specs.Pricing.{price_in, price_of, prices_after}
use Rattle.cc_book.specs.Reservation.{has_name, is_alive}
use Rattle.cc_book.specs.Session.{Opened, deadline_at, opened_at, opens, outlasts, session_in, session_of}

-- ---- open sessions

abbrev pub is_session : List ℕ → OpenSession → Bool
is_session id session = same_session session.id id

-- the place of an open session, none where it is not open
abbrev pub place_in : List OpenSession → List ℕ → Option ℕ
place_in sessions id = position (is_session id) sessions

-- a session with this Session-Id is open, and stands at a place
pub record IsOpenAt (sessions : List OpenSession) (id : List ℕ) (place : ℕ) (session : OpenSession) : Type 0 where
  pub at : place_in sessions id ≡ Some place
  pub there : slice_get sessions place ≡ Some session

-- what holds add up to
abbrev pub held_in : List Hold → ℕ
held_in [] = 0
held_in (hold ∷ holds) = hold.cost + held_in holds

-- what sessions hold of an account
abbrev pub reserved_in : ℕ → List OpenSession → ℕ
reserved_in account [] = 0
reserved_in account (session ∷ sessions) = (if session.account == account then held_in session.holds else 0) + reserved_in account sessions

-- what all sessions hold together
abbrev pub held_by_all : List OpenSession → ℕ
held_by_all [] = 0
held_by_all (session ∷ sessions) = held_in session.holds + held_by_all sessions

-- what is free of an account, nothing without one
abbrev pub free_in : List ℤ → List OpenSession → Option ℕ → ℤ
free_in balances sessions None = pos 0
free_in balances sessions (Some account) = slice_index_or balances account (pos 0) -ℤ pos (reserved_in account sessions)

-- whether one of these services has the name of a hold
abbrev pub is_named : List Service → Hold → Bool
is_named services hold = list_any (has_name hold.service) services

-- the holds of other services than these
abbrev pub holds_beside : List Service → List Hold → List Hold
holds_beside services holds = filter (λ hold. not (is_named services hold)) holds

-- The account that a request charges, as far as it can be told without its session: INITIAL and EVENT charge the first
-- that one of their Subscription-Ids has.
pub record NamesAccount (terms : Terms) (request : CcRequest) (account : Option ℕ) : Type 0 where
  pub within : IfSome account (λ place. place < length terms.accounts)
  pub initial : request.kind ≡ Initial → account ≡ account_of terms request.subscriptions
  pub event : request.kind ≡ Event → account ≡ account_of terms request.subscriptions

-- the balances of accounts before the first request
abbrev pub openings_of : List Account → List ℤ
openings_of accounts = map (λ account. account.opening) accounts

-- ---- what a request does to its session

-- an open session after a request at a moment, which leaves it these holds and these prices
abbrev pub prolonged : OpenSession → Moment → List Hold → List Price → OpenSession
prolonged session moment holds prices = record { id = session.id; account = session.account; last = moment; holds = holds; prices = prices }

-- What a request of this kind does to its session, which is open at a place: an UPDATE ends the holds of the services
-- that it names and adds what is granted to it, at the prices of its place; an INITIAL is refused, and yet prolongs the
-- session.
abbrev pub change_open : CcRequest → Moment → Posting → RequestKind → ℕ → OpenSession → Change
change_open request moment posting Event place session = Stays
change_open request moment posting Termination place session = Ends place
change_open request moment posting Initial place session = GoesOn place (prolonged session moment session.holds session.prices)
change_open request moment posting Update place session =
    GoesOn place (prolonged session moment (holds_beside request.services session.holds ++ posting.grants)
    (prices_after posting.tariffs session.prices posting.grants))

-- the session that a request opens on an account, with what it is granted by these tariffs
abbrev pub opened_session : CcRequest → Moment → List Tariff → ℕ → List Hold → OpenSession
opened_session request moment tariffs account grants =
    record { id = request.session; account = account; last = moment; holds = grants; prices = prices_after tariffs [] grants }

-- what a request does to its session, which is not open
abbrev pub change_closed : CcRequest → Moment → Posting → Change
change_closed request moment posting =
    if opens posting
    then Opens (opened_session request moment posting.tariffs (unwrap_or posting.account 0) posting.grants)
    else Stays

abbrev pub change_at : CcRequest → Moment → Posting → Option ℕ → Option OpenSession → Change
change_at request moment posting (Some place) (Some session) = change_open request moment posting request.kind place session
change_at request moment posting _ _ = change_closed request moment posting

-- what a posting of a request does to its session, where these are open
abbrev pub change_of : List OpenSession → CcRequest → Moment → Posting → Change
change_of sessions request moment posting =
    change_at request moment posting (place_in sessions request.session) (find (is_session request.session) sessions)

-- a list without what stands at a place, which the last takes
abbrev pub without_at : {X : Type 0} → List X → ℕ → List X
without_at xs place = option_map_or (λ x. swap_remove xs place x) (slice_get xs place) xs

abbrev pub after_change : List OpenSession → Change → List OpenSession
after_change sessions Stays = sessions
after_change sessions (Opens session) = sessions ++ session ∷ []
after_change sessions (GoesOn place session) = slice_set sessions place session
after_change sessions (Ends place) = without_at sessions place

-- whether a session has ended by a moment
abbrev pub is_due : ℕ → Moment → OpenSession → Bool
is_due validity moment session = nat_le (deadline_at validity session.last.0) moment.0

-- the sessions that go on after a look at the clock: those that have ended leave from the last place on
abbrev pub without_due : ℕ → Moment → List OpenSession → List OpenSession
without_due validity moment [] = []
without_due validity moment (session ∷ sessions) =
    if is_due validity moment session
    then without_at (session ∷ without_due validity moment sessions) 0
    else session ∷ without_due validity moment sessions

-- the sessions that are open after an entry with this posting, where these were before it
abbrev pub sessions_with : ℕ → List OpenSession → Posting → Entry → List OpenSession
sessions_with validity sessions posting (Take moment request) = after_change sessions (change_of sessions request moment posting)
sessions_with validity sessions posting (Sweep moment) = without_due validity moment sessions
sessions_with validity sessions posting (ChangeTerms moment change) = sessions

abbrev pub next_sessions : ℕ → List OpenSession → Posting → List OpenSession
next_sessions validity sessions posting = sessions_with validity sessions posting posting.entry

-- the sessions that postings have left open: their order says nothing
unfoldable pub sessions_after : ℕ → List Posting → List OpenSession
sessions_after validity postings = fold (next_sessions validity) [] postings

-- the sessions that a history has left open
abbrev pub sessions_in : Terms → List Entry → List OpenSession
sessions_in terms history = sessions_after terms.validity (postings_of terms history)

-- the place of a change is that of one of so many sessions
abbrev pub IsPlacedIn : Change → ℕ → Type 0
IsPlacedIn (GoesOn place session) count = place < count
IsPlacedIn (Ends place) count = place < count
IsPlacedIn _ count = Unit {0}

-- the balances after a debit of an account
abbrev pub after_debit : List ℤ → Option ℕ → ℤ → List ℤ
after_debit balances None debit = balances
after_debit balances (Some account) debit = slice_set balances account (slice_index_or balances account (pos 0) -ℤ debit)

-- what a request does after postings, where these sessions are open
pub record IsOutcome (terms : Terms) (before : List Posting) (sessions : List OpenSession) (moment : Moment) (request : CcRequest)
    (outcome : Outcome) : Type 0 where
  pub account : outcome.account ≡ charged_account terms before request
  pub debit : outcome.debit ≡ debit_after terms before request
  pub reply : outcome.reply ≡ reply_after terms before request
  pub change : outcome.change ≡ change_of sessions request moment (posting_of terms before (Take moment request))
  -- in amounts that are small
  pub least : negsuc (2 ^ 103 - 1) ≤ℤ outcome.debit
  pub most : outcome.debit ≤ℤ pos (2 ^ 103)
  pub grants : held_in (grants_after terms before request) ≤ 2 ^ 89

-- ---- what stands after postings

-- the weight of the grants of a posting that are alive after others, each by its session, its account and itself
abbrev pub grants_weight : (List ℕ → Option ℕ → Hold → ℕ) → ℕ → Posting → List Posting → List Hold → ℕ
grants_weight weight validity posting after [] = 0
grants_weight weight validity posting after (hold ∷ holds) =
    (if is_alive validity posting.entry hold.service after then weight (session_in posting.entry) posting.account hold else 0)
    + grants_weight weight validity posting after holds

-- the weight of all grants that are alive after postings
abbrev pub alive_weight : (List ℕ → Option ℕ → Hold → ℕ) → ℕ → List Posting → ℕ
alive_weight weight validity [] = 0
alive_weight weight validity (posting ∷ after) = grants_weight weight validity posting after posting.grants + alive_weight weight validity after

-- the weight of the holds of a session
abbrev pub holds_weight : (List ℕ → Option ℕ → Hold → ℕ) → List ℕ → ℕ → List Hold → ℕ
holds_weight weight id account [] = 0
holds_weight weight id account (hold ∷ holds) = weight id (Some account) hold + holds_weight weight id account holds

-- the weight of all holds of sessions
abbrev pub sessions_weight : (List ℕ → Option ℕ → Hold → ℕ) → List OpenSession → ℕ
sessions_weight weight [] = 0
sessions_weight weight (session ∷ sessions) = holds_weight weight session.id session.account session.holds + sessions_weight weight sessions

-- The count of the sessions that are open after postings, each counted by its Session-Id: a posting opened it, and
-- none after that ended it.
abbrev pub open_weight : (List ℕ → ℕ) → ℕ → List Posting → ℕ
open_weight weight validity [] = 0
open_weight weight validity (posting ∷ after) =
    (if opens posting && outlasts validity posting.entry after then weight (session_in posting.entry) else 0) + open_weight weight validity after

abbrev pub ids_weight : (List ℕ → ℕ) → List OpenSession → ℕ
ids_weight weight [] = 0
ids_weight weight (session ∷ sessions) = weight session.id + ids_weight weight sessions

-- an open session, as the definition of sessions has it
abbrev pub opened_as : ℕ → OpenSession → Opened
opened_as validity session = opened_at validity (Some session.account) session.last.0

-- These balances and these open sessions are what postings have left: of each account its opening amount less its
-- debits, and of each session what is alive of its grants, however that is counted, and their prices.
pub record Stands (terms : Terms) (before : List Posting) (balances : List ℤ) (sessions : List OpenSession) : Type 0 where
  pub accounts : length balances ≡ length terms.accounts
  pub balance : (account : ℕ) → account < length terms.accounts
      → slice_index_or balances account (pos 0) ≡ opening_at terms.accounts account -ℤ debits_to account before
  pub session : (id : List ℕ) → session_of terms.validity id before ≡ option_map (opened_as terms.validity) (find (is_session id) sessions)
  pub own_ids : AllPairs (λ one other. one.id ≢ other.id) sessions
  pub known : All (λ session. session.account < length terms.accounts) sessions
  pub holds : (weight : List ℕ → Option ℕ → Hold → ℕ) → alive_weight weight terms.validity before ≡ sessions_weight weight sessions
  pub count : (weight : List ℕ → ℕ) → open_weight weight terms.validity before ≡ ids_weight weight sessions
  pub prices :
      (id : List ℕ) (name : ServiceName) → IfSome (find (is_session id) sessions) (λ session. price_in session.prices name ≡ price_of id name before)

-- The amounts are so small that no sum of them leaves 128 bits, and accounts are known.
pub record IsSmall (terms : Terms) (balances : List ℤ) (sessions : List OpenSession) : Type 0 where
  pub accounts : length balances ≡ length terms.accounts
  pub least : All (λ balance. negsuc (2 ^ 124) ≤ℤ balance) balances
  pub most : All (λ balance. balance ≤ℤ pos (2 ^ 124)) balances
  pub held : (account : ℕ) → reserved_in account sessions ≤ 2 ^ 124
  pub known : All (λ session. session.account < length terms.accounts) sessions
