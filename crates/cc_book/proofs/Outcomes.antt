-- What stands after one more request.
use Rattle.std.proofs.Common.{◌≡◌, ℕ, ◌+◌, ◌<◌, Bool, true, false, cond, not, ◌&&◌, eqb, List, [], ◌∷◌, ◌++◌, length, Option, Some, None, is_some, refl, sym, ap, subst, ◌∙◌, arith, slice_get, slice_index_or, remove, find, option_map, unwrap_or, length-set, get_or-set_same, get_or-set_other, MatchOption}
use Rattle.std.specs.Prelude.{ℤ, pos, ◌-ℤ◌}
use Rattle.std.proofs.lemmas.Bool.{and_parts, and_right, eqb-false}
use Rattle.std.proofs.lemmas.Int.{ints}
use Rattle.dia_base.specs.declared.number.Moment.{Moment}
use Rattle.cc_view.specs.declared.request.CcRequest.{CcRequest}
use Rattle.cc_view.specs.declared.request.RequestKind.{RequestKind}
use Rattle.cc_view.specs.declared.request.RequestKind.TheVariants.{Initial, Update, Termination, Event}
use Rattle.cc_book.specs.declared.outcome.Change.{Change}
use Rattle.cc_book.specs.declared.outcome.Change.TheVariants.{Stays, Opens}
use Rattle.cc_book.specs.declared.outcome.Outcome.{Outcome}
use Rattle.cc_book.specs.declared.entry.Entry.TheVariants.{Take}
use Rattle.cc_book.specs.declared.session.OpenSession.{OpenSession}
use Rattle.cc_book.specs.declared.terms.Terms.{Terms}
use Rattle.cc_book.specs.AccountMachine.{account_by, account_of, charged_account, free_to_grant, grants_after, grants_by, grants_with, holds_on, opener_account, posting_of, reply_after, settles_after, settles_by}
use Rattle.cc_book.specs.Posting.{Posting, debit_to, is_account}
use Rattle.cc_book.specs.Session.{Opened, is_initial_kind, is_open, is_success, next_session, opens, session_by}
use Rattle.cc_book.specs.Standing.{IsOutcome, Stands, after_change, after_debit, change_at, change_closed, change_of, change_open, grants_weight, holds_beside, holds_weight, is_session, opened_as, place_in, opened_session, without_at}
use Rattle.cc_book.proofs.Alive.{Weight, grants_weight-own, holds_weight-append, holds_weight-beside, holds_weight-left, is_ending, kept, left-others, left-quiet}
use Rattle.cc_book.proofs.Changes.{Sit, next-there, next-unopened, no_grants, sits-ended, sits-going_on, sits-opened, sits-same}
use Rattle.cc_book.proofs.Sessions.{IsAt, Others, equal_number, find-at, find-others, is_at_place, open_at_place, others-closed}
use Rattle.cc_book.proofs.Shuffling.{sit-shuffled}
use Rattle.cc_book.proofs.WithoutAt.{without-shuffled}
use Rattle.cc_book.proofs.Stands.{closed-stands, open-stands, update_settles}
use Rattle.cc_book.proofs.Postings.{debits_to-push}
use Rattle.cc_book.proofs.Looking.{account_of-within}
use Rattle.cc_book.specs.Pricing.{price_in, prices_after}
use Rattle.cc_book.proofs.Pricing.{price-none, price_in-after}
use Rattle.std.specs.Option.{option_or}
use Rattle.cc_rating.specs.declared.tariff.Tariff.{Tariff}

-- ---- a request debits its account

-- a debit moves the balance of its account, and no other one
pub after_debit-at : (balances : List ℤ) (charged : Option ℕ) (debit : ℤ) (account : ℕ) → account < length balances
    → slice_index_or (after_debit balances charged debit) account (pos 0) ≡ slice_index_or balances account (pos 0) -ℤ cond (is_account account charged) debit
    (pos 0)
after_debit-at balances None debit account lt = omega (arith, ints)
after_debit-at balances (Some other) debit account lt = by (eqb account other) refl where
  by : (b : Bool) → eqb account other ≡ b → slice_index_or (after_debit balances (Some other) debit) account (pos 0)
      ≡ slice_index_or balances account (pos 0) -ℤ cond b debit (pos 0)
  by true e =
      let same : account ≡ other = equal_number account other e in
      subst (λ (k : ℕ). slice_index_or (after_debit balances (Some k) debit) account (pos 0) ≡ slice_index_or balances account (pos 0) -ℤ debit) same
      (get_or-set_same balances account (slice_index_or balances account (pos 0) -ℤ debit) (pos 0) lt)
  by false e =
      let other_kept = get_or-set_other balances other account (slice_index_or balances other (pos 0) -ℤ debit) (pos 0) (eqb-false account other e) in
      omega (arith, ints)

-- and the accounts stay as many
pub after_debit-length : (balances : List ℤ) (charged : Option ℕ) (debit : ℤ) → length (after_debit balances charged debit) ≡ length balances
after_debit-length balances None debit = refl
after_debit-length balances (Some account) debit = length-set balances account (slice_index_or balances account (pos 0) -ℤ debit)

-- ---- accounts are known

known_account : (n : ℕ) (account : Option ℕ) → is_some account ≡ true → MatchOption account (Unit {0}) (λ a. a < n) → (a : ℕ) × (account ≡ Some a) × (a < n)
known_account n None some within = absurd cc
known_account n (Some a) some within = (a, refl, within)

-- ---- what a request is granted

initial_kind : (kind : RequestKind) → is_initial_kind kind ≡ true → kind ≡ Initial
initial_kind Initial e = refl
initial_kind Update e = absurd cc
initial_kind Termination e = absurd cc
initial_kind Event e = absurd cc

module _ (terms : Terms) (before : List Posting) (moment : Moment) (request : CcRequest) where
  abbrev q : Posting
  q = posting_of terms before (Take moment request)

  abbrev settles : Bool
  settles = settles_after terms before request

  -- a request that settles nothing, or is no INITIAL, opens nothing
  unopened-by_kind : is_initial_kind request.kind ≡ false → opens q ≡ false
  unopened-by_kind other = ap (λ (b : Bool). settles && (b && is_success (reply_after terms before request).code)) other ∙ and_right settles false refl

  unopened-unsettled : settles ≡ false → opens q ≡ false
  unopened-unsettled none = ap (λ (b : Bool). b && (is_initial_kind request.kind && is_success (reply_after terms before request).code)) none

  -- what settles nothing is granted nothing
  none-unsettled : settles ≡ false → grants_after terms before request ≡ []
  none-unsettled none = ap (grants_by terms before request) none

  -- a TERMINATION is granted nothing
  none-ending : request.kind ≡ Termination → grants_after terms before request ≡ []
  none-ending kind = by settles where
    by : (b : Bool) → grants_by terms before request b ≡ []
    by true =
        ap (λ (k : RequestKind). grants_with k (reply_after terms before request).code
        (holds_on terms (charged_account terms before request) (free_to_grant terms before request) request.services)) kind
    by false = refl

  -- what does not open its session, where that is not open, is granted nothing
  none-unopened : is_open terms.validity request.session before ≡ false → opens q ≡ false → grants_after terms before request ≡ []
  none-unopened closed unopened = by request.kind refl settles (ap (λ (b : Bool). settles_by request.kind b known) closed) unopened where
    known : Bool
    known = is_some (account_of terms request.subscriptions)

    by : (kind : RequestKind) → request.kind ≡ kind → (b : Bool) → b ≡ settles_by kind false known
        → (b && (is_initial_kind kind && is_success (reply_after terms before request).code)) ≡ false → grants_by terms before request b ≡ []
    by kind is false settled none = refl
    by Initial is true settled none =
        ap (λ (k : RequestKind). grants_with k (reply_after terms before request).code
        (holds_on terms (charged_account terms before request) (free_to_grant terms before request) request.services)) is
        ∙ ap (λ (b : Bool). cond b (holds_on terms (charged_account terms before request) (free_to_grant terms before request) request.services) []) none
    by Update is true settled none = absurd cc
    by Termination is true settled none = absurd cc
    by Event is true settled none = absurd cc

  -- a request that opens a session charges a known account
  opener_known : opens q ≡ true → (a : ℕ) × (charged_account terms before request ≡ Some a) × (a < length terms.accounts)
  opener_known does =
      let parts = and_parts settles (is_initial_kind request.kind && is_success (reply_after terms before request).code) does in
      let kind = initial_kind request.kind (and_parts (is_initial_kind request.kind) (is_success (reply_after terms before request).code) parts.1).0 in
      let opened = is_open terms.validity request.session before in
      let own = account_of terms request.subscriptions in
      let settled : (not opened && is_some own) ≡ true = sym (ap (λ (k : RequestKind). settles_by k opened (is_some own)) kind) ∙ parts.0 in
      let known = known_account (length terms.accounts) own (and_parts (not opened) (is_some own) settled).1
      (account_of-within terms request.subscriptions) in
      (known.0, ap (λ (k : RequestKind). account_by k own (opener_account terms.validity before request.session)) kind ∙ known.1, known.2)

-- ---- the sessions after a request

module _ {terms : Terms} {before : List Posting} {balances : List ℤ} {sessions : List OpenSession} (s : Stands terms before balances sessions)
    (moment : Moment) (request : CcRequest) where
  abbrev posted : Posting
  posted = posting_of terms before (Take moment request)

  abbrev charged : Option ℕ
  charged = charged_account terms before request

  abbrev found : Option Opened
  found = option_map (opened_as terms.validity) (find (is_session request.session) sessions)

  abbrev SitsAfter : Change → Type 0
  SitsAfter change = Sit terms (before ++ posted ∷ []) (after_change sessions change)

  -- a request of a session that is not open: it opens it, or nothing changes
  sits-closed : place_in sessions request.session ≡ None → SitsAfter (change_closed request moment posted)
  sits-closed none = by (opens posted) refl where
    others : Others request.session sessions
    others = others-closed request.session sessions none

    nowhere : found ≡ None
    nowhere = ap (option_map (opened_as terms.validity)) (find-others request.session sessions others)

    by : (b : Bool) → opens posted ≡ b → SitsAfter
        (cond b (Opens (opened_session request moment terms.tariffs (unwrap_or charged 0) (grants_after terms before request))) Stays)
    by true does =
        let known = opener_known terms before moment request does in
        subst (λ (a : ℕ). SitsAfter (Opens (opened_session request moment terms.tariffs a (grants_after terms before request))))
        (sym (ap (λ (o : Option ℕ). unwrap_or o 0) known.1))
        (sits-opened s moment request posted known.0 does known.1 known.2 others)
    by false unopened =
        let closed : is_open terms.validity request.session before ≡ false = ap is_some (closed-stands s request.session none) in
        let same : next_session terms.validity request.session found posted ≡ found =
        ap (λ (o : Option Opened). next_session terms.validity request.session o posted) nowhere
        ∙ next-unopened s moment request posted request.session None unopened
        ∙ sym nowhere in
        sits-same s moment request posted unopened
        (none-unopened terms before moment request closed unopened) (left-others request (settles_after terms before request) sessions others) same

  module _ (place : ℕ) (session : OpenSession) (some : place_in sessions request.session ≡ Some place) (there : slice_get sessions place ≡ Some session) where
    at : IsAt request.session sessions place session
    at = is_at_place request.session sessions place session some there s.own_ids

    settled-by : (kind : RequestKind) → request.kind ≡ kind
        → settles_after terms before request ≡ settles_by kind true (is_some (account_of terms request.subscriptions))
    settled-by kind is =
        ap (λ (k : RequestKind). settles_by k (is_open terms.validity request.session before) (is_some (account_of terms request.subscriptions))) is
        ∙ ap (λ (b : Bool). settles_by kind b (is_some (account_of terms request.subscriptions)))
        (ap is_some (open-stands s request.session place session some there).0)

    -- an INITIAL is refused, and yet prolongs its session
    initial_weight : request.kind ≡ Initial → (weight : Weight)
        → holds_weight (kept request (settles_after terms before request) weight) session.id session.account session.holds + grants_weight weight
        terms.validity posted [] (grants_after terms before request)
        ≡ holds_weight weight session.id session.account session.holds
    initial_weight kind weight =
        let settled = settled-by Initial kind in
        let left = (left-quiet request (settles_after terms before request) (session ∷ []) settled (ap is_ending kind)).0 in
        let all = holds_weight-left request (settles_after terms before request) weight session session.account session.holds left in
        let nothing = no_grants s moment request posted weight (none-unsettled terms before moment request settled) in
        omega arith

    sits-initial : request.kind ≡ Initial → SitsAfter (change_open request moment posted Initial place session)
    sits-initial kind =
        sits-going_on s moment request posted place session there at
        (unopened-unsettled terms before moment request (settled-by Initial kind)) session.holds session.prices (ap is_ending kind)
        (λ now. ap (session_by terms.validity now moment.0) kind)
        (initial_weight kind)
        (λ name. sym (ap (λ (t : Option Tariff). option_or t (price_in session.prices name))
        (price-none name posted (none-unsettled terms before moment request (settled-by Initial kind)))))

    -- an UPDATE ends the holds of the services that it names, and adds what is granted to it
    update_weight : request.kind ≡ Update → (weight : Weight)
        → holds_weight (kept request (settles_after terms before request) weight) session.id session.account session.holds + grants_weight weight
        terms.validity posted [] (grants_after terms before request)
        ≡ holds_weight weight session.id session.account (holds_beside request.services session.holds ++ grants_after terms before request)
    update_weight kind weight =
        let a = session.account in
        let does = update_settles s request session kind (open-stands s request.session place session some there).0 in
        let settled : holds_weight (kept request (settles_after terms before request) weight) session.id a session.holds
        ≡ holds_weight (kept request true weight) session.id a session.holds =
        ap (λ (b : Bool). holds_weight (kept request b weight) session.id a session.holds) does.1 in
        let beside = holds_weight-beside request weight session.id a session.holds (sym at.own) (ap is_ending kind) in
        let own = grants_weight-own terms.validity moment request posted weight a (grants_after terms before request) does.0 in
        let named : holds_weight weight session.id a (grants_after terms before request)
        ≡ holds_weight weight request.session a (grants_after terms before request) =
        ap (λ (id : List ℕ). holds_weight weight id a (grants_after terms before request)) at.own in
        let parts = holds_weight-append weight session.id a (holds_beside request.services session.holds) (grants_after terms before request) in
        omega arith

    sits-update : request.kind ≡ Update → SitsAfter (change_open request moment posted Update place session)
    sits-update kind =
        sits-going_on s moment request posted place session there at
        (unopened-by_kind terms before moment request (ap is_initial_kind kind))
        (holds_beside request.services session.holds ++ grants_after terms before request)
        (prices_after terms.tariffs session.prices (grants_after terms before request)) (ap is_ending kind)
        (λ now. ap (session_by terms.validity now moment.0) kind)
        (update_weight kind)
        (λ name. price_in-after name terms.tariffs session.prices (grants_after terms before request))

    -- a TERMINATION ends its session, and all that it holds
    sits-termination : request.kind ≡ Termination → SitsAfter (change_open request moment posted Termination place session)
    sits-termination kind =
        sit-shuffled (remove sessions place) (without_at sessions place) (without-shuffled sessions place session there)
        (sits-ended s moment request posted place session there at
        (unopened-by_kind terms before moment request (ap is_initial_kind kind)) kind (none-ending terms before moment request kind))

    -- an EVENT touches no session
    sits-event : request.kind ≡ Event → SitsAfter (change_open request moment posted Event place session)
    sits-event kind =
        let settled = settled-by Event kind in
        let unopened = unopened-by_kind terms before moment request (ap is_initial_kind kind) in
        let settles = settles_after terms before request in
        let same : next_session terms.validity request.session found posted ≡ found =
        next-there s moment request posted place session there at unopened
        ∙ ap (session_by terms.validity (opened_as terms.validity session) moment.0) kind
        ∙ sym (ap (option_map (opened_as terms.validity)) (find-at request.session sessions place session at)) in
        sits-same s moment request posted unopened
        (none-unsettled terms before moment request settled) (left-quiet request settles sessions settled (ap is_ending kind)) same

    sits-open : (kind : RequestKind) → request.kind ≡ kind → SitsAfter (change_open request moment posted kind place session)
    sits-open Initial is = sits-initial is
    sits-open Update is = sits-update is
    sits-open Termination is = sits-termination is
    sits-open Event is = sits-event is

  -- the session of a request is open at a place, or is not open
  sits-changed : SitsAfter (change_of sessions request moment posted)
  sits-changed = by (place_in sessions request.session) refl where
    by : (place : Option ℕ) → place_in sessions request.session ≡ place
        → SitsAfter (change_at request moment posted place (find (is_session request.session) sessions))
    by None e = sits-closed e
    by (Some place) e =
        let there = open_at_place request.session sessions place e in
        let has = find-at request.session sessions place there.0 (at place there.0 e there.1) in
        subst (λ (o : Option OpenSession). SitsAfter (change_at request moment posted (Some place) o)) (sym has)
        (sits-open place there.0 e there.1 request.kind refl)

-- ---- what stands after a request

pub take-stands : {terms : Terms} {before : List Posting} {balances : List ℤ} {sessions : List OpenSession} {moment : Moment} {request : CcRequest}
    {outcome : Outcome}
    → Stands terms before balances sessions → IsOutcome terms before sessions moment request outcome
    → Stands terms (before ++ posting_of terms before (Take moment request) ∷ []) (after_debit balances outcome.account outcome.debit) (after_change sessions outcome.change)
take-stands {terms} {before} {balances} {sessions} {moment} {request} {outcome} s d = record {
  accounts = long ∙ s.accounts;
  balance = λ account lt. (
      let moved = moves account lt in
      let old = s.balance account lt in
      let debits = debits_to-push account before posting in omega (arith, ints));
  session = sits.session;
  own_ids = sits.own_ids;
  known = sits.known;
  holds = sits.holds;
  count = sits.count;
  prices = sits.prices;
} where
  posting : Posting
  posting = posting_of terms before (Take moment request)

  long : length (after_debit balances outcome.account outcome.debit) ≡ length balances
  long = after_debit-length balances outcome.account outcome.debit

  same_debit : (account : ℕ) → cond (is_account account outcome.account) outcome.debit (pos 0) ≡ debit_to account posting
  same_debit account =
      ap (λ (o : Option ℕ). cond (is_account account o) outcome.debit (pos 0)) d.account
      ∙ ap (λ (z : ℤ). cond (is_account account (charged_account terms before request)) z (pos 0)) d.debit

  moves : (account : ℕ) → account < length terms.accounts
      → slice_index_or (after_debit balances outcome.account outcome.debit) account (pos 0) ≡ slice_index_or balances account (pos 0) -ℤ debit_to account
      posting
  moves account lt = after_debit-at balances outcome.account outcome.debit account (omega (arith, s.accounts))
      ∙ ap (λ (z : ℤ). slice_index_or balances account (pos 0) -ℤ z) (same_debit account)

  sits : Sit terms (before ++ posting ∷ []) (after_change sessions outcome.change)
  sits = subst (λ (change : Change). Sit terms (before ++ posting ∷ []) (after_change sessions change)) (sym d.change) (sits-changed s moment request)
