-- The account machine: the reply to a request as a function of the entries before it, and of the terms that the book
-- began with, and of nothing else (RFC 8506, sections 5, 6 and 8.41). `opening` is those terms, and `terms` what holds of
-- them at the place of the request. A request of a session first ends the reservations of the services that it
-- names and debits what they used; then grants are made in order. An EVENT touches no session.
use Rattle.std.specs.Prelude.{ℕ, zero, suc, ◌+◌, ◌^◌, List, [], ◌∷◌, ◌++◌, find, map, Bool, true, false, not, if◌then◌else◌, Option, Some, None, is_none, is_some, unwrap_or, ℤ, pos, ◌-ℤ◌, int_le, nat_lt, ◌&&◌, ◌==◌}
use Rattle.std.specs.List.{fold, list_any}
use Rattle.std.specs.Option.{option_map, option_map_or, option_or, option_and_then}
use Rattle.cc_view.specs.declared.code.ResultCode.{ResultCode}
use Rattle.cc_view.specs.declared.code.ResultCode.TheVariants.{Success, CreditLimitReached, UnknownSessionId, UnableToComply, UserUnknown, RatingFailed}
use Rattle.cc_view.specs.declared.reply.CcReply.{CcReply}
use Rattle.cc_view.specs.declared.reply.ServiceReply.{ServiceReply}
use Rattle.cc_view.specs.declared.request.CcRequest.{CcRequest}
use Rattle.cc_view.specs.declared.request.RequestKind.{RequestKind}
use Rattle.cc_view.specs.declared.request.RequestKind.TheVariants.{Initial, Update, Termination, Event}
use Rattle.cc_view.specs.declared.request.RequestedAction.{RequestedAction}
use Rattle.cc_view.specs.declared.request.RequestedAction.TheVariants.{DirectDebiting, RefundAccount, CheckBalance, PriceEnquiry}
use Rattle.cc_view.specs.declared.request.Service.{Service}
use Rattle.cc_view.specs.declared.request.Subscription.{Subscription}
use Rattle.cc_view.specs.Request.ServiceLimits.{name_of}
use Rattle.cc_rating.specs.declared.tariff.Grant.{Grant}
use Rattle.cc_rating.specs.Rating.{grant_of}
use Rattle.cc_book.specs.declared.account.Account.{Account}
use Rattle.cc_book.specs.declared.account.Money.{Money}
use Rattle.cc_book.specs.declared.session.Hold.{Hold}
use Rattle.cc_book.specs.declared.entry.Entry.{Entry}
use Rattle.cc_book.specs.declared.entry.Entry.TheVariants.{Take, Sweep, ChangeTerms}
use Rattle.cc_rating.specs.declared.tariff.Tariff.{Tariff}
use Rattle.cc_book.specs.declared.terms.Terms.{Terms}
use Rattle.cc_book.specs.Content.{same_request}
use Rattle.cc_book.specs.Duplicate.{has_key, key_of}
use Rattle.cc_book.specs.Posting.{Posting, debits_to}
use Rattle.cc_book.specs.Pricing.{price_at}
use Rattle.cc_book.specs.ServiceRating.{asked_of, asking_cost, tariff_of, unit_code, used_total}
use Rattle.cc_book.specs.Reservation.{reserved_by}
use Rattle.cc_book.specs.Session.{is_open, is_success, session_of}
use Rattle.cc_book.specs.TermsChange.{account_with, accounts_with, closed_with, is_among, owns, tariffs_with}

-- ---- the account

-- the account of a Subscription-Id, none where it is closed
abbrev pub open_account : Terms → Subscription → Option ℕ
open_account terms subscription = if is_among terms.closed subscription then None else account_with terms.accounts subscription

-- the account of the first Subscription-Id that has one which is not closed
abbrev pub account_of : Terms → List Subscription → Option ℕ
account_of terms [] = None
account_of terms (subscription ∷ more) = option_or (open_account terms subscription) (account_of terms more)

-- whether the account at a place is closed
abbrev pub is_closed_at : List Account → List Subscription → ℕ → Bool
is_closed_at [] closed account = false
is_closed_at (first ∷ accounts) closed zero = list_any (λ subscription. owns subscription first) closed
is_closed_at (first ∷ accounts) closed (suc account) = is_closed_at accounts closed account

abbrev pub is_closed : Terms → Option ℕ → Bool
is_closed terms None = false
is_closed terms (Some account) = is_closed_at terms.accounts terms.closed account

-- the account of the request that opened a session, none where the session is not open
abbrev pub opener_account : ℕ → List Posting → List ℕ → Option ℕ
opener_account validity before session = option_and_then (λ opened. opened.account) (session_of validity session before)

abbrev pub account_by : RequestKind → Option ℕ → Option ℕ → Option ℕ
account_by Update own opener = opener
account_by Termination own opener = opener
account_by _ own opener = own

-- The account that a request charges: the first that one of its Subscription-Ids has. UPDATE and TERMINATION charge
-- the account of the request that opened their session, whatever they name.
abbrev pub charged_account : Terms → List Posting → CcRequest → Option ℕ
charged_account terms before request =
    account_by request.kind (account_of terms request.subscriptions) (opener_account terms.validity before request.session)

-- the opening amount of the account at a place
abbrev pub opening_at : List Account → ℕ → ℤ
opening_at [] account = pos 0
opening_at (first ∷ accounts) zero = first.opening
opening_at (first ∷ accounts) (suc account) = opening_at accounts account

-- ---- what an event asks

abbrev pub add : Option ℕ → Option ℕ → Option ℕ
add None total = None
add (Some cost) None = None
add (Some cost) (Some total) = Some (cost + total)

-- the cost of what a service asks, none without a tariff
abbrev pub service_cost : List Tariff → Service → Option ℕ
service_cost tariffs service = option_map (λ tariff. asking_cost tariff service) (tariff_of tariffs service)

abbrev pub sum_of_costs : List Tariff → List Service → Option ℕ
sum_of_costs tariffs [] = Some 0
sum_of_costs tariffs (service ∷ services) = add (service_cost tariffs service) (sum_of_costs tariffs services)

-- the cost of what all services ask, none with no service or with one that has no tariff
abbrev pub total_of : List Tariff → List Service → Option ℕ
total_of tariffs [] = None
total_of tariffs (service ∷ services) = sum_of_costs tariffs (service ∷ services)

-- ---- what is free

-- what is free of an account: its balance less what sessions hold of it
abbrev pub free_after : Terms → List Posting → ℕ → ℤ
free_after terms before account =
    (opening_at terms.accounts account -ℤ debits_to account before) -ℤ pos (reserved_by terms.validity account before)

abbrev pub free_for : Terms → List Posting → Option ℕ → ℤ
free_for terms before None = pos 0
free_for terms before (Some account) = free_after terms before account

-- ---- the reply to an EVENT

-- a Result-Code and nothing else
abbrev pub code_alone : ResultCode → CcReply
code_alone code = record { code = code; services = []; cost = None; check = None }

-- a service that is shown what it asked as granted
abbrev pub granted : List Tariff → Service → ServiceReply
granted tariffs service = record {
  name = name_of service;
  bare = service.bare;
  code = Success;
  kind = option_map (λ tariff. unit_code tariff.kind) (tariff_of tariffs service);
  granted = option_and_then (λ tariff. asked_of tariff service) (tariff_of tariffs service);
  validity = None;
  last = false;
}

abbrev pub granted_all : List Tariff → List Service → CcReply
granted_all tariffs services = record { code = Success; services = map (granted tariffs) services; cost = None; check = None }

-- DIRECT_DEBITING is made where the whole of it is free
abbrev pub debiting_reply : List Tariff → List Service → ℕ → ℤ → CcReply
debiting_reply tariffs services total free = if int_le (pos total) free then granted_all tariffs services else code_alone CreditLimitReached

-- Check-Balance-Result: 0 where the whole of it is free, else 1 (RFC 8506, section 8.6)
abbrev pub check_reply : ℕ → ℤ → CcReply
check_reply total free = record { code = Success; services = []; cost = None; check = Some (if int_le (pos total) free then 0 else 1) }

-- Cost-Information (RFC 8506, section 8.7), where the digits fit their AVP
abbrev pub price_reply : Money → ℕ → CcReply
price_reply money total =
    if nat_lt total (2 ^ 63)
    then record {
      code = Success;
      services = [];
      cost = Some (record { digits = pos total; exponent = money.exponent; currency = money.currency });
      check = None;
    }
    else code_alone RatingFailed

-- the reply of an action to a total, where so much is free
abbrev pub action_reply : Terms → List Service → ℕ → ℤ → RequestedAction → CcReply
action_reply terms services total free DirectDebiting = debiting_reply terms.tariffs services total free
action_reply terms services total free RefundAccount = code_alone Success
action_reply terms services total free CheckBalance = check_reply total free
action_reply terms services total free PriceEnquiry = price_reply terms.money total

-- whether an action is on an account: a PRICE_ENQUIRY needs none
abbrev pub needs_account : RequestedAction → Bool
needs_account PriceEnquiry = false
needs_account _ = true

abbrev pub rated_reply : Terms → List Service → Option ℕ → ℤ → RequestedAction → CcReply
rated_reply terms services None free action = code_alone RatingFailed
rated_reply terms services (Some total) free action = action_reply terms services total free action

-- the reply to an EVENT on an account, where so much is free (RFC 8506, section 8.41)
abbrev pub event_reply : Terms → List Service → Option ℕ → ℤ → Option RequestedAction → CcReply
event_reply terms services account free None = code_alone UnableToComply
event_reply terms services account free (Some action) =
    if needs_account action && is_none account then code_alone UserUnknown
    else rated_reply terms services (total_of terms.tariffs services) free action

-- what an action debits, where it was answered so: a DIRECT_DEBITING its total, a REFUND_ACCOUNT the total below 0
abbrev pub action_debit : ℕ → ResultCode → Option RequestedAction → ℤ
action_debit total Success (Some DirectDebiting) = pos total
action_debit total Success (Some RefundAccount) = pos 0 -ℤ pos total
action_debit total _ _ = pos 0

-- the reply to an EVENT after postings
abbrev pub event_after : Terms → List Posting → CcRequest → CcReply
event_after terms before request =
    event_reply terms request.services (account_of terms request.subscriptions)
    (free_for terms before (account_of terms request.subscriptions)) request.action

-- ---- what settles services

-- whether a request of this kind settles services, where its session is open or not, and its account known
abbrev pub settles_by : RequestKind → Bool → Bool → Bool
settles_by Initial opened known = not opened && known
settles_by Update opened known = opened
settles_by Termination opened known = opened
settles_by Event opened known = false

abbrev pub settles_after : Terms → List Posting → CcRequest → Bool
settles_after terms before request =
    settles_by request.kind (is_open terms.validity request.session before) (is_some (account_of terms request.subscriptions))

-- The tariff at which a request pays for the used units of a service: in an open session that of the service's last grant
-- there, else that which holds. An INITIAL begins its session.
abbrev pub price_by : Terms → List Posting → CcRequest → RequestKind → Service → Option Tariff
price_by terms before request Initial service = tariff_of terms.tariffs service
price_by terms before request _ service = price_at terms.tariffs before request.session service

-- what a request debits of the account that it charges: where it settles services, what their used units cost; of an
-- EVENT what its action debits
abbrev pub debit_by : Terms → List Posting → CcRequest → RequestKind → ℤ
debit_by terms before request Event =
    action_debit (unwrap_or (total_of terms.tariffs request.services) 0) (event_after terms before request).code request.action
debit_by terms before request kind =
    if settles_after terms before request then pos (used_total (price_by terms before request kind) request.services) else pos 0

abbrev pub debit_after : Terms → List Posting → CcRequest → ℤ
debit_after terms before request = debit_by terms before request request.kind

-- ---- what is granted to a session

-- The posting of a request with its debit, before anything is granted to it. Its moment does not matter for what is
-- free behind it.
abbrev pub settling_posting : Terms → List Posting → CcRequest → Posting
settling_posting terms before request = record {
  entry = Take (record { 0 = 0 }) request;
  account = charged_account terms before request;
  debit = debit_after terms before request;
  settles = settles_after terms before request;
  tariffs = terms.tariffs;
  grants = [];
  reply = None;
}

-- what is free for the first grant of a request: it has ended the reservations of the services that it names, and
-- debited what they used
abbrev pub free_to_grant : Terms → List Posting → CcRequest → ℤ
free_to_grant terms before request = free_for terms (before ++ settling_posting terms before request ∷ []) (charged_account terms before request)

-- the grant for a service, where so much is free: none without a tariff or a Requested-Service-Unit
abbrev pub grant_to : List Tariff → ℤ → Service → Option Grant
grant_to tariffs free service = option_and_then (λ tariff. option_map (grant_of tariff free) (asked_of tariff service)) (tariff_of tariffs service)

-- a last grant of no units is none
abbrev pub is_refused : Grant → Bool
is_refused grant = grant.last && (grant.units == 0)

-- what is free for the next grant
abbrev pub free_behind : ℤ → Option Grant → ℤ
free_behind free None = free
free_behind free (Some grant) = free -ℤ pos grant.held

-- the code of a service, by its grant
abbrev pub code_of_grant : Option Grant → ResultCode
code_of_grant None = Success
code_of_grant (Some grant) = if is_refused grant then CreditLimitReached else Success

abbrev pub made_grant : Option Grant → Option Grant
made_grant None = None
made_grant (Some grant) = if is_refused grant then None else Some grant

-- the reply for a service, by its grant: DIAMETER_RATING_FAILED without a tariff
abbrev pub settled_reply : Terms → Service → Option Grant → ServiceReply
settled_reply terms service grant = record {
  name = name_of service;
  bare = service.bare;
  code = if is_some (tariff_of terms.tariffs service) then code_of_grant grant else RatingFailed;
  kind = option_map (λ tariff. unit_code tariff.kind) (tariff_of terms.tariffs service);
  granted = option_map (λ made. made.units) (made_grant grant);
  validity = option_map (λ made. terms.validity) (made_grant grant);
  last = option_map_or (λ made. made.last) (made_grant grant) false;
}

-- the replies for services, each granted of what the grants before it leave free
abbrev pub replies_from : Terms → ℤ → List Service → List ServiceReply
replies_from terms free [] = []
replies_from terms free (service ∷ services) =
    settled_reply terms service (grant_to terms.tariffs free service)
    ∷ replies_from terms (free_behind free (grant_to terms.tariffs free service)) services

abbrev pub hold_of : Service → Option Grant → List Hold
hold_of service None = []
hold_of service (Some grant) = record { service = name_of service; cost = grant.held } ∷ []

-- what is reserved for services, each of what the grants before it leave free
abbrev pub holds_from : List Tariff → ℤ → List Service → List Hold
holds_from tariffs free [] = []
holds_from tariffs free (service ∷ services) =
    hold_of service (made_grant (grant_to tariffs free service))
    ++ holds_from tariffs (free_behind free (grant_to tariffs free service)) services

-- a service of an account that is closed: what it asks is refused
abbrev pub refusal_to : List Tariff → Service → Option Grant
refusal_to tariffs service =
    option_and_then (λ tariff. option_map (λ asked. record { units = 0; held = 0; last = true }) (asked_of tariff service)) (tariff_of tariffs service)

-- the replies for services of an account, where so much of it is free: one that is closed is granted nothing
abbrev pub replies_on : Terms → Option ℕ → ℤ → List Service → List ServiceReply
replies_on terms account free services =
    if is_closed terms account then map (λ service. settled_reply terms service (refusal_to terms.tariffs service)) services
    else replies_from terms free services

-- what is reserved for services of an account, where so much of it is free
abbrev pub holds_on : Terms → Option ℕ → ℤ → List Service → List Hold
holds_on terms account free services = if is_closed terms account then [] else holds_from terms.tariffs free services

-- the Result-Code of a command is that of its bare service, where it has one
abbrev pub command_code : List ServiceReply → ResultCode
command_code replies = option_map_or (λ reply. reply.code) (find (λ reply. reply.bare) replies) Success

abbrev pub session_reply : List ServiceReply → CcReply
session_reply replies = record { code = command_code replies; services = replies; cost = None; check = None }

-- a TERMINATION is granted nothing
abbrev pub closing_reply : Terms → List Service → CcReply
closing_reply terms services = session_reply (map (λ service. settled_reply terms service None) services)

-- INITIAL and UPDATE are granted what is free of their account, if it is not closed
abbrev pub granting_reply : Terms → Option ℕ → ℤ → List Service → CcReply
granting_reply terms account free services = session_reply (replies_on terms account free services)

-- ---- the reply

-- why a request of a session is not settled
abbrev pub unsettled_code : RequestKind → Bool → ResultCode
unsettled_code Initial opened = if opened then UnableToComply else UserUnknown
unsettled_code _ opened = UnknownSessionId

abbrev pub reply_by : Terms → List Posting → CcRequest → RequestKind → CcReply
reply_by terms before request Event = event_after terms before request
reply_by terms before request Termination =
    if settles_after terms before request then closing_reply terms request.services else code_alone UnknownSessionId
reply_by terms before request kind =
    if settles_after terms before request then granting_reply terms (charged_account terms before request) (free_to_grant terms before request) request.services
    else code_alone (unsettled_code kind (is_open terms.validity request.session before))

abbrev pub reply_after : Terms → List Posting → CcRequest → CcReply
reply_after terms before request = reply_by terms before request request.kind

-- ---- what a request does

-- the reservations that come with a reply: none where an INITIAL did not open its session
abbrev pub grants_with : RequestKind → ResultCode → List Hold → List Hold
grants_with Initial code holds = if is_success code then holds else []
grants_with Update code holds = holds
grants_with _ code holds = []

abbrev pub grants_by : Terms → List Posting → CcRequest → Bool → List Hold
grants_by terms before request true =
    grants_with request.kind (reply_after terms before request).code (holds_on terms (charged_account terms before request) (free_to_grant terms before request) request.services)
grants_by terms before request false = []

-- what a request reserves
abbrev pub grants_after : Terms → List Posting → CcRequest → List Hold
grants_after terms before request = grants_by terms before request (settles_after terms before request)

abbrev pub posting_of : Terms → List Posting → Entry → Posting
posting_of terms before (Take moment request) = record {
  entry = Take moment request;
  account = charged_account terms before request;
  debit = debit_after terms before request;
  settles = settles_after terms before request;
  tariffs = terms.tariffs;
  grants = grants_after terms before request;
  reply = Some (reply_after terms before request);
}
posting_of terms before (Sweep moment) = record {
  entry = Sweep moment;
  account = None;
  debit = pos 0;
  settles = false;
  tariffs = [];
  grants = [];
  reply = None;
}
posting_of terms before (ChangeTerms moment change) = record {
  entry = ChangeTerms moment change;
  account = None;
  debit = pos 0;
  settles = false;
  tariffs = [];
  grants = [];
  reply = None;
}

-- ---- the terms that hold at a place

abbrev pub accounts_at : List Account → List Posting → List Account
accounts_at accounts before = fold (λ known posting. accounts_with known posting.entry) accounts before

abbrev pub tariffs_at : List Tariff → List Posting → List Tariff
tariffs_at tariffs before = fold (λ known posting. tariffs_with known posting.entry) tariffs before

abbrev pub closed_at : List Subscription → List Posting → List Subscription
closed_at closed before = fold (λ known posting. closed_with known posting.entry) closed before

-- The terms that hold after postings, where a book began with these: all that a request does, it does under the terms of
-- its own place. Accounts join, close and open again, and tariffs change; validity and money stay.
abbrev pub terms_at : Terms → List Posting → Terms
terms_at opening before = record {
  accounts = accounts_at opening.accounts before;
  closed = closed_at opening.closed before;
  tariffs = tariffs_at opening.tariffs before;
  validity = opening.validity;
  money = opening.money;
}

-- each entry with what it did after the entries before it, and under the terms of its place
abbrev pub post : Terms → List Posting → Entry → List Posting
post opening before entry = before ++ posting_of (terms_at opening before) before entry ∷ []

unfoldable pub postings_of : Terms → List Entry → List Posting
postings_of opening history = fold (post opening) [] history

-- the terms that hold after a history
abbrev pub terms_of : Terms → List Entry → Terms
terms_of opening history = terms_at opening (postings_of opening history)

-- the reply to a new request after a history
unfoldable pub reply_to : Terms → List Entry → CcRequest → CcReply
reply_to opening history request = reply_after (terms_of opening history) (postings_of opening history) request

-- ---- the reply that is kept

-- The reply to a request whose key a taken one has: the reply to that one, if it is this very request; to another content
-- DIAMETER_UNABLE_TO_COMPLY alone.
abbrev pub repeat_reply : Terms → List Entry → CcRequest → CcRequest → CcReply
repeat_reply opening before taken request = if same_request taken request then reply_to opening before taken else code_alone UnableToComply

abbrev pub reply_at : Terms → List Entry → CcRequest → Entry → Option CcReply
reply_at opening before request (Take moment taken) = Some (repeat_reply opening before taken request)
reply_at opening before request (Sweep moment) = None
reply_at opening before request (ChangeTerms moment change) = None

abbrev pub kept_from : Terms → List Entry → List Entry → CcRequest → Option CcReply
kept_from opening before [] request = None
kept_from opening before (entry ∷ after) request =
    if has_key (key_of request) entry then reply_at opening before request entry else kept_from opening (before ++ entry ∷ []) after request

-- The reply to a request whose key is kept, by the first request with that key and the entries before it; none where the
-- key is new.
unfoldable pub kept_reply : Terms → List Entry → CcRequest → Option CcReply
kept_reply opening history request = kept_from opening [] history request
