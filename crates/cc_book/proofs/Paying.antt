-- What a debit pays for.
use Rattle.std.proofs.Common.{◌≡◌, ◌≢◌, ℕ, suc, ◌+◌, ◌<◌, ◌≤◌, ◌^◌, Bool, true, false, ◌&&◌, cond, ltb, List, [], ◌∷◌, length, map, All, Option, Some, None, option_map, inl, inr, refl, sym, ap, subst, ◌∙◌, arith, lit≤}
use Rattle.std.specs.Prelude.{ℤ, pos, ◌-ℤ◌, ◌≤ℤ◌, ◌<ℤ◌, int_le, is_none, unwrap_or, sum_by, IfSome}
use Rattle.std.specs.Option.{option_and_then}
use Rattle.std.proofs.lemmas.Bool.{and_right}
use Rattle.std.proofs.lemmas.Int.{ints}
use Rattle.std.proofs.lemmas.List.{length-map}
use Rattle.std.proofs.lemmas.List.Elements.{All-cons, All-nil, All-weaker}
use Rattle.std.proofs.lemmas.List.Sums.{sum_by-cons}
use Rattle.dia_base.specs.declared.number.Code.{Code}
use Rattle.cc_view.specs.Answer.Fitting.{Fits, HasUnitCode}
use Rattle.cc_view.specs.Answer.Typed.{GrantsUnits, HasUnits, IsUnitCode}
use Rattle.cc_view.specs.Request.ServiceLimits.{WithinLimits}
use Rattle.cc_view.specs.declared.code.ResultCode.{ResultCode}
use Rattle.cc_view.specs.declared.code.ResultCode.TheVariants.{Success, CreditLimitReached, UnableToComply, UnknownSessionId, UserUnknown, RatingFailed}
use Rattle.cc_view.specs.declared.reply.CcReply.{CcReply}
use Rattle.cc_view.specs.declared.reply.ServiceReply.{ServiceReply}
use Rattle.cc_view.specs.declared.request.CcRequest.{CcRequest}
use Rattle.cc_view.specs.declared.request.RequestKind.{RequestKind}
use Rattle.cc_view.specs.declared.request.RequestKind.TheVariants.{Initial, Update, Termination, Event}
use Rattle.cc_view.specs.declared.request.RequestedAction.{RequestedAction}
use Rattle.cc_view.specs.declared.request.RequestedAction.TheVariants.{DirectDebiting, RefundAccount, CheckBalance, PriceEnquiry}
use Rattle.cc_view.specs.declared.request.Service.{Service}
use Rattle.cc_book.specs.declared.account.Money.{Money}
use Rattle.cc_book.specs.declared.entry.Entry.{Entry}
use Rattle.cc_rating.specs.declared.tariff.Tariff.{Tariff}
use Rattle.cc_book.specs.declared.terms.Terms.{Terms}
use Rattle.cc_book.specs.AccountMachine.{account_of, action_debit, action_reply, add, charged_account, check_reply, closing_reply, code_alone, debit_after, debit_by, event_reply, free_after, free_behind, free_for, free_to_grant, grant_to, granted, granted_all, granting_reply, is_closed, needs_account, postings_of, price_reply, rated_reply, refusal_to, replies_from, replies_on, reply_after, reply_by, reply_to, service_cost, settled_reply, settles_after, sum_of_costs, terms_of, total_of, unsettled_code}
use Rattle.cc_book.specs.Balance.{debit_of}
use Rattle.cc_book.specs.Laws.{cost_of_reply, granted_cost}
use Rattle.cc_book.specs.Posting.{Posting}
use Rattle.cc_rating.specs.Rating.{cost_of}
use Rattle.cc_book.specs.ServiceRating.{asked_of, asking_cost, tariff_of, unit_code}
use Rattle.cc_rating.specs.declared.tariff.UnitKind.{UnitKind}
use Rattle.cc_rating.specs.declared.tariff.UnitKind.TheVariants.{Time, Octets, Units}
use Rattle.cc_book.specs.Session.{is_open}
use Rattle.cc_book.proofs.Sums.{checks_nothing, prices_nothing}

-- ---- costs

-- what a service is granted costs what it asks
granted-asked : (tariffs : List Tariff) (service : Service) (cost : ℕ) → service_cost tariffs service ≡ Some cost
    → granted_cost tariffs (granted tariffs service) ≡ cost
granted-asked tariffs service cost e = by_tariff (tariff_of tariffs service) e
  where
    by_tariff : (found : Option Tariff) → option_map (λ (tariff : Tariff). asking_cost tariff service) found ≡ Some cost
        → unwrap_or (option_and_then (λ (tariff : Tariff). option_map (cost_of tariff) (option_and_then (λ (other : Tariff). asked_of other service) found))
        found) 0 ≡ cost
    by_tariff (Some tariff) e = cc
    by_tariff None e = absurd cc

add-both : (a b : Option ℕ) (total : ℕ) → add a b ≡ Some total → (x : ℕ) × (y : ℕ) × (a ≡ Some x) × (b ≡ Some y) × (x + y ≡ total)
add-both None b total e = absurd cc
add-both (Some x) None total e = absurd cc
add-both (Some x) (Some y) total e = (x, y, refl, refl, cc)

granted-costs : (tariffs : List Tariff) (services : List Service) (total : ℕ) → sum_of_costs tariffs services ≡ Some total
    → sum_by (granted_cost tariffs) (map (granted tariffs) services) ≡ total
granted-costs tariffs [] total e = cc
granted-costs tariffs (service ∷ services) total e =
    let both = add-both (service_cost tariffs service) (sum_of_costs tariffs services) total e in
    let here = granted-asked tariffs service both.0 both.2 in
    let later = granted-costs tariffs services both.1 both.3 in
    omega (arith, here, later, both.4, sum_by-cons (granted_cost tariffs) (granted tariffs service) (map (granted tariffs) services))

granted-total : (tariffs : List Tariff) (services : List Service) (total : ℕ) → total_of tariffs services ≡ Some total
    → sum_by (granted_cost tariffs) (map (granted tariffs) services) ≡ total
granted-total tariffs [] total e = absurd cc
granted-total tariffs (service ∷ services) total e = granted-costs tariffs (service ∷ services) total e

-- ---- what is paid

abbrev paid_for : List Tariff → ℕ → CcReply → Type 0
paid_for tariffs amount reply = action_debit amount reply.code (Some DirectDebiting) ≡ pos (cost_of_reply tariffs reply)

paid-room : (tariffs : List Tariff) (services : List Service) (room : Bool) (total : ℕ) → total_of tariffs services ≡ Some total
    → paid_for tariffs total (cond room (granted_all tariffs services) (code_alone CreditLimitReached))
paid-room tariffs services true total e = ap (λ (n : ℕ). pos n) (sym (granted-total tariffs services total e))
paid-room tariffs services false total e = refl

paid-total : (terms : Terms) (services : List Service) (free : ℤ) (total : Option ℕ) → total_of terms.tariffs services ≡ total
    → paid_for terms.tariffs (unwrap_or total 0) (rated_reply terms services total free DirectDebiting)
paid-total terms services free None e = refl
paid-total terms services free (Some total) e = paid-room terms.tariffs services (int_le (pos total) free) total e

paid-account : (terms : Terms) (services : List Service) (account : Option ℕ) (free : ℤ)
    → paid_for terms.tariffs (unwrap_or (total_of terms.tariffs services) 0) (event_reply terms services account free (Some DirectDebiting))
paid-account terms services None free = refl
paid-account terms services (Some account) free = paid-total terms services free (total_of terms.tariffs services) refl

-- the reply to an EVENT with this action
replied : Terms → List Posting → CcRequest → Option RequestedAction → CcReply
replied terms before request action =
    event_reply terms request.services (account_of terms request.subscriptions)
    (free_for terms before (account_of terms request.subscriptions)) action

debit_of-event : (terms : Terms) (before : List Posting) (request : CcRequest) (action : Option RequestedAction) → request.kind ≡ Event
    → request.action ≡ action
    → debit_after terms before request ≡ action_debit (unwrap_or (total_of terms.tariffs request.services) 0) (replied terms before request action).code action
unfolding replied
debit_of-event terms before request action event is =
    ap (debit_by terms before request) event
    ∙ ap (λ (a : Option RequestedAction). action_debit (unwrap_or (total_of terms.tariffs request.services) 0) (replied terms before request a).code a) is

reply-event : (terms : Terms) (before : List Posting) (request : CcRequest) (action : Option RequestedAction) → request.kind ≡ Event → request.action ≡ action
    → reply_after terms before request ≡ replied terms before request action
unfolding replied
reply-event terms before request action event is = ap (reply_by terms before request) event ∙ ap (replied terms before request) is

pub paid : (terms : Terms) (history : List Entry) (request : CcRequest) → request.kind ≡ Event → request.action ≡ Some DirectDebiting
    → debit_of terms history request ≡ pos (cost_of_reply (terms_of terms history).tariffs (reply_to terms history request))
unfolding debit_of reply_to replied
paid terms history request event debits =
    let before = postings_of terms history in
    let account = account_of (terms_of terms history) request.subscriptions in
    debit_of-event (terms_of terms history) before request (Some DirectDebiting) event debits
    ∙ paid-account (terms_of terms history) request.services account (free_for (terms_of terms history) before account)
    ∙ sym (ap (λ (r : CcReply). pos (cost_of_reply (terms_of terms history).tariffs r)) (reply-event (terms_of terms history) before request (Some DirectDebiting) event debits))

-- ---- what is covered

test_le : (a b : ℤ) → int_le a b ≡ true → a ≤ℤ b
test_le a b h = grind (arith, ints)

covered-room : (tariffs : List Tariff) (services : List Service) (room : Bool)
    → (cond room (granted_all tariffs services) (code_alone CreditLimitReached)).code ≡ Success → room ≡ true
covered-room tariffs services true e = refl
covered-room tariffs services false e = absurd cc

covered-total : (terms : Terms) (services : List Service) (free : ℤ) (total : Option ℕ)
    → (rated_reply terms services total free DirectDebiting).code ≡ Success → pos (unwrap_or total 0) ≤ℤ free
covered-total terms services free None e = absurd cc
covered-total terms services free (Some total) e = test_le (pos total) free (covered-room terms.tariffs services (int_le (pos total) free) e)

pub covered : (terms : Terms) (history : List Entry) (request : CcRequest) (account : ℕ) → request.kind ≡ Event → request.action ≡ Some DirectDebiting
    → account_of (terms_of terms history) request.subscriptions ≡ Some account
    → (reply_to terms history request).code ≡ Success → debit_of terms history request ≤ℤ free_after (terms_of terms history) (postings_of terms history) account
unfolding debit_of reply_to replied
covered terms history request account event debits is_account e =
    let before = postings_of terms history in
    let free = free_after (terms_of terms history) before account in
    let total = total_of (terms_of terms history).tariffs request.services in
    let reply = rated_reply (terms_of terms history) request.services total free DirectDebiting in
    let is : replied (terms_of terms history) before request (Some DirectDebiting) ≡ reply =
    ap (λ (a : Option ℕ). event_reply (terms_of terms history) request.services a (free_for (terms_of terms history) before a) (Some DirectDebiting)) is_account in
    let same : reply_after (terms_of terms history) before request ≡ reply = reply-event (terms_of terms history) before request (Some DirectDebiting) event debits ∙ is in
    let success : reply.code ≡ Success = sym (ap (λ (r : CcReply). r.code) same) ∙ e in
    let debit : debit_after (terms_of terms history) before request ≡ pos (unwrap_or total 0) =
    debit_of-event (terms_of terms history) before request (Some DirectDebiting) event debits
    ∙ ap (λ (r : CcReply). action_debit (unwrap_or total 0) r.code (Some DirectDebiting)) is
    ∙ ap (λ (code : ResultCode). action_debit (unwrap_or total 0) code (Some DirectDebiting)) success in
    subst (λ (z : ℤ). z ≤ℤ free) (sym debit) (covered-total (terms_of terms history) request.services free total success)

-- ---- what is made, and what is not

test_yes : (a b : ℤ) → a ≤ℤ b → int_le a b ≡ true
test_yes a b h = grind (arith, ints)

test_no : (a b : ℤ) → b <ℤ a → int_le a b ≡ false
test_no a b h = grind (arith, ints)

-- the reply to an EVENT on a known account whose services have a cost
answered : (terms : Terms) (before : List Posting) (request : CcRequest) (action : RequestedAction) (account total : ℕ) → request.kind ≡ Event
    → request.action ≡ Some action
    → account_of terms request.subscriptions ≡ Some account → total_of terms.tariffs request.services ≡ Some total
    → reply_after terms before request ≡ action_reply terms request.services total (free_after terms before account) action
unfolding replied
answered terms before request action account total event is is_account is_total =
    reply-event terms before request (Some action) event is
    ∙ ap (λ (a : Option ℕ). event_reply terms request.services a (free_for terms before a) (Some action)) is_account
    ∙ ap (λ (b : Bool). cond b (code_alone UserUnknown)
    (rated_reply terms request.services (total_of terms.tariffs request.services) (free_after terms before account) action))
    (and_right (needs_account action) false refl)
    ∙ ap (λ (t : Option ℕ). rated_reply terms request.services t (free_after terms before account) action) is_total

module _ (terms : Terms) (history : List Entry) (request : CcRequest) (account total : ℕ) (event : request.kind ≡ Event)
    (is_account : account_of (terms_of terms history) request.subscriptions ≡ Some account) (is_total : total_of (terms_of terms history).tariffs request.services ≡ Some total) where
  abbrev room : ℤ
  room = free_after (terms_of terms history) (postings_of terms history) account

  pub debit-made : request.action ≡ Some DirectDebiting → pos total ≤ℤ room → (reply_to terms history request).code ≡ Success
  unfolding reply_to
  debit-made is enough =
      ap (λ (reply : CcReply). reply.code) (answered (terms_of terms history) (postings_of terms history) request DirectDebiting account total event is is_account is_total)
      ∙ ap (λ (b : Bool). (cond b (granted_all (terms_of terms history).tariffs request.services) (code_alone CreditLimitReached)).code) (test_yes (pos total) room enough)

  pub debit-refused : request.action ≡ Some DirectDebiting → room <ℤ pos total → reply_to terms history request ≡ code_alone CreditLimitReached
  unfolding reply_to
  debit-refused is less =
      answered (terms_of terms history) (postings_of terms history) request DirectDebiting account total event is is_account is_total
      ∙ ap (λ (b : Bool). cond b (granted_all (terms_of terms history).tariffs request.services) (code_alone CreditLimitReached)) (test_no (pos total) room less)

  pub check-enough : request.action ≡ Some CheckBalance → pos total ≤ℤ room → (reply_to terms history request).check ≡ Some 0
  unfolding reply_to
  check-enough is enough =
      ap (λ (reply : CcReply). reply.check) (answered (terms_of terms history) (postings_of terms history) request CheckBalance account total event is is_account is_total)
      ∙ ap (λ (b : Bool). Some (cond {A = ℕ} b 0 1)) (test_yes (pos total) room enough)

  pub check-too_little : request.action ≡ Some CheckBalance → room <ℤ pos total → (reply_to terms history request).check ≡ Some 1
  unfolding reply_to
  check-too_little is less =
      ap (λ (reply : CcReply). reply.check) (answered (terms_of terms history) (postings_of terms history) request CheckBalance account total event is is_account is_total)
      ∙ ap (λ (b : Bool). Some (cond {A = ℕ} b 0 1)) (test_no (pos total) room less)

-- ---- refunds, and what moves nothing

pub refunded : (terms : Terms) (history : List Entry) (request : CcRequest) (total : ℕ) → request.kind ≡ Event → request.action ≡ Some RefundAccount
    → (reply_to terms history request).code ≡ Success → total_of (terms_of terms history).tariffs request.services ≡ Some total
    → debit_of terms history request ≡ pos 0 -ℤ pos total
unfolding debit_of reply_to
refunded terms history request total event refunds e is =
    let before = postings_of terms history in
    let success : (replied (terms_of terms history) before request (Some RefundAccount)).code ≡ Success =
    sym (ap (λ (r : CcReply). r.code) (reply-event (terms_of terms history) before request (Some RefundAccount) event refunds)) ∙ e in
    debit_of-event (terms_of terms history) before request (Some RefundAccount) event refunds
    ∙ ap (λ (code : ResultCode). action_debit (unwrap_or (total_of (terms_of terms history).tariffs request.services) 0) code (Some RefundAccount)) success
    ∙ ap (λ (t : Option ℕ). pos 0 -ℤ pos (unwrap_or t 0)) is

pub checked : (terms : Terms) (history : List Entry) (request : CcRequest) → request.kind ≡ Event → request.action ≡ Some CheckBalance
    → debit_of terms history request ≡ pos 0
unfolding debit_of
checked terms history request event checks = debit_of-event (terms_of terms history) (postings_of terms history) request (Some CheckBalance) event checks
    ∙ checks_nothing (unwrap_or (total_of (terms_of terms history).tariffs request.services) 0) (replied (terms_of terms history) (postings_of terms history) request (Some CheckBalance)).code

pub enquired : (terms : Terms) (history : List Entry) (request : CcRequest) → request.kind ≡ Event → request.action ≡ Some PriceEnquiry
    → debit_of terms history request ≡ pos 0
unfolding debit_of
enquired terms history request event asks = debit_of-event (terms_of terms history) (postings_of terms history) request (Some PriceEnquiry) event asks
    ∙ prices_nothing (unwrap_or (total_of (terms_of terms history).tariffs request.services) 0) (replied (terms_of terms history) (postings_of terms history) request (Some PriceEnquiry)).code

pub unnamed : (terms : Terms) (history : List Entry) (request : CcRequest) → request.kind ≡ Event → request.action ≡ None
    → debit_of terms history request ≡ pos 0
unfolding debit_of replied
unnamed terms history request event none = debit_of-event (terms_of terms history) (postings_of terms history) request None event none

refuses_nothing : (amount : ℕ) (code : ResultCode) (action : Option RequestedAction) → code ≢ Success → action_debit amount code action ≡ pos 0
refuses_nothing amount Success action refused = absurd (refused refl)
refuses_nothing amount _ action refused = refl

pub refused : (terms : Terms) (history : List Entry) (request : CcRequest) → request.kind ≡ Event → (reply_to terms history request).code ≢ Success
    → debit_of terms history request ≡ pos 0
unfolding debit_of reply_to
refused terms history request event failed =
    let before = postings_of terms history in
    debit_of-event (terms_of terms history) before request request.action event refl
    ∙ refuses_nothing (unwrap_or (total_of (terms_of terms history).tariffs request.services) 0) (replied (terms_of terms history) before request request.action).code request.action
    (λ success. failed (ap (λ (reply : CcReply). reply.code) (reply-event (terms_of terms history) before request request.action event refl) ∙ success))

-- ---- what fits

-- a reply to at most as many services as a request may have, whose grants are of time, octets or units
record GrantsFew (reply : CcReply) : Type 0 where
  pub few : length reply.services ≤ 32
  pub units : GrantsUnits reply

unit_code-named : (kind : UnitKind) → IsUnitCode (unit_code kind).0
unit_code-named Time = inl refl
unit_code-named Octets = inr (inl refl)
unit_code-named Units = inr (inr refl)

granted-code : (found : Option Tariff) → IfSome (option_map (λ (tariff : Tariff). unit_code tariff.kind) found) (λ kind. IsUnitCode kind.0)
granted-code (Some tariff) = unit_code-named tariff.kind
granted-code None = tt

granted-units : (tariffs : List Tariff) (services : List Service) → All HasUnits (map (granted tariffs) services)
granted-units tariffs [] = All-nil HasUnits
granted-units tariffs (service ∷ services) =
    All-cons HasUnits (granted tariffs service) (map (granted tariffs) services)
    (granted-code (tariff_of tariffs service)) (granted-units tariffs services)

fits-alone : (code : _) → GrantsFew (code_alone code)
fits-alone code = record { few = lit≤ tt; units = All-nil HasUnits }

fits-room : (tariffs : List Tariff) (services : List Service) (room : Bool) → length services ≤ 32
    → GrantsFew (cond room (granted_all tariffs services) (code_alone CreditLimitReached))
fits-room tariffs services true few = record {
  few = subst (λ (n : ℕ). n ≤ 32) (sym (length-map services (granted tariffs))) few;
  units =
      granted-units tariffs services;
}
fits-room tariffs services false few = fits-alone CreditLimitReached

fits-check : (total : ℕ) (free : ℤ) → GrantsFew (check_reply total free)
fits-check total free = record { few = lit≤ tt; units = All-nil HasUnits }

fits-price : (money : Money) (total : ℕ) → GrantsFew (price_reply money total)
fits-price money total = by (ltb total (2 ^ 63)) where
  by : (b : Bool)
      → GrantsFew
      (cond b (record {
        code = Success;
        services = [];
        cost = Some (record { digits = pos total; exponent = money.exponent; currency = money.currency });
        check = None;
      }) (code_alone RatingFailed))
  by true = record { few = lit≤ tt; units = All-nil HasUnits }
  by false = fits-alone RatingFailed

fits-rated : (terms : Terms) (services : List Service) (free : ℤ) (total : Option ℕ) (action : RequestedAction) → length services ≤ 32
    → GrantsFew (rated_reply terms services total free action)
fits-rated terms services free None action few = fits-alone RatingFailed
fits-rated terms services free (Some total) DirectDebiting few = fits-room terms.tariffs services (int_le (pos total) free) few
fits-rated terms services free (Some total) RefundAccount few = fits-alone Success
fits-rated terms services free (Some total) CheckBalance few = fits-check total free
fits-rated terms services free (Some total) PriceEnquiry few = fits-price terms.money total

fits-test : (b : Bool) (one other : CcReply) → GrantsFew one → GrantsFew other → GrantsFew (cond b one other)
fits-test true one other p q = p
fits-test false one other p q = q

fits-event : (terms : Terms) (services : List Service) (account : Option ℕ) (free : ℤ) (action : Option RequestedAction) → length services ≤ 32
    → GrantsFew (event_reply terms services account free action)
fits-event terms services account free None few = fits-alone UnableToComply
fits-event terms services account free (Some action) few =
    fits-test (needs_account action && is_none account) (code_alone UserUnknown) (rated_reply terms services (total_of terms.tariffs services) free action)
    (fits-alone UserUnknown) (fits-rated terms services free (total_of terms.tariffs services) action few)

-- each service of a session has one reply
replies_from-length : (terms : Terms) (free : ℤ) (services : List Service) → length (replies_from terms free services) ≡ length services
replies_from-length terms free [] = refl
replies_from-length terms free (service ∷ services) = ap suc (replies_from-length terms (free_behind free (grant_to terms.tariffs free service)) services)

replies_from-units : (terms : Terms) (free : ℤ) (services : List Service) → All HasUnits (replies_from terms free services)
replies_from-units terms free [] = All-nil HasUnits
replies_from-units terms free (service ∷ services) =
    let grant = grant_to terms.tariffs free service in
    All-cons HasUnits (settled_reply terms service grant) (replies_from terms (free_behind free grant) services)
    (granted-code (tariff_of terms.tariffs service)) (replies_from-units terms (free_behind free grant) services)

closed : Terms → Service → ServiceReply
closed terms service = settled_reply terms service None

closed-units : (terms : Terms) (services : List Service) → All HasUnits (map (closed terms) services)
unfolding closed
closed-units terms [] = All-nil HasUnits
closed-units terms (service ∷ services) =
    All-cons HasUnits (closed terms service) (map (closed terms) services) (granted-code (tariff_of terms.tariffs service)) (closed-units terms services)

-- a service of a closed account is refused
shut : Terms → Service → ServiceReply
shut terms service = settled_reply terms service (refusal_to terms.tariffs service)

shut-units : (terms : Terms) (services : List Service) → All HasUnits (map (shut terms) services)
unfolding shut
shut-units terms [] = All-nil HasUnits
shut-units terms (service ∷ services) =
    All-cons HasUnits (shut terms service) (map (shut terms) services) (granted-code (tariff_of terms.tariffs service)) (shut-units terms services)

replies_on-length : (terms : Terms) (account : Option ℕ) (free : ℤ) (services : List Service) → length (replies_on terms account free services) ≡ length services
unfolding shut
replies_on-length terms account free services = by (is_closed terms account) where
  by : (b : Bool) → length (cond b (map (shut terms) services) (replies_from terms free services)) ≡ length services
  by true = length-map services (shut terms)
  by false = replies_from-length terms free services

replies_on-units : (terms : Terms) (account : Option ℕ) (free : ℤ) (services : List Service) → All HasUnits (replies_on terms account free services)
unfolding shut
replies_on-units terms account free services = by (is_closed terms account) where
  by : (b : Bool) → All HasUnits (cond b (map (shut terms) services) (replies_from terms free services))
  by true = shut-units terms services
  by false = replies_from-units terms free services

fits-granting : (terms : Terms) (account : Option ℕ) (free : ℤ) (services : List Service) → length services ≤ 32
    → GrantsFew (granting_reply terms account free services)
fits-granting terms account free services few = record {
  few = subst (λ (n : ℕ). n ≤ 32) (sym (replies_on-length terms account free services)) few;
  units = replies_on-units terms account free services;
}

fits-closing : (terms : Terms) (services : List Service) → length services ≤ 32 → GrantsFew (closing_reply terms services)
unfolding closed
fits-closing terms services few = record { few = subst (λ (n : ℕ). n ≤ 32) (sym (length-map services (closed terms))) few; units = closed-units terms services }

grants_few : (terms : Terms) (history : List Entry) (request : CcRequest) → WithinLimits request.services → GrantsFew (reply_to terms history request)
unfolding reply_to
grants_few terms history request limits = by request.kind where
  before : List Posting
  before = postings_of terms history

  granting : (code : ResultCode)
      → GrantsFew (cond (settles_after (terms_of terms history) before request) (granting_reply (terms_of terms history) (charged_account (terms_of terms history) before request) (free_to_grant (terms_of terms history) before request) request.services) (code_alone code))
  granting code =
      fits-test (settles_after (terms_of terms history) before request) (granting_reply (terms_of terms history) (charged_account (terms_of terms history) before request) (free_to_grant (terms_of terms history) before request) request.services) (code_alone code)
      (fits-granting (terms_of terms history) (charged_account (terms_of terms history) before request) (free_to_grant (terms_of terms history) before request) request.services limits.few) (fits-alone code)

  by : (kind : RequestKind) → GrantsFew (reply_by (terms_of terms history) before request kind)
  by Event = fits-event (terms_of terms history) request.services (account_of (terms_of terms history) request.subscriptions)
      (free_for (terms_of terms history) before (account_of (terms_of terms history) request.subscriptions)) request.action limits.few
  by Initial = granting (unsettled_code Initial (is_open terms.validity request.session before))
  by Update = granting UnknownSessionId
  by Termination =
      fits-test (settles_after (terms_of terms history) before request) (closing_reply (terms_of terms history) request.services) (code_alone UnknownSessionId)
      (fits-closing (terms_of terms history) request.services limits.few) (fits-alone UnknownSessionId)

pub grants_units : (terms : Terms) (history : List Entry) (request : CcRequest) → WithinLimits request.services → GrantsUnits (reply_to terms history request)
grants_units terms history request limits = (grants_few terms history request limits).units

-- the code of a unit fits the 4 octets of an AVP Code
unit_code-small : (code : ℕ) → IsUnitCode code → code < 2 ^ 32
unit_code-small code (inl e) = omega (arith, e)
unit_code-small code (inr (inl e)) = omega (arith, e)
unit_code-small code (inr (inr e)) = omega (arith, e)

fits-code : (kind : Option Code) → IfSome kind (λ k. IsUnitCode k.0) → IfSome kind (λ k. k.0 < 2 ^ 32)
fits-code (Some kind) unit = unit_code-small kind.0 unit
fits-code None unit = tt

pub fits : (terms : Terms) (history : List Entry) (request : CcRequest) → WithinLimits request.services → Fits (reply_to terms history request)
fits terms history request limits =
    let reply = reply_to terms history request in
    let all = grants_few terms history request limits in
    record { few = all.few; codes = All-weaker HasUnits HasUnitCode (λ service unit. fits-code service.kind unit) reply.services all.units }
