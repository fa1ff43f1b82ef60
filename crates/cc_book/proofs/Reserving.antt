-- What replies of sessions grant is what their requests reserve.
use Rattle.std.proofs.Common.{◌≡◌, ℕ, Bool, true, false, cond, List, [], ◌∷◌, map, Option, Some, None, option_map, refl, sym, ap, ◌∙◌, arith}
use Rattle.std.specs.Prelude.{ℤ, sum_by, unwrap_or}
use Rattle.std.specs.Option.{option_and_then}
use Rattle.std.proofs.lemmas.List.Sums.{sum_by-cons}
use Rattle.cc_view.specs.declared.code.ResultCode.{ResultCode}
use Rattle.cc_view.specs.declared.code.ResultCode.TheVariants.{Success, UnknownSessionId}
use Rattle.cc_view.specs.declared.reply.CcReply.{CcReply}
use Rattle.cc_view.specs.declared.request.CcRequest.{CcRequest}
use Rattle.cc_view.specs.declared.request.RequestKind.{RequestKind}
use Rattle.cc_view.specs.declared.request.RequestKind.TheVariants.{Initial, Update, Termination}
use Rattle.cc_view.specs.declared.request.Service.{Service}
use Rattle.cc_rating.specs.declared.tariff.Grant.{Grant}
use Rattle.cc_rating.specs.declared.tariff.Tariff.{Tariff}
use Rattle.cc_rating.specs.Rating.{cost_of, grant_of}
use Rattle.cc_rating.proofs.Grants.{held-is}
use Rattle.cc_book.specs.declared.entry.Entry.{Entry}
use Rattle.cc_book.specs.declared.session.Hold.{Hold}
use Rattle.cc_book.specs.declared.terms.Terms.{Terms}
use Rattle.cc_book.specs.AccountMachine.{charged_account, closing_reply, code_alone, free_behind, free_to_grant, grant_to, granting_reply, grants_after, grants_by, grants_with, hold_of, holds_from, holds_on, is_closed, is_refused, made_grant, postings_of, refusal_to, replies_from, replies_on, reply_after, reply_by, reply_to, settled_reply, settles_after, terms_of, unsettled_code}
use Rattle.cc_book.specs.Laws.{cost_of_reply, granted_cost}
use Rattle.cc_book.specs.Posting.{Posting}
use Rattle.cc_book.specs.ServiceRating.{asked_of, tariff_of}
use Rattle.cc_book.specs.Session.{is_open}
use Rattle.cc_book.specs.Standing.{held_in}
use Rattle.cc_book.proofs.InOrder.{held_in-append}

-- ---- one service

-- what the units cost that a grant makes, by a tariff that was found or not
abbrev made_cost : Option Tariff → Option Grant → ℕ
made_cost found grant =
    unwrap_or (option_and_then (λ (tariff : Tariff). option_map (cost_of tariff) (option_map (λ (made : Grant). made.units) (made_grant grant))) found) 0

held-made : (tariff : Tariff) (service : Service) (grant : Grant) → grant.held ≡ cost_of tariff grant.units
    → held_in (hold_of service (made_grant (Some grant))) ≡ made_cost (Some tariff) (Some grant)
held-made tariff service grant is = by (is_refused grant) where
  by : (b : Bool) → held_in (hold_of service (cond b None (Some grant)))
      ≡ unwrap_or (option_map (cost_of tariff) (option_map (λ (made : Grant). made.units) (cond b None (Some grant)))) 0
  by true = refl
  by false = omega (arith, is)

-- the grant by a tariff that was found or not
abbrev given : ℤ → Service → Option Tariff → Option Grant
given free service found = option_and_then (λ (tariff : Tariff). option_map (grant_of tariff free) (asked_of tariff service)) found

held-given : (free : ℤ) (service : Service) (found : Option Tariff)
    → held_in (hold_of service (made_grant (given free service found))) ≡ made_cost found (given free service found)
held-given free service None = refl
held-given free service (Some tariff) = by (asked_of tariff service) where
  by : (asked : Option ℕ) → held_in (hold_of service (made_grant (option_map (grant_of tariff free) asked)))
      ≡ made_cost (Some tariff) (option_map (grant_of tariff free) asked)
  by None = refl
  by (Some units) = held-made tariff service (grant_of tariff free units) (held-is tariff free units)

held-service : (terms : Terms) (free : ℤ) (service : Service)
    → held_in (hold_of service (made_grant (grant_to terms.tariffs free service)))
    ≡ granted_cost terms.tariffs (settled_reply terms service (grant_to terms.tariffs free service))
held-service terms free service = held-given free service (tariff_of terms.tariffs service)

-- ---- all services

held-services : (terms : Terms) (free : ℤ) (services : List Service)
    → held_in (holds_from terms.tariffs free services) ≡ sum_by (granted_cost terms.tariffs) (replies_from terms free services)
held-services terms free [] = refl
held-services terms free (service ∷ services) =
    let grant = grant_to terms.tariffs free service in
    let here = held-service terms free service in
    let more = held-services terms (free_behind free grant) services in
    let both = held_in-append (hold_of service (made_grant grant)) (holds_from terms.tariffs (free_behind free grant) services) in
    let sum = sum_by-cons (granted_cost terms.tariffs) (settled_reply terms service grant) (replies_from terms (free_behind free grant) services) in
    omega (arith, here, more, both, sum)

none-granted : (terms : Terms) (service : Service) → granted_cost terms.tariffs (settled_reply terms service None) ≡ 0
none-granted terms service = by (tariff_of terms.tariffs service) where
  by : (found : Option Tariff) → unwrap_or (option_and_then (λ (tariff : Tariff). option_map (cost_of tariff) None) found) 0 ≡ 0
  by None = refl
  by (Some tariff) = refl

closed-services : (terms : Terms) (services : List Service)
    → sum_by (granted_cost terms.tariffs) (map (λ (service : Service). settled_reply terms service None) services) ≡ 0
closed-services terms [] = refl
closed-services terms (service ∷ services) =
    let here = none-granted terms service in
    let more = closed-services terms services in
    let sum = sum_by-cons (granted_cost terms.tariffs) (settled_reply terms service None)
    (map (λ (other : Service). settled_reply terms other None) services) in
    omega (arith, here, more, sum)

-- a service of a closed account is granted nothing
abbrev no_units : Grant
no_units = record { units = 0; held = 0; last = true }

none-refused : (terms : Terms) (service : Service) → granted_cost terms.tariffs (settled_reply terms service (refusal_to terms.tariffs service)) ≡ 0
none-refused terms service = by (tariff_of terms.tariffs service) where
  asked-none : (tariff : Tariff) (asked : Option ℕ) → made_cost (Some tariff) (option_map (λ (units : ℕ). no_units) asked) ≡ 0
  asked-none tariff None = refl
  asked-none tariff (Some units) = refl

  by : (found : Option Tariff)
      → made_cost found (option_and_then (λ (tariff : Tariff). option_map (λ (units : ℕ). no_units) (asked_of tariff service)) found) ≡ 0
  by None = refl
  by (Some tariff) = asked-none tariff (asked_of tariff service)

refused-services : (terms : Terms) (services : List Service)
    → sum_by (granted_cost terms.tariffs) (map (λ (service : Service). settled_reply terms service (refusal_to terms.tariffs service)) services) ≡ 0
refused-services terms [] = refl
refused-services terms (service ∷ services) =
    let here = none-refused terms service in
    let more = refused-services terms services in
    let sum = sum_by-cons (granted_cost terms.tariffs) (settled_reply terms service (refusal_to terms.tariffs service))
    (map (λ (other : Service). settled_reply terms other (refusal_to terms.tariffs other)) services) in
    omega (arith, here, more, sum)

held-on : (terms : Terms) (account : Option ℕ) (free : ℤ) (services : List Service)
    → held_in (holds_on terms account free services) ≡ sum_by (granted_cost terms.tariffs) (replies_on terms account free services)
held-on terms account free services = by (is_closed terms account) where
  by : (b : Bool) → held_in (cond b [] (holds_from terms.tariffs free services))
      ≡ sum_by (granted_cost terms.tariffs)
      (cond b (map (λ (service : Service). settled_reply terms service (refusal_to terms.tariffs service)) services) (replies_from terms free services))
  by true = sym (refused-services terms services)
  by false = held-services terms free services

-- ---- a request

-- what a request of a kind reserves, where it is settled or not, and with which code
abbrev reserves : Terms → List Posting → CcRequest → RequestKind → ResultCode → Bool → List Hold
reserves terms before request kind code true = grants_with kind code (holds_on terms (charged_account terms before request) (free_to_grant terms before request) request.services)
reserves terms before request kind code false = []

reserves-is : (terms : Terms) (before : List Posting) (request : CcRequest) (settled : Bool)
    → grants_by terms before request settled ≡ reserves terms before request request.kind (reply_after terms before request).code settled
reserves-is terms before request true = refl
reserves-is terms before request false = refl

-- what the reply of a kind grants costs what the request reserves
abbrev Reserved : Terms → CcReply → List Hold → Type 0
Reserved terms reply holds = held_in holds ≡ cost_of_reply terms.tariffs reply

reserved-update : (terms : Terms) (before : List Posting) (request : CcRequest) (code : ResultCode) (opened settled : Bool)
    → Reserved terms (cond settled (granting_reply terms (charged_account terms before request) (free_to_grant terms before request) request.services) (code_alone (unsettled_code Update opened)))
    (reserves terms before request Update code settled)
reserved-update terms before request code opened true = held-on terms (charged_account terms before request) (free_to_grant terms before request) request.services
reserved-update terms before request code opened false = refl

reserved-opening : (terms : Terms) (before : List Posting) (request : CcRequest) (opened settled : Bool)
    → (cond settled (granting_reply terms (charged_account terms before request) (free_to_grant terms before request) request.services) (code_alone (unsettled_code Initial opened))).code ≡ Success
    → Reserved terms (cond settled (granting_reply terms (charged_account terms before request) (free_to_grant terms before request) request.services) (code_alone (unsettled_code Initial opened)))
    (reserves terms before request Initial Success settled)
reserved-opening terms before request opened true success = held-on terms (charged_account terms before request) (free_to_grant terms before request) request.services
reserved-opening terms before request opened false success = refl

-- what a request reserves, by its kind and the code of its reply
grants-are : (terms : Terms) (before : List Posting) (request : CcRequest) (kind : RequestKind) (code : ResultCode) → request.kind ≡ kind
    → (reply_after terms before request).code ≡ code
    → grants_after terms before request ≡ reserves terms before request kind code (settles_after terms before request)
grants-are terms before request kind code is answered =
    let settled = settles_after terms before request in
    reserves-is terms before request settled
    ∙ ap (λ (k : RequestKind). reserves terms before request k (reply_after terms before request).code settled) is
    ∙ ap (λ (c : ResultCode). reserves terms before request kind c settled) answered

pub update-reserved : (terms : Terms) (history : List Entry) (request : CcRequest) → request.kind ≡ Update
    → held_in (grants_after (terms_of terms history) (postings_of terms history) request) ≡ cost_of_reply (terms_of terms history).tariffs (reply_to terms history request)
unfolding reply_to
update-reserved terms history request is =
    let before = postings_of terms history in
    let code = (reply_after (terms_of terms history) before request).code in
    ap held_in (grants-are (terms_of terms history) before request Update code is refl)
    ∙ reserved-update (terms_of terms history) before request code (is_open terms.validity request.session before) (settles_after (terms_of terms history) before request)
    ∙ sym (ap (λ (k : RequestKind). cost_of_reply (terms_of terms history).tariffs (reply_by (terms_of terms history) before request k)) is)

pub opening-reserved : (terms : Terms) (history : List Entry) (request : CcRequest) → request.kind ≡ Initial → (reply_to terms history request).code ≡ Success
    → held_in (grants_after (terms_of terms history) (postings_of terms history) request) ≡ cost_of_reply (terms_of terms history).tariffs (reply_to terms history request)
unfolding reply_to
opening-reserved terms history request is success =
    let before = postings_of terms history in
    let kind = ap (reply_by (terms_of terms history) before request) is in
    ap held_in (grants-are (terms_of terms history) before request Initial Success is success)
    ∙ reserved-opening (terms_of terms history) before request (is_open terms.validity request.session before) (settles_after (terms_of terms history) before request)
    (sym (ap (λ (r : CcReply). r.code) kind) ∙ success)
    ∙ sym (ap (cost_of_reply (terms_of terms history).tariffs) kind)

closed-reply : (terms : Terms) (services : List Service) (settled : Bool)
    → cost_of_reply terms.tariffs (cond settled (closing_reply terms services) (code_alone UnknownSessionId)) ≡ 0
closed-reply terms services true = closed-services terms services
closed-reply terms services false = refl

pub termination-granted : (terms : Terms) (history : List Entry) (request : CcRequest) → request.kind ≡ Termination
    → cost_of_reply (terms_of terms history).tariffs (reply_to terms history request) ≡ 0
unfolding reply_to
termination-granted terms history request is =
    let before = postings_of terms history in
    ap (λ (k : RequestKind). cost_of_reply (terms_of terms history).tariffs (reply_by (terms_of terms history) before request k)) is
    ∙ closed-reply (terms_of terms history) request.services (settles_after (terms_of terms history) before request)
