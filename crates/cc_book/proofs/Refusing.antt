-- Which requests of sessions are settled, and what the others get.
use Rattle.std.proofs.Common.{◌≡◌, ℕ, Bool, true, false, cond, not, ◌&&◌, List, [], ◌∷◌, Option, Some, None, refl, ap, ◌∙◌, arith}
use Rattle.std.specs.Prelude.{pos, is_some, sum_by}
use Rattle.std.proofs.lemmas.List.Sums.{sum_by-cons}
use Rattle.cc_view.specs.declared.code.ResultCode.{ResultCode}
use Rattle.cc_view.specs.declared.code.ResultCode.TheVariants.{UnableToComply, UnknownSessionId, UserUnknown}
use Rattle.cc_view.specs.declared.request.CcRequest.{CcRequest}
use Rattle.cc_view.specs.declared.request.RequestKind.{RequestKind}
use Rattle.cc_view.specs.declared.request.RequestKind.TheVariants.{Initial, Update, Termination}
use Rattle.cc_view.specs.declared.request.Service.{Service}
use Rattle.cc_rating.specs.declared.tariff.Tariff.{Tariff}
use Rattle.cc_book.specs.declared.entry.Entry.{Entry}
use Rattle.cc_book.specs.declared.terms.Terms.{Terms}
use Rattle.cc_book.specs.AccountMachine.{account_of, charged_account, closing_reply, code_alone, debit_by, free_to_grant, granting_reply, grants_by, postings_of, price_by, reply_by, reply_to, settles_after, settles_by, terms_of, unsettled_code}
use Rattle.cc_book.specs.Balance.{debit_of}
use Rattle.cc_book.specs.Laws.{IsRefused}
use Rattle.cc_book.specs.ServiceRating.{used_cost, used_total, tariff_of}
use Rattle.cc_book.specs.Session.{is_open}
use Rattle.cc_book.specs.Pricing.{price_at}

-- whether the session of a request is lasts, and whether the request names an account
opened : Terms → List Entry → CcRequest → Bool
opened terms history request = is_open terms.validity request.session (postings_of terms history)

known : Terms → CcRequest → Bool
known terms request = is_some (account_of terms request.subscriptions)

settles-kind : (terms : Terms) (history : List Entry) (request : CcRequest) (kind : RequestKind) → request.kind ≡ kind
    → settles_after (terms_of terms history) (postings_of terms history) request ≡ settles_by kind (opened terms history request) (known (terms_of terms history) request)
unfolding opened known
settles-kind terms history request kind is = ap (λ (k : RequestKind). settles_by k (opened terms history request) (known (terms_of terms history) request)) is

-- ---- what is settled is paid for

pub used-each : (price : Service → Option Tariff) (services : List Service)
    → used_total price services ≡ sum_by (λ service. used_cost (price service) service) services
used-each price [] = refl
used-each price (service ∷ services) =
    let more = used-each price services in
    let sum = sum_by-cons (λ (x : Service). used_cost (price x) x) service services in
    omega (arith, more, sum)

used-kind : (terms : Terms) (history : List Entry) (request : CcRequest) (kind : RequestKind) → request.kind ≡ kind
    → debit_by (terms_of terms history) (postings_of terms history) request kind ≡ cond (settles_after (terms_of terms history) (postings_of terms history) request)
    (pos (used_total (price_by (terms_of terms history) (postings_of terms history) request kind) request.services)) (pos 0)
    → settles_by kind (opened terms history request) (known (terms_of terms history) request) ≡ true
    → debit_of terms history request ≡ pos (used_total (price_by (terms_of terms history) (postings_of terms history) request kind) request.services)
unfolding debit_of
used-kind terms history request kind is used settles =
    ap (debit_by (terms_of terms history) (postings_of terms history) request) is
    ∙ used
    ∙ ap (λ (b : Bool). cond b (pos (used_total (price_by (terms_of terms history) (postings_of terms history) request kind) request.services)) (pos 0)) (settles-kind terms history request kind is ∙ settles)

pub used-initial : (terms : Terms) (history : List Entry) (request : CcRequest) (account : ℕ) → request.kind ≡ Initial
    → is_open terms.validity request.session (postings_of terms history) ≡ false
    → account_of (terms_of terms history) request.subscriptions ≡ Some account → debit_of terms history request ≡ pos (used_total (tariff_of (terms_of terms history).tariffs) request.services)
unfolding opened known
used-initial terms history request account is closed named =
    used-kind terms history request Initial is refl
    (ap (λ (b : Bool). not b && is_some (account_of (terms_of terms history) request.subscriptions)) closed ∙ ap (λ (a : Option ℕ). is_some a) named)

pub used-update : (terms : Terms) (history : List Entry) (request : CcRequest) → request.kind ≡ Update
    → is_open terms.validity request.session (postings_of terms history) ≡ true
    → debit_of terms history request ≡ pos (used_total (price_at (terms_of terms history).tariffs (postings_of terms history) request.session) request.services)
unfolding opened
used-update terms history request is lasts = used-kind terms history request Update is refl lasts

pub used-termination : (terms : Terms) (history : List Entry) (request : CcRequest) → request.kind ≡ Termination
    → is_open terms.validity request.session (postings_of terms history) ≡ true
    → debit_of terms history request ≡ pos (used_total (price_at (terms_of terms history).tariffs (postings_of terms history) request.session) request.services)
unfolding opened
used-termination terms history request is lasts = used-kind terms history request Termination is refl lasts

-- ---- what is not settled is refused

refused-kind : (terms : Terms) (history : List Entry) (request : CcRequest) (kind : RequestKind) (code : ResultCode) → request.kind ≡ kind
    → (settles_after (terms_of terms history) (postings_of terms history) request ≡ false → reply_by (terms_of terms history) (postings_of terms history) request kind ≡ code_alone code)
    → (settles_after (terms_of terms history) (postings_of terms history) request ≡ false → debit_by (terms_of terms history) (postings_of terms history) request kind ≡ pos 0)
    → settles_by kind (opened terms history request) (known (terms_of terms history) request) ≡ false → IsRefused terms history request code
unfolding debit_of reply_to
refused-kind terms history request kind code is reply debit unsettled =
    let not_settled = settles-kind terms history request kind is ∙ unsettled in
    record {
      reply = ap (reply_by (terms_of terms history) (postings_of terms history) request) is ∙ reply not_settled;
      debit = ap (debit_by (terms_of terms history) (postings_of terms history) request) is ∙ debit not_settled;
      grants = ap (grants_by (terms_of terms history) (postings_of terms history) request) not_settled;
    }

nothing_used : (price : Service → Option Tariff) (request : CcRequest) (settles : Bool) → settles ≡ false
    → cond settles (pos (used_total price request.services)) (pos 0) ≡ pos 0
nothing_used price request settles e = ap (λ (b : Bool). cond b (pos (used_total price request.services)) (pos 0)) e

refused-initial : (terms : Terms) (history : List Entry) (request : CcRequest) (b : Bool)
    → is_open terms.validity request.session (postings_of terms history) ≡ b → request.kind ≡ Initial
    → settles_by Initial b (is_some (account_of (terms_of terms history) request.subscriptions)) ≡ false
    → IsRefused terms history request (cond b UnableToComply UserUnknown)
unfolding opened known
refused-initial terms history request b lasts is unsettled =
    refused-kind terms history request Initial (cond b UnableToComply UserUnknown) is
    (λ e. ap (λ (s : Bool). cond s (granting_reply (terms_of terms history) (charged_account (terms_of terms history) (postings_of terms history) request) (free_to_grant (terms_of terms history) (postings_of terms history) request) request.services)
    (code_alone (unsettled_code Initial (is_open terms.validity request.session (postings_of terms history))))) e
    ∙ ap (λ (o : Bool). code_alone (cond o UnableToComply UserUnknown)) lasts)
    (nothing_used (price_by (terms_of terms history) (postings_of terms history) request Initial) request (settles_after (terms_of terms history) (postings_of terms history) request))
    (ap (λ (o : Bool). settles_by Initial o (is_some (account_of (terms_of terms history) request.subscriptions))) lasts ∙ unsettled)

pub refused-open : (terms : Terms) (history : List Entry) (request : CcRequest) → request.kind ≡ Initial
    → is_open terms.validity request.session (postings_of terms history) ≡ true → IsRefused terms history request UnableToComply
refused-open terms history request is lasts = refused-initial terms history request true lasts is refl

pub refused-stranger : (terms : Terms) (history : List Entry) (request : CcRequest) → request.kind ≡ Initial
    → is_open terms.validity request.session (postings_of terms history) ≡ false
    → account_of (terms_of terms history) request.subscriptions ≡ None → IsRefused terms history request UserUnknown
refused-stranger terms history request is closed none = refused-initial terms history request false closed is (ap (λ (a : Option ℕ). is_some a) none)

pub refused-update : (terms : Terms) (history : List Entry) (request : CcRequest) → request.kind ≡ Update
    → is_open terms.validity request.session (postings_of terms history) ≡ false → IsRefused terms history request UnknownSessionId
unfolding opened
refused-update terms history request is closed =
    refused-kind terms history request Update UnknownSessionId is
    (λ e. ap (λ (s : Bool). cond s (granting_reply (terms_of terms history) (charged_account (terms_of terms history) (postings_of terms history) request) (free_to_grant (terms_of terms history) (postings_of terms history) request) request.services)
    (code_alone UnknownSessionId)) e)
    (nothing_used (price_by (terms_of terms history) (postings_of terms history) request Update) request (settles_after (terms_of terms history) (postings_of terms history) request)) closed

pub refused-termination : (terms : Terms) (history : List Entry) (request : CcRequest) → request.kind ≡ Termination
    → is_open terms.validity request.session (postings_of terms history) ≡ false → IsRefused terms history request UnknownSessionId
unfolding opened
refused-termination terms history request is closed =
    refused-kind terms history request Termination UnknownSessionId is
    (λ e. ap (λ (s : Bool). cond s (closing_reply (terms_of terms history) request.services) (code_alone UnknownSessionId)) e)
    (nothing_used (price_by (terms_of terms history) (postings_of terms history) request Termination) request (settles_after (terms_of terms history) (postings_of terms history) request)) closed
