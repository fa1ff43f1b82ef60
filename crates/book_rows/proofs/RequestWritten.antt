-- What was asked, written part by part.
use Rattle.std.proofs.Common.{◌≡◌, ℕ, List, [], ◌∷◌, length, Option, None, Ok, refl, arith}
use Rattle.std.specs.Prelude.{true, slice_index_or}
use Rattle.cc_view.specs.declared.request.CcRequest.{CcRequest}
use Rattle.cc_view.specs.declared.request.RequestKind.{RequestKind}
use Rattle.cc_view.specs.declared.request.RequestKind.TheVariants.{Initial, Update, Termination, Event}
use Rattle.cc_view.specs.declared.request.RequestedAction.{RequestedAction}
use Rattle.cc_view.specs.declared.request.RequestedAction.TheVariants.{DirectDebiting, RefundAccount, CheckBalance, PriceEnquiry}
use Rattle.cc_view.specs.declared.request.Service.{Service}
use Rattle.cc_view.specs.declared.request.Subscription.{Subscription}
use Rattle.cc_view.specs.Request.Number.{action_number, kind_number}
use Rattle.cc_view.specs.RequestView.Content.{are_within_limits}
use Rattle.book_rows.specs.declared.fault.Fault.TheVariants.{BadFlag}
use Rattle.book_rows.specs.Form.{Adds, AddsAll, both, counted, listed, number, optional}
use Rattle.book_rows.specs.Parts.{action, action_of, count, counts, flag, kind, kind_of, request, request_of, request_parts, service, service_of, service_parts, services, services_of, subscription, subscription_of, subscription_parts, sums, the_services, three_of, three_parts}
use Rattle.book_rows.proofs.Repeated.{listed_added}
use Rattle.book_rows.proofs.Written.{both_added, checked_added}

pub kind_added : (value : RequestKind) (old new : List ℕ) → Adds (number 1) (kind_number value) old new → Adds kind value old new
unfolding kind
kind_added Initial old new added = checked_added (number 1) kind_of kind_number Initial old new refl added
kind_added Update old new added = checked_added (number 1) kind_of kind_number Update old new refl added
kind_added Termination old new added = checked_added (number 1) kind_of kind_number Termination old new refl added
kind_added Event old new added = checked_added (number 1) kind_of kind_number Event old new refl added

pub action_added : (value : RequestedAction) (old new : List ℕ) → Adds (number 1) (action_number value) old new → Adds action value old new
unfolding action
action_added DirectDebiting old new added = checked_added (number 1) action_of action_number DirectDebiting old new refl added
action_added RefundAccount old new added = checked_added (number 1) action_of action_number RefundAccount old new refl added
action_added CheckBalance old new added = checked_added (number 1) action_of action_number CheckBalance old new refl added
action_added PriceEnquiry old new added = checked_added (number 1) action_of action_number PriceEnquiry old new refl added

pub subscription_added : (value : Subscription) {old mid new : List ℕ} → Adds (number 4) value.kind old mid → Adds counted value.text mid new → Adds subscription value old new
unfolding subscription
subscription_added value {old = old} {new = new} p q = checked_added (both (number 4) counted) subscription_of subscription_parts value old new refl (both_added p q)

three_whole : {A : Type 0} (none : A) (xs : List A) → length xs ≡ 3 → three_of (three_parts none xs) ≡ Ok xs
three_whole none (a ∷ b ∷ c ∷ []) len = refl
three_whole none [] len = absurd (omega arith)
three_whole none (a ∷ []) len = absurd (omega arith)
three_whole none (a ∷ b ∷ []) len = absurd (omega arith)
three_whole none (a ∷ b ∷ c ∷ d ∷ xs) len = absurd (omega arith)

pub counts_added : (xs : List (Option ℕ)) {old a b new : List ℕ} → length xs ≡ 3 → Adds count (slice_index_or xs 0 None) old a → Adds count (slice_index_or xs 1 None) a b → Adds count (slice_index_or xs 2 None) b new → Adds counts xs old new
unfolding counts
counts_added xs {old = old} {new = new} len p q r = checked_added (both count (both count count)) three_of (three_parts None) xs old new (three_whole None xs len) (both_added p (both_added q r))

pub sums_added : (xs : List ℕ) {old a b new : List ℕ} → length xs ≡ 3 → Adds (number 16) (slice_index_or xs 0 0) old a → Adds (number 16) (slice_index_or xs 1 0) a b → Adds (number 16) (slice_index_or xs 2 0) b new → Adds sums xs old new
unfolding sums
sums_added xs {old = old} {new = new} len p q r = checked_added (both (number 16) (both (number 16) (number 16))) three_of (three_parts 0) xs old new (three_whole 0 xs len) (both_added p (both_added q r))

pub service_added : (value : Service) {old a b c d new : List ℕ} → Adds (optional BadFlag (number 4)) value.group old a → Adds (optional BadFlag (number 4)) value.ident a b → Adds flag value.bare b c → Adds (optional BadFlag counts) value.asked c d → Adds sums value.used d new → Adds service value old new
unfolding service
service_added value {old = old} {new = new} p q r s t =
    checked_added (both (optional BadFlag (number 4)) (both (optional BadFlag (number 4)) (both flag (both (optional BadFlag counts) sums)))) service_of service_parts value old new refl
    (both_added p (both_added q (both_added r (both_added s t))))

pub services_added : (xs : List Service) {old mid new : List ℕ} → are_within_limits xs ≡ true → Adds (number 8) (length xs) old mid → AddsAll service xs mid new → Adds services xs old new
unfolding services
services_added xs {old = old} {mid = mid} {new = new} within size all =
    checked_added (listed service) services_of the_services xs old new (rw within refl) (listed_added service xs old mid new size all)

pub request_added : (value : CcRequest) {old a b c d e new : List ℕ} → Adds counted value.session old a → Adds (number 4) value.number a b → Adds kind value.kind b c → Adds (optional BadFlag action) value.action c d → Adds (listed subscription) value.subscriptions d e → Adds services value.services e new → Adds request value old new
unfolding request
request_added value {old = old} {new = new} p q r s t u =
    checked_added (both counted (both (number 4) (both kind (both (optional BadFlag action) (both (listed subscription) services))))) request_of request_parts value old new refl
    (both_added p (both_added q (both_added r (both_added s (both_added t u)))))
