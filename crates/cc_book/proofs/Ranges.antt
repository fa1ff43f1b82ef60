-- What an entry moves, where tariffs and requests are in their ranges.
use Rattle.std.proofs.Common.{◌≡◌, ℕ, zero, suc, ◌+◌, ◌-◌, ◌*◌, ◌<◌, ◌≤◌, ◌^◌, Bool, true, false, cond, ◌&&◌, List, [], ◌∷◌, ◌++◌, length, All, Option, Some, None, option_map, refl, sym, subst, arith, inl, inr, slice_index_or, leb}
use Rattle.std.specs.Prelude.{ℤ, pos, ◌-ℤ◌, nat_abs, IfSome, IsTrue, unwrap_or}
use Rattle.std.specs.List.{AllByRecursion, fold, list_all}
use Rattle.std.specs.Option.{option_and_then, option_or}
use Rattle.std.proofs.lemmas.Bool.{and_parts, cases_lt, leb-true}
use Rattle.std.proofs.lemmas.Int.{ints}
use Rattle.std.proofs.lemmas.List.Elements.{All-head, All-tail}
use Rattle.dia_base.specs.declared.number.Moment.{Moment}
use Rattle.cc_view.specs.Request.ServiceLimits.{HasSmallSums, WithinLimits, name_of}
use Rattle.cc_view.specs.declared.code.ResultCode.{ResultCode}
use Rattle.cc_view.specs.declared.code.ResultCode.TheVariants.{Success}
use Rattle.cc_view.specs.declared.request.CcRequest.{CcRequest}
use Rattle.cc_view.specs.declared.request.RequestKind.{RequestKind}
use Rattle.cc_view.specs.declared.request.RequestKind.TheVariants.{Initial, Update, Termination, Event}
use Rattle.cc_view.specs.declared.request.RequestedAction.{RequestedAction}
use Rattle.cc_view.specs.declared.request.RequestedAction.TheVariants.{DirectDebiting, RefundAccount, CheckBalance, PriceEnquiry}
use Rattle.cc_view.specs.declared.request.Service.{Service}
use Rattle.cc_rating.specs.Rating.{cost_of, grant_of}
use Rattle.cc_rating.specs.Tariffs.{fault_of, from_one, has_key, in_range, rates, units_limit}
use Rattle.cc_rating.specs.declared.tariff.Grant.{Grant}
use Rattle.cc_rating.specs.declared.tariff.Tariff.{Tariff}
use Rattle.cc_rating.specs.declared.tariff.UnitKind.{UnitKind}
use Rattle.cc_rating.specs.declared.tariff.UnitKind.TheVariants.{Time, Octets, Units}
use Rattle.cc_rating.proofs.Costs.{cost_of-most, find-all, in_range-parts}
use Rattle.cc_rating.proofs.Faults.{fault_of-none}
use Rattle.cc_book.specs.declared.account.Account.{Account}
use Rattle.cc_book.specs.declared.entry.Entry.{Entry}
use Rattle.cc_book.specs.declared.entry.Entry.TheVariants.{Take, Sweep, ChangeTerms}
use Rattle.cc_book.specs.declared.session.Hold.{Hold}
use Rattle.cc_book.specs.declared.terms.Terms.{Terms}
use Rattle.cc_book.specs.AccountMachine.{accounts_at, action_debit, add, charged_account, debit_by, event_after, free_behind, free_to_grant, grant_to, grants_by, grants_with, hold_of, holds_from, holds_on, is_closed, made_grant, opening_at, posting_of, postings_of, reply_after, service_cost, settles_after, sum_of_costs, tariffs_at, terms_at, terms_of, total_of}
use Rattle.cc_book.specs.Bounds.{AsksSmall, IsInRange, MovesLittle, OpensSmall}
use Rattle.cc_book.specs.Posting.{Posting}
use Rattle.cc_book.specs.ServiceRating.{asked_of, asking_cost, count_place, tariff_of, used_cost, used_of, used_total}
use Rattle.cc_book.specs.Session.{is_success, is_of, opens}
use Rattle.cc_book.specs.Standing.{held_in}
use Rattle.cc_book.proofs.Bounds.{abs-within}
use Rattle.cc_book.proofs.Greatest.{granted-most}
use Rattle.cc_book.proofs.InOrder.{held_in-append, held_in-made}
use Rattle.cc_book.specs.TermsChange.{accounts_with, tariffs_with}
use Rattle.cc_book.proofs.Postings.{opening_at-behind, opening_at-front, postings_all}
use Rattle.cc_book.specs.Pricing.{granted_price, new_prices, next_price, price_at, price_of}
use Rattle.cc_book.proofs.Pricing.{new-ranged, price_in-ranged}
use Rattle.cc_view.specs.declared.request.ServiceName.{ServiceName}

-- ---- what was used

count-small : (used : List ℕ) (place : ℕ) → All (λ sum. sum < 2 ^ 78) used → slice_index_or used place 0 < 2 ^ 78
count-small used place small = elim (cases_lt place (length used)) as (λ _. slice_index_or used place 0 < 2 ^ 78) [
  | inl lt ↦ small place 0 lt
  | inr le ↦ subst (λ (n : ℕ). n < 2 ^ 78) (sym (beyond used place le)) (omega arith)
] where
  beyond : (xs : List ℕ) (i : ℕ) → length xs ≤ i → slice_index_or xs i 0 ≡ 0
  beyond [] i le = refl
  beyond (x ∷ xs) zero le = absurd (omega arith)
  beyond (x ∷ xs) (suc i) le = beyond xs i (omega arith)

-- where each is paid for at a tariff in its ranges
module _ (price : Service → Option Tariff) (ranges : (service : Service) → IfSome (price service) (λ tariff. in_range tariff ≡ true)) where
  used_cost-most : (service : Service) → HasSmallSums service → used_cost (price service) service ≤ 2 ^ 98
  used_cost-most service small = by (price service) (ranges service) where
    by : (found : Option Tariff) → IfSome found (λ tariff. in_range tariff ≡ true) → used_cost found service ≤ 2 ^ 98
    by None e = omega arith
    by (Some tariff) e =
        let units = count-small service.used (count_place tariff.kind) small in
        let cost = cost_of-most tariff (used_of tariff service) e in
        omega arith

  used_total-most : (services : List Service) → All HasSmallSums services → used_total price services ≤ length services * 2 ^ 98
  used_total-most [] small = omega arith
  used_total-most (service ∷ services) small =
      let here = used_cost-most service (All-head HasSmallSums service services small) in
      let more = used_total-most services (All-tail HasSmallSums service services small) in
      omega arith

-- ---- a tariff of the site is in its ranges

module _ (tariffs : List Tariff) (ranges : IsTrue (list_all in_range tariffs)) where
  in_range-of : (service : Service) (tariff : Tariff) → tariff_of tariffs service ≡ Some tariff → in_range tariff ≡ true
  in_range-of service tariff is = find-all (rates service.group service.ident) in_range tariff tariffs ranges is

  rated-range : (service : Service) → IfSome (tariff_of tariffs service) (λ tariff. in_range tariff ≡ true)
  rated-range service = by (tariff_of tariffs service) refl where
    by : (found : Option Tariff) → tariff_of tariffs service ≡ found → IfSome found (λ tariff. in_range tariff ≡ true)
    by None is = tt
    by (Some tariff) is = in_range-of service tariff is

  -- ---- what is asked

  limit-most : (kind : UnitKind) → units_limit kind < 2 ^ 63
  limit-most Time = omega arith
  limit-most Octets = omega arith
  limit-most Units = omega arith

  units-most : (tariff : Tariff) → in_range tariff ≡ true → (tariff.quantum < 2 ^ 63) × (tariff.greatest < 2 ^ 63)
  units-most tariff e =
      let a = and_parts (has_key tariff) (from_one (2 ^ 32) tariff.block && (leb tariff.price (2 ^ 20)
      && (from_one (units_limit tariff.kind) tariff.quantum && from_one (units_limit tariff.kind) tariff.greatest))) e in
      let b = and_parts (from_one (2 ^ 32) tariff.block) (leb tariff.price (2 ^ 20)
      && (from_one (units_limit tariff.kind) tariff.quantum && from_one (units_limit tariff.kind) tariff.greatest)) a.1 in
      let c = and_parts (leb tariff.price (2 ^ 20)) (from_one (units_limit tariff.kind) tariff.quantum && from_one (units_limit tariff.kind) tariff.greatest) b.1 in
      let d = and_parts (from_one (units_limit tariff.kind) tariff.quantum) (from_one (units_limit tariff.kind) tariff.greatest) c.1 in
      let quantum = leb-true _ _ (and_parts (leb 1 tariff.quantum) (leb tariff.quantum (units_limit tariff.kind)) d.0).1 in
      let greatest = leb-true _ _ (and_parts (leb 1 tariff.greatest) (leb tariff.greatest (units_limit tariff.kind)) d.1).1 in
      let most = limit-most tariff.kind in
      (omega arith, omega arith)

  asked-small : (tariff : Tariff) (service : Service) → in_range tariff ≡ true → AsksSmall service → IfSome (asked_of tariff service) (λ units. units < 2 ^ 64)
  asked-small tariff service e small = by service.asked refl where
    or_quantum : (count : Option ℕ) → IfSome count (λ n. n < 2 ^ 64) → unwrap_or count tariff.quantum < 2 ^ 64
    or_quantum None few = let units = units-most tariff e in omega (arith, units.0)
    or_quantum (Some n) few = few

    by : (asked : Option (List (Option ℕ))) → service.asked ≡ asked
        → IfSome (option_map (λ (counts : List (Option ℕ)). unwrap_or (slice_index_or counts (count_place tariff.kind) None) tariff.quantum) asked) (λ units. units < 2 ^ 64)
    by None is = tt
    by (Some counts) is = or_quantum (slice_index_or counts (count_place tariff.kind) None) (small counts (count_place tariff.kind) is)

  asking_cost-most : (tariff : Tariff) (service : Service) → in_range tariff ≡ true → AsksSmall service → asking_cost tariff service ≤ 2 ^ 84
  asking_cost-most tariff service e small = by (asked_of tariff service) (asked-small tariff service e small) where
    by : (asked : Option ℕ) → IfSome asked (λ units. units < 2 ^ 64) → unwrap_or (option_map (cost_of tariff) asked) 0 ≤ 2 ^ 84
    by None few = omega arith
    by (Some units) few = let cost = cost_of-most tariff units e in omega arith

  service_cost-most : (service : Service) → AsksSmall service → IfSome (service_cost tariffs service) (λ cost. cost ≤ 2 ^ 84)
  service_cost-most service small = by (tariff_of tariffs service) refl where
    by : (found : Option Tariff) → tariff_of tariffs service ≡ found → IfSome (option_map (λ (t : Tariff). asking_cost t service) found) (λ cost. cost ≤ 2 ^ 84)
    by None e = tt
    by (Some tariff) e = asking_cost-most tariff service (in_range-of service tariff e) small

  sum-most : (services : List Service) → All AsksSmall services → unwrap_or (sum_of_costs tariffs services) 0 ≤ length services * 2 ^ 84
  sum-most [] small = omega arith
  sum-most (service ∷ services) small =
      by (service_cost tariffs service) (sum_of_costs tariffs services) (service_cost-most service (All-head AsksSmall service services small))
      (sum-most services (All-tail AsksSmall service services small)) where
        by : (cost total : Option ℕ) → IfSome cost (λ n. n ≤ 2 ^ 84) → unwrap_or total 0 ≤ length services * 2 ^ 84
            → unwrap_or (add cost total) 0 ≤ suc (length services) * 2 ^ 84
        by None total here more = omega arith
        by (Some cost) None here more = omega arith
        by (Some cost) (Some total) here more = omega (arith, here, more)

  total-most : (services : List Service) → All AsksSmall services → unwrap_or (total_of tariffs services) 0 ≤ length services * 2 ^ 84
  total-most [] small = omega arith
  total-most (service ∷ services) small = sum-most (service ∷ services) small

  -- ---- what is granted

  grant-small : (free : ℤ) (service : Service) → IfSome (grant_to tariffs free service) (λ made. made.held < 2 ^ 84)
  grant-small free service = by (tariff_of tariffs service) refl where
    by : (found : Option Tariff) → tariff_of tariffs service ≡ found → IfSome (grant_to tariffs free service) (λ made. made.held < 2 ^ 84)
    by None e = subst (λ (found : Option Tariff). IfSome (option_and_then (λ (t : Tariff). option_map (grant_of t free) (asked_of t service)) found) (λ made. made.held < 2 ^ 84)) (sym e) tt
    by (Some tariff) e =
        let range = in_range-of service tariff e in
        let parts = in_range-parts tariff range in
        let cost = cost_of-most tariff tariff.greatest range in
        let most = units-most tariff range in
        weaker (grant_to tariffs free service) (cost_of tariff tariff.greatest) (omega (arith, most.1)) (granted-most tariffs free service tariff parts.0 e) where
          weaker : (grant : Option Grant) (n : ℕ) → n < 2 ^ 84 → IfSome grant (λ made. made.held ≤ n) → IfSome grant (λ made. made.held < 2 ^ 84)
          weaker None n small le = tt
          weaker (Some made) n small le = omega (arith, le)

  holds-most : (free : ℤ) (services : List Service) → held_in (holds_from tariffs free services) ≤ length services * 2 ^ 84
  holds-most free [] = omega arith
  holds-most free (service ∷ services) =
      let grant = grant_to tariffs free service in
      let here = held_in-made service grant (grant-small free service) in
      let more = holds-most (free_behind free grant) services in
      let parts = held_in-append (hold_of service (made_grant grant)) (holds_from tariffs (free_behind free grant) services) in
      omega arith

pub holds_on-most : (terms : Terms) → IsTrue (list_all in_range terms.tariffs) → (account : Option ℕ) (free : ℤ) (services : List Service)
    → held_in (holds_on terms account free services) ≤ length services * 2 ^ 84
holds_on-most terms ranges account free services = by (is_closed terms account) where
  by : (b : Bool) → held_in (cond b [] (holds_from terms.tariffs free services)) ≤ length services * 2 ^ 84
  by true = omega arith
  by false = holds-most terms.tariffs ranges free services

-- ---- an entry

action-most : (total : ℕ) (code : ResultCode) (action : Option RequestedAction) → nat_abs (action_debit total code action) ≤ total
action-most total Success (Some DirectDebiting) = omega arith
action-most total Success (Some RefundAccount) = abs-within (pos 0 -ℤ pos total) total (omega (arith, ints)) (omega (arith, ints))
action-most total Success (Some CheckBalance) = omega arith
action-most total Success (Some PriceEnquiry) = omega arith
action-most total Success None = omega arith
action-most total _ action = omega arith

with-most : (kind : RequestKind) (code : ResultCode) (holds : List Hold) → held_in (grants_with kind code holds) ≤ held_in holds
with-most Initial code holds = by (is_success code) where
  by : (b : Bool) → held_in (cond b holds []) ≤ held_in holds
  by true = omega arith
  by false = omega arith
with-most Update code holds = omega arith
with-most Termination code holds = omega arith
with-most Event code holds = omega arith

-- an entry moves little, and is in its ranges, and so are the tariffs by which it grants
abbrev LittleInRange : Posting → Type 0
LittleInRange posting = MovesLittle posting × IsInRange posting.entry × IsTrue (list_all in_range posting.tariffs)

-- ---- the price of a last grant is in its ranges

next-range : (session : List ℕ) (name : ServiceName) (price : Option Tariff) (p : Posting) → IsTrue (list_all in_range p.tariffs)
    → IfSome price (λ tariff. in_range tariff ≡ true) → IfSome (next_price session name price p) (λ tariff. in_range tariff ≡ true)
next-range session name price p ranges old =
    by (is_of session p.entry) (opens p) (granted_price p name) (price_in-ranged (new_prices p.tariffs p.grants) name (new-ranged p.tariffs p.grants ranges))
  where
    by : (own begins : Bool) (granted : Option Tariff) → IfSome granted (λ tariff. in_range tariff ≡ true)
        → IfSome (cond own (cond begins granted (option_or granted price)) price) (λ tariff. in_range tariff ≡ true)
    by true true granted good = good
    by true false None good = old
    by true false (Some tariff) good = good
    by false begins granted good = old

price-range : (session : List ℕ) (name : ServiceName) (price : Option Tariff) (before : List Posting) → AllByRecursion LittleInRange before
    → IfSome price (λ tariff. in_range tariff ≡ true) → IfSome (fold (next_price session name) price before) (λ tariff. in_range tariff ≡ true)
price-range session name price [] all old = old
price-range session name price (p ∷ before) all old =
    price-range session name (next_price session name price p) before all.1 (next-range session name price p all.0.2 old)

module _ (terms : Terms) (ranges : IsTrue (list_all in_range terms.tariffs)) (before : List Posting) (all : AllByRecursion LittleInRange before)
    (request : CcRequest) (limits : WithinLimits request.services) (asks : All AsksSmall request.services) where
  at-range : (service : Service) → IfSome (price_at terms.tariffs before request.session service) (λ tariff. in_range tariff ≡ true)
  at-range service =
      by (price_of request.session (name_of service) before) (price-range request.session (name_of service) None before all tt)
      (rated-range terms.tariffs ranges service)
    where
      by : (last : Option Tariff) → IfSome last (λ tariff. in_range tariff ≡ true) → IfSome (tariff_of terms.tariffs service) (λ tariff. in_range tariff ≡ true)
          → IfSome (option_or last (tariff_of terms.tariffs service)) (λ tariff. in_range tariff ≡ true)
      by None last now = now
      by (Some tariff) last now = last

  settled-most : (price : Service → Option Tariff) → ((service : Service) → IfSome (price service) (λ tariff. in_range tariff ≡ true)) → (b : Bool)
      → nat_abs (cond b (pos (used_total price request.services)) (pos 0)) ≤ 2 ^ 103
  settled-most price good true =
      let used = used_total-most price good request.services limits.small in
      let few = limits.few in
      omega arith
  settled-most price good false = omega arith

  event-most : (code : ResultCode) → nat_abs (action_debit (unwrap_or (total_of terms.tariffs request.services) 0) code request.action) ≤ 2 ^ 103
  event-most code =
      let total = total-most terms.tariffs ranges request.services asks in
      let action = action-most (unwrap_or (total_of terms.tariffs request.services) 0) code request.action in
      let few = limits.few in
      omega arith

  debit-most : (kind : RequestKind) → nat_abs (debit_by terms before request kind) ≤ 2 ^ 103
  debit-most Initial = settled-most (tariff_of terms.tariffs) (rated-range terms.tariffs ranges) (settles_after terms before request)
  debit-most Update = settled-most (price_at terms.tariffs before request.session) at-range (settles_after terms before request)
  debit-most Termination = settled-most (price_at terms.tariffs before request.session) at-range (settles_after terms before request)
  debit-most Event = event-most (event_after terms before request).code

  grants-most : (b : Bool) → held_in (grants_by terms before request b) ≤ 2 ^ 89
  grants-most true =
      let less = with-most request.kind (reply_after terms before request).code (holds_on terms (charged_account terms before request) (free_to_grant terms before request) request.services) in
      let most = holds_on-most terms ranges (charged_account terms before request) (free_to_grant terms before request) request.services in
      let few = limits.few in
      omega arith
  grants-most false = omega arith

  take-little : (moment : Moment) → MovesLittle (posting_of terms before (Take moment request))
  take-little moment = record { debit = debit-most request.kind; grants = grants-most (settles_after terms before request) }

entry-little : (terms : Terms) → IsTrue (list_all in_range terms.tariffs) → (before : List Posting) → AllByRecursion LittleInRange before → (entry : Entry)
    → IsInRange entry → LittleInRange (posting_of terms before entry)
entry-little terms ranges before all (Take moment request) range = (take-little terms ranges before all request range.0 range.1 moment, range, ranges)
entry-little terms ranges before all (Sweep moment) range = (record { debit = omega arith; grants = omega arith }, range, refl)
entry-little terms ranges before all (ChangeTerms moment change) range = (record { debit = omega arith; grants = omega arith }, range, refl)

-- ---- the terms of a place

with_range : (tariffs : List Tariff) (entry : Entry) → IsTrue (list_all in_range tariffs) → IsInRange entry
    → IsTrue (list_all in_range (tariffs_with tariffs entry))
with_range tariffs (Take moment request) ranges range = ranges
with_range tariffs (Sweep moment) ranges range = ranges
with_range tariffs (ChangeTerms moment change) ranges range = by change.tariffs range.0 where
  by : (later : Option (List Tariff)) → IfSome later (λ t. fault_of t ≡ None) → IsTrue (list_all in_range (unwrap_or later tariffs))
  by None none = ranges
  by (Some later) none = fault_of-none later none

tariffs-range : (tariffs : List Tariff) (before : List Posting) → IsTrue (list_all in_range tariffs) → AllByRecursion LittleInRange before
    → IsTrue (list_all in_range (tariffs_at tariffs before))
tariffs-range tariffs [] ranges all = ranges
tariffs-range tariffs (p ∷ before) ranges all =
    tariffs-range (tariffs_with tariffs p.entry) before (with_range tariffs p.entry ranges all.0.1) all.1

abbrev OpenSmall : List Account → Type 0
OpenSmall accounts = (account : ℕ) → nat_abs (opening_at accounts account) ≤ 2 ^ 64

joining-small : (joining : List Account) → All (λ account. nat_abs account.opening ≤ 2 ^ 64) joining → OpenSmall joining
joining-small [] small account = omega arith
joining-small (first ∷ joining) small zero = All-head (λ (a : Account). nat_abs a.opening ≤ 2 ^ 64) first joining small
joining-small (first ∷ joining) small (suc account) =
    joining-small joining (All-tail (λ (a : Account). nat_abs a.opening ≤ 2 ^ 64) first joining small) account

pub both-small : (accounts joining : List Account) → OpenSmall accounts → OpenSmall joining → OpenSmall (accounts ++ joining)
both-small accounts joining one other account = elim (cases_lt account (length accounts)) as (λ _. nat_abs (opening_at (accounts ++ joining) account) ≤ 2 ^ 64) [
  | inl lt ↦ subst (λ (z : ℤ). nat_abs z ≤ 2 ^ 64) (sym (opening_at-front accounts joining account lt)) (one account)
  | inr le ↦ (
      let is : account ≡ length accounts + (account - length accounts) = omega arith in
      subst (λ (n : ℕ). nat_abs (opening_at (accounts ++ joining) n) ≤ 2 ^ 64) (sym is)
      (subst (λ (z : ℤ). nat_abs z ≤ 2 ^ 64) (sym (opening_at-behind accounts joining (account - length accounts))) (other (account - length accounts))))
]

with_small : (accounts : List Account) (entry : Entry) → OpenSmall accounts → IsInRange entry → OpenSmall (accounts_with accounts entry)
with_small accounts (Take moment request) small range = small
with_small accounts (Sweep moment) small range = small
with_small accounts (ChangeTerms moment change) small range = both-small accounts change.joining small (joining-small change.joining range.1)

openings-small : (accounts : List Account) (before : List Posting) → OpenSmall accounts → AllByRecursion LittleInRange before
    → OpenSmall (accounts_at accounts before)
openings-small accounts [] small all = small
openings-small accounts (p ∷ before) small all =
    openings-small (accounts_with accounts p.entry) before (with_small accounts p.entry small all.0.1) all.1

all_little : (before : List Posting) → AllByRecursion LittleInRange before → AllByRecursion MovesLittle before
all_little [] all = tt
all_little (p ∷ before) all = (all.0.0, all_little before all.1)

little-ranges : (terms : Terms) (history : List Entry) → fault_of terms.tariffs ≡ None → All IsInRange history
    → AllByRecursion LittleInRange (postings_of terms history)
little-ranges terms history none ranges =
    postings_all LittleInRange IsInRange terms history
    (λ before entry all range. entry-little (terms_at terms before) (tariffs-range terms.tariffs before (fault_of-none terms.tariffs none) all) before all entry
    range) ranges

pub entries-little : (terms : Terms) (history : List Entry) → fault_of terms.tariffs ≡ None → All IsInRange history
    → AllByRecursion MovesLittle (postings_of terms history)
entries-little terms history none ranges = all_little (postings_of terms history) (little-ranges terms history none ranges)

-- the accounts of a place opened small, where those of the opening did, and each that joined
pub opened-small : (terms : Terms) (history : List Entry) → OpensSmall terms → fault_of terms.tariffs ≡ None → All IsInRange history
    → OpensSmall (terms_of terms history)
opened-small terms history small none ranges = openings-small terms.accounts (postings_of terms history) small (little-ranges terms history none ranges)
