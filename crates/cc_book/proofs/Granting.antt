-- What requests reserve, of what is free.
use Rattle.std.proofs.Common.{◌≡◌, ℕ, ◌+◌, ◌<◌, Bool, true, false, cond, ◌||◌, eqb, List, [], ◌∷◌, ◌++◌, Option, Some, None, option_map, refl, sym, ap, ◌∙◌, arith, rules}
use Rattle.std.specs.Prelude.{ℤ, pos, ◌-ℤ◌, ◌≤ℤ◌, is_some, sum_by, IfSome}
use Rattle.std.specs.Int.{int_max}
use Rattle.std.specs.List.{fold, list_any}
use Rattle.std.specs.Option.{option_and_then}
use Rattle.std.proofs.lemmas.Int.{clamps, ints}
use Rattle.std.proofs.lemmas.List.Folds.{list_any-append}
use Rattle.std.proofs.lemmas.List.Sums.{fold-append, sum_by-cons}
use Rattle.dia_base.specs.declared.number.Moment.{Moment}
use Rattle.cc_view.specs.declared.code.ResultCode.{ResultCode}
use Rattle.cc_view.specs.declared.request.CcRequest.{CcRequest}
use Rattle.cc_view.specs.declared.request.RequestKind.{RequestKind}
use Rattle.cc_view.specs.declared.request.RequestKind.TheVariants.{Initial, Update, Termination, Event}
use Rattle.cc_view.specs.declared.request.Service.{Service}
use Rattle.cc_view.specs.declared.request.ServiceName.{ServiceName}
use Rattle.cc_rating.specs.declared.tariff.Grant.{Grant}
use Rattle.cc_rating.specs.declared.tariff.Tariff.{Tariff}
use Rattle.cc_rating.specs.Rating.{grant_of}
use Rattle.cc_rating.specs.Tariffs.{AreInRange, fault_of, in_range, rates}
use Rattle.cc_rating.proofs.Costs.{find-all, in_range-parts}
use Rattle.cc_rating.proofs.Faults.{fault_of-none}
use Rattle.cc_rating.proofs.Grants.{held-free}
use Rattle.cc_book.specs.declared.entry.Entry.{Entry}
use Rattle.cc_book.specs.declared.entry.Entry.TheVariants.{Take, Sweep, ChangeTerms}
use Rattle.cc_book.specs.declared.session.Hold.{Hold}
use Rattle.cc_book.specs.declared.terms.Terms.{Terms}
use Rattle.cc_book.specs.AccountMachine.{charged_account, free_after, free_behind, free_for, free_to_grant, grant_to, grants_after, grants_by, grants_with, hold_of, holds_from, holds_on, is_closed, is_refused, made_grant, posting_of, postings_of, reply_after, settles_after, settling_posting, terms_of}
use Rattle.cc_book.specs.Duplicate.{same_session}
use Rattle.cc_book.specs.Posting.{Posting, is_account}
use Rattle.cc_book.specs.Reservation.{held_after, is_alive, replaces, reserved_by}
use Rattle.cc_book.specs.ServiceRating.{asked_of, tariff_of}
use Rattle.cc_book.specs.Session.{Opened, is_success, left_after, opened_at, outlasts, session_by}
use Rattle.cc_book.specs.Standing.{held_in}
use Rattle.cc_book.proofs.Postings.{debits_to-push, postings_of-push, terms_of-take}

-- ---- a grant is of what is free

block-some : (tariffs : List Tariff) (service : Service) (found : Option Tariff) → tariff_of tariffs service ≡ found → AreInRange tariffs
    → IfSome found (λ tariff. 0 < tariff.block)
block-some tariffs service None e good = tt
block-some tariffs service (Some tariff) e good = (in_range-parts tariff (find-all (rates service.group service.ident) in_range tariff tariffs good e)).0

grant-free : (tariffs : List Tariff) (free : ℤ) (service : Service) → AreInRange tariffs
    → IfSome (grant_to tariffs free service) (λ grant. pos grant.held ≤ℤ int_max free (pos 0))
grant-free tariffs free service good = by (tariff_of tariffs service) (block-some tariffs service (tariff_of tariffs service) refl good) where
  of_asked : (tariff : Tariff) (asked : Option ℕ) → 0 < tariff.block
      → IfSome (option_map (grant_of tariff free) asked) (λ grant. pos grant.held ≤ℤ int_max free (pos 0))
  of_asked tariff None some = tt
  of_asked tariff (Some units) some = held-free tariff free units some

  by : (found : Option Tariff) → IfSome found (λ tariff. 0 < tariff.block)
      → IfSome (option_and_then (λ (tariff : Tariff). option_map (grant_of tariff free) (asked_of tariff service)) found)
      (λ grant. pos grant.held ≤ℤ int_max free (pos 0))
  by None some = tt
  by (Some tariff) some = of_asked tariff (asked_of tariff service) some

less_free : (free : ℤ) (held rest : ℕ) → pos rest ≤ℤ int_max (free -ℤ pos held) (pos 0) → pos rest ≤ℤ int_max free (pos 0)
less_free free held rest le = omega (arith, ints, clamps)

both_free : (free : ℤ) (held rest : ℕ) → pos held ≤ℤ int_max free (pos 0) → pos rest ≤ℤ int_max (free -ℤ pos held) (pos 0)
    → pos (held + rest) ≤ℤ int_max free (pos 0)
both_free free held rest first more = omega (arith, ints, clamps)

none_free : (free : ℤ) → pos 0 ≤ℤ int_max free (pos 0)
none_free free = omega (arith, ints, clamps)

hold-free : (free : ℤ) (service : Service) (grant : Option Grant) (rest : List Hold) → IfSome grant (λ made. pos made.held ≤ℤ int_max free (pos 0))
    → pos (held_in rest) ≤ℤ int_max (free_behind free grant) (pos 0) → pos (held_in (hold_of service (made_grant grant) ++ rest)) ≤ℤ int_max free (pos 0)
hold-free free service None rest first more = more
hold-free free service (Some grant) rest first more = by (is_refused grant) where
  by : (b : Bool) → pos (held_in (hold_of service (cond b None (Some grant)) ++ rest)) ≤ℤ int_max free (pos 0)
  by true = less_free free grant.held (held_in rest) more
  by false = both_free free grant.held (held_in rest) first more

holds-free : (tariffs : List Tariff) (free : ℤ) (services : List Service) → AreInRange tariffs
    → pos (held_in (holds_from tariffs free services)) ≤ℤ int_max free (pos 0)
holds-free tariffs free [] good = none_free free
holds-free tariffs free (service ∷ services) good =
    let grant = grant_to tariffs free service in
    hold-free free service grant (holds_from tariffs (free_behind free grant) services) (grant-free tariffs free service good)
    (holds-free tariffs (free_behind free grant) services good)

-- and of a closed account none
holds_on-free : (terms : Terms) (account : Option ℕ) (free : ℤ) (services : List Service) → AreInRange terms.tariffs
    → pos (held_in (holds_on terms account free services)) ≤ℤ int_max free (pos 0)
holds_on-free terms account free services good = by (is_closed terms account) where
  by : (b : Bool) → pos (held_in (cond b [] (holds_from terms.tariffs free services))) ≤ℤ int_max free (pos 0)
  by true = none_free free
  by false = holds-free terms.tariffs free services good

-- ---- what a request reserves

grants_with-free : (free : ℤ) (kind : RequestKind) (code : ResultCode) (holds : List Hold) → pos (held_in holds) ≤ℤ int_max free (pos 0)
    → pos (held_in (grants_with kind code holds)) ≤ℤ int_max free (pos 0)
grants_with-free free Initial code holds le = by (is_success code) where
  by : (b : Bool) → pos (held_in (cond b holds [])) ≤ℤ int_max free (pos 0)
  by true = le
  by false = none_free free
grants_with-free free Update code holds le = le
grants_with-free free Termination code holds le = none_free free
grants_with-free free Event code holds le = none_free free

grants_after-free : (terms : Terms) (before : List Posting) (request : CcRequest) → AreInRange terms.tariffs
    → pos (held_in (grants_after terms before request)) ≤ℤ int_max (free_to_grant terms before request) (pos 0)
grants_after-free terms before request good = by (settles_after terms before request) where
  by : (b : Bool) → pos (held_in (grants_by terms before request b)) ≤ℤ int_max (free_to_grant terms before request) (pos 0)
  by true =
      grants_with-free (free_to_grant terms before request) request.kind (reply_after terms before request).code
      (holds_on terms (charged_account terms before request) (free_to_grant terms before request) request.services)
      (holds_on-free terms (charged_account terms before request) (free_to_grant terms before request) request.services good)
  by false = none_free (free_to_grant terms before request)

pub grants-free : (terms : Terms) (history : List Entry) (request : CcRequest) → fault_of (terms_of terms history).tariffs ≡ None
    → pos (held_in (grants_after (terms_of terms history) (postings_of terms history) request)) ≤ℤ int_max (free_to_grant (terms_of terms history) (postings_of terms history) request) (pos 0)
grants-free terms history request none = grants_after-free (terms_of terms history) (postings_of terms history) request (fault_of-none (terms_of terms history).tariffs none)

-- ---- what is free after a request

-- two postings that end reservations alike: they settle the same services of the same session
record EndAlike (one other : Posting) : Type 0 where
  pub replaced : (session : List ℕ) (name : ServiceName) → replaces session name one ≡ replaces session name other
  pub lasting : (validity : ℕ) (session : List ℕ) (opened : Option Opened)
      → is_some (left_after validity session opened one) ≡ is_some (left_after validity session opened other)

is_alive-alike : (validity : ℕ) (entry : Entry) (name : ServiceName) (after : List Posting) (one other : Posting) → EndAlike one other
    → is_alive validity entry name (after ++ one ∷ []) ≡ is_alive validity entry name (after ++ other ∷ [])
is_alive-alike validity (Sweep moment) name after one other alike = refl
is_alive-alike validity (ChangeTerms moment change) name after one other alike = refl
is_alive-alike validity (Take moment request) name after one other alike =
    let left = fold (left_after validity request.session) (Some (opened_at validity None moment.0)) in
    let lasts : outlasts validity (Take moment request) (after ++ one ∷ []) ≡ outlasts validity (Take moment request) (after ++ other ∷ []) =
    ap (λ (o : Option Opened). is_some o) (fold-append (left_after validity request.session) (Some (opened_at validity None moment.0)) after (one ∷ []))
    ∙ alike.lasting validity request.session (left after)
    ∙ sym (ap (λ (o : Option Opened). is_some o) (fold-append (left_after validity request.session) (Some (opened_at validity None moment.0)) after
    (other ∷ []))) in
    let any : list_any (replaces request.session name) (after ++ one ∷ []) ≡ list_any (replaces request.session name) (after ++ other ∷ []) =
    list_any-append (replaces request.session name) after (one ∷ [])
    ∙ ap (λ (b : Bool). list_any (replaces request.session name) after || (b || false)) (alike.replaced request.session name)
    ∙ sym (list_any-append (replaces request.session name) after (other ∷ [])) in
    cc

held_after-alike : (validity : ℕ) (entry : Entry) (grants : List Hold) (after : List Posting) (one other : Posting) → EndAlike one other
    → held_after validity entry grants (after ++ one ∷ []) ≡ held_after validity entry grants (after ++ other ∷ [])
held_after-alike validity entry grants after one other alike =
    λ i. sum_by (λ (grant : Hold). cond (is_alive-alike validity entry grant.service after one other alike i) grant.cost 0) grants

-- beside what they reserve themselves, two such postings leave as much reserved
reserved_by-alike : (validity account : ℕ) (before : List Posting) (one other : Posting) → EndAlike one other
    → reserved_by validity account (before ++ one ∷ []) + reserved_by validity account (other ∷ [])
    ≡ reserved_by validity account (before ++ other ∷ []) + reserved_by validity account (one ∷ [])
reserved_by-alike validity account [] one other alike = omega arith
reserved_by-alike validity account (posting ∷ before) one other alike =
    let here : cond (is_account account posting.account) (held_after validity posting.entry posting.grants (before ++ one ∷ [])) 0
    ≡ cond (is_account account posting.account) (held_after validity posting.entry posting.grants (before ++ other ∷ [])) 0 =
    ap (λ (n : ℕ). cond (is_account account posting.account) n 0) (held_after-alike validity posting.entry posting.grants before one other alike) in
    let more = reserved_by-alike validity account before one other alike in
    omega arith

-- a request ends the same reservations before its grants as with them
settling-alike : (terms : Terms) (before : List Posting) (moment : Moment) (request : CcRequest)
    → EndAlike (posting_of terms before (Take moment request)) (settling_posting terms before request)
settling-alike terms before moment request = record {
  replaced = λ session name. refl;
  lasting =
      λ validity session opened. lasting validity session opened;
} where
  by_kind : (validity m n : ℕ) (opened : Opened) (kind : RequestKind)
      → is_some (session_by validity opened m kind) ≡ is_some (session_by validity opened n kind)
  by_kind validity m n opened Initial = refl
  by_kind validity m n opened Update = refl
  by_kind validity m n opened Termination = refl
  by_kind validity m n opened Event = refl

  by_session : (validity : ℕ) (opened : Opened) (b : Bool)
      → is_some (cond b (session_by validity opened moment.0 request.kind) (Some opened))
      ≡ is_some (cond b (session_by validity opened 0 request.kind) (Some opened))
  by_session validity opened true = by_kind validity moment.0 0 opened request.kind
  by_session validity opened false = refl

  lasting : (validity : ℕ) (session : List ℕ) (opened : Option Opened)
      → is_some (left_after validity session opened (posting_of terms before (Take moment request)))
      ≡ is_some (left_after validity session opened (settling_posting terms before request))
  lasting validity session None = refl
  lasting validity session (Some opened) = by_session validity opened (same_session request.session session)

costs-held : (holds : List Hold) → sum_by (λ (hold : Hold). hold.cost) holds ≡ held_in holds
costs-held [] = refl
costs-held (hold ∷ holds) = sum_by-cons (λ (h : Hold). h.cost) hold holds ∙ ap (λ (n : ℕ). hold.cost + n) (costs-held holds)

same_place : (account : ℕ) → eqb account account ≡ true
same_place account = search rules

-- what is free after a request is what was free for its grants, less what it reserves
free_after-take : (terms : Terms) (before : List Posting) (moment : Moment) (request : CcRequest) (account : ℕ)
    → charged_account terms before request ≡ Some account
    → free_after terms (before ++ posting_of terms before (Take moment request) ∷ []) account
    ≡ free_to_grant terms before request -ℤ pos (held_in (grants_after terms before request))
free_after-take terms before moment request account charged =
    let one = posting_of terms before (Take moment request) in
    let other = settling_posting terms before request in
    let free : free_to_grant terms before request ≡ free_after terms (before ++ other ∷ []) account = ap (free_for terms (before ++ other ∷ [])) charged in
    let debit = debits_to-push account before one in
    let same_debit = debits_to-push account before other in
    let held = reserved_by-alike terms.validity account before one other (settling-alike terms before moment request) in
    let own : is_account account (charged_account terms before request) ≡ true = ap (is_account account) charged ∙ same_place account in
    let reserves : reserved_by terms.validity account (one ∷ []) ≡ held_in (grants_after terms before request) + 0 =
    ap (λ (b : Bool). cond b (held_after terms.validity (Take moment request) (grants_after terms before request) []) 0 + 0) own
    ∙ ap (λ (n : ℕ). n + 0) (costs-held (grants_after terms before request)) in
    let none : reserved_by terms.validity account (other ∷ []) ≡ 0 = ap (λ (b : Bool). cond {A = ℕ} b 0 0 + 0) own in
    omega (arith, ints)

pub free-left : (terms : Terms) (history : List Entry) (moment : Moment) (request : CcRequest) (account : ℕ)
    → charged_account (terms_of terms history) (postings_of terms history) request ≡ Some account
    → free_after (terms_of terms (history ++ Take moment request ∷ [])) (postings_of terms (history ++ Take moment request ∷ [])) account
    ≡ free_to_grant (terms_of terms history) (postings_of terms history) request -ℤ pos
    (held_in (grants_after (terms_of terms history) (postings_of terms history) request))
free-left terms history moment request account charged =
    ap (λ (now : Terms). free_after now (postings_of terms (history ++ Take moment request ∷ [])) account) (terms_of-take terms history moment request)
    ∙ ap (λ (postings : List Posting). free_after (terms_of terms history) postings account) (postings_of-push terms history (Take moment request))
    ∙ free_after-take (terms_of terms history) (postings_of terms history) moment request account charged

not_below : (free left : ℤ) (held : ℕ) → left ≡ free -ℤ pos held → pos held ≤ℤ int_max free (pos 0) → pos 0 ≤ℤ free → pos 0 ≤ℤ left
not_below free left held is most some = omega (arith, ints, clamps)

pub free-not_below : (terms : Terms) (history : List Entry) (moment : Moment) (request : CcRequest) (account : ℕ) → fault_of (terms_of terms history).tariffs ≡ None
    → charged_account (terms_of terms history) (postings_of terms history) request ≡ Some account
    → pos 0 ≤ℤ free_to_grant (terms_of terms history) (postings_of terms history) request
    → pos 0 ≤ℤ free_after (terms_of terms (history ++ Take moment request ∷ [])) (postings_of terms (history ++ Take moment request ∷ [])) account
free-not_below terms history moment request account none charged some =
    not_below (free_to_grant (terms_of terms history) (postings_of terms history) request) (free_after (terms_of terms (history ++ Take moment request ∷ [])) (postings_of terms (history ++ Take moment request ∷ [])) account)
    (held_in (grants_after (terms_of terms history) (postings_of terms history) request))
    (free-left terms history moment request account charged) (grants-free terms history request none) some
