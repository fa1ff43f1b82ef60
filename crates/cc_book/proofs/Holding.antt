-- A service of a session is held once.
use Rattle.std.proofs.Common.{◌≡◌, ◌≢◌, ℕ, zero, suc, ◌+◌, ◌≤◌, Bool, true, false, cond, not, ◌&&◌, ◌||◌, eqb, List, [], ◌∷◌, ◌++◌, All, Option, Some, None, refl, sym, subst, ap, ◌∙◌, arith}
use Rattle.std.specs.Prelude.{ℤ, AllPairs, count_by, slice_index_or}
use Rattle.std.specs.List.{list_any, AllByRecursion}
use Rattle.std.specs.Option.{option_eq}
use Rattle.std.proofs.lemmas.Bool.{and_from, and_parts, eqb-true}
use Rattle.std.proofs.lemmas.List.Elements.{All-weaker}
use Rattle.std.proofs.lemmas.List.Folds.{list_any_none}
use Rattle.std.proofs.lemmas.Slice.Eq.{bytes_eq-Decides}
use Rattle.dia_base.proofs.Counting.{one, one-le, count-cons, count-le, none_any}
use Rattle.cc_view.specs.Request.ServiceLimits.{name_of}
use Rattle.cc_view.specs.declared.code.ResultCode.{ResultCode}
use Rattle.cc_view.specs.declared.request.CcRequest.{CcRequest}
use Rattle.cc_view.specs.declared.request.RequestKind.{RequestKind}
use Rattle.cc_view.specs.declared.request.RequestKind.TheVariants.{Initial, Update, Termination, Event}
use Rattle.cc_view.specs.declared.request.Service.{Service}
use Rattle.cc_view.specs.declared.request.ServiceName.{ServiceName}
use Rattle.cc_rating.specs.declared.tariff.Grant.{Grant}
use Rattle.cc_rating.specs.declared.tariff.Tariff.{Tariff}
use Rattle.cc_book.specs.declared.entry.Entry.{Entry}
use Rattle.cc_book.specs.declared.entry.Entry.TheVariants.{Take, Sweep, ChangeTerms}
use Rattle.cc_book.specs.declared.session.Hold.{Hold}
use Rattle.cc_book.specs.declared.terms.Terms.{Terms}
use Rattle.cc_book.specs.AccountMachine.{charged_account, free_behind, free_to_grant, grant_to, grants_after, grants_by, grants_with, hold_of, holds_from, holds_on, is_closed, made_grant, posting_of, postings_of, reply_after, settles_after, terms_at}
use Rattle.cc_book.specs.Duplicate.{same_session}
use Rattle.cc_book.specs.Laws.{HasLimits, grants_alive}
use Rattle.cc_book.specs.Posting.{Posting}
use Rattle.cc_book.specs.Reservation.{has_name, is_alive, replaces, same_name}
use Rattle.cc_book.specs.Session.{is_of, is_success, outlasts}
use Rattle.cc_book.proofs.Postings.{postings_all}

-- ---- a request names a service once

option_eq-true : (a b : Option ℕ) → option_eq eqb a b ≡ true → a ≡ b
option_eq-true None None e = refl
option_eq-true None (Some b) e = absurd cc
option_eq-true (Some a) None e = absurd cc
option_eq-true (Some a) (Some b) e = ap Some (eqb-true a b e)

option_eq-sym : (a b : Option ℕ) → option_eq eqb a b ≡ true → option_eq eqb b a ≡ true
option_eq-sym a b e =
    let same = option_eq-true a b e in
    subst (λ (x : Option ℕ). option_eq eqb x a ≡ true) same (subst (λ (x : Option ℕ). option_eq eqb a x ≡ true) (sym same) e)

pub same_name-equal : (one other : ServiceName) → same_name one other ≡ true → one ≡ other
same_name-equal one other e =
    let parts = and_parts (option_eq eqb one.group other.group) (option_eq eqb one.ident other.ident) e in
    λ i. record { group = option_eq-true one.group other.group parts.0 i; ident = option_eq-true one.ident other.ident parts.1 i }

pub has_name-is : (name : ServiceName) (service : Service) → has_name name service ≡ true → name ≡ name_of service
has_name-is name service e =
    let parts = and_parts (option_eq eqb name.group service.group) (option_eq eqb name.ident service.ident) e in
    λ i. record { group = option_eq-true name.group service.group parts.0 i; ident = option_eq-true name.ident service.ident parts.1 i }

pub has_name-same : (name : ServiceName) (service : Service) → same_name (name_of service) name ≡ true → has_name name service ≡ true
has_name-same name service e =
    let parts = and_parts (option_eq eqb service.group name.group) (option_eq eqb service.ident name.ident) e in
    and_from (option_eq eqb name.group service.group) (option_eq eqb name.ident service.ident) (option_eq-sym service.group name.group parts.0)
    (option_eq-sym service.ident name.ident parts.1)

abbrev OwnNames : List Service → Type 0
OwnNames services = AllPairs (λ service other. name_of service ≢ name_of other) services

others_named : (name : ServiceName) (first : Service) (services : List Service) → OwnNames (first ∷ services) → has_name name first ≡ true
    → count_by (has_name name) services ≡ 0
others_named name first services own is =
    (none_any (has_name name) services (list_any_none (has_name name) services
    (All-weaker (λ service. name_of first ≢ name_of service) (λ service. has_name name service ≡ false) differs services
    (λ k d lt. own zero (suc k) d (omega arith) (omega arith))))).0
  where
    differs : (service : Service) → name_of first ≢ name_of service → has_name name service ≡ false
    differs service other = by (has_name name service) refl where
      by : (b : Bool) → has_name name service ≡ b → b ≡ false
      by true e = absurd (other (sym (has_name-is name first is) ∙ has_name-is name service e))
      by false e = refl

named-once : (name : ServiceName) (services : List Service) → OwnNames services → count_by (has_name name) services ≤ 1
named-once name [] own = omega arith
named-once name (service ∷ services) own = by (has_name name service) refl
    (named-once name services (λ i j d lt within. own (suc i) (suc j) d (omega arith) (omega arith))) where
      by : (b : Bool) → has_name name service ≡ b → count_by (has_name name) services ≤ 1 → count_by (has_name name) (service ∷ services) ≤ 1
      by true is more = let rest = others_named name service services own is in omega (arith, count-cons (has_name name) service services, ap one is)
      by false is more = omega (arith, count-cons (has_name name) service services, ap one is)

-- ---- so its grants are of services with names of their own

unfoldable pub held : ServiceName → List Hold → ℕ
held name holds = count_by (λ hold. same_name hold.service name) holds

hold-named : (name : ServiceName) (service : Service) (made : Option Grant) (rest : List Hold)
    → held name (hold_of service made ++ rest) ≤ one (has_name name service) + held name rest
unfolding held
hold-named name service None rest = omega arith
hold-named name service (Some grant) rest =
    let own : Hold = record { service = name_of service; cost = grant.held } in
    let here = one-le (same_name (name_of service) name) (has_name name service) (has_name-same name service) in
    omega (arith, count-cons (λ (hold : Hold). same_name hold.service name) own rest)

holds-named : (name : ServiceName) (tariffs : List Tariff) (free : ℤ) (services : List Service)
    → held name (holds_from tariffs free services) ≤ count_by (has_name name) services
unfolding held
holds-named name tariffs free [] = omega arith
holds-named name tariffs free (service ∷ services) =
    let grant = grant_to tariffs free service in
    let here = hold-named name service (made_grant grant) (holds_from tariffs (free_behind free grant) services) in
    let more = holds-named name tariffs (free_behind free grant) services in
    omega (arith, count-cons (has_name name) service services)

-- and those on an account that may be closed
holds_on-named : (name : ServiceName) (terms : Terms) (account : Option ℕ) (free : ℤ) (services : List Service)
    → held name (holds_on terms account free services) ≤ count_by (has_name name) services
unfolding held
holds_on-named name terms account free services = by (is_closed terms account) where
  by : (b : Bool) → held name (cond b [] (holds_from terms.tariffs free services)) ≤ count_by (has_name name) services
  by true = omega arith
  by false = holds-named name terms.tariffs free services

-- a posting of a session holds a service at most once, and ends its earlier grants where it does
record HoldsOnce (session : List ℕ) (name : ServiceName) (posting : Posting) : Type 0 where
  pub once : is_of session posting.entry ≡ true → held name posting.grants ≤ 1
  pub ends : is_of session posting.entry ≡ true → replaces session name posting ≡ false → held name posting.grants ≡ 0

with-le : (name : ServiceName) (kind : RequestKind) (code : ResultCode) (holds : List Hold) → held name (grants_with kind code holds) ≤ held name holds
unfolding held
with-le name Initial code holds = by (is_success code) where
  by : (b : Bool) → count_by (λ (hold : Hold). same_name hold.service name) (cond b holds []) ≤ count_by (λ (hold : Hold). same_name hold.service name) holds
  by true = omega arith
  by false = omega arith
with-le name Update code holds = omega arith
with-le name Termination code holds = omega arith
with-le name Event code holds = omega arith

pub grants-named : (terms : Terms) (before : List Posting) (request : CcRequest) (name : ServiceName)
    → held name (grants_after terms before request) ≤ count_by (has_name name) request.services
unfolding held
grants-named terms before request name = by (settles_after terms before request) where
  by : (b : Bool) → count_by (λ (hold : Hold). same_name hold.service name) (grants_by terms before request b) ≤ count_by (has_name name) request.services
  by true =
      let part = with-le name request.kind (reply_after terms before request).code
      (holds_on terms (charged_account terms before request) (free_to_grant terms before request) request.services) in
      let all = holds_on-named name terms (charged_account terms before request) (free_to_grant terms before request) request.services in
      omega arith
  by false = omega arith

not_named : (settles own named : Bool) → settles ≡ true → own ≡ true → (settles && (own && named)) ≡ false → named ≡ false
not_named true true named p q e = e
not_named true false named p q e = absurd cc
not_named false own named p q e = absurd cc

holds_once : (terms : Terms) (before : List Posting) (session : List ℕ) (name : ServiceName) (entry : Entry) → HasLimits entry
    → HoldsOnce session name (posting_of terms before entry)
unfolding held
holds_once terms before session name (Sweep moment) limits = record { once = λ own. absurd cc; ends = λ own ends. refl }
holds_once terms before session name (ChangeTerms moment change) limits = record { once = λ own. absurd cc; ends = λ own ends. refl }
holds_once terms before session name (Take moment request) limits =
    record { once = λ own. most; ends = λ own none. by (settles_after terms before request) refl own none } where
      most : count_by (λ (hold : Hold). same_name hold.service name) (grants_after terms before request) ≤ 1
      most = let once = named-once name request.services limits.own_names in let some = grants-named terms before request name in omega arith

      by : (b : Bool) → settles_after terms before request ≡ b → same_session request.session session ≡ true
          → (settles_after terms before request && (same_session request.session session && list_any (has_name name) request.services)) ≡ false
          → count_by (λ (hold : Hold). same_name hold.service name) (grants_after terms before request) ≡ 0
      by true is own none =
          let others =
          (none_any (has_name name) request.services
          (not_named (settles_after terms before request) (same_session request.session session) (list_any (has_name name) request.services) is own none)).0 in
          let some = grants-named terms before request name in
          omega arith
      by false is own none = ap (λ (b : Bool). count_by (λ (hold : Hold). same_name hold.service name) (grants_by terms before request b)) is

-- ---- a later grant takes the place of an earlier one

alive_here : ℕ → ServiceName → Posting → List Posting → ℕ
alive_here validity name posting after = count_by (λ hold. same_name hold.service name && is_alive validity posting.entry name after) posting.grants

alive-le : (validity : ℕ) (name : ServiceName) (posting : Posting) (after : List Posting) → alive_here validity name posting after ≤ held name posting.grants
unfolding alive_here held
alive-le validity name posting after =
    count-le (λ (hold : Hold). same_name hold.service name && is_alive validity posting.entry name after) (λ (hold : Hold). same_name hold.service name)
    (λ hold e. (and_parts (same_name hold.service name) (is_alive validity posting.entry name after) e).0) posting.grants

replaced-dead : (validity : ℕ) (session : List ℕ) (name : ServiceName) (entry : Entry) (after : List Posting) → is_of session entry ≡ true
    → list_any (replaces session name) after ≡ true → is_alive validity entry name after ≡ false
replaced-dead validity session name (Sweep moment) after own ends = refl
replaced-dead validity session name (ChangeTerms moment change) after own ends = refl
replaced-dead validity session name (Take moment request) after own ends =
    ap (λ (b : Bool). not b && outlasts validity (Take moment request) after)
    (subst (λ (id : List ℕ). list_any (replaces id name) after ≡ true) (sym ((bytes_eq-Decides request.session session).0 own)) ends)

no_count : (holds : List Hold) (test : Hold → Bool) (alive : Bool) → alive ≡ false → count_by (λ hold. test hold && alive) holds ≡ 0
no_count holds test true e = absurd cc
no_count holds test false e =
    (none_any (λ (hold : Hold). test hold && false) holds
    (list_any_none (λ (hold : Hold). test hold && false) holds (λ k d lt. fails (test (slice_index_or holds k d))))).0
  where
    fails : (b : Bool) → (b && false) ≡ false
    fails true = refl
    fails false = refl

-- one grant is alive at most, and where none of the postings settles the service, none
record AliveOnce (validity : ℕ) (session : List ℕ) (name : ServiceName) (postings : List Posting) : Type 0 where
  pub once : grants_alive validity session name postings ≤ 1
  pub none : list_any (replaces session name) postings ≡ false → grants_alive validity session name postings ≡ 0

neither : (a b : Bool) → (a || b) ≡ false → (a ≡ false) × (b ≡ false)
neither true b e = absurd cc
neither false b e = (refl, e)

alive_more : (validity : ℕ) (session : List ℕ) (name : ServiceName) (posting : Posting) (after : List Posting) → HoldsOnce session name posting
    → AliveOnce validity session name after → AliveOnce validity session name (posting ∷ after)
unfolding alive_here
alive_more validity session name posting after holds more = by (is_of session posting.entry) (list_any (replaces session name) after) refl refl where
  own_term : (b : Bool) → is_of session posting.entry ≡ b
      → cond (is_of session posting.entry) (alive_here validity name posting after) 0 ≡ cond b (alive_here validity name posting after) 0
  own_term b is = ap (λ (c : Bool). cond c (alive_here validity name posting after) 0) is

  no_more : (replaces session name posting || list_any (replaces session name) after) ≡ false
      → (replaces session name posting ≡ false) × (list_any (replaces session name) after ≡ false)
  no_more = neither (replaces session name posting) (list_any (replaces session name) after)

  by : (own ends : Bool) → is_of session posting.entry ≡ own → list_any (replaces session name) after ≡ ends → AliveOnce validity session name (posting ∷ after)
  by false ends is e =
      let term = own_term false is in
      record { once = let some = more.once in omega arith; none = λ no. let zero = more.none (no_more no).1 in omega arith }
  by true true is e =
      let term = own_term true is in
      let dead : alive_here validity name posting after ≡ 0 =
      no_count posting.grants (λ (hold : Hold). same_name hold.service name) (is_alive validity posting.entry name after)
      (replaced-dead validity session name posting.entry after is e) in
      record { once = let some = more.once in omega arith; none = λ no. absurd (let not_true = (no_more no).1 in cc) }
  by true false is e =
      let term = own_term true is in
      let zero = more.none e in
      let most = alive-le validity name posting after in
      record { once = let some = holds.once is in omega arith; none = λ no. let nothing = holds.ends is (no_more no).0 in omega arith }

alive_once : (validity : ℕ) (session : List ℕ) (name : ServiceName) (postings : List Posting) → AllByRecursion (HoldsOnce session name) postings
    → AliveOnce validity session name postings
alive_once validity session name [] all = record { once = omega arith; none = λ e. refl }
alive_once validity session name (posting ∷ after) all = alive_more validity session name posting after all.0 (alive_once validity session name after all.1)

all_once : (terms : Terms) (history : List Entry) (session : List ℕ) (name : ServiceName) → All HasLimits history
    → AllByRecursion (HoldsOnce session name) (postings_of terms history)
all_once terms history session name limits = postings_all (HoldsOnce session name) HasLimits terms history
    (λ before entry all within. holds_once (terms_at terms before) before session name entry within) limits

pub held-once : (terms : Terms) (history : List Entry) (session : List ℕ) (name : ServiceName) → All HasLimits history
    → grants_alive terms.validity session name (postings_of terms history) ≤ 1
held-once terms history session name limits =
    (alive_once terms.validity session name (postings_of terms history) (all_once terms history session name limits)).once
