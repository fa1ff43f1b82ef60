-- What a request does to the open sessions: none changes, one opens, one goes on, or one ends.
use Rattle.std.proofs.Common.{◌≡◌, ℕ, suc, ◌+◌, ◌<◌, Bool, true, false, cond, ◌&&◌, List, [], ◌∷◌, ◌++◌, length, Option, Some, None, refl, sym, ap, subst, ◌∙◌, arith, slice_get, slice_set, remove, find, option_map, append-nil, All, take, drop}
use Rattle.std.proofs.lemmas.Bool.{and_right}
use Rattle.std.specs.Prelude.{ℤ, IfSome}
use Rattle.std.specs.List.{AllByRecursion}
use Rattle.std.specs.Option.{option_or}
use Rattle.std.proofs.lemmas.List.Elements.{All-append, All-drop, All-push, All-set, All-take}
use Rattle.std.proofs.lemmas.List.Sums.{fold-append}
use Rattle.dia_base.specs.declared.number.Moment.{Moment}
use Rattle.cc_view.specs.declared.request.CcRequest.{CcRequest}
use Rattle.cc_view.specs.declared.request.RequestKind.TheVariants.{Termination}
use Rattle.cc_view.specs.declared.request.ServiceName.{ServiceName}
use Rattle.cc_rating.specs.declared.tariff.Tariff.{Tariff}
use Rattle.cc_book.specs.declared.price.Price.{Price}
use Rattle.cc_book.specs.declared.session.Hold.{Hold}
use Rattle.cc_book.specs.declared.session.OpenSession.{OpenSession}
use Rattle.cc_book.specs.declared.terms.Terms.{Terms}
use Rattle.cc_book.specs.Duplicate.{same_session}
use Rattle.cc_book.specs.Posting.{Posting}
use Rattle.cc_book.specs.Session.{Opened, left_after, next_session, opened_at, opens, session_by, session_of}
use Rattle.cc_book.specs.Standing.{Stands, alive_weight, grants_weight, holds_weight, ids_weight, is_session, open_weight, opened_as, opened_session, prolonged, sessions_weight}
use Rattle.cc_book.proofs.Alive.{IsLeft, Weight, alive_weight-push, ends, going_on, grants_weight-own, holds_weight-ended, ids_weight-append, ids_weight-at, ids_weight-left, is_ending, kept, left-others, open_weight-push, sessions_weight-append, sessions_weight-at, sessions_weight-left, taken}
use Rattle.cc_book.proofs.Sessions.{IsAt, Others, OwnIds, find-at, find-behind, find-beside, find-others, others-append, own_ids-push, own_ids-remove, own_ids-set, same_session-equal, same_session-met, same_session-self, session_there}
use Rattle.cc_book.specs.Pricing.{granted_price, new_prices, next_price, price_in, price_of}
use Rattle.cc_book.proofs.Pricing.{price-none, price-on, price-opened, price-other, price-push, price_in-after}

-- the prices of sessions are those that postings have left
abbrev pub ArePrices : List Posting → List OpenSession → Type 0
ArePrices before sessions =
    (id : List ℕ) (name : ServiceName) → IfSome (find (is_session id) sessions) (λ session. price_in session.prices name ≡ price_of id name before)

-- a session that is found, or none
if_found : (P : OpenSession → Type 0) (found : Option OpenSession) (session : OpenSession) → found ≡ Some session → P session → IfSome found P
if_found P found session is holds = subst (λ (o : Option OpenSession). IfSome o P) (sym is) holds

found_if : (P : OpenSession → Type 0) (found : Option OpenSession) (session : OpenSession) → found ≡ Some session → IfSome found P → P session
found_if P found session is holds = subst (λ (o : Option OpenSession). IfSome o P) is holds

if_none : (P : OpenSession → Type 0) (found : Option OpenSession) → found ≡ None → IfSome found P
if_none P found is = subst (λ (o : Option OpenSession). IfSome o P) (sym is) tt

or_none : {X : Type 0} (found : Option X) → option_or found None ≡ found
or_none None = refl
or_none (Some x) = refl

-- what is so of a session that is found
found_so : (P Q : OpenSession → Type 0) (found : Option OpenSession) → ((session : OpenSession) → P session → Q session) → IfSome found P → IfSome found Q
found_so P Q None so holds = tt
found_so P Q (Some session) so holds = so session holds

-- what postings have left of sessions
pub record Sit (terms : Terms) (before : List Posting) (sessions : List OpenSession) : Type 0 where
  pub session : (id : List ℕ) → session_of terms.validity id before ≡ option_map (opened_as terms.validity) (find (is_session id) sessions)
  pub own_ids : OwnIds sessions
  pub known : All (λ session. session.account < length terms.accounts) sessions
  pub holds : (weight : Weight) → alive_weight weight terms.validity before ≡ sessions_weight weight sessions
  pub count : (weight : List ℕ → ℕ) → open_weight weight terms.validity before ≡ ids_weight weight sessions
  pub prices : ArePrices before sessions

module _ {terms : Terms} {before : List Posting} {balances : List ℤ} {sessions : List OpenSession} (s : Stands terms before balances sessions)
    (moment : Moment) (request : CcRequest) (posting : Posting) where
  abbrev q : Posting
  q = taken moment request posting

  abbrev found : List OpenSession → List ℕ → Option Opened
  found xs id = option_map (opened_as terms.validity) (find (is_session id) xs)

  -- ---- one more posting

  session-push : (id : List ℕ) → session_of terms.validity id (before ++ q ∷ []) ≡ next_session terms.validity id (found sessions id) q
  session-push id = fold-append (next_session terms.validity id) None before (q ∷ [])
      ∙ ap (λ (o : Option Opened). next_session terms.validity id o q) (s.session id)

  holds-push : (weight : Weight) → alive_weight weight terms.validity (before ++ q ∷ [])
      ≡ sessions_weight (kept request posting.settles weight) sessions + grants_weight weight terms.validity q [] posting.grants
  holds-push weight = alive_weight-push terms.validity moment request posting weight before
      ∙ ap (λ (n : ℕ). n + grants_weight weight terms.validity q [] posting.grants) (s.holds (kept request posting.settles weight))

  count-push : (weight : List ℕ → ℕ) → open_weight weight terms.validity (before ++ q ∷ []) ≡ ids_weight (going_on request weight) sessions + cond (opens q)
      (weight request.session) 0
  count-push weight = open_weight-push terms.validity moment request posting weight before
      ∙ ap (λ (n : ℕ). n + cond (opens q) (weight request.session) 0) (s.count (going_on request weight))

  pub no_grants : (weight : Weight) → posting.grants ≡ [] → grants_weight weight terms.validity q [] posting.grants ≡ 0
  no_grants weight none = ap (grants_weight weight terms.validity q []) none

  -- ---- a session after one more posting

  next-other : (id : List ℕ) (opened : Option Opened) → same_session request.session id ≡ false → next_session terms.validity id opened q ≡ opened
  next-other id opened other =
      ap (λ (b : Bool). cond (opens q && b) (Some (opened_at terms.validity posting.account moment.0)) (left_after terms.validity id opened q)) other
      ∙ ap (λ (b : Bool). cond b (Some (opened_at terms.validity posting.account moment.0)) (left_after terms.validity id opened q))
      (and_right (opens q) false refl)
      ∙ left opened where
        left : (o : Option Opened) → left_after terms.validity id o q ≡ o
        left None = refl
        left (Some now) = ap (λ (b : Bool). cond b (session_by terms.validity now moment.0 request.kind) (Some now)) other

  pub next-unopened : (id : List ℕ) (opened : Option Opened) → opens q ≡ false → next_session terms.validity id opened q ≡ left_after terms.validity id opened q
  next-unopened id opened none =
      ap (λ (b : Bool). cond (b && same_session request.session id) (Some (opened_at terms.validity posting.account moment.0))
      (left_after terms.validity id opened q)) none

  next-opened : (opened : Option Opened) → opens q ≡ true
      → next_session terms.validity request.session opened q ≡ Some (opened_at terms.validity posting.account moment.0)
  next-opened opened does =
      ap (λ (b : Bool). cond (b && same_session request.session request.session) (Some (opened_at terms.validity posting.account moment.0))
      (left_after terms.validity request.session opened q)) does
      ∙ ap (λ (b : Bool). cond b (Some (opened_at terms.validity posting.account moment.0)) (left_after terms.validity request.session opened q))
      (same_session-self request.session)

  next-open : (now : Opened) → opens q ≡ false → next_session terms.validity request.session (Some now) q ≡ session_by terms.validity now moment.0 request.kind
  next-open now none =
      next-unopened request.session (Some now) none
      ∙ ap (λ (b : Bool). cond b (session_by terms.validity now moment.0 request.kind) (Some now)) (same_session-self request.session)

  -- the sessions are right where that of the request is, and all others are as before
  session-by : (later : List OpenSession) → next_session terms.validity request.session (found sessions request.session) q ≡ found later request.session
      → ((id : List ℕ) → same_session request.session id ≡ false → find (is_session id) later ≡ find (is_session id) sessions)
      → (id : List ℕ) → session_of terms.validity id (before ++ q ∷ []) ≡ found later id
  session-by later own others id = session-push id ∙ by (same_session request.session id) refl where
    by : (b : Bool) → same_session request.session id ≡ b → next_session terms.validity id (found sessions id) q ≡ found later id
    by true e = subst (λ (other : List ℕ). next_session terms.validity other (found sessions other) q ≡ found later other)
        (same_session-equal request.session id e) own
    by false e = next-other id (found sessions id) e ∙ ap (option_map (opened_as terms.validity)) (sym (others id e))

  -- the prices are right where those of the request's session are, and all others are as before
  prices-by : (later : List OpenSession)
      → ((name : ServiceName) → IfSome (find (is_session request.session) later)
      (λ session. price_in session.prices name ≡ next_price request.session name (price_of request.session name before) q))
      → ((id : List ℕ) → same_session request.session id ≡ false → find (is_session id) later ≡ find (is_session id) sessions)
      → ArePrices (before ++ q ∷ []) later
  prices-by later own others id name = by (same_session request.session id) refl where
    by : (b : Bool) → same_session request.session id ≡ b
        → IfSome (find (is_session id) later) (λ session. price_in session.prices name ≡ price_of id name (before ++ q ∷ []))
    by true e =
        found_so (λ session. price_in session.prices name ≡ next_price id name (price_of id name before) q)
        (λ session. price_in session.prices name ≡ price_of id name (before ++ q ∷ [])) (find (is_session id) later)
        (λ session is. is ∙ sym (price-push id name before q))
        (subst (λ (other : List ℕ). IfSome (find (is_session other) later)
        (λ session. price_in session.prices name ≡ next_price other name (price_of other name before) q)) (same_session-equal request.session id e) (own name))
    by false e =
        found_so (λ session. price_in session.prices name ≡ price_of id name before)
        (λ session. price_in session.prices name ≡ price_of id name (before ++ q ∷ [])) (find (is_session id) later)
        (λ session is. is ∙ sym (price-push id name before q ∙ price-other id name (price_of id name before) q e))
        (subst (λ (o : Option OpenSession). IfSome o (λ session. price_in session.prices name ≡ price_of id name before)) (sym (others id e)) (s.prices id name))

  -- what is granted nothing leaves the price
  price-kept : (name : ServiceName) → opens q ≡ false → posting.grants ≡ []
      → next_price request.session name (price_of request.session name before) q ≡ price_of request.session name before
  price-kept name unopened none =
      price-on request.session name (price_of request.session name before) q (same_session-self request.session) unopened
      ∙ ap (λ (t : Option Tariff). option_or t (price_of request.session name before)) (price-none name q none)

  -- ---- no session changes

  pub sits-same : opens q ≡ false → posting.grants ≡ [] → AllByRecursion (IsLeft request posting.settles) sessions
      → next_session terms.validity request.session (found sessions request.session) q ≡ found sessions request.session
      → Sit terms (before ++ q ∷ []) sessions
  sits-same unopened none left same = record {
    session = session-by sessions same (λ id other. refl);
    own_ids = s.own_ids;
    known = s.known;
    holds = λ weight. (let push = holds-push weight in let nothing = no_grants weight none in
        let all = sessions_weight-left request posting.settles weight sessions left in omega arith);
    count = λ weight. (
        let push = count-push weight in
        let nothing : cond (opens q) (weight request.session) 0 ≡ 0 = ap (λ (b : Bool). cond b (weight request.session) 0) unopened in
        let all = ids_weight-left request posting.settles weight sessions left in omega arith);
    prices = prices-by sessions (λ name.
        found_so (λ session. price_in session.prices name ≡ price_of request.session name before)
        (λ session. price_in session.prices name ≡ next_price request.session name (price_of request.session name before) q)
        (find (is_session request.session) sessions)
        (λ session is. is ∙ sym (price-kept name unopened none)) (s.prices request.session name)) (λ id other. refl);
  }

  -- ---- a session opens

  abbrev opened : ℕ → OpenSession
  opened a = opened_session request moment posting.tariffs a posting.grants

  pub sits-opened : (a : ℕ) → opens q ≡ true → posting.account ≡ Some a → a < length terms.accounts → Others request.session sessions
      → Sit terms (before ++ q ∷ []) (sessions ++ opened a ∷ [])
  sits-opened a does charged lt others = record {
    session = session-by (sessions ++ opened a ∷ [])
        (next-opened (found sessions request.session) does
        ∙ ap (λ (o : Option ℕ). Some (opened_at terms.validity o moment.0)) charged
        ∙ ap (option_map (opened_as terms.validity)) (sym (find-behind request.session sessions (opened a) [] others (same_session-self request.session))))
        (λ id other. find-beside id sessions (opened a) [] other ∙ ap (find (is_session id)) (append-nil sessions));
    own_ids = own_ids-push sessions (opened a) s.own_ids others;
    known = All-push (λ (x : OpenSession). x.account < length terms.accounts) sessions (opened a) s.known lt;
    holds = λ weight. (
        let push = holds-push weight in
        let all = sessions_weight-left request posting.settles weight sessions (left-others request posting.settles sessions others) in
        let own = grants_weight-own terms.validity moment request posting weight a posting.grants charged in
        let parts = sessions_weight-append weight sessions (opened a ∷ []) in omega arith);
    count = λ weight. (
        let push = count-push weight in
        let one : cond (opens q) (weight request.session) 0 ≡ weight request.session = ap (λ (b : Bool). cond b (weight request.session) 0) does in
        let all = ids_weight-left request posting.settles weight sessions (left-others request posting.settles sessions others) in
        let parts = ids_weight-append weight sessions (opened a ∷ []) in omega arith);
    prices = prices-by (sessions ++ opened a ∷ []) (λ name.
        if_found (λ session. price_in session.prices name ≡ next_price request.session name (price_of request.session name before) q)
        (find (is_session request.session) (sessions ++ opened a ∷ [])) (opened a)
        (find-behind request.session sessions (opened a) [] others (same_session-self request.session))
        (price_in-after name posting.tariffs [] posting.grants ∙ or_none (price_in (new_prices posting.tariffs posting.grants) name)
        ∙ sym (price-opened request.session name (price_of request.session name before) q (same_session-self request.session) does)))
        (λ id other. find-beside id sessions (opened a) [] other ∙ ap (find (is_session id)) (append-nil sessions));
  }

  -- ---- the session of the request goes on, or ends

  module _ (place : ℕ) (session : OpenSession) (there : slice_get sessions place ≡ Some session) (at : IsAt request.session sessions place session)
      (unopened : opens q ≡ false) where
    -- the session is none of another id
    apart : (id : List ℕ) → same_session request.session id ≡ false → same_session session.id id ≡ false
    apart id other = ap (λ (own : List ℕ). same_session own id) at.own ∙ other

    beside : (id : List ℕ) → same_session request.session id ≡ false → find (is_session id) (at.front ++ at.back) ≡ find (is_session id) sessions
    beside id other = sym (ap (find (is_session id)) at.split ∙ find-beside id at.front session at.back (apart id other))

    pub next-there : next_session terms.validity request.session (found sessions request.session) q
        ≡ session_by terms.validity (opened_as terms.validity session) moment.0 request.kind
    next-there =
        ap (λ (o : Option OpenSession). next_session terms.validity request.session (option_map (opened_as terms.validity) o) q)
        (find-at request.session sessions place session at)
        ∙ next-open (opened_as terms.validity session) unopened

    none_opened : (weight : List ℕ → ℕ) → cond (opens q) (weight request.session) 0 ≡ 0
    none_opened weight = ap (λ (b : Bool). cond b (weight request.session) 0) unopened

    pub sits-going_on : (holds : List Hold) (prices : List Price) → is_ending request.kind ≡ false
        → ((now : Opened) → session_by terms.validity now moment.0 request.kind ≡ Some (opened_at terms.validity now.account moment.0))
        → ((weight : Weight) → holds_weight (kept request posting.settles weight) session.id session.account session.holds + grants_weight weight
        terms.validity q [] posting.grants ≡ holds_weight weight session.id session.account holds)
        → ((name : ServiceName) → price_in prices name ≡ option_or (granted_price q name) (price_in session.prices name))
        → Sit terms (before ++ q ∷ []) (slice_set sessions place (prolonged session moment holds prices))
    sits-going_on holds prices stays prolongs weigh priced =
        let now = prolonged session moment holds prices in
        record {
          session = session-by (slice_set sessions place now)
              (next-there ∙ prolongs (opened_as terms.validity session)
              ∙ ap (option_map (opened_as terms.validity))
              (sym (ap (find (is_session request.session)) (at.set_there now)
              ∙ find-behind request.session at.front now at.back at.before (same_session-met session.id request.session at.own))))
              (λ id other. ap (find (is_session id)) (at.set_there now) ∙ find-beside id at.front now at.back (apart id other) ∙ beside id other);
          own_ids = own_ids-set request.session sessions place session now there refl s.own_ids;
          known = All-set (λ (x : OpenSession). x.account < length terms.accounts) sessions place now
              (subst (λ (x : OpenSession). x.account < length terms.accounts) (session_there sessions place session session there).0
              (s.known place session at.within)) s.known;
          holds = λ weight. (
              let push = holds-push weight in
              let around = sessions_weight-at request posting.settles weight sessions place session at in
              let weighed = weigh weight in
              let later : sessions_weight weight (slice_set sessions place now) ≡ sessions_weight weight (at.front ++ now ∷ at.back) =
              ap (sessions_weight weight) (at.set_there now) in
              let parts = sessions_weight-append weight at.front (now ∷ at.back) in omega arith);
          count = λ weight. (
              let push = count-push weight in
              let nothing = none_opened weight in
              let around = ids_weight-at request posting.settles weight sessions place session at in
              let goes_on : going_on request weight session.id ≡ weight session.id =
              ap (λ (b : Bool). cond (same_session request.session session.id && b) 0 (weight session.id)) stays
              ∙ ap (λ (b : Bool). cond b 0 (weight session.id)) (and_right (same_session request.session session.id) false refl) in
              let later : ids_weight weight (slice_set sessions place now) ≡ ids_weight weight (at.front ++ now ∷ at.back) =
              ap (ids_weight weight) (at.set_there now) in
              let parts = ids_weight-append weight at.front (now ∷ at.back) in omega arith);
          prices = prices-by (slice_set sessions place now) (λ name.
              if_found (λ x. price_in x.prices name ≡ next_price request.session name (price_of request.session name before) q)
              (find (is_session request.session) (slice_set sessions place now)) now
              (ap (find (is_session request.session)) (at.set_there now)
              ∙ find-behind request.session at.front now at.back at.before (same_session-met session.id request.session at.own))
              (priced name
              ∙ ap (option_or (granted_price q name))
              (found_if (λ x. price_in x.prices name ≡ price_of request.session name before) (find (is_session request.session) sessions) session
              (find-at request.session sessions place session at) (s.prices request.session name))
              ∙ sym (price-on request.session name (price_of request.session name before) q (same_session-self request.session) unopened)))
              (λ id other. ap (find (is_session id)) (at.set_there now) ∙ find-beside id at.front now at.back (apart id other) ∙ beside id other);
        }

    pub sits-ended : request.kind ≡ Termination → posting.grants ≡ [] → Sit terms (before ++ q ∷ []) (remove sessions place)
    sits-ended kind none =
        let ended : ends request session.id ≡ true =
        ap (λ (b : Bool). b && is_ending request.kind) (same_session-met request.session session.id (sym at.own)) ∙ ap is_ending kind in
        record {
          session = session-by (remove sessions place)
              (next-there ∙ ap (session_by terms.validity (opened_as terms.validity session) moment.0) kind
              ∙ ap (option_map (opened_as terms.validity))
              (sym (ap (find (is_session request.session)) at.removed
              ∙ find-others request.session (at.front ++ at.back) (others-append request.session at.front at.back at.before at.behind))))
              (λ id other. ap (find (is_session id)) at.removed ∙ beside id other);
          own_ids = own_ids-remove sessions place at.within s.own_ids;
          known = let P = λ (x : OpenSession). x.account < length terms.accounts in
              All-append P (take place sessions) (drop (suc place) sessions) (All-take P place sessions s.known) (All-drop P (suc place) sessions s.known);
          holds = λ weight. (
              let push = holds-push weight in
              let nothing = no_grants weight none in
              let around = sessions_weight-at request posting.settles weight sessions place session at in
              let gone = holds_weight-ended request posting.settles weight session.id session.account session.holds ended in
              let later : sessions_weight weight (remove sessions place) ≡ sessions_weight weight (at.front ++ at.back) =
              ap (sessions_weight weight) at.removed in
              let parts = sessions_weight-append weight at.front at.back in omega arith);
          count = λ weight. (
              let push = count-push weight in
              let nothing = none_opened weight in
              let around = ids_weight-at request posting.settles weight sessions place session at in
              let gone : going_on request weight session.id ≡ 0 = ap (λ (b : Bool). cond b 0 (weight session.id)) ended in
              let later : ids_weight weight (remove sessions place) ≡ ids_weight weight (at.front ++ at.back) = ap (ids_weight weight) at.removed in
              let parts = ids_weight-append weight at.front at.back in omega arith);
          prices = prices-by (remove sessions place) (λ name.
              if_none (λ x. price_in x.prices name ≡ next_price request.session name (price_of request.session name before) q)
              (find (is_session request.session) (remove sessions place))
              (ap (find (is_session request.session)) at.removed
              ∙ find-others request.session (at.front ++ at.back) (others-append request.session at.front at.back at.before at.behind)))
              (λ id other. ap (find (is_session id)) at.removed ∙ beside id other);
        }
