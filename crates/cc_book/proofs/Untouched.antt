-- A request leaves alone each account but the one that it charges.
use Rattle.std.proofs.Common.{◌≡◌, ◌≢◌, ℕ, ◌+◌, Bool, true, false, cond, not, ◌&&◌, eqb, leb, List, [], ◌∷◌, ◌++◌, Option, Some, None, inl, inr, refl, subst, sym, ap, ◌∙◌, arith}
use Rattle.std.proofs.lemmas.Bool.{and_parts, and_right, eqb-true}
use Rattle.std.proofs.lemmas.Int.{ints}
use Rattle.std.specs.Prelude.{◌⊎◌, is_some, sum_by, pos}
use Rattle.std.specs.List.{fold, list_any}
use Rattle.std.specs.Option.{option_and_then}
use Rattle.dia_base.specs.declared.number.Moment.{Moment}
use Rattle.cc_view.specs.declared.code.ResultCode.{ResultCode}
use Rattle.cc_view.specs.declared.request.CcRequest.{CcRequest}
use Rattle.cc_view.specs.declared.request.RequestKind.{RequestKind}
use Rattle.cc_view.specs.declared.request.RequestKind.TheVariants.{Initial, Update, Termination, Event}
use Rattle.cc_view.specs.declared.request.ServiceName.{ServiceName}
use Rattle.cc_book.specs.declared.entry.Entry.{Entry}
use Rattle.cc_book.specs.declared.entry.Entry.TheVariants.{Take, Sweep, ChangeTerms}
use Rattle.cc_book.specs.declared.session.Hold.{Hold}
use Rattle.cc_book.specs.declared.terms.Terms.{Terms}
use Rattle.cc_book.specs.AccountMachine.{account_by, account_of, charged_account, free_to_grant, grants_by, grants_with, holds_on, opener_account, post, posting_of, postings_of, reply_after, settles_after, settles_by, terms_at, terms_of}
use Rattle.cc_book.specs.Balance.{balance_of, debit_of, reserved_of}
use Rattle.cc_book.specs.Duplicate.{same_session}
use Rattle.cc_book.specs.Posting.{Posting, is_account}
use Rattle.cc_book.specs.Reservation.{has_name, held_after, is_alive, replaces, reserved_by}
use Rattle.cc_book.specs.Session.{Opened, is_initial_kind, is_of, is_open, is_success, left_after, moment_of, next_session, opened_at, opens, session_after, session_by, session_in, session_of}
use Rattle.cc_book.proofs.Alive.{is_alive-push, is_ending, survives}
use Rattle.cc_book.proofs.Ending.{AllKeep, Covers, all_keep, closed_stays, covers_all, covers_open, own_session}
use Rattle.cc_book.proofs.Postings.{balance_of-take, postings_hold, postings_of-push}
use Rattle.cc_book.proofs.Sessions.{same_session-equal}

-- ---- a session opens where it is closed, and its grants are of its account

abbrev account_in : Option Opened → Option ℕ
account_in now = option_and_then (λ (opened : Opened). opened.account) now

record Belongs (validity : ℕ) (session : List ℕ) (now : Option Opened) (posting : Posting) : Type 0 where
  pub closed : (opens posting && is_of session posting.entry) ≡ true → is_some now ≡ false
  pub account : is_of session posting.entry ≡ true → (posting.grants ≡ []) ⊎ (account_in (next_session validity session now posting) ≡ posting.account)

closed_by : (opened known success own : Bool) (kind : RequestKind) → ((settles_by kind opened known && (is_initial_kind kind && success)) && own) ≡ true
    → opened ≡ false
closed_by false known success own kind e = refl
closed_by true known success own Initial e = absurd cc
closed_by true known success own Update e = absurd cc
closed_by true known success own Termination e = absurd cc
closed_by true known success own Event e = absurd cc

belongs_by : (validity moment : ℕ) (mine : Option ℕ) (now : Option Opened) (known own : Bool) (holds : List Hold) (kind : RequestKind) (code : ResultCode)
    → settles_by kind (is_some now) known ≡ true → own ≡ true
    → (grants_with kind code holds ≡ [])
    ⊎ (account_in (cond ((is_initial_kind kind && is_success code) && own) (Some (opened_at validity (account_by kind mine (account_in now)) moment))
    (option_and_then (λ (opened : Opened). cond own (session_by validity opened moment kind) (Some opened)) now))
    ≡ account_by kind mine (account_in now))
belongs_by validity moment mine now known own holds Initial code settles is = by (is_success code) own is where
  by : (b own : Bool) → own ≡ true
      → (cond b holds [] ≡ [])
      ⊎ (account_in (cond (b && own) (Some (opened_at validity mine moment))
      (option_and_then (λ (opened : Opened). cond own (session_by validity opened moment Initial) (Some opened)) now)) ≡ mine)
  by true true is = inr refl
  by true false is = absurd cc
  by false own is = inl refl
belongs_by validity moment mine None known own holds Update code settles is = absurd cc
belongs_by validity moment mine (Some opened) known true holds Update code settles is = inr refl
belongs_by validity moment mine (Some opened) known false holds Update code settles is = absurd cc
belongs_by validity moment mine now known own holds Termination code settles is = inl refl
belongs_by validity moment mine now known own holds Event code settles is = inl refl

-- what a request is granted is of the account that its session has then
Granted : Terms → List Posting → Moment → CcRequest → List ℕ → Type 0
Granted terms before moment request session =
    let posting = posting_of terms before (Take moment request) in
    (posting.grants ≡ []) ⊎ (account_in (next_session terms.validity session (session_of terms.validity session before) posting) ≡ posting.account)

granted-own : (terms : Terms) (before : List Posting) (moment : Moment) (request : CcRequest) → Granted terms before moment request request.session
unfolding Granted
granted-own terms before moment request = by (settles_after terms before request) refl where
  by : (b : Bool) → settles_after terms before request ≡ b
      → (grants_by terms before request b ≡ [])
      ⊎ (account_in
      (cond ((b && (is_initial_kind request.kind && is_success (reply_after terms before request).code)) && same_session request.session request.session)
      (Some (opened_at terms.validity (charged_account terms before request) moment.0))
      (option_and_then (λ (opened : Opened). cond (same_session request.session request.session) (session_by terms.validity opened moment.0 request.kind)
      (Some opened)) (session_of terms.validity request.session before)))
      ≡ charged_account terms before request)
  by true settles =
      belongs_by terms.validity moment.0 (account_of terms request.subscriptions) (session_of terms.validity request.session before)
      (is_some (account_of terms request.subscriptions))
      (same_session request.session request.session) (holds_on terms (charged_account terms before request) (free_to_grant terms before request) request.services) request.kind
      (reply_after terms before request).code settles (own_session request.session)
  by false settles = inl refl

belongs : (terms : Terms) (before : List Posting) (session : List ℕ) (entry : Entry)
    → Belongs terms.validity session (session_of terms.validity session before) (posting_of terms before entry)
unfolding Granted
belongs terms before session (Take moment request) = record {
  closed = λ own. by own;
  account = λ own. subst (Granted terms before moment request) (same_session-equal request.session session own) (granted-own terms before moment request);
} where
  is_own : (opens (posting_of terms before (Take moment request)) && same_session request.session session) ≡ true → request.session ≡ session
  is_own own = same_session-equal request.session session
      (and_parts (opens (posting_of terms before (Take moment request))) (same_session request.session session) own).1

  by : (opens (posting_of terms before (Take moment request)) && same_session request.session session) ≡ true → is_open terms.validity session before ≡ false
  by own =
      subst (λ (id : List ℕ). is_open terms.validity id before ≡ false) (is_own own)
      (closed_by (is_open terms.validity request.session before) (is_some (account_of terms request.subscriptions))
      (is_success (reply_after terms before request).code) (same_session request.session session) request.kind own)
belongs terms before session (Sweep moment) = record { closed = λ own. absurd cc; account = λ own. absurd cc }
belongs terms before session (ChangeTerms moment change) = record { closed = λ own. absurd cc; account = λ own. absurd cc }

-- postings of which each does, from a state of the session on
unfoldable AllBelong : ℕ → List ℕ → Option Opened → List Posting → Type 0
AllBelong validity session now [] = Unit {0}
AllBelong validity session now (posting ∷ after) =
    Belongs validity session now posting × AllBelong validity session (next_session validity session now posting) after

belong_push : (validity : ℕ) (session : List ℕ) (now : Option Opened) (before : List Posting) (posting : Posting) → AllBelong validity session now before
    → Belongs validity session (fold (next_session validity session) now before) posting → AllBelong validity session now (before ++ posting ∷ [])
unfolding AllBelong
belong_push validity session now [] posting all one = (one, tt)
belong_push validity session now (first ∷ before) posting all one =
    (all.0, belong_push validity session (next_session validity session now first) before posting all.1 one)

belong_next : (terms : Terms) (session : List ℕ) (before : List Posting) (entry : Entry) → AllBelong terms.validity session None before
    → AllBelong terms.validity session None (post terms before entry)
belong_next terms session before entry all =
    let now = terms_at terms before in
    belong_push terms.validity session None before (posting_of now before entry) all (belongs now before session entry)

all_belong : (terms : Terms) (session : List ℕ) (history : List Entry) → AllBelong terms.validity session None (postings_of terms history)
unfolding AllBelong
all_belong terms session history = postings_hold (AllBelong terms.validity session None) terms history (belong_next terms session) tt

-- ---- it keeps that account while it lasts

module _ (validity : ℕ) (session : List ℕ) where
  account-after : (opened : Opened) (entry : Entry) → is_some (session_after validity session opened entry) ≡ true
      → account_in (session_after validity session opened entry) ≡ opened.account
  account-after opened (Take moment request) lasts = by (same_session request.session session) request.kind lasts where
    by : (b : Bool) (kind : RequestKind) → is_some (cond b (session_by validity opened moment.0 kind) (Some opened)) ≡ true
        → account_in (cond b (session_by validity opened moment.0 kind) (Some opened)) ≡ opened.account
    by true Initial lasts = refl
    by true Update lasts = refl
    by true Termination lasts = absurd cc
    by true Event lasts = refl
    by false kind lasts = refl
  account-after opened (Sweep moment) lasts = by (leb opened.deadline moment.0) lasts where
    by : (b : Bool) → is_some (cond b None (Some opened)) ≡ true → account_in (cond b None (Some opened)) ≡ opened.account
    by true lasts = absurd cc
    by false lasts = refl
  account-after opened (ChangeTerms moment change) lasts = refl

  account-next : (left now : Option Opened) (posting : Posting) → Covers left now → Belongs validity session now posting
      → is_some (left_after validity session left posting) ≡ true
      → account_in (next_session validity session now posting) ≡ account_in now
  account-next None now posting covers belongs lasts = absurd cc
  account-next (Some one) None posting covers belongs lasts = absurd covers
  account-next (Some one) (Some other) posting covers belongs lasts = by (opens posting && is_of session posting.entry) refl where
    goes_on : is_some (next_session validity session (Some other) posting) ≡ true
    goes_on = covers_open (left_after validity session (Some one) posting) (next_session validity session (Some other) posting)
        (covers_all validity session (Some one) (Some other) (posting ∷ []) covers) lasts

    by : (b : Bool) → (opens posting && is_of session posting.entry) ≡ b → account_in (next_session validity session (Some other) posting) ≡ other.account
    by true is = absurd (let no : true ≡ false = belongs.closed is in cc)
    by false is =
        let same : next_session validity session (Some other) posting ≡ session_after validity session other posting.entry =
        ap (λ (b : Bool). cond b (Some (opened_at validity posting.account (moment_of posting.entry))) (session_after validity session other posting.entry))
        is in
        ap account_in same ∙ account-after other posting.entry (sym (ap (λ (o : Option Opened). is_some o) same) ∙ goes_on)

  account-stays : (left now : Option Opened) (after : List Posting) → Covers left now → AllBelong validity session now after
      → is_some (fold (left_after validity session) left after) ≡ true
      → account_in (fold (next_session validity session) now after) ≡ account_in now
  unfolding AllBelong
  account-stays left now [] covers all lasts = refl
  account-stays left now (posting ∷ after) covers all lasts =
      account-stays (left_after validity session left posting) (next_session validity session now posting) after
      (covers_all validity session left now (posting ∷ []) covers) all.1 lasts
      ∙ account-next left now posting covers all.0 (by (left_after validity session left posting) lasts)
    where
      by : (next : Option Opened) → is_some (fold (left_after validity session) next after) ≡ true → is_some next ≡ true
      by None lives = sym (closed_stays validity session after) ∙ lives
      by (Some opened) lives = refl

-- the session of a grant that is alive is open, on the account on which the grant was made
alive-open : (validity : ℕ) (moment : Moment) (request : CcRequest) (name : ServiceName) (now : Option Opened) (after : List Posting)
    → Covers (Some (opened_at validity None moment.0)) now
    → AllBelong validity request.session now after → is_alive validity (Take moment request) name after ≡ true
    → (is_some (fold (next_session validity request.session) now after) ≡ true)
    × (account_in (fold (next_session validity request.session) now after) ≡ account_in now)
alive-open validity moment request name now after covers all alive =
    let first : Option Opened = Some (opened_at validity None moment.0) in
    let left = fold (left_after validity request.session) first after in
    let lasts : is_some left ≡ true = (and_parts (not (list_any (replaces request.session name) after)) (is_some left) alive).1 in (
      covers_open left (fold (next_session validity request.session) now after) (covers_all validity request.session first now after covers) lasts,
      account-stays validity request.session first now after covers all lasts,
    )

-- ---- a request ends no reservation of another account

-- a request of an open session ends grants of the account alone that it charges
spared : (kind : RequestKind) (known same named : Bool) (account : ℕ) (mine opener : Option ℕ) → is_account account opener ≡ true
    → is_account account (account_by kind mine opener) ≡ false
    → (not (settles_by kind true known && (same && named)) && not (same && is_ending kind)) ≡ true
spared Initial known same named account mine opener on off = ap not (and_right same false refl)
spared Update known same named account mine opener on off = absurd (let no : true ≡ false = sym on ∙ off in cc)
spared Termination known same named account mine opener on off = absurd (let no : true ≡ false = sym on ∙ off in cc)
spared Event known same named account mine opener on off = ap not (and_right same false refl)

module _ (terms : Terms) (before : List Posting) (moment : Moment) (request : CcRequest) (account : ℕ)
    (other : is_account account (charged_account terms before request) ≡ false) where
  abbrev q : Posting
  q = posting_of terms before (Take moment request)

  -- a session, from a state on in which it is on the account, up to the request
  record Lasts (m : Moment) (r : CcRequest) (after : List Posting) : Type 0 where
    pub now : Option Opened
    pub covers : Covers (Some (opened_at terms.validity None m.0)) now
    pub belong : AllBelong terms.validity r.session now after
    pub ends : fold (next_session terms.validity r.session) now after ≡ session_of terms.validity r.session before
    pub own : is_account account (account_in now) ≡ true

  survives-it : (m : Moment) (r : CcRequest) (name : ServiceName) (after : List Posting) → Lasts m r after
      → is_alive terms.validity (Take m r) name after ≡ true
      → survives request (settles_after terms before request) r.session name ≡ true
  survives-it m r name after lasts alive = by (same_session request.session r.session) refl where
    none : (b : Bool) → (not (b && false) && true) ≡ true
    none true = refl
    none false = refl

    by : (b : Bool) → same_session request.session r.session ≡ b → survives request (settles_after terms before request) r.session name ≡ true
    by false is =
        ap (λ (b : Bool). not (settles_after terms before request && (b && list_any (has_name name) request.services)) && not (b && is_ending request.kind)) is
        ∙ none (settles_after terms before request)
    by true is =
        let same = same_session-equal request.session r.session is in
        let lives = alive-open terms.validity m r name lasts.now after lasts.covers lasts.belong alive in
        let is_on : is_open terms.validity request.session before ≡ true =
        ap (λ (id : List ℕ). is_open terms.validity id before) same ∙ sym (ap (λ (o : Option Opened). is_some o) lasts.ends) ∙ lives.0 in
        let opener : opener_account terms.validity before request.session ≡ account_in lasts.now =
        ap (λ (id : List ℕ). opener_account terms.validity before id) same ∙ sym (ap account_in lasts.ends) ∙ lives.1 in
        ap (λ (b : Bool). not (settles_by request.kind b (is_some (account_of terms request.subscriptions))
        && (same_session request.session r.session && list_any (has_name name) request.services))
        && not (same_session request.session r.session && is_ending request.kind)) is_on
        ∙ spared request.kind (is_some (account_of terms request.subscriptions)) (same_session request.session r.session)
        (list_any (has_name name) request.services) account
        (account_of terms request.subscriptions) (opener_account terms.validity before request.session) (ap (is_account account) opener ∙ lasts.own)
        other

  alive-same : (m : Moment) (r : CcRequest) (name : ServiceName) (after : List Posting) → Lasts m r after
      → is_alive terms.validity (Take m r) name (after ++ q ∷ []) ≡ is_alive terms.validity (Take m r) name after
  alive-same m r name after lasts = is_alive-push terms.validity moment request q (Take m r) name after
      ∙ by (is_alive terms.validity (Take m r) name after) refl where
        by : (b : Bool) → is_alive terms.validity (Take m r) name after ≡ b → (b && survives request (settles_after terms before request) r.session name) ≡ b
        by true alive = survives-it m r name after lasts alive
        by false alive = refl

  -- the grants of a posting of the account hold what they held
  held-same : (states : List ℕ → Option Opened) (p : Posting) (after : List Posting) → ((id : List ℕ) → AllKeep terms.validity id (states id) (p ∷ after))
      → ((id : List ℕ) → AllBelong terms.validity id (states id) (p ∷ after))
      → ((id : List ℕ) → fold (next_session terms.validity id) (states id) (p ∷ after) ≡ session_of terms.validity id before)
      → is_account account p.account ≡ true
      → held_after terms.validity p.entry p.grants (after ++ q ∷ []) ≡ held_after terms.validity p.entry p.grants after
  unfolding AllKeep AllBelong
  held-same states p after keep belong ends on = by p.entry refl where
    nothing : p.grants ≡ [] → held_after terms.validity p.entry p.grants (after ++ q ∷ []) ≡ held_after terms.validity p.entry p.grants after
    nothing none = ap (λ (holds : List Hold). held_after terms.validity p.entry holds (after ++ q ∷ [])) none
        ∙ sym (ap (λ (holds : List Hold). held_after terms.validity p.entry holds after) none)

    by : (entry : Entry) → p.entry ≡ entry → held_after terms.validity p.entry p.grants (after ++ q ∷ []) ≡ held_after terms.validity p.entry p.grants after
    by (Sweep m) is =
        ap (λ (e : Entry). held_after terms.validity e p.grants (after ++ q ∷ [])) is
        ∙ sym (ap (λ (e : Entry). held_after terms.validity e p.grants after) is)
    by (ChangeTerms m change) is =
        ap (λ (e : Entry). held_after terms.validity e p.grants (after ++ q ∷ [])) is
        ∙ sym (ap (λ (e : Entry). held_after terms.validity e p.grants after) is)
    by (Take m r) is =
        let own : is_of r.session p.entry ≡ true = ap (λ (e : Entry). is_of r.session e) is ∙ own_session r.session in
        elim ((keep r.session).0 own) as (λ _. held_after terms.validity p.entry p.grants (after ++ q ∷ [])
        ≡ held_after terms.validity p.entry p.grants after) [
          | inl none ↦ nothing none
          | inr covers ↦ elim ((belong r.session).0.account own) as (λ _. held_after terms.validity p.entry p.grants (after ++ q ∷ [])
              ≡ held_after terms.validity p.entry p.grants after) [
                | inl none ↦ nothing none
                | inr mine ↦
                    let lasts : Lasts m r after = record {
                      now = next_session terms.validity r.session (states r.session) p;
                      covers = subst (λ (e : Entry). Covers (Some (opened_at terms.validity None (moment_of e)))
                          (next_session terms.validity r.session (states r.session) p)) is covers;
                      belong = (belong r.session).1;
                      ends = ends r.session;
                      own = ap (is_account account) mine ∙ on;
                    } in
                    let alike : held_after terms.validity (Take m r) p.grants (after ++ q ∷ []) ≡ held_after terms.validity (Take m r) p.grants after =
                    λ i. sum_by (λ (grant : Hold). cond (alive-same m r grant.service after lasts i) grant.cost 0) p.grants in
                    ap (λ (e : Entry). held_after terms.validity e p.grants (after ++ q ∷ [])) is ∙ alike
                    ∙ sym (ap (λ (e : Entry). held_after terms.validity e p.grants after) is)
              ]
        ]

  reserved-same : (states : List ℕ → Option Opened) (postings : List Posting) → ((id : List ℕ) → AllKeep terms.validity id (states id) postings)
      → ((id : List ℕ) → AllBelong terms.validity id (states id) postings)
      → ((id : List ℕ) → fold (next_session terms.validity id) (states id) postings ≡ session_of terms.validity id before)
      → reserved_by terms.validity account (postings ++ q ∷ []) ≡ reserved_by terms.validity account postings
  unfolding AllKeep AllBelong
  reserved-same states [] keep belong ends = ap (λ (b : Bool). cond b (held_after terms.validity q.entry q.grants []) 0 + 0) other
  reserved-same states (p ∷ after) keep belong ends =
      let first = here (is_account account p.account) refl in
      let more = reserved-same (λ id. next_session terms.validity id (states id) p) after (λ id. (keep id).1) (λ id. (belong id).1) ends in
      omega arith
    where
      here : (b : Bool) → is_account account p.account ≡ b
          → cond b (held_after terms.validity p.entry p.grants (after ++ q ∷ [])) 0 ≡ cond b (held_after terms.validity p.entry p.grants after) 0
      here true on = held-same states p after keep belong ends on
      here false on = refl

-- ---- the laws

not_charged : (account : ℕ) (charged : Option ℕ) → charged ≢ Some account → is_account account charged ≡ false
not_charged account None differ = refl
not_charged account (Some other) differ = by (eqb account other) refl where
  by : (b : Bool) → eqb account other ≡ b → eqb account other ≡ false
  by true is = absurd (differ (ap Some (sym (eqb-true account other is))))
  by false is = is

module _ (terms : Terms) (history : List Entry) (moment : Moment) (request : CcRequest) (account : ℕ)
    (other : charged_account (terms_of terms history) (postings_of terms history) request ≢ Some account) where
  off : is_account account (charged_account (terms_of terms history) (postings_of terms history) request) ≡ false
  off = not_charged account (charged_account (terms_of terms history) (postings_of terms history) request) other

  pub balance-beside : balance_of terms (history ++ Take moment request ∷ []) account ≡ balance_of terms history account
  balance-beside =
      let moved = balance_of-take terms history moment request account in
      let none : cond (is_account account (charged_account (terms_of terms history) (postings_of terms history) request)) (debit_of terms history request) (pos 0) ≡ pos 0 =
      ap (λ (b : Bool). cond b (debit_of terms history request) (pos 0)) off in
      omega (arith, ints)

  pub reserved-beside : reserved_of terms (history ++ Take moment request ∷ []) account ≡ reserved_of terms history account
  unfolding reserved_of
  reserved-beside =
      ap (reserved_by terms.validity account) (postings_of-push terms history (Take moment request))
      ∙ reserved-same (terms_of terms history) (postings_of terms history) moment request account off (λ id. None) (postings_of terms history) (λ id. all_keep terms id history)
      (λ id. all_belong terms id history) (λ id. refl)

-- ---- an EVENT holds and ends nothing of any account

module _ (terms : Terms) (before : List Posting) (moment : Moment) (request : CcRequest) (event : request.kind ≡ Event) where
  settles-none : settles_after terms before request ≡ false
  settles-none =
      ap (λ (kind : RequestKind). settles_by kind (is_open terms.validity request.session before) (is_some (account_of terms request.subscriptions)))
      event

  event-spares : (id : List ℕ) (name : ServiceName) → survives request (settles_after terms before request) id name ≡ true
  event-spares id name =
      ap (λ (b : Bool). not (b && (same_session request.session id && list_any (has_name name) request.services))
      && not (same_session request.session id && is_ending request.kind)) settles-none
      ∙ ap (λ (kind : RequestKind). not (same_session request.session id && is_ending kind)) event
      ∙ ap not (and_right (same_session request.session id) false refl)

  and_true : (b : Bool) → (b && true) ≡ b
  and_true true = refl
  and_true false = refl

  event-alive : (entry : Entry) (name : ServiceName) (after : List Posting)
      → is_alive terms.validity entry name (after ++ posting_of terms before (Take moment request) ∷ []) ≡ is_alive terms.validity entry name after
  event-alive entry name after =
      is_alive-push terms.validity moment request (posting_of terms before (Take moment request)) entry name after
      ∙ ap (λ (b : Bool). is_alive terms.validity entry name after && b) (event-spares (session_in entry) name)
      ∙ and_true (is_alive terms.validity entry name after)

  event-same : (account : ℕ) (postings : List Posting)
      → reserved_by terms.validity account (postings ++ posting_of terms before (Take moment request) ∷ []) ≡ reserved_by terms.validity account postings
  event-same account [] =
      let none : held_after terms.validity (Take moment request) (grants_by terms before request (settles_after terms before request)) [] ≡ 0 =
      ap (λ (b : Bool). held_after terms.validity (Take moment request) (grants_by terms before request b) []) settles-none in
      ap (λ (n : ℕ). cond (is_account account (charged_account terms before request)) n 0 + 0) none
      ∙ by (is_account account (charged_account terms before request))
    where
      by : (b : Bool) → cond {A = ℕ} b 0 0 + 0 ≡ 0
      by true = refl
      by false = refl
  event-same account (p ∷ after) =
      let here : cond (is_account account p.account)
      (held_after terms.validity p.entry p.grants (after ++ posting_of terms before (Take moment request) ∷ [])) 0
      ≡ cond (is_account account p.account) (held_after terms.validity p.entry p.grants after) 0 =
      λ i. cond (is_account account p.account) (sum_by (λ (grant : Hold). cond (event-alive p.entry grant.service after i) grant.cost 0) p.grants) 0 in
      let more = event-same account after in
      omega arith

pub reserved-by_event : (terms : Terms) (history : List Entry) (moment : Moment) (request : CcRequest) (account : ℕ) → request.kind ≡ Event
    → reserved_of terms (history ++ Take moment request ∷ []) account ≡ reserved_of terms history account
unfolding reserved_of
reserved-by_event terms history moment request account event =
    ap (reserved_by terms.validity account) (postings_of-push terms history (Take moment request))
    ∙ event-same (terms_of terms history) (postings_of terms history) moment request event account (postings_of terms history)
