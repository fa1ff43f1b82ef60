-- Sessions that have ended hold nothing.
use Rattle.std.proofs.Common.{◌≡◌, ℕ, ◌<◌, Bool, true, false, cond, not, ◌&&◌, leb, List, [], ◌∷◌, ◌++◌, Option, Some, None, inl, inr, refl, subst, sym, ap, ◌∙◌, arith}
use Rattle.std.proofs.lemmas.Bool.{and_right}
use Rattle.std.specs.Prelude.{◌⊎◌, is_some, sum_by, MatchOption}
use Rattle.std.specs.List.{fold, list_any}
use Rattle.std.specs.Option.{option_and_then}
use Rattle.std.proofs.lemmas.List.Sums.{sum_by-cons}
use Rattle.std.proofs.lemmas.Slice.Eq.{bytes_eq-Decides}
use Rattle.dia_base.specs.declared.number.Moment.{Moment}
use Rattle.cc_view.specs.declared.code.ResultCode.{ResultCode}
use Rattle.cc_view.specs.declared.request.CcRequest.{CcRequest}
use Rattle.cc_view.specs.declared.request.RequestKind.{RequestKind}
use Rattle.cc_view.specs.declared.request.RequestKind.TheVariants.{Initial, Update, Termination, Event}
use Rattle.cc_view.specs.declared.request.ServiceName.{ServiceName}
use Rattle.cc_book.specs.declared.entry.Entry.{Entry}
use Rattle.cc_book.specs.declared.entry.Entry.TheVariants.{Take, Sweep, ChangeTerms}
use Rattle.cc_book.specs.declared.session.Hold.{Hold}
use Rattle.cc_book.specs.declared.terms.Terms.{Terms}
use Rattle.cc_book.specs.AccountMachine.{account_of, charged_account, free_to_grant, grants_by, grants_with, holds_on, post, posting_of, postings_of, reply_after, settles_after, settles_by, terms_at}
use Rattle.cc_book.specs.Duplicate.{same_session}
use Rattle.cc_book.specs.Balance.{open_sessions_of, reserved_of}
use Rattle.cc_book.specs.Posting.{Posting, is_account}
use Rattle.cc_book.specs.Reservation.{held_after, held_by, is_alive, replaces, reserved_by, same_name}
use Rattle.cc_book.specs.Session.{Opened, is_initial, is_initial_kind, is_of, is_open, is_success, left_after, moment_of, next_session, open_count, opened_at, opens, outlasts, replies_success, session_after, session_by, session_of}
use Rattle.cc_book.proofs.Postings.{postings_hold}

-- ---- a session lasts as long as the grants that were made in it

-- where the first is open the other is, and ends when it does
abbrev pub Covers : Option Opened → Option Opened → Type 0
Covers left now = MatchOption left (Unit {0}) (λ one. MatchOption now ⊥ (λ other. one.deadline ≡ other.deadline))

covers_sweep : (one other : Opened) (moment : ℕ) → one.deadline ≡ other.deadline
    → Covers (cond (leb one.deadline moment) None (Some one)) (cond (leb other.deadline moment) None (Some other))
covers_sweep one other moment same = by (leb one.deadline moment) (leb other.deadline moment) (ap (λ (n : ℕ). leb n moment) same) where
  by : (b c : Bool) → b ≡ c → Covers (cond b None (Some one)) (cond c None (Some other))
  by true c e = tt
  by false true e = absurd cc
  by false false e = same

covers_take : (validity moment : ℕ) (account : Option ℕ) (one other : Opened) (opened own : Bool) (kind : RequestKind) → (kind ≡ Event → opened ≡ false)
    → one.deadline ≡ other.deadline
    → Covers (cond own (session_by validity one moment kind) (Some one))
    (cond (opened && own) (Some (opened_at validity account moment)) (cond own (session_by validity other moment kind) (Some other)))
covers_take validity moment account one other true false kind closed same = same
covers_take validity moment account one other false false kind closed same = same
covers_take validity moment account one other true true Initial closed same = refl
covers_take validity moment account one other false true Initial closed same = refl
covers_take validity moment account one other true true Update closed same = refl
covers_take validity moment account one other false true Update closed same = refl
covers_take validity moment account one other opened true Termination closed same = tt
covers_take validity moment account one other true true Event closed same = absurd (let no = closed refl in cc)
covers_take validity moment account one other false true Event closed same = same

opens_none : (settles success : Bool) (kind : RequestKind) → kind ≡ Event → (settles && (is_initial_kind kind && success)) ≡ false
opens_none settles success kind event = ap (λ (k : RequestKind). settles && (is_initial_kind k && success)) event ∙ and_right settles false refl

covers_entry : (validity : ℕ) (session : List ℕ) (account : Option ℕ) (one other : Opened) (settles success : Bool) (entry : Entry)
    → one.deadline ≡ other.deadline
    → Covers (session_after validity session one entry)
    (cond ((settles && (is_initial entry && success)) && is_of session entry) (Some (opened_at validity account (moment_of entry)))
    (session_after validity session other entry))
covers_entry validity session account one other settles success (Take moment request) same =
    covers_take validity moment.0 account one other (settles && (is_initial_kind request.kind && success)) (same_session request.session session) request.kind
    (opens_none settles success request.kind) same
covers_entry validity session account one other true success (Sweep moment) same = covers_sweep one other moment.0 same
covers_entry validity session account one other false success (Sweep moment) same = covers_sweep one other moment.0 same
covers_entry validity session account one other true success (ChangeTerms moment change) same = same
covers_entry validity session account one other false success (ChangeTerms moment change) same = same

covers_next : (validity : ℕ) (session : List ℕ) (left now : Option Opened) (posting : Posting) → Covers left now
    → Covers (left_after validity session left posting) (next_session validity session now posting)
covers_next validity session None now posting covers = tt
covers_next validity session (Some one) None posting covers = absurd covers
covers_next validity session (Some one) (Some other) posting covers =
    covers_entry validity session posting.account one other posting.settles (replies_success posting.reply) posting.entry covers

pub covers_all : (validity : ℕ) (session : List ℕ) (left now : Option Opened) (after : List Posting) → Covers left now
    → Covers (fold (left_after validity session) left after) (fold (next_session validity session) now after)
covers_all validity session left now [] covers = covers
covers_all validity session left now (posting ∷ after) covers =
    covers_all validity session (left_after validity session left posting) (next_session validity session now posting) after
    (covers_next validity session left now posting covers)

covers_closed : (left now : Option Opened) → Covers left now → is_some now ≡ false → is_some left ≡ false
covers_closed None now covers closed = refl
covers_closed (Some one) None covers closed = absurd covers
covers_closed (Some one) (Some other) covers closed = closed

-- ---- who reserves has an open session

-- a posting of a session reserves nothing, or leaves the session open from its own moment on
abbrev pub KeepsOpen : ℕ → List ℕ → Option Opened → Posting → Type 0
KeepsOpen validity session now posting = (posting.grants ≡ []) ⊎ Covers (Some (opened_at validity None (moment_of posting.entry)))
    (next_session validity session now posting)

keeps_by : (validity moment : ℕ) (account : Option ℕ) (now : Option Opened) (known own : Bool) (holds : List Hold) (kind : RequestKind) (code : ResultCode)
    → settles_by kind (is_some now) known ≡ true → own ≡ true
    → (grants_with kind code holds ≡ [])
    ⊎ Covers (Some (opened_at validity None moment))
    (cond (((is_initial_kind kind && is_success code)) && own) (Some (opened_at validity account moment))
    (option_and_then (λ (opened : Opened). cond own (session_by validity opened moment kind) (Some opened)) now))
keeps_by validity moment account now known own holds Initial code settles is = by (is_success code) own is where
  by : (b own : Bool) → own ≡ true
      → (cond b holds [] ≡ [])
      ⊎ Covers (Some (opened_at validity None moment))
      (cond (b && own) (Some (opened_at validity account moment))
      (option_and_then (λ (opened : Opened). cond own (session_by validity opened moment Initial) (Some opened)) now))
  by true true is = inr refl
  by true false is = absurd cc
  by false own is = inl refl
keeps_by validity moment account None known own holds Update code settles is = absurd cc
keeps_by validity moment account (Some opened) known true holds Update code settles is = inr refl
keeps_by validity moment account (Some opened) known false holds Update code settles is = absurd cc
keeps_by validity moment account now known own holds Termination code settles is = inl refl
keeps_by validity moment account now known own holds Event code settles is = inl refl

pub own_session : (session : List ℕ) → same_session session session ≡ true
own_session session = (bytes_eq-Decides session session).1 refl

keeps_own : (terms : Terms) (before : List Posting) (moment : Moment) (request : CcRequest)
    → KeepsOpen terms.validity request.session (session_of terms.validity request.session before) (posting_of terms before (Take moment request))
keeps_own terms before moment request = by (settles_after terms before request) refl where
  by : (b : Bool) → settles_after terms before request ≡ b
      → (grants_by terms before request b ≡ [])
      ⊎ Covers (Some (opened_at terms.validity None moment.0))
      (cond ((b && (is_initial_kind request.kind && is_success (reply_after terms before request).code)) && same_session request.session request.session)
      (Some (opened_at terms.validity (charged_account terms before request) moment.0))
      (option_and_then (λ (opened : Opened). cond (same_session request.session request.session) (session_by terms.validity opened moment.0 request.kind)
      (Some opened)) (session_of terms.validity request.session before)))
  by true settles =
      keeps_by terms.validity moment.0 (charged_account terms before request) (session_of terms.validity request.session before)
      (is_some (account_of terms request.subscriptions)) (same_session request.session request.session)
      (holds_on terms (charged_account terms before request) (free_to_grant terms before request) request.services) request.kind (reply_after terms before request).code settles
      (own_session request.session)
  by false settles = inl refl

-- each posting of a session does
abbrev pub Keeps : ℕ → List ℕ → Option Opened → Posting → Type 0
Keeps validity session now posting = is_of session posting.entry ≡ true → KeepsOpen validity session now posting

keeps : (terms : Terms) (before : List Posting) (session : List ℕ) (entry : Entry)
    → Keeps terms.validity session (session_of terms.validity session before) (posting_of terms before entry)
keeps terms before session (Take moment request) own =
    subst (λ (id : List ℕ). KeepsOpen terms.validity id (session_of terms.validity id before) (posting_of terms before (Take moment request)))
    ((bytes_eq-Decides request.session session).0 own) (keeps_own terms before moment request)
keeps terms before session (Sweep moment) own = absurd cc
keeps terms before session (ChangeTerms moment change) own = absurd cc

-- postings of which each does, from a state of the session on
unfoldable pub AllKeep : ℕ → List ℕ → Option Opened → List Posting → Type 0
AllKeep validity session now [] = Unit {0}
AllKeep validity session now (posting ∷ after) = Keeps validity session now posting × AllKeep validity session (next_session validity session now posting) after

keep_push : (validity : ℕ) (session : List ℕ) (now : Option Opened) (before : List Posting) (posting : Posting) → AllKeep validity session now before
    → Keeps validity session (fold (next_session validity session) now before) posting
    → AllKeep validity session now (before ++ posting ∷ [])
unfolding AllKeep
keep_push validity session now [] posting all one = (one, tt)
keep_push validity session now (first ∷ before) posting all one =
    (all.0, keep_push validity session (next_session validity session now first) before posting all.1 one)

keep_next : (terms : Terms) (session : List ℕ) (before : List Posting) (entry : Entry) → AllKeep terms.validity session None before
    → AllKeep terms.validity session None (post terms before entry)
keep_next terms session before entry all =
    let now = terms_at terms before in
    keep_push terms.validity session None before (posting_of now before entry) all (keeps now before session entry)

pub all_keep : (terms : Terms) (session : List ℕ) (history : List Entry) → AllKeep terms.validity session None (postings_of terms history)
unfolding AllKeep
all_keep terms session history = postings_hold (AllKeep terms.validity session None) terms history (keep_next terms session) tt

-- ---- what has ended holds nothing

no_sum : (weight : Hold → ℕ) (holds : List Hold) → ((hold : Hold) → weight hold ≡ 0) → sum_by weight holds ≡ 0
no_sum weight [] none = refl
no_sum weight (hold ∷ holds) none = let here = none hold in let more = no_sum weight holds none in sum_by-cons weight hold holds ∙ omega arith

dead : (validity : ℕ) (session : List ℕ) (now : Option Opened) (entry : Entry) (name : ServiceName) (after : List Posting) → is_of session entry ≡ true
    → Covers (Some (opened_at validity None (moment_of entry))) now
    → is_some (fold (next_session validity session) now after) ≡ false → is_alive validity entry name after ≡ false
dead validity session now (Sweep moment) name after own covers closed = refl
dead validity session now (ChangeTerms moment change) name after own covers closed = refl
dead validity session now (Take moment request) name after own covers closed =
    let same = (bytes_eq-Decides request.session session).0 own in
    let first : Option Opened = Some (opened_at validity None moment.0) in
    let ended : outlasts validity (Take moment request) after ≡ false =
    ap (λ (id : List ℕ). is_some (fold (left_after validity id) (Some (opened_at validity None moment.0)) after)) same
    ∙ covers_closed (fold (left_after validity session) first after) (fold (next_session validity session) now after)
    (covers_all validity session first now after covers) closed in
    ap (λ (b : Bool). not (list_any (replaces request.session name) after) && b) ended
    ∙ and_right (not (list_any (replaces request.session name) after)) false refl

held_by-none : (validity : ℕ) (session : List ℕ) (name : ServiceName) (now : Option Opened) (postings : List Posting) → AllKeep validity session now postings
    → is_some (fold (next_session validity session) now postings) ≡ false
    → held_by validity session name postings ≡ 0
unfolding AllKeep
held_by-none validity session name now [] all closed = refl
held_by-none validity session name now (posting ∷ after) all closed =
    let first = here (is_of session posting.entry) refl in
    let more = held_by-none validity session name (next_session validity session now posting) after all.1 closed in
    omega arith
  where
    here : (b : Bool) → is_of session posting.entry ≡ b
        → cond b (sum_by (λ (hold : Hold). cond (same_name hold.service name && is_alive validity posting.entry name after) hold.cost 0) posting.grants) 0 ≡ 0
    here false own = refl
    here true own =
        elim (all.0 own) as (λ _. sum_by (λ (hold : Hold). cond (same_name hold.service name && is_alive validity posting.entry name after) hold.cost 0)
        posting.grants ≡ 0) [
          | inl none ↦ ap (sum_by (λ (hold : Hold). cond (same_name hold.service name && is_alive validity posting.entry name after) hold.cost 0)) none
          | inr covers ↦ no_sum (λ (hold : Hold). cond (same_name hold.service name && is_alive validity posting.entry name after) hold.cost 0) posting.grants
              (λ hold.
              ap (λ (b : Bool). cond (same_name hold.service name && b) hold.cost 0)
              (dead validity session (next_session validity session now posting) posting.entry name after own covers closed)
              ∙ ap (λ (b : Bool). cond b hold.cost 0) (and_right (same_name hold.service name) false refl))
        ]

pub ended-nothing : (terms : Terms) (history : List Entry) (session : List ℕ) (name : ServiceName)
    → is_open terms.validity session (postings_of terms history) ≡ false
    → held_by terms.validity session name (postings_of terms history) ≡ 0
ended-nothing terms history session name closed = held_by-none terms.validity session name None (postings_of terms history) (all_keep terms session history)
    closed

-- ---- where no session is open nothing is reserved

held_after-none : (validity : ℕ) (entry : Entry) (grants : List Hold) (after : List Posting)
    → ((hold : Hold) → is_alive validity entry hold.service after ≡ false) → held_after validity entry grants after ≡ 0
held_after-none validity entry grants after none =
    no_sum (λ (hold : Hold). cond (is_alive validity entry hold.service after) hold.cost 0) grants (λ hold. ap (λ (b : Bool). cond b hold.cost 0) (none hold))

module _ (validity : ℕ) (now : List ℕ → Option Opened) (posting : Posting) (after : List Posting) (keep : (id : List ℕ) → Keeps validity id (now id) posting)
    (closed : (id : List ℕ) → is_some (fold (next_session validity id) (next_session validity id (now id) posting) after) ≡ false) where
  closed-nothing : held_after validity posting.entry posting.grants after ≡ 0
  closed-nothing = by posting.entry refl where
    by : (entry : Entry) → posting.entry ≡ entry → held_after validity posting.entry posting.grants after ≡ 0
    by (Sweep moment) is = ap (λ (e : Entry). held_after validity e posting.grants after) is
        ∙ held_after-none validity (Sweep moment) posting.grants after (λ hold. refl)
    by (ChangeTerms moment change) is = ap (λ (e : Entry). held_after validity e posting.grants after) is
        ∙ held_after-none validity (ChangeTerms moment change) posting.grants after (λ hold. refl)
    by (Take moment request) is =
        let id = request.session in
        let own : is_of id posting.entry ≡ true = ap (λ (e : Entry). is_of id e) is ∙ own_session id in
        elim (keep id own) as (λ _. held_after validity posting.entry posting.grants after ≡ 0) [
          | inl none ↦ ap (λ (holds : List Hold). held_after validity posting.entry holds after) none
          | inr covers ↦ held_after-none validity posting.entry posting.grants after
              (λ hold. dead validity id (next_session validity id (now id) posting) posting.entry hold.service after own covers (closed id))
        ]

reserved_by-none : (validity account : ℕ) (now : List ℕ → Option Opened) (postings : List Posting) → ((id : List ℕ) → AllKeep validity id (now id) postings)
    → ((id : List ℕ) → is_some (fold (next_session validity id) (now id) postings) ≡ false) → reserved_by validity account postings ≡ 0
unfolding AllKeep
reserved_by-none validity account now [] all closed = refl
reserved_by-none validity account now (posting ∷ after) all closed =
    let first = here (is_account account posting.account) in
    let more = reserved_by-none validity account (λ id. next_session validity id (now id) posting) after (λ id. (all id).1) closed in
    omega arith
  where
    here : (b : Bool) → cond b (held_after validity posting.entry posting.grants after) 0 ≡ 0
    here true = closed-nothing validity now posting after (λ id. (all id).0) closed
    here false = refl

-- ---- a session that is open was opened by a posting after which it lasts

-- a session after postings, as far as it was open before them, and it does not matter whose account it charges
covers_left : (validity : ℕ) (session : List ℕ) (left now : Option Opened) (after : List Posting) → Covers left now
    → Covers (fold (left_after validity session) left after) (fold (left_after validity session) now after)
covers_left validity session left now [] covers = covers
covers_left validity session left now (posting ∷ after) covers =
    covers_left validity session (left_after validity session left posting) (left_after validity session now posting) after (step left now covers)
  where
    step : (left now : Option Opened) → Covers left now → Covers (left_after validity session left posting) (left_after validity session now posting)
    step None now covers = tt
    step (Some one) None covers = absurd covers
    step (Some one) (Some other) covers = covers_entry validity session None one other false false posting.entry covers

pub covers_open : (left now : Option Opened) → Covers left now → is_some left ≡ true → is_some now ≡ true
covers_open left None covers lives = sym (covers_closed left None covers refl) ∙ lives
covers_open left (Some other) covers lives = refl

pub closed_stays : (validity : ℕ) (session : List ℕ) (after : List Posting) → is_some (fold (left_after validity session) None after) ≡ false
closed_stays validity session [] = refl
closed_stays validity session (posting ∷ after) = closed_stays validity session after

-- what a posting opens is counted, where it lasts
opener-counts : (validity : ℕ) (session : List ℕ) (account : Option ℕ) (entry : Entry) (after : List Posting) → is_of session entry ≡ true
    → is_some (fold (left_after validity session) (Some (opened_at validity account (moment_of entry))) after) ≡ true → outlasts validity entry after ≡ true
opener-counts validity session account (Sweep moment) after own lasts = absurd cc
opener-counts validity session account (ChangeTerms moment change) after own lasts = absurd cc
opener-counts validity session account (Take moment request) after own lasts =
    let same = (bytes_eq-Decides request.session session).0 own in
    let first : Option Opened = Some (opened_at validity None moment.0) in
    ap (λ (id : List ℕ). is_some (fold (left_after validity id) first after)) same
    ∙ covers_open (fold (left_after validity session) (Some (opened_at validity account moment.0)) after) (fold (left_after validity session) first after)
    (covers_left validity session (Some (opened_at validity account moment.0)) first after refl) lasts

open-counted : (validity : ℕ) (session : List ℕ) (now : Option Opened) (postings : List Posting)
    → is_some (fold (next_session validity session) now postings) ≡ true
    → (is_some (fold (left_after validity session) now postings) ≡ true) ⊎ (0 < open_count validity postings)
open-counted validity session now [] lives = inl lives
open-counted validity session now (posting ∷ after) lives =
    by (opens posting) (is_of session posting.entry) refl refl (λ next on. open-counted validity session next after on) lives
  where
    more : 0 < open_count validity after → 0 < open_count validity (posting ∷ after)
    more some = omega arith

    opened : opens posting ≡ true → outlasts validity posting.entry after ≡ true → 0 < open_count validity (posting ∷ after)
    opened is lasts =
        let one : cond {A = ℕ} (opens posting && outlasts validity posting.entry after) 1 0 ≡ 1 =
        ap (λ (b : Bool). cond {A = ℕ} (b && outlasts validity posting.entry after) 1 0) is ∙ ap (λ (b : Bool). cond {A = ℕ} b 1 0) lasts in
        omega arith

    unopened : (is_some (fold (left_after validity session) (left_after validity session now posting) after) ≡ true) ⊎ (0 < open_count validity after)
        → (is_some (fold (left_after validity session) (left_after validity session now posting) after) ≡ true) ⊎ (0 < open_count validity (posting ∷ after))
    unopened (inl lasts) = inl lasts
    unopened (inr some) = inr (more some)

    opening : opens posting ≡ true → is_of session posting.entry ≡ true
        → (is_some (fold (left_after validity session) (Some (opened_at validity posting.account (moment_of posting.entry))) after) ≡ true)
        ⊎ (0 < open_count validity after)
        → (is_some (fold (left_after validity session) (left_after validity session now posting) after) ≡ true) ⊎ (0 < open_count validity (posting ∷ after))
    opening is own (inl lasts) = inr (opened is (opener-counts validity session posting.account posting.entry after own lasts))
    opening is own (inr some) = inr (more some)

    by : (b own : Bool) → opens posting ≡ b → is_of session posting.entry ≡ own
        → ((next : Option Opened) → is_some (fold (next_session validity session) next after) ≡ true
        → (is_some (fold (left_after validity session) next after) ≡ true) ⊎ (0 < open_count validity after))
        → is_some (fold (next_session validity session)
        (cond (b && own) (Some (opened_at validity posting.account (moment_of posting.entry))) (left_after validity session now posting)) after) ≡ true
        → (is_some (fold (left_after validity session) (left_after validity session now posting) after) ≡ true) ⊎ (0 < open_count validity (posting ∷ after))
    by true true is own behind lives = opening is own (behind (Some (opened_at validity posting.account (moment_of posting.entry))) lives)
    by true false is own behind lives = unopened (behind (left_after validity session now posting) lives)
    by false own is same behind lives = unopened (behind (left_after validity session now posting) lives)

-- where none is counted, none is open
none-open : (validity : ℕ) (session : List ℕ) (postings : List Posting) → open_count validity postings ≡ 0
    → is_some (fold (next_session validity session) None postings) ≡ false
none-open validity session postings none = by (is_some (fold (next_session validity session) None postings)) refl where
  by : (b : Bool) → is_some (fold (next_session validity session) None postings) ≡ b → is_some (fold (next_session validity session) None postings) ≡ false
  by false is = is
  by true is = elim (open-counted validity session None postings is) as (λ _. is_some (fold (next_session validity session) None postings) ≡ false) [
    | inl lasts ↦ absurd (let no : false ≡ true = sym (closed_stays validity session postings) ∙ lasts in cc)
    | inr some ↦ absurd (omega arith)
  ]

pub ended-all : (terms : Terms) (history : List Entry) (account : ℕ) → open_sessions_of terms history ≡ 0 → reserved_of terms history account ≡ 0
unfolding open_sessions_of reserved_of
ended-all terms history account none =
    reserved_by-none terms.validity account (λ id. None) (postings_of terms history) (λ id. all_keep terms id history)
    (λ id. none-open terms.validity id (postings_of terms history) none)
