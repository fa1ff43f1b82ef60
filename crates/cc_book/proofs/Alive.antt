-- What is alive of the grants of postings, and which sessions are open, after one more request.
use Rattle.std.proofs.Common.{◌≡◌, ℕ, ◌+◌, Bool, true, false, cond, not, ◌&&◌, ◌||◌, List, [], ◌∷◌, ◌++◌, Option, Some, None, is_some, refl, ap, ◌∙◌, arith}
use Rattle.std.specs.List.{fold, list_any, AllByRecursion}
use Rattle.std.proofs.lemmas.List.Sums.{fold-append}
use Rattle.dia_base.specs.declared.number.Moment.{Moment}
use Rattle.cc_view.specs.declared.request.CcRequest.{CcRequest}
use Rattle.cc_view.specs.declared.request.RequestKind.{RequestKind}
use Rattle.cc_view.specs.declared.request.RequestKind.TheVariants.{Initial, Update, Termination, Event}
use Rattle.cc_view.specs.declared.request.ServiceName.{ServiceName}
use Rattle.cc_book.specs.declared.entry.Entry.{Entry}
use Rattle.cc_book.specs.declared.entry.Entry.TheVariants.{Take, Sweep, ChangeTerms}
use Rattle.cc_book.specs.declared.session.Hold.{Hold}
use Rattle.cc_book.specs.declared.session.OpenSession.{OpenSession}
use Rattle.cc_book.specs.Duplicate.{same_session}
use Rattle.cc_book.specs.Posting.{Posting}
use Rattle.cc_book.specs.Reservation.{has_name, is_alive, replaces}
use Rattle.cc_book.specs.Session.{Opened, left_after, opened_at, opens, outlasts, session_by, session_in}
use Rattle.cc_book.specs.Standing.{alive_weight, grants_weight, holds_beside, holds_weight, ids_weight, is_named, is_session, open_weight, sessions_weight}
use Rattle.cc_book.proofs.Sessions.{IsAt, Others, same_session-met, same_session-turned}

-- a weight of holds, each by its session, its account and itself
abbrev pub Weight : Type 0
Weight = List ℕ → Option ℕ → Hold → ℕ

-- a posting, made that of a request
abbrev pub taken : Moment → CcRequest → Posting → Posting
taken moment request posting = record posting { entry = Take moment request }

-- ---- what a request ends

abbrev pub is_ending : RequestKind → Bool
is_ending Termination = true
is_ending _ = false

-- whether a request ends a session
abbrev pub ends : CcRequest → List ℕ → Bool
ends request id = same_session request.session id && is_ending request.kind

-- whether a grant for a service of a session survives a request, which settles services or does not
abbrev pub survives : CcRequest → Bool → List ℕ → ServiceName → Bool
survives request settles id name = not (settles && (same_session request.session id && list_any (has_name name) request.services)) && not (ends request id)

-- the weight of what survives a request
abbrev pub kept : CcRequest → Bool → Weight → Weight
kept request settles weight id account hold = cond (survives request settles id hold.service) (weight id account hold) 0

-- the weight of the sessions that a request does not end
abbrev pub going_on : CcRequest → (List ℕ → ℕ) → List ℕ → ℕ
going_on request weight id = cond (ends request id) 0 (weight id)

-- ---- one more posting

pub any-push : {X : Type 0} (test : X → Bool) (xs : List X) (x : X) → list_any test (xs ++ x ∷ []) ≡ (list_any test xs || test x)
any-push test [] x = or_false (test x) where
  or_false : (b : Bool) → (b || false) ≡ b
  or_false true = refl
  or_false false = refl
any-push test (y ∷ xs) x = ap (λ (b : Bool). test y || b) (any-push test xs x) ∙ or_assoc (test y) (list_any test xs) (test x) where
  or_assoc : (a b c : Bool) → (a || (b || c)) ≡ ((a || b) || c)
  or_assoc true b c = refl
  or_assoc false b c = refl

module _ (validity : ℕ) (moment : Moment) (request : CcRequest) (posting : Posting) where
  abbrev q : Posting
  q = taken moment request posting

  -- a session is left unless the request ends it
  left_by : (b : Bool) (opened : Opened) (kind : RequestKind)
      → is_some (cond b (session_by validity opened moment.0 kind) (Some opened)) ≡ not (b && is_ending kind)
  left_by true opened Initial = refl
  left_by true opened Update = refl
  left_by true opened Termination = refl
  left_by true opened Event = refl
  left_by false opened kind = refl

  left-push : (id : List ℕ) (opened : Option Opened) → is_some (left_after validity id opened q) ≡ (is_some opened && not (ends request id))
  left-push id None = refl
  left-push id (Some opened) = left_by (same_session request.session id) opened request.kind

  outlasts-push : (entry : Entry) (after : List Posting)
      → outlasts validity entry (after ++ q ∷ []) ≡ (outlasts validity entry after && not (ends request (session_in entry)))
  outlasts-push (Take m r) after =
      ap is_some (fold-append (left_after validity r.session) (Some (opened_at validity None m.0)) after (q ∷ []))
      ∙ left-push r.session (fold (left_after validity r.session) (Some (opened_at validity None m.0)) after)
  outlasts-push (Sweep m) after = refl
  outlasts-push (ChangeTerms m change) after = refl

  alive_by : (a b c d : Bool) → (not (a || b) && (c && d)) ≡ ((not a && c) && (not b && d))
  alive_by true b c d = refl
  alive_by false true true d = refl
  alive_by false true false d = refl
  alive_by false false c d = refl

  pub is_alive-push : (entry : Entry) (name : ServiceName) (after : List Posting)
      → is_alive validity entry name (after ++ q ∷ []) ≡ (is_alive validity entry name after && survives request posting.settles (session_in entry) name)
  is_alive-push (Take m r) name after =
      ap (λ (b : Bool). not b && outlasts validity (Take m r) (after ++ q ∷ [])) (any-push (replaces r.session name) after q)
      ∙ ap (λ (b : Bool). not (list_any (replaces r.session name) after || replaces r.session name q) && b) (outlasts-push (Take m r) after)
      ∙ alive_by (list_any (replaces r.session name) after) (replaces r.session name q) (outlasts validity (Take m r) after) (not (ends request r.session))
  is_alive-push (Sweep m) name after = refl
  is_alive-push (ChangeTerms m change) name after = refl

  weight_by : (a b : Bool) (n : ℕ) → cond (a && b) n 0 ≡ cond a (cond b n 0) 0
  weight_by true b n = refl
  weight_by false b n = refl

  grants_weight-push : (weight : Weight) (p : Posting) (after : List Posting) (holds : List Hold)
      → grants_weight weight validity p (after ++ q ∷ []) holds ≡ grants_weight (kept request posting.settles weight) validity p after holds
  grants_weight-push weight p after [] = refl
  grants_weight-push weight p after (hold ∷ holds) =
      let here : cond (is_alive validity p.entry hold.service (after ++ q ∷ [])) (weight (session_in p.entry) p.account hold) 0
      ≡ cond (is_alive validity p.entry hold.service after) (kept request posting.settles weight (session_in p.entry) p.account hold) 0 =
      ap (λ (b : Bool). cond b (weight (session_in p.entry) p.account hold) 0) (is_alive-push p.entry hold.service after)
      ∙ weight_by (is_alive validity p.entry hold.service after) (survives request posting.settles (session_in p.entry) hold.service)
      (weight (session_in p.entry) p.account hold) in
      let more = grants_weight-push weight p after holds in omega arith

  -- what is alive after one more request: what of it survives the request, and what that is granted
  pub alive_weight-push : (weight : Weight) (before : List Posting)
      → alive_weight weight validity (before ++ q ∷ []) ≡ alive_weight (kept request posting.settles weight) validity before + grants_weight weight validity q
      [] posting.grants
  alive_weight-push weight [] = omega arith
  alive_weight-push weight (p ∷ before) =
      let here = grants_weight-push weight p before p.grants in
      let more = alive_weight-push weight before in omega arith

  open_by : (a b c : Bool) (n : ℕ) → cond (a && (b && not c)) n 0 ≡ cond (a && b) (cond c 0 n) 0
  open_by true true true n = refl
  open_by true true false n = refl
  open_by true false c n = refl
  open_by false b c n = refl

  opened_by : (a : Bool) (n : ℕ) → cond (a && true) n 0 + 0 ≡ 0 + cond a n 0
  opened_by true n = omega arith
  opened_by false n = omega arith

  -- what is open after one more request: what that does not end, and what it opens
  pub open_weight-push : (weight : List ℕ → ℕ) (before : List Posting)
      → open_weight weight validity (before ++ q ∷ []) ≡ open_weight (going_on request weight) validity before + cond (opens q) (weight request.session) 0
  open_weight-push weight [] = opened_by (opens q) (weight request.session)
  open_weight-push weight (p ∷ before) =
      let here : cond (opens p && outlasts validity p.entry (before ++ q ∷ [])) (weight (session_in p.entry)) 0
      ≡ cond (opens p && outlasts validity p.entry before) (going_on request weight (session_in p.entry)) 0 =
      ap (λ (b : Bool). cond (opens p && b) (weight (session_in p.entry)) 0) (outlasts-push p.entry before)
      ∙ open_by (opens p) (outlasts validity p.entry before) (ends request (session_in p.entry)) (weight (session_in p.entry)) in
      let more = open_weight-push weight before in omega arith

  -- what a request is granted, by its session and its account
  pub grants_weight-own : (weight : Weight) (a : ℕ) (holds : List Hold) → posting.account ≡ Some a
      → grants_weight weight validity q [] holds ≡ holds_weight weight request.session a holds
  grants_weight-own weight a [] e = refl
  grants_weight-own weight a (hold ∷ holds) e =
      let here : weight request.session posting.account hold ≡ weight request.session (Some a) hold = ap (λ (o : Option ℕ). weight request.session o hold) e in
      let more = grants_weight-own weight a holds e in omega arith

-- ---- sums over sessions

pub holds_weight-append : (weight : Weight) (id : List ℕ) (account : ℕ) (xs ys : List Hold)
    → holds_weight weight id account (xs ++ ys) ≡ holds_weight weight id account xs + holds_weight weight id account ys
holds_weight-append weight id account [] ys = omega arith
holds_weight-append weight id account (x ∷ xs) ys = let more = holds_weight-append weight id account xs ys in omega arith

pub sessions_weight-append : (weight : Weight) (xs ys : List OpenSession)
    → sessions_weight weight (xs ++ ys) ≡ sessions_weight weight xs + sessions_weight weight ys
sessions_weight-append weight [] ys = omega arith
sessions_weight-append weight (x ∷ xs) ys = let more = sessions_weight-append weight xs ys in omega arith

pub ids_weight-append : (weight : List ℕ → ℕ) (xs ys : List OpenSession) → ids_weight weight (xs ++ ys) ≡ ids_weight weight xs + ids_weight weight ys
ids_weight-append weight [] ys = omega arith
ids_weight-append weight (x ∷ xs) ys = let more = ids_weight-append weight xs ys in omega arith

-- ---- what a request leaves of the open sessions

module _ (request : CcRequest) (settles : Bool) where
  -- a session that a request leaves as it is
  pub record IsLeft (session : OpenSession) : Type 0 where
    pub all : (name : ServiceName) → survives request settles session.id name ≡ true
    pub goes_on : ends request session.id ≡ false

  left_other : (session : OpenSession) → is_session request.session session ≡ false → IsLeft session
  left_other session other =
      let apart = same_session-turned session.id request.session other in
      record {
        all = λ name. ap (λ (b : Bool). not (settles && (b && list_any (has_name name) request.services)) && not (b && is_ending request.kind)) apart
            ∙ none settles;
        goes_on = ap (λ (b : Bool). b && is_ending request.kind) apart;
      } where
        none : (b : Bool) → (not (b && false) && true) ≡ true
        none true = refl
        none false = refl

  -- sessions of other ids
  pub left-others : (sessions : List OpenSession) → Others request.session sessions → AllByRecursion IsLeft sessions
  left-others [] others = tt
  left-others (s ∷ sessions) others = (left_other s others.0, left-others sessions others.1)

  -- a request that neither settles services nor ends its session leaves all
  pub left-quiet : (sessions : List OpenSession) → settles ≡ false → is_ending request.kind ≡ false → AllByRecursion IsLeft sessions
  left-quiet [] quiet stays = tt
  left-quiet (s ∷ sessions) quiet stays = (left_quiet s, left-quiet sessions quiet stays) where
    nothing : (b : Bool) → (b && false) ≡ false
    nothing true = refl
    nothing false = refl

    left_quiet : (session : OpenSession) → IsLeft session
    left_quiet session =
        let goes_on = ap (λ (b : Bool). same_session request.session session.id && b) stays ∙ nothing (same_session request.session session.id) in
        record {
          all = λ name. ap (λ (b : Bool). not (b && (same_session request.session session.id && list_any (has_name name) request.services))
              && not (ends request session.id)) quiet ∙ ap not goes_on;
          goes_on = goes_on;
        }

  pub holds_weight-left : (weight : Weight) (session : OpenSession) (account : ℕ) (holds : List Hold) → IsLeft session
      → holds_weight (kept request settles weight) session.id account holds ≡ holds_weight weight session.id account holds
  holds_weight-left weight session account [] left = refl
  holds_weight-left weight session account (hold ∷ holds) left =
      let here : kept request settles weight session.id (Some account) hold ≡ weight session.id (Some account) hold =
      ap (λ (b : Bool). cond b (weight session.id (Some account) hold) 0) (left.all hold.service) in
      let more = holds_weight-left weight session account holds left in omega arith

  pub sessions_weight-left : (weight : Weight) (sessions : List OpenSession) → AllByRecursion IsLeft sessions
      → sessions_weight (kept request settles weight) sessions ≡ sessions_weight weight sessions
  sessions_weight-left weight [] all = refl
  sessions_weight-left weight (s ∷ sessions) all =
      let here = holds_weight-left weight s s.account s.holds all.0 in
      let more = sessions_weight-left weight sessions all.1 in omega arith

  pub ids_weight-left : (weight : List ℕ → ℕ) (sessions : List OpenSession) → AllByRecursion IsLeft sessions
      → ids_weight (going_on request weight) sessions ≡ ids_weight weight sessions
  ids_weight-left weight [] all = refl
  ids_weight-left weight (s ∷ sessions) all =
      let here : going_on request weight s.id ≡ weight s.id = ap (λ (b : Bool). cond b 0 (weight s.id)) all.0.goes_on in
      let more = ids_weight-left weight sessions all.1 in omega arith

  -- of the sessions round that of a request all is left
  pub sessions_weight-at : (weight : Weight) (sessions : List OpenSession) (place : ℕ) (s : OpenSession) (at : IsAt request.session sessions place s)
      → sessions_weight (kept request settles weight) sessions
      ≡ sessions_weight weight at.front + (holds_weight (kept request settles weight) s.id s.account s.holds + sessions_weight weight at.back)
  sessions_weight-at weight sessions place s at =
      let front = sessions_weight-left weight at.front (left-others at.front at.before) in
      let back = sessions_weight-left weight at.back (left-others at.back at.behind) in
      let all : sessions_weight (kept request settles weight) sessions ≡ sessions_weight (kept request settles weight) (at.front ++ s ∷ at.back) =
      ap (sessions_weight (kept request settles weight)) at.split in
      let parts = sessions_weight-append (kept request settles weight) at.front (s ∷ at.back) in
      omega arith

  pub ids_weight-at : (weight : List ℕ → ℕ) (sessions : List OpenSession) (place : ℕ) (s : OpenSession) (at : IsAt request.session sessions place s)
      → ids_weight (going_on request weight) sessions ≡ ids_weight weight at.front + (going_on request weight s.id + ids_weight weight at.back)
  ids_weight-at weight sessions place s at =
      let front = ids_weight-left weight at.front (left-others at.front at.before) in
      let back = ids_weight-left weight at.back (left-others at.back at.behind) in
      let all : ids_weight (going_on request weight) sessions ≡ ids_weight (going_on request weight) (at.front ++ s ∷ at.back) =
      ap (ids_weight (going_on request weight)) at.split in
      let parts = ids_weight-append (going_on request weight) at.front (s ∷ at.back) in
      omega arith

  -- a session that ends holds nothing more
  pub holds_weight-ended : (weight : Weight) (id : List ℕ) (account : ℕ) (holds : List Hold) → ends request id ≡ true
      → holds_weight (kept request settles weight) id account holds ≡ 0
  holds_weight-ended weight id account [] ended = refl
  holds_weight-ended weight id account (hold ∷ holds) ended =
      let here : kept request settles weight id (Some account) hold ≡ 0 =
      ap (λ (b : Bool). cond (not (settles && (same_session request.session id && list_any (has_name hold.service) request.services)) && not b)
      (weight id (Some account) hold) 0) ended
      ∙ nothing (not (settles && (same_session request.session id && list_any (has_name hold.service) request.services))) (weight id (Some account) hold) in
      let more = holds_weight-ended weight id account holds ended in omega arith where
        nothing : (b : Bool) (n : ℕ) → cond (b && false) n 0 ≡ 0
        nothing true n = refl
        nothing false n = refl

-- a request that settles services leaves its session what it holds for others
pub holds_weight-beside : (request : CcRequest) (weight : Weight) (id : List ℕ) (account : ℕ) (holds : List Hold) → request.session ≡ id
    → is_ending request.kind ≡ false
    → holds_weight (kept request true weight) id account holds ≡ holds_weight weight id account (holds_beside request.services holds)
holds_weight-beside request weight id account [] same stays = refl
holds_weight-beside request weight id account (hold ∷ holds) same stays =
    let met = same_session-met request.session id same in
    let left : survives request true id hold.service ≡ not (is_named request.services hold) =
    ap (λ (b : Bool). not (b && is_named request.services hold) && not (b && is_ending request.kind)) met
    ∙ ap (λ (b : Bool). not (is_named request.services hold) && not b) stays ∙ and_true (not (is_named request.services hold)) in
    by (not (is_named request.services hold)) left (holds_weight-beside request weight id account holds same stays) where
      and_true : (b : Bool) → (b && true) ≡ b
      and_true true = refl
      and_true false = refl

      by : (b : Bool) → survives request true id hold.service ≡ b
          → holds_weight (kept request true weight) id account holds ≡ holds_weight weight id account (holds_beside request.services holds)
          → holds_weight (kept request true weight) id account (hold ∷ holds)
          ≡ holds_weight weight id account (cond b (hold ∷ holds_beside request.services holds) (holds_beside request.services holds))
      by true left more = let here : kept request true weight id (Some account) hold ≡ weight id (Some account) hold =
          ap (λ (b : Bool). cond b (weight id (Some account) hold) 0) left in omega arith
      by false left more = let here : kept request true weight id (Some account) hold ≡ 0 =
          ap (λ (b : Bool). cond b (weight id (Some account) hold) 0) left in omega arith
