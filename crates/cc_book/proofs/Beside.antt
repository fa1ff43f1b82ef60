-- A request leaves alone each session but its own, and an EVENT its own too.
use Rattle.std.proofs.Common.{◌≡◌, ◌≢◌, ℕ, Bool, true, false, cond, not, ◌&&◌, ◌||◌, List, [], ◌∷◌, ◌++◌, Option, Some, None, is_some, refl, subst, sym, ap, ◌∙◌, arith}
use Rattle.std.proofs.lemmas.Bool.{and_right}
use Rattle.std.specs.Prelude.{sum_by}
use Rattle.std.specs.List.{fold, list_any}
use Rattle.std.proofs.lemmas.List.Sums.{fold-append}
use Rattle.std.proofs.lemmas.Slice.Eq.{bytes_eq-Decides}
use Rattle.dia_base.specs.declared.number.Moment.{Moment}
use Rattle.cc_view.specs.declared.request.CcRequest.{CcRequest}
use Rattle.cc_view.specs.declared.request.RequestKind.{RequestKind}
use Rattle.cc_view.specs.declared.request.RequestKind.TheVariants.{Event}
use Rattle.cc_view.specs.declared.request.ServiceName.{ServiceName}
use Rattle.cc_book.specs.declared.entry.Entry.{Entry}
use Rattle.cc_book.specs.declared.entry.Entry.TheVariants.{Take, Sweep, ChangeTerms}
use Rattle.cc_book.specs.declared.session.Hold.{Hold}
use Rattle.cc_book.specs.declared.terms.Terms.{Terms}
use Rattle.cc_book.specs.AccountMachine.{account_of, grants_by, posting_of, postings_of, reply_after, settles_after, settles_by, terms_of}
use Rattle.cc_book.specs.Duplicate.{same_session}
use Rattle.cc_book.specs.Posting.{Posting}
use Rattle.cc_book.specs.Reservation.{held_by, is_alive, names, replaces, same_name}
use Rattle.cc_book.specs.Session.{Opened, is_initial_kind, is_of, is_open, is_success, left_after, moment_of, next_session, opened_at, opens, session_after, session_by, session_of}
use Rattle.cc_book.proofs.Alive.{any-push}
use Rattle.cc_book.proofs.Postings.{postings_of-push}

-- a posting that neither opens nor ends nor prolongs a session, and that changes nothing of what it holds
pub record LeavesAlone (validity : ℕ) (session : List ℕ) (q : Posting) : Type 0 where
  pub unopened : (opens q && is_of session q.entry) ≡ false
  pub goes_on : (opened : Opened) → session_after validity session opened q.entry ≡ Some opened
  pub settles_none : (name : ServiceName) → replaces session name q ≡ false
  pub grants_none : (weight : Hold → ℕ) → cond (is_of session q.entry) (sum_by weight q.grants) 0 ≡ 0

or_false : (b : Bool) → (b || false) ≡ b
or_false true = refl
or_false false = refl

module _ (validity : ℕ) (session : List ℕ) (q : Posting) (alone : LeavesAlone validity session q) where
  left-same : (now : Option Opened) → left_after validity session now q ≡ now
  left-same None = refl
  left-same (Some opened) = alone.goes_on opened

  next-same : (now : Option Opened) → next_session validity session now q ≡ now
  next-same now = ap (λ (b : Bool). cond b (Some (opened_at validity q.account (moment_of q.entry))) (left_after validity session now q)) alone.unopened
      ∙ left-same now

  session-same : (before : List Posting) → session_of validity session (before ++ q ∷ []) ≡ session_of validity session before
  session-same before = fold-append (next_session validity session) None before (q ∷ []) ∙ next-same (session_of validity session before)

  replaced-same : (name : ServiceName) (more : List Posting) → list_any (replaces session name) (more ++ q ∷ []) ≡ list_any (replaces session name) more
  replaced-same name more =
      any-push (replaces session name) more q
      ∙ ap (λ (b : Bool). list_any (replaces session name) more || b) (alone.settles_none name)
      ∙ or_false (list_any (replaces session name) more)

  lasts-same : (opened : Option Opened) (more : List Posting)
      → fold (left_after validity session) opened (more ++ q ∷ []) ≡ fold (left_after validity session) opened more
  lasts-same opened more = fold-append (left_after validity session) opened more (q ∷ []) ∙ left-same (fold (left_after validity session) opened more)

  alive-same : (name : ServiceName) (entry : Entry) (more : List Posting) → is_of session entry ≡ true
      → is_alive validity entry name (more ++ q ∷ []) ≡ is_alive validity entry name more
  alive-same name (Take m r) more own =
      let first : Option Opened = Some (opened_at validity None m.0) in
      subst (λ (id : List ℕ).
      (not (list_any (replaces id name) (more ++ q ∷ [])) && is_some (fold (left_after validity id) first (more ++ q ∷ [])))
      ≡ (not (list_any (replaces id name) more) && is_some (fold (left_after validity id) first more)))
      (sym ((bytes_eq-Decides r.session session).0 own))
      (ap (λ (b : Bool). not b && is_some (fold (left_after validity session) first (more ++ q ∷ []))) (replaced-same name more)
      ∙ ap (λ (o : Option Opened). not (list_any (replaces session name) more) && is_some o) (lasts-same first more))
  alive-same name (Sweep m) more own = absurd cc
  alive-same name (ChangeTerms m change) more own = absurd cc

  held-same : (name : ServiceName) (postings : List Posting) → held_by validity session name (postings ++ q ∷ []) ≡ held_by validity session name postings
  held-same name [] =
      let none = alone.grants_none (λ (grant : Hold). cond (same_name grant.service name && is_alive validity q.entry name []) grant.cost 0) in
      omega arith
  held-same name (p ∷ more) = let here = by (is_of session p.entry) refl in let rest = held-same name more in omega arith where
    by : (b : Bool) → is_of session p.entry ≡ b
        → cond b (sum_by (λ (grant : Hold). cond (same_name grant.service name && is_alive validity p.entry name (more ++ q ∷ [])) grant.cost 0) p.grants) 0
        ≡ cond b (sum_by (λ (grant : Hold). cond (same_name grant.service name && is_alive validity p.entry name more) grant.cost 0) p.grants) 0
    by false own = refl
    by true own = ap (λ (b : Bool). sum_by (λ (grant : Hold). cond (same_name grant.service name && b) grant.cost 0) p.grants)
        (alive-same name p.entry more own)

-- ---- a request of another session, and an EVENT

cond_same : {A : Type 0} (b : Bool) (x : A) → cond b x x ≡ x
cond_same true x = refl
cond_same false x = refl

apart : (one other : List ℕ) → one ≢ other → same_session one other ≡ false
apart one other differ = by (same_session one other) refl where
  by : (b : Bool) → same_session one other ≡ b → same_session one other ≡ false
  by true is = absurd (differ ((bytes_eq-Decides one other).0 is))
  by false is = is

module _ (terms : Terms) (before : List Posting) (moment : Moment) (request : CcRequest) where
  abbrev own : Posting
  own = posting_of terms before (Take moment request)

  other-alone : (session : List ℕ) → request.session ≢ session → LeavesAlone terms.validity session own
  other-alone session other =
      let differ = apart request.session session other in
      record {
        unopened = ap (λ (b : Bool). opens own && b) differ ∙ and_right (opens own) false refl;
        goes_on = λ opened. ap (λ (b : Bool). cond b (session_by terms.validity opened moment.0 request.kind) (Some opened)) differ;
        settles_none = λ name. ap (λ (b : Bool). own.settles && (b && names name own.entry)) differ ∙ and_right own.settles false refl;
        grants_none = λ weight. ap (λ (b : Bool). cond b (sum_by weight own.grants) 0) differ;
      }

  event-alone : (session : List ℕ) → request.kind ≡ Event → LeavesAlone terms.validity session own
  event-alone session event =
      let none : settles_after terms before request ≡ false =
      ap (λ (kind : RequestKind). settles_by kind (is_open terms.validity request.session before) (is_some (account_of terms request.subscriptions)))
      event in
      record {
        unopened = ap (λ (b : Bool). (b && (is_initial_kind request.kind && is_success (reply_after terms before request).code))
            && same_session request.session session) none;
        goes_on = λ opened.
            ap (λ (kind : RequestKind). cond (same_session request.session session) (session_by terms.validity opened moment.0 kind) (Some opened)) event
            ∙ cond_same (same_session request.session session) (Some opened);
        settles_none = λ name. ap (λ (b : Bool). b && (is_of session own.entry && names name own.entry)) none;
        grants_none = λ weight.
            ap (λ (b : Bool). cond (same_session request.session session) (sum_by weight (grants_by terms before request b)) 0) none
            ∙ cond_same (same_session request.session session) 0;
      }

-- ---- what a history is with one more request

module _ (terms : Terms) (history : List Entry) (moment : Moment) (request : CcRequest) (session : List ℕ) where
  abbrev pushed : Posting
  pushed = posting_of (terms_of terms history) (postings_of terms history) (Take moment request)

  session-after : LeavesAlone terms.validity session pushed
      → session_of terms.validity session (postings_of terms (history ++ Take moment request ∷ []))
      ≡ session_of terms.validity session (postings_of terms history)
  session-after alone = ap (session_of terms.validity session) (postings_of-push terms history (Take moment request))
      ∙ session-same terms.validity session pushed alone (postings_of terms history)

  held-after : (name : ServiceName) → LeavesAlone terms.validity session pushed
      → held_by terms.validity session name (postings_of terms (history ++ Take moment request ∷ []))
      ≡ held_by terms.validity session name (postings_of terms history)
  held-after name alone =
      ap (held_by terms.validity session name) (postings_of-push terms history (Take moment request))
      ∙ held-same terms.validity session pushed alone name (postings_of terms history)

  pub session-beside : request.session ≢ session → session_of terms.validity session (postings_of terms (history ++ Take moment request ∷ []))
      ≡ session_of terms.validity session (postings_of terms history)
  session-beside other = session-after (other-alone (terms_of terms history) (postings_of terms history) moment request session other)

  pub session-beside_event : request.kind ≡ Event → session_of terms.validity session (postings_of terms (history ++ Take moment request ∷ []))
      ≡ session_of terms.validity session (postings_of terms history)
  session-beside_event event = session-after (event-alone (terms_of terms history) (postings_of terms history) moment request session event)

  pub held-beside : (name : ServiceName) → request.session ≢ session
      → held_by terms.validity session name (postings_of terms (history ++ Take moment request ∷ []))
      ≡ held_by terms.validity session name (postings_of terms history)
  held-beside name other = held-after name (other-alone (terms_of terms history) (postings_of terms history) moment request session other)

  pub held-beside_event : (name : ServiceName) → request.kind ≡ Event
      → held_by terms.validity session name (postings_of terms (history ++ Take moment request ∷ []))
      ≡ held_by terms.validity session name (postings_of terms history)
  held-beside_event name event = held-after name (event-alone (terms_of terms history) (postings_of terms history) moment request session event)
