-- What a sweep does to one session, and what the next sweep finds.
use Rattle.std.proofs.Common.{◌≡◌, ℕ, zero, suc, ◌+◌, ◌<◌, ◌≤◌, Bool, true, false, cond, not, ◌&&◌, leb, List, [], ◌∷◌, ◌++◌, length, Option, Some, None, is_some, Result, Ok, Err, inl, inr, refl, sym, ap, ◌∙◌, arith}
use Rattle.std.specs.Prelude.{sum_by}
use Rattle.std.specs.List.{fold}
use Rattle.std.specs.Option.{option_and_then}
use Rattle.std.proofs.lemmas.List.Sums.{fold-append}
use Rattle.std.proofs.lemmas.Slice.Eq.{bytes_eq-Decides}
use Rattle.dia_base.specs.declared.number.Moment.{Moment}
use Rattle.cc_view.specs.declared.request.ServiceName.{ServiceName}
use Rattle.cc_book.specs.declared.book.BookRefusal.{BookRefusal}
use Rattle.cc_book.specs.declared.book.BookRefusal.TheVariants.{Full}
use Rattle.cc_book.specs.declared.entry.Entry.{Entry}
use Rattle.cc_book.specs.declared.entry.Entry.TheVariants.{Take, Sweep, ChangeTerms}
use Rattle.cc_book.specs.declared.session.Hold.{Hold}
use Rattle.cc_book.specs.declared.terms.Terms.{Terms}
use Rattle.cc_book.specs.AccountMachine.{postings_of}
use Rattle.cc_book.specs.Balance.{open_sessions_of}
use Rattle.cc_book.specs.History.{ended_sessions}
use Rattle.cc_book.specs.Posting.{Posting}
use Rattle.cc_book.specs.Reservation.{held_by, is_alive, same_name}
use Rattle.cc_book.specs.Session.{Opened, is_of, next_session, open_count, opens, outlasts, session_in, session_of}
use Rattle.cc_book.specs.Standing.{open_weight}
use Rattle.cc_book.specs.Taking.{Ledger, after_sweep, answer_to_sweep, sweep_answer, after_sweep_with, with_sweep}
use Rattle.cc_book.proofs.Due.{States, due_in, first, is_alive-swept, lasting_ids, open_weight-swept, swept}
use Rattle.cc_book.proofs.Ending.{AllKeep, Covers, all_keep, ended-nothing}
use Rattle.cc_book.proofs.Postings.{postings_of-push}
use Rattle.cc_book.proofs.Stands.{open_count-weight}
use Rattle.cc_book.proofs.Sweeps.{left, reached, room_left}

-- ---- one session

module _ (terms : Terms) (history : List Entry) (moment : Moment) where
  abbrev before : List Posting
  before = postings_of terms history

  abbrev after : List Posting
  after = postings_of terms (history ++ Sweep moment ∷ [])

  pushed : after ≡ before ++ swept moment ∷ []
  pushed = postings_of-push terms history (Sweep moment)

  session-pushed : (session : List ℕ) → session_of terms.validity session (before ++ swept moment ∷ [])
      ≡ option_and_then (left moment) (session_of terms.validity session before)
  session-pushed session = fold-append (next_session terms.validity session) None before (swept moment ∷ [])

  session-swept : (session : List ℕ) → session_of terms.validity session after ≡ option_and_then (left moment) (session_of terms.validity session before)
  session-swept session = ap (session_of terms.validity session) pushed ∙ session-pushed session

  pub session-ended : (session : List ℕ) (opened : Opened) → session_of terms.validity session before ≡ Some opened → opened.deadline ≤ moment.0
      → session_of terms.validity session after ≡ None
  session-ended session opened is due =
      session-swept session ∙ ap (option_and_then (left moment)) is ∙ ap (λ (b : Bool). cond b None (Some opened)) (reached opened.deadline moment.0 due)

  pub session-lasts : (session : List ℕ) (opened : Opened) → session_of terms.validity session before ≡ Some opened → moment.0 < opened.deadline
      → session_of terms.validity session after ≡ Some opened
  session-lasts session opened is lasts =
      session-swept session ∙ ap (option_and_then (left moment)) is ∙ ap (λ (b : Bool). cond b None (Some opened)) (room_left opened.deadline moment.0 lasts)

  pub session-closed : (session : List ℕ) → session_of terms.validity session before ≡ None → session_of terms.validity session after ≡ None
  session-closed session none = session-swept session ∙ ap (option_and_then (left moment)) none

  -- ---- what it holds

  pub held-released : (session : List ℕ) (name : ServiceName) (opened : Opened) → session_of terms.validity session before ≡ Some opened
      → opened.deadline ≤ moment.0 → held_by terms.validity session name after ≡ 0
  held-released session name opened is due = ended-nothing terms (history ++ Sweep moment ∷ []) session name (ap is_some (session-ended session opened is due))

  and_true : (b : Bool) → (b && true) ≡ b
  and_true true = refl
  and_true false = refl

  -- a grant of a session that is not due stays alive
  alive-same : (session : List ℕ) (name : ServiceName) (entry : Entry) (now : Option Opened) (more : List Posting) → is_of session entry ≡ true
      → Covers (first terms.validity moment entry) now
      → due_in moment (fold (next_session terms.validity session) now more) ≡ false
      → is_alive terms.validity entry name (more ++ swept moment ∷ []) ≡ is_alive terms.validity entry name more
  alive-same session name (Take m r) now more own covers lasts =
      is_alive-swept terms.validity moment (Take m r) now name more (λ is. covers)
      ∙ ap (λ (b : Bool). is_alive terms.validity (Take m r) name more && not b)
      (ap (λ (id : List ℕ). due_in moment (fold (next_session terms.validity id) now more)) ((bytes_eq-Decides r.session session).0 own) ∙ lasts)
      ∙ and_true (is_alive terms.validity (Take m r) name more)
  alive-same session name (Sweep m) now more own covers lasts = absurd cc
  alive-same session name (ChangeTerms m change) now more own covers lasts = absurd cc

  held_by-same : (session : List ℕ) (name : ServiceName) (now : Option Opened) (postings : List Posting) → AllKeep terms.validity session now postings
      → due_in moment (fold (next_session terms.validity session) now postings) ≡ false
      → held_by terms.validity session name (postings ++ swept moment ∷ []) ≡ held_by terms.validity session name postings
  unfolding AllKeep
  held_by-same session name now [] all lasts = omega arith
  held_by-same session name now (p ∷ more) all lasts =
      let here = by (is_of session p.entry) refl in
      let rest = held_by-same session name (next_session terms.validity session now p) more all.1 lasts in omega arith
    where
      by : (b : Bool) → is_of session p.entry ≡ b
          → cond b (sum_by (λ (grant : Hold). cond (same_name grant.service name && is_alive terms.validity p.entry name (more ++ swept moment ∷ []))
          grant.cost 0) p.grants) 0
          ≡ cond b (sum_by (λ (grant : Hold). cond (same_name grant.service name && is_alive terms.validity p.entry name more) grant.cost 0) p.grants) 0
      by false own = refl
      by true own = elim (all.0 own) as (λ _.
          sum_by (λ (grant : Hold). cond (same_name grant.service name && is_alive terms.validity p.entry name (more ++ swept moment ∷ [])) grant.cost 0)
          p.grants
          ≡ sum_by (λ (grant : Hold). cond (same_name grant.service name && is_alive terms.validity p.entry name more) grant.cost 0) p.grants) [
            | inl none ↦ let grants : p.grants ≡ [] = none in
                ap (sum_by (λ (grant : Hold). cond (same_name grant.service name && is_alive terms.validity p.entry name (more ++ swept moment ∷ []))
                grant.cost 0)) grants
                ∙ sym (ap (sum_by (λ (grant : Hold). cond (same_name grant.service name && is_alive terms.validity p.entry name more) grant.cost 0)) grants)
            | inr covers ↦ ap (λ (b : Bool). sum_by (λ (grant : Hold). cond (same_name grant.service name && b) grant.cost 0) p.grants)
                (alive-same session name p.entry (next_session terms.validity session now p) more own covers lasts)
          ]

  pub held-stays : (session : List ℕ) (name : ServiceName) (opened : Opened) → session_of terms.validity session before ≡ Some opened
      → moment.0 < opened.deadline
      → held_by terms.validity session name after ≡ held_by terms.validity session name before
  held-stays session name opened is lasts =
      ap (held_by terms.validity session name) pushed
      ∙ held_by-same session name None before (all_keep terms session history) (ap (due_in moment) is ∙ room_left opened.deadline moment.0 lasts)

  -- ---- how many sessions are open

  abbrev states : States
  states session = session_of terms.validity session before

  open-swept : (weight : List ℕ → ℕ) → open_weight weight terms.validity (before ++ swept moment ∷ [])
      ≡ open_weight (lasting_ids moment states weight) terms.validity before
  open-swept weight = open_weight-swept terms.validity moment (λ id. None) weight before

  -- what is not due is not due after the sweep either
  lasting_by : (now : Option Opened) (n : ℕ) → cond (due_in moment now) 0 (cond (due_in moment (option_and_then (left moment) now)) 0 n)
      ≡ cond (due_in moment now) 0 n
  lasting_by None n = refl
  lasting_by (Some now) n = by (leb now.deadline moment.0) refl where
    by : (b : Bool) → leb now.deadline moment.0 ≡ b → cond b 0 (cond (due_in moment (cond b None (Some now))) 0 n) ≡ cond b 0 n
    by true e = refl
    by false e = ap (λ (c : Bool). cond c 0 n) e

  lasting-again : (session : List ℕ)
      → lasting_ids moment states (lasting_ids moment (λ id. session_of terms.validity id (before ++ swept moment ∷ [])) (λ id. 1)) session
      ≡ lasting_ids moment states (λ id. 1) session
  lasting-again session =
      ap (λ (o : Option Opened). cond (due_in moment (states session)) 0 (cond (due_in moment o) 0 1)) (session-pushed session) ∙ lasting_by (states session) 1

  -- a second sweep finds as many open as the first left
  open-again : open_weight (λ id. 1) terms.validity ((before ++ swept moment ∷ []) ++ swept moment ∷ [])
      ≡ open_weight (λ id. 1) terms.validity (before ++ swept moment ∷ [])
  open-again =
      open_weight-swept terms.validity moment (λ id. None) (λ id. 1) (before ++ swept moment ∷ [])
      ∙ open-swept (lasting_ids moment (λ id. session_of terms.validity id (before ++ swept moment ∷ [])) (λ id. 1))
      ∙ ap (λ (weight : List ℕ → ℕ). open_weight weight terms.validity before) (λ i id. lasting-again id i)
      ∙ sym (open-swept (λ id. 1))

  pub none-again : ended_sessions terms (history ++ Sweep moment ∷ []) moment ≡ 0
  unfolding open_sessions_of
  none-again =
      let again : postings_of terms ((history ++ Sweep moment ∷ []) ++ Sweep moment ∷ []) ≡ (before ++ swept moment ∷ []) ++ swept moment ∷ [] =
      postings_of-push terms (history ++ Sweep moment ∷ []) (Sweep moment) ∙ ap (λ (ps : List Posting). ps ++ swept moment ∷ []) pushed in
      let first : open_count terms.validity after ≡ open_weight (λ id. 1) terms.validity (before ++ swept moment ∷ []) = ap (open_count terms.validity) pushed
      ∙ open_count-weight terms.validity (before ++ swept moment ∷ []) in
      let second : open_count terms.validity (postings_of terms ((history ++ Sweep moment ∷ []) ++ Sweep moment ∷ []))
      ≡ open_weight (λ id. 1) terms.validity ((before ++ swept moment ∷ []) ++ swept moment ∷ []) =
      ap (open_count terms.validity) again ∙ open_count-weight terms.validity ((before ++ swept moment ∷ []) ++ swept moment ∷ []) in
      omega (arith, open-again)

  fewer_by : (a b : Bool) → cond a (cond b 0 1) 0 ≤ cond a 1 0
  fewer_by true true = omega arith
  fewer_by true false = omega arith
  fewer_by false b = omega arith

  open-fewer : (postings : List Posting) → open_weight (lasting_ids moment states (λ id. 1)) terms.validity postings ≤ open_count terms.validity postings
  open-fewer [] = omega arith
  open-fewer (p ∷ more) = let here = fewer_by (opens p && outlasts terms.validity p.entry more) (due_in moment (states (session_in p.entry))) in
      let rest = open-fewer more in omega arith

  pub ended-counted : open_sessions_of terms (history ++ Sweep moment ∷ []) + ended_sessions terms history moment ≡ open_sessions_of terms history
  unfolding open_sessions_of
  ended-counted =
      let later : open_count terms.validity after ≡ open_weight (λ id. 1) terms.validity (before ++ swept moment ∷ []) = ap (open_count terms.validity) pushed
      ∙ open_count-weight terms.validity (before ++ swept moment ∷ []) in
      let fewer = open-fewer before in
      omega (arith, open-swept (λ id. 1))

-- ---- a sweep after a sweep

again : (ledger : Ledger) (moment : Moment) (ended n : ℕ) → ended_sessions ledger.terms ledger.history moment ≡ n → answer_to_sweep ledger n ≡ Ok ended
    → sweep_answer (after_sweep_with ledger moment (answer_to_sweep ledger n)) moment ≡ Ok 0
again ledger moment ended zero e answered = ap (answer_to_sweep ledger) e
again ledger moment ended (suc n) e answered = by (leb ledger.limit (length ledger.history)) answered where
  by : (full : Bool) → cond {A = Result ℕ BookRefusal} full (Err (Full ledger.limit)) (Ok (suc n)) ≡ Ok ended
      → sweep_answer (after_sweep_with ledger moment (cond full (Err (Full ledger.limit)) (Ok (suc n)))) moment ≡ Ok 0
  by true answered = absurd cc
  by false answered = ap (answer_to_sweep (with_sweep ledger moment)) (none-again ledger.terms ledger.history moment)

pub sweep-again : (ledger : Ledger) (moment : Moment) (ended : ℕ) → sweep_answer ledger moment ≡ Ok ended
    → sweep_answer (after_sweep ledger moment) moment ≡ Ok 0
sweep-again ledger moment ended answered = again ledger moment ended (ended_sessions ledger.terms ledger.history moment) refl answered
