-- What a sweep leaves of the grants of postings and of the sessions that they opened: what is not due.
use Rattle.std.proofs.Common.{◌≡◌, ℕ, Bool, true, false, cond, not, ◌&&◌, ◌||◌, leb, List, [], ◌∷◌, ◌++◌, Option, Some, None, is_some, inl, inr, refl, sym, ap, subst, ◌∙◌, arith}
use Rattle.std.specs.Prelude.{◌⊎◌, pos}
use Rattle.std.specs.List.{fold, list_any}
use Rattle.std.proofs.lemmas.List.Sums.{fold-append}
use Rattle.dia_base.specs.declared.number.Moment.{Moment}
use Rattle.cc_view.specs.declared.request.ServiceName.{ServiceName}
use Rattle.cc_book.specs.declared.entry.Entry.{Entry}
use Rattle.cc_book.specs.declared.entry.Entry.TheVariants.{Take, Sweep, ChangeTerms}
use Rattle.cc_book.specs.declared.session.Hold.{Hold}
use Rattle.cc_book.specs.Posting.{Posting}
use Rattle.cc_book.specs.Reservation.{is_alive, replaces}
use Rattle.cc_book.specs.Session.{Opened, is_of, left_after, moment_of, next_session, opened_at, opens, outlasts, session_in}
use Rattle.cc_book.specs.Standing.{alive_weight, grants_weight, open_weight}
use Rattle.cc_book.proofs.Alive.{Weight, any-push}
use Rattle.cc_book.proofs.Ending.{AllKeep, Covers, covers_all, own_session}

-- what a sweep does to the accounts: nothing
abbrev pub swept : Moment → Posting
swept moment = record { entry = Sweep moment; account = None; debit = pos 0; settles = false; tariffs = []; grants = []; reply = None }

-- what is open of each session
abbrev pub States : Type 0
States = List ℕ → Option Opened

-- whether a session has ended by a moment
abbrev pub due_in : Moment → Option Opened → Bool
due_in moment None = false
due_in moment (Some opened) = leb opened.deadline moment.0

-- the weight of what the sessions hold that are not due
abbrev pub lasting : Moment → States → Weight → Weight
lasting moment states weight id account hold = cond (due_in moment (states id)) 0 (weight id account hold)

-- the weight of the sessions that are not due
abbrev pub lasting_ids : Moment → States → (List ℕ → ℕ) → List ℕ → ℕ
lasting_ids moment states weight id = cond (due_in moment (states id)) 0 (weight id)

module _ (validity : ℕ) (moment : Moment) where
  abbrev q : Posting
  q = swept moment

  abbrev next : States → Posting → States
  next states posting id = next_session validity id (states id) posting

  abbrev behind : States → List Posting → States
  behind states postings id = fold (next_session validity id) (states id) postings

  abbrev pub first : Entry → Option Opened
  first entry = Some (opened_at validity None (moment_of entry))

  -- ---- a session is left unless it is due

  left_by : (opened : Opened) (b : Bool) → is_some (cond b None (Some opened)) ≡ not b
  left_by opened true = refl
  left_by opened false = refl

  left-swept : (id : List ℕ) (left now : Option Opened) → Covers left now → is_some (left_after validity id left q) ≡ (is_some left && not (due_in moment now))
  left-swept id None now covers = refl
  left-swept id (Some one) None covers = absurd covers
  left-swept id (Some one) (Some other) covers = left_by one (leb one.deadline moment.0) ∙ ap (λ (n : ℕ). not (leb n moment.0)) covers

  -- an entry leaves its session open, which lasts so long as what it opened
  abbrev Opens : Entry → Option Opened → Type 0
  Opens entry now = is_of (session_in entry) entry ≡ true → Covers (first entry) now

  abbrev due_behind : Entry → Option Opened → List Posting → Bool
  due_behind entry now after = due_in moment (fold (next_session validity (session_in entry)) now after)

  outlasts-swept : (entry : Entry) (now : Option Opened) (after : List Posting) → Opens entry now
      → outlasts validity entry (after ++ q ∷ []) ≡ (outlasts validity entry after && not (due_behind entry now after))
  outlasts-swept (Take m r) now after opened =
      let covers = covers_all validity r.session (first (Take m r)) now after (opened (own_session r.session)) in
      ap is_some (fold-append (left_after validity r.session) (first (Take m r)) after (q ∷ []))
      ∙ left-swept r.session (fold (left_after validity r.session) (first (Take m r)) after) (fold (next_session validity r.session) now after) covers
  outlasts-swept (Sweep m) now after opened = refl
  outlasts-swept (ChangeTerms m change) now after opened = refl

  alive_by : (a b c : Bool) → (not (a || false) && (b && c)) ≡ ((not a && b) && c)
  alive_by true b c = refl
  alive_by false b c = refl

  pub is_alive-swept : (entry : Entry) (now : Option Opened) (name : ServiceName) (after : List Posting) → Opens entry now
      → is_alive validity entry name (after ++ q ∷ []) ≡ (is_alive validity entry name after && not (due_behind entry now after))
  is_alive-swept (Take m r) now name after opened =
      ap (λ (b : Bool). not b && outlasts validity (Take m r) (after ++ q ∷ [])) (any-push (replaces r.session name) after q)
      ∙ ap (λ (b : Bool). not (list_any (replaces r.session name) after || false) && b) (outlasts-swept (Take m r) now after opened)
      ∙ alive_by (list_any (replaces r.session name) after) (outlasts validity (Take m r) after) (not (due_behind (Take m r) now after))
  is_alive-swept (Sweep m) now name after opened = refl
  is_alive-swept (ChangeTerms m change) now name after opened = refl

  -- ---- grants

  weight_by : (a b : Bool) (n : ℕ) → cond (a && not b) n 0 ≡ cond a (cond b 0 n) 0
  weight_by true true n = refl
  weight_by true false n = refl
  weight_by false b n = refl

  grants_weight-swept : (states : States) (weight : Weight) (p : Posting) (after : List Posting) (holds : List Hold)
      → ((name : ServiceName) → is_alive validity p.entry name (after ++ q ∷ [])
      ≡ (is_alive validity p.entry name after && not (due_in moment (states (session_in p.entry)))))
      → grants_weight weight validity p (after ++ q ∷ []) holds ≡ grants_weight (lasting moment states weight) validity p after holds
  grants_weight-swept states weight p after [] alive = refl
  grants_weight-swept states weight p after (hold ∷ holds) alive =
      let here : cond (is_alive validity p.entry hold.service (after ++ q ∷ [])) (weight (session_in p.entry) p.account hold) 0
      ≡ cond (is_alive validity p.entry hold.service after) (lasting moment states weight (session_in p.entry) p.account hold) 0 =
      ap (λ (b : Bool). cond b (weight (session_in p.entry) p.account hold) 0) (alive hold.service)
      ∙ weight_by (is_alive validity p.entry hold.service after) (due_in moment (states (session_in p.entry))) (weight (session_in p.entry) p.account hold) in
      let more = grants_weight-swept states weight p after holds alive in omega arith

  -- an entry is of its own session, or grants nothing that is alive
  owned : (entry : Entry) → (is_of (session_in entry) entry ≡ true) ⊎ ((name : ServiceName) (after : List Posting) → is_alive validity entry name after ≡ false)
  owned (Take m r) = inl (own_session r.session)
  owned (Sweep m) = inr (λ name after. refl)
  owned (ChangeTerms m change) = inr (λ name after. refl)

  grants_weight-here : (states : States) (weight : Weight) (p : Posting) (after : List Posting)
      → (is_of (session_in p.entry) p.entry ≡ true → (p.grants ≡ []) ⊎ Covers (first p.entry) (next states p (session_in p.entry)))
      → grants_weight weight validity p (after ++ q ∷ []) p.grants ≡ grants_weight (lasting moment (behind (next states p) after) weight) validity p after
      p.grants
  grants_weight-here states weight p after keeps = elim (owned p.entry) as (λ _. Same) [
    | inl own ↦ elim (keeps own) as (λ _. Same) [
      | inl none ↦ ap (grants_weight weight validity p (after ++ q ∷ [])) none
          ∙ sym (ap (grants_weight (lasting moment (behind (next states p) after) weight) validity p after) none)
      | inr covers ↦ grants_weight-swept (behind (next states p) after) weight p after p.grants
          (λ name. is_alive-swept p.entry (next states p (session_in p.entry)) name after (λ own. covers))
    ]
    | inr dead ↦ grants_weight-swept (behind (next states p) after) weight p after p.grants
        (λ name. dead name (after ++ q ∷ [])
        ∙ sym (ap (λ (b : Bool). b && not (due_in moment (behind (next states p) after (session_in p.entry)))) (dead name after)))
  ] where
    Same : Type 0
    Same = grants_weight weight validity p (after ++ q ∷ []) p.grants ≡ grants_weight (lasting moment (behind (next states p) after) weight) validity p after
        p.grants

  -- what is alive after a sweep: what of it is not due
  pub alive_weight-swept : (states : States) (weight : Weight) (before : List Posting) → ((id : List ℕ) → AllKeep validity id (states id) before)
      → alive_weight weight validity (before ++ q ∷ []) ≡ alive_weight (lasting moment (behind states before) weight) validity before
  unfolding AllKeep
  alive_weight-swept states weight [] keeps = omega arith
  alive_weight-swept states weight (p ∷ before) keeps =
      let here = grants_weight-here states weight p before (keeps (session_in p.entry)).0 in
      let more = alive_weight-swept (next states p) weight before (λ id. (keeps id).1) in omega arith

  -- ---- sessions

  -- a posting that opens a session leaves it open
  opens-covers : (states : States) (p : Posting) → opens p ≡ true → Opens p.entry (next states p (session_in p.entry))
  opens-covers states p does own =
      let id = session_in p.entry in
      let now : next states p id ≡ Some (opened_at validity p.account (moment_of p.entry)) =
      ap (λ (b : Bool). cond (b && is_of id p.entry) (Some (opened_at validity p.account (moment_of p.entry))) (left_after validity id (states id) p)) does
      ∙ ap (λ (b : Bool). cond b (Some (opened_at validity p.account (moment_of p.entry))) (left_after validity id (states id) p)) own in
      subst (Covers (first p.entry)) (sym now) refl

  open_here : (states : States) (weight : List ℕ → ℕ) (p : Posting) (after : List Posting) (b : Bool) → opens p ≡ b
      → cond (b && outlasts validity p.entry (after ++ q ∷ [])) (weight (session_in p.entry)) 0
      ≡ cond (b && outlasts validity p.entry after) (lasting_ids moment (behind (next states p) after) weight (session_in p.entry)) 0
  open_here states weight p after false does = refl
  open_here states weight p after true does =
      ap (λ (b : Bool). cond b (weight (session_in p.entry)) 0) (outlasts-swept p.entry (next states p (session_in p.entry)) after (opens-covers states p does))
      ∙ weight_by (outlasts validity p.entry after) (due_in moment (behind (next states p) after (session_in p.entry))) (weight (session_in p.entry))

  -- what is open after a sweep: what of it is not due
  pub open_weight-swept : (states : States) (weight : List ℕ → ℕ) (before : List Posting)
      → open_weight weight validity (before ++ q ∷ []) ≡ open_weight (lasting_ids moment (behind states before) weight) validity before
  open_weight-swept states weight [] = omega arith
  open_weight-swept states weight (p ∷ before) =
      let here = open_here states weight p before (opens p) refl in
      let more = open_weight-swept (next states p) weight before in omega arith
