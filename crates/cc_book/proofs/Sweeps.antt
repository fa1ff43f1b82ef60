-- What stands after a sweep, and what a book answers to it.
use Rattle.std.proofs.Common.{◌≡◌, ◌≢◌, ℕ, zero, suc, ◌<◌, ◌≤◌, Bool, true, false, cond, not, leb, List, [], ◌∷◌, ◌++◌, length, Option, Some, None, Result, Ok, Err, inl, inr, refl, sym, ap, subst, ◌∙◌, arith, rules, find, option_map, length-append, get_or}
use Rattle.std.specs.Prelude.{ℤ, IfSome, count_by}
use Rattle.std.specs.List.{AllByRecursion}
use Rattle.std.specs.Option.{option_and_then}
use Rattle.std.proofs.lemmas.Bool.{cases_lt}
use Rattle.std.proofs.lemmas.Int.{ints}
use Rattle.std.proofs.lemmas.List.Elements.{All-filter, recursion_from_All}
use Rattle.std.proofs.lemmas.List.Filters.{length-filter_both}
use Rattle.std.proofs.lemmas.List.Kept.{AllPairs-filter}
use Rattle.std.proofs.lemmas.List.Sums.{fold-append, length-filter}
use Rattle.std.proofs.lemmas.Option.{slice_get-get_or}
use Rattle.dia_base.specs.declared.number.Moment.{Moment}
use Rattle.cc_view.specs.declared.reply.CcReply.{CcReply}
use Rattle.cc_book.specs.declared.book.BookRefusal.{BookRefusal}
use Rattle.cc_book.specs.declared.book.BookRefusal.TheVariants.{Full}
use Rattle.cc_book.specs.declared.entry.Entry.{Entry}
use Rattle.cc_book.specs.declared.entry.Entry.TheVariants.{Sweep}
use Rattle.cc_book.specs.declared.session.Hold.{Hold}
use Rattle.cc_book.specs.declared.session.OpenSession.{OpenSession}
use Rattle.cc_book.specs.declared.terms.Terms.{Terms}
use Rattle.cc_book.specs.AccountMachine.{postings_of, terms_of}
use Rattle.cc_book.specs.Balance.{open_sessions_of}
use Rattle.cc_book.specs.Bounds.{MovesLittle}
use Rattle.cc_book.specs.History.{ended_sessions}
use Rattle.cc_book.specs.Posting.{Posting}
use Rattle.cc_book.specs.Session.{Opened, next_session, open_count, session_of}
use Rattle.cc_book.specs.Standing.{Stands, holds_weight, ids_weight, is_due, is_session, opened_as, reserved_in, sessions_after, sessions_weight, without_due}
use Rattle.cc_book.specs.Taking.{IsBook, Ledger, answer_to_sweep, sweep_answer}
use Rattle.cc_book.proofs.Alive.{Weight}
use Rattle.cc_book.proofs.Books.{open_sessions_of-is, opens-push, replies-push, sessions_after-push, stands-push}
use Rattle.cc_book.proofs.Due.{States, alive_weight-swept, due_in, lasting, lasting_ids, open_weight-swept, swept}
use Rattle.cc_book.proofs.Ending.{all_keep}
use Rattle.cc_book.proofs.Keys.{IsLegal-sweep}
use Rattle.cc_book.proofs.Postings.{all_push, debits_to-push, postings_of-push}
use Rattle.cc_book.proofs.Sessions.{Others, OwnIds, find-at, find-others, is_at, others_after, same_session-equal}
use Rattle.cc_book.proofs.Shuffling.{due-shuffled, not_due, reserved-shuffled, stands-shuffled}
use Rattle.std.proofs.lemmas.List.Sorted.{length_permutation}
use Rattle.cc_book.proofs.Stands.{open_count-stands}
use Rattle.cc_book.specs.Pricing.{price_in, price_of}
use Rattle.cc_book.proofs.Pricing.{price-push}
use Rattle.cc_rating.specs.declared.tariff.Tariff.{Tariff}

-- an open session after a sweep
abbrev pub left : Moment → Opened → Option Opened
left moment now = cond (leb now.deadline moment.0) None (Some now)

-- ---- the sessions that are not due

module _ (validity : ℕ) (moment : Moment) where
  abbrev due : OpenSession → Bool
  due = is_due validity moment

  abbrev kept : List OpenSession → List OpenSession
  kept = not_due validity moment

  -- whether an open session is due is what the definition of sessions says
  abbrev IsRight : States → OpenSession → Type 0
  IsRight states session = due_in moment (states session.id) ≡ due session

  holds_weight-kept : (states : States) (weight : Weight) (id : List ℕ) (account : ℕ) (holds : List Hold) (b : Bool) → due_in moment (states id) ≡ b
      → holds_weight (lasting moment states weight) id account holds ≡ cond b 0 (holds_weight weight id account holds)
  holds_weight-kept states weight id account [] true e = refl
  holds_weight-kept states weight id account [] false e = refl
  holds_weight-kept states weight id account (hold ∷ holds) true e =
      let here : lasting moment states weight id (Some account) hold ≡ 0 = ap (λ (b : Bool). cond b 0 (weight id (Some account) hold)) e in
      let more = holds_weight-kept states weight id account holds true e in omega arith
  holds_weight-kept states weight id account (hold ∷ holds) false e =
      let here : lasting moment states weight id (Some account) hold ≡ weight id (Some account) hold =
      ap (λ (b : Bool). cond b 0 (weight id (Some account) hold)) e in
      let more = holds_weight-kept states weight id account holds false e in omega arith

  sessions_weight-kept : (states : States) (weight : Weight) (sessions : List OpenSession) → AllByRecursion (IsRight states) sessions
      → sessions_weight (lasting moment states weight) sessions ≡ sessions_weight weight (kept sessions)
  sessions_weight-kept states weight [] all = refl
  sessions_weight-kept states weight (s ∷ sessions) all = by (due s) all.0 (sessions_weight-kept states weight sessions all.1) where
    by : (b : Bool) → due_in moment (states s.id) ≡ b → sessions_weight (lasting moment states weight) sessions ≡ sessions_weight weight (kept sessions)
        → sessions_weight (lasting moment states weight) (s ∷ sessions) ≡ sessions_weight weight (cond (not b) (s ∷ kept sessions) (kept sessions))
    by true e more = let here = holds_weight-kept states weight s.id s.account s.holds true e in omega arith
    by false e more = let here = holds_weight-kept states weight s.id s.account s.holds false e in omega arith

  ids_weight-kept : (states : States) (weight : List ℕ → ℕ) (sessions : List OpenSession) → AllByRecursion (IsRight states) sessions
      → ids_weight (lasting_ids moment states weight) sessions ≡ ids_weight weight (kept sessions)
  ids_weight-kept states weight [] all = refl
  ids_weight-kept states weight (s ∷ sessions) all = by (due s) all.0 (ids_weight-kept states weight sessions all.1) where
    by : (b : Bool) → due_in moment (states s.id) ≡ b → ids_weight (lasting_ids moment states weight) sessions ≡ ids_weight weight (kept sessions)
        → ids_weight (lasting_ids moment states weight) (s ∷ sessions) ≡ ids_weight weight (cond (not b) (s ∷ kept sessions) (kept sessions))
    by true e more = let here : lasting_ids moment states weight s.id ≡ 0 = ap (λ (b : Bool). cond b 0 (weight s.id)) e in omega arith
    by false e more = let here : lasting_ids moment states weight s.id ≡ weight s.id = ap (λ (b : Bool). cond b 0 (weight s.id)) e in omega arith

  -- what they hold of an account is no more than before
  pub reserved_in-kept : (account : ℕ) (sessions : List OpenSession) → reserved_in account (kept sessions) ≤ reserved_in account sessions
  reserved_in-kept account [] = omega arith
  reserved_in-kept account (s ∷ sessions) = by (due s) (reserved_in-kept account sessions) where
    by : (b : Bool) → reserved_in account (kept sessions) ≤ reserved_in account sessions
        → reserved_in account (cond (not b) (s ∷ kept sessions) (kept sessions)) ≤ reserved_in account (s ∷ sessions)
    by true more = omega arith
    by false more = omega arith

  -- ---- the session with an id

  abbrev opened : Option OpenSession → Option Opened
  opened = option_map (opened_as validity)

  others-kept : (id : List ℕ) (sessions : List OpenSession) → Others id sessions → Others id (kept sessions)
  others-kept id [] others = tt
  others-kept id (s ∷ sessions) others = by (due s) (others-kept id sessions others.1) where
    by : (b : Bool) → Others id (kept sessions) → Others id (cond (not b) (s ∷ kept sessions) (kept sessions))
    by true more = more
    by false more = (others.0, more)

  find-kept : (id : List ℕ) (sessions : List OpenSession) → OwnIds sessions
      → option_and_then (left moment) (opened (find (is_session id) sessions)) ≡ opened (find (is_session id) (kept sessions))
  find-kept id [] own = refl
  find-kept id (s ∷ sessions) own = by (is_session id s) (due s) refl refl
      (find-kept id sessions (λ i j d lt below. own (suc i) (suc j) d (omega arith) (omega arith))) where
        After : Bool → Bool → Type 0
        After is b =
            option_and_then (left moment) (opened (cond is (Some s) (find (is_session id) sessions)))
            ≡ opened (find (is_session id) (cond (not b) (s ∷ kept sessions) (kept sessions)))

        by : (is b : Bool) → is_session id s ≡ is → due s ≡ b
            → option_and_then (left moment) (opened (find (is_session id) sessions)) ≡ opened (find (is_session id) (kept sessions)) → After is b
        by true true is e more =
            ap (λ (b : Bool). cond b None (Some (opened_as validity s))) e
            ∙ sym (ap opened (find-others id (kept sessions) (others-kept id sessions (others_after id s sessions (same_session-equal s.id id is) own))))
        by true false is e more =
            ap (λ (b : Bool). cond b None (Some (opened_as validity s))) e
            ∙ sym (ap (λ (b : Bool). opened (cond b (Some s) (find (is_session id) (kept sessions)))) is)
        by false true is e more = more
        by false false is e more = more ∙ sym (ap (λ (b : Bool). opened (cond b (Some s) (find (is_session id) (kept sessions)))) is)

  -- what is so of the session with an id is so of it where it goes on
  found-kept : (P : OpenSession → Type 0) (id : List ℕ) (sessions : List OpenSession) → OwnIds sessions → IfSome (find (is_session id) sessions) P
      → IfSome (find (is_session id) (kept sessions)) P
  found-kept P id [] own holds = tt
  found-kept P id (s ∷ sessions) own holds = by (is_session id s) (due s) refl holds
      (found-kept P id sessions (λ i j d lt below. own (suc i) (suc j) d (omega arith) (omega arith))) where
        by : (is b : Bool) → is_session id s ≡ is → IfSome (cond is (Some s) (find (is_session id) sessions)) P
            → (IfSome (find (is_session id) sessions) P → IfSome (find (is_session id) (kept sessions)) P)
            → IfSome (find (is_session id) (cond (not b) (s ∷ kept sessions) (kept sessions))) P
        by true true is holds more =
            subst (λ (o : Option OpenSession). IfSome o P)
            (sym (find-others id (kept sessions) (others-kept id sessions (others_after id s sessions (same_session-equal s.id id is) own)))) tt
        by true false is holds more =
            subst (λ (b : Bool). IfSome (cond b (Some s) (find (is_session id) (kept sessions))) P) (sym is) holds
        by false true is holds more = more holds
        by false false is holds more =
            subst (λ (b : Bool). IfSome (cond b (Some s) (find (is_session id) (kept sessions))) P) (sym is) (more holds)

-- each session is found by its id
finds : (sessions : List OpenSession) → OwnIds sessions → AllByRecursion (λ session. find (is_session session.id) sessions ≡ Some session) sessions
finds sessions own =
    recursion_from_All (λ (session : OpenSession). find (is_session session.id) sessions ≡ Some session) sessions
    (λ k d lt. let s = get_or sessions k d in find-at s.id sessions k s (is_at s.id sessions k s (slice_get-get_or sessions k d lt) refl own))

all_right : (P Q : OpenSession → Type 0) → ((session : OpenSession) → P session → Q session) → (sessions : List OpenSession) → AllByRecursion P sessions
    → AllByRecursion Q sessions
all_right P Q each [] all = tt
all_right P Q each (s ∷ sessions) all = (each s all.0, all_right P Q each sessions all.1)

-- ---- what stands after a sweep

module _ (terms : Terms) (history : List Entry) {balances : List ℤ} {sessions : List OpenSession}
    (s : Stands (terms_of terms history) (postings_of terms history) balances sessions) (moment : Moment) where
  abbrev before : List Posting
  before = postings_of terms history

  abbrev states : States
  states id = session_of terms.validity id before

  rights : AllByRecursion (IsRight terms.validity moment states) sessions
  rights =
      all_right (λ session. find (is_session session.id) sessions ≡ Some session) (IsRight terms.validity moment states)
      (λ session found. ap (due_in moment) (s.session session.id)
      ∙ ap (λ (o : Option OpenSession). due_in moment (option_map (opened_as terms.validity) o)) found)
      sessions (finds sessions s.own_ids)

  in_order : Stands (terms_of terms history) (before ++ swept moment ∷ []) balances (not_due terms.validity moment sessions)
  in_order = record {
    accounts = s.accounts;
    balance = λ account lt. (let old = s.balance account lt in let debits = debits_to-push account before (swept moment) in omega (arith, ints));
    session = λ id. fold-append (next_session terms.validity id) None before (swept moment ∷ []) ∙ ap (option_and_then (left moment)) (s.session id)
        ∙ find-kept terms.validity moment id sessions s.own_ids;
    own_ids = AllPairs-filter (λ (one other : OpenSession). one.id ≢ other.id) (λ (x : OpenSession). not (is_due terms.validity moment x)) sessions s.own_ids;
    known = All-filter (λ (x : OpenSession). not (is_due terms.validity moment x)) (λ (x : OpenSession). x.account < length (terms_of terms history).accounts) sessions s.known;
    holds = λ weight.
        alive_weight-swept terms.validity moment (λ id. None) weight before (λ id. all_keep terms id history)
        ∙ s.holds (lasting moment states weight) ∙ sessions_weight-kept terms.validity moment states weight sessions rights;
    count = λ weight.
        open_weight-swept terms.validity moment (λ id. None) weight before
        ∙ s.count (lasting_ids moment states weight) ∙ ids_weight-kept terms.validity moment states weight sessions rights;
    prices = λ id name.
        subst (λ (price : Option Tariff). IfSome (find (is_session id) (not_due terms.validity moment sessions))
        (λ session. price_in session.prices name ≡ price)) (sym (price-push id name before (swept moment)))
        (found-kept terms.validity moment (λ session. price_in session.prices name ≡ price_of id name before) id sessions s.own_ids (s.prices id name));
  }

  pub sweep-stands : Stands (terms_of terms history) (before ++ swept moment ∷ []) balances (without_due terms.validity moment sessions)
  sweep-stands = stands-shuffled (not_due terms.validity moment sessions) (without_due terms.validity moment sessions) (due-shuffled terms.validity moment sessions) in_order

  -- ---- how many sessions it ends

  not_not : (b : Bool) → b ≡ not (not b)
  not_not true = refl
  not_not false = refl

  pub ended-due : ended_sessions terms history moment ≡ count_by (is_due terms.validity moment) sessions
  unfolding open_sessions_of
  ended-due =
      let now = open_sessions_of-is terms history s in
      let later : open_sessions_of terms (history ++ Sweep moment ∷ []) ≡ length (without_due terms.validity moment sessions) =
      ap (open_count terms.validity) (postings_of-push terms history (Sweep moment)) ∙ open_count-stands sweep-stands in
      let same = length_permutation (not_due terms.validity moment sessions) (without_due terms.validity moment sessions) (due-shuffled terms.validity moment sessions) in
      let parts = length-filter_both (λ (x : OpenSession). not (is_due terms.validity moment x)) (is_due terms.validity moment)
      (λ x. not_not (is_due terms.validity moment x)) sessions in
      let count = length-filter (is_due terms.validity moment) sessions in
      omega arith

-- ---- a book after a sweep

pub IsBook-sweep : (terms : Terms) (limit : ℕ) (history : List Entry) (replies : List (Option CcReply)) (balances : List ℤ) (sessions : List OpenSession)
    (moment : Moment)
    → IsBook terms limit history replies balances sessions → length history < limit → 0 < count_by (is_due terms.validity moment) sessions
    → IsBook terms limit (history ++ Sweep moment ∷ []) (replies ++ None ∷ []) balances (without_due terms.validity moment sessions)
IsBook-sweep terms limit history replies balances sessions moment book room some =
    let before = postings_of terms history in
    let long = length-append history (Sweep moment ∷ []) in
    let next = postings_of-push terms history (Sweep moment) in
    let ended = ended-due terms history book.stands moment in
    record {
      legal = IsLegal-sweep terms history moment book.legal (omega arith);
      within = omega arith;
      replies_kept = replies-push before (postings_of terms (history ++ Sweep moment ∷ [])) (swept moment) replies next book.replies_kept;
      stands = stands-push terms history (Sweep moment) (sweep-stands terms history book.stands moment);
      sessions_left = ap (without_due terms.validity moment) book.sessions_left
          ∙ sym (ap (sessions_after terms.validity) next ∙ sessions_after-push terms.validity before (swept moment));
      bounded = record {
        balance = book.bounded.balance;
        held = λ account. (
            let old = book.bounded.held account in
            let less = reserved_in-kept terms.validity moment account sessions in
            let same = reserved-shuffled account (not_due terms.validity moment sessions) (without_due terms.validity moment sessions)
            (due-shuffled terms.validity moment sessions) in omega arith);
      };
      openings = opens-push terms history (Sweep moment) book.openings;
      moved = subst (AllByRecursion MovesLittle) (sym next)
          (all_push MovesLittle before (swept moment) book.moved (record { debit = omega arith; grants = omega arith }));
    }

-- ---- what a book answers to a sweep

pub reached : (a b : ℕ) → a ≤ b → leb a b ≡ true
reached a b h = search rules

pub room_left : (a b : ℕ) → b < a → leb a b ≡ false
room_left a b h = search rules

answer_full : (ledger : Ledger) (n : ℕ) → 0 < n → ledger.limit ≤ length ledger.history → answer_to_sweep ledger n ≡ Err (Full ledger.limit)
answer_full ledger zero some full = absurd (omega arith)
answer_full ledger (suc n) some full = ap (λ (b : Bool). cond {A = Result ℕ BookRefusal} b (Err (Full ledger.limit)) (Ok (suc n)))
    (reached ledger.limit (length ledger.history) full)

answer_some : (ledger : Ledger) (n : ℕ) → length ledger.history < ledger.limit → answer_to_sweep ledger n ≡ Ok n
answer_some ledger zero room = refl
answer_some ledger (suc n) room = ap (λ (b : Bool). cond {A = Result ℕ BookRefusal} b (Err (Full ledger.limit)) (Ok (suc n)))
    (room_left ledger.limit (length ledger.history) room)

-- a sweep that is answered so ends sessions
ends_by : (ledger : Ledger) (ended n : ℕ) → answer_to_sweep ledger ended ≡ Ok (suc n) → 0 < ended
ends_by ledger zero n answered = absurd cc
ends_by ledger (suc ended) n answered = omega arith

pub sweep-ends : (ledger : Ledger) (moment : Moment) (n : ℕ) → sweep_answer ledger moment ≡ Ok (suc n) → 0 < ended_sessions ledger.terms ledger.history moment
sweep-ends ledger moment n answered = ends_by ledger (ended_sessions ledger.terms ledger.history moment) n answered

room_by : (ledger : Ledger) (ended n : ℕ) → answer_to_sweep ledger ended ≡ Ok (suc n) → length ledger.history < ledger.limit
room_by ledger ended n answered = elim (cases_lt (length ledger.history) ledger.limit) as (λ _. length ledger.history < ledger.limit) [
  | inl room ↦ room
  | inr full ↦ absurd (let other = answer_full ledger ended (ends_by ledger ended n answered) full in cc)
]

-- a sweep that ends sessions has room for its entry
pub sweep-has_room : (ledger : Ledger) (moment : Moment) (n : ℕ) → (n ≡ 0 → ⊥) → sweep_answer ledger moment ≡ Ok n → length ledger.history < ledger.limit
sweep-has_room ledger moment zero some answered = absurd (some refl)
sweep-has_room ledger moment (suc n) some answered = room_by ledger (ended_sessions ledger.terms ledger.history moment) n answered

module _ {terms : Terms} {limit : ℕ} {history : List Entry} {replies : List (Option CcReply)} {balances : List ℤ} {sessions : List OpenSession}
    (book : IsBook terms limit history replies balances sessions) (moment : Moment) where
  abbrev ledger : Ledger
  ledger = record { terms = terms; limit = limit; history = history }

  abbrev count : ℕ
  count = count_by (is_due terms.validity moment) sessions

  counted : sweep_answer ledger moment ≡ answer_to_sweep ledger count
  counted = ap (answer_to_sweep ledger) (ended-due terms history book.stands moment)

  pub sweep-none : count ≡ 0 → sweep_answer ledger moment ≡ Ok 0
  sweep-none none = counted ∙ ap (answer_to_sweep ledger) none

  pub sweep-full : 0 < count → limit ≤ length history → sweep_answer ledger moment ≡ Err (Full limit)
  sweep-full some full = counted ∙ answer_full ledger count some full

  pub sweep-some : length history < limit → sweep_answer ledger moment ≡ Ok count
  sweep-some room = counted ∙ answer_some ledger count room
