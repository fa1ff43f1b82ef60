-- What stands after a change of the terms, and what a book answers to one.
use Rattle.std.proofs.Common.{◌≡◌, ℕ, suc, ◌+◌, ◌-◌, ◌<◌, ◌≤◌, ◌^◌, Bool, true, false, cond, not, ◌&&◌, ◌||◌, List, [], ◌∷◌, ◌++◌, All, length, length-append, Option, Some, None, Result, Ok, Err, is_some, inl, inr, refl, sym, ap, subst, ◌∙◌, arith, rules, slice_index_or}
use Rattle.std.specs.Prelude.{ℤ, pos, negsuc, ◌-ℤ◌, ◌≤ℤ◌, is_none, nat_abs, nat_le, sum_by, IfSome, find}
use Rattle.std.specs.List.{AllByRecursion, fold, list_any}
use Rattle.std.specs.Option.{option_or}
use Rattle.std.proofs.Math.ListN.{get_or-append}
use Rattle.std.proofs.lemmas.Bool.{cases_lt}
use Rattle.std.proofs.lemmas.Int.{ints}
use Rattle.std.proofs.lemmas.List.{length-map}
use Rattle.std.proofs.lemmas.List.Elements.{All-weaker}
use Rattle.std.proofs.lemmas.List.Sums.{fold-append}
use Rattle.dia_base.specs.declared.number.Moment.{Moment}
use Rattle.cc_view.specs.declared.reply.CcReply.{CcReply}
use Rattle.cc_view.specs.declared.request.ServiceName.{ServiceName}
use Rattle.cc_view.specs.declared.request.Subscription.{Subscription}
use Rattle.cc_book.specs.declared.account.Account.{Account}
use Rattle.cc_book.specs.declared.entry.Entry.{Entry}
use Rattle.cc_book.specs.declared.entry.Entry.TheVariants.{Take, Sweep, ChangeTerms}
use Rattle.cc_book.specs.declared.session.Hold.{Hold}
use Rattle.cc_book.specs.declared.session.OpenSession.{OpenSession}
use Rattle.cc_book.specs.declared.terms.Terms.{Terms}
use Rattle.cc_book.specs.declared.terms_change.ChangeRefusal.{ChangeRefusal}
use Rattle.cc_book.specs.declared.terms_change.ChangeRefusal.TheVariants.{Nothing, AlreadyThere, Twice, NotThere, ClosedAlready, ClosedTwice, NotClosed, ReopenedTwice, Full, OutOfMemory}
use Rattle.cc_book.specs.declared.terms_change.TermsChange.{TermsChange}
use Rattle.cc_book.specs.AccountMachine.{opening_at, postings_of, terms_of}
use Rattle.cc_book.specs.Balance.{open_sessions_of, reserved_of}
use Rattle.cc_book.specs.Bounds.{IsBounded, MovesLittle, OpensSmall}
use Rattle.cc_book.specs.Changing.{ChangesWith, change_answer, change_answer_by}
use Rattle.cc_book.specs.Posting.{Posting, debits_to}
use Rattle.cc_book.specs.Reservation.{held_by, is_alive, replaces, reserved_by, same_name}
use Rattle.cc_book.specs.Session.{Opened, is_of, left_after, next_session, open_count, opened_at, opens, outlasts, session_in, session_of}
use Rattle.cc_book.specs.Standing.{Stands, alive_weight, grants_weight, open_weight, openings_of, sessions_after, is_session}
use Rattle.cc_book.specs.Taking.{IsBook, Ledger}
use Rattle.cc_book.specs.TermsChange.{account_with, changed_terms, closing_fault, fault_of_change, first_fault, is_among, joining_fault, reopening_fault, same_owner, says_nothing, standing_fault}
use Rattle.cc_book.proofs.Alive.{Weight, any-push}
use Rattle.cc_book.proofs.Books.{opens-push, replies-push, sessions_after-push, stands-push}
use Rattle.cc_book.proofs.Bounds.{bounded-empty, opens-small}
use Rattle.cc_book.proofs.Keys.{IsLegal-change}
use Rattle.cc_book.proofs.Postings.{all_push, debits_to-push, opening_at-behind, opening_at-front, postings_of-push}
use Rattle.cc_book.proofs.Ranges.{both-small}
use Rattle.cc_book.proofs.Stands.{open_count-weight, opening_at-map, reserved_by-alive, reserving}
use Rattle.cc_book.proofs.Sums.{all_placed, no_debits}
use Rattle.cc_book.specs.Pricing.{price_in, price_of}
use Rattle.cc_book.proofs.Pricing.{price-push}
use Rattle.cc_rating.specs.declared.tariff.Tariff.{Tariff}

-- ---- a change ends nothing

or_false : (b : Bool) → (b || false) ≡ b
or_false true = refl
or_false false = refl

module _ (validity : ℕ) (moment : Moment) (change : TermsChange) where
  -- the posting of a change
  abbrev pub changed : Posting
  changed = record { entry = ChangeTerms moment change; account = None; debit = pos 0; settles = false; tariffs = []; grants = []; reply = None }

  left-same : (id : List ℕ) (opened : Option Opened) → left_after validity id opened changed ≡ opened
  left-same id None = refl
  left-same id (Some opened) = refl

  next-same : (id : List ℕ) (opened : Option Opened) → next_session validity id opened changed ≡ opened
  next-same id None = refl
  next-same id (Some opened) = refl

  outlasts-same : (entry : Entry) (after : List Posting) → outlasts validity entry (after ++ changed ∷ []) ≡ outlasts validity entry after
  outlasts-same (Take m r) after =
      let first : Option Opened = Some (opened_at validity None m.0) in
      ap is_some (fold-append (left_after validity r.session) first after (changed ∷ []) ∙ left-same r.session (fold (left_after validity r.session) first after))
  outlasts-same (Sweep m) after = refl
  outlasts-same (ChangeTerms m c) after = refl

  alive-same : (entry : Entry) (name : ServiceName) (after : List Posting)
      → is_alive validity entry name (after ++ changed ∷ []) ≡ is_alive validity entry name after
  alive-same (Take m r) name after =
      ap (λ (b : Bool). not b && outlasts validity (Take m r) (after ++ changed ∷ []))
      (any-push (replaces r.session name) after changed ∙ or_false (list_any (replaces r.session name) after))
      ∙ ap (λ (b : Bool). not (list_any (replaces r.session name) after) && b) (outlasts-same (Take m r) after)
  alive-same (Sweep m) name after = refl
  alive-same (ChangeTerms m c) name after = refl

  grants-same : (weight : Weight) (p : Posting) (after : List Posting) (holds : List Hold)
      → grants_weight weight validity p (after ++ changed ∷ []) holds ≡ grants_weight weight validity p after holds
  grants-same weight p after [] = refl
  grants-same weight p after (hold ∷ holds) =
      let here : cond (is_alive validity p.entry hold.service (after ++ changed ∷ [])) (weight (session_in p.entry) p.account hold) 0
      ≡ cond (is_alive validity p.entry hold.service after) (weight (session_in p.entry) p.account hold) 0 =
      ap (λ (b : Bool). cond b (weight (session_in p.entry) p.account hold) 0) (alive-same p.entry hold.service after) in
      let more = grants-same weight p after holds in omega arith

  weight-same : (weight : Weight) (before : List Posting) → alive_weight weight validity (before ++ changed ∷ []) ≡ alive_weight weight validity before
  weight-same weight [] = omega arith
  weight-same weight (p ∷ before) =
      let here = grants-same weight p before p.grants in
      let more = weight-same weight before in omega arith

  count-same : (weight : List ℕ → ℕ) (before : List Posting) → open_weight weight validity (before ++ changed ∷ []) ≡ open_weight weight validity before
  count-same weight [] = omega arith
  count-same weight (p ∷ before) =
      let here : cond (opens p && outlasts validity p.entry (before ++ changed ∷ [])) (weight (session_in p.entry)) 0
      ≡ cond (opens p && outlasts validity p.entry before) (weight (session_in p.entry)) 0 =
      ap (λ (b : Bool). cond (opens p && b) (weight (session_in p.entry)) 0) (outlasts-same p.entry before) in
      let more = count-same weight before in omega arith

  held_by-same : (session : List ℕ) (name : ServiceName) (before : List Posting)
      → held_by validity session name (before ++ changed ∷ []) ≡ held_by validity session name before
  held_by-same session name [] = refl
  held_by-same session name (p ∷ before) =
      let here : cond (is_of session p.entry)
      (sum_by (λ (grant : Hold). cond (same_name grant.service name && is_alive validity p.entry name (before ++ changed ∷ [])) grant.cost 0) p.grants) 0
      ≡ cond (is_of session p.entry)
      (sum_by (λ (grant : Hold). cond (same_name grant.service name && is_alive validity p.entry name before) grant.cost 0) p.grants) 0 =
      ap (λ (b : Bool). cond (is_of session p.entry) (sum_by (λ (grant : Hold). cond (same_name grant.service name && b) grant.cost 0) p.grants) 0)
      (alive-same p.entry name before) in
      let more = held_by-same session name before in omega arith

  reserved_by-same : (account : ℕ) (before : List Posting) → reserved_by validity account (before ++ changed ∷ []) ≡ reserved_by validity account before
  reserved_by-same account before =
      reserved_by-alive validity account (before ++ changed ∷ []) ∙ weight-same (reserving account) before ∙ sym (reserved_by-alive validity account before)

  open_count-same : (before : List Posting) → open_count validity (before ++ changed ∷ []) ≡ open_count validity before
  open_count-same before =
      open_count-weight validity (before ++ changed ∷ []) ∙ count-same (λ id. 1) before ∙ sym (open_count-weight validity before)

-- ---- the balances of accounts that join

opening-there : (joining : List Account) (place : ℕ) → place < length joining → slice_index_or (openings_of joining) place (pos 0) ≡ opening_at joining place
opening-there joining place lt = opening_at-map joining place lt

get_or-behind : (front back : List ℤ) (place : ℕ) → slice_index_or (front ++ back) (length front + place) (pos 0) ≡ slice_index_or back place (pos 0)
get_or-behind [] back place = let none : 0 + place ≡ place = omega arith in ap (λ (n : ℕ). slice_index_or back n (pos 0)) none
get_or-behind (z ∷ front) back place =
    let next : suc (length front) + place ≡ suc (length front + place) = omega arith in
    ap (λ (n : ℕ). slice_index_or (z ∷ (front ++ back)) n (pos 0)) next ∙ get_or-behind front back place

module _ {terms : Terms} {before : List Posting} {balances : List ℤ} {sessions : List OpenSession} (s : Stands terms before balances sessions)
    (moment : Moment) (change : TermsChange)
    (none : (account : ℕ) → length terms.accounts ≤ account → debits_to account before ≡ pos 0) where
  abbrev posting : Posting
  posting = changed terms.validity moment change

  -- the balance of an account that was there, and of one that joins
  balance-there : (account : ℕ) → account < length terms.accounts
      → slice_index_or (balances ++ openings_of change.joining) account (pos 0)
      ≡ opening_at (terms.accounts ++ change.joining) account -ℤ debits_to account (before ++ posting ∷ [])
  balance-there account lt =
      let within : account < length balances = omega (arith, s.accounts) in
      let front = get_or-append balances (openings_of change.joining) (pos 0) account within in
      let old = s.balance account lt in
      let opening = opening_at-front terms.accounts change.joining account lt in
      let debits = debits_to-push account before posting in
      omega (arith, ints)

  balance-joined : (place : ℕ) → place < length change.joining
      → slice_index_or (balances ++ openings_of change.joining) (length terms.accounts + place) (pos 0)
      ≡ opening_at (terms.accounts ++ change.joining) (length terms.accounts + place) -ℤ debits_to (length terms.accounts + place) (before ++ posting ∷ [])
  balance-joined place lt =
      let same : length balances + place ≡ length terms.accounts + place = omega (arith, s.accounts) in
      let back = ap (λ (n : ℕ). slice_index_or (balances ++ openings_of change.joining) n (pos 0)) (sym same)
      ∙ get_or-behind balances (openings_of change.joining) place ∙ opening-there change.joining place lt in
      let opening = opening_at-behind terms.accounts change.joining place in
      let debits = debits_to-push (length terms.accounts + place) before posting in
      let nothing = none (length terms.accounts + place) (omega arith) in
      omega (arith, ints)

  pub change-stands : Stands (changed_terms terms change) (before ++ posting ∷ []) (balances ++ openings_of change.joining) sessions
  change-stands =
      let long = length-append balances (openings_of change.joining) in
      let more = length-append terms.accounts change.joining in
      let joined = length-map change.joining (λ (a : Account). a.opening) in
      record {
        accounts = omega (arith, s.accounts);
        balance = λ account lt. elim (cases_lt account (length terms.accounts)) as (λ _.
            slice_index_or (balances ++ openings_of change.joining) account (pos 0)
            ≡ opening_at (terms.accounts ++ change.joining) account -ℤ debits_to account (before ++ posting ∷ [])) [
              | inl there ↦ balance-there account there
              | inr beyond ↦ (
                  let is : length terms.accounts + (account - length terms.accounts) ≡ account = omega arith in
                  subst (λ (n : ℕ). slice_index_or (balances ++ openings_of change.joining) n (pos 0)
                  ≡ opening_at (terms.accounts ++ change.joining) n -ℤ debits_to n (before ++ posting ∷ [])) is
                  (balance-joined (account - length terms.accounts) (omega arith)))
            ];
        session = λ id. fold-append (next_session terms.validity id) None before (posting ∷ [])
            ∙ next-same terms.validity moment change id (session_of terms.validity id before) ∙ s.session id;
        own_ids = s.own_ids;
        known = All-weaker (λ (x : OpenSession). x.account < length terms.accounts) (λ x. x.account < length (terms.accounts ++ change.joining))
            (λ x lt. omega arith) sessions s.known;
        holds = λ weight. weight-same terms.validity moment change weight before ∙ s.holds weight;
        count = λ weight. count-same terms.validity moment change weight before ∙ s.count weight;
        prices = λ id name.
            subst (λ (price : Option Tariff). IfSome (find (is_session id) sessions) (λ session. price_in session.prices name ≡ price))
            (sym (price-push id name before posting)) (s.prices id name);
      }

-- ---- what a change leaves alone

module _ (terms : Terms) (history : List Entry) (moment : Moment) (change : TermsChange) where
  pushed : postings_of terms (history ++ ChangeTerms moment change ∷ []) ≡ postings_of terms history ++ changed terms.validity moment change ∷ []
  pushed = postings_of-push terms history (ChangeTerms moment change)

  pub change-session : (session : List ℕ) → session_of terms.validity session (postings_of terms (history ++ ChangeTerms moment change ∷ []))
      ≡ session_of terms.validity session (postings_of terms history)
  change-session session =
      ap (session_of terms.validity session) pushed
      ∙ fold-append (next_session terms.validity session) None (postings_of terms history) (changed terms.validity moment change ∷ [])
      ∙ next-same terms.validity moment change session (session_of terms.validity session (postings_of terms history))

  pub change-held : (session : List ℕ) (name : ServiceName)
      → held_by terms.validity session name (postings_of terms (history ++ ChangeTerms moment change ∷ []))
      ≡ held_by terms.validity session name (postings_of terms history)
  change-held session name =
      ap (held_by terms.validity session name) pushed ∙ held_by-same terms.validity moment change session name (postings_of terms history)

  pub change-reserved : (account : ℕ) → reserved_of terms (history ++ ChangeTerms moment change ∷ []) account ≡ reserved_of terms history account
  unfolding reserved_of
  change-reserved account =
      ap (reserved_by terms.validity account) pushed ∙ reserved_by-same terms.validity moment change account (postings_of terms history)

  pub change-price : (session : List ℕ) (name : ServiceName)
      → price_of session name (postings_of terms (history ++ ChangeTerms moment change ∷ [])) ≡ price_of session name (postings_of terms history)
  change-price session name =
      ap (price_of session name) pushed ∙ price-push session name (postings_of terms history) (changed terms.validity moment change)

  pub change-open : open_sessions_of terms (history ++ ChangeTerms moment change ∷ []) ≡ open_sessions_of terms history
  unfolding open_sessions_of
  change-open = ap (open_count terms.validity) pushed ∙ open_count-same terms.validity moment change (postings_of terms history)

-- ---- a book after a change

module _ (joining : List Account) (least : All (λ opening. negsuc (2 ^ 63) ≤ℤ opening) (openings_of joining))
    (most : All (λ opening. opening ≤ℤ pos (2 ^ 63)) (openings_of joining)) (terms : Terms) where
  -- terms of these accounts alone
  alone : Terms
  alone = record terms { accounts = joining }

  joined-small : OpensSmall alone
  unfolding alone
  joined-small = opens-small alone (openings_of joining) refl least most

  joined-bounded : (place : ℕ) → place < length (openings_of joining) → nat_abs (slice_index_or (openings_of joining) place (pos 0)) < 2 ^ 124
  unfolding alone
  joined-bounded place lt = (bounded-empty alone (openings_of joining) refl least most).balance place lt

  pub both-bounded : (balances : List ℤ) (sessions : List OpenSession) → IsBounded balances sessions → IsBounded (balances ++ openings_of joining) sessions
  both-bounded balances sessions old = record {
    balance = λ account lt. elim (cases_lt account (length balances)) as (λ _.
        nat_abs (slice_index_or (balances ++ openings_of joining) account (pos 0)) < 2 ^ 124) [
          | inl there ↦ subst (λ (z : ℤ). nat_abs z < 2 ^ 124) (sym (get_or-append balances (openings_of joining) (pos 0) account there))
              (old.balance account there)
          | inr beyond ↦ (
              let long = length-append balances (openings_of joining) in
              let is : length balances + (account - length balances) ≡ account = omega arith in
              subst (λ (n : ℕ). nat_abs (slice_index_or (balances ++ openings_of joining) n (pos 0)) < 2 ^ 124) is
              (subst (λ (z : ℤ). nat_abs z < 2 ^ 124) (sym (get_or-behind balances (openings_of joining) (account - length balances)))
              (joined-bounded (account - length balances) (omega arith))))
        ];
    held = old.held;
  }

pub IsBook-change : (terms : Terms) (limit : ℕ) (history : List Entry) (replies : List (Option CcReply)) (balances : List ℤ) (sessions : List OpenSession)
    (moment : Moment) (change : TermsChange)
    → IsBook terms limit history replies balances sessions → length history < limit → fault_of_change (terms_of terms history) change ≡ None
    → All (λ opening. negsuc (2 ^ 63) ≤ℤ opening) (openings_of change.joining) → All (λ opening. opening ≤ℤ pos (2 ^ 63)) (openings_of change.joining)
    → IsBook terms limit (history ++ ChangeTerms moment change ∷ []) (replies ++ None ∷ []) (balances ++ openings_of change.joining) sessions
unfolding alone
IsBook-change terms limit history replies balances sessions moment change book room sound least most =
    let before = postings_of terms history in
    let now = terms_of terms history in
    let posting = changed terms.validity moment change in
    let entry : Entry = ChangeTerms moment change in
    let long = length-append history (entry ∷ []) in
    let next = postings_of-push terms history entry in
    record {
      legal = IsLegal-change terms history moment change book.legal sound;
      within = omega arith;
      replies_kept = replies-push before (postings_of terms (history ++ entry ∷ [])) posting replies next book.replies_kept;
      stands = stands-push terms history entry
          (change-stands book.stands moment change (λ account le. no_debits (length now.accounts) account before le (all_placed terms history)));
      sessions_left = book.sessions_left ∙ sym (ap (sessions_after terms.validity) next ∙ sessions_after-push terms.validity before posting);
      bounded = both-bounded change.joining least most now balances sessions book.bounded;
      openings = opens-push terms history entry (both-small now.accounts change.joining book.openings (joined-small change.joining least most now));
      moved = subst (AllByRecursion MovesLittle) (sym next)
          (all_push MovesLittle before posting book.moved (record { debit = omega arith; grants = omega arith }));
    }

-- ---- what a change is answered

no_memory_by : (accounts before joining : List Account) → joining_fault accounts before joining ≡ Some OutOfMemory → ⊥
no_memory_by accounts before [] e = cc
no_memory_by accounts before (account ∷ after) e =
    by (list_any (same_owner account) accounts) (list_any (same_owner account) before)
    (no_memory_by accounts (before ++ account ∷ []) after) e
  where
    by : (there twice : Bool) → (joining_fault accounts (before ++ account ∷ []) after ≡ Some OutOfMemory → ⊥)
        → option_or (cond there (Some (AlreadyThere (length before))) (cond twice (Some (Twice (length before))) None))
        (joining_fault accounts (before ++ account ∷ []) after) ≡ Some OutOfMemory → ⊥
    by true twice later e = cc
    by false true later e = cc
    by false false later e = later e

closing-no_memory : (terms : Terms) (before : List Subscription) (s : Subscription) → closing_fault terms before s ≡ Some OutOfMemory → ⊥
closing-no_memory terms before s = by (is_none (account_with terms.accounts s)) (is_among terms.closed s) (is_among before s) where
  by : (strange shut twice : Bool)
      → cond strange (Some (NotThere (length before))) (cond shut (Some (ClosedAlready (length before))) (cond twice (Some (ClosedTwice (length before))) None))
      ≡ Some OutOfMemory → ⊥
  by true shut twice e = cc
  by false true twice e = cc
  by false false true e = cc
  by false false false e = cc

reopening-no_memory : (terms : Terms) (before : List Subscription) (s : Subscription) → reopening_fault terms before s ≡ Some OutOfMemory → ⊥
reopening-no_memory terms before s = by (not (is_among terms.closed s)) (is_among before s) where
  by : (free twice : Bool)
      → cond free (Some (NotClosed (length before))) (cond twice (Some (ReopenedTwice (length before))) None) ≡ Some OutOfMemory → ⊥
  by true twice e = cc
  by false true e = cc
  by false false e = cc

or-no_memory : (first second : Option ChangeRefusal) → (first ≡ Some OutOfMemory → ⊥) → (second ≡ Some OutOfMemory → ⊥)
    → option_or first second ≡ Some OutOfMemory → ⊥
or-no_memory None second one other e = other e
or-no_memory (Some fault) second one other e = one e

no_memory_among : (fault : List Subscription → Subscription → Option ChangeRefusal)
    → ((before : List Subscription) (s : Subscription) → fault before s ≡ Some OutOfMemory → ⊥)
    → (before after : List Subscription) → first_fault fault before after ≡ Some OutOfMemory → ⊥
no_memory_among fault each before [] e = cc
no_memory_among fault each before (s ∷ after) e =
    or-no_memory (fault before s) (first_fault fault (before ++ s ∷ []) after) (each before s)
    (no_memory_among fault each (before ++ s ∷ []) after) e

-- memory is no fault of a change
pub fault-no_memory : (terms : Terms) (change : TermsChange) → fault_of_change terms change ≡ Some OutOfMemory → ⊥
fault-no_memory terms change = by (says_nothing change) where
  by : (b : Bool) → cond b (Some Nothing) (option_or (joining_fault terms.accounts [] change.joining) (standing_fault terms change)) ≡ Some OutOfMemory → ⊥
  by true e = cc
  by false e =
      or-no_memory (joining_fault terms.accounts [] change.joining) (standing_fault terms change) (no_memory_by terms.accounts [] change.joining)
      (or-no_memory (first_fault (closing_fault terms) [] change.closing) (first_fault (reopening_fault terms) [] change.reopening)
      (no_memory_among (closing_fault terms) (closing-no_memory terms) [] change.closing)
      (no_memory_among (reopening_fault terms) (reopening-no_memory terms) [] change.reopening)) e

refused-with : (expected : Result ℕ ChangeRefusal) (refusal : ChangeRefusal) → (refusal ≡ OutOfMemory → ⊥) → expected ≡ Err refusal
    → ChangesWith expected (Err refusal)
refused-with expected Nothing other is = is
refused-with expected (AlreadyThere place) other is = is
refused-with expected (Twice place) other is = is
refused-with expected (NotThere place) other is = is
refused-with expected (ClosedAlready place) other is = is
refused-with expected (ClosedTwice place) other is = is
refused-with expected (NotClosed place) other is = is
refused-with expected (ReopenedTwice place) other is = is
refused-with expected (Full limit) other is = is
refused-with expected OutOfMemory other is = absurd (other refl)

-- a change that is at fault is refused so
pub changes-fault : (ledger : Ledger) (change : TermsChange) (fault : ChangeRefusal)
    → fault_of_change (terms_of ledger.terms ledger.history) change ≡ Some fault → ChangesWith (change_answer ledger change) (Err fault)
changes-fault ledger change fault is =
    refused-with (change_answer ledger change) fault
    (λ memory. fault-no_memory (terms_of ledger.terms ledger.history) change (is ∙ ap Some memory))
    (ap (change_answer_by ledger) is)

-- one with which nothing is wrong is made where there is room for its entry
pub change-made : (ledger : Ledger) (change : TermsChange) → fault_of_change (terms_of ledger.terms ledger.history) change ≡ None
    → length ledger.history < ledger.limit → change_answer ledger change ≡ Ok (length ledger.history)
change-made ledger change sound room =
    ap (change_answer_by ledger) sound
    ∙ ap (λ (b : Bool). cond {A = Result ℕ ChangeRefusal} b (Err (Full ledger.limit)) (Ok (length ledger.history))) full
  where
    full : nat_le ledger.limit (length ledger.history) ≡ false
    full = search rules

pub change-full : (ledger : Ledger) (change : TermsChange) → fault_of_change (terms_of ledger.terms ledger.history) change ≡ None
    → ledger.limit ≤ length ledger.history → change_answer ledger change ≡ Err (Full ledger.limit)
change-full ledger change sound reached =
    ap (change_answer_by ledger) sound
    ∙ ap (λ (b : Bool). cond {A = Result ℕ ChangeRefusal} b (Err (Full ledger.limit)) (Ok (length ledger.history))) full
  where
    full : nat_le ledger.limit (length ledger.history) ≡ true
    full = search rules

-- a change that is made has nothing wrong with it, and room for its entry
pub made-change : (ledger : Ledger) (change : TermsChange) (place : ℕ) → change_answer ledger change ≡ Ok place
    → (fault_of_change (terms_of ledger.terms ledger.history) change ≡ None) × (length ledger.history < ledger.limit) × (place ≡ length ledger.history)
made-change ledger change place = by (fault_of_change (terms_of ledger.terms ledger.history) change) where
  by : (fault : Option ChangeRefusal) → change_answer_by ledger fault ≡ Ok place
      → (fault ≡ None) × (length ledger.history < ledger.limit) × (place ≡ length ledger.history)
  by (Some fault) e = absurd cc
  by None e = elim (cases_lt (length ledger.history) ledger.limit) as (λ _.
      (◌≡◌ {A = Option ChangeRefusal} None None) × (length ledger.history < ledger.limit) × (place ≡ length ledger.history)) [
        | inl room ↦ (
            let here : nat_le ledger.limit (length ledger.history) ≡ false = search rules in
            let same : Ok (length ledger.history) ≡ Ok place =
            sym (ap (λ (b : Bool). cond {A = Result ℕ ChangeRefusal} b (Err (Full ledger.limit)) (Ok (length ledger.history))) here) ∙ e in
            (refl, room, cc))
        | inr full ↦ (
            let here : nat_le ledger.limit (length ledger.history) ≡ true = search rules in
            let same : Err (Full ledger.limit) ≡ Ok place =
            sym (ap (λ (b : Bool). cond {A = Result ℕ ChangeRefusal} b (Err (Full ledger.limit)) (Ok (length ledger.history))) here) ∙ e in
            absurd cc)
      ]
