-- What stands after postings: readings of it, and how it changes with a request.
use Rattle.std.proofs.Common.{◌≡◌, ℕ, zero, suc, ◌+◌, ◌<◌, Bool, true, false, cond, ◌&&◌, eqb, List, [], ◌∷◌, ◌++◌, length, Option, Some, None, is_some, refl, sym, ap, subst, ◌∙◌, arith, slice_get, slice_index_or, find, option_map, map}
use Rattle.std.specs.Prelude.{ℤ, pos, ◌+ℤ◌, ◌-ℤ◌}
use Rattle.std.specs.Option.{option_and_then}
use Rattle.std.proofs.lemmas.Int.{ints}
use Rattle.std.proofs.lemmas.List.{length-map}
use Rattle.std.proofs.lemmas.List.Sums.{sum_by-cons}
use Rattle.cc_view.specs.declared.request.CcRequest.{CcRequest}
use Rattle.cc_view.specs.declared.request.RequestKind.{RequestKind}
use Rattle.cc_view.specs.declared.request.RequestKind.TheVariants.{Update}
use Rattle.cc_book.specs.declared.account.Account.{Account}
use Rattle.cc_book.specs.declared.session.Hold.{Hold}
use Rattle.cc_book.specs.declared.session.OpenSession.{OpenSession}
use Rattle.cc_book.specs.declared.terms.Terms.{Terms}
use Rattle.cc_book.specs.AccountMachine.{account_by, account_of, charged_account, debit_after, free_after, free_for, free_to_grant, opener_account, opening_at, settles_after, settles_by, settling_posting}
use Rattle.cc_book.specs.Posting.{Posting, is_account, debit_to, debits_to}
use Rattle.cc_book.specs.Reservation.{held_after, is_alive, reserved_by}
use Rattle.cc_book.specs.Session.{Opened, is_open, open_count, opens, outlasts, session_of}
use Rattle.cc_book.specs.Standing.{Stands, alive_weight, grants_weight, held_in, holds_beside, holds_weight, ids_weight, is_session, open_weight, opened_as, place_in, reserved_in, sessions_weight}
use Rattle.cc_book.proofs.Alive.{Weight, alive_weight-push, holds_weight-beside, is_ending, kept, left-others, sessions_weight-append, sessions_weight-at, sessions_weight-left}
use Rattle.cc_book.proofs.Sessions.{equal_number, find-at, find-others, is_at_place, others-closed, same_number, session_there}
use Rattle.cc_book.proofs.Postings.{debits_to-push}

-- ---- what is reserved of an account

-- what a hold reserves of an account
abbrev pub reserving : ℕ → Weight
reserving account id other hold = cond (is_account account other) hold.cost 0

no_amount : (b : Bool) → cond {A = ℕ} b 0 0 ≡ 0
no_amount true = refl
no_amount false = refl

grants_weight-reserved : (validity account : ℕ) (p : Posting) (after : List Posting) (holds : List Hold) (b : Bool) → is_account account p.account ≡ b
    → grants_weight (reserving account) validity p after holds ≡ cond b (held_after validity p.entry holds after) 0
grants_weight-reserved validity account p after [] true e = refl
grants_weight-reserved validity account p after [] false e = refl
grants_weight-reserved validity account p after (hold ∷ holds) true e =
    let here : cond (is_alive validity p.entry hold.service after) (cond (is_account account p.account) hold.cost 0) 0
    ≡ cond (is_alive validity p.entry hold.service after) hold.cost 0 =
    ap (λ (b : Bool). cond (is_alive validity p.entry hold.service after) (cond b hold.cost 0) 0) e in
    let sum = sum_by-cons (λ (grant : Hold). cond (is_alive validity p.entry grant.service after) grant.cost 0) hold holds in
    let more = grants_weight-reserved validity account p after holds true e in omega arith
grants_weight-reserved validity account p after (hold ∷ holds) false e =
    let here : cond (is_alive validity p.entry hold.service after) (cond (is_account account p.account) hold.cost 0) 0 ≡ 0 =
    ap (λ (b : Bool). cond (is_alive validity p.entry hold.service after) (cond b hold.cost 0) 0) e
    ∙ no_amount (is_alive validity p.entry hold.service after) in
    let more = grants_weight-reserved validity account p after holds false e in omega arith

pub reserved_by-alive : (validity account : ℕ) (before : List Posting) → reserved_by validity account before ≡ alive_weight (reserving account) validity before
reserved_by-alive validity account [] = refl
reserved_by-alive validity account (p ∷ after) =
    let here = grants_weight-reserved validity account p after p.grants (is_account account p.account) refl in
    let more = reserved_by-alive validity account after in omega arith

holds_weight-reserved : (account other : ℕ) (id : List ℕ) (holds : List Hold) (b : Bool) → eqb account other ≡ b
    → holds_weight (reserving account) id other holds ≡ cond b (held_in holds) 0
holds_weight-reserved account other id [] true e = refl
holds_weight-reserved account other id [] false e = refl
holds_weight-reserved account other id (hold ∷ holds) true e =
    let here : cond (eqb account other) hold.cost 0 ≡ hold.cost = ap (λ (b : Bool). cond b hold.cost 0) e in
    let more = holds_weight-reserved account other id holds true e in omega arith
holds_weight-reserved account other id (hold ∷ holds) false e =
    let here : cond (eqb account other) hold.cost 0 ≡ 0 = ap (λ (b : Bool). cond b hold.cost 0) e in
    let more = holds_weight-reserved account other id holds false e in omega arith

turned_number : (m n : ℕ) → eqb m n ≡ eqb n m
turned_number m n = by (eqb m n) (eqb n m) refl refl where
  by : (b c : Bool) → eqb m n ≡ b → eqb n m ≡ c → b ≡ c
  by true true p q = refl
  by false false p q = refl
  by true false p q = absurd (let same = equal_number m n p in let met : eqb n m ≡ true = ap (λ (k : ℕ). eqb n k) same ∙ same_number n in cc)
  by false true p q = absurd (let same = equal_number n m q in let met : eqb m n ≡ true = ap (λ (k : ℕ). eqb m k) same ∙ same_number m in cc)

reserved_in-weight : (account : ℕ) (sessions : List OpenSession) → sessions_weight (reserving account) sessions ≡ reserved_in account sessions
reserved_in-weight account [] = refl
reserved_in-weight account (s ∷ sessions) =
    let here = holds_weight-reserved account s.account s.id s.holds (eqb s.account account) (turned_number account s.account) in
    let more = reserved_in-weight account sessions in omega arith

-- ---- counts and debits

pub open_count-weight : (validity : ℕ) (before : List Posting) → open_count validity before ≡ open_weight (λ id. 1) validity before
open_count-weight validity [] = refl
open_count-weight validity (p ∷ after) = ap (λ (n : ℕ). cond (opens p && outlasts validity p.entry after) 1 0 + n) (open_count-weight validity after)

ids_weight-length : (sessions : List OpenSession) → ids_weight (λ id. 1) sessions ≡ length sessions
ids_weight-length [] = refl
ids_weight-length (s ∷ sessions) = let more = ids_weight-length sessions in omega arith

-- ---- readings

module _ {terms : Terms} {before : List Posting} {balances : List ℤ} {sessions : List OpenSession} (s : Stands terms before balances sessions) where
  pub reserved-stands : (account : ℕ) → reserved_by terms.validity account before ≡ reserved_in account sessions
  reserved-stands account = reserved_by-alive terms.validity account before ∙ s.holds (reserving account) ∙ reserved_in-weight account sessions

  pub free-stands : (account : ℕ) → account < length terms.accounts
      → free_after terms before account ≡ slice_index_or balances account (pos 0) -ℤ pos (reserved_in account sessions)
  free-stands account lt =
      let balance = s.balance account lt in
      let reserved = reserved-stands account in omega (arith, ints)

  pub open_count-stands : open_count terms.validity before ≡ length sessions
  open_count-stands = open_count-weight terms.validity before ∙ s.count (λ id. 1) ∙ ids_weight-length sessions

  pub closed-stands : (id : List ℕ) → place_in sessions id ≡ None → session_of terms.validity id before ≡ None
  closed-stands id none = s.session id ∙ ap (option_map (opened_as terms.validity)) (find-others id sessions (others-closed id sessions none))

  pub open-stands : (id : List ℕ) (place : ℕ) (session : OpenSession) → place_in sessions id ≡ Some place → slice_get sessions place ≡ Some session
      → (session_of terms.validity id before ≡ Some (opened_as terms.validity session)) × (find (is_session id) sessions ≡ Some session) × (session.id ≡ id)
      × (session.account < length terms.accounts)
  open-stands id place session some there =
      let at = is_at_place id sessions place session some there s.own_ids in
      let found = find-at id sessions place session at in
      let is : slice_index_or sessions place session ≡ session = (session_there sessions place session session there).0 in (
        s.session id ∙ ap (option_map (opened_as terms.validity)) found,
        found,
        at.own,
        subst (λ (x : OpenSession). x.account < length terms.accounts) is
            (s.known place session at.within),
      )

  -- ---- what is free to grant

  -- what is reserved once a request has settled its services
  reserved_settled : (request : CcRequest) (account : ℕ)
      → reserved_by terms.validity account (before ++ settling_posting terms before request ∷ [])
      ≡ sessions_weight (kept request (settles_after terms before request) (reserving account)) sessions
  reserved_settled request account =
      let settles = settles_after terms before request in
      let push = alive_weight-push terms.validity (record { 0 = 0 }) request (settling_posting terms before request) (reserving account) before in
      let stands = s.holds (kept request settles (reserving account)) in
      let all = reserved_by-alive terms.validity account (before ++ settling_posting terms before request ∷ []) in omega arith

  -- what is free once a request has settled its services, and debited what they used
  free_settled : (request : CcRequest) (account : ℕ) → charged_account terms before request ≡ Some account
      → free_to_grant terms before request ≡ ((opening_at terms.accounts account -ℤ debits_to account before) -ℤ debit_after terms before request) -ℤ pos
      (sessions_weight (kept request (settles_after terms before request) (reserving account)) sessions)
  free_settled request account charged =
      let q = settling_posting terms before request in
      let free : free_to_grant terms before request ≡ free_after terms (before ++ q ∷ []) account = ap (free_for terms (before ++ q ∷ [])) charged in
      let debits = debits_to-push account before q in
      let debit : debit_to account q ≡ debit_after terms before request =
      ap (λ (o : Option ℕ). cond (is_account account o) (debit_after terms before request) (pos 0)) charged
      ∙ ap (λ (b : Bool). cond b (debit_after terms before request) (pos 0)) (same_number account) in
      let reserved = reserved_settled request account in
      free ∙ omega (arith, ints)

  pub free_to_grant-closed : (request : CcRequest) (account : ℕ) → place_in sessions request.session ≡ None
      → charged_account terms before request ≡ Some account → account < length terms.accounts
      → free_to_grant terms before request ≡ free_after terms before account -ℤ debit_after terms before request
  free_to_grant-closed request account none charged lt =
      let settles = settles_after terms before request in
      let free = free_settled request account charged in
      let left = sessions_weight-left request settles (reserving account) sessions
      (left-others request settles sessions (others-closed request.session sessions none)) in
      let reserved = reserved_by-alive terms.validity account before in
      let stands = s.holds (reserving account) in
      omega (arith, ints)

  -- an UPDATE of an open session settles, on the session's account
  pub update_settles : (request : CcRequest) (session : OpenSession) → request.kind ≡ Update
      → session_of terms.validity request.session before ≡ Some (opened_as terms.validity session)
      → (charged_account terms before request ≡ Some session.account) × (settles_after terms before request ≡ true)
  update_settles request session kind opened = (
    ap (λ (k : RequestKind). account_by k (account_of terms request.subscriptions) (opener_account terms.validity before request.session)) kind
        ∙ ap (option_and_then (λ (o : Opened). o.account)) opened,
    ap (λ (k : RequestKind). settles_by k (is_open terms.validity request.session before) (is_some (account_of terms request.subscriptions))) kind
        ∙ ap is_some opened,
  )

  pub free_to_grant-open : (request : CcRequest) (place : ℕ) (session : OpenSession) → request.kind ≡ Update → place_in sessions request.session ≡ Some place
      → slice_get sessions place ≡ Some session
      → free_to_grant terms before request +ℤ pos (held_in (holds_beside request.services session.holds))
      ≡ (free_after terms before session.account -ℤ debit_after terms before request) +ℤ pos (held_in session.holds)
  free_to_grant-open request place session kind some there =
      let a = session.account in
      let at = is_at_place request.session sessions place session some there s.own_ids in
      let does = update_settles request session kind (open-stands request.session place session some there).0 in
      let free = free_settled request a does.0 in
      let settled : sessions_weight (kept request (settles_after terms before request) (reserving a)) sessions
      ≡ sessions_weight (kept request true (reserving a)) sessions =
      ap (λ (b : Bool). sessions_weight (kept request b (reserving a)) sessions) does.1 in
      let later = sessions_weight-at request true (reserving a) sessions place session at in
      let beside = holds_weight-beside request (reserving a) session.id a session.holds (sym at.own) (ap is_ending kind) in
      let left = holds_weight-reserved a a session.id (holds_beside request.services session.holds) true (same_number a) in
      let held = holds_weight-reserved a a session.id session.holds true (same_number a) in
      let now : sessions_weight (reserving a) sessions ≡ sessions_weight (reserving a) (at.front ++ session ∷ at.back) =
      ap (sessions_weight (reserving a)) at.split in
      let parts = sessions_weight-append (reserving a) at.front (session ∷ at.back) in
      let reserved = reserved_by-alive terms.validity a before in
      let stands = s.holds (reserving a) in
      omega (arith, ints)

-- ---- before the first request

pub opening_at-map : (accounts : List Account) (k : ℕ) → k < length accounts
    → slice_index_or (map (λ (a : Account). a.opening) accounts) k (pos 0) ≡ opening_at accounts k
opening_at-map [] k lt = absurd (omega arith)
opening_at-map (a ∷ accounts) zero lt = refl
opening_at-map (a ∷ accounts) (suc k) lt = opening_at-map accounts k (omega arith)

pub empty-stands : (terms : Terms) (balances : List ℤ) → balances ≡ map (λ account. account.opening) terms.accounts
    → Stands terms [] balances []
empty-stands terms balances openings =
    let long : length balances ≡ length terms.accounts = ap length openings ∙ length-map terms.accounts (λ (a : Account). a.opening) in
    record {
      accounts = long;
      balance = λ account lt. (
          let opening = ap (λ (zs : List ℤ). slice_index_or zs account (pos 0)) openings ∙ opening_at-map terms.accounts account lt in omega (arith, ints));
      session = λ id. refl;
      own_ids = λ i j d lt below. absurd (omega arith);
      known = λ k d lt. absurd (omega arith);
      holds = λ weight. refl;
      count = λ weight. refl;
      prices = λ id name. tt;
    }
