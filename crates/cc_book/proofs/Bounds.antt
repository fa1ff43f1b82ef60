-- Amounts stay within their bounds, and no short history comes near them.
use Rattle.std.proofs.Common.{◌≡◌, ℕ, zero, suc, ◌+◌, ◌*◌, ◌<◌, ◌≤◌, ◌^◌, Bool, true, false, cond, ◌&&◌, ◌||◌, ltb, List, [], ◌∷◌, ◌++◌, length, map, Option, Some, None, Err, is_some, inl, inr, refl, sym, ap, subst, ◌∙◌, arith, All, slice_index_or, rules}
use Rattle.std.specs.Prelude.{ℤ, pos, negsuc, ◌+ℤ◌, ◌-ℤ◌, ◌≤ℤ◌, nat_abs, IsTrue, MatchOption}
use Rattle.std.specs.List.{AllByRecursion}
use Rattle.std.proofs.lemmas.Bool.{and_from, and_parts, cases_lt, ltb-true}
use Rattle.std.proofs.lemmas.Int.{ints}
use Rattle.std.proofs.lemmas.List.{get_or_default, length-map}
use Rattle.std.proofs.lemmas.List.Sums.{sum_by-cons}
use Rattle.dia_base.specs.declared.number.Moment.{Moment}
use Rattle.cc_view.specs.declared.reply.CcReply.{CcReply}
use Rattle.cc_view.specs.declared.request.CcRequest.{CcRequest}
use Rattle.cc_book.specs.declared.account.Account.{Account}
use Rattle.cc_book.specs.declared.book.BookRefusal.TheVariants.{Full}
use Rattle.cc_book.specs.declared.outcome.Outcome.{Outcome}
use Rattle.cc_book.specs.declared.entry.Entry.{Entry}
use Rattle.cc_book.specs.declared.entry.Entry.TheVariants.{Take}
use Rattle.cc_book.specs.declared.session.Hold.{Hold}
use Rattle.cc_book.specs.declared.session.OpenSession.{OpenSession}
use Rattle.cc_book.specs.declared.terms.Terms.{Terms}
use Rattle.cc_book.specs.AccountMachine.{charged_account, grants_after, kept_reply, opening_at, posting_of, postings_of, terms_of}
use Rattle.cc_book.specs.Bounds.{IsBounded, MovesLittle, OpensSmall, account_bears, bears, bears_in, bears_request}
use Rattle.cc_book.specs.Duplicate.{key_of}
use Rattle.cc_book.specs.History.{IsKeptAt, IsNew}
use Rattle.cc_book.specs.Posting.{Posting, debit_to, debits_to, is_account}
use Rattle.cc_book.specs.Reservation.{held_after, is_alive, reserved_by}
use Rattle.cc_book.specs.Session.{session_in}
use Rattle.cc_book.specs.Standing.{IsOutcome, IsSmall, Stands, after_change, after_debit, held_in, reserved_in}
use Rattle.cc_book.specs.Taking.{Ledger, answer_of, answer_within, is_borne}
use Rattle.cc_book.proofs.Alive.{is_alive-push, survives, taken}
use Rattle.cc_book.proofs.Keys.{kept_reply-at, kept_reply-new, new-without_reply}
use Rattle.cc_book.proofs.Outcomes.{after_debit-at, after_debit-length, take-stands}
use Rattle.cc_book.proofs.Postings.{postings_of-length}
use Rattle.cc_book.proofs.Replies.{answer_of-full}
use Rattle.cc_book.proofs.Sessions.{equal_number}
use Rattle.cc_book.proofs.Stands.{opening_at-map, reserved-stands}

-- ---- sizes

abs-least : (z : ℤ) → (pos 0 -ℤ pos (nat_abs z)) ≤ℤ z
abs-least (pos n) = omega (arith, ints)
abs-least (negsuc n) = omega (arith, ints)

abs-most : (z : ℤ) → z ≤ℤ pos (nat_abs z)
abs-most (pos n) = omega (arith, ints)
abs-most (negsuc n) = omega (arith, ints)

pub abs-within : (z : ℤ) (n : ℕ) → (pos 0 -ℤ pos n) ≤ℤ z → z ≤ℤ pos n → nat_abs z ≤ n
abs-within (pos m) n least most = omega (arith, ints)
abs-within (negsuc m) n least most = omega (arith, ints)

abs-sum : (y z : ℤ) → nat_abs (y +ℤ z) ≤ nat_abs y + nat_abs z
abs-sum y z =
    let a = abs-least y in
    let b = abs-most y in
    let c = abs-least z in
    let d = abs-most z in
    abs-within (y +ℤ z) (nat_abs y + nat_abs z) (omega (arith, ints)) (omega (arith, ints))

abs-less : (y z : ℤ) → nat_abs (y -ℤ z) ≤ nat_abs y + nat_abs z
abs-less y z =
    let a = abs-least y in
    let b = abs-most y in
    let c = abs-least z in
    let d = abs-most z in
    abs-within (y -ℤ z) (nat_abs y + nat_abs z) (omega (arith, ints)) (omega (arith, ints))

-- ---- whether an account bears one more request

below : (a b : ℕ) → a < b → ltb a b ≡ true
below a b h = search rules

bears-when : (balance : ℤ) (reserved : ℕ) → nat_abs balance + 2 ^ 103 < 2 ^ 124 → reserved + 2 ^ 89 < 2 ^ 124 → bears balance reserved ≡ true
bears-when balance reserved small few =
    and_from (ltb (nat_abs balance + 2 ^ 103) (2 ^ 124)) (ltb (reserved + 2 ^ 89) (2 ^ 124)) (below _ _ small) (below _ _ few)

bears-parts : (balance : ℤ) (reserved : ℕ) → bears balance reserved ≡ true → (nat_abs balance + 2 ^ 103 < 2 ^ 124) × (reserved + 2 ^ 89 < 2 ^ 124)
bears-parts balance reserved e =
    let parts = and_parts (ltb (nat_abs balance + 2 ^ 103) (2 ^ 124)) (ltb (reserved + 2 ^ 89) (2 ^ 124)) e in
    (ltb-true _ _ parts.0, ltb-true _ _ parts.1)

-- ---- what entries move

part : (b : Bool) (n : ℕ) → cond {A = ℕ} b n 0 ≤ n
part true n = omega arith
part false n = omega arith

debit_to-most : (account : ℕ) (p : Posting) → MovesLittle p → nat_abs (debit_to account p) ≤ 2 ^ 103
debit_to-most account p little = by (is_account account p.account) where
  by : (b : Bool) → nat_abs (cond b p.debit (pos 0)) ≤ 2 ^ 103
  by true = little.debit
  by false = omega arith

debits-most : (account : ℕ) (before : List Posting) → AllByRecursion MovesLittle before → nat_abs (debits_to account before) ≤ length before * 2 ^ 103
debits-most account [] all = omega arith
debits-most account (p ∷ before) all =
    let here = debit_to-most account p all.0 in
    let more = debits-most account before all.1 in
    let sum = abs-sum (debit_to account p) (debits_to account before) in
    omega arith

held_after-most : (validity : ℕ) (entry : Entry) (grants : List Hold) (after : List Posting) → held_after validity entry grants after ≤ held_in grants
held_after-most validity entry [] after = omega arith
held_after-most validity entry (grant ∷ grants) after =
    let sum = sum_by-cons (λ (g : Hold). cond (is_alive validity entry g.service after) g.cost 0) grant grants in
    let here = part (is_alive validity entry grant.service after) grant.cost in
    let more = held_after-most validity entry grants after in
    omega arith

reserved-most : (validity account : ℕ) (before : List Posting) → AllByRecursion MovesLittle before → reserved_by validity account before ≤ length before * 2 ^ 89
reserved-most validity account [] all = omega arith
reserved-most validity account (p ∷ after) all =
    let here = part (is_account account p.account) (held_after validity p.entry p.grants after) in
    let held = held_after-most validity p.entry p.grants after in
    let most = all.0.grants in
    let more = reserved-most validity account after all.1 in
    omega arith

-- an account bears one more request after few entries
pub few-bear : (terms : Terms) (before : List Posting) (account : Option ℕ) → OpensSmall terms → AllByRecursion MovesLittle before → length before < 2 ^ 20
    → account_bears terms before account ≡ true
few-bear terms before None small moved few = refl
few-bear terms before (Some account) small moved few =
    let opening = small account in
    let debits = debits-most account before moved in
    let reserved = reserved-most terms.validity account before moved in
    let balance = abs-less (opening_at terms.accounts account) (debits_to account before) in
    bears-when (opening_at terms.accounts account -ℤ debits_to account before) (reserved_by terms.validity account before) (omega arith) (omega arith)

-- ---- one more request

module _ (validity : ℕ) (moment : Moment) (request : CcRequest) (posting : Posting) where
  abbrev q : Posting
  q = taken moment request posting

  both : (a b : Bool) (n : ℕ) → cond {A = ℕ} (a && b) n 0 ≤ cond {A = ℕ} a n 0
  both true b n = part b n
  both false b n = omega arith

  held_after-push : (entry : Entry) (grants : List Hold) (after : List Posting)
      → held_after validity entry grants (after ++ q ∷ []) ≤ held_after validity entry grants after
  held_after-push entry [] after = omega arith
  held_after-push entry (grant ∷ grants) after =
      let now = sum_by-cons (λ (g : Hold). cond (is_alive validity entry g.service (after ++ q ∷ [])) g.cost 0) grant grants in
      let old = sum_by-cons (λ (g : Hold). cond (is_alive validity entry g.service after) g.cost 0) grant grants in
      let here : cond (is_alive validity entry grant.service (after ++ q ∷ [])) grant.cost 0
      ≡ cond (is_alive validity entry grant.service after && survives request posting.settles (session_in entry) grant.service) grant.cost 0 =
      ap (λ (b : Bool). cond b grant.cost 0) (is_alive-push validity moment request posting entry grant.service after) in
      let less = both (is_alive validity entry grant.service after) (survives request posting.settles (session_in entry) grant.service) grant.cost in
      let more = held_after-push entry grants after in
      omega arith

  less_if : (b : Bool) (m n : ℕ) → m ≤ n → cond {A = ℕ} b m 0 ≤ cond {A = ℕ} b n 0
  less_if true m n le = le
  less_if false m n le = omega arith

  -- one more request reserves no more than it is granted, and of its own account
  reserved_by-push : (account : ℕ) (before : List Posting)
      → reserved_by validity account (before ++ q ∷ []) ≤ reserved_by validity account before + cond (is_account account posting.account) (held_in posting.grants) 0
  reserved_by-push account [] =
      let most = less_if (is_account account posting.account) (held_after validity q.entry posting.grants []) (held_in posting.grants)
      (held_after-most validity q.entry posting.grants []) in
      omega arith
  reserved_by-push account (p ∷ before) =
      let here = less_if (is_account account p.account) (held_after validity p.entry p.grants (before ++ q ∷ [])) (held_after validity p.entry p.grants before)
      (held_after-push p.entry p.grants before) in
      let more = reserved_by-push account before in
      omega arith

-- amounts within their bounds are small
pub bounded-small : (terms : Terms) (balances : List ℤ) (sessions : List OpenSession) → length balances ≡ length terms.accounts
    → All (λ session. session.account < length terms.accounts) sessions → IsBounded balances sessions → IsSmall terms balances sessions
bounded-small terms balances sessions accounts known bounded = record {
  accounts = accounts;
  least = λ k d lt. (
      let size = bounded.balance k lt in
      let same = get_or_default balances k d (pos 0) lt in
      let least = abs-least (slice_index_or balances k (pos 0)) in omega (arith, ints));
  most = λ k d lt. (
      let size = bounded.balance k lt in
      let same = get_or_default balances k d (pos 0) lt in
      let most = abs-most (slice_index_or balances k (pos 0)) in omega (arith, ints));
  held = λ account. (let held = bounded.held account in omega arith);
  known = known;
}

module _ {terms : Terms} {before : List Posting} {balances : List ℤ} {sessions : List OpenSession} (s : Stands terms before balances sessions) where
  -- the amounts of a book are so small that no sum of them leaves 128 bits
  pub small-bounded : IsBounded balances sessions → IsSmall terms balances sessions
  small-bounded bounded = bounded-small terms balances sessions s.accounts s.known bounded

  -- whether an account bears a request is told by what stands
  pub borne-stands : (account : Option ℕ) → MatchOption account (Unit {0}) (λ a. a < length terms.accounts)
      → bears_in balances sessions account ≡ account_bears terms before account
  borne-stands None within = refl
  borne-stands (Some account) within =
      ap (λ (z : ℤ). bears z (reserved_in account sessions)) (s.balance account within)
      ∙ ap (λ (n : ℕ). bears (opening_at terms.accounts account -ℤ debits_to account before) n) (sym (reserved-stands s account))

  charged-bears : (charged : Option ℕ) → account_bears terms before charged ≡ true → (a : ℕ) → is_account a charged ≡ true
      → (nat_abs (opening_at terms.accounts a -ℤ debits_to a before) + 2 ^ 103 < 2 ^ 124) × (reserved_by terms.validity a before + 2 ^ 89 < 2 ^ 124)
  charged-bears None e a is = absurd cc
  charged-bears (Some other) e a is =
      subst (λ (n : ℕ). (nat_abs (opening_at terms.accounts n -ℤ debits_to n before) + 2 ^ 103 < 2 ^ 124) × (reserved_by terms.validity n before + 2 ^ 89 < 2 ^ 124))
      (sym (equal_number a other is))
      (bears-parts (opening_at terms.accounts other -ℤ debits_to other before) (reserved_by terms.validity other before) e)

  module _ (moment : Moment) (request : CcRequest) (outcome : Outcome) (d : IsOutcome terms before sessions moment request outcome)
      (borne : IsTrue (bears_request terms before request)) (old : IsBounded balances sessions) where
    balance-after : (a : ℕ) → a < length (after_debit balances outcome.account outcome.debit)
        → nat_abs (slice_index_or (after_debit balances outcome.account outcome.debit) a (pos 0)) < 2 ^ 124
    balance-after a lt =
        let long = after_debit-length balances outcome.account outcome.debit in
        let within : a < length balances = omega arith in
        subst (λ (z : ℤ). nat_abs z < 2 ^ 124) (sym (after_debit-at balances outcome.account outcome.debit a within))
        (by (is_account a outcome.account) refl within) where
          by : (b : Bool) → is_account a outcome.account ≡ b → a < length balances → nat_abs (slice_index_or balances a (pos 0) -ℤ cond b outcome.debit (pos 0)) < 2 ^ 124
          by true is within =
              let known : a < length terms.accounts = omega (arith, s.accounts) in
              let borne_here = (charged-bears (charged_account terms before request) borne a (ap (is_account a) (sym d.account) ∙ is)).0 in
              let same : nat_abs (slice_index_or balances a (pos 0)) ≡ nat_abs (opening_at terms.accounts a -ℤ debits_to a before) = ap nat_abs (s.balance a known) in
              let less = abs-less (slice_index_or balances a (pos 0)) outcome.debit in
              let debit = abs-within outcome.debit (2 ^ 103) (omega (arith, ints, d.least)) d.most in
              omega arith
          by false is within =
              let less = abs-less (slice_index_or balances a (pos 0)) (pos 0) in
              let small = old.balance a within in
              omega arith

    held-after : (a : ℕ) → reserved_in a (after_change sessions outcome.change) < 2 ^ 124
    held-after a =
        let now = reserved-stands (take-stands s d) a in
        let was = reserved-stands s a in
        let grown = reserved_by-push terms.validity moment request (posting_of terms before (Take moment request)) a before in
        by (is_account a (charged_account terms before request)) refl now was grown where
          by : (b : Bool) → is_account a (charged_account terms before request) ≡ b
              → reserved_by terms.validity a (before ++ posting_of terms before (Take moment request) ∷ []) ≡ reserved_in a (after_change sessions outcome.change)
              → reserved_by terms.validity a before ≡ reserved_in a sessions
              → reserved_by terms.validity a (before ++ posting_of terms before (Take moment request) ∷ [])
              ≤ reserved_by terms.validity a before + cond (is_account a (charged_account terms before request)) (held_in (grants_after terms before request)) 0
              → reserved_in a (after_change sessions outcome.change) < 2 ^ 124
          by true is now was grown =
              let borne_here = (charged-bears (charged_account terms before request) borne a is).1 in
              let most = d.grants in
              let more : cond (is_account a (charged_account terms before request)) (held_in (grants_after terms before request)) 0
              ≡ held_in (grants_after terms before request) = ap (λ (b : Bool). cond b (held_in (grants_after terms before request)) 0) is in
              omega arith
          by false is now was grown =
              let few = old.held a in
              let none : cond (is_account a (charged_account terms before request)) (held_in (grants_after terms before request)) 0 ≡ 0 =
              ap (λ (b : Bool). cond b (held_in (grants_after terms before request)) 0) is in
              omega arith

    -- what stands after a request that is borne is within its bounds
    pub bounded-push : IsBounded (after_debit balances outcome.account outcome.debit) (after_change sessions outcome.change)
    bounded-push = record { balance = balance-after; held = held-after }

pub moves-little : (terms : Terms) (before : List Posting) (sessions : List OpenSession) (moment : Moment) (request : CcRequest) (outcome : Outcome)
    → IsOutcome terms before sessions moment request outcome → MovesLittle (posting_of terms before (Take moment request))
moves-little terms before sessions moment request outcome d = record {
  debit = subst (λ (z : ℤ). nat_abs z ≤ 2 ^ 103) d.debit (abs-within outcome.debit (2 ^ 103) (omega (arith, ints, d.least)) d.most);
  grants = d.grants;
}

-- ---- before the first request

pub opening_at-beyond : (accounts : List Account) (k : ℕ) → length accounts ≤ k → opening_at accounts k ≡ pos 0
opening_at-beyond [] k le = refl
opening_at-beyond (a ∷ accounts) zero le = absurd (omega arith)
opening_at-beyond (a ∷ accounts) (suc k) le = opening_at-beyond accounts k (omega arith)

module _ (terms : Terms) (balances : List ℤ) (openings : balances ≡ map (λ account. account.opening) terms.accounts)
    (least : All (λ balance. negsuc (2 ^ 63) ≤ℤ balance) balances) (most : All (λ balance. balance ≤ℤ pos (2 ^ 63)) balances) where
  size-at : (k : ℕ) → k < length balances → nat_abs (slice_index_or balances k (pos 0)) ≤ 2 ^ 64
  size-at k lt =
      let low = least k (pos 0) lt in
      let high = most k (pos 0) lt in
      abs-within (slice_index_or balances k (pos 0)) (2 ^ 64) (omega (arith, ints)) (omega (arith, ints))

  pub opens-small : OpensSmall terms
  opens-small account = elim (cases_lt account (length terms.accounts)) as (λ _. nat_abs (opening_at terms.accounts account) ≤ 2 ^ 64) [
    | inl lt ↦ (
        let long : length balances ≡ length terms.accounts = ap length openings ∙ length-map terms.accounts (λ (a : Account). a.opening) in
        let same : slice_index_or balances account (pos 0) ≡ opening_at terms.accounts account =
        ap (λ (zs : List ℤ). slice_index_or zs account (pos 0)) openings ∙ opening_at-map terms.accounts account lt in
        subst (λ (z : ℤ). nat_abs z ≤ 2 ^ 64) same (size-at account (omega arith)))
    | inr le ↦ subst (λ (z : ℤ). nat_abs z ≤ 2 ^ 64) (sym (opening_at-beyond terms.accounts account le)) (omega arith)
  ]

  pub bounded-empty : IsBounded balances []
  bounded-empty = record {
    balance = λ account lt. (let size = size-at account lt in omega arith);
    held = λ account. omega arith;
  }

-- ---- a short book is full exactly at its limit

when : {X : Type 0} (a b : Bool) (x y : X) → a ≡ true → cond (a || b) x y ≡ x
when a b x y e = ap (λ (c : Bool). cond (c || b) x y) e

or_when : {X : Type 0} (a b : Bool) (x y : X) → b ≡ true → cond (a || b) x y ≡ x
or_when true b x y e = refl
or_when false b x y e = ap (λ (c : Bool). cond c x y) e

either : {X : Type 0} (b : Bool) (x y : X) → x ≡ y → cond b x y ≡ x
either true x y same = refl
either false x y same = sym same

neither : {X : Type 0} (a b : Bool) (x y : X) → a ≡ false → b ≡ false → cond (a || b) x y ≡ y
neither a b x y e f = ap (λ (c : Bool). cond (c || b) x y) e ∙ ap (λ (c : Bool). cond c x y) f

-- a request that is kept is answered so, whatever its account bears
pub within-kept : (ledger : Ledger) (request taken : CcRequest) (place : ℕ) → IsKeptAt ledger.history (key_of request) place taken
    → answer_within ledger request ≡ answer_of ledger request
within-kept ledger request taken place at =
    when (is_some (kept_reply ledger.terms ledger.history request)) (bears_request (terms_of ledger.terms ledger.history) (postings_of ledger.terms ledger.history) request)
    (answer_of ledger request) (Err (Full ledger.limit)) (ap is_some (kept_reply-at ledger.terms ledger.history request place taken at))

-- a book at its limit refuses whatever is new
pub within-full : (ledger : Ledger) (request : CcRequest) → answer_of ledger request ≡ Err (Full ledger.limit)
    → answer_within ledger request ≡ answer_of ledger request
within-full ledger request full = either (is_borne ledger request) (answer_of ledger request) (Err (Full ledger.limit)) full

-- and a new request that its account does not bear is refused so
pub within-refused : (ledger : Ledger) (request : CcRequest) → IsNew ledger.history (key_of request)
    → bears_request (terms_of ledger.terms ledger.history) (postings_of ledger.terms ledger.history) request ≡ false → answer_within ledger request ≡ Err (Full ledger.limit)
within-refused ledger request new unborne =
    neither (is_some (kept_reply ledger.terms ledger.history request)) (bears_request (terms_of ledger.terms ledger.history) (postings_of ledger.terms ledger.history) request)
    (answer_of ledger request) (Err (Full ledger.limit)) (ap is_some (kept_reply-new ledger.terms ledger.history request new)) unborne

-- a request that its account bears is answered as by its count alone
pub within-borne : (ledger : Ledger) (request : CcRequest) → IsTrue (bears_request (terms_of ledger.terms ledger.history) (postings_of ledger.terms ledger.history) request)
    → answer_within ledger request ≡ answer_of ledger request
within-borne ledger request borne =
    or_when (is_some (kept_reply ledger.terms ledger.history request)) (bears_request (terms_of ledger.terms ledger.history) (postings_of ledger.terms ledger.history) request)
    (answer_of ledger request) (Err (Full ledger.limit)) borne

pub full-at-limit : (ledger : Ledger) (request : CcRequest) → ledger.limit ≤ 2 ^ 20 → OpensSmall (terms_of ledger.terms ledger.history)
    → AllByRecursion MovesLittle (postings_of ledger.terms ledger.history) → answer_within ledger request ≡ answer_of ledger request
full-at-limit ledger request short small moved = by (kept_reply ledger.terms ledger.history request) refl where
  by : (kept : Option CcReply) → kept_reply ledger.terms ledger.history request ≡ kept → answer_within ledger request ≡ answer_of ledger request
  by (Some reply) e =
      when (is_some (kept_reply ledger.terms ledger.history request)) (bears_request (terms_of ledger.terms ledger.history) (postings_of ledger.terms ledger.history) request)
      (answer_of ledger request) (Err (Full ledger.limit)) (ap is_some e)
  by None e = elim (cases_lt (length ledger.history) ledger.limit) as (λ _. answer_within ledger request ≡ answer_of ledger request) [
    | inl room ↦ (
        let long = postings_of-length ledger.terms ledger.history in
        within-borne ledger request
        (few-bear (terms_of ledger.terms ledger.history) (postings_of ledger.terms ledger.history) (charged_account (terms_of ledger.terms ledger.history) (postings_of ledger.terms ledger.history) request) small moved
        (omega arith)))
    | inr full ↦ within-full ledger request (answer_of-full ledger request (new-without_reply ledger.terms ledger.history request e) full)
  ]
