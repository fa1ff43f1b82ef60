-- What sessions hold, and openings as balances.
use Rattle.std.proofs.Common.{◌≡◌, ℕ, zero, suc, ◌+◌, ◌<◌, ◌≤◌, Bool, true, false, cond, eqb, List, [], ◌∷◌, ◌++◌, length, map, take, drop, get_or, not, All, Some, refl, subst, sym, ap, ◌∙◌, arith, rules}
use Rattle.std.proofs.Math.Seq.{drop-cons}
use Rattle.std.specs.Prelude.{slice_get}
use Rattle.std.proofs.lemmas.List.{map-append, take_more}
use Rattle.cc_book.specs.declared.account.Account.{Account}
use Rattle.cc_book.specs.declared.session.OpenSession.{OpenSession}
use Rattle.std.proofs.lemmas.Option.{get_or_from_slice_get, slice_get_within}
use Rattle.cc_view.specs.declared.request.Service.{Service}
use Rattle.cc_book.specs.declared.session.Hold.{Hold}
use Rattle.cc_book.specs.Standing.{held_in, holds_beside, is_named, reserved_in}

pub openings-more : (accounts : List Account) (i : ℕ) (d : Account) → i < length accounts
    → map (λ (a : Account). a.opening) (take (i + 1) accounts) ≡ map (λ (a : Account). a.opening) (take i accounts) ++ (get_or accounts i d).opening ∷ []
openings-more accounts i d lt =
    ap (map (λ (a : Account). a.opening)) (take_more accounts i d lt) ∙ map-append (λ (a : Account). a.opening) (take i accounts) (get_or accounts i d ∷ [])

same_account : (a b : ℕ) → a ≡ b → eqb a b ≡ true
same_account a b e = search rules

-- what a session of the account adds, while the sessions are added up from the front
pub reserved_in-next : (account : ℕ) (sessions : List OpenSession) (i reserved : ℕ) (session : OpenSession)
    → reserved + reserved_in account (drop i sessions) ≡ reserved_in account sessions
    → i < length sessions → session ≡ get_or sessions i session → session.account ≡ account
    → reserved + held_in session.holds ≤ reserved_in account sessions
reserved_in-next account sessions i reserved session sum lt is own =
    let first = drop-cons sessions i session lt in
    let parts : reserved_in account (drop i sessions) ≡ cond (eqb session.account account) (held_in session.holds) 0 + reserved_in account
    (drop (suc i) sessions) =
    ap (reserved_in account) first ∙ ap (λ (s : OpenSession). cond (eqb s.account account) (held_in s.holds) 0 + reserved_in account (drop (suc i) sessions))
    (sym is) in
    let here : cond (eqb session.account account) (held_in session.holds) 0 ≡ held_in session.holds =
    ap (λ (b : Bool). cond b (held_in session.holds) 0) (same_account session.account account own) in
    omega arith

-- ---- one open session

pub held-at : (sessions : List OpenSession) (place : ℕ) (session : OpenSession) → slice_get sessions place ≡ Some session
    → held_in session.holds ≤ reserved_in session.account sessions
held-at [] place session there = absurd cc
held-at (s ∷ sessions) zero session there =
    let same : s ≡ session = cc in
    let own : cond (eqb s.account session.account) (held_in s.holds) 0 ≡ held_in session.holds =
    ap (λ (x : OpenSession). cond (eqb x.account session.account) (held_in x.holds) 0) same
    ∙ ap (λ (b : Bool). cond b (held_in session.holds) 0) (same_account session.account session.account refl) in
    omega arith
held-at (s ∷ sessions) (suc place) session there = let more = held-at sessions place session there in omega arith

pub account-at : (count : ℕ) (sessions : List OpenSession) (place : ℕ) (session : OpenSession) → slice_get sessions place ≡ Some session
    → All (λ s. s.account < count) sessions → session.account < count
account-at count sessions place session there known =
    subst (λ (s : OpenSession). s.account < count) (get_or_from_slice_get sessions place session session there)
    (known place session (slice_get_within sessions place session there))

-- what is left of holds is no more than they were
pub held_in-beside : (services : List Service) (holds : List Hold) → held_in (holds_beside services holds) ≤ held_in holds
held_in-beside services [] = omega arith
held_in-beside services (hold ∷ holds) = by (is_named services hold) (held_in-beside services holds) where
  by : (named : Bool) → held_in (holds_beside services holds) ≤ held_in holds
      → held_in (cond (not named) (hold ∷ holds_beside services holds) (holds_beside services holds)) ≤ hold.cost + held_in holds
  by true more = omega arith
  by false more = omega arith
