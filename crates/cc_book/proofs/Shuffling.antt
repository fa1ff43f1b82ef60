-- Open sessions in another order: what postings have left of them stays.
use Rattle.std.proofs.Common.{◌≡◌, ℕ, ◌+◌, ◌<◌, Bool, true, false, cond, not, eqb, List, [], ◌∷◌, length, get_or, Option, Some, None, refl, sym, ap, subst, ◌∙◌, filter, find, slice_get, sum_by, option_map}
use Rattle.std.specs.Prelude.{ℤ, IfSome, IsPermutation}
use Rattle.std.proofs.lemmas.List.Sums.{sum_by-cons}
use Rattle.std.proofs.lemmas.List.Sorted.{All-permutation, Contains-permutation, IsPermutation-cons, IsPermutation-refl, IsPermutation-trans, sum_by-IsPermutation}
use Rattle.std.proofs.lemmas.Option.{slice_get-get_or, slice_get_within, get_or_from_slice_get}
use Rattle.dia_base.specs.declared.number.Moment.{Moment}
use Rattle.cc_book.specs.declared.session.OpenSession.{OpenSession}
use Rattle.cc_book.specs.declared.terms.Terms.{Terms}
use Rattle.cc_book.specs.Posting.{Posting}
use Rattle.cc_book.specs.Pricing.{price_in, price_of}
use Rattle.cc_book.specs.Standing.{Stands, held_in, holds_weight, ids_weight, is_due, is_session, opened_as, place_in, reserved_in, sessions_weight, without_at, without_due}
use Rattle.cc_book.proofs.Alive.{Weight}
use Rattle.cc_book.proofs.Changes.{Sit}
use Rattle.cc_book.proofs.Sessions.{OwnIds, find-at, find-others, is_at, is_at_place, open_at_place, others-closed, same_session-equal, same_session-met, same_session-other, same_session-turns}
use Rattle.cc_book.proofs.WithoutAt.{all-shuffled, apart-shuffled, without-shuffled}

-- ---- own ids

abbrev same_id : OpenSession → OpenSession → Bool
same_id one other = is_session other.id one

pub own_ids-shuffled : (xs ys : List OpenSession) → IsPermutation xs ys → OwnIds xs → OwnIds ys
own_ids-shuffled xs ys moved own = λ i j d lt below same.
    let apart = apart-shuffled same_id (λ one other. same_session-turns one.id other.id) xs ys moved
    (λ i j d lt below. same_session-other (get_or xs i d).id (get_or xs j d).id (own i j d lt below)) i j d lt below in
    let met = same_session-met (get_or ys i d).id (get_or ys j d).id same in
    absurd cc

-- ---- the session of an id

pub find-shuffled : (id : List ℕ) (xs ys : List OpenSession) → IsPermutation xs ys → OwnIds xs → find (is_session id) ys ≡ find (is_session id) xs
find-shuffled id xs ys moved own = by (place_in xs id) refl where
  by : (place : Option ℕ) → place_in xs id ≡ place → find (is_session id) ys ≡ find (is_session id) xs
  by None none =
      let others = others-closed id xs none in
      find-others id ys (all-shuffled (λ (s : OpenSession). is_session id s ≡ false) xs ys moved others) ∙ sym (find-others id xs others)
  by (Some place) some =
      let there = open_at_place id xs place some in
      let s = there.0 in
      let lt = slice_get_within xs place s there.1 in
      let at = Contains-permutation xs ys s moved (place, lt, get_or_from_slice_get xs place s s there.1) in
      let at_is : slice_get ys at.0 ≡ Some s = slice_get-get_or ys at.0 s at.1 ∙ ap Some at.2 in
      find-at id ys at.0 s (is_at id ys at.0 s at_is (same_session-equal s.id id there.2) (own_ids-shuffled xs ys moved own))
      ∙ sym (find-at id xs place s (is_at_place id xs place s some there.1 own))

-- ---- sums

sessions_weight-sum : (weight : Weight) (xs : List OpenSession) → sessions_weight weight xs ≡ sum_by (λ (s : OpenSession). holds_weight weight s.id s.account s.holds) xs
sessions_weight-sum weight [] = refl
sessions_weight-sum weight (x ∷ xs) =
    ap (λ (n : ℕ). holds_weight weight x.id x.account x.holds + n) (sessions_weight-sum weight xs)
    ∙ sym (sum_by-cons (λ (s : OpenSession). holds_weight weight s.id s.account s.holds) x xs)

ids_weight-sum : (weight : List ℕ → ℕ) (xs : List OpenSession) → ids_weight weight xs ≡ sum_by (λ (s : OpenSession). weight s.id) xs
ids_weight-sum weight [] = refl
ids_weight-sum weight (x ∷ xs) = ap (λ (n : ℕ). weight x.id + n) (ids_weight-sum weight xs) ∙ sym (sum_by-cons (λ (s : OpenSession). weight s.id) x xs)

abbrev held_by_one : ℕ → OpenSession → ℕ
held_by_one account s = cond (eqb s.account account) (held_in s.holds) 0

reserved-sum : (account : ℕ) (xs : List OpenSession) → reserved_in account xs ≡ sum_by (held_by_one account) xs
reserved-sum account [] = refl
reserved-sum account (x ∷ xs) = ap (λ (n : ℕ). held_by_one account x + n) (reserved-sum account xs) ∙ sym (sum_by-cons (held_by_one account) x xs)

pub sessions_weight-shuffled : (weight : Weight) (xs ys : List OpenSession) → IsPermutation xs ys → sessions_weight weight xs ≡ sessions_weight weight ys
sessions_weight-shuffled weight xs ys moved =
    sessions_weight-sum weight xs ∙ sym (sum_by-IsPermutation (λ (s : OpenSession). holds_weight weight s.id s.account s.holds) xs ys moved) ∙ sym (sessions_weight-sum weight ys)

pub ids_weight-shuffled : (weight : List ℕ → ℕ) (xs ys : List OpenSession) → IsPermutation xs ys → ids_weight weight xs ≡ ids_weight weight ys
ids_weight-shuffled weight xs ys moved =
    ids_weight-sum weight xs ∙ sym (sum_by-IsPermutation (λ (s : OpenSession). weight s.id) xs ys moved) ∙ sym (ids_weight-sum weight ys)

pub reserved-shuffled : (account : ℕ) (xs ys : List OpenSession) → IsPermutation xs ys → reserved_in account xs ≡ reserved_in account ys
reserved-shuffled account xs ys moved =
    reserved-sum account xs ∙ sym (sum_by-IsPermutation (held_by_one account) xs ys moved) ∙ sym (reserved-sum account ys)

-- ---- what stands

pub sit-shuffled : {terms : Terms} {before : List Posting} (xs ys : List OpenSession) → IsPermutation xs ys → Sit terms before xs → Sit terms before ys
sit-shuffled {terms} {before} xs ys moved s = record {
  session = λ id. s.session id ∙ ap (option_map (opened_as terms.validity)) (sym (find-shuffled id xs ys moved s.own_ids));
  own_ids = own_ids-shuffled xs ys moved s.own_ids;
  known = All-permutation (λ (x : OpenSession). x.account < length terms.accounts) xs ys moved s.known;
  holds = λ weight. s.holds weight ∙ sessions_weight-shuffled weight xs ys moved;
  count = λ weight. s.count weight ∙ ids_weight-shuffled weight xs ys moved;
  prices = λ id name. subst (λ (o : Option OpenSession). IfSome o (λ session. price_in session.prices name ≡ price_of id name before))
      (sym (find-shuffled id xs ys moved s.own_ids)) (s.prices id name);
}

pub stands-shuffled : {terms : Terms} {before : List Posting} {balances : List ℤ} (xs ys : List OpenSession) → IsPermutation xs ys
    → Stands terms before balances xs → Stands terms before balances ys
stands-shuffled {terms} {before} {balances} xs ys moved s =
    let sits = sit-shuffled {terms = terms} {before = before} xs ys moved
    (record { session = s.session; own_ids = s.own_ids; known = s.known; holds = s.holds; count = s.count; prices = s.prices }) in
    record {
      accounts = s.accounts;
      balance = s.balance;
      session = sits.session;
      own_ids = sits.own_ids;
      known = sits.known;
      holds = sits.holds;
      count = sits.count;
      prices = sits.prices;
    }

-- ---- a look at the clock

module _ (validity : ℕ) (moment : Moment) where
  -- the sessions that have not ended, in their order
  abbrev pub not_due : List OpenSession → List OpenSession
  not_due sessions = filter (λ session. not (is_due validity moment session)) sessions

  pub due-shuffled : (sessions : List OpenSession) → IsPermutation (not_due sessions) (without_due validity moment sessions)
  due-shuffled [] = IsPermutation-refl []
  due-shuffled (x ∷ sessions) = by (is_due validity moment x) (due-shuffled sessions) where
    by : (b : Bool) → IsPermutation (not_due sessions) (without_due validity moment sessions)
        → IsPermutation (cond (not b) (x ∷ not_due sessions) (not_due sessions))
        (cond b (without_at (x ∷ without_due validity moment sessions) 0) (x ∷ without_due validity moment sessions))
    by true rest = IsPermutation-trans (not_due sessions) (without_due validity moment sessions) (without_at (x ∷ without_due validity moment sessions) 0) rest
        (without-shuffled (x ∷ without_due validity moment sessions) 0 x refl)
    by false rest = IsPermutation-cons x (not_due sessions) (without_due validity moment sessions) rest
