-- Looking through lists from the front on.
use Rattle.std.proofs.Common.{◌≡◌, ℕ, zero, suc, ◌+◌, ◌<◌, Bool, true, false, cond, ltb, Option, Some, None, rules, List, [], ◌∷◌, length, drop, get_or, refl, sym, ap, ◌∙◌, arith, add-one}
use Rattle.std.specs.List.{list_any, position_or_len}
use Rattle.std.specs.Option.{option_or}
use Rattle.std.specs.Prelude.{MatchOption}
use Rattle.std.proofs.Math.Seq.{drop-cons}
use Rattle.cc_view.specs.declared.request.Service.{Service}
use Rattle.cc_view.specs.declared.request.Subscription.{Subscription}
use Rattle.cc_book.specs.declared.account.Account.{Account}
use Rattle.cc_rating.specs.declared.tariff.Tariff.{Tariff}
use Rattle.cc_book.specs.declared.terms.Terms.{Terms}
use Rattle.cc_book.specs.AccountMachine.{account_of, add, is_closed_at, open_account, opening_at, service_cost, sum_of_costs}
use Rattle.cc_book.specs.TermsChange.{account_with, is_among, owns}

pub account_of-at : (terms : Terms) (xs : List Subscription) (i : ℕ) (d : Subscription) → i < length xs
    → account_of terms (drop i xs) ≡ option_or (open_account terms (get_or xs i d)) (account_of terms (drop (i + 1) xs))
account_of-at terms xs i d lt =
    ap (account_of terms) (drop-cons xs i d lt)
    ∙ ap (λ (j : ℕ). option_or (open_account terms (get_or xs i d)) (account_of terms (drop j xs))) (sym (add-one i))

-- whether the account at a place is closed
pub is_closed_at_get : (accounts : List Account) (closed : List Subscription) (i : ℕ) (d : Account) → i < length accounts
    → is_closed_at accounts closed i ≡ list_any (λ subscription. owns subscription (get_or accounts i d)) closed
is_closed_at_get [] closed i d lt = absurd (omega arith)
is_closed_at_get (x ∷ xs) closed zero d lt = refl
is_closed_at_get (x ∷ xs) closed (suc i) d lt = is_closed_at_get xs closed i d (omega arith)

pub sum_of_costs-at : (tariffs : List Tariff) (xs : List Service) (i : ℕ) (d : Service) → i < length xs
    → sum_of_costs tariffs (drop i xs) ≡ add (service_cost tariffs (get_or xs i d)) (sum_of_costs tariffs (drop (i + 1) xs))
sum_of_costs-at tariffs xs i d lt =
    ap (sum_of_costs tariffs) (drop-cons xs i d lt)
    ∙ ap (λ (j : ℕ). add (service_cost tariffs (get_or xs i d)) (sum_of_costs tariffs (drop j xs))) (sym (add-one i))

pub opening_at-get : (accounts : List Account) (i : ℕ) (d : Account) → i < length accounts → opening_at accounts i ≡ (get_or accounts i d).opening
opening_at-get [] i d lt = absurd (omega arith)
opening_at-get (x ∷ xs) zero d lt = refl
opening_at-get (x ∷ xs) (suc i) d lt = opening_at-get xs i d (omega arith)

-- ---- an account is one of the site's

position-within : (n len : ℕ) → MatchOption (cond (ltb n len) (Some n) None) (Unit {0}) (λ a. a < len)
position-within n len = by (ltb n len) refl where
  by : (b : Bool) → ltb n len ≡ b → MatchOption (cond b (Some n) None) (Unit {0}) (λ a. a < len)
  by true e = search rules
  by false e = tt

or_within : (first second : Option ℕ) (n : ℕ) → MatchOption first (Unit {0}) (λ a. a < n) → MatchOption second (Unit {0}) (λ a. a < n)
    → MatchOption (option_or first second) (Unit {0}) (λ a. a < n)
or_within None second n p q = q
or_within (Some a) second n p q = p

open-within : (terms : Terms) (s : Subscription) → MatchOption (open_account terms s) (Unit {0}) (λ a. a < length terms.accounts)
open-within terms s = by (is_among terms.closed s) where
  by : (b : Bool) → MatchOption (cond b None (account_with terms.accounts s)) (Unit {0}) (λ a. a < length terms.accounts)
  by true = tt
  by false = position-within (position_or_len (owns s) terms.accounts) (length terms.accounts)

pub account_of-within : (terms : Terms) (subscriptions : List Subscription)
    → MatchOption (account_of terms subscriptions) (Unit {0}) (λ a. a < length terms.accounts)
account_of-within terms [] = tt
account_of-within terms (s ∷ subscriptions) =
    or_within (open_account terms s) (account_of terms subscriptions) (length terms.accounts) (open-within terms s)
    (account_of-within terms subscriptions)
