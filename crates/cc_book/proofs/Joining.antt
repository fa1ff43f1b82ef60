-- Accounts that join: the first fault of a change, account by account.
use Rattle.std.proofs.Common.{◌≡◌, ℕ, suc, ◌+◌, ◌<◌, List, Option, length, take, drop, get_or, sym, ap, ◌∙◌, add-one}
use Rattle.std.specs.Option.{option_or}
use Rattle.std.proofs.Math.Seq.{drop-cons}
use Rattle.std.proofs.lemmas.List.{take_more}
use Rattle.cc_book.specs.declared.account.Account.{Account}
use Rattle.cc_view.specs.declared.request.Subscription.{Subscription}
use Rattle.cc_book.specs.declared.terms_change.ChangeRefusal.{ChangeRefusal}
use Rattle.cc_book.specs.TermsChange.{account_fault, first_fault, joining_fault}

-- the account at a place, after those before it
pub joining_fault_at : (accounts xs : List Account) (i : ℕ) (d : Account) → i < length xs
    → joining_fault accounts (take i xs) (drop i xs)
    ≡ option_or (account_fault accounts (take i xs) (get_or xs i d)) (joining_fault accounts (take (i + 1) xs) (drop (i + 1) xs))
joining_fault_at accounts xs i d lt =
    ap (joining_fault accounts (take i xs)) (drop-cons xs i d lt)
    ∙ ap (λ (front : List Account). option_or (account_fault accounts (take i xs) (get_or xs i d)) (joining_fault accounts front (drop (suc i) xs)))
    (sym (take_more xs i d lt))
    ∙ ap (λ (j : ℕ). option_or (account_fault accounts (take i xs) (get_or xs i d)) (joining_fault accounts (take (i + 1) xs) (drop j xs))) (sym (add-one i))

-- the same of accounts that close or open again
pub first_fault_at : (fault : List Subscription → Subscription → Option ChangeRefusal) (xs : List Subscription) (i : ℕ) (d : Subscription) → i < length xs
    → first_fault fault (take i xs) (drop i xs)
    ≡ option_or (fault (take i xs) (get_or xs i d)) (first_fault fault (take (i + 1) xs) (drop (i + 1) xs))
first_fault_at fault xs i d lt =
    ap (first_fault fault (take i xs)) (drop-cons xs i d lt)
    ∙ ap (λ (front : List Subscription). option_or (fault (take i xs) (get_or xs i d)) (first_fault fault front (drop (suc i) xs)))
    (sym (take_more xs i d lt))
    ∙ ap (λ (j : ℕ). option_or (fault (take i xs) (get_or xs i d)) (first_fault fault (take (i + 1) xs) (drop j xs))) (sym (add-one i))
