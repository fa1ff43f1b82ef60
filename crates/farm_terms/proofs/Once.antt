-- Accounts that stand once, account by account.
use Rattle.std.proofs.Common.{◌≡◌, ℕ, suc, ◌+◌, ◌<◌, not, ◌&&◌, List, length, take, drop, get_or, sym, ap, ◌∙◌, add-one}
use Rattle.std.specs.List.{list_any}
use Rattle.std.proofs.Math.Seq.{drop-cons}
use Rattle.std.proofs.lemmas.List.{take_more}
use Rattle.cc_book.specs.declared.account.Account.{Account}
use Rattle.cc_book.specs.Owners.{same_owner}
use Rattle.farm_terms.specs.SiteAccounts.{stand_once_behind}

-- the account at a place, behind those before it
pub once_at : (xs : List Account) (i : ℕ) (d : Account) → i < length xs
    → stand_once_behind (take i xs) (drop i xs)
    ≡ (not (list_any (same_owner (get_or xs i d)) (take i xs)) && stand_once_behind (take (i + 1) xs) (drop (i + 1) xs))
once_at xs i d lt =
    ap (stand_once_behind (take i xs)) (drop-cons xs i d lt)
    ∙ ap (λ (front : List Account). not (list_any (same_owner (get_or xs i d)) (take i xs)) && stand_once_behind front (drop (suc i) xs))
    (sym (take_more xs i d lt))
    ∙ ap (λ (j : ℕ). not (list_any (same_owner (get_or xs i d)) (take i xs)) && stand_once_behind (take (i + 1) xs) (drop j xs)) (sym (add-one i))
