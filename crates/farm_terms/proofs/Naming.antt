-- One account more is named.
use Rattle.std.proofs.Common.{◌≡◌, ℕ, ◌+◌, ◌<◌, Bool, true, false, cond, not, ◌&&◌, ◌||◌, eqb, List, [], ◌∷◌, ◌++◌, length, get_or, set, Option, Some, None, refl, sym, ap, subst, ◌∙◌, append_assoc, append-nil, length-append, arith, rules}
use Rattle.std.specs.Global.{Vec}
use Rattle.std.specs.List.{filter, list_all, list_any}
use Rattle.std.specs.Ordering.{int_eq}
use Rattle.std.proofs.lemmas.List.{get_or-set_other, get_or-set_same}
use Rattle.std.proofs.lemmas.List.Elements.{filter-append}
use Rattle.std.proofs.lemmas.List.Folds.{list_all-append, list_any-append, list_any_at}
use Rattle.std.proofs.lemmas.List.Quantifiers.{position-Some}
use Rattle.cc_book.specs.declared.account.Account.{Account}
use Rattle.cc_view.specs.declared.request.Subscription.{Subscription}
use Rattle.cc_book.specs.Octets.{same_session}
use Rattle.cc_book.specs.Owners.{account_with, one_subscription, owner_of, owns, same_owner, same_subscription}
use Rattle.dia_base.proofs.Finding.{position-none}
use Rattle.book_terms.specs.Difference.{has_other_opening, is_known, is_there, joining_of, same_account}
use Rattle.book_terms.proofs.Leading.{there_has_no_other}
use Rattle.farm_terms.specs.declared.joining.Named.{Named}
use Rattle.farm_terms.specs.Joining.{GoesOn, IsNamed, is_marked, marked_at}
use Rattle.farm_terms.specs.SiteAccounts.{stand_once_behind}

-- ---- tests

neither : (a b : Bool) → a ≡ false → b ≡ false → (a || b) ≡ false
neither true b none e = absurd cc
neither false b none e = e

neither_left : (a b : Bool) → (a || b) ≡ false → a ≡ false
neither_left true b e = absurd cc
neither_left false b e = refl

neither_right : (a b : Bool) → (a || b) ≡ false → b ≡ false
neither_right true b e = absurd cc
neither_right false b e = e

both : (a b : Bool) → a ≡ true → b ≡ true → (a && b) ≡ true
both true b e f = f
both false b e f = absurd cc

both_left : (a b : Bool) → (a && b) ≡ true → a ≡ true
both_left true b e = refl
both_left false b e = absurd cc

both_right : (a b : Bool) → (a && b) ≡ true → b ≡ true
both_right true b e = e
both_right false b e = absurd cc

-- ---- one more at the end of a list

none_passes : {X : Type 0} (p : X → Bool) (xs : List X) (x : X) → list_any p xs ≡ false → p x ≡ false → list_any p (xs ++ x ∷ []) ≡ false
none_passes p xs x before here = list_any-append p xs (x ∷ []) ∙ neither (list_any p xs) (p x || false) before (neither (p x) false here refl)

all_pass : {X : Type 0} (p : X → Bool) (xs : List X) (x : X) → list_all p xs ≡ true → p x ≡ true → list_all p (xs ++ x ∷ []) ≡ true
all_pass p xs x before here = list_all-append p xs (x ∷ []) ∙ both (list_all p xs) (p x && true) before (both (p x) true here refl)

once_more : (front before : List Account) (account : Account) → stand_once_behind front before ≡ true → list_any (same_owner account) (front ++ before) ≡ false
    → stand_once_behind front (before ++ account ∷ []) ≡ true
once_more front [] account once none =
    both (not (list_any (same_owner account) front)) true (ap not (ap (list_any (same_owner account)) (sym (append-nil front)) ∙ none)) refl
once_more front (other ∷ before) account once none =
    let first = not (list_any (same_owner other) front) in
    let rest = stand_once_behind (front ++ other ∷ []) before in
    both first _ (both_left first rest once)
    (once_more (front ++ other ∷ []) before account (both_right first rest once) (ap (list_any (same_owner account)) (append_assoc front (other ∷ []) before) ∙ none))

-- ---- marks

marked_by : (there : List Account) (marks : List Bool) (place : ℕ) → place < length marks → (found : Option ℕ) → marked_at marks found ≡ true → marked_at (set marks place true) found ≡ true
marked_by there marks place within None is = refl
marked_by there marks place within (Some other) is = grind (arith, get_or-set_other, get_or-set_same)

-- what is marked stays marked
stay_marked : (there : List Account) (marks : List Bool) (place : ℕ) → place < length marks → (accounts : List Account) → list_all (is_marked there marks) accounts ≡ true
    → list_all (is_marked there (set marks place true)) accounts ≡ true
stay_marked there marks place within [] all = refl
stay_marked there marks place within (account ∷ accounts) all =
    let here = is_marked there marks account in
    let rest = list_all (is_marked there marks) accounts in
    both _ _ (marked_by there marks place within (account_with there (owner_of account)) (both_left here rest all)) (stay_marked there marks place within accounts (both_right here rest all))

-- ---- whether the owner was named before

one_owner : (account other : Account) → same_owner account other ≡ true → owner_of account ≡ owner_of other
one_owner account other same = one_subscription (owner_of account) (owner_of other) same

another_by : (there : List Account) (marks : List Bool) (account other : Account) (place : ℕ) → account_with there (owner_of account) ≡ Some place → get_or marks place false ≡ false
    → is_marked there marks other ≡ true → (same : Bool) → same_owner account other ≡ same → same ≡ false
another_by there marks account other place found fresh marked false is = refl
another_by there marks account other place found fresh marked true is =
    let at : account_with there (owner_of other) ≡ Some place = ap (account_with there) (sym (one_owner account other is)) ∙ found in
    let no : get_or marks place false ≡ true = ap (marked_at marks) (sym at) ∙ marked in absurd cc

-- an owner whose first account in the book is not marked
pub fresh_there : (there : List Account) (marks : List Bool) (account : Account) (place : ℕ) → account_with there (owner_of account) ≡ Some place → get_or marks place false ≡ false
    → (accounts : List Account) → list_all (is_marked there marks) accounts ≡ true → list_any (same_owner account) accounts ≡ false
fresh_there there marks account place found fresh [] all = refl
fresh_there there marks account place found fresh (other ∷ accounts) all =
    let here = is_marked there marks other in
    let rest = list_all (is_marked there marks) accounts in
    neither _ _ (another_by there marks account other place found fresh (both_left here rest all) (same_owner account other) refl)
    (fresh_there there marks account place found fresh accounts (both_right here rest all))

known_alike : (there : List Account) (account other : Account) → same_owner account other ≡ true → is_known there other ≡ is_known there account
known_alike there account other same = ap (λ (s : Subscription). list_any (λ (a : Account). same_subscription s (owner_of a)) there) (sym (one_owner account other same))

unknown_by : (there : List Account) (account other : Account) → is_known there account ≡ false → is_known there other ≡ true → (same : Bool) → same_owner account other ≡ same → same ≡ false
unknown_by there account other unknown known false is = refl
unknown_by there account other unknown known true is = let alike = known_alike there account other is in absurd cc

fresh_beside : (there : List Account) (account other : Account) (accounts joining : List Account) → is_known there account ≡ false
    → (list_any (same_owner account) joining ≡ false → list_any (same_owner account) accounts ≡ false) → (known : Bool) → is_known there other ≡ known
    → list_any (same_owner account) (cond (not known) (other ∷ joining) joining) ≡ false → list_any (same_owner account) (other ∷ accounts) ≡ false
fresh_beside there account other accounts joining unknown others true is none =
    neither _ _ (unknown_by there account other unknown is (same_owner account other) refl) (others none)
fresh_beside there account other accounts joining unknown others false is none =
    neither _ _ (neither_left (same_owner account other) _ none) (others (neither_right (same_owner account other) _ none))

-- an owner who has no account in the book, nor among those that join
pub fresh_joining : (there : List Account) (account : Account) → is_known there account ≡ false → (accounts : List Account)
    → list_any (same_owner account) (joining_of there accounts) ≡ false → list_any (same_owner account) accounts ≡ false
fresh_joining there account unknown [] none = refl
fresh_joining there account unknown (other ∷ accounts) none =
    fresh_beside there account other accounts (joining_of there accounts) unknown (fresh_joining there account unknown accounts) (is_known there other) refl none

-- ---- the account in the book

turned_number : (m n : ℕ) → eqb m n ≡ eqb n m
turned_number m n = search rules

turned_text : (xs ys : List ℕ) → same_session xs ys ≡ same_session ys xs
turned_text [] [] = refl
turned_text [] (y ∷ ys) = refl
turned_text (x ∷ xs) [] = refl
turned_text (x ∷ xs) (y ∷ ys) = λ i. turned_number x y i && turned_text xs ys i

owned : (account other : Account) → owns (owner_of account) other ≡ same_owner account other
owned account other = λ i. turned_number other.id_kind account.id_kind i && turned_text other.id account.id i

owned_by : (account : Account) (there : List Account) → list_any (owns (owner_of account)) there ≡ list_any (same_owner account) there
owned_by account [] = refl
owned_by account (other ∷ there) = λ i. owned account other i || owned_by account there i

-- an account whose owner's first one in the book has its opening
there_at : (there : List Account) (account other : Account) (place : ℕ) → account_with there (owner_of account) ≡ Some place → get_or there place other ≡ other
    → int_eq account.opening other.opening ≡ true → (is_there there account ≡ true)
there_at there account other place found is opening =
    let at = position-Some (owns (owner_of account)) there place other found in
    let owner : owns (owner_of account) other ≡ true = ap (owns (owner_of account)) (sym is) ∙ at.1 in
    let same : same_owner account other ≡ true = sym (owned account other) ∙ owner in
    list_any_at (same_account account) there place other at.0 (ap (same_account account) is ∙ both _ _ same opening)

-- ---- one account more

joins_no_more : (there accounts : List Account) (account : Account) → is_known there account ≡ true → joining_of there accounts ≡ joining_of there (accounts ++ account ∷ [])
joins_no_more there accounts account known =
    let p : Account → Bool = λ a. not (is_known there a) in
    sym (filter-append p accounts (account ∷ []) ∙ ap (λ (b : Bool). filter p accounts ++ cond (not b) (account ∷ []) []) known ∙ append-nil (filter p accounts))

joins_too : (there accounts : List Account) (account : Account) → is_known there account ≡ false → joining_of there accounts ++ account ∷ [] ≡ joining_of there (accounts ++ account ∷ [])
joins_too there accounts account unknown =
    let p : Account → Bool = λ a. not (is_known there a) in
    sym (filter-append p accounts (account ∷ []) ∙ ap (λ (b : Bool). filter p accounts ++ cond (not b) (account ∷ []) []) unknown)

counted_more : (named : ℕ) (accounts : List Account) (account : Account) → named ≡ length accounts → named + 1 ≡ length (accounts ++ account ∷ [])
counted_more named accounts account e = grind (arith, length-append)

none_known : (there : List Account) (account : Account) → account_with there (owner_of account) ≡ None → is_known there account ≡ false
none_known there account none = sym (owned_by account there) ∙ position-none (owns (owner_of account)) there none

unknown_has_no_other : (there : List Account) (account : Account) → is_known there account ≡ false → has_other_opening there account ≡ false
unknown_has_no_other there account unknown = ap (λ known. known && not (is_there there account)) unknown

known : (there : List Account) (account : Account) (place : ℕ) → account_with there (owner_of account) ≡ Some place → is_known there account ≡ true
known there account place found =
    let at = position-Some (owns (owner_of account)) there place account found in
    sym (owned_by account there) ∙ list_any_at (owns (owner_of account)) there place account at.0 at.1

-- an account that the book has, and whose owner is not marked, is named by the mark
pub named_there : (there : List Account) (old new : Named) (account other : Account) (place : ℕ) → account_with there (owner_of account) ≡ Some place → get_or there place other ≡ other
    → int_eq account.opening other.opening ≡ true → get_or old.marks.items place false ≡ false → place < length old.marks.items → new.marks.items ≡ set old.marks.items place true
    → new.joining ≡ old.joining → new.count ≡ old.count + 1 → GoesOn there (account ∷ []) old new
named_there there old new account other place found is opening fresh within marks joining count before named = record {
  once = once_more [] before account named.once (fresh_there there old.marks.items account place found fresh before named.marked);
  openings = none_passes (has_other_opening there) before account named.openings (there_has_no_other there account (there_at there account other place found is opening));
  marked =
      ap (λ (m : List Bool). list_all (is_marked there m) (before ++ account ∷ [])) marks
      ∙ all_pass (is_marked there (set old.marks.items place true)) before account (stay_marked there old.marks.items place within before named.marked)
      (ap (marked_at (set old.marks.items place true)) found ∙ get_or-set_same old.marks.items place true false within);
  joining = joining ∙ named.joining ∙ joins_no_more there before account (known there account place found);
  counted = count ∙ counted_more old.count before account named.counted;
}

-- an account whose owner has none in the book, nor among those that join, is named by joining
pub named_joining : (there : List Account) (old new : Named) (account : Account) → account_with there (owner_of account) ≡ None → list_any (same_owner account) old.joining ≡ false
    → new.joining ≡ old.joining ++ account ∷ [] → new.marks ≡ old.marks → new.count ≡ old.count + 1 → GoesOn there (account ∷ []) old new
named_joining there old new account none fresh joining marks count before named =
    let unknown : is_known there account ≡ false = none_known there account none in
    record {
      once = once_more [] before account named.once (fresh_joining there account unknown before (ap (list_any (same_owner account)) (sym named.joining) ∙ fresh));
      openings = none_passes (has_other_opening there) before account named.openings (unknown_has_no_other there account unknown);
      marked =
          ap (λ (m : Vec Bool). list_all (is_marked there m.items) (before ++ account ∷ [])) marks
          ∙ all_pass (is_marked there old.marks.items) before account named.marked (ap (marked_at old.marks.items) none);
      joining = joining ∙ ap (λ (l : List Account). l ++ account ∷ []) named.joining ∙ joins_too there before account unknown;
      counted = count ∙ counted_more old.count before account named.counted;
    }

-- ---- many

pub goes_nowhere : (there : List Account) (named : Named) → GoesOn there [] named named
goes_nowhere there named before is = subst (λ (accounts : List Account). IsNamed there accounts named) (sym (append-nil before)) is

pub goes_further : (there : List Account) (one more : List Account) (old mid new : Named) → GoesOn there one old mid → GoesOn there more mid new → GoesOn there (one ++ more) old new
goes_further there one more old mid new first then before is =
    subst (λ (accounts : List Account). IsNamed there accounts new) (append_assoc before one more) (then (before ++ one) (first before is))
