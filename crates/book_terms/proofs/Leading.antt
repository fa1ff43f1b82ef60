-- Changes that are needed lead to the terms that are wanted.
use Rattle.std.proofs.Common.{◌≡◌, ◌||◌, ◌&&◌, Bool, true, false, not, cond, List, [], ◌∷◌, ◌++◌, Option, Some, None, refl, ap, sym, ◌∙◌, subst, append_assoc, append-nil, unwrap_or}
use Rattle.std.specs.Cmp.{int_eq_equiv}
use Rattle.std.specs.List.{list_all, list_any, position}
use Rattle.std.specs.Option.{is_none}
use Rattle.std.specs.Ordering.{int_eq}
use Rattle.std.proofs.lemmas.Cmp.{nat_eq_equiv, nat_list_eq_equiv}
use Rattle.std.proofs.lemmas.List.Folds.{list_any-append}
use Rattle.dia_base.proofs.Finding.{none-position}
use Rattle.cc_rating.specs.declared.tariff.Tariff.{Tariff}
use Rattle.cc_book.specs.declared.account.Account.{Account}
use Rattle.cc_book.specs.declared.terms.Terms.{Terms}
use Rattle.cc_book.specs.declared.terms_change.TermsChange.{TermsChange}
use Rattle.cc_book.specs.TermsChange.{changed_terms, no_accounts, no_subscriptions, same_owner, says_nothing}
use Rattle.book_terms.specs.declared.key.TermsKey.{TermsKey}
use Rattle.book_terms.specs.declared.key.TermsKey.TheVariants as keys
use Rattle.book_terms.specs.Difference.{DiffersIn, Hold, IsNeeded, SaysTariffs, has_other_opening, is_known, is_there, joining_of, same_account}

-- ---- tests

or_left : (a b : Bool) → a ≡ true → (a || b) ≡ true
or_left true b e = refl
or_left false b e = absurd cc

or_right : (a b : Bool) → b ≡ true → (a || b) ≡ true
or_right true b e = refl
or_right false b e = e

neither_left : (a b : Bool) → (a || b) ≡ false → a ≡ false
neither_left true b e = absurd cc
neither_left false b e = refl

neither_right : (a b : Bool) → (a || b) ≡ false → b ≡ false
neither_right true b e = absurd cc
neither_right false b e = e

neither : (a b : Bool) → a ≡ false → b ≡ false → (a || b) ≡ false
neither true b none e = absurd cc
neither false b none e = e

both : (a b : Bool) → a ≡ true → b ≡ true → (a && b) ≡ true
both true b e f = f
both false b e f = absurd cc

both_left : (a b : Bool) → (a && b) ≡ true → a ≡ true
both_left true b e = refl
both_left false b e = absurd cc

both_right : (a b : Bool) → (a && b) ≡ true → b ≡ true
both_right true b e = e
both_right false b e = absurd cc

and_not : (a b : Bool) → b ≡ true → (a && not b) ≡ false
and_not true true e = refl
and_not false true e = refl
and_not a false e = absurd cc

so_there : (a b : Bool) → (a && not b) ≡ false → a ≡ true → b ≡ true
so_there true true e f = refl
so_there true false e f = absurd cc
so_there false b e f = absurd cc

any_wider_at : {X : Type 0} (narrow wide : X → Bool) (x : X) (xs : List X) → (narrow x ≡ true → wide x ≡ true) → (list_any narrow xs ≡ true → list_any wide xs ≡ true)
    → (b : Bool) → narrow x ≡ b → (b || list_any narrow xs) ≡ true → (wide x || list_any wide xs) ≡ true
any_wider_at narrow wide x xs here later true is e = or_left (wide x) (list_any wide xs) (here is)
any_wider_at narrow wide x xs here later false is e = or_right (wide x) (list_any wide xs) (later e)

-- what passes the one test passes the other
any_wider : {X : Type 0} (narrow wide : X → Bool) → ((x : X) → narrow x ≡ true → wide x ≡ true) → (xs : List X) → list_any narrow xs ≡ true → list_any wide xs ≡ true
any_wider narrow wide wider [] e = absurd cc
any_wider narrow wide wider (x ∷ xs) e = any_wider_at narrow wide x xs (wider x) (any_wider narrow wide wider xs) (narrow x) refl e

-- ---- one account

same_itself : (account : Account) → same_account account account ≡ true
same_itself account =
    both (same_owner account account) (int_eq account.opening account.opening)
    (both _ _ (nat_eq_equiv.refl account.id_kind) (nat_list_eq_equiv.refl account.id)) (int_eq_equiv.refl account.opening)

pub there_is_known : (there : List Account) (account : Account) → is_there there account ≡ true → is_known there account ≡ true
there_is_known there account = any_wider (same_account account) (same_owner account) (λ x. both_left (same_owner account x) (int_eq account.opening x.opening)) there

pub there_has_no_other : (there : List Account) (account : Account) → is_there there account ≡ true → has_other_opening there account ≡ false
there_has_no_other there account e = and_not (is_known there account) (is_there there account) e

there_before : (there more : List Account) (account : Account) → is_there there account ≡ true → is_there (there ++ more) account ≡ true
there_before there more account e =
    list_any-append (same_account account) there more ∙ or_left (is_there there account) (is_there more account) e

there_behind : (there before after : List Account) (account : Account) → is_there (there ++ (before ++ account ∷ after)) account ≡ true
there_behind there before after account =
    list_any-append (same_account account) there (before ++ account ∷ after)
    ∙ or_right (is_there there account) _ (list_any-append (same_account account) before (account ∷ after)
    ∙ or_right (is_there before account) _ (or_left (same_account account account) (is_there after account) (same_itself account)))

-- ---- all accounts

stands_at : (there before : List Account) (account : Account) (wanted : List Account) (known : Bool) → is_known there account ≡ known → has_other_opening there account ≡ false
    → ((b : List Account) → list_all (is_there (there ++ (b ++ joining_of there wanted))) wanted ≡ true)
    → list_all (is_there (there ++ (before ++ cond (not known) (account ∷ joining_of there wanted) (joining_of there wanted)))) (account ∷ wanted) ≡ true
stands_at there before account wanted true is none others =
    both _ _ (there_before there (before ++ joining_of there wanted) account (so_there (is_known there account) (is_there there account) none is)) (others before)
stands_at there before account wanted false is none others =
    both _ _ (there_behind there before (joining_of there wanted) account)
    (let P : List Account → Type 0 = λ l. list_all (is_there (there ++ l)) wanted ≡ true in
    subst P (append_assoc before (account ∷ []) (joining_of there wanted)) (others (before ++ account ∷ [])))

-- each account stands there behind a change
stand : (there before wanted : List Account) → list_any (has_other_opening there) wanted ≡ false → list_all (is_there (there ++ (before ++ joining_of there wanted))) wanted ≡ true
stand there before [] none = refl
stand there before (account ∷ wanted) none =
    stands_at there before account wanted (is_known there account) refl (neither_left (has_other_opening there account) _ none)
    (λ b. stand there b wanted (neither_right (has_other_opening there account) _ none))

no_other : (there wanted : List Account) → list_all (is_there there) wanted ≡ true → list_any (has_other_opening there) wanted ≡ false
no_other there [] e = refl
no_other there (account ∷ wanted) e =
    neither (has_other_opening there account) _ (there_has_no_other there account (both_left (is_there there account) _ e)) (no_other there wanted (both_right (is_there there account) _ e))

none_joins_at : (account : Account) (joining : List Account) (known : Bool) → known ≡ true → joining ≡ [] → cond (not known) (account ∷ joining) joining ≡ []
none_joins_at account joining true is e = e
none_joins_at account joining false is e = absurd cc

none_joins : (there wanted : List Account) → list_all (is_there there) wanted ≡ true → joining_of there wanted ≡ []
none_joins there [] e = refl
none_joins there (account ∷ wanted) e =
    none_joins_at account (joining_of there wanted) (is_known there account) (there_is_known there account (both_left (is_there there account) _ e))
    (none_joins there wanted (both_right (is_there there account) _ e))

-- ---- tariffs

tariffs_lead : (now wanted : List Tariff) (said : Option (List Tariff)) → SaysTariffs now wanted said → unwrap_or said now ≡ wanted
tariffs_lead now wanted None says = says
tariffs_lead now wanted (Some tariffs) says = says.0

no_tariffs : (now wanted : List Tariff) (said : Option (List Tariff)) → SaysTariffs now wanted said → now ≡ wanted → is_none said ≡ true
no_tariffs now wanted None says e = refl
no_tariffs now wanted (Some tariffs) says e = absurd (says.1 e)

-- ---- the laws

pub lead_there : (now wanted : Terms) (change : TermsChange) → IsNeeded now wanted change → Hold (changed_terms now change) wanted
lead_there now wanted change needed = record {
  numbers = record { currency = needed.numbers.currency; exponent = needed.numbers.exponent; validity = needed.numbers.validity };
  tariffs = tariffs_lead now.tariffs wanted.tariffs change.tariffs needed.tariffs;
  accounts =
      let P : List Account → Type 0 = λ l. list_all (is_there (now.accounts ++ l)) wanted.accounts ≡ true in
      subst P (sym needed.joining) (stand now.accounts [] wanted.accounts needed.openings);
}

pub need_nothing : (now wanted : Terms) (change : TermsChange) → Hold now wanted → IsNeeded now wanted change → says_nothing change ≡ true
need_nothing now wanted change hold needed =
    both (no_accounts change.joining) _ (ap no_accounts (needed.joining ∙ none_joins now.accounts wanted.accounts hold.accounts))
    (both (no_subscriptions change.closing) _ (ap no_subscriptions needed.closing)
    (both (no_subscriptions change.reopening) (is_none change.tariffs) (ap no_subscriptions needed.reopening)
    (no_tariffs now.tariffs wanted.tariffs change.tariffs needed.tariffs hold.tariffs)))

pub differ_in_none : (key : TermsKey) (now wanted : Terms) → Hold now wanted → DiffersIn key now wanted → ⊥
differ_in_none keys.Currency now wanted hold differs = differs hold.numbers.currency
differ_in_none keys.Exponent now wanted hold differs = differs.1 hold.numbers.exponent
differ_in_none keys.Validity now wanted hold differs = differs.2 hold.numbers.validity
differ_in_none (keys.Opening place) now wanted hold differs =
    let none : position (has_other_opening now.accounts) wanted.accounts ≡ None = none-position (has_other_opening now.accounts) wanted.accounts (no_other now.accounts wanted.accounts hold.accounts) in
    absurd cc

said_by_none : (now wanted : List Tariff) (said : Option (List Tariff)) → SaysTariffs now wanted said → is_none said ≡ true → now ≡ wanted
said_by_none now wanted None says e = says
said_by_none now wanted (Some tariffs) says e = absurd cc

no_account : (accounts : List Account) → no_accounts accounts ≡ true → accounts ≡ []
no_account [] e = refl
no_account (account ∷ accounts) e = absurd cc

pub hold_already : (now wanted : Terms) (change : TermsChange) → IsNeeded now wanted change → says_nothing change ≡ true → Hold now wanted
hold_already now wanted change needed nothing = record {
  numbers = needed.numbers;
  tariffs = said_by_none now.tariffs wanted.tariffs change.tariffs needed.tariffs (both_right (no_subscriptions change.reopening) (is_none change.tariffs)
      (both_right (no_subscriptions change.closing) _ (both_right (no_accounts change.joining) _ nothing)));
  accounts =
      let none : joining_of now.accounts wanted.accounts ≡ [] = sym needed.joining ∙ no_account change.joining (both_left (no_accounts change.joining) _ nothing) in
      let P : List Account → Type 0 = λ l. list_all (is_there l) wanted.accounts ≡ true in
      subst P (ap (λ (l : List Account). now.accounts ++ l) none ∙ append-nil now.accounts) (stand now.accounts [] wanted.accounts needed.openings);
}
