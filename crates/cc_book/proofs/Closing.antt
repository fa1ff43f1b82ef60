-- Accounts that are closed: no request names them, and nothing is granted of them.
use Rattle.std.proofs.Common.{◌≡◌, ℕ, Bool, true, false, cond, ◌||◌, eqb, List, [], ◌∷◌, get_or, Option, Some, None, refl, sym, ap, subst, ◌∙◌}
use Rattle.std.specs.Prelude.{pos}
use Rattle.std.specs.List.{list_any}
use Rattle.std.specs.Option.{option_or}
use Rattle.std.proofs.lemmas.Bool.{and_from, and_parts}
use Rattle.std.proofs.lemmas.List.Quantifiers.{position-Some}
use Rattle.cc_view.specs.declared.code.ResultCode.{ResultCode}
use Rattle.cc_view.specs.declared.request.CcRequest.{CcRequest}
use Rattle.cc_view.specs.declared.request.RequestKind.{RequestKind}
use Rattle.cc_view.specs.declared.request.RequestKind.TheVariants.{Initial, Update, Termination, Event}
use Rattle.cc_view.specs.declared.request.Subscription.{Subscription}
use Rattle.cc_book.specs.declared.account.Account.{Account}
use Rattle.cc_book.specs.declared.session.Hold.{Hold}
use Rattle.cc_book.specs.declared.terms.Terms.{Terms}
use Rattle.cc_book.specs.AccountMachine.{account_of, charged_account, free_to_grant, grants_after, grants_by, grants_with, holds_from, is_closed, is_closed_at, open_account, reply_after, settles_after}
use Rattle.cc_book.specs.Duplicate.{same_session}
use Rattle.cc_book.specs.Posting.{Posting}
use Rattle.cc_book.specs.Session.{is_success}
use Rattle.cc_book.specs.TermsChange.{account_with, is_among, owns, same_subscription}
use Rattle.cc_book.proofs.Looking.{is_closed_at_get}
use Rattle.cc_book.proofs.Sessions.{equal_number, same_number, same_session-equal, same_session-met}

-- ---- nothing is granted

none-with : (kind : RequestKind) (code : ResultCode) → grants_with kind code [] ≡ []
none-with Initial code = by (is_success code) where
  by : (b : Bool) → cond {A = List Hold} b [] [] ≡ []
  by true = refl
  by false = refl
none-with Update code = refl
none-with Termination code = refl
none-with Event code = refl

pub closed-none : (terms : Terms) (before : List Posting) (request : CcRequest) → is_closed terms (charged_account terms before request) ≡ true
    → grants_after terms before request ≡ []
closed-none terms before request closed = by (settles_after terms before request) where
  by : (b : Bool) → grants_by terms before request b ≡ []
  by true =
      ap (λ (c : Bool). grants_with request.kind (reply_after terms before request).code
      (cond c [] (holds_from terms.tariffs (free_to_grant terms before request) request.services))) closed
      ∙ none-with request.kind (reply_after terms before request).code
  by false = refl

-- ---- nobody names it

or_right : (a b : Bool) → (a || b) ≡ false → b ≡ false
or_right true b e = absurd cc
or_right false b e = e

-- two Subscription-Ids of one account are one
owns-same : (one other : Subscription) (account : Account) → owns one account ≡ true → owns other account ≡ true → same_subscription one other ≡ true
owns-same one other account mine yours =
    let own = and_parts (eqb account.id_kind one.kind) (same_session account.id one.text) mine in
    let same = and_parts (eqb account.id_kind other.kind) (same_session account.id other.text) yours in
    let kinds : one.kind ≡ other.kind = sym (equal_number account.id_kind one.kind own.0) ∙ equal_number account.id_kind other.kind same.0 in
    let texts : one.text ≡ other.text = sym (same_session-equal account.id one.text own.1) ∙ same_session-equal account.id other.text same.1 in
    and_from (eqb one.kind other.kind) (same_session one.text other.text) (subst (λ (n : ℕ). eqb one.kind n ≡ true) kinds (same_number one.kind))
    (same_session-met one.text other.text texts)

-- the Subscription-Id of an account that is not closed is not among those that are
none-owns : (closed : List Subscription) (s : Subscription) (account : Account) → owns s account ≡ true → is_among closed s ≡ false
    → list_any (λ (c : Subscription). owns c account) closed ≡ false
none-owns [] s account own none = refl
none-owns (c ∷ closed) s account own none =
    by (none-owns closed s account own (or_right (same_subscription s c) (list_any (same_subscription s) closed) none)) (owns c account) refl
  where
    by : list_any (λ (x : Subscription). owns x account) closed ≡ false → (yours : Bool) → owns c account ≡ yours
        → (yours || list_any (λ (x : Subscription). owns x account) closed) ≡ false
    by later true is =
        let same : (true || list_any (same_subscription s) closed) ≡ false =
        sym (ap (λ (b : Bool). b || list_any (same_subscription s) closed) (owns-same s c account own is)) ∙ none in
        absurd cc
    by later false is = later

no_account : Account
no_account = record { id_kind = 0; id = []; opening = pos 0 }

open-not_closed : (terms : Terms) (s : Subscription) (account : ℕ) → open_account terms s ≡ Some account → is_closed terms (Some account) ≡ false
open-not_closed terms s account = by (is_among terms.closed s) refl where
  by : (b : Bool) → is_among terms.closed s ≡ b → cond b None (account_with terms.accounts s) ≡ Some account
      → is_closed_at terms.accounts terms.closed account ≡ false
  by true is e = absurd cc
  by false is e =
      let found = position-Some (owns s) terms.accounts account no_account e in
      is_closed_at_get terms.accounts terms.closed account no_account found.0
      ∙ none-owns terms.closed s (get_or terms.accounts account no_account) found.1 is

pub named-open : (terms : Terms) (subscriptions : List Subscription) (account : ℕ) → account_of terms subscriptions ≡ Some account
    → is_closed terms (Some account) ≡ false
named-open terms [] account e = absurd cc
named-open terms (s ∷ more) account e = by (named-open terms more account) (open_account terms s) refl e where
  by : (account_of terms more ≡ Some account → is_closed terms (Some account) ≡ false) → (found : Option ℕ) → open_account terms s ≡ found
      → option_or found (account_of terms more) ≡ Some account → is_closed terms (Some account) ≡ false
  by later None is e = later e
  by later (Some own) is e = open-not_closed terms s account (is ∙ e)
