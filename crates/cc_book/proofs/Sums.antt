-- Each debit is of one account.
use Rattle.std.proofs.Common.{◌≡◌, ℕ, zero, suc, ◌+◌, ◌<◌, ◌≤◌, Bool, true, false, cond, not, ◌&&◌, eqb, leb, ltb, List, [], ◌∷◌, ◌++◌, length, length-append, Option, Some, None, refl, sym, ap, subst, ◌∙◌, arith, rules}
use Rattle.std.proofs.lemmas.Bool.{and_right}
use Rattle.std.specs.Prelude.{ℤ, pos, ◌+ℤ◌, ◌-ℤ◌, is_some, unwrap_or, MatchOption}
use Rattle.std.specs.List.{fold, AllByRecursion}
use Rattle.std.specs.Option.{option_and_then}
use Rattle.std.proofs.lemmas.Int.{ints}
use Rattle.cc_view.specs.declared.code.ResultCode.{ResultCode}
use Rattle.cc_view.specs.declared.code.ResultCode.TheVariants.{Success}
use Rattle.cc_view.specs.declared.request.CcRequest.{CcRequest}
use Rattle.cc_view.specs.declared.request.RequestKind.{RequestKind}
use Rattle.cc_view.specs.declared.request.RequestKind.TheVariants.{Initial, Update, Termination, Event}
use Rattle.cc_view.specs.declared.request.RequestedAction.{RequestedAction}
use Rattle.cc_view.specs.declared.request.RequestedAction.TheVariants.{DirectDebiting, RefundAccount, CheckBalance, PriceEnquiry}
use Rattle.cc_view.specs.declared.request.Service.{Service}
use Rattle.cc_book.specs.declared.entry.Entry.{Entry}
use Rattle.cc_book.specs.declared.entry.Entry.TheVariants.{Take, Sweep, ChangeTerms}
use Rattle.cc_book.specs.declared.account.Account.{Account}
use Rattle.cc_book.specs.declared.terms.Terms.{Terms}
use Rattle.cc_book.specs.declared.terms_change.TermsChange.{TermsChange}
use Rattle.dia_base.specs.declared.number.Moment.{Moment}
use Rattle.cc_book.specs.AccountMachine.{account_of, account_by, action_debit, charged_account, opener_account, opening_at, total_of, debit_after, debit_by, event_reply, free_for, post, posting_of, postings_of, reply_after, settles_after, settles_by, terms_at, terms_of, price_by}
use Rattle.cc_book.specs.Balance.{balance_of, spent_by}
use Rattle.cc_book.specs.Duplicate.{same_session}
use Rattle.cc_book.specs.Laws.{total_below, debits_of}
use Rattle.cc_book.specs.Posting.{Posting, is_account, debit_to, debits_to}
use Rattle.cc_book.specs.ServiceRating.{used_total}
use Rattle.cc_book.specs.Session.{Opened, deadline_at, is_initial_kind, is_of, is_success, left_after, moment_of, next_session, opens, session_after, session_by, session_of}
use Rattle.cc_book.specs.TermsChange.{accounts_with}
use Rattle.cc_book.proofs.Postings.{all_push, balance_of-changed, opening_at-behind, postings_hold, terms_at-post}
use Rattle.cc_book.proofs.Looking.{account_of-within}
use Rattle.cc_rating.specs.declared.tariff.Tariff.{Tariff}

-- ---- sums over accounts

total_below-same : (n : ℕ) (f g : ℕ → ℤ) → ((a : ℕ) → f a ≡ g a) → total_below n f ≡ total_below n g
total_below-same zero f g same = refl
total_below-same (suc n) f g same = let here = same n in let more = total_below-same n f g same in omega (arith, ints)

total_below-add : (n : ℕ) (f g : ℕ → ℤ) → total_below n (λ (a : ℕ). f a +ℤ g a) ≡ total_below n f +ℤ total_below n g
total_below-add zero f g = refl
total_below-add (suc n) f g = let more = total_below-add n f g in omega (arith, ints)

total_below-sub : (n : ℕ) (f g : ℕ → ℤ) → total_below n (λ (a : ℕ). f a -ℤ g a) ≡ total_below n f -ℤ total_below n g
total_below-sub zero f g = refl
total_below-sub (suc n) f g = let more = total_below-sub n f g in omega (arith, ints)

total_below-zero : (n : ℕ) → total_below n (λ (a : ℕ). pos 0) ≡ pos 0
total_below-zero zero = refl
total_below-zero (suc n) = let more = total_below-zero n in omega (arith, ints)

-- an amount of one account, at all accounts below n
abbrev only : ℕ → ℤ → ℕ → ℤ
only account amount a = cond (eqb a account) amount (pos 0)

differs : (a b : ℕ) → b < a → eqb a b ≡ false
differs a b lt = search rules

differs_up : (a b : ℕ) → a < b → eqb a b ≡ false
differs_up a b lt = search rules

only-none : (n account : ℕ) (amount : ℤ) → n ≤ account → total_below n (only account amount) ≡ pos 0
only-none zero account amount le = refl
only-none (suc n) account amount le =
    let here : only account amount n ≡ pos 0 = ap (λ (b : Bool). cond b amount (pos 0)) (differs_up n account (omega arith)) in
    let more = only-none n account amount (omega arith) in
    omega (arith, ints)

same_test : (a b : ℕ) → a ≡ b → eqb a b ≡ true
same_test a b e = search rules

only-one-by : (n account : ℕ) (amount : ℤ) (b : Bool) → ltb account n ≡ b → account < suc n → (account < n → total_below n (only account amount) ≡ amount)
    → total_below (suc n) (only account amount) ≡ amount
only-one-by n account amount true is lt more =
    let less : account < n = search rules in
    let here : only account amount n ≡ pos 0 = ap (λ (b : Bool). cond b amount (pos 0)) (differs n account less) in
    let rest = more less in
    omega (arith, ints)
only-one-by n account amount false is lt more =
    let least : n ≤ account = search rules in
    let here : only account amount n ≡ amount = ap (λ (b : Bool). cond b amount (pos 0)) (same_test n account (omega arith)) in
    let rest = only-none n account amount least in
    omega (arith, ints)

only-one : (n account : ℕ) (amount : ℤ) → account < n → total_below n (only account amount) ≡ amount
only-one zero account amount lt = absurd (omega arith)
only-one (suc n) account amount lt = only-one-by n account amount (ltb account n) refl lt (only-one n account amount)

-- ---- each posting charges one account, or debits nothing and opens no session

abbrev Placed : ℕ → Posting → Type 0
Placed n posting = MatchOption posting.account ((posting.debit ≡ pos 0) × (opens posting ≡ false)) (λ account. account < n)

placed_total : (n : ℕ) (account : Option ℕ) (debit : ℤ) (opened : Bool) → MatchOption account ((debit ≡ pos 0) × (opened ≡ false)) (λ a. a < n)
    → total_below n (λ (a : ℕ). cond (is_account a account) debit (pos 0)) ≡ debit
placed_total n None debit opened none = total_below-zero n ∙ sym none.0
placed_total n (Some account) debit opened lt = only-one n account debit lt

debits_total : (n : ℕ) (postings : List Posting) → AllByRecursion (Placed n) postings → total_below n (λ (a : ℕ). debits_to a postings) ≡ debits_of postings
debits_total n [] all = total_below-zero n
debits_total n (p ∷ postings) all =
    let sum = total_below-add n (λ (a : ℕ). debit_to a p) (λ (a : ℕ). debits_to a postings) in
    let here = placed_total n p.account p.debit (opens p) all.0 in
    let more = debits_total n postings all.1 in
    omega (arith, ints)

-- ---- the postings of a history do

-- an open session has an account, which is one of the site's
abbrev IsKnown : ℕ → Option ℕ → Type 0
IsKnown n account = MatchOption account ⊥ (λ a. a < n)

abbrev HasPlace : ℕ → Option Opened → Type 0
HasPlace n opened = MatchOption opened (Unit {0}) (λ now. IsKnown n now.account)

session_by-place : (n validity moment : ℕ) (opened : Opened) (kind : RequestKind) → IsKnown n opened.account
    → HasPlace n (session_by validity opened moment kind)
session_by-place n validity moment opened Initial p = p
session_by-place n validity moment opened Update p = p
session_by-place n validity moment opened Termination p = tt
session_by-place n validity moment opened Event p = p

place_by : (n : ℕ) (b : Bool) (one other : Option Opened) → HasPlace n one → HasPlace n other → HasPlace n (cond b one other)
place_by n true one other p q = p
place_by n false one other p q = q

left_after-place : (n validity : ℕ) (session : List ℕ) (opened : Option Opened) (posting : Posting) → HasPlace n opened
    → HasPlace n (left_after validity session opened posting)
left_after-place n validity session None posting p = tt
left_after-place n validity session (Some opened) posting p = by posting.entry where
  by : (entry : Entry) → HasPlace n (session_after validity session opened entry)
  by (Take moment request) = place_by n (same_session request.session session) (session_by validity opened moment.0 request.kind) (Some opened)
      (session_by-place n validity moment.0 opened request.kind p) p
  by (Sweep moment) = place_by n (leb opened.deadline moment.0) None (Some opened) tt p
  by (ChangeTerms moment change) = p

-- a posting that opens a session charges an account
opened-place : (n : ℕ) (account : Option ℕ) (debit : ℤ) (deadline : ℕ) (opened own : Bool) (left : Option Opened)
    → MatchOption account ((debit ≡ pos 0) × (opened ≡ false)) (λ a. a < n)
    → HasPlace n left → HasPlace n (cond (opened && own) (Some (record { account = account; deadline = deadline })) left)
opened-place n account debit deadline false own left p q = q
opened-place n account debit deadline true false left p q = q
opened-place n None debit deadline true true left p q = absurd (let no : true ≡ false = p.1 in cc)
opened-place n (Some a) debit deadline true true left p q = p

session_of-place : (n validity : ℕ) (session : List ℕ) (opened : Option Opened) (postings : List Posting) → HasPlace n opened
    → AllByRecursion (Placed n) postings → HasPlace n (fold (next_session validity session) opened postings)
session_of-place n validity session opened [] p all = p
session_of-place n validity session opened (posting ∷ postings) p all =
    session_of-place n validity session (next_session validity session opened posting) postings
    (opened-place n posting.account posting.debit (deadline_at validity (moment_of posting.entry)) (opens posting) (is_of session posting.entry)
    (left_after validity session opened posting)
    all.0 (left_after-place n validity session opened posting p)) all.1

abbrev IsWithin : ℕ → Option ℕ → Type 0
IsWithin n account = MatchOption account (Unit {0}) (λ a. a < n)

opener-place : (n : ℕ) (opened : Option Opened) → HasPlace n opened → IsWithin n (option_and_then (λ (now : Opened). now.account) opened)
opener-place n None p = tt
opener-place n (Some opened) p = by opened.account p where
  by : (account : Option ℕ) → IsKnown n account → IsWithin n account
  by None p = absurd p
  by (Some a) p = p

-- a session with no account is not open
opener-closed : (n : ℕ) (opened : Option Opened) → HasPlace n opened → option_and_then (λ (now : Opened). now.account) opened ≡ None → is_some opened ≡ false
opener-closed n None p none = refl
opener-closed n (Some opened) p none = by opened.account p none where
  by : (account : Option ℕ) → IsKnown n account → account ≡ None → true ≡ false
  by None p e = absurd p
  by (Some a) p e = absurd cc

account_by-within : (n : ℕ) (kind : RequestKind) (own opener : Option ℕ) → IsWithin n own → IsWithin n opener → IsWithin n (account_by kind own opener)
account_by-within n Initial own opener p q = p
account_by-within n Update own opener p q = q
account_by-within n Termination own opener p q = q
account_by-within n Event own opener p q = p

session-place : (terms : Terms) (before : List Posting) (session : List ℕ) → AllByRecursion (Placed (length terms.accounts)) before
    → HasPlace (length terms.accounts) (session_of terms.validity session before)
session-place terms before session all = session_of-place (length terms.accounts) terms.validity session None before tt all

pub charged_account-within : (terms : Terms) (before : List Posting) (request : CcRequest) → AllByRecursion (Placed (length terms.accounts)) before
    → IsWithin (length terms.accounts) (charged_account terms before request)
charged_account-within terms before request all =
    account_by-within (length terms.accounts) request.kind (account_of terms request.subscriptions)
    (opener_account terms.validity before request.session)
    (account_of-within terms request.subscriptions)
    (opener-place (length terms.accounts) (session_of terms.validity request.session before) (session-place terms before request.session all))

-- ---- a request without an account does nothing

-- an action that moves no money debits nothing, whatever is answered
pub checks_nothing : (amount : ℕ) (code : ResultCode) → action_debit amount code (Some CheckBalance) ≡ pos 0
checks_nothing amount Success = refl
checks_nothing amount _ = refl

pub prices_nothing : (amount : ℕ) (code : ResultCode) → action_debit amount code (Some PriceEnquiry) ≡ pos 0
prices_nothing amount Success = refl
prices_nothing amount _ = refl

-- without an account no action debits
action-none : (terms : Terms) (services : List Service) (amount : ℕ) (free : ℤ) (action : Option RequestedAction)
    → action_debit amount (event_reply terms services None free action).code action ≡ pos 0
action-none terms services amount free None = refl
action-none terms services amount free (Some DirectDebiting) = refl
action-none terms services amount free (Some RefundAccount) = refl
action-none terms services amount free (Some CheckBalance) = refl
action-none terms services amount free (Some PriceEnquiry) = prices_nothing amount (event_reply terms services None free (Some PriceEnquiry)).code

-- without an account no services are settled
settles-none : (n : ℕ) (kind : RequestKind) (own : Option ℕ) (opened : Option Opened) → HasPlace n opened
    → account_by kind own (option_and_then (λ (now : Opened). now.account) opened) ≡ None
    → settles_by kind (is_some opened) (is_some own) ≡ false
settles-none n Initial own opened p none = ap (λ (a : Option ℕ). not (is_some opened) && is_some a) none ∙ and_right (not (is_some opened)) false refl
settles-none n Update own opened p none = opener-closed n opened p none
settles-none n Termination own opened p none = opener-closed n opened p none
settles-none n Event own opened p none = refl

debit-none : (terms : Terms) (before : List Posting) (request : CcRequest) → charged_account terms before request ≡ None
    → settles_after terms before request ≡ false → debit_after terms before request ≡ pos 0
debit-none terms before request none unsettled = by request.kind none where
  used : (price : Service → Option Tariff) → cond (settles_after terms before request) (pos (used_total price request.services)) (pos 0) ≡ pos 0
  used price = ap (λ (b : Bool). cond b (pos (used_total price request.services)) (pos 0)) unsettled

  by : (kind : RequestKind) → account_by kind (account_of terms request.subscriptions) (opener_account terms.validity before request.session) ≡ None
      → debit_by terms before request kind ≡ pos 0
  by Event none =
      let amount : ℕ = unwrap_or (total_of terms.tariffs request.services) 0 in
      ap (λ (account : Option ℕ). action_debit amount (event_reply terms request.services account (free_for terms before account) request.action).code
      request.action) none
      ∙ action-none terms request.services amount (pos 0) request.action
  by Initial none = used (price_by terms before request Initial)
  by Update none = used (price_by terms before request Update)
  by Termination none = used (price_by terms before request Termination)

placed_by : (n : ℕ) (account : Option ℕ) (debit : ℤ) (opened : Bool) → IsWithin n account → (account ≡ None → (debit ≡ pos 0) × (opened ≡ false))
    → MatchOption account ((debit ≡ pos 0) × (opened ≡ false)) (λ a. a < n)
placed_by n None debit opened within none = none refl
placed_by n (Some a) debit opened within none = within

placed : (terms : Terms) (before : List Posting) (entry : Entry) → AllByRecursion (Placed (length terms.accounts)) before
    → Placed (length terms.accounts) (posting_of terms before entry)
placed terms before (Take moment request) all =
    placed_by (length terms.accounts) (charged_account terms before request) (debit_after terms before request)
    (opens (posting_of terms before (Take moment request)))
    (charged_account-within terms before request all) nothing
  where
    nothing : charged_account terms before request ≡ None
        → (debit_after terms before request ≡ pos 0) × (opens (posting_of terms before (Take moment request)) ≡ false)
    nothing none =
        let unsettled : settles_after terms before request ≡ false =
        settles-none (length terms.accounts) request.kind (account_of terms request.subscriptions) (session_of terms.validity request.session before)
        (session-place terms before request.session all) none in (
          debit-none terms before request none unsettled,
          ap (λ (b : Bool). b && (is_initial_kind request.kind && is_success (reply_after terms before request).code)) unsettled,
        )
placed terms before (Sweep moment) all = (refl, refl)
placed terms before (ChangeTerms moment change) all = (refl, refl)

-- accounts join, and none leaves
longer : (accounts : List Account) (entry : Entry) → length accounts ≤ length (accounts_with accounts entry)
longer accounts (Take moment request) = omega arith
longer accounts (Sweep moment) = omega arith
longer accounts (ChangeTerms moment change) = let long = length-append accounts change.joining in omega arith

still_placed : (m n : ℕ) (posting : Posting) → m ≤ n → Placed m posting → Placed n posting
still_placed m n posting le = by posting.account where
  by : (account : Option ℕ) → MatchOption account ((posting.debit ≡ pos 0) × (opens posting ≡ false)) (λ a. a < m)
      → MatchOption account ((posting.debit ≡ pos 0) × (opens posting ≡ false)) (λ a. a < n)
  by None none = none
  by (Some a) lt = omega (arith, lt)

all_still_placed : (m n : ℕ) (postings : List Posting) → m ≤ n → AllByRecursion (Placed m) postings → AllByRecursion (Placed n) postings
all_still_placed m n [] le all = tt
all_still_placed m n (p ∷ postings) le all = (still_placed m n p le all.0, all_still_placed m n postings le all.1)

-- each posting is of an account that is there at its place, and so behind it
abbrev AllPlaced : Terms → List Posting → Type 0
AllPlaced terms before = AllByRecursion (Placed (length (terms_at terms before).accounts)) before

placed_next : (terms : Terms) (before : List Posting) (entry : Entry) → AllPlaced terms before → AllPlaced terms (post terms before entry)
placed_next terms before entry all =
    let now = terms_at terms before in
    let posting = posting_of now before entry in
    let more : length now.accounts ≤ length (terms_at terms (post terms before entry)).accounts =
    subst (λ (next : Terms). length now.accounts ≤ length next.accounts) (sym (terms_at-post terms before entry)) (longer now.accounts entry) in
    all_push (Placed (length (terms_at terms (post terms before entry)).accounts)) before posting
    (all_still_placed (length now.accounts) (length (terms_at terms (post terms before entry)).accounts) before more all)
    (still_placed (length now.accounts) (length (terms_at terms (post terms before entry)).accounts) posting more (placed now before entry all))

pub all_placed : (terms : Terms) (history : List Entry) → AllByRecursion (Placed (length (terms_of terms history).accounts)) (postings_of terms history)
all_placed terms history = postings_hold (AllPlaced terms) terms history (placed_next terms) tt

-- the balances of all accounts are their opening amounts less all debits
pub balances_total : (terms : Terms) (history : List Entry)
    → total_below (length (terms_of terms history).accounts) (λ (a : ℕ). balance_of terms history a)
    ≡ total_below (length (terms_of terms history).accounts) (λ (a : ℕ). opening_at (terms_of terms history).accounts a) -ℤ debits_of (postings_of terms history)
unfolding balance_of spent_by
balances_total terms history =
    let accounts = (terms_of terms history).accounts in
    let less = total_below-sub (length accounts) (λ (a : ℕ). opening_at accounts a) (λ (a : ℕ). debits_to a (postings_of terms history)) in
    let debits = debits_total (length accounts) (postings_of terms history) (all_placed terms history) in
    less ∙ ap (λ (z : ℤ). total_below (length accounts) (λ (a : ℕ). opening_at accounts a) -ℤ z) debits

-- ---- an account that joins

pub no_debits : (n account : ℕ) (postings : List Posting) → n ≤ account → AllByRecursion (Placed n) postings → debits_to account postings ≡ pos 0
no_debits n account [] le all = refl
no_debits n account (p ∷ postings) le all =
    let here = by p.account all.0 in
    let more = no_debits n account postings le all.1 in
    omega (arith, ints)
  where
    apart : (m k : ℕ) → k < m → eqb m k ≡ false
    apart m k lt = search rules

    by : (charged : Option ℕ) → MatchOption charged ((p.debit ≡ pos 0) × (opens p ≡ false)) (λ a. a < n)
        → cond (is_account account charged) p.debit (pos 0) ≡ pos 0
    by None none = refl
    by (Some other) lt = ap (λ (b : Bool). cond b p.debit (pos 0)) (apart account other (omega (arith, lt)))

-- it has its opening amount, for nothing was debited of it
pub balance_of-joined : (terms : Terms) (history : List Entry) (moment : Moment) (change : TermsChange) (place : ℕ) → place < length change.joining
    → balance_of terms (history ++ ChangeTerms moment change ∷ []) (length (terms_of terms history).accounts + place) ≡ opening_at change.joining place
balance_of-joined terms history moment change place lt =
    let accounts = (terms_of terms history).accounts in
    let now = balance_of-changed terms history moment change (length accounts + place) in
    let behind = opening_at-behind accounts change.joining place in
    let none = no_debits (length accounts) (length accounts + place) (postings_of terms history) (omega arith) (all_placed terms history) in
    omega (arith, ints)
