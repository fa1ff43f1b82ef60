-- What a request does, kind by kind, from the sessions that are open.
use Rattle.std.proofs.Common.{◌≡◌, ℕ, ◌+◌, ◌-◌, ◌<◌, ◌≤◌, ◌^◌, Bool, true, false, cond, ◌&&◌, List, [], ◌++◌, length, Option, Some, None, refl, sym, ap, subst, ◌∙◌, arith}
use Rattle.std.specs.Prelude.{ℤ, pos, negsuc, ◌+ℤ◌, ◌-ℤ◌, ◌≤ℤ◌, is_some, slice_get, slice_index_or, unwrap_or, find, IfSome}
use Rattle.std.specs.Option.{option_and_then, option_or}
use Rattle.std.proofs.lemmas.Int.{ints}
use Rattle.dia_base.specs.declared.number.Moment.{Moment}
use Rattle.cc_view.specs.declared.code.ResultCode.{ResultCode}
use Rattle.cc_view.specs.declared.code.ResultCode.TheVariants.{UnableToComply, UnknownSessionId, UserUnknown}
use Rattle.cc_view.specs.declared.reply.CcReply.{CcReply}
use Rattle.cc_view.specs.declared.request.CcRequest.{CcRequest}
use Rattle.cc_view.specs.declared.request.RequestKind.{RequestKind}
use Rattle.cc_view.specs.declared.request.RequestKind.TheVariants.{Initial, Update, Termination, Event}
use Rattle.cc_book.specs.declared.outcome.Change.{Change}
use Rattle.cc_book.specs.declared.outcome.Change.TheVariants.{Stays, Opens, GoesOn, Ends}
use Rattle.cc_book.specs.declared.outcome.Outcome.{Outcome}
use Rattle.cc_book.specs.declared.entry.Entry.TheVariants.{Take}
use Rattle.cc_book.specs.declared.session.Hold.{Hold}
use Rattle.cc_book.specs.declared.session.OpenSession.{OpenSession}
use Rattle.cc_book.specs.declared.terms.Terms.{Terms}
use Rattle.cc_book.specs.AccountMachine.{account_by, account_of, action_debit, charged_account, closing_reply, code_alone, debit_after, debit_by, event_after, event_reply, free_for, free_to_grant, granting_reply, grants_after, grants_by, grants_with, holds_on, opener_account, posting_of, price_by, reply_after, reply_by, settles_after, settles_by, total_of, unsettled_code}
use Rattle.cc_book.specs.Posting.{Posting}
use Rattle.cc_book.specs.ServiceRating.{used_total, tariff_of}
use Rattle.cc_book.specs.Session.{Opened, is_initial_kind, is_open, is_success, opens}
use Rattle.cc_book.specs.Standing.{IsOutcome, Stands, change_at, change_closed, change_of, change_open, free_in, held_in, holds_beside, is_session, place_in, prolonged, reserved_in, opened_session}
use Rattle.cc_book.proofs.Stands.{closed-stands, free-stands, free_to_grant-closed, free_to_grant-open, open-stands}
use Rattle.cc_book.specs.Pricing.{price_at, price_in, price_of, priced, prices_after}
use Rattle.cc_view.specs.declared.request.Service.{Service}
use Rattle.cc_view.specs.declared.request.ServiceName.{ServiceName}
use Rattle.cc_view.specs.Request.ServiceLimits.{name_of}

-- ---- a request by its kind

settles-by : (terms : Terms) (before : List Posting) (request : CcRequest) (kind : RequestKind) (opened known : Bool) → request.kind ≡ kind
    → is_open terms.validity request.session before ≡ opened
    → is_some (account_of terms request.subscriptions) ≡ known → settles_after terms before request ≡ settles_by kind opened known
settles-by terms before request kind opened known is one other =
    ap (λ (k : RequestKind). settles_by k (is_open terms.validity request.session before) (is_some (account_of terms request.subscriptions))) is
    ∙ ap (λ (b : Bool). settles_by kind b (is_some (account_of terms request.subscriptions))) one
    ∙ ap (settles_by kind opened) other

opens-unsettled : (terms : Terms) (before : List Posting) (moment : Moment) (request : CcRequest) → settles_after terms before request ≡ false
    → opens (posting_of terms before (Take moment request)) ≡ false
opens-unsettled terms before moment request none =
    ap (λ (b : Bool). b && (is_initial_kind request.kind && is_success (reply_after terms before request).code)) none

grants-unsettled : (terms : Terms) (before : List Posting) (request : CcRequest) → settles_after terms before request ≡ false
    → held_in (grants_after terms before request) ≤ 2 ^ 89
grants-unsettled terms before request none =
    let is : held_in (grants_after terms before request) ≡ 0 = ap (λ (b : Bool). held_in (grants_by terms before request b)) none in omega arith

grants-by : (terms : Terms) (before : List Posting) (request : CcRequest) (kind : RequestKind) → request.kind ≡ kind → settles_after terms before request ≡ true
    → grants_after terms before request ≡ grants_with kind (reply_after terms before request).code
    (holds_on terms (charged_account terms before request) (free_to_grant terms before request) request.services)
grants-by terms before request kind is settled =
    ap (grants_by terms before request) settled
    ∙ ap (λ (k : RequestKind). grants_with k (reply_after terms before request).code
    (holds_on terms (charged_account terms before request) (free_to_grant terms before request) request.services)) is

-- ---- its session

change-closed : (sessions : List OpenSession) (request : CcRequest) (moment : Moment) (posting : Posting) → place_in sessions request.session ≡ None
    → change_of sessions request moment posting ≡ change_closed request moment posting
change-closed sessions request moment posting none = ap (λ (p : Option ℕ). change_at request moment posting p (find (is_session request.session) sessions)) none

change-unsettled : (sessions : List OpenSession) (request : CcRequest) (moment : Moment) (posting : Posting) → place_in sessions request.session ≡ None
    → opens posting ≡ false → Stays ≡ change_of sessions request moment posting
change-unsettled sessions request moment posting none shut =
    sym (change-closed sessions request moment posting none
    ∙ ap (λ (b : Bool). cond b (Opens (opened_session request moment posting.tariffs (unwrap_or posting.account 0) posting.grants))
    Stays) shut)

change-open : (sessions : List OpenSession) (request : CcRequest) (moment : Moment) (posting : Posting) (kind : RequestKind) (place : ℕ)
    (session : OpenSession) → request.kind ≡ kind → place_in sessions request.session ≡ Some place → find (is_session request.session) sessions ≡ Some session
    → change_of sessions request moment posting ≡ change_open request moment posting kind place session
change-open sessions request moment posting kind place session is at found =
    ap (λ (p : Option ℕ). change_at request moment posting p (find (is_session request.session) sessions)) at
    ∙ ap (λ (s : Option OpenSession). change_at request moment posting (Some place) s) found
    ∙ ap (λ (k : RequestKind). change_open request moment posting k place session) is

-- ---- requests that are refused

-- a request that settles nothing charges nothing
unsettled : {terms : Terms} {before : List Posting} {sessions : List OpenSession} {moment : Moment} {request : CcRequest} (kind : RequestKind)
    (account : Option ℕ) (code : ResultCode) (change : Change)
    → request.kind ≡ kind → settles_after terms before request ≡ false
    → account ≡ charged_account terms before request
    → debit_by terms before request kind ≡ cond (settles_after terms before request) (pos (used_total (price_by terms before request kind) request.services)) (pos 0)
    → reply_by terms before request kind ≡ code_alone code
    → change ≡ change_of sessions request moment (posting_of terms before (Take moment request))
    → IsOutcome terms before sessions moment request (record { account = account; debit = pos 0; reply = code_alone code; change = change })
unsettled {terms} {before} {sessions} {moment} {request} kind account code change is none charged debits replies changed = record {
  account = charged;
  debit = sym (ap (debit_by terms before request) is ∙ debits
      ∙ ap (λ (b : Bool). cond b (pos (used_total (price_by terms before request kind) request.services)) (pos 0)) none);
  reply = sym (ap (reply_by terms before request) is ∙ replies);
  change = changed;
  least = omega (arith, ints);
  most = omega (arith, ints);
  grants = grants-unsettled terms before request none;
}

module _ {terms : Terms} {before : List Posting} {balances : List ℤ} {sessions : List OpenSession} (request : CcRequest) (moment : Moment)
    (s : Stands terms before balances sessions) where
  closed : place_in sessions request.session ≡ None → is_open terms.validity request.session before ≡ false
  closed none = ap is_some (closed-stands s request.session none)

  opened : (place : ℕ) (session : OpenSession) → place_in sessions request.session ≡ Some place → slice_get sessions place ≡ Some session
      → is_open terms.validity request.session before ≡ true
  opened place session at there = ap is_some (open-stands s request.session place session at there).0

  charged : (kind : RequestKind) → request.kind ≡ kind
      → charged_account terms before request ≡ account_by kind (account_of terms request.subscriptions)
      (opener_account terms.validity before request.session)
  charged kind is =
      ap (λ (k : RequestKind). account_by k (account_of terms request.subscriptions) (opener_account terms.validity before request.session)) is

  opener-closed : place_in sessions request.session ≡ None → opener_account terms.validity before request.session ≡ None
  opener-closed none = ap (λ (o : Option Opened). option_and_then (λ (now : Opened). now.account) o) (closed-stands s request.session none)

  opener-open : (place : ℕ) (session : OpenSession) → place_in sessions request.session ≡ Some place → slice_get sessions place ≡ Some session
      → opener_account terms.validity before request.session ≡ Some session.account
  opener-open place session at there = ap (λ (o : Option Opened). option_and_then (λ (now : Opened). now.account) o)
      (open-stands s request.session place session at there).0

  -- the account that a request charges, by what stands
  pub charged-own : (kind : RequestKind) → request.kind ≡ kind
      → account_by kind (account_of terms request.subscriptions) (opener_account terms.validity before request.session)
      ≡ account_of terms request.subscriptions
      → account_of terms request.subscriptions ≡ charged_account terms before request
  charged-own kind is own = sym (charged kind is ∙ own)

  pub charged-closed : (kind : RequestKind) → request.kind ≡ kind → place_in sessions request.session ≡ None
      → account_by kind (account_of terms request.subscriptions) (opener_account terms.validity before request.session)
      ≡ opener_account terms.validity before request.session
      → None ≡ charged_account terms before request
  charged-closed kind is none of_opener = sym (charged kind is ∙ of_opener ∙ opener-closed none)

  pub charged-open : (kind : RequestKind) (place : ℕ) (session : OpenSession) → request.kind ≡ kind → place_in sessions request.session ≡ Some place
      → slice_get sessions place ≡ Some session
      → account_by kind (account_of terms request.subscriptions) (opener_account terms.validity before request.session)
      ≡ opener_account terms.validity before request.session
      → Some session.account ≡ charged_account terms before request
  charged-open kind place session is at there of_opener = sym (charged kind is ∙ of_opener ∙ opener-open place session at there)

  -- an INITIAL of an open session
  pub initial-open : (place : ℕ) (session : OpenSession) → request.kind ≡ Initial → place_in sessions request.session ≡ Some place
      → slice_get sessions place ≡ Some session
      → IsOutcome terms before sessions moment request
      (record {
        account = account_of terms request.subscriptions;
        debit = pos 0;
        reply = code_alone UnableToComply;
        change =
            GoesOn place (prolonged session moment session.holds session.prices);
      })
  initial-open place session is at there =
      let known = is_some (account_of terms request.subscriptions) in
      let none : settles_after terms before request ≡ false = settles-by terms before request Initial true known is (opened place session at there) refl in
      let found = (open-stands s request.session place session at there).1 in
      unsettled Initial (account_of terms request.subscriptions) UnableToComply (GoesOn place (prolonged session moment session.holds session.prices)) is none
      (sym (charged Initial is)) refl
      (ap (λ (b : Bool). cond b (granting_reply terms (charged_account terms before request) (free_to_grant terms before request) request.services)
      (code_alone (unsettled_code Initial (is_open terms.validity request.session before)))) none
      ∙ ap (λ (b : Bool). code_alone (unsettled_code Initial b)) (opened place session at there))
      (sym (change-open sessions request moment (posting_of terms before (Take moment request)) Initial place session is at found))

  -- an INITIAL without an account
  pub initial-unknown : request.kind ≡ Initial → place_in sessions request.session ≡ None → account_of terms request.subscriptions ≡ None
      → IsOutcome terms before sessions moment request (record { account = None; debit = pos 0; reply = code_alone UserUnknown; change = Stays })
  initial-unknown is shut unknown =
      let none : settles_after terms before request ≡ false = settles-by terms before request Initial false false is (closed shut) (ap is_some unknown) in
      unsettled Initial None UserUnknown Stays is none
      (sym (charged Initial is ∙ unknown)) refl
      (ap (λ (b : Bool). cond b (granting_reply terms (charged_account terms before request) (free_to_grant terms before request) request.services)
      (code_alone (unsettled_code Initial (is_open terms.validity request.session before)))) none
      ∙ ap (λ (b : Bool). code_alone (unsettled_code Initial b)) (closed shut))
      (change-unsettled sessions request moment (posting_of terms before (Take moment request)) shut (opens-unsettled terms before moment request none))

  -- an UPDATE or a TERMINATION of no session
  pub update-closed : request.kind ≡ Update → place_in sessions request.session ≡ None
      → IsOutcome terms before sessions moment request (record { account = None; debit = pos 0; reply = code_alone UnknownSessionId; change = Stays })
  update-closed is shut =
      let known = is_some (account_of terms request.subscriptions) in
      let none : settles_after terms before request ≡ false = settles-by terms before request Update false known is (closed shut) refl in
      unsettled Update None UnknownSessionId Stays is none
      (sym (charged Update is ∙ opener-closed shut)) refl
      (ap (λ (b : Bool). cond b (granting_reply terms (charged_account terms before request) (free_to_grant terms before request) request.services) (code_alone UnknownSessionId)) none)
      (change-unsettled sessions request moment (posting_of terms before (Take moment request)) shut (opens-unsettled terms before moment request none))

  pub termination-closed : request.kind ≡ Termination → place_in sessions request.session ≡ None
      → IsOutcome terms before sessions moment request (record { account = None; debit = pos 0; reply = code_alone UnknownSessionId; change = Stays })
  termination-closed is shut =
      let known = is_some (account_of terms request.subscriptions) in
      let none : settles_after terms before request ≡ false = settles-by terms before request Termination false known is (closed shut) refl in
      unsettled Termination None UnknownSessionId Stays is none
      (sym (charged Termination is ∙ opener-closed shut)) refl
      (ap (λ (b : Bool). cond b (closing_reply terms request.services) (code_alone UnknownSessionId)) none)
      (change-unsettled sessions request moment (posting_of terms before (Take moment request)) shut (opens-unsettled terms before moment request none))

  -- ---- requests that settle services

  -- the prices of the session are those at which a request pays
  pub used-open : (place : ℕ) (session : OpenSession) → place_in sessions request.session ≡ Some place → slice_get sessions place ≡ Some session
      → used_total (priced terms.tariffs session.prices) request.services ≡ used_total (price_at terms.tariffs before request.session) request.services
  used-open place session at there =
      let found = (open-stands s request.session place session at there).1 in
      let same : (name : ServiceName) → price_in session.prices name ≡ price_of request.session name before =
      λ name. subst (λ (o : Option OpenSession). IfSome o (λ x. price_in x.prices name ≡ price_of request.session name before)) found
      (s.prices request.session name) in
      λ i. used_total (λ (service : Service). option_or (same (name_of service) i) (tariff_of terms.tariffs service)) request.services

  settled-debit : (kind : RequestKind) → request.kind ≡ kind → settles_after terms before request ≡ true
      → debit_by terms before request kind ≡ cond (settles_after terms before request) (pos (used_total (price_by terms before request kind) request.services)) (pos 0)
      → pos (used_total (price_by terms before request kind) request.services) ≡ debit_after terms before request
  settled-debit kind is settled debits = sym (ap (debit_by terms before request) is ∙ debits
      ∙ ap (λ (b : Bool). cond b (pos (used_total (price_by terms before request kind) request.services)) (pos 0)) settled)

  pub termination-open : (place : ℕ) (session : OpenSession) → request.kind ≡ Termination → place_in sessions request.session ≡ Some place
      → slice_get sessions place ≡ Some session
      → used_total (price_by terms before request Termination) request.services ≤ 2 ^ 103
      → IsOutcome terms before sessions moment request
      (record {
        account = Some session.account;
        debit = pos (used_total (price_by terms before request Termination) request.services);
        reply = closing_reply terms request.services;
        change = Ends place;
      })
  termination-open place session is at there small =
      let known = is_some (account_of terms request.subscriptions) in
      let settled : settles_after terms before request ≡ true =
      settles-by terms before request Termination true known is (opened place session at there) refl in
      let found = (open-stands s request.session place session at there).1 in
      let none : held_in (grants_after terms before request) ≡ 0 = ap held_in (grants-by terms before request Termination is settled) in
      record {
        account = sym (charged Termination is ∙ opener-open place session at there);
        debit = settled-debit Termination is settled refl;
        reply = sym (ap (reply_by terms before request) is
            ∙ ap (λ (b : Bool). cond b (closing_reply terms request.services) (code_alone UnknownSessionId)) settled);
        change = sym (change-open sessions request moment (posting_of terms before (Take moment request)) Termination place session is at found);
        least = omega (arith, ints);
        most = omega (arith, ints);
        grants = omega arith;
      }

  -- the reply of a request that is granted what is free
  granted-reply : (kind : RequestKind) → request.kind ≡ kind → settles_after terms before request ≡ true
      → reply_by terms before request kind
      ≡ cond (settles_after terms before request) (granting_reply terms (charged_account terms before request) (free_to_grant terms before request) request.services)
      (code_alone (unsettled_code kind (is_open terms.validity request.session before)))
      → granting_reply terms (charged_account terms before request) (free_to_grant terms before request) request.services ≡ reply_after terms before request
  granted-reply kind is settled replies =
      sym (ap (reply_by terms before request) is ∙ replies
      ∙ ap (λ (b : Bool). cond b (granting_reply terms (charged_account terms before request) (free_to_grant terms before request) request.services)
      (code_alone (unsettled_code kind (is_open terms.validity request.session before)))) settled)

  pub update-open : (place : ℕ) (session : OpenSession) (free : ℤ) (holds : List Hold) → request.kind ≡ Update
      → place_in sessions request.session ≡ Some place → slice_get sessions place ≡ Some session
      → used_total (price_by terms before request Update) request.services ≤ 2 ^ 103 → free ≡ free_to_grant terms before request
      → holds ≡ holds_on terms (Some session.account) free request.services → held_in holds ≤ 2 ^ 89
      → IsOutcome terms before sessions moment request (record {
        account = Some session.account;
        debit = pos (used_total (price_by terms before request Update) request.services);
        reply = granting_reply terms (Some session.account) free request.services;
        change = GoesOn place (prolonged session moment (holds_beside request.services session.holds ++ holds)
            (prices_after terms.tariffs session.prices holds));
      })
  update-open place session free holds is at there small same held few =
      let known = is_some (account_of terms request.subscriptions) in
      let settled : settles_after terms before request ≡ true = settles-by terms before request Update true known is (opened place session at there) refl in
      let found = (open-stands s request.session place session at there).1 in
      let own : Some session.account ≡ charged_account terms before request = sym (charged Update is ∙ opener-open place session at there) in
      let grants : holds ≡ grants_after terms before request =
      held ∙ ap (λ (z : ℤ). holds_on terms (Some session.account) z request.services) same
      ∙ ap (λ (a : Option ℕ). holds_on terms a (free_to_grant terms before request) request.services) own
      ∙ sym (grants-by terms before request Update is settled) in
      record {
        account = own;
        debit = settled-debit Update is settled refl;
        reply = ap (λ (z : ℤ). granting_reply terms (Some session.account) z request.services) same
            ∙ ap (λ (a : Option ℕ). granting_reply terms a (free_to_grant terms before request) request.services) own
            ∙ granted-reply Update is settled refl;
        change = ap (λ (hs : List Hold). GoesOn place (prolonged session moment (holds_beside request.services session.holds ++ hs)
            (prices_after terms.tariffs session.prices hs))) grants
            ∙ sym (change-open sessions request moment (posting_of terms before (Take moment request)) Update place session is at found);
        least = omega (arith, ints);
        most = omega (arith, ints);
        grants = subst (λ (hs : List Hold). held_in hs ≤ 2 ^ 89) grants few;
      }

  -- a session opens where its INITIAL is answered DIAMETER_SUCCESS
  abbrev pub opening-change : Bool → ℕ → List Hold → Change
  opening-change success account holds = cond success (Opens (opened_session request moment terms.tariffs account holds)) Stays

  opening-grants : (success : Bool) (account : ℕ) (holds : List Hold)
      → opening-change success account holds ≡ opening-change success account (cond success holds [])
  opening-grants true account holds = refl
  opening-grants false account holds = refl

  opening-few : (success : Bool) (holds : List Hold) → held_in holds ≤ 2 ^ 89 → held_in (cond success holds []) ≤ 2 ^ 89
  opening-few true holds few = few
  opening-few false holds few = omega arith

  pub initial-closed : (account : ℕ) (free : ℤ) (holds : List Hold) (change : Change) → request.kind ≡ Initial → place_in sessions request.session ≡ None
      → account_of terms request.subscriptions ≡ Some account
      → used_total (price_by terms before request Initial) request.services ≤ 2 ^ 103 → free ≡ free_to_grant terms before request
      → holds ≡ holds_on terms (Some account) free request.services → held_in holds ≤ 2 ^ 89
      → change ≡ opening-change (is_success (granting_reply terms (Some account) free request.services).code) account holds
      → IsOutcome terms before sessions moment request (record {
        account = Some account;
        debit = pos (used_total (price_by terms before request Initial) request.services);
        reply = granting_reply terms (Some account) free request.services;
        change = change;
      })
  initial-closed account free holds change is shut own small same held few changed =
      let settled : settles_after terms before request ≡ true = settles-by terms before request Initial false true is (closed shut) (ap is_some own) in
      let posting = posting_of terms before (Take moment request) in
      let account_is : charged_account terms before request ≡ Some account = charged Initial is ∙ own in
      let reply : granting_reply terms (Some account) free request.services ≡ reply_after terms before request =
      ap (λ (z : ℤ). granting_reply terms (Some account) z request.services) same
      ∙ ap (λ (a : Option ℕ). granting_reply terms a (free_to_grant terms before request) request.services) (sym account_is)
      ∙ granted-reply Initial is settled refl in
      let success : Bool = is_success (reply_after terms before request).code in
      let all : holds ≡ holds_on terms (charged_account terms before request) (free_to_grant terms before request) request.services = held
      ∙ ap (λ (z : ℤ). holds_on terms (Some account) z request.services) same
      ∙ ap (λ (a : Option ℕ). holds_on terms a (free_to_grant terms before request) request.services) (sym account_is) in
      let grants : grants_after terms before request ≡ cond success holds [] =
      grants-by terms before request Initial is settled ∙ sym (ap (λ (hs : List Hold). cond success hs []) all) in
      let opens_is : opens posting ≡ success =
      ap (λ (b : Bool). b && (is_initial_kind request.kind && success)) settled ∙ ap (λ (k : RequestKind). is_initial_kind k && success) is in
      record {
        account = sym account_is;
        debit = settled-debit Initial is settled refl;
        reply = reply;
        change = changed
            ∙ ap (λ (r : CcReply). opening-change (is_success r.code) account holds) reply
            ∙ opening-grants success account holds
            ∙ sym (change-closed sessions request moment posting shut
            ∙ ap (λ (b : Bool). opening-change b (unwrap_or (charged_account terms before request) 0) (grants_after terms before request)) opens_is
            ∙ ap (λ (a : Option ℕ). opening-change success (unwrap_or a 0) (grants_after terms before request)) account_is
            ∙ ap (opening-change success account) grants);
        least = omega (arith, ints);
        most = omega (arith, ints);
        grants = subst (λ (hs : List Hold). held_in hs ≤ 2 ^ 89) (sym grants) (opening-few success holds few);
      }

  -- ---- what is free for the first grant

  pub free-update : (place : ℕ) (session : OpenSession) (free : ℤ) (ended : ℕ) → request.kind ≡ Update → place_in sessions request.session ≡ Some place
      → slice_get sessions place ≡ Some session
      → ended + held_in (holds_beside request.services session.holds) ≡ held_in session.holds
      → free ≡ ((slice_index_or balances session.account (pos 0) -ℤ pos (reserved_in session.account sessions)) +ℤ pos ended) -ℤ pos
      (used_total (price_by terms before request Update) request.services)
      → free ≡ free_to_grant terms before request
  free-update place session free ended is at there parts value =
      let known = is_some (account_of terms request.subscriptions) in
      let settled : settles_after terms before request ≡ true = settles-by terms before request Update true known is (opened place session at there) refl in
      let debit = settled-debit Update is settled refl in
      let account = free-stands s session.account (open-stands s request.session place session at there).3 in
      let grant = free_to_grant-open s request place session is at there in
      omega (arith, ints)

  pub free-initial : (account : ℕ) (free : ℤ) → request.kind ≡ Initial → place_in sessions request.session ≡ None
      → account_of terms request.subscriptions ≡ Some account → account < length terms.accounts
      → free ≡ ((slice_index_or balances account (pos 0) -ℤ pos (reserved_in account sessions)) +ℤ pos 0) -ℤ pos (used_total (price_by terms before request Initial) request.services)
      → free ≡ free_to_grant terms before request
  free-initial account free is shut own within value =
      let settled : settles_after terms before request ≡ true = settles-by terms before request Initial false true is (closed shut) (ap is_some own) in
      let debit = settled-debit Initial is settled refl in
      let stands = free-stands s account within in
      let grant = free_to_grant-closed s request account shut (charged Initial is ∙ own) within in
      omega (arith, ints)

  -- ---- an EVENT

  free-event : (account : Option ℕ) → IfSome account (λ place. place < length terms.accounts)
      → free_in balances sessions account ≡ free_for terms before account
  free-event None within = refl
  free-event (Some account) within = sym (free-stands s account within)

  pub event-outcome : (account : Option ℕ) (total : Option ℕ) → request.kind ≡ Event → account ≡ account_of terms request.subscriptions
      → IfSome account (λ place. place < length terms.accounts)
      → total ≡ total_of terms.tariffs request.services
      → negsuc (2 ^ 103 - 1) ≤ℤ action_debit (unwrap_or total 0)
      (event_reply terms request.services account (free_in balances sessions account) request.action).code request.action
      → action_debit (unwrap_or total 0) (event_reply terms request.services account (free_in balances sessions account) request.action).code
      request.action ≤ℤ pos (2 ^ 103)
      → IsOutcome terms before sessions moment request (record {
        account = account;
        debit = action_debit (unwrap_or total 0) (event_reply terms request.services account (free_in balances sessions account) request.action).code
            request.action;
        reply = event_reply terms request.services account (free_in balances sessions account) request.action;
        change = Stays;
      })
  event-outcome account total is own within costs least most =
      let none : settles_after terms before request ≡ false =
      settles-by terms before request Event (is_open terms.validity request.session before) (is_some (account_of terms request.subscriptions)) is
      refl refl in
      let reply : event_reply terms request.services account (free_in balances sessions account) request.action ≡ event_after terms before request =
      ap (λ (z : ℤ). event_reply terms request.services account z request.action) (free-event account within)
      ∙ ap (λ (a : Option ℕ). event_reply terms request.services a (free_for terms before a) request.action) own in
      record {
        account = own ∙ sym (charged Event is);
        debit = ap (λ (t : Option ℕ). action_debit (unwrap_or t 0)
            (event_reply terms request.services account (free_in balances sessions account) request.action).code request.action) costs
            ∙ ap (λ (r : CcReply). action_debit (unwrap_or (total_of terms.tariffs request.services) 0) r.code request.action) reply
            ∙ sym (ap (debit_by terms before request) is);
        reply = reply ∙ sym (ap (reply_by terms before request) is);
        change = event-stays (place_in sessions request.session) (find (is_session request.session) sessions) is
            (opens-unsettled terms before moment request none);
        least = least;
        most = most;
        grants = grants-unsettled terms before request none;
      } where
        posting : Posting
        posting = posting_of terms before (Take moment request)

        event-stays : (place : Option ℕ) (found : Option OpenSession) → request.kind ≡ Event → opens posting ≡ false
            → Stays ≡ change_at request moment posting place found
        event-stays (Some place) (Some session) kind shut = sym (ap (λ (k : RequestKind). change_open request moment posting k place session) kind)
        event-stays (Some place) None kind shut =
            sym (ap
            (λ (b : Bool). cond b (Opens (opened_session request moment posting.tariffs (unwrap_or posting.account 0) posting.grants))
            Stays) shut)
        event-stays None found kind shut =
            sym (ap
            (λ (b : Bool). cond b (Opens (opened_session request moment posting.tariffs (unwrap_or posting.account 0) posting.grants))
            Stays) shut)

-- ---- a outcome by its parts

pub same-outcome : {terms : Terms} {before : List Posting} {sessions : List OpenSession} {moment : Moment} {request : CcRequest} (account : Option ℕ)
    (debit other_debit : ℤ) (reply other_reply : CcReply) (change other_change : Change)
    → debit ≡ other_debit → reply ≡ other_reply → change ≡ other_change
    → IsOutcome terms before sessions moment request (record { account = account; debit = debit; reply = reply; change = change })
    → IsOutcome terms before sessions moment request (record { account = account; debit = other_debit; reply = other_reply; change = other_change })
same-outcome {terms} {before} {sessions} {moment} {request} account debit other_debit reply other_reply change other_change d r c outcome =
    subst (λ (x : Change). IsOutcome terms before sessions moment request
    (record { account = account; debit = other_debit; reply = other_reply; change = x })) c
    (subst (λ (x : CcReply). IsOutcome terms before sessions moment request (record { account = account; debit = other_debit; reply = x; change = change })) r
    (subst (λ (x : ℤ). IsOutcome terms before sessions moment request (record { account = account; debit = x; reply = reply; change = change })) d outcome))

-- the outcome of a request that is refused
abbrev pub refused-outcome : Option ℕ → ResultCode → Change → Outcome
refused-outcome account code change = record { account = account; debit = pos 0; reply = code_alone code; change = change }
