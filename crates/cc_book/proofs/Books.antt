-- What a book keeps beside its history.
use Rattle.std.proofs.Common.{◌≡◌, ℕ, suc, ◌&&◌, ◌<◌, ◌≤◌, ◌^◌, List, [], ◌∷◌, ◌++◌, length, map, take, drop, get_or, Option, Some, None, Ok, Err, Bool, true, false, cond, refl, sym, ap, subst, ◌∙◌, arith, length-append}
use Rattle.std.specs.Prelude.{ℤ, IfSome, IsErrAnd, IsOk, IsSome, IsTrue, MatchOption, Result, is_ok, nat_abs, pos, find, unwrap_or, slice_get, slice_index_or}
use Rattle.std.specs.List.{AllByRecursion, fold}
use Rattle.std.proofs.Math.ListN.{get_or-append}
use Rattle.std.proofs.Math.Seq.{drop-cons, get_or-append_seam}
use Rattle.std.proofs.lemmas.List.{get_or_default, length-map, length-take-le, map-append, take-append-drop}
use Rattle.std.proofs.lemmas.List.Sums.{fold-append}
use Rattle.std.proofs.lemmas.Option.{get_or_from_slice_get, slice_get_within}
use Rattle.dia_base.specs.declared.number.Moment.{Moment}
use Rattle.cc_view.specs.declared.reply.CcReply.{CcReply}
use Rattle.cc_view.specs.declared.request.CcRequest.{CcRequest}
use Rattle.cc_view.specs.declared.request.RequestKind.{RequestKind}
use Rattle.cc_view.specs.declared.request.RequestKind.TheVariants.{Initial, Update, Termination, Event}
use Rattle.cc_book.specs.declared.outcome.Change.{Change}
use Rattle.cc_book.specs.declared.outcome.Change.TheVariants.{Stays, Opens}
use Rattle.cc_book.specs.declared.outcome.Outcome.{Outcome}
use Rattle.cc_book.specs.declared.entry.Entry.{Entry}
use Rattle.cc_book.specs.declared.entry.Entry.TheVariants.{Take}
use Rattle.cc_book.specs.declared.session.OpenSession.{OpenSession}
use Rattle.cc_book.specs.declared.terms.Terms.{Terms}
use Rattle.cc_book.specs.AccountMachine.{charged_account, post, posting_of, postings_of, repeat_reply, reply_to, terms_at, terms_of}
use Rattle.cc_book.specs.Bounds.{IsBounded, MovesLittle, OpensSmall, bears_in, bears_request}
use Rattle.cc_book.specs.Duplicate.{Key, key_of}
use Rattle.cc_book.specs.History.{IsKeptAt, IsNew}
use Rattle.cc_book.specs.Posting.{Posting}
use Rattle.cc_book.specs.Balance.{balance_of, open_sessions_of, reserved_of, spent_by}
use Rattle.cc_book.specs.Standing.{IsOutcome, IsPlacedIn, IsSmall, Stands, after_change, after_debit, change_at, change_of, change_open, is_session, next_sessions, place_in, reserved_in, sessions_after, opened_session}
use Rattle.cc_book.specs.Session.{open_count, opens, outlasts}
use Rattle.cc_book.specs.TermsChange.{terms_with}
use Rattle.cc_book.proofs.Sums.{all_placed, charged_account-within}
use Rattle.cc_book.proofs.Stands.{open_count-stands, reserved-stands}
use Rattle.cc_book.proofs.Bounds.{borne-stands, bounded-push, few-bear, moves-little, small-bounded}
use Rattle.cc_book.specs.declared.book.Answered.{Answered}
use Rattle.cc_book.specs.declared.book.BookRefusal.{BookRefusal}
use Rattle.cc_book.specs.declared.book.BookRefusal.TheVariants.{OutOfMemory}
use Rattle.cc_book.specs.declared.plan.Plan.{Plan}
use Rattle.cc_book.specs.declared.plan.Taken.{Taken}
use Rattle.cc_book.specs.Planning.{IsTaking, PlansWith}
use Rattle.cc_book.specs.Taking.{AnswersRepeat, IsBook, Ledger, answer_of, answer_within}
use Rattle.cc_book.proofs.Sessions.{open_at_place}
use Rattle.cc_book.proofs.Replies.{answer_of-fresh, answer_of-kept}
use Rattle.cc_book.proofs.Outcomes.{take-stands}
use Rattle.cc_book.proofs.Keys.{IsLegal-empty, IsLegal-push}
use Rattle.cc_book.proofs.Postings.{all_push, postings_of-length, postings_of-push, terms_of-push}

-- ---- the replies of a history

abbrev pub replies_in : List Posting → List (Option CcReply)
replies_in postings = map (λ (p : Posting). p.reply) postings

-- what later entries do changes no reply
replies-stay : (terms : Terms) (before : List Posting) (history : List Entry) (place : ℕ) (d : Option CcReply) → place < length before
    → get_or (replies_in (fold (post terms) before history)) place d ≡ get_or (replies_in before) place d
replies-stay terms before [] place d lt = refl
replies-stay terms before (entry ∷ history) place d lt =
    let posting = posting_of (terms_at terms before) before entry in
    let long = length-append before (posting ∷ []) in
    let same = length-map before (λ (p : Posting). p.reply) in
    replies-stay terms (post terms before entry) history place d (omega arith)
    ∙ ap (λ (rs : List (Option CcReply)). get_or rs place d) (map-append (λ (p : Posting). p.reply) before (posting ∷ []))
    ∙ get_or-append (replies_in before) (replies_in (posting ∷ [])) d place (omega arith)

-- the reply at a place is that of its entry after the entries before it
replies-at : (terms : Terms) (before after : List Entry) (entry : Entry) (d : Option CcReply)
    → get_or (replies_in (postings_of terms (before ++ entry ∷ after))) (length before) d ≡ (posting_of (terms_of terms before) (postings_of terms before) entry).reply
unfolding postings_of
replies-at terms before after entry d =
    let left = postings_of terms before in
    let posting = posting_of (terms_of terms before) left entry in
    let long = postings_of-length terms before in
    let more = length-append left (posting ∷ []) in
    let same = length-map left (λ (p : Posting). p.reply) in
    ap (λ (ps : List Posting). get_or (replies_in ps) (length before) d) (fold-append (post terms) [] before (entry ∷ after))
    ∙ replies-stay terms (post terms left entry) after (length before) d (omega arith)
    ∙ ap (λ (rs : List (Option CcReply)). get_or rs (length before) d) (map-append (λ (p : Posting). p.reply) left (posting ∷ []))
    ∙ ap (λ (n : ℕ). get_or (replies_in left ++ posting.reply ∷ []) n d) (sym (same ∙ long))
    ∙ get_or-append_seam (replies_in left) posting.reply [] d

-- a list, parted at a place
split-at : (history : List Entry) (place : ℕ) (entry : Entry) → slice_get history place ≡ Some entry
    → history ≡ take place history ++ entry ∷ drop (suc place) history
split-at history place entry there =
    let within = slice_get_within history place entry there in
    sym (take-append-drop place history)
    ∙ ap (λ (es : List Entry). take place history ++ es)
    (drop-cons history place entry within ∙ ap (λ (e : Entry). e ∷ drop (suc place) history) (get_or_from_slice_get history place entry entry there))

pub kept-reply : (terms : Terms) (history : List Entry) (replies : List (Option CcReply)) (key : Key) (place : ℕ) (taken : CcRequest)
    → replies ≡ map (λ posting. posting.reply) (postings_of terms history)
    → IsKeptAt history key place taken → get_or replies place None ≡ Some (reply_to terms (take place history) taken)
unfolding reply_to
kept-reply terms history replies key place taken kept at =
    let within = slice_get_within history place (Take at.moment taken) at.entry in
    let long : length (take place history) ≡ place = length-take-le place history (omega arith) in
    ap (λ (rs : List (Option CcReply)). get_or rs place None) kept
    ∙ ap (λ (es : List Entry). get_or (replies_in (postings_of terms es)) place None) (split-at history place (Take at.moment taken) at.entry)
    ∙ ap (λ (n : ℕ). get_or (replies_in (postings_of terms (take place history ++ Take at.moment taken ∷ drop (suc place) history))) n None) (sym long)
    ∙ replies-at terms (take place history) (drop (suc place) history) (Take at.moment taken) None

-- ---- the sessions that entries leave open

pub sessions_after-push : (validity : ℕ) (before : List Posting) (posting : Posting)
    → sessions_after validity (before ++ posting ∷ []) ≡ next_sessions validity (sessions_after validity before) posting
unfolding sessions_after
sessions_after-push validity before posting = fold-append (next_sessions validity) [] before (posting ∷ [])

at_most_one : (b : Bool) → cond {A = ℕ} b 1 0 ≤ 1
at_most_one true = omega arith
at_most_one false = omega arith

-- each was opened by an entry of its own
open_count-within : (validity : ℕ) (before : List Posting) → open_count validity before ≤ length before
open_count-within validity [] = omega arith
open_count-within validity (posting ∷ after) =
    let one = at_most_one (opens posting && outlasts validity posting.entry after) in
    let more = open_count-within validity after in
    omega arith

-- ---- a book without entries, and with one more

pub IsBook-empty : (terms : Terms) (limit : ℕ) (balances : List ℤ) → OpensSmall terms → IsBounded balances [] → Stands terms [] balances []
    → IsBook terms limit [] [] balances []
unfolding postings_of sessions_after
IsBook-empty terms limit balances openings bounded stands = record {
  legal = IsLegal-empty terms;
  within = omega arith;
  replies_kept = refl;
  stands = stands;
  sessions_left = refl;
  bounded = bounded;
  openings = openings;
  moved = tt;
}

-- the replies with one more posting
pub replies-push : (before : List Posting) (next : List Posting) (posting : Posting) (replies : List (Option CcReply)) → next ≡ before ++ posting ∷ []
    → replies ≡ replies_in before → replies ++ posting.reply ∷ [] ≡ replies_in next
replies-push before next posting replies is kept =
    ap (λ (rs : List (Option CcReply)). rs ++ posting.reply ∷ []) kept
    ∙ sym (ap replies_in is ∙ map-append (λ (p : Posting). p.reply) before (posting ∷ []))

-- what stands under the terms and the postings of one more entry
pub stands-push : (terms : Terms) (history : List Entry) (entry : Entry) {balances : List ℤ} {sessions : List OpenSession}
    → Stands (terms_with (terms_of terms history) entry)
    (postings_of terms history ++ posting_of (terms_of terms history) (postings_of terms history) entry ∷ []) balances sessions
    → Stands (terms_of terms (history ++ entry ∷ [])) (postings_of terms (history ++ entry ∷ [])) balances sessions
stands-push terms history entry {balances} {sessions} s =
    subst (λ (ps : List Posting). Stands (terms_of terms (history ++ entry ∷ [])) ps balances sessions) (sym (postings_of-push terms history entry))
    (subst (λ (now : Terms). Stands now (post terms (postings_of terms history) entry) balances sessions) (sym (terms_of-push terms history entry)) s)

pub opens-push : (terms : Terms) (history : List Entry) (entry : Entry) → OpensSmall (terms_with (terms_of terms history) entry)
    → OpensSmall (terms_of terms (history ++ entry ∷ []))
opens-push terms history entry small = subst (λ (now : Terms). OpensSmall now) (sym (terms_of-push terms history entry)) small

pub IsBook-push : (terms : Terms) (limit : ℕ) (history : List Entry) (replies : List (Option CcReply)) (balances : List ℤ) (sessions : List OpenSession)
    (moment : Moment) (request : CcRequest) (outcome : Outcome)
    → IsBook terms limit history replies balances sessions → IsNew history (key_of request) → length history < limit
    → IsTrue (bears_request (terms_of terms history) (postings_of terms history) request)
    → IsOutcome (terms_of terms history) (postings_of terms history) sessions moment request outcome
    → IsBook terms limit (history ++ Take moment request ∷ []) (replies ++ Some outcome.reply ∷ []) (after_debit balances outcome.account outcome.debit)
    (after_change sessions outcome.change)
IsBook-push terms limit history replies balances sessions moment request outcome book new room borne does =
    let before = postings_of terms history in
    let now = terms_of terms history in
    let posting = posting_of now before (Take moment request) in
    let long = length-append history (Take moment request ∷ []) in
    let next = postings_of-push terms history (Take moment request) in
    record {
      legal = IsLegal-push terms history moment request book.legal new;
      within = omega arith;
      replies_kept = ap (λ (r : CcReply). replies ++ Some r ∷ []) does.reply
          ∙ replies-push before (postings_of terms (history ++ Take moment request ∷ [])) posting replies next book.replies_kept;
      stands = stands-push terms history (Take moment request) (take-stands book.stands does);
      sessions_left = ap (after_change sessions) does.change
          ∙ ap (λ (ss : List OpenSession). after_change ss (change_of ss request moment posting)) book.sessions_left
          ∙ sym (ap (sessions_after terms.validity) next ∙ sessions_after-push terms.validity before posting);
      bounded = bounded-push book.stands moment request outcome does borne book.bounded;
      openings = opens-push terms history (Take moment request) book.openings;
      moved = subst (AllByRecursion MovesLittle) (sym next)
          (all_push MovesLittle before posting book.moved (moves-little now before sessions moment request outcome does));
    }

-- ---- what a book has is what its history has left

module _ (terms : Terms) (history : List Entry) {balances : List ℤ} {sessions : List OpenSession}
    (s : Stands (terms_of terms history) (postings_of terms history) balances sessions) where
  pub balance_of-is : (account : ℕ) → account < length (terms_of terms history).accounts → slice_index_or balances account (pos 0) ≡ balance_of terms history account
  unfolding balance_of spent_by
  balance_of-is account within = s.balance account within

  pub reserved_of-is : (account : ℕ) → reserved_of terms history account ≡ reserved_in account sessions
  unfolding reserved_of
  reserved_of-is account = reserved-stands s account

  pub open_sessions_of-is : open_sessions_of terms history ≡ length sessions
  unfolding open_sessions_of
  open_sessions_of-is = open_count-stands s

pub small-book : {terms : Terms} {limit : ℕ} {history : List Entry} {replies : List (Option CcReply)} {balances : List ℤ} {sessions : List OpenSession}
    → IsBook terms limit history replies balances sessions → IsSmall (terms_of terms history) balances sessions
small-book book = small-bounded book.stands book.bounded

pub sessions-within : {terms : Terms} {limit : ℕ} {history : List Entry} {replies : List (Option CcReply)} {balances : List ℤ} {sessions : List OpenSession}
    → IsBook terms limit history replies balances sessions → length sessions ≤ length history
sessions-within {terms} {limit} {history} book =
    let long = postings_of-length terms history in
    let count = open_count-stands book.stands in
    let few = open_count-within terms.validity (postings_of terms history) in
    omega arith

pub replies-long : {terms : Terms} {limit : ℕ} {history : List Entry} {replies : List (Option CcReply)} {balances : List ℤ} {sessions : List OpenSession}
    → IsBook terms limit history replies balances sessions → length replies ≡ length history
replies-long {terms} {limit} {history} book = ap length book.replies_kept ∙ length-map (postings_of terms history) (λ (p : Posting). p.reply)
    ∙ postings_of-length terms history

-- ---- what a book answers

abbrev ledger_of : Terms → ℕ → List Entry → Ledger
ledger_of terms limit history = record { terms = terms; limit = limit; history = history }

-- a request that is kept, or that is new and finds room, is not refused
pub kept-answered : (terms : Terms) (limit : ℕ) (history : List Entry) (request taken : CcRequest) (place : ℕ) → IsKeptAt history (key_of request) place taken
    → IsOk (answer_of (ledger_of terms limit history) request)
kept-answered terms limit history request taken place at =
    ap (λ (r : Result Answered BookRefusal). is_ok r)
    (answer_of-kept (ledger_of terms limit history) request taken place (repeat_reply terms (take place history) taken request) at refl)

pub new-answered : (terms : Terms) (limit : ℕ) (history : List Entry) (request : CcRequest) → IsNew history (key_of request) → length history < limit
    → IsOk (answer_of (ledger_of terms limit history) request)
new-answered terms limit history request new room =
    ap (λ (r : Result Answered BookRefusal). is_ok r)
    (answer_of-fresh (ledger_of terms limit history) request (length history) (reply_to terms history request) new refl room refl)

pub no_memory : (expected : Result Answered BookRefusal) (result : Result Plan BookRefusal) → IsOk expected → IsErrAnd result (λ e. e ≡ OutOfMemory)
    → PlansWith expected result
no_memory expected (Ok plan) fine h = absurd h
no_memory expected (Err e) fine h = let P : BookRefusal → Type 0 = λ f. PlansWith expected (Err f) in subst P (sym h) fine

-- a book that answers by value as by count, under another name
pub within-now : {ledger now : Ledger} (request : CcRequest) → ledger ≡ now → answer_within ledger request ≡ answer_of ledger request
    → answer_within now request ≡ answer_of now request
within-now request is same = subst (λ (l : Ledger). answer_within l request ≡ answer_of l request) is same

pub within-ok : {ledger now : Ledger} (request : CcRequest) → ledger ≡ now → answer_within ledger request ≡ answer_of ledger request
    → IsOk (answer_of ledger request) → IsOk (answer_within now request)
within-ok request is same fine = subst (λ (l : Ledger). IsOk (answer_within l request)) is
    (subst (λ (r : Result Answered BookRefusal). IsOk r) (sym same) fine)

some_if : {X : Type 0} (P : X → Type 0) (found : Option X) (x : X) → found ≡ Some x → IfSome found P → P x
some_if {X = X} P found x is so = subst (λ (o : Option X). IfSome o P) is so

module _ {terms : Terms} {limit : ℕ} {history : List Entry} {replies : List (Option CcReply)} {balances : List ℤ} {sessions : List OpenSession}
    (book : IsBook terms limit history replies balances sessions) where
  -- the reply of a request that is kept
  pub kept-some : (key : Key) (place : ℕ) (taken : CcRequest) → IsKeptAt history key place taken → IsSome (slice_index_or replies place None)
  kept-some key place taken at = subst (λ (o : Option CcReply). IsSome o) (sym (kept-reply terms history replies key place taken book.replies_kept at)) refl

  answered-kept : (request taken : CcRequest) (place : ℕ) (answered : Answered) → IsKeptAt history (key_of request) place taken
      → IfSome (slice_index_or replies place None) (AnswersRepeat taken request place answered)
      → answered ≡ record { reply = repeat_reply terms (take place history) taken request; place = place; fresh = false }
  answered-kept request taken place answered at is =
      some_if (AnswersRepeat taken request place answered) (slice_index_or replies place None)
      (reply_to terms (take place history) taken)
      (kept-reply terms history replies (key_of request) place taken book.replies_kept at) is

  pub answer-kept : (request taken : CcRequest) (place : ℕ) (answered : Answered) → IsKeptAt history (key_of request) place taken
      → IfSome (slice_index_or replies place None) (AnswersRepeat taken request place answered)
      → answer_of (ledger_of terms limit history) request ≡ Ok answered
  answer-kept request taken place answered at is =
      answer_of-kept (ledger_of terms limit history) request taken place (repeat_reply terms (take place history) taken request) at refl
      ∙ ap (λ (a : Answered). Ok a) (sym (answered-kept request taken place answered at is))

  pub not-fresh : (request taken : CcRequest) (place : ℕ) (answered : Answered) → IsKeptAt history (key_of request) place taken
      → IfSome (slice_index_or replies place None) (AnswersRepeat taken request place answered) → answered.fresh ≡ false
  not-fresh request taken place answered at is = ap (λ (a : Answered). a.fresh) (answered-kept request taken place answered at is)

  pub answer-fresh : (moment : Moment) (request : CcRequest) (outcome : Outcome) → IsNew history (key_of request) → length history < limit
      → IsOutcome (terms_of terms history) (postings_of terms history) sessions moment request outcome
      → answer_of (ledger_of terms limit history) request ≡ Ok (record { reply = outcome.reply; place = length history; fresh = true })
  unfolding reply_to
  answer-fresh moment request outcome new room does =
      answer_of-fresh (ledger_of terms limit history) request (length history) outcome.reply new refl room does.reply

  -- whether the account that a request charges bears it is told by what the book has
  pub borne-book : (request : CcRequest) (account : Option ℕ) → account ≡ charged_account (terms_of terms history) (postings_of terms history) request
      → bears_in balances sessions account ≡ bears_request (terms_of terms history) (postings_of terms history) request
  borne-book request account is =
      ap (bears_in balances sessions) is
      ∙ borne-stands book.stands (charged_account (terms_of terms history) (postings_of terms history) request)
      (charged_account-within (terms_of terms history) (postings_of terms history) request (all_placed terms history))

  pub borne-by : (request : CcRequest) (account : Option ℕ) → account ≡ charged_account (terms_of terms history) (postings_of terms history) request
      → bears_in balances sessions account ≡ true → IsTrue (bears_request (terms_of terms history) (postings_of terms history) request)
  borne-by request account is bears = sym (borne-book request account is) ∙ bears

  -- that account is one of the book's
  pub charged-within : (request : CcRequest) (account : Option ℕ) → account ≡ charged_account (terms_of terms history) (postings_of terms history) request
      → (place : ℕ) → account ≡ Some place → place < length balances
  charged-within request account is place some =
      let known = charged_account-within (terms_of terms history) (postings_of terms history) request (all_placed terms history) in
      let here = subst (λ (a : Option ℕ). MatchOption a (Unit {0}) (λ p. p < length (terms_of terms history).accounts)) (sym is ∙ some) known in
      let long = book.stands.accounts in
      omega (arith, here)

  -- and where the book is short, it does
  pub short-bears : (request : CcRequest) → limit ≤ 2 ^ 20 → length history < limit → bears_request (terms_of terms history) (postings_of terms history) request ≡ true
  short-bears request short room =
      let long = postings_of-length terms history in
      few-bear (terms_of terms history) (postings_of terms history) (charged_account (terms_of terms history) (postings_of terms history) request) book.openings book.moved (omega arith)

  -- what a plan does, it does to the sessions that the book has
  pub taking-outcome : (taken : Taken) → IsTaking (ledger_of terms limit history) taken
      → IsOutcome (terms_of terms history) (postings_of terms history) sessions taken.moment taken.request taken.outcome
  taking-outcome taken taking =
      subst (λ (ss : List OpenSession). IsOutcome (terms_of terms history) (postings_of terms history) ss taken.moment taken.request taken.outcome) (sym book.sessions_left)
      taking.outcome

  pub planned-outcome : (moment : Moment) (request : CcRequest) (outcome : Outcome)
      → IsOutcome (terms_of terms history) (postings_of terms history) sessions moment request outcome
      → IsOutcome (terms_of terms history) (postings_of terms history) (sessions_after terms.validity (postings_of terms history)) moment request outcome
  planned-outcome moment request outcome does =
      subst (λ (ss : List OpenSession). IsOutcome (terms_of terms history) (postings_of terms history) ss moment request outcome) book.sessions_left does

  -- the account that is debited is one of the book's, and the session that changes too
  pub account-within : (moment : Moment) (request : CcRequest) (outcome : Outcome)
      → IsOutcome (terms_of terms history) (postings_of terms history) sessions moment request outcome → (place : ℕ) → outcome.account ≡ Some place → place < length balances
  account-within moment request outcome does place is =
      let known = charged_account-within (terms_of terms history) (postings_of terms history) request (all_placed terms history) in
      let here = subst (λ (a : Option ℕ). MatchOption a (Unit {0}) (λ p. p < length (terms_of terms history).accounts)) (sym does.account ∙ is) known in
      let long = book.stands.accounts in
      omega (arith, here)

  pub change-within : (moment : Moment) (request : CcRequest) (outcome : Outcome)
      → IsOutcome (terms_of terms history) (postings_of terms history) sessions moment request outcome → IsPlacedIn outcome.change (length sessions)
  change-within moment request outcome does =
      subst (λ (change : Change). IsPlacedIn change (length sessions)) (sym does.change)
      (by (place_in sessions request.session) (find (is_session request.session) sessions) refl)
    where
      posting : Posting
      posting = posting_of (terms_of terms history) (postings_of terms history) (Take moment request)

      shut : (b : Bool) (session : OpenSession) → IsPlacedIn (cond b (Opens session) Stays) (length sessions)
      shut true session = tt
      shut false session = tt

      open_by : (place : ℕ) (session : OpenSession) (kind : RequestKind) → place < length sessions
          → IsPlacedIn (change_open request moment posting kind place session) (length sessions)
      open_by place session Initial lt = lt
      open_by place session Update lt = lt
      open_by place session Termination lt = lt
      open_by place session Event lt = tt

      by : (place : Option ℕ) (found : Option OpenSession) → place_in sessions request.session ≡ place
          → IsPlacedIn (change_at request moment posting place found) (length sessions)
      by (Some place) (Some session) is =
          let at = open_at_place request.session sessions place is in
          open_by place session request.kind (slice_get_within sessions place at.0 at.1)
      by (Some place) None is = shut (opens posting)
          (opened_session request moment posting.tariffs (unwrap_or posting.account 0) posting.grants)
      by None found is = shut (opens posting) (opened_session request moment posting.tariffs (unwrap_or posting.account 0) posting.grants)

-- ---- under the terms that hold now

module _ {terms : Terms} {limit : ℕ} {history : List Entry} {replies : List (Option CcReply)} {balances : List ℤ} {sessions : List OpenSession}
    (book : IsBook terms limit history replies balances sessions) (now : Terms) (is : now ≡ terms_of terms history) where
  pub small-now : IsSmall now balances sessions
  small-now = subst (λ (t : Terms). IsSmall t balances sessions) (sym is) (small-book book)

  pub charged-now : (request : CcRequest) (result : Option ℕ)
      → ((before : List Posting) → Stands now before balances sessions → result ≡ charged_account now before request)
      → result ≡ charged_account (terms_of terms history) (postings_of terms history) request
  charged-now request result charged =
      subst (λ (t : Terms). (before : List Posting) → Stands t before balances sessions → result ≡ charged_account t before request) is charged
      (postings_of terms history) book.stands

  pub outcome-now : (moment : Moment) (request : CcRequest) (outcome : Outcome)
      → ((before : List Posting) → Stands now before balances sessions → IsOutcome now before sessions moment request outcome)
      → IsOutcome (terms_of terms history) (postings_of terms history) sessions moment request outcome
  outcome-now moment request outcome does =
      subst (λ (t : Terms). (before : List Posting) → Stands t before balances sessions → IsOutcome t before sessions moment request outcome) is does
      (postings_of terms history) book.stands

-- a book by its parts
pub same-book : {terms : Terms} {limit : ℕ} (history other_history : List Entry) (replies other_replies : List (Option CcReply))
    (balances other_balances : List ℤ) (sessions other_sessions : List OpenSession)
    → history ≡ other_history → replies ≡ other_replies → balances ≡ other_balances → sessions ≡ other_sessions
    → IsBook terms limit history replies balances sessions → IsBook terms limit other_history other_replies other_balances other_sessions
same-book {terms} {limit} history other_history replies other_replies balances other_balances sessions other_sessions h r b s book =
    subst (λ (ss : List OpenSession). IsBook terms limit other_history other_replies other_balances ss) s
    (subst (λ (bs : List ℤ). IsBook terms limit other_history other_replies bs sessions) b
    (subst (λ (rs : List (Option CcReply)). IsBook terms limit other_history rs balances sessions) r
    (subst (λ (es : List Entry). IsBook terms limit es replies balances sessions) h book)))

-- a balance stays below 2 ^ 124 in size
pub small-balance : {terms : Terms} {limit : ℕ} {history : List Entry} {replies : List (Option CcReply)} {balances : List ℤ} {sessions : List OpenSession}
    → IsBook terms limit history replies balances sessions
    → (account : ℕ) (d : ℤ) → account < length balances → nat_abs (slice_index_or balances account d) < 2 ^ 124
small-balance {balances = balances} book account d lt =
    let size = book.bounded.balance account lt in
    let moved : nat_abs (slice_index_or balances account d) ≡ nat_abs (slice_index_or balances account (pos 0)) = ap nat_abs (get_or_default balances account d (pos 0) lt) in
    omega arith
