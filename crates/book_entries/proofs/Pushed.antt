-- The rows of a history with an entry more.
use Rattle.std.proofs.Common.{◌≡◌, ℕ, zero, suc, ◌+◌, List, [], ◌∷◌, ◌++◌, length, map, refl, sym, ap, subst, ◌∙◌, append_assoc, cond, arith}
use Rattle.std.specs.Prelude.{Option, Some, None, Bool, true, MatchOption, ℤ, Result, Ok, Err, IfOk}
use Rattle.std.proofs.lemmas.List.{append-nil, append_cancel_left}
use Rattle.dia_base.specs.declared.number.Moment.{Moment}
use Rattle.book_rows.specs.declared.row.Row.{Row}
use Rattle.book_rows.specs.declared.row.Step.{Step}
use Rattle.book_rows.specs.declared.row.Step.TheVariants as steps
use Rattle.book_rows.specs.declared.row.Sum.{Sum}
use Rattle.book_rows.specs.Row.{body, body_of, spelled, sum_after, Chains}
use Rattle.cc_view.specs.declared.request.CcRequest.{CcRequest}
use Rattle.cc_view.specs.declared.reply.CcReply.{CcReply}
use Rattle.cc_book.specs.declared.entry.Entry.{Entry}
use Rattle.cc_book.specs.declared.entry.Entry.TheVariants.{Take, Sweep, ChangeTerms}
use Rattle.cc_book.specs.declared.terms.Terms.{Terms}
use Rattle.cc_book.specs.declared.terms_change.TermsChange.{TermsChange}
use Rattle.cc_book.specs.declared.plan.Plan.{Plan}
use Rattle.cc_book.specs.declared.plan.Taken.{Taken}
use Rattle.cc_book.specs.AccountMachine.{debit_after, postings_of, reply_after, reply_to, terms_of}
use Rattle.cc_book.specs.Balance.{debit_of}
use Rattle.cc_book.specs.Changing.{with_change}
use Rattle.cc_book.specs.declared.book.Answered.{Answered}
use Rattle.cc_book.specs.Planning.{IsGoodFor, IsRepeated, IsTakenWith, after_plan, after_taken, answer_planned}
use Rattle.cc_book.specs.Taking.{Ledger, after_sweep_with, with_take}
use Rattle.book_entries.specs.Replayed.{HasTaken}
use Rattle.book_entries.specs.Rows.{last_sum, moment_of, one_or_none, row_behind, rows_from, rows_of, step_behind, stored_of, sum_of}

pub rows_from-push : (terms : Terms) (before : List Entry) (sum : ℕ) (after : List Entry) (entry : Entry)
    → rows_from terms before sum (after ++ entry ∷ []) ≡ rows_from terms before sum after ++ row_behind terms (before ++ after) (last_sum sum (rows_from terms before sum after)) entry ∷ []
rows_from-push terms before sum [] entry = ap (λ (front : List Entry). row_behind terms front sum entry ∷ []) (sym (append-nil before))
rows_from-push terms before sum (first ∷ after) entry =
    let row = row_behind terms before sum first in
    ap (λ (rows : List Row). row ∷ rows) (rows_from-push terms (before ++ first ∷ []) row.sum.0 after entry
    ∙ ap (λ (front : List Entry). rows_from terms (before ++ first ∷ []) row.sum.0 after ++ row_behind terms front (last_sum row.sum.0 (rows_from terms (before ++ first ∷ []) row.sum.0 after)) entry ∷ []) (append_assoc before (first ∷ []) after))

pub rows_of-push : (terms : Terms) (history : List Entry) (entry : Entry) → rows_of terms (history ++ entry ∷ []) ≡ rows_of terms history ++ row_behind terms history (sum_of terms history) entry ∷ []
unfolding rows_of sum_of
rows_of-push terms history entry = rows_from-push terms [] 0 history entry

row_by : ℕ → Moment → Step → Sum → Row
row_by place moment step sum = record { place = place; moment = moment; step = step; sum = sum }

sum_by : ℕ → Sum
sum_by n = record { 0 = n }

pub is_row_behind : (terms : Terms) (before : List Entry) (sum : ℕ) (entry : Entry) (row : Row) → row.place ≡ length before → row.moment ≡ moment_of entry → row.step ≡ step_behind terms before entry → Chains sum row
    → row ≡ row_behind terms before sum entry
unfolding row_by sum_by
is_row_behind terms before sum entry row place moment step chains =
    let total : row.sum.0 ≡ sum_after sum (body.spell (length before, ((moment_of entry).0, step_behind terms before entry))) =
    chains ∙ ap (λ (n : ℕ). sum_after sum (body.spell (n, (row.moment.0, row.step)))) place
    ∙ ap (λ (m : Moment). sum_after sum (body.spell (length before, (m.0, row.step)))) moment
    ∙ ap (λ (s : Step). sum_after sum (body.spell (length before, ((moment_of entry).0, s)))) step in
    ap (λ (n : ℕ). row_by n row.moment row.step row.sum) place
    ∙ ap (λ (m : Moment). row_by (length before) m row.step row.sum) moment
    ∙ ap (λ (s : Step). row_by (length before) (moment_of entry) s row.sum) step
    ∙ ap (λ (n : ℕ). row_by (length before) (moment_of entry) (step_behind terms before entry) (sum_by n)) total

-- the rows with the row of an entry more
pub rows_with : (terms : Terms) (history : List Entry) (entry : Entry) (sum : ℕ) (row : Row) → sum ≡ sum_of terms history → row.place ≡ length history → row.moment ≡ moment_of entry → row.step ≡ step_behind terms history entry → Chains sum row
    → rows_of terms (history ++ entry ∷ []) ≡ rows_of terms history ++ row ∷ []
rows_with terms history entry sum row e place moment step chains =
    let same : row ≡ row_behind terms history (sum_of terms history) entry =
    is_row_behind terms history (sum_of terms history) entry row place moment step (subst (λ (n : ℕ). Chains n row) e chains) in
    rows_of-push terms history entry ∙ ap (λ (r : Row). rows_of terms history ++ r ∷ []) (sym same)

-- ---- the row of what a plan takes

entry_is : (a b : Entry) → a ∷ [] ≡ b ∷ [] → a ≡ b
entry_is a b e = cc

request_is : (m n : Moment) (r q : CcRequest) → Take m r ≡ Take n q → r ≡ q
request_is m n r q e = cc

reply_is : (terms : Terms) (history : List Entry) (request : CcRequest) → reply_after (terms_of terms history) (postings_of terms history) request ≡ reply_to terms history request
unfolding reply_to
reply_is terms history request = refl

debit_is : (terms : Terms) (history : List Entry) (request : CcRequest) → debit_after (terms_of terms history) (postings_of terms history) request ≡ debit_of terms history request
unfolding debit_of
debit_is terms history request = refl

after_is : (ledger : Ledger) (moment : Moment) (request : CcRequest) (fresh : Bool) (after : Ledger) → fresh ≡ true → after ≡ cond fresh (with_take ledger moment request) ledger → after ≡ with_take ledger moment request
after_is ledger moment request fresh after e is = is ∙ ap (λ (b : Bool). cond b (with_take ledger moment request) ledger) e

step_by : Terms → List Entry → CcRequest → CcReply → ℤ → Step
step_by terms before request reply debit = steps.Take (record { request = request; reply = reply; debit = debit })

pub taken_row : (ledger : Ledger) (plan : Plan) (taken : Taken) (moment : Moment) (request : CcRequest) (before : ℕ) (row : Row) → plan.taken ≡ Some taken → IsGoodFor ledger plan
    → after_plan ledger plan ≡ cond (answer_planned plan).fresh (with_take ledger moment request) ledger → before ≡ sum_of ledger.terms ledger.history
    → row.place ≡ plan.answered.place → row.moment ≡ moment → row.step ≡ steps.Take (record { request = request; reply = taken.outcome.reply; debit = taken.outcome.debit }) → Chains before row
    → rows_of ledger.terms (after_plan ledger plan).history ≡ rows_of ledger.terms ledger.history ++ row ∷ []
unfolding step_by
taken_row ledger plan taken moment request before row is good after e place at step chains =
    let takes : IsTakenWith ledger plan.answered taken = subst (λ (t : Option Taken). MatchOption t (IsRepeated ledger plan.answered) (λ t. IsTakenWith ledger plan.answered t)) is good in
    let fresh : plan.answered.fresh ≡ true = ap (λ (a : Answered). a.fresh) takes.answer in
    let longer : after_plan ledger plan ≡ with_take ledger moment request = after_is ledger moment request plan.answered.fresh (after_plan ledger plan) fresh after in
    let other : after_plan ledger plan ≡ with_take ledger taken.moment taken.request = ap (after_taken ledger) is in
    let entries : Take taken.moment taken.request ∷ [] ≡ Take moment request ∷ [] =
    append_cancel_left ledger.history (Take taken.moment taken.request ∷ []) (Take moment request ∷ []) (ap (λ (l : Ledger). l.history) (sym other ∙ longer)) in
    let same : taken.request ≡ request = request_is taken.moment moment taken.request request (entry_is (Take taken.moment taken.request) (Take moment request) entries) in
    let reply : taken.outcome.reply ≡ reply_to ledger.terms ledger.history request =
    takes.taking.outcome.reply ∙ reply_is ledger.terms ledger.history taken.request ∙ ap (reply_to ledger.terms ledger.history) same in
    let debit : taken.outcome.debit ≡ debit_of ledger.terms ledger.history request =
    takes.taking.outcome.debit ∙ debit_is ledger.terms ledger.history taken.request ∙ ap (debit_of ledger.terms ledger.history) same in
    let holds : row.step ≡ step_behind ledger.terms ledger.history (Take moment request) =
    step ∙ ap (λ (r : CcReply). step_by ledger.terms ledger.history request r taken.outcome.debit) reply ∙ ap (step_by ledger.terms ledger.history request (reply_to ledger.terms ledger.history request)) debit in
    ap (λ (l : Ledger). rows_of ledger.terms l.history) longer
    ∙ rows_with ledger.terms ledger.history (Take moment request) before row e (place ∙ ap (λ (a : Answered). a.place) takes.answer) at holds chains

pub step_is : {request r : CcRequest} {reply p : CcReply} {debit : ℤ} → r ≡ request → p ≡ reply → steps.Take (record { request = r; reply = p; debit = debit }) ≡ steps.Take (record { request = request; reply = reply; debit = debit })
step_is {request = request} {r = r} {reply = reply} {p = p} {debit = debit} e d =
    ap (λ (x : CcRequest). steps.Take (record { request = x; reply = p; debit = debit })) e ∙ ap (λ (x : CcReply). steps.Take (record { request = request; reply = x; debit = debit })) d

pub sweep_row : {E : Type 0} (r : Result Row E) (before place : ℕ) (moment : Moment) → IfOk r (λ row. (row.place ≡ place) × (row.moment ≡ moment) × (row.step ≡ steps.Sweep)) → IfOk r (Chains before)
    → IfOk r (λ row. (ledger : Ledger) → place ≡ length ledger.history → before ≡ sum_of ledger.terms ledger.history → rows_of ledger.terms (ledger.history ++ Sweep moment ∷ []) ≡ rows_of ledger.terms ledger.history ++ row ∷ [])
sweep_row (Ok row) before place moment parts chains = λ ledger at e. rows_with ledger.terms ledger.history (Sweep moment) before row e (parts.0 ∙ at) parts.1 parts.2 chains
sweep_row (Err e) before place moment parts chains = tt

pub change_is : {change c : TermsChange} → c ≡ change → steps.ChangeTerms c ≡ steps.ChangeTerms change
change_is e = ap (λ (x : TermsChange). steps.ChangeTerms x) e

pub no_row : (ledger : Ledger) (plan : Plan) → plan.taken ≡ None → rows_of ledger.terms (after_plan ledger plan).history ≡ rows_of ledger.terms ledger.history ++ []
no_row ledger plan is =
    ap (λ (l : Ledger). rows_of ledger.terms l.history) (ap (after_taken ledger) is) ∙ sym (append-nil (rows_of ledger.terms ledger.history))

-- ---- what is stored of a book with a row more

last_sum-push : (sum : ℕ) (rows : List Row) (row : Row) → last_sum sum (rows ++ row ∷ []) ≡ row.sum.0
last_sum-push sum [] row = refl
last_sum-push sum (first ∷ rows) row = last_sum-push first.sum.0 rows row

map-push : (rows : List Row) (row : Row) → map spelled (rows ++ row ∷ []) ≡ map spelled rows ++ spelled row ∷ []
map-push [] row = refl
map-push (first ∷ rows) row = ap (λ (octets : List (List ℕ)). spelled first ∷ octets) (map-push rows row)

pub has_taken : (old new : Ledger) (row : Row) (octets : List ℕ) (sum : ℕ) → new.terms ≡ old.terms → new.limit ≡ old.limit → rows_of old.terms new.history ≡ rows_of old.terms old.history ++ row ∷ [] → spelled row ≡ octets → sum ≡ row.sum.0
    → HasTaken old new octets sum
unfolding stored_of sum_of
has_taken old new row octets sum terms limit rows same is =
    let now : rows_of new.terms new.history ≡ rows_of old.terms old.history ++ row ∷ [] = ap (λ (t : Terms). rows_of t new.history) terms ∙ rows in
    record {
      terms = terms;
      limit = limit;
      stored = ap (map spelled) now ∙ map-push (rows_of old.terms old.history) row ∙ ap (λ (o : List ℕ). map spelled (rows_of old.terms old.history) ++ o ∷ []) same;
      last = is ∙ sym (ap (last_sum 0) now ∙ last_sum-push 0 (rows_of old.terms old.history) row);
    }

kept_terms : (ledger : Ledger) (taken : Option Taken) → (after_taken ledger taken).terms ≡ ledger.terms
kept_terms ledger None = refl
kept_terms ledger (Some taken) = refl

kept_limit : (ledger : Ledger) (taken : Option Taken) → (after_taken ledger taken).limit ≡ ledger.limit
kept_limit ledger None = refl
kept_limit ledger (Some taken) = refl

pub taken_again : (old new : Ledger) (plan : Plan) (found : Option Row) (row : Row) (octets : List ℕ) (sum : ℕ) → new ≡ after_plan old plan → found ≡ Some row
    → rows_of old.terms (after_plan old plan).history ≡ rows_of old.terms old.history ++ one_or_none found → spelled row ≡ octets → sum ≡ row.sum.0 → HasTaken old new octets sum
taken_again old new plan found row octets sum is one rows same total =
    has_taken old new row octets sum (ap (λ (l : Ledger). l.terms) is ∙ kept_terms old plan.taken) (ap (λ (l : Ledger). l.limit) is ∙ kept_limit old plan.taken)
    (ap (λ (l : Ledger). rows_of old.terms l.history) is ∙ rows ∙ ap (λ (f : Option Row). rows_of old.terms old.history ++ one_or_none f) one) same total

pub swept_again : (old new : Ledger) (moment : Moment) (ended : ℕ) (row : Row) (octets : List ℕ) (sum : ℕ) → new ≡ after_sweep_with old moment (Ok ended) → (ended ≡ 0 → ⊥)
    → rows_of old.terms (old.history ++ Sweep moment ∷ []) ≡ rows_of old.terms old.history ++ row ∷ [] → spelled row ≡ octets → sum ≡ row.sum.0 → HasTaken old new octets sum
swept_again old new moment zero row octets sum is some rows same total = absurd (some refl)
swept_again old new moment (suc more) row octets sum is some rows same total =
    has_taken old new row octets sum (ap (λ (l : Ledger). l.terms) is) (ap (λ (l : Ledger). l.limit) is) (ap (λ (l : Ledger). rows_of old.terms l.history) is ∙ rows) same total

pub changed_again : (old new : Ledger) (moment : Moment) (change : TermsChange) (row : Row) (octets : List ℕ) (sum : ℕ) → new ≡ with_change old moment change
    → rows_of old.terms (old.history ++ ChangeTerms moment change ∷ []) ≡ rows_of old.terms old.history ++ row ∷ [] → spelled row ≡ octets → sum ≡ row.sum.0 → HasTaken old new octets sum
changed_again old new moment change row octets sum is rows same total =
    has_taken old new row octets sum (ap (λ (l : Ledger). l.terms) is) (ap (λ (l : Ledger). l.limit) is) (ap (λ (l : Ledger). rows_of old.terms l.history) is ∙ rows) same total
