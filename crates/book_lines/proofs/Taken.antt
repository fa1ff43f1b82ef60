-- The line of an entry that a book takes.
use Rattle.std.proofs.Common.{◌≡◌, ℕ, List, [], ◌∷◌, ◌++◌, length, refl, sym, ap, subst, ◌∙◌, append_assoc, cond}
use Rattle.std.specs.Prelude.{Option, Some, Bool, true, MatchOption, ℤ}
use Rattle.std.proofs.lemmas.List.{append-nil, append_cancel_left}
use Rattle.dia_base.specs.declared.number.Moment.{Moment}
use Rattle.cc_view.specs.declared.request.CcRequest.{CcRequest}
use Rattle.cc_view.specs.declared.reply.CcReply.{CcReply}
use Rattle.cc_book.specs.declared.book.Answered.{Answered}
use Rattle.cc_book.specs.declared.entry.Entry.{Entry}
use Rattle.cc_book.specs.declared.entry.Entry.TheVariants.{Take}
use Rattle.cc_book.specs.declared.plan.Plan.{Plan}
use Rattle.cc_book.specs.declared.plan.Taken.{Taken}
use Rattle.cc_book.specs.declared.terms.Terms.{Terms}
use Rattle.cc_book.specs.AccountMachine.{charged_account, debit_after, postings_of, reply_after, reply_to, terms_of}
use Rattle.cc_book.specs.Balance.{debit_of}
use Rattle.cc_book.specs.Planning.{IsGoodFor, IsRepeated, IsTakenWith, after_plan, after_taken, answer_planned}
use Rattle.cc_book.specs.Taking.{Ledger, with_take}
use Rattle.book_lines.specs.Lines.{charge_line, line_behind, lines_from, lines_of}

entry_is : (a b : Entry) → a ∷ [] ≡ b ∷ [] → a ≡ b
entry_is a b e = cc

request_is : (m n : Moment) (r q : CcRequest) → Take m r ≡ Take n q → r ≡ q
request_is m n r q e = cc

reply_is : (terms : Terms) (history : List Entry) (request : CcRequest) → reply_after (terms_of terms history) (postings_of terms history) request ≡ reply_to terms history request
unfolding reply_to
reply_is terms history request = refl

debit_is : (terms : Terms) (history : List Entry) (request : CcRequest) → debit_after (terms_of terms history) (postings_of terms history) request ≡ debit_of terms history request
unfolding debit_of
debit_is terms history request = refl

after_is : (ledger : Ledger) (moment : Moment) (request : CcRequest) (fresh : Bool) (after : Ledger) → fresh ≡ true → after ≡ cond fresh (with_take ledger moment request) ledger → after ≡ with_take ledger moment request
after_is ledger moment request fresh after e is = is ∙ ap (λ (b : Bool). cond b (with_take ledger moment request) ledger) e

-- a plan that takes a request is good for a book: what it does there is what the account machine says
pub record IsTold (ledger : Ledger) (plan : Plan) (taken : Taken) (moment : Moment) (request : CcRequest) : Type 0 where
  pub after : after_plan ledger plan ≡ with_take ledger moment request
  pub line : charge_line (terms_of ledger.terms ledger.history).accounts plan.answered.place moment request taken.outcome.account taken.outcome.debit taken.outcome.reply
      ≡ line_behind ledger.terms ledger.history (Take moment request)

pub is_told : (ledger : Ledger) (plan : Plan) (taken : Taken) (moment : Moment) (request : CcRequest) → plan.taken ≡ Some taken → IsGoodFor ledger plan
    → after_plan ledger plan ≡ cond (answer_planned plan).fresh (with_take ledger moment request) ledger → IsTold ledger plan taken moment request
is_told ledger plan taken moment request is good after =
    let takes : IsTakenWith ledger plan.answered taken = subst (λ (t : Option Taken). MatchOption t (IsRepeated ledger plan.answered) (λ t. IsTakenWith ledger plan.answered t)) is good in
    let fresh : plan.answered.fresh ≡ true = ap (λ (a : Answered). a.fresh) takes.answer in
    let longer : after_plan ledger plan ≡ with_take ledger moment request = after_is ledger moment request plan.answered.fresh (after_plan ledger plan) fresh after in
    let other : after_plan ledger plan ≡ with_take ledger taken.moment taken.request = ap (after_taken ledger) is in
    let entries : Take taken.moment taken.request ∷ [] ≡ Take moment request ∷ [] =
    append_cancel_left ledger.history (Take taken.moment taken.request ∷ []) (Take moment request ∷ []) (ap (λ (l : Ledger). l.history) (sym other ∙ longer)) in
    let same : taken.request ≡ request = request_is taken.moment moment taken.request request (entry_is (Take taken.moment taken.request) (Take moment request) entries) in
    let place : plan.answered.place ≡ length ledger.history = ap (λ (a : Answered). a.place) takes.answer in
    let now = terms_of ledger.terms ledger.history in
    let account : taken.outcome.account ≡ charged_account now (postings_of ledger.terms ledger.history) request =
    takes.taking.outcome.account ∙ ap (charged_account now (postings_of ledger.terms ledger.history)) same in
    let reply : taken.outcome.reply ≡ reply_to ledger.terms ledger.history request =
    takes.taking.outcome.reply ∙ reply_is ledger.terms ledger.history taken.request ∙ ap (reply_to ledger.terms ledger.history) same in
    let debit : taken.outcome.debit ≡ debit_of ledger.terms ledger.history request =
    takes.taking.outcome.debit ∙ debit_is ledger.terms ledger.history taken.request ∙ ap (debit_of ledger.terms ledger.history) same in
    record {
      after = longer;
      line = ap (λ (n : ℕ). charge_line now.accounts n moment request taken.outcome.account taken.outcome.debit taken.outcome.reply) place
          ∙ ap (λ (a : Option ℕ). charge_line now.accounts (length ledger.history) moment request a taken.outcome.debit taken.outcome.reply) account
          ∙ ap (λ (d : ℤ). charge_line now.accounts (length ledger.history) moment request (charged_account now (postings_of ledger.terms ledger.history) request) d taken.outcome.reply) debit
          ∙ ap (λ (r : CcReply). charge_line now.accounts (length ledger.history) moment request (charged_account now (postings_of ledger.terms ledger.history) request) (debit_of ledger.terms ledger.history request) r) reply;
    }

-- ---- one line more

lines_from-push : (terms : Terms) (before after : List Entry) (entry : Entry)
    → lines_from terms before (after ++ entry ∷ []) ≡ lines_from terms before after ++ line_behind terms (before ++ after) entry
lines_from-push terms before [] entry = append-nil (line_behind terms before entry) ∙ ap (λ (front : List Entry). line_behind terms front entry) (sym (append-nil before))
lines_from-push terms before (first ∷ after) entry =
    ap (λ (out : List ℕ). line_behind terms before first ++ out) (lines_from-push terms (before ++ first ∷ []) after entry
    ∙ ap (λ (front : List Entry). lines_from terms (before ++ first ∷ []) after ++ line_behind terms front entry) (append_assoc before (first ∷ []) after))
    ∙ sym (append_assoc (line_behind terms before first) (lines_from terms (before ++ first ∷ []) after) (line_behind terms (before ++ first ∷ after) entry))

pub lines_of-push : (terms : Terms) (history : List Entry) (entry : Entry) → lines_of terms (history ++ entry ∷ []) ≡ lines_of terms history ++ line_behind terms history entry
lines_of-push terms history entry = lines_from-push terms [] history entry
