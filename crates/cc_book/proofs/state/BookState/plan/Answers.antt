use Rattle.std.proofs.Common.{◌≡◌, ℕ, ◌<◌, ◌≤◌, Bool, List, length, Option, true, false, None, Ok, ap, subst, sym, ◌∙◌, if◌then◌else◌}
use Rattle.std.specs.Prelude.{IfSome, IsOk, IsSome, IsTrue, slice_index_or}
use Rattle.cc_view.specs.declared.reply.CcReply.{CcReply}
use Rattle.cc_view.specs.declared.request.CcRequest.{CcRequest}
use Rattle.cc_book.specs.declared.entry.Entry.{Entry}
use Rattle.cc_book.specs.declared.book.Answered.{Answered}
use Rattle.cc_book.specs.AccountMachine.{postings_of, terms_of}
use Rattle.cc_book.specs.Bounds.{bears_request}
use Rattle.cc_book.specs.Duplicate.{key_of}
use Rattle.cc_book.specs.History.{IsKeptAt, IsNew}
use Rattle.cc_book.specs.Planning.{IsRepeated, IsTakenWith}
use Rattle.cc_book.specs.Standing.{IsOutcome}
use Rattle.cc_book.specs.Taking.{AnswersRepeat, Ledger, answer_of, answer_within, with_take}
use Rattle.cc_book.proofs.Books.{answer-fresh, answer-kept, borne-book, borne-by, charged-now, charged-within, kept-answered, kept-some, new-answered, no_memory, not-fresh, outcome-now, planned-outcome, short-bears, small-book, small-now, within-now, within-ok}
use Rattle.cc_book.proofs.Bounds.{within-borne, within-full, within-kept, within-refused}
use Rattle.cc_book.proofs.Replies.{answer_of-full}
use Rattle.cc_book.proofs.state.BookState.plan.Goals as goal

-- ---- a request that is kept

pub kept_answer-requires : goal.kept_answer-requires
kept_answer-requires c =
    let at = subst (λ (h : List Entry). IsKeptAt h (key_of c.args.request.now) c.in-Some.place c.in-Some.taken.now) c.deref.ensures.value
    c.in-Some.ensures in
    subst (λ (rs : List (Option CcReply)). IsSome (slice_index_or rs c.in-Some.place None)) (sym c.deref-in-Some.ensures.value)
    (kept-some c.self.invariant.0 (key_of c.args.request.now) c.in-Some.place c.in-Some.taken.now at)

pub returns-in-Some-clause-answer : goal.returns-in-Some-clause-answer
returns-in-Some-clause-answer c =
    let at = subst (λ (h : List Entry). IsKeptAt h (key_of c.args.request.now) c.in-Some.place c.in-Some.taken.now) c.deref.ensures.value
    c.in-Some.ensures in
    let answered =
    subst (λ (rs : List (Option CcReply)). IfSome (slice_index_or rs c.in-Some.place None)
    (AnswersRepeat c.in-Some.taken.now c.args.request.now c.in-Some.place c.in_ok-answered.answered)) c.deref-in-Some.ensures.value
    c.in_ok-answered.ensures in
    sym (ap (λ (l : Ledger). answer_of l c.args.request.now) c.self.view_is)
    ∙ answer-kept c.self.invariant.0 c.args.request.now c.in-Some.taken.now c.in-Some.place c.in_ok-answered.answered at answered

pub returns-in-Some-clause-good : goal.returns-in-Some-clause-good
returns-in-Some-clause-good c =
    let at = subst (λ (h : List Entry). IsKeptAt h (key_of c.args.request.now) c.in-Some.place c.in-Some.taken.now) c.deref.ensures.value
    c.in-Some.ensures in
    let answered =
    subst (λ (rs : List (Option CcReply)). IfSome (slice_index_or rs c.in-Some.place None)
    (AnswersRepeat c.in-Some.taken.now c.args.request.now c.in-Some.place c.in_ok-answered.answered)) c.deref-in-Some.ensures.value
    c.in_ok-answered.ensures in
    subst (λ (l : Ledger). IsRepeated l c.in_ok-answered.answered) c.self.view_is
    (record {
      request = c.args.request.now;
      answer = answer-kept c.self.invariant.0 c.args.request.now c.in-Some.taken.now c.in-Some.place c.in_ok-answered.answered at answered;
      repeats = not-fresh c.self.invariant.0 c.args.request.now c.in-Some.taken.now c.in-Some.place c.in_ok-answered.answered at answered;
    })

pub returns-in-Some-clause-after : goal.returns-in-Some-clause-after
returns-in-Some-clause-after c =
    let at = subst (λ (h : List Entry). IsKeptAt h (key_of c.args.request.now) c.in-Some.place c.in-Some.taken.now) c.deref.ensures.value
    c.in-Some.ensures in
    let answered =
    subst (λ (rs : List (Option CcReply)). IfSome (slice_index_or rs c.in-Some.place None)
    (AnswersRepeat c.in-Some.taken.now c.args.request.now c.in-Some.place c.in_ok-answered.answered)) c.deref-in-Some.ensures.value
    c.in_ok-answered.ensures in
    let old : c.in_ok-answered.answered.fresh ≡ false =
    not-fresh c.self.invariant.0 c.args.request.now c.in-Some.taken.now c.in-Some.place c.in_ok-answered.answered at answered in
    sym (ap (λ (b : Bool). if b then with_take c.args.self.now c.args.moment c.args.request.now else c.args.self.now) old)

-- ---- a new one

pub returns-in_default-free_place-clause-answer : goal.returns-in_default-free_place-clause-answer
returns-in_default-free_place-clause-answer c =
    let new = subst (λ (h : List Entry). IsNew h (key_of c.args.request.now)) c.deref.ensures.value c.in_default.ensures in
    let ledger : Ledger = record { terms = c.self.inside.terms.begun; limit = c.self.inside.limit; history = c.self.inside.history.items } in
    let reached = subst (λ (es : List Entry). c.self.inside.limit ≤ length es) c.deref-2.ensures.value c.in_default-free_place.ensures.none in
    sym (ap (λ (l : Ledger). answer_of l c.args.request.now) c.self.view_is) ∙ answer_of-full ledger c.args.request.now new reached

-- ---- whether its account bears it

pub charged_account-account-requires : goal.charged_account-account-requires
charged_account-account-requires c =
    small-now c.self.invariant.0 c.terms_now-terms.result.now
    (c.terms_now-terms.ensures ∙ sym (ap (λ (l : Ledger). terms_of l.terms l.history) c.self.view_is))

pub bears_more-requires-clause-within : goal.bears_more-requires-clause-within
bears_more-requires-clause-within c =
    let charged = charged-now c.self.invariant.0 c.terms_now-terms.result.now
    (c.terms_now-terms.ensures ∙ sym (ap (λ (l : Ledger). terms_of l.terms l.history) c.self.view_is))
    c.args.request.now c.charged_account-account.result c.charged_account-account.ensures.charged in
    charged-within c.self.invariant.0 c.args.request.now c.charged_account-account.result charged

pub bears_more-requires-clause-held : goal.bears_more-requires-clause-held
bears_more-requires-clause-held c = (small-book c.self.invariant.0).held

pub returns-then-not-bears_more-clause-answer : goal.returns-then-not-bears_more-clause-answer
returns-then-not-bears_more-clause-answer c =
    let charged = charged-now c.self.invariant.0 c.terms_now-terms.result.now
    (c.terms_now-terms.ensures ∙ sym (ap (λ (l : Ledger). terms_of l.terms l.history) c.self.view_is))
    c.args.request.now c.charged_account-account.result c.charged_account-account.ensures.charged in
    let room = subst (λ (es : List Entry). length es < c.self.inside.limit) c.deref-2.ensures.value c.in-Some-free_place.ensures.some.1 in
    let bears : c.bears_more.result ≡ true = c.bears_more.ensures ∙ borne-book c.self.invariant.0 c.args.request.now c.charged_account-account.result charged
    ∙ short-bears c.self.invariant.0 c.args.request.now c.self.invariant.5 room in
    let unborne : c.bears_more.result ≡ false = c.if-not-bears_more.true in
    absurd cc

pub returns-then-not-bears_more-clause-within : goal.returns-then-not-bears_more-clause-within
returns-then-not-bears_more-clause-within c =
    let charged = charged-now c.self.invariant.0 c.terms_now-terms.result.now
    (c.terms_now-terms.ensures ∙ sym (ap (λ (l : Ledger). terms_of l.terms l.history) c.self.view_is))
    c.args.request.now c.charged_account-account.result c.charged_account-account.ensures.charged in
    let new = subst (λ (h : List Entry). IsNew h (key_of c.args.request.now)) c.deref.ensures.value c.in_default.ensures in
    let ledger : Ledger = record { terms = c.self.inside.terms.begun; limit = c.self.inside.limit; history = c.self.inside.history.items } in
    let unborne = sym (c.bears_more.ensures ∙ borne-book c.self.invariant.0 c.args.request.now c.charged_account-account.result charged)
    ∙ c.if-not-bears_more.true in
    sym (ap (λ (l : Ledger). answer_within l c.args.request.now) c.self.view_is) ∙ within-refused ledger c.args.request.now new unborne

pub outcome_of-requires-clause-small : goal.outcome_of-requires-clause-small
outcome_of-requires-clause-small c =
    small-now c.self.invariant.0 c.terms_now-terms.result.now
    (c.terms_now-terms.ensures ∙ sym (ap (λ (l : Ledger). terms_of l.terms l.history) c.self.view_is))

pub returns-clause-answer : goal.returns-clause-answer
returns-clause-answer c =
    let new = subst (λ (h : List Entry). IsNew h (key_of c.args.request.now)) c.deref.ensures.value c.in_default.ensures in
    let does = outcome-now c.self.invariant.0 c.terms_now-terms.result.now
    (c.terms_now-terms.ensures ∙ sym (ap (λ (l : Ledger). terms_of l.terms l.history) c.self.view_is))
    c.args.moment c.args.request.now c.in_ok-outcome.outcome c.in_ok-outcome.ensures in
    let long = c.in-Some-free_place.ensures.some.0 ∙ ap length c.deref-2.ensures.value in
    let room = subst (λ (es : List Entry). length es < c.self.inside.limit) c.deref-2.ensures.value c.in-Some-free_place.ensures.some.1 in
    sym (ap (λ (l : Ledger). answer_of l c.args.request.now) c.self.view_is)
    ∙ answer-fresh c.self.invariant.0 c.args.moment c.args.request.now c.in_ok-outcome.outcome new room does
    ∙ ap (λ (r : CcReply). Ok (record { reply = r; place = length c.self.inside.history.items; fresh = true })) (sym c.in_ok-reply.ensures)
    ∙ ap (λ (n : ℕ). Ok (record { reply = c.in_ok-reply.reply; place = n; fresh = true })) (sym long)

pub returns-clause-good : goal.returns-clause-good
returns-clause-good c =
    let new = subst (λ (h : List Entry). IsNew h (key_of c.args.request.now)) c.deref.ensures.value c.in_default.ensures in
    let does = outcome-now c.self.invariant.0 c.terms_now-terms.result.now
    (c.terms_now-terms.ensures ∙ sym (ap (λ (l : Ledger). terms_of l.terms l.history) c.self.view_is))
    c.args.moment c.args.request.now c.in_ok-outcome.outcome c.in_ok-outcome.ensures in
    let long = c.in-Some-free_place.ensures.some.0 ∙ ap length c.deref-2.ensures.value in
    let room = subst (λ (es : List Entry). length es < c.self.inside.limit) c.deref-2.ensures.value c.in-Some-free_place.ensures.some.1 in
    let same = sym c.in_ok-request.ensures in
    let answered : Answered = record { reply = c.in_ok-reply.reply; place = c.in-Some-free_place.place; fresh = true } in
    subst (λ (l : Ledger). IsTakenWith l answered (record { moment = c.args.moment; request = c.in_ok-request.request; outcome = c.in_ok-outcome.outcome }))
    c.self.view_is
    (record {
      taking = record {
        new = subst (λ (r : CcRequest). IsNew c.self.inside.history.items (key_of r)) same new;
        room = room;
        borne = subst (λ (r : CcRequest). IsTrue (bears_request (terms_of c.self.inside.terms.begun c.self.inside.history.items)
            (postings_of c.self.inside.terms.begun c.self.inside.history.items) r)) same
            (borne-by c.self.invariant.0 c.args.request.now c.charged_account-account.result
            (charged-now c.self.invariant.0 c.terms_now-terms.result.now
            (c.terms_now-terms.ensures ∙ sym (ap (λ (l : Ledger). terms_of l.terms l.history) c.self.view_is))
            c.args.request.now c.charged_account-account.result c.charged_account-account.ensures.charged)
            (sym c.bears_more.ensures ∙ c.if-not-bears_more.false));
        outcome = planned-outcome c.self.invariant.0 c.args.moment c.in_ok-request.request c.in_ok-outcome.outcome
            (subst (λ (r : CcRequest). IsOutcome (terms_of c.self.inside.terms.begun c.self.inside.history.items) (postings_of c.self.inside.terms.begun c.self.inside.history.items)
            c.self.inside.standing.sessions.items c.args.moment r c.in_ok-outcome.outcome) same does);
      };
      answer = ap (λ (r : CcReply). record { reply = r; place = c.in-Some-free_place.place; fresh = true }) c.in_ok-reply.ensures
          ∙ ap (λ (n : ℕ). record { reply = c.in_ok-outcome.outcome.reply; place = n; fresh = true }) long;
    })

-- ---- memory is wanted for what is not refused

pub returns-in_err-answered-clause-answer : goal.returns-in_err-answered-clause-answer
returns-in_err-answered-clause-answer c =
    let at = subst (λ (h : List Entry). IsKeptAt h (key_of c.args.request.now) c.in-Some.place c.in-Some.taken.now) c.deref.ensures.value
    c.in-Some.ensures in
    no_memory _ c.from_residual.result (subst (λ (l : Ledger). IsOk (answer_of l c.args.request.now)) c.self.view_is
    (kept-answered c.self.inside.terms.begun c.self.inside.limit c.self.inside.history.items c.args.request.now c.in-Some.taken.now c.in-Some.place at))
    c.from_residual.ensures.1

pub returns-in_err-outcome-clause-answer : goal.returns-in_err-outcome-clause-answer
returns-in_err-outcome-clause-answer c =
    let new = subst (λ (h : List Entry). IsNew h (key_of c.args.request.now)) c.deref.ensures.value c.in_default.ensures in
    let room = subst (λ (es : List Entry). length es < c.self.inside.limit) c.deref-2.ensures.value c.in-Some-free_place.ensures.some.1 in
    no_memory _ c.from_residual-in_err-outcome.result
    (subst (λ (l : Ledger). IsOk (answer_of l c.args.request.now)) c.self.view_is
    (new-answered c.self.inside.terms.begun c.self.inside.limit c.self.inside.history.items c.args.request.now new room)) c.from_residual-in_err-outcome.ensures.1

pub returns-in_err-reply-clause-answer : goal.returns-in_err-reply-clause-answer
returns-in_err-reply-clause-answer c =
    let new = subst (λ (h : List Entry). IsNew h (key_of c.args.request.now)) c.deref.ensures.value c.in_default.ensures in
    let room = subst (λ (es : List Entry). length es < c.self.inside.limit) c.deref-2.ensures.value c.in-Some-free_place.ensures.some.1 in
    no_memory _ c.from_residual-in_err-reply.result
    (subst (λ (l : Ledger). IsOk (answer_of l c.args.request.now)) c.self.view_is
    (new-answered c.self.inside.terms.begun c.self.inside.limit c.self.inside.history.items c.args.request.now new room)) c.from_residual-in_err-reply.ensures.1

pub returns-in_err-request-clause-answer : goal.returns-in_err-request-clause-answer
returns-in_err-request-clause-answer c =
    let new = subst (λ (h : List Entry). IsNew h (key_of c.args.request.now)) c.deref.ensures.value c.in_default.ensures in
    let room = subst (λ (es : List Entry). length es < c.self.inside.limit) c.deref-2.ensures.value c.in-Some-free_place.ensures.some.1 in
    no_memory _ c.from_residual-in_err-request.result
    (subst (λ (l : Ledger). IsOk (answer_of l c.args.request.now)) c.self.view_is
    (new-answered c.self.inside.terms.begun c.self.inside.limit c.self.inside.history.items c.args.request.now new room)) c.from_residual-in_err-request.ensures.1

-- ---- and by value: the same, since the account bears the request, or the request is kept

pub returns-in-Some-clause-within : goal.returns-in-Some-clause-within
returns-in-Some-clause-within c =
    let at = subst (λ (h : List Entry). IsKeptAt h (key_of c.args.request.now) c.in-Some.place c.in-Some.taken.now) c.deref.ensures.value
    c.in-Some.ensures in
    let answered =
    subst (λ (rs : List (Option CcReply)). IfSome (slice_index_or rs c.in-Some.place None)
    (AnswersRepeat c.in-Some.taken.now c.args.request.now c.in-Some.place c.in_ok-answered.answered)) c.deref-in-Some.ensures.value
    c.in_ok-answered.ensures in
    let ledger : Ledger = record { terms = c.self.inside.terms.begun; limit = c.self.inside.limit; history = c.self.inside.history.items } in
    within-now c.args.request.now c.self.view_is (within-kept ledger c.args.request.now c.in-Some.taken.now c.in-Some.place at)
    ∙ sym (ap (λ (l : Ledger). answer_of l c.args.request.now) c.self.view_is)
    ∙ answer-kept c.self.invariant.0 c.args.request.now c.in-Some.taken.now c.in-Some.place c.in_ok-answered.answered at answered

pub returns-in_default-free_place-clause-within : goal.returns-in_default-free_place-clause-within
returns-in_default-free_place-clause-within c =
    let new = subst (λ (h : List Entry). IsNew h (key_of c.args.request.now)) c.deref.ensures.value c.in_default.ensures in
    let ledger : Ledger = record { terms = c.self.inside.terms.begun; limit = c.self.inside.limit; history = c.self.inside.history.items } in
    let reached = subst (λ (es : List Entry). c.self.inside.limit ≤ length es) c.deref-2.ensures.value c.in_default-free_place.ensures.none in
    let full = answer_of-full ledger c.args.request.now new reached in
    within-now c.args.request.now c.self.view_is (within-full ledger c.args.request.now full)
    ∙ sym (ap (λ (l : Ledger). answer_of l c.args.request.now) c.self.view_is) ∙ full

pub returns-clause-within : goal.returns-clause-within
returns-clause-within c =
    let ledger : Ledger = record { terms = c.self.inside.terms.begun; limit = c.self.inside.limit; history = c.self.inside.history.items } in
    let borne = borne-by c.self.invariant.0 c.args.request.now c.charged_account-account.result
    (charged-now c.self.invariant.0 c.terms_now-terms.result.now
    (c.terms_now-terms.ensures ∙ sym (ap (λ (l : Ledger). terms_of l.terms l.history) c.self.view_is))
    c.args.request.now c.charged_account-account.result c.charged_account-account.ensures.charged)
    (sym c.bears_more.ensures ∙ c.if-not-bears_more.false) in
    let new = subst (λ (h : List Entry). IsNew h (key_of c.args.request.now)) c.deref.ensures.value c.in_default.ensures in
    let does = outcome-now c.self.invariant.0 c.terms_now-terms.result.now
    (c.terms_now-terms.ensures ∙ sym (ap (λ (l : Ledger). terms_of l.terms l.history) c.self.view_is))
    c.args.moment c.args.request.now c.in_ok-outcome.outcome c.in_ok-outcome.ensures in
    let long = c.in-Some-free_place.ensures.some.0 ∙ ap length c.deref-2.ensures.value in
    let room = subst (λ (es : List Entry). length es < c.self.inside.limit) c.deref-2.ensures.value c.in-Some-free_place.ensures.some.1 in
    within-now c.args.request.now c.self.view_is (within-borne ledger c.args.request.now borne)
    ∙ sym (ap (λ (l : Ledger). answer_of l c.args.request.now) c.self.view_is)
    ∙ answer-fresh c.self.invariant.0 c.args.moment c.args.request.now c.in_ok-outcome.outcome new room does
    ∙ ap (λ (r : CcReply). Ok (record { reply = r; place = length c.self.inside.history.items; fresh = true })) (sym c.in_ok-reply.ensures)
    ∙ ap (λ (n : ℕ). Ok (record { reply = c.in_ok-reply.reply; place = n; fresh = true })) (sym long)

pub returns-in_err-answered-clause-within : goal.returns-in_err-answered-clause-within
returns-in_err-answered-clause-within c =
    let at = subst (λ (h : List Entry). IsKeptAt h (key_of c.args.request.now) c.in-Some.place c.in-Some.taken.now) c.deref.ensures.value
    c.in-Some.ensures in
    let ledger : Ledger = record { terms = c.self.inside.terms.begun; limit = c.self.inside.limit; history = c.self.inside.history.items } in
    no_memory _ c.from_residual.result
    (within-ok c.args.request.now c.self.view_is (within-kept ledger c.args.request.now c.in-Some.taken.now c.in-Some.place at)
    (kept-answered c.self.inside.terms.begun c.self.inside.limit c.self.inside.history.items c.args.request.now c.in-Some.taken.now c.in-Some.place at))
    c.from_residual.ensures.1

pub returns-in_err-outcome-clause-within : goal.returns-in_err-outcome-clause-within
returns-in_err-outcome-clause-within c =
    let ledger : Ledger = record { terms = c.self.inside.terms.begun; limit = c.self.inside.limit; history = c.self.inside.history.items } in
    let borne = borne-by c.self.invariant.0 c.args.request.now c.charged_account-account.result
    (charged-now c.self.invariant.0 c.terms_now-terms.result.now
    (c.terms_now-terms.ensures ∙ sym (ap (λ (l : Ledger). terms_of l.terms l.history) c.self.view_is))
    c.args.request.now c.charged_account-account.result c.charged_account-account.ensures.charged)
    (sym c.bears_more.ensures ∙ c.if-not-bears_more.false) in
    let new = subst (λ (h : List Entry). IsNew h (key_of c.args.request.now)) c.deref.ensures.value c.in_default.ensures in
    let room = subst (λ (es : List Entry). length es < c.self.inside.limit) c.deref-2.ensures.value c.in-Some-free_place.ensures.some.1 in
    no_memory _ c.from_residual-in_err-outcome.result
    (within-ok c.args.request.now c.self.view_is (within-borne ledger c.args.request.now borne)
    (new-answered c.self.inside.terms.begun c.self.inside.limit c.self.inside.history.items c.args.request.now new room)) c.from_residual-in_err-outcome.ensures.1

pub returns-in_err-reply-clause-within : goal.returns-in_err-reply-clause-within
returns-in_err-reply-clause-within c =
    let ledger : Ledger = record { terms = c.self.inside.terms.begun; limit = c.self.inside.limit; history = c.self.inside.history.items } in
    let borne = borne-by c.self.invariant.0 c.args.request.now c.charged_account-account.result
    (charged-now c.self.invariant.0 c.terms_now-terms.result.now
    (c.terms_now-terms.ensures ∙ sym (ap (λ (l : Ledger). terms_of l.terms l.history) c.self.view_is))
    c.args.request.now c.charged_account-account.result c.charged_account-account.ensures.charged)
    (sym c.bears_more.ensures ∙ c.if-not-bears_more.false) in
    let new = subst (λ (h : List Entry). IsNew h (key_of c.args.request.now)) c.deref.ensures.value c.in_default.ensures in
    let room = subst (λ (es : List Entry). length es < c.self.inside.limit) c.deref-2.ensures.value c.in-Some-free_place.ensures.some.1 in
    no_memory _ c.from_residual-in_err-reply.result
    (within-ok c.args.request.now c.self.view_is (within-borne ledger c.args.request.now borne)
    (new-answered c.self.inside.terms.begun c.self.inside.limit c.self.inside.history.items c.args.request.now new room)) c.from_residual-in_err-reply.ensures.1

pub returns-in_err-request-clause-within : goal.returns-in_err-request-clause-within
returns-in_err-request-clause-within c =
    let ledger : Ledger = record { terms = c.self.inside.terms.begun; limit = c.self.inside.limit; history = c.self.inside.history.items } in
    let borne = borne-by c.self.invariant.0 c.args.request.now c.charged_account-account.result
    (charged-now c.self.invariant.0 c.terms_now-terms.result.now
    (c.terms_now-terms.ensures ∙ sym (ap (λ (l : Ledger). terms_of l.terms l.history) c.self.view_is))
    c.args.request.now c.charged_account-account.result c.charged_account-account.ensures.charged)
    (sym c.bears_more.ensures ∙ c.if-not-bears_more.false) in
    let new = subst (λ (h : List Entry). IsNew h (key_of c.args.request.now)) c.deref.ensures.value c.in_default.ensures in
    let room = subst (λ (es : List Entry). length es < c.self.inside.limit) c.deref-2.ensures.value c.in-Some-free_place.ensures.some.1 in
    no_memory _ c.from_residual-in_err-request.result
    (within-ok c.args.request.now c.self.view_is (within-borne ledger c.args.request.now borne)
    (new-answered c.self.inside.terms.begun c.self.inside.limit c.self.inside.history.items c.args.request.now new room)) c.from_residual-in_err-request.ensures.1
