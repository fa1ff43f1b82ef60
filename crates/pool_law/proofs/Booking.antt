-- What the book does as it is asked through the lock is what a charge and a sweep of the farm do.
use Rattle.std.proofs.Common.{◌≡◌, ℕ, zero, suc, Bool, true, false, cond, List, [], ◌∷◌, ◌++◌, Result, Ok, Err, refl, sym, subst, ap, ◌∙◌, append_assoc, append-nil}
use Rattle.dia_base.specs.declared.number.Moment.{Moment}
use Rattle.dia_message.specs.declared.message.Message.{Message}
use Rattle.cc_view.specs.declared.refusal.Refusal.{Refusal}
use Rattle.cc_view.specs.declared.request.CcRequest.{CcRequest}
use Rattle.cc_view.specs.Answer.{answer_to}
use Rattle.cc_book.specs.declared.book.Answered.{Answered}
use Rattle.cc_book.specs.declared.book.BookRefusal.{BookRefusal}
use Rattle.cc_book.specs.declared.book.BookRefusal.TheVariants.{Full}
use Rattle.cc_book.specs.declared.entry.Entry.{Entry}
use Rattle.cc_book.specs.declared.entry.Entry.TheVariants.{Take, Sweep}
use Rattle.cc_book.specs.Taking.{Ledger, after_sweep, after_sweep_with, answer_of, is_fresh, with_take}
use Rattle.cc_shared.specs.declared.error.ServeRefusal.{ServeRefusal}
use Rattle.cc_shared.specs.declared.logged.Logged.{Logged}
use Rattle.cc_shared.specs.declared.logged.Logged.TheVariants.{Entered, Closed}
use Rattle.cc_shared.specs.declared.looks.Swept.{Swept}
use Rattle.cc_shared.specs.History.{SharedLedger, book_at, entries_in}
use Rattle.cc_shared.specs.Serving.{IsRefusedBehind, log_behind}
use Rattle.cc_shared.specs.Sharing.{HasSwept, swept_by}
use Rattle.front_core.specs.declared.site.FrontSite.{FrontSite}
use Rattle.front_core.specs.Charging.{preparation_of, answer_by, answer_in, book_after}
use Rattle.front_core.specs.FrontStep.{preparation_at}
use Rattle.pool_law.specs.ServedFarm.{HasIt, serves, is_full, is_not_asked}

-- ---- an entry more

entered : (log : List Logged) (entry : Entry) → entries_in (log ++ Entered entry ∷ []) ≡ entries_in log ++ entry ∷ []
entered [] entry = refl
entered (Entered first ∷ log) entry = ap (λ (entries : List Entry). first ∷ entries) (entered log entry)
entered (Closed ∷ log) entry = entered log entry

book_with : (opened : Ledger) (log : List Logged) (entry : Entry) →
    record (book_at opened log) { history = (book_at opened log).history ++ entry ∷ [] } ≡ book_at opened (log ++ Entered entry ∷ [])
book_with opened log entry = ap (λ (h : List Entry). record opened { history = h })
    (append_assoc opened.history (entries_in log) (entry ∷ []) ∙ ap (λ (h : List Entry). opened.history ++ h) (sym (entered log entry)))

-- ---- a request

module _ (site : FrontSite) (book : Ledger) (moment : Moment) (message : Message) where
  abbrev answer_at : Result CcRequest Refusal → Message
  answer_at view = answer_in site book message (preparation_of site.name site.realm message view)

  abbrev book_by : Result CcRequest Refusal → Ledger
  book_by view = book_after book moment (preparation_of site.name site.realm message view)

  abbrev book_if : Ledger → CcRequest → Result Answered BookRefusal → Ledger
  book_if before request answered = cond (is_fresh answered) (with_take before moment request) before

  pub behind_take : (opened : Ledger) (before : List Logged) (request : CcRequest) (fresh : Bool) →
      cond fresh (with_take (book_at opened before) moment request) (book_at opened before) ≡ book_at opened (log_behind before moment request fresh)
  behind_take opened before request true = book_with opened before (Take moment request)
  behind_take opened before request false = refl

  refused_full : (shared : SharedLedger) (before : List Logged) (request : CcRequest) (why : ServeRefusal) (limit : ℕ) →
      why ≡ Rattle.cc_shared.specs.declared.error.ServeRefusal.TheVariants.Full limit → IsRefusedBehind shared before request why →
      answer_of (book_at shared.opened before) request ≡ Err (Full limit)
  refused_full shared before request why limit is refused = subst (IsRefusedBehind shared before request) is refused

  pub has_answer : (answer : Message) (left : Ledger) → HasIt site book moment message answer left → answer_in site book message (preparation_at site message) ≡
      answer
  has_answer _ _ (serves request shared count before behind receipt view is one) =
      ap answer_at view
      ∙ ap (λ (b : Ledger). answer_by site message request (answer_of b request)) is
      ∙ ap (λ (r : CcRequest). answer_by site message request (answer_of (book_at shared.opened before) r)) (sym one.0)
      ∙ ap (answer_by site message request) one.1.answer
      ∙ ap (λ (r : CcRequest). answer_to site.name site.realm message r receipt.reply) (sym one.0)
  has_answer _ _ (is_full request shared count before behind error limit view is one why) =
      ap answer_at view
      ∙ ap (λ (b : Ledger). answer_by site message request (answer_of b request)) is
      ∙ ap (answer_by site message request) (refused_full shared before request error.why limit why one.2)
  has_answer _ _ (is_not_asked refusal view) = ap answer_at view

  pub has_left : (answer : Message) (left : Ledger) → HasIt site book moment message answer left → book_after book moment (preparation_at site message) ≡ left
  has_left _ _ (serves request shared count before behind receipt view is one) =
      let at = book_at shared.opened before in
      ap book_by view
      ∙ ap (λ (b : Ledger). book_if b request (answer_of b request)) is
      ∙ ap (λ (r : CcRequest). book_if at r (answer_of at r)) (sym one.0)
      ∙ ap (book_if at receipt.request) one.1.answer
      ∙ behind_take shared.opened before receipt.request receipt.fresh
      ∙ ap (book_at shared.opened) (sym one.1.is_behind)
  has_left _ _ (is_full request shared count before behind error limit view is one why) =
      ap book_by view
      ∙ ap (λ (b : Ledger). book_if book request (answer_of b request)) is
      ∙ ap (book_if book request) (refused_full shared before request error.why limit why one.2)
  has_left _ _ (is_not_asked refusal view) = ap book_by view

-- ---- a sweep

pub sweep_left : (book : Ledger) (moment : Moment) (shared : SharedLedger) (swept : Swept) (has : HasSwept shared.opened moment swept) → book ≡
    book_at shared.opened has.before → after_sweep book moment ≡ book_at shared.opened swept.seen.log
sweep_left book moment shared swept has is =
    ap (λ (b : Ledger). after_sweep b moment) is
    ∙ ap (after_sweep_with (book_at shared.opened has.before) moment) has.answer
    ∙ go swept.ended
    ∙ ap (book_at shared.opened) (sym has.seen)
  where
    go : (ended : ℕ) → after_sweep_with (book_at shared.opened has.before) moment (Ok ended) ≡ book_at shared.opened (has.before ++ swept_by moment ended)
    go zero = ap (book_at shared.opened) (sym (append-nil has.before))
    go (suc more) = book_with shared.opened has.before (Sweep moment)
