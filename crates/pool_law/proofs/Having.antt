-- A book has each message in one way: as a front of the farm charges it.
use Rattle.std.proofs.Common.{◌≡◌, Bool, true, false, cond, List, [], length, Option, Some, None, Result, Ok, Err, refl, sym, subst, ap, ◌∙◌}
use Rattle.std.proofs.Common.{append-nil, arith, nat_le}
use Rattle.std.specs.Prelude.{unwrap_or}
use Rattle.dia_base.specs.declared.number.Moment.{Moment}
use Rattle.dia_message.specs.declared.message.Message.{Message}
use Rattle.cc_view.specs.declared.refusal.Refusal.{Refusal}
use Rattle.cc_view.specs.declared.reply.CcReply.{CcReply}
use Rattle.cc_view.specs.declared.request.CcRequest.{CcRequest}
use Rattle.cc_view.specs.RequestView.{view_under}
use Rattle.cc_book.specs.declared.book.Answered.{Answered}
use Rattle.cc_book.specs.declared.book.BookRefusal.{BookRefusal}
use Rattle.cc_book.specs.declared.book.BookRefusal.TheVariants.{Full, OutOfMemory}
use Rattle.cc_book.specs.declared.entry.Entry.{Entry}
use Rattle.cc_book.specs.AccountMachine.{kept_reply, reply_to}
use Rattle.cc_book.specs.Duplicate.{key_of}
use Rattle.cc_book.specs.History.{IsLegal, place_of}
use Rattle.cc_book.specs.Taking.{Ledger, answer_by, answer_of, is_fresh}
use Rattle.cc_book.proofs.Keys.{IsLegal-push, new-without_reply}
use Rattle.cc_shared.specs.declared.logged.Logged.{Logged}
use Rattle.cc_shared.specs.declared.receipt.Receipt.{Receipt}
use Rattle.cc_shared.specs.History.{SharedLedger, book_at}
use Rattle.cc_shared.specs.Serving.{log_behind}
use Rattle.cc_shared.proofs.Truth.{answer_is_served}
use Rattle.front_core.specs.declared.site.FrontSite.{FrontSite}
use Rattle.front_core.specs.Charging.{answer_in, book_after}
use Rattle.front_core.specs.FrontStep.{preparation_at, too_busy}
use Rattle.front_pool.specs.Charging.{answer_with}
use Rattle.pool_law.specs.ServedFarm.{HasIt, serves, is_full, is_not_asked}
use Rattle.pool_law.proofs.Booking.{has_answer, has_left}

-- ---- what a book answers

-- a fresh answer is to a request that no entry has
fresh_is_new : (book : Ledger) (request : CcRequest) (answered : Answered) → answer_of book request ≡ Ok answered → answered.fresh ≡ true →
    kept_reply book.terms book.history request ≡ None
fresh_is_new book request answered is fresh = go (kept_reply book.terms book.history request) refl is
  where
    go : (kept : Option CcReply) → kept_reply book.terms book.history request ≡ kept → answer_by book request
        (unwrap_or (place_of book.history (key_of request)) 0) kept ≡ Ok answered → kept_reply book.terms book.history request ≡ None
    go None k e = k
    go (Some reply) k e = absurd (let no : false ≡ true = ap is_fresh e ∙ fresh in cc)

-- it has memory
never_without : (book : Ledger) (request : CcRequest) → answer_of book request ≡ Err OutOfMemory → ⊥
never_without book request is = go (kept_reply book.terms book.history request) is
  where
    new : (b : Bool) → cond {A = Result Answered BookRefusal} b (Err (Full book.limit))
        (Ok (record { reply = reply_to book.terms book.history request; place = length book.history; fresh = true })) ≡ Err OutOfMemory → ⊥
    new true e = cc
    new false e = cc

    go : (kept : Option CcReply) → answer_by book request (unwrap_or (place_of book.history (key_of request)) 0) kept ≡ Err OutOfMemory → ⊥
    go None e = new (nat_le book.limit (length book.history)) e
    go (Some reply) e = cc

-- ---- any message

module _ (site : FrontSite) (book : Ledger) (moment : Moment) (message : Message) (legal : IsLegal book.terms book.history) where
  -- the book, shared under some name
  abbrev shared : SharedLedger
  shared = record { opened = book; log = record { number = 0; log_name = 0; cells_name = 0 }; stored = false }

  pub record Had : Type 0 where
    pub answer : Message
    pub left : Ledger
    pub has_it : HasIt site book moment message answer left

  at_first : book ≡ book_at book []
  at_first = ap (λ (h : List Entry). record book { history = h }) (sym (append-nil book.history))

  legal_then : (request : CcRequest) (answered : Answered) → answer_of book request ≡ Ok answered →
      IsLegal book.terms (book_at book (log_behind [] moment request answered.fresh)).history
  legal_then request answered is = go answered.fresh refl
    where
      go : (fresh : Bool) → answered.fresh ≡ fresh → IsLegal book.terms (book_at book (log_behind [] moment request fresh)).history
      go true fresh = IsLegal-push book.terms book.history moment request legal
          (new-without_reply book.terms book.history request (fresh_is_new book request answered is fresh))
      go false fresh = subst (λ (b : Ledger). IsLegal book.terms b.history) at_first legal

  served : (request : CcRequest) (answered : Answered) → view_under site.profile message ≡ Ok request → answer_of book request ≡ Ok answered → Had
  served request answered view is =
      let log = log_behind [] moment request answered.fresh in
      let receipt : Receipt = record {
        request = request;
        reply = answered.reply;
        place = answered.place;
        fresh = answered.fresh;
        seen = record { marker = record {}; names = []; book = shared.log; log = log };
      } in
      let answer = subst (λ (b : Ledger). answer_of b request ≡ Ok answered) at_first is in
      let stood = answer_is_served book [] moment receipt (legal_then request answered is) answer refl in
      record {
        answer = answer_with site message receipt;
        left = book_at book log;
        has_it = serves request shared 0 [] log receipt view at_first (
          refl,
          record {
            answer = answer;
            is_behind = refl;
            within = omega arith;
            seen = refl;
            stands = record { of = refl; stands = stood.stands };
            entered = stood.entered;
          },
        );
      }

  asked : (request : CcRequest) → view_under site.profile message ≡ Ok request → (answered : Result Answered BookRefusal) → answer_of book request ≡ answered →
      Had
  asked request view (Ok answered) is = served request answered view is
  asked request view (Err OutOfMemory) is = absurd (never_without book request is)
  asked request view (Err (Full limit)) is = record {
    answer = too_busy site message;
    left = book;
    has_it = is_full request shared 0 [] []
        (record { why = Rattle.cc_shared.specs.declared.error.ServeRefusal.TheVariants.Full limit; request = request }) limit view at_first (
          refl,
          subst (λ (b : Ledger). IsLegal book.terms b.history) at_first legal,
          subst (λ (b : Ledger). answer_of b request ≡ Err (Full limit)) at_first is,
          refl,
        ) refl;
  }

  pub had : Had
  had = go (view_under site.profile message) refl
    where
      go : (view : Result CcRequest Refusal) → view_under site.profile message ≡ view → Had
      go (Ok request) view = asked request view (answer_of book request) refl
      go (Err refusal) view = record { answer = _; left = book; has_it = is_not_asked refusal view }

  pub has_it : HasIt site book moment message (answer_in site book message (preparation_at site message)) (book_after book moment (preparation_at site message))
  has_it =
      let h = had in
      let answers = has_answer site book moment message h.answer h.left h.has_it in
      let leaves = has_left site book moment message h.answer h.left h.has_it in
      subst (λ (b : Ledger). HasIt site book moment message (answer_in site book message (preparation_at site message)) b) (sym leaves)
      (subst (λ (m : Message). HasIt site book moment message m h.left) (sym answers) h.has_it)

-- the book behind it is legal
pub left_legal : (site : FrontSite) (book : Ledger) (moment : Moment) (message answer : Message) (left : Ledger) → IsLegal book.terms book.history → HasIt site
    book moment message answer left → IsLegal left.terms left.history
left_legal site book moment message _ _ legal (serves request ledger count before behind receipt view is one) =
    subst (λ (log : List Logged). IsLegal (book_at ledger.opened log).terms (book_at ledger.opened log).history) one.1.seen one.1.stands.stands.legal
left_legal site book moment message _ _ legal (is_full request ledger count before behind error limit view is one why) = legal
left_legal site book moment message _ _ legal (is_not_asked refusal view) = legal
