-- The cases of a charge, and what its answer stands on.
use Rattle.std.proofs.Common.{◌≡◌, ℕ, ◌≤◌, Bool, true, false, cond, leb, ltb, List, [], ◌∷◌, ◌++◌, length, Option, Some, None, Result, Ok, Err, inl, inr, refl}
use Rattle.std.specs.Prelude.{◌⊎◌, All, unwrap_or}
use Rattle.std.proofs.lemmas.Bool.{leb-true, leb-false, ltb-false}
use Rattle.std.proofs.lemmas.List.Elements.{All-nil, All-cons}
use Rattle.dia_base.specs.declared.number.ConnId.{ConnId}
use Rattle.dia_base.specs.declared.number.Moment.{Moment}
use Rattle.dia_message.specs.declared.message.Message.{Message}
use Rattle.cc_view.specs.declared.code.ResultCode.TheVariants.{TooBusy}
use Rattle.cc_view.specs.declared.refusal.Refusal.{Refusal}
use Rattle.cc_view.specs.declared.reply.CcReply.{CcReply}
use Rattle.cc_view.specs.declared.request.CcRequest.{CcRequest}
use Rattle.cc_view.specs.Refusal.{refusal_with}
use Rattle.cc_view.specs.RequestView.{view_under}
use Rattle.cc_book.specs.declared.book.Answered.{Answered}
use Rattle.cc_book.specs.declared.book.BookRefusal.{BookRefusal}
use Rattle.cc_book.specs.declared.book.BookRefusal.TheVariants.{Full}
use Rattle.cc_book.specs.declared.entry.Entry.{Entry}
use Rattle.cc_book.specs.AccountMachine.{reply_to, kept_reply}
use Rattle.cc_book.specs.Duplicate.{key_of}
use Rattle.cc_book.specs.History.{IsLegal, place_of}
use Rattle.cc_book.specs.Taking.{Ledger, answer_by as answer_kept, is_fresh, with_take}
use Rattle.cc_book.proofs.Keys.{kept_reply-first, kept_reply-stays, new-without_reply, IsLegal-push}
use Rattle.front_core.specs.declared.site.FrontSite.{FrontSite}
use Rattle.front_core.specs.Answered.{IsBookAnswer, IsRefusedAtCharge, IsRefusedAtArrival}
use Rattle.front_core.specs.Cause.{queue_full, by_view, book_full}
use Rattle.front_core.specs.ChargeCases.{IsCharge, refuses, repeats, has_no_room, takes}
use Rattle.front_core.specs.Charging.{preparation_of, answer_by, answer_in, book_after}
use Rattle.front_core.specs.FrontState.{FrontState}
use Rattle.front_core.specs.FrontStep.{preparation_at, too_busy, sent_at_arrival}

-- what a charge answers and leaves, by what the book answers
abbrev ChargesBy : FrontSite → Ledger → Moment → Message → CcRequest → Result Answered BookRefusal → Type 0
ChargesBy site ledger moment message request answered =
    IsCharge site ledger moment message (answer_by site message request answered) (cond (is_fresh answered) (with_take ledger moment request) ledger)

by_room : (site : FrontSite) (ledger : Ledger) (moment : Moment) (message : Message) (request : CcRequest) (b : Bool) → view_under site.profile message ≡ Ok request → kept_reply ledger.terms ledger.history request ≡ None
    → leb ledger.limit (length ledger.history) ≡ b
    → ChargesBy site ledger moment message request (cond b (Err (Full ledger.limit)) (Ok (record { reply = reply_to ledger.terms ledger.history request; place = length ledger.history; fresh = true })))
by_room site ledger moment message request true view new e = has_no_room request view new (leb-true _ _ e)
by_room site ledger moment message request false view new e = takes request view new (leb-false _ _ e)

by_kept : (site : FrontSite) (ledger : Ledger) (moment : Moment) (message : Message) (request : CcRequest) (place : ℕ) (kept : Option CcReply) → view_under site.profile message ≡ Ok request
    → kept_reply ledger.terms ledger.history request ≡ kept → ChargesBy site ledger moment message request (answer_kept ledger request place kept)
by_kept site ledger moment message request place (Some reply) view e = repeats request reply view e
by_kept site ledger moment message request place None view e = by_room site ledger moment message request (leb ledger.limit (length ledger.history)) view e refl

by_view_of : (site : FrontSite) (ledger : Ledger) (moment : Moment) (message : Message) (view : Result CcRequest Refusal) → view_under site.profile message ≡ view
    → IsCharge site ledger moment message (answer_in site ledger message (preparation_of site.name site.realm message view)) (book_after ledger moment (preparation_of site.name site.realm message view))
by_view_of site ledger moment message (Err refusal) e = refuses refusal e
by_view_of site ledger moment message (Ok request) e =
    by_kept site ledger moment message request (unwrap_or (place_of ledger.history (key_of request)) 0) (kept_reply ledger.terms ledger.history request) e refl

pub charge_case : (site : FrontSite) (ledger : Ledger) (moment : Moment) (message : Message)
    → IsCharge site ledger moment message (answer_in site ledger message (preparation_at site message)) (book_after ledger moment (preparation_at site message))
charge_case site ledger moment message = by_view_of site ledger moment message (view_under site.profile message) refl

-- ---- what the answer stands on

pub answered_or_refused : (site : FrontSite) (ledger book : Ledger) (moment : Moment) (message answer : Message) → IsLegal ledger.terms ledger.history → IsCharge site ledger moment message answer book
    → IsBookAnswer site book message answer ⊎ IsRefusedAtCharge site ledger message answer
answered_or_refused site ledger book moment message answer legal (refuses refusal view) = inr (record { refusal = refusal; cause = by_view refusal view; written = refl })
answered_or_refused site ledger book moment message answer legal (repeats request reply view kept) = inl (record { request = request; view = view; reply = reply; kept = kept; written = refl })
answered_or_refused site ledger book moment message answer legal (has_no_room request view new full) = inr (record { refusal = refusal_with TooBusy; cause = book_full request view new full; written = refl })
answered_or_refused site ledger book moment message answer legal (takes request view new room) =
    let is_new = new-without_reply ledger.terms ledger.history request new in
    inl (record {
      request = request;
      view = view;
      reply = reply_to ledger.terms ledger.history request;
      kept = kept_reply-first ledger.terms ledger.history [] moment request (IsLegal-push ledger.terms ledger.history moment request legal is_new);
      written = refl;
    })

pub answered-stays : (site : FrontSite) (ledger : Ledger) (more : List Entry) (message answer : Message) → IsBookAnswer site ledger message answer → IsBookAnswer site (record ledger { history = ledger.history ++ more }) message answer
answered-stays site ledger more message answer a = record {
  request = a.request;
  view = a.view;
  reply = a.reply;
  kept = kept_reply-stays ledger.terms ledger.history more a.request a.reply a.kept;
  written = a.written;
}

-- ---- an arrival

abbrev IsRefusedThere : FrontState → ConnId → Message → ConnId × Message → Type 0
IsRefusedThere front conn message item = (item.0 ≡ conn) × IsRefusedAtArrival front message item.1

by_queue : (front : FrontState) (conn : ConnId) (message : Message) (requests room : Bool) → message.header.request ≡ requests → ltb (length front.queue) front.site.queue ≡ room
    → All (IsRefusedThere front conn message) (cond requests (cond room [] ((conn, too_busy front.site message) ∷ [])) [])
by_queue front conn message true true r e = All-nil (IsRefusedThere front conn message)
by_queue front conn message true false r e =
    let full : front.site.queue ≤ length front.queue = ltb-false _ _ e in
    All-cons (IsRefusedThere front conn message) (conn, too_busy front.site message) [] (refl, record { refusal = refusal_with TooBusy; cause = queue_full r full; written = refl }) (All-nil (IsRefusedThere front conn message))
by_queue front conn message false room r e = All-nil (IsRefusedThere front conn message)

pub arrival_refused : (front : FrontState) (conn : ConnId) (message : Message) → All (λ item. (item.0 ≡ conn) × IsRefusedAtArrival front message item.1) (sent_at_arrival front conn message)
arrival_refused front conn message = by_queue front conn message message.header.request (ltb (length front.queue) front.site.queue) refl refl
