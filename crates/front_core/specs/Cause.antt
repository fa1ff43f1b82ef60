-- Why a front refuses a request: what the front and the book show at the event.
use Rattle.std.specs.Prelude.{◌≡◌, ◌≤◌, length, true, None, Ok, Err}
use Rattle.dia_message.specs.declared.message.Message.{Message}
use Rattle.cc_view.specs.declared.code.ResultCode.TheVariants.{TooBusy}
use Rattle.cc_view.specs.declared.refusal.Refusal.{Refusal}
use Rattle.cc_view.specs.declared.request.CcRequest.{CcRequest}
use Rattle.cc_view.specs.Refusal.{refusal_with}
use Rattle.cc_view.specs.RequestView.{view_under}
use Rattle.cc_book.specs.AccountMachine.{kept_reply}
use Rattle.cc_book.specs.Taking.{Ledger}
use Rattle.front_core.specs.declared.site.FrontSite.{FrontSite}
use Rattle.front_core.specs.FrontState.{FrontState}

-- At its arrival a request is refused where the queue is full.
pub data ArrivalCause (front : FrontState) (message : Message) : Refusal → Type 0 where
  queue_full : message.header.request ≡ true → front.site.queue ≤ length front.queue → ArrivalCause front message (refusal_with TooBusy)

-- At its charge a message is refused by what is read in it, or where it is a new request and the book is full.
pub data ChargeCause (site : FrontSite) (ledger : Ledger) (message : Message) : Refusal → Type 0 where
  by_view : (refusal : Refusal) → view_under site.profile message ≡ Err refusal → ChargeCause site ledger message refusal
  book_full :
      (request : CcRequest) → view_under site.profile message ≡ Ok request → kept_reply ledger.terms ledger.history request ≡ None
      → ledger.limit ≤ length ledger.history → ChargeCause site ledger message (refusal_with TooBusy)
