-- What a charge does: one of four cases.
use Rattle.std.specs.Prelude.{◌≡◌, ◌≤◌, ◌<◌, length, Some, None, Ok, Err}
use Rattle.dia_base.specs.declared.number.Moment.{Moment}
use Rattle.dia_message.specs.declared.message.Message.{Message}
use Rattle.cc_view.specs.declared.code.ResultCode.TheVariants.{TooBusy}
use Rattle.cc_view.specs.declared.refusal.Refusal.{Refusal}
use Rattle.cc_view.specs.declared.reply.CcReply.{CcReply}
use Rattle.cc_view.specs.declared.request.CcRequest.{CcRequest}
use Rattle.cc_view.specs.Answer.{answer_to, refusal_of}
use Rattle.cc_view.specs.Refusal.{refusal_with}
use Rattle.cc_view.specs.RequestView.{view_under}
use Rattle.cc_book.specs.AccountMachine.{reply_to, kept_reply}
use Rattle.cc_book.specs.Taking.{Ledger, with_take}
use Rattle.front_core.specs.declared.site.FrontSite.{FrontSite}

-- A message that is no request of credit control is refused. A request with a kept key gets the reply that is kept for it.
-- A new one gets the account machine's, and is taken, where the book has room; else it is refused.
pub data IsCharge (site : FrontSite) (ledger : Ledger) (moment : Moment) (message : Message) : Message → Ledger → Type 0 where
  refuses :
      (refusal : Refusal) → view_under site.profile message ≡ Err refusal
      → IsCharge site ledger moment message (refusal_of site.name site.realm message refusal) ledger
  repeats :
      (request : CcRequest) (reply : CcReply) → view_under site.profile message ≡ Ok request → kept_reply ledger.terms ledger.history request ≡ Some reply
      → IsCharge site ledger moment message (answer_to site.name site.realm message request reply) ledger
  has_no_room :
      (request : CcRequest) → view_under site.profile message ≡ Ok request → kept_reply ledger.terms ledger.history request ≡ None
      → ledger.limit ≤ length ledger.history → IsCharge site ledger moment message (refusal_of site.name site.realm message (refusal_with TooBusy)) ledger
  takes :
      (request : CcRequest) → view_under site.profile message ≡ Ok request → kept_reply ledger.terms ledger.history request ≡ None
      → length ledger.history < ledger.limit
      → IsCharge site ledger moment message (answer_to site.name site.realm message request (reply_to ledger.terms ledger.history request)) (with_take ledger moment request)
