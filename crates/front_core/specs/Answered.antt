-- What a front answers: what the book stands behind, or a refusal with a cause.
use Rattle.std.specs.Prelude.{◌≡◌, Some, Ok}
use Rattle.dia_message.specs.declared.message.Message.{Message}
use Rattle.cc_view.specs.declared.refusal.Refusal.{Refusal}
use Rattle.cc_view.specs.declared.reply.CcReply.{CcReply}
use Rattle.cc_view.specs.declared.request.CcRequest.{CcRequest}
use Rattle.cc_view.specs.Answer.{answer_to, refusal_of}
use Rattle.cc_view.specs.RequestView.{view_under}
use Rattle.cc_book.specs.AccountMachine.{kept_reply}
use Rattle.cc_book.specs.Taking.{Ledger}
use Rattle.front_core.specs.declared.site.FrontSite.{FrontSite}
use Rattle.front_core.specs.Cause.{ArrivalCause, ChargeCause}
use Rattle.front_core.specs.FrontState.{FrontState}

-- The answer of a front of this site to a message: its reply is the one that the book keeps for the message. If the
-- first request with the message's key is this very request, that is the account machine's to it (RFC 8506, section
-- 8.2); else it is DIAMETER_UNABLE_TO_COMPLY alone.
pub record IsBookAnswer (site : FrontSite) (ledger : Ledger) (message answer : Message) : Type 0 where
  pub request : CcRequest
  pub view : view_under site.profile message ≡ Ok request
  pub reply : CcReply
  pub kept : kept_reply ledger.terms ledger.history request ≡ Some reply
  pub written : answer ≡ answer_to site.name site.realm message request reply

pub record IsRefusedAtCharge (site : FrontSite) (ledger : Ledger) (message answer : Message) : Type 0 where
  pub refusal : Refusal
  pub cause : ChargeCause site ledger message refusal
  pub written : answer ≡ refusal_of site.name site.realm message refusal

pub record IsRefusedAtArrival (front : FrontState) (message answer : Message) : Type 0 where
  pub refusal : Refusal
  pub cause : ArrivalCause front message refusal
  pub written : answer ≡ refusal_of front.site.name front.site.realm message refusal
