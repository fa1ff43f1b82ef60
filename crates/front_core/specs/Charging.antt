-- What a charge answers, and what it leaves of the book.
use Rattle.std.specs.Prelude.{ℕ, List, Result, Ok, Err, if◌then◌else◌}
use Rattle.dia_base.specs.declared.number.Moment.{Moment}
use Rattle.dia_message.specs.declared.message.Message.{Message}
use Rattle.cc_view.specs.declared.code.ResultCode.TheVariants.{TooBusy}
use Rattle.cc_view.specs.declared.refusal.Refusal.{Refusal}
use Rattle.cc_view.specs.declared.request.CcRequest.{CcRequest}
use Rattle.cc_view.specs.Answer.{answer_to, refusal_of}
use Rattle.cc_view.specs.Refusal.{refusal_with}
use Rattle.cc_book.specs.declared.book.Answered.{Answered}
use Rattle.cc_book.specs.declared.book.BookRefusal.{BookRefusal}
use Rattle.cc_book.specs.Taking.{Ledger, answer_of, is_fresh, with_take}
use Rattle.front_core.specs.declared.preparing.Prepared.{Prepared}
use Rattle.front_core.specs.declared.preparing.Prepared.TheVariants.{Refused, Ask}
use Rattle.front_core.specs.declared.site.FrontSite.{FrontSite}

-- What is known of a message before the book is asked: its refusal, where its view refuses it, else the request
-- that is read in it (RFC 8506, section 8).
abbrev pub preparation_of : List ℕ → List ℕ → Message → Result CcRequest Refusal → Prepared
preparation_of name realm message (Ok request) = Ask request
preparation_of name realm message (Err refusal) = Refused (refusal_of name realm message refusal)

-- the answer to a request, by what the book answers
abbrev pub answer_by : FrontSite → Message → CcRequest → Result Answered BookRefusal → Message
answer_by site message request (Ok answered) = answer_to site.name site.realm message request answered.reply
answer_by site message request (Err refusal) = refusal_of site.name site.realm message (refusal_with TooBusy)

-- the book after a request
abbrev pub after_take : Ledger → Moment → CcRequest → Ledger
after_take ledger moment request = if is_fresh (answer_of ledger request) then with_take ledger moment request else ledger

-- A request is charged in the book. A message that its view refuses is answered without the book.
abbrev pub answer_in : FrontSite → Ledger → Message → Prepared → Message
answer_in site ledger message (Ask request) = answer_by site message request (answer_of ledger request)
answer_in site ledger message (Refused refusal) = refusal

abbrev pub book_after : Ledger → Moment → Prepared → Ledger
book_after ledger moment (Ask request) = after_take ledger moment request
book_after ledger moment (Refused refusal) = ledger
