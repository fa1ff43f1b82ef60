-- The octets of an answer, by the steps that lead to it.
use Rattle.std.proofs.Common.{◌≡◌, ℕ, List, [], ◌∷◌, true, false, Result, Ok, Err, refl, ap, ◌∙◌}
use Rattle.std.specs.Prelude.{if◌then◌else◌}
use Rattle.dia_avp.specs.declared.avp.RawAvp.{RawAvp}
use Rattle.dia_avp.specs.AvpExample.{from_hex}
use Rattle.dia_message.specs.declared.message.Message.{Message}
use Rattle.dia_message.specs.Spelling.{octets_of}
use Rattle.dia_grammar.specs.Profile.{strict}
use Rattle.cc_view.specs.declared.refusal.Refusal.{Refusal}
use Rattle.cc_view.specs.declared.reply.CcReply.{CcReply}
use Rattle.cc_view.specs.declared.request.CcRequest.{CcRequest}
use Rattle.cc_view.specs.Answer.{answer_avps, answer_header, answer_to, refusal_avps, refusal_of}
use Rattle.cc_view.specs.Answer.Writing.{spelling_of}
use Rattle.cc_view.specs.FirstDebit.{front_name, realm_name}
use Rattle.cc_view.specs.RequestView.{view_under}
use Rattle.cc_book.specs.declared.book.Answered.{Answered}
use Rattle.cc_book.specs.declared.book.BookRefusal.{BookRefusal}
use Rattle.cc_book.specs.Taking.{Ledger, answer_of, is_fresh, with_take}
use Rattle.front_core.specs.Charging.{answer_by, answer_in, book_after, preparation_of}
use Rattle.front_core.specs.FrontStep.{preparation_at}
use Rattle.answer_law.specs.AnswerExample.{answer_with, answered, book_behind, front, message, moment, new_book}

-- a new request is answered with this reply
abbrev pub fresh_with : CcReply → ℕ → Answered
fresh_with reply place = record { reply = reply; place = place; fresh = true }

-- one whose key is kept is answered with this reply
abbrev pub kept_with : CcReply → ℕ → Answered
kept_with reply place = record { reply = reply; place = place; fresh = false }

-- the answer of f1.example to a message with these AVPs, and its refusal
abbrev pub answer_of_avps : Message → List RawAvp → Message
answer_of_avps asking avps = record { header = answer_header false asking.header; body = spelling_of avps }

abbrev pub refusal_of_avps : Message → List RawAvp → Message
refusal_of_avps asking avps = record { header = answer_header true asking.header; body = spelling_of avps }

-- The text is a message, in which a request is read. The book has a reply to it, and so the answer has these AVPs, which spell the other text.
pub answered_by : (before : List (List ℕ)) (text answer : List ℕ) (book : Ledger) (asking : Message) (request : CcRequest) (given : Answered) (avps : List RawAvp)
    → book_behind before ≡ book → message text ≡ asking → view_under (strict []) asking ≡ Ok request → answer_of book request ≡ Ok given
    → answer_avps front_name realm_name asking request given.reply ≡ avps → octets_of (answer_of_avps asking avps) ≡ from_hex answer → answered before text ≡ from_hex answer
unfolding answered answer_to
answered_by before text answer book asking request given avps behind is viewed replied written spelled =
    ap (λ (ledger : Ledger). octets_of (answer_with ledger (message text))) behind
    ∙ ap (λ (asking : Message). octets_of (answer_with book asking)) is
    ∙ ap (λ (view : Result CcRequest Refusal). octets_of (answer_in front book asking (preparation_of front_name realm_name asking view))) viewed
    ∙ ap (λ (by : Result Answered BookRefusal). octets_of (answer_by front asking request by)) replied
    ∙ ap (λ (avps : List RawAvp). octets_of (answer_of_avps asking avps)) written
    ∙ spelled

-- The text is a message, in which something is wrong. So its refusal has these AVPs, which spell the other text.
pub refused_by : (before : List (List ℕ)) (text answer : List ℕ) (asking : Message) (refusal : Refusal) (avps : List RawAvp)
    → message text ≡ asking → view_under (strict []) asking ≡ Err refusal → refusal_avps front_name realm_name asking refusal ≡ avps
    → octets_of (refusal_of_avps asking avps) ≡ from_hex answer → answered before text ≡ from_hex answer
unfolding answered refusal_of
refused_by before text answer asking refusal avps is viewed written spelled =
    ap (λ (asking : Message). octets_of (answer_with (book_behind before) asking)) is
    ∙ ap (λ (view : Result CcRequest Refusal). octets_of (answer_in front (book_behind before) asking (preparation_of front_name realm_name asking view))) viewed
    ∙ ap (λ (avps : List RawAvp). octets_of (refusal_of_avps asking avps)) written
    ∙ spelled

-- the book after a message
abbrev asked_message : Ledger → Message → Ledger
asked_message book asking = book_after book moment (preparation_at front asking)

-- the book after a request to which it answers so
abbrev after_given : Ledger → CcRequest → Result Answered BookRefusal → Ledger
after_given book request by = if is_fresh by then with_take book moment request else book

-- the book after one such text
pub behind_one : (text : List ℕ) (asking : Message) (request : CcRequest) (reply : CcReply) (place : ℕ)
    → message text ≡ asking → view_under (strict []) asking ≡ Ok request → answer_of new_book request ≡ Ok (fresh_with reply place)
    → book_behind (text ∷ []) ≡ with_take new_book moment request
unfolding book_behind
behind_one text asking request reply place is viewed replied =
    ap (asked_message new_book) is
    ∙ ap (λ (view : Result CcRequest Refusal). book_after new_book moment (preparation_of front_name realm_name asking view)) viewed
    ∙ ap (λ (by : Result Answered BookRefusal). after_given new_book request by) replied

-- the book that was asked nothing
pub behind_none : book_behind [] ≡ new_book
unfolding book_behind
behind_none = refl
