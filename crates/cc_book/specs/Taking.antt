-- What the book answers to a request, and what it keeps.
use Rattle.std.specs.Prelude.{◌≡◌, ℕ, zero, suc, ◌<◌, ◌≤◌, List, [], ◌∷◌, ◌++◌, length, map, Bool, true, false, nat_le, if◌then◌else◌, ◌||◌, Option, Some, None, is_some, unwrap_or, Result, Ok, Err, IsOk, IsOkAnd, ℤ}
use Rattle.std.specs.List.{AllByRecursion}
use Rattle.dia_base.specs.declared.number.Moment.{Moment}
use Rattle.cc_view.specs.declared.code.ResultCode.TheVariants.{UnableToComply}
use Rattle.cc_view.specs.declared.reply.CcReply.{CcReply}
use Rattle.cc_view.specs.declared.request.CcRequest.{CcRequest}
use Rattle.cc_book.specs.declared.book.Answered.{Answered}
use Rattle.cc_book.specs.declared.book.BookRefusal.{BookRefusal}
use Rattle.cc_book.specs.declared.book.BookRefusal.TheVariants.{Full, OutOfMemory}
use Rattle.cc_book.specs.declared.entry.Entry.{Entry}
use Rattle.cc_book.specs.declared.entry.Entry.TheVariants.{Take, Sweep}
use Rattle.cc_book.specs.declared.session.OpenSession.{OpenSession}
use Rattle.cc_book.specs.declared.terms.Terms.{Terms}
use Rattle.cc_book.specs.AccountMachine.{code_alone, reply_to, kept_reply, postings_of, terms_of}
use Rattle.cc_book.specs.Bounds.{IsBounded, MovesLittle, OpensSmall, bears_request}
use Rattle.cc_book.specs.Content.{same_request}
use Rattle.cc_book.specs.Duplicate.{key_of}
use Rattle.cc_book.specs.History.{IsLegal, ended_sessions, place_of}
use Rattle.cc_book.specs.Standing.{Stands, sessions_after}

-- a book, as contracts see it: the terms that it began with, how many entries it may have, and those that it has
pub record Ledger : Type 0 where
  pub terms : Terms
  pub limit : ℕ
  pub history : List Entry

abbrev pub answer_new : Ledger → CcRequest → Result Answered BookRefusal
answer_new ledger request =
    if nat_le ledger.limit (length ledger.history) then Err (Full ledger.limit)
    else Ok (record { reply = reply_to ledger.terms ledger.history request; place = length ledger.history; fresh = true })

-- A request with a kept key gets the reply that is kept for it, another one the account machine's, where the book is not
-- full.
abbrev pub answer_by : Ledger → CcRequest → ℕ → Option CcReply → Result Answered BookRefusal
answer_by ledger request place None = answer_new ledger request
answer_by ledger request place (Some reply) = Ok (record { reply = reply; place = place; fresh = false })

abbrev pub answer_of : Ledger → CcRequest → Result Answered BookRefusal
answer_of ledger request =
    answer_by ledger request (unwrap_or (place_of ledger.history (key_of request)) 0) (kept_reply ledger.terms ledger.history request)

-- whether a request is kept, or the account that it charges bears it
abbrev pub is_borne : Ledger → CcRequest → Bool
is_borne ledger request =
    is_some (kept_reply ledger.terms ledger.history request) || bears_request (terms_of ledger.terms ledger.history) (postings_of ledger.terms ledger.history) request

-- What the book answers, however many entries it may have: a new request that could bring a balance, or what is held of
-- an account, beyond its bounds is refused as by a full book.
abbrev pub answer_within : Ledger → CcRequest → Result Answered BookRefusal
answer_within ledger request = if is_borne ledger request then answer_of ledger request else Err (Full ledger.limit)

-- The answer to a request with the key of the one that was taken at a place: the reply that is kept there, if it is this
-- very request, else DIAMETER_UNABLE_TO_COMPLY alone.
abbrev pub AnswersRepeat : CcRequest → CcRequest → ℕ → Answered → CcReply → Type 0
AnswersRepeat taken request place answered kept =
    answered ≡ record { reply = if same_request taken request then kept else code_alone UnableToComply; place = place; fresh = false }

-- a call answered so, unless memory ran out for what is not refused
abbrev pub AnswersWith : Result Answered BookRefusal → Result Answered BookRefusal → Type 0
AnswersWith expected (Ok answered) = expected ≡ Ok answered
AnswersWith expected (Err OutOfMemory) = IsOk expected
AnswersWith expected (Err (Full limit)) = expected ≡ Err (Full limit)

abbrev pub is_fresh : Result Answered BookRefusal → Bool
is_fresh (Ok answered) = answered.fresh
is_fresh (Err refusal) = false

abbrev pub with_take : Ledger → Moment → CcRequest → Ledger
with_take ledger moment request = record ledger { history = ledger.history ++ Take moment request ∷ [] }

-- ---- a look at the clock

abbrev pub with_sweep : Ledger → Moment → Ledger
with_sweep ledger moment = record ledger { history = ledger.history ++ Sweep moment ∷ [] }

-- what a sweep is answered that would end so many sessions: it wants an entry, and so is Full, only where it ends some
abbrev pub answer_to_sweep : Ledger → ℕ → Result ℕ BookRefusal
answer_to_sweep ledger zero = Ok 0
answer_to_sweep ledger (suc more) = if nat_le ledger.limit (length ledger.history) then Err (Full ledger.limit) else Ok (suc more)

-- what a sweep at a moment is answered: how many sessions it ends
abbrev pub sweep_answer : Ledger → Moment → Result ℕ BookRefusal
sweep_answer ledger moment = answer_to_sweep ledger (ended_sessions ledger.terms ledger.history moment)

-- a sweep answered so, unless memory ran out for its entry: one that ends nothing, or is refused, takes none
abbrev pub SweepsWith : Result ℕ BookRefusal → Result ℕ BookRefusal → Type 0
SweepsWith expected (Ok ended) = expected ≡ Ok ended
SweepsWith expected (Err OutOfMemory) = IsOkAnd expected (λ ended. 0 < ended)
SweepsWith expected (Err (Full limit)) = expected ≡ Err (Full limit)

-- the book after a sweep that was answered so: one entry more where sessions ended
abbrev pub after_sweep_with : Ledger → Moment → Result ℕ BookRefusal → Ledger
after_sweep_with ledger moment (Ok zero) = ledger
after_sweep_with ledger moment (Ok (suc more)) = with_sweep ledger moment
after_sweep_with ledger moment (Err refusal) = ledger

-- the book after a sweep for which there is memory
abbrev pub after_sweep : Ledger → Moment → Ledger
after_sweep ledger moment = after_sweep_with ledger moment (sweep_answer ledger moment)

-- What is true of each book: it keeps its limits, and beside its entries what they replied and what they have left.
pub record IsBook (terms : Terms) (limit : ℕ) (history : List Entry) (replies : List (Option CcReply)) (balances : List ℤ)
    (sessions : List OpenSession) : Type 0 where
  pub legal : IsLegal terms history
  pub within : length history ≤ limit
  pub replies_kept : replies ≡ map (λ posting. posting.reply) (postings_of terms history)
  pub stands : Stands (terms_of terms history) (postings_of terms history) balances sessions
  pub sessions_left : sessions ≡ sessions_after terms.validity (postings_of terms history)
  -- amounts are within their bounds, by what they are and not by how many entries there are
  pub bounded : IsBounded balances sessions
  -- and began small, and moved little with each entry
  pub openings : OpensSmall (terms_of terms history)
  pub moved : AllByRecursion MovesLittle (postings_of terms history)

-- A book has room for all that its limit lets it keep: entries, their replies, and the sessions that they open.
pub record HasRoom (limit entries replies sessions : ℕ) : Type 0 where
  pub for_entries : limit ≤ entries
  pub for_replies : limit ≤ replies
  pub for_sessions : limit ≤ sessions
