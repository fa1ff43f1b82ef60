-- A request in two steps: what it does is planned while the book stays as it is, and then committed.
use Rattle.std.specs.Prelude.{◌≡◌, ◌<◌, length, IsTrue, false, true, Option, Some, None, MatchOption, Result, Ok, Err, IsOk}
use Rattle.cc_view.specs.declared.request.CcRequest.{CcRequest}
use Rattle.cc_book.specs.declared.book.Answered.{Answered}
use Rattle.cc_book.specs.declared.book.BookRefusal.{BookRefusal}
use Rattle.cc_book.specs.declared.book.BookRefusal.TheVariants.{Full, OutOfMemory}
use Rattle.cc_book.specs.declared.plan.Plan.{Plan}
use Rattle.cc_book.specs.declared.plan.Taken.{Taken}
use Rattle.cc_book.specs.AccountMachine.{postings_of, terms_of}
use Rattle.cc_book.specs.Bounds.{bears_request}
use Rattle.cc_book.specs.Duplicate.{key_of}
use Rattle.cc_book.specs.History.{IsNew}
use Rattle.cc_book.specs.Standing.{IsOutcome, sessions_after}
use Rattle.cc_book.specs.Taking.{Ledger, answer_of, with_take}

-- what a plan answers to its request
abbrev pub answer_planned : Plan → Answered
answer_planned plan = plan.answered

-- a plan that answers so, unless memory ran out for what is not refused
abbrev pub PlansWith : Result Answered BookRefusal → Result Plan BookRefusal → Type 0
PlansWith expected (Ok plan) = expected ≡ Ok (answer_planned plan)
PlansWith expected (Err OutOfMemory) = IsOk expected
PlansWith expected (Err (Full limit)) = expected ≡ Err (Full limit)

-- a request that this book keeps is answered so
pub record IsRepeated (ledger : Ledger) (answered : Answered) : Type 0 where
  pub request : CcRequest
  pub answer : answer_of ledger request ≡ Ok answered
  pub repeats : answered.fresh ≡ false

-- The request is new to this book, which has room for it, its account bears it, and this is what it does after this
-- history.
pub record IsTaking (ledger : Ledger) (taken : Taken) : Type 0 where
  pub new : IsNew ledger.history (key_of taken.request)
  pub room : length ledger.history < ledger.limit
  pub borne : IsTrue (bears_request (terms_of ledger.terms ledger.history) (postings_of ledger.terms ledger.history) taken.request)
  pub outcome :
      IsOutcome (terms_of ledger.terms ledger.history) (postings_of ledger.terms ledger.history) (sessions_after ledger.terms.validity (postings_of ledger.terms ledger.history))
      taken.moment taken.request taken.outcome

-- the request is taken, and answered so
pub record IsTakenWith (ledger : Ledger) (answered : Answered) (taken : Taken) : Type 0 where
  pub taking : IsTaking ledger taken
  pub answer : answered ≡ record { reply = taken.outcome.reply; place = length ledger.history; fresh = true }

-- A plan is good for a book where what it answers and does follows from the history of this book.
abbrev pub IsGoodFor : Ledger → Plan → Type 0
IsGoodFor ledger plan = MatchOption plan.taken (IsRepeated ledger plan.answered) (λ taken. IsTakenWith ledger plan.answered taken)

abbrev pub after_taken : Ledger → Option Taken → Ledger
after_taken ledger None = ledger
after_taken ledger (Some taken) = with_take ledger taken.moment taken.request

-- the book after a plan is committed
abbrev pub after_plan : Ledger → Plan → Ledger
after_plan ledger plan = after_taken ledger plan.taken
