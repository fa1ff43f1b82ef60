-- What a job is answered.
use Rattle.std.specs.Prelude.{◌≡◌, ℕ, List, All, sum_by, Option, Some, None, IfOk, IfSome, Ok, Err}
use Rattle.dia_base.specs.declared.number.Moment.{Moment}
use Rattle.dia_base.specs.declared.number.NodeNo.{NodeNo}
use Rattle.dia_message.specs.declared.message.Message.{Message}
use Rattle.cc_view.specs.declared.code.ResultCode.TheVariants.{TooBusy}
use Rattle.cc_view.specs.declared.refusal.Refusal.{Refusal}
use Rattle.cc_view.specs.Answer.{answer_to, refusal_of}
use Rattle.cc_view.specs.Refusal.{refusal_with}
use Rattle.cc_view.specs.RequestView.{view_under}
use Rattle.cc_shared.specs.declared.asking.Asked.{Asked}
use Rattle.cc_shared.specs.declared.asking.Served.{Served}
use Rattle.cc_shared.specs.declared.receipt.Receipt.{Receipt}
use Rattle.cc_shared.specs.Receipts.{IsReceiptOf}
use Rattle.cc_shared.specs.History.{SharedLedger}
use Rattle.front_pool.specs.declared.answering.Reading.{Reading}
use Rattle.front_pool.specs.declared.answering.Reading.TheVariants.{Answered, Asks}
use Rattle.front_pool.specs.declared.job.Finished.{Finished}
use Rattle.front_pool.specs.declared.job.Job.{Job}
use Rattle.front_pool.specs.declared.site.PoolSite.{PoolSite}
use Rattle.front_pool.specs.Jobs.{job_of}

-- DIAMETER_TOO_BUSY in the name of this front (RFC 6733, section 7.1.3)
abbrev pub too_busy : PoolSite → Message → Message
too_busy site message = refusal_of site.name site.realm message (refusal_with TooBusy)

-- A request that was served has a true receipt of the book, whose request is what is read in the message, and its answer, if
-- there is one, is the receipt's reply (RFC 8506, section 8). One that was not has no receipt: its answer, if there is one, is
-- the refusal of what is read in it, or DIAMETER_TOO_BUSY.
pub data Answers (site : PoolSite) (shared : SharedLedger) (message : Message) : Option Message → Option Receipt → Type 0 where
  serves :
      (answer : Option Message) (receipt : Receipt) → view_under site.profile message ≡ Ok receipt.request → IsReceiptOf shared receipt
      → IfSome answer (λ written. written ≡ answer_to site.name site.realm message receipt.request receipt.reply)
      → Answers site shared message answer (Some receipt)
  refuses :
      (answer : Option Message) (refusal : Refusal) → view_under site.profile message ≡ Err refusal
      → IfSome answer (λ written. written ≡ refusal_of site.name site.realm message refusal)
      → Answers site shared message answer None
  is_too_busy :
      (answer : Option Message) → IfSome answer (λ written. written ≡ too_busy site message)
      → Answers site shared message answer None

abbrev pub IsAnswered : PoolSite → SharedLedger → Finished → Type 0
IsAnswered site shared finished = Answers site shared finished.request finished.answer finished.receipt

-- it is answered in the name of the front that it names
abbrev pub IsAnsweredByOne : (NodeNo → PoolSite) → SharedLedger → Finished → Type 0
IsAnsweredByOne sites shared finished = IsAnswered (sites finished.front) shared finished

-- it is answered in the name of this front
abbrev pub IsAnsweredBy : NodeNo → (NodeNo → PoolSite) → SharedLedger → Finished → Type 0
IsAnsweredBy front sites shared finished = (finished.front ≡ front) × IsAnswered (sites front) shared finished

-- a job of a front that is answered so
abbrev pub answered : NodeNo → Job → Option Message → Option Receipt → Option Moment → Finished
answered front job answer receipt moment = record {
  job = job.number;
  front = front;
  conn = job.conn;
  request = job.request;
  answer = answer;
  receipt = receipt;
  moment = moment;
}

-- ---- before the book is asked, and behind that

-- what is asked is what is read in the message
abbrev pub IsAskedOf : PoolSite → Asked Job → Type 0
IsAskedOf site asked = view_under site.profile asked.job.request ≡ Ok asked.request

-- What is served is what is read in the message, and its receipt stands in the book's history.
abbrev pub IsServedAt : PoolSite → SharedLedger → Served Job → Type 0
IsServedAt site shared served = IfOk served.result (λ receipt. (view_under site.profile served.job.request ≡ Ok receipt.request) × IsReceiptOf shared receipt)

-- The message of a job of this front was read: it is answered without the book, and tells of no receipt and of no moment, or the book is
-- asked.
abbrev pub Reads : (NodeNo → PoolSite) → SharedLedger → NodeNo → Job → Reading → Type 0
Reads sites shared front job (Answered finished) =
    (job_of finished ≡ job) × IsAnsweredByOne sites shared finished × (finished.receipt ≡ None) × (finished.moment ≡ None)
Reads sites shared front job (Asks asked) = (asked.job ≡ job) × IsAskedOf (sites front) asked

-- These jobs were finished as these, each once, by one answer: however jobs are weighed, both sides weigh the same.
pub record AreServed (sites : NodeNo → PoolSite) (shared : SharedLedger) (jobs : List Job) (finished : List Finished) : Type 0 where
  pub same : (weight : Job → ℕ) → sum_by weight jobs ≡ sum_by (λ done. weight (job_of done)) finished
  pub answered : All (IsAnsweredByOne sites shared) finished
