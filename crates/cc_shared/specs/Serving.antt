-- What a request is answered through the lock, and what a seat counts.
use Rattle.std.specs.Prelude.{◌≡◌, ℕ, ◌+◌, ◌≤◌, List, [], ◌∷◌, ◌++◌, length, map, Bool, true, if◌then◌else◌, Result, Ok, Err}
use Rattle.dia_base.specs.declared.number.Moment.{Moment}
use Rattle.cc_view.specs.declared.request.CcRequest.{CcRequest}
use Rattle.cc_book.specs.declared.book.Answered.{Answered}
use Rattle.cc_book.specs.declared.book.BookRefusal.{BookRefusal}
use Rattle.cc_book.specs.declared.book.BookRefusal.TheVariants as book
use Rattle.cc_book.specs.declared.entry.Entry.TheVariants.{Take}
use Rattle.cc_book.specs.History.{IsLegal}
use Rattle.cc_book.specs.Taking.{answer_of}
use Rattle.cc_shared.specs.declared.logged.Logged.{Logged}
use Rattle.cc_shared.specs.declared.logged.Logged.TheVariants.{Entered}
use Rattle.cc_shared.specs.declared.asking.Asked.{Asked}
use Rattle.cc_shared.specs.declared.asking.Served.{Served}
use Rattle.cc_shared.specs.declared.error.ServeError.{ServeError}
use Rattle.cc_shared.specs.declared.error.ServeRefusal.{ServeRefusal}
use Rattle.cc_shared.specs.declared.error.ServeRefusal.TheVariants as serve
use Rattle.cc_shared.specs.declared.receipt.Receipt.{Receipt}
use Rattle.cc_shared.specs.History.{SharedLedger, book_at}
use Rattle.cc_shared.specs.Receipts.{IsEnteredAt, IsReceiptOf}

-- the count of a seat after a request was appended, or not
abbrev pub count_if : Bool → ℕ → ℕ
count_if fresh count = if fresh then count + 1 else count

abbrev pub count_after : ℕ → Result Receipt ServeError → ℕ
count_after count (Ok receipt) = count_if receipt.fresh count
count_after count (Err error) = count

-- why a request is not served that the book has refused
abbrev pub why_of : BookRefusal → ServeRefusal
why_of (book.Full limit) = serve.Full limit
why_of book.OutOfMemory = serve.OutOfMemory

-- what a receipt says that the book has answered
abbrev pub answer_in : Receipt → Answered
answer_in receipt = record { reply = receipt.reply; place = receipt.place; fresh = receipt.fresh }

-- the history behind a request that was appended at this moment, or not
abbrev pub log_behind : List Logged → Moment → CcRequest → Bool → List Logged
log_behind before moment request fresh = if fresh then before ++ Entered (Take moment request) ∷ [] else before

-- An open book was asked behind this history, by a seat that had counted no more than that: the receipt has its answer, and stands
-- in the history, which has the request's entry more if it is fresh.
pub record IsServedBehind (shared : SharedLedger) (count : ℕ) (moment : Moment) (before : List Logged) (receipt : Receipt) (behind : List Logged) : Type 0 where
  pub answer : answer_of (book_at shared.opened before) receipt.request ≡ Ok (answer_in receipt)
  pub is_behind : behind ≡ log_behind before moment receipt.request receipt.fresh
  pub within : count ≤ length (book_at shared.opened before).history
  pub seen : receipt.seen.log ≡ behind
  pub stands : IsReceiptOf shared receipt
  pub entered : receipt.fresh ≡ true → IsEnteredAt shared.opened moment receipt

-- The book has refused behind this history: it is full, or memory is missing.
abbrev pub IsRefusedBehind : SharedLedger → List Logged → CcRequest → ServeRefusal → Type 0
IsRefusedBehind shared before request (serve.Full limit) = answer_of (book_at shared.opened before) request ≡ Err (book.Full limit)
IsRefusedBehind shared before request serve.OutOfMemory = Unit {0}
IsRefusedBehind shared before request serve.Closed = ⊥

-- what a request comes to behind the history of an open book, and the history behind that
abbrev pub ServesOne : SharedLedger → ℕ → Moment → CcRequest → List Logged → Result Receipt ServeError → List Logged → Type 0
ServesOne shared count moment request before (Ok receipt) behind = (receipt.request ≡ request) × IsServedBehind shared count moment before receipt behind
ServesOne shared count moment request before (Err error) behind =
    (error.request ≡ request) × IsLegal shared.opened.terms (book_at shared.opened before).history × IsRefusedBehind shared before request error.why
    × (behind ≡ before)

-- A request is refused by the book behind a legal history of it, or since the book is closed.
pub data IsRefused (shared : SharedLedger) (request : CcRequest) (why : ServeRefusal) : Type 0 where
  by_book :
      (before : List Logged) → IsLegal shared.opened.terms (book_at shared.opened before).history → IsRefusedBehind shared before request why
      → IsRefused shared request why
  by_end : why ≡ serve.Closed → IsRefused shared request why

-- These requests were served one behind the other, by a seat that counts so many before them and so many behind them.
abbrev pub ServesEach : {J : Type 0} → SharedLedger → ℕ → List Logged → List (Asked J) → List (Served J) → List Logged → ℕ → Type 0
ServesEach shared count before [] [] behind counted = (behind ≡ before) × (counted ≡ count)
ServesEach shared count before [] (served ∷ more) behind counted = ⊥
ServesEach shared count before (asked ∷ others) [] behind counted = ⊥
ServesEach shared count before (asked ∷ others) (served ∷ more) behind counted =
    (mid : List Logged) × (served.job ≡ asked.job) × (served.moment ≡ asked.moment) × ServesOne shared count asked.moment asked.request before served.result mid
    × ServesEach shared (count_after count served.result) mid others more behind counted

-- a request that a closed book does not serve
abbrev pub refused_closed : {J : Type 0} → Asked J → Served J
refused_closed asked = record { job = asked.job; moment = asked.moment; result = Err (record { why = serve.Closed; request = asked.request }) }

-- These requests were served by one call: one behind the other, behind a history of the open book; or each is refused, since the
-- book is closed.
pub data ServesAll {J : Type 0} (shared : SharedLedger) (count : ℕ) (asked : List (Asked J)) (served : List (Served J)) (counted : ℕ) : Type 0 where
  in_order : (before behind : List Logged) → ServesEach shared count before asked served behind counted → ServesAll shared count asked served counted
  is_closed : served ≡ map refused_closed asked → counted ≡ count → ServesAll shared count asked served counted
