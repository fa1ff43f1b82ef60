-- Requests that are served one behind the other.
use Rattle.std.proofs.Common.{◌≡◌, ◌≤◌, ◌+◌, ℕ, Bool, true, List, [], ◌∷◌, ◌++◌, length, Result, Ok, Err, refl, sym, subst, ap, ◌∙◌, append-nil, append_assoc, length-append, arith}
use Rattle.std.specs.Prelude.{IfErr, IfOk, MatchResult}
use Rattle.dia_base.specs.declared.number.Moment.{Moment}
use Rattle.cc_view.specs.declared.request.CcRequest.{CcRequest}
use Rattle.cc_book.specs.declared.entry.Entry.TheVariants.{Take}
use Rattle.cc_book.specs.History.{IsLegal}
use Rattle.cc_book.specs.Taking.{Ledger, answer_of}
use Rattle.cc_shared.specs.declared.asking.Asked.{Asked}
use Rattle.cc_shared.specs.declared.asking.Served.{Served}
use Rattle.cc_shared.specs.declared.error.ServeError.{ServeError}
use Rattle.cc_shared.specs.declared.logged.Logged.{Logged}
use Rattle.cc_shared.specs.declared.receipt.Receipt.{Receipt}
use Rattle.cc_shared.specs.History.{SharedLedger, book_at}
use Rattle.cc_shared.specs.Receipts.{IsEnteredAt, IsReceiptOf}
use Rattle.cc_shared.specs.Serving.{IsRefused, IsServedBehind, ServesEach, ServesOne, answer_in, by_book, count_after, log_behind}
use Rattle.cc_shared.proofs.Histories.{book_at-take}
use Rattle.cc_shared.proofs.Truth.{answer_is_served}

-- ---- one request

pub served_behind :
    (shared : SharedLedger) (count : ℕ) (moment : Moment) (before behind : List Logged) (receipt : Receipt) → receipt.seen.book ≡ shared.log
    → receipt.seen.log ≡ behind → IsLegal shared.opened.terms (book_at shared.opened behind).history
    → answer_of (book_at shared.opened before) receipt.request ≡ Ok (answer_in receipt) → behind ≡ log_behind before moment receipt.request receipt.fresh
    → count ≤ length (book_at shared.opened before).history → IsServedBehind shared count moment before receipt behind
served_behind shared count moment before behind receipt of seen legal answer is within =
    let legal_there = subst (λ (l : List Logged). IsLegal shared.opened.terms (book_at shared.opened l).history) (sym seen) legal in
    let served = answer_is_served shared.opened before moment receipt legal_there answer (seen ∙ is) in
    record { answer = answer; is_behind = is; within = within; seen = seen; stands = record { of = of; stands = served.stands }; entered = served.entered }

-- what a call says of one request
pub one_receipt :
    (shared : SharedLedger) (count : ℕ) (moment : Moment) (request : CcRequest) (before behind : List Logged) (result : Result Receipt ServeError)
    → ServesOne shared count moment request before result behind → IfOk result (IsReceiptOf shared)
one_receipt shared count moment request before behind (Ok receipt) one = one.1.stands
one_receipt shared count moment request before behind (Err error) one = tt

pub one_request :
    (shared : SharedLedger) (count : ℕ) (moment : Moment) (request : CcRequest) (before behind : List Logged) (result : Result Receipt ServeError)
    → ServesOne shared count moment request before result behind → MatchResult result (λ receipt. receipt.request ≡ request) (λ error. error.request ≡ request)
one_request shared count moment request before behind (Ok receipt) one = one.0
one_request shared count moment request before behind (Err error) one = one.0

pub one_moment :
    (shared : SharedLedger) (count : ℕ) (moment : Moment) (request : CcRequest) (before behind : List Logged) (result : Result Receipt ServeError)
    → ServesOne shared count moment request before result behind → IfOk result (λ receipt. receipt.fresh ≡ true → IsEnteredAt shared.opened moment receipt)
one_moment shared count moment request before behind (Ok receipt) one = one.1.entered
one_moment shared count moment request before behind (Err error) one = tt

place_of : (shared : SharedLedger) (count : ℕ) (moment : Moment) (before behind : List Logged) (receipt : Receipt)
    → IsServedBehind shared count moment before receipt behind → receipt.fresh ≡ true → count ≤ receipt.place
place_of shared count moment before behind receipt served fresh =
    let opened = shared.opened in
    let entry = Take moment receipt.request in
    let history = (book_at opened before).history in
    let seen : receipt.seen.log ≡ log_behind before moment receipt.request true = served.seen ∙ served.is_behind ∙ ap (λ (b : Bool). log_behind before moment receipt.request b) fresh in
    let whole : (book_at opened receipt.seen.log).history ≡ history ++ entry ∷ [] =
    ap (λ (l : List Logged). (book_at opened l).history) seen ∙ sym (ap (λ (l : Ledger). l.history) (book_at-take opened before moment receipt.request)) in
    let longer : length (book_at opened receipt.seen.log).history ≡ length history + 1 = ap length whole ∙ length-append history (entry ∷ []) in
    let last = served.stands.stands.last fresh in
    omega (arith, longer, last, served.within)

pub one_place :
    (shared : SharedLedger) (count : ℕ) (moment : Moment) (request : CcRequest) (before behind : List Logged) (result : Result Receipt ServeError)
    → ServesOne shared count moment request before result behind → IfOk result (λ receipt. receipt.fresh ≡ true → count ≤ receipt.place)
one_place shared count moment request before behind (Ok receipt) one = place_of shared count moment before behind receipt one.1
one_place shared count moment request before behind (Err error) one = tt

pub one_refusal :
    (shared : SharedLedger) (count : ℕ) (moment : Moment) (request : CcRequest) (before behind : List Logged) (result : Result Receipt ServeError)
    → ServesOne shared count moment request before result behind → IfErr result (λ error. IsRefused shared request error.why)
one_refusal shared count moment request before behind (Ok receipt) one = tt
one_refusal shared count moment request before behind (Err error) one = by_book before one.1 one.2

-- ---- one behind the other

-- However it goes on from here, it has gone so from the first request on.
abbrev pub Continues : {J : Type 0} → SharedLedger → ℕ → List Logged → List (Asked J) → ℕ → List Logged → List (Asked J) → List (Served J) → Type 0
Continues {J} shared first opening all count log rest done =
    (more : List (Served J)) (behind : List Logged) (counted : ℕ) → ServesEach shared count log rest more behind counted
    → ServesEach shared first opening all (done ++ more) behind counted

pub goes_on :
    {J : Type 0} (shared : SharedLedger) (first : ℕ) (opening : List Logged) (all : List (Asked J)) (count : ℕ) (log : List Logged) (asked : Asked J)
    (rest : List (Asked J)) (done : List (Served J)) (served : Served J) (mid : List Logged) → Continues shared first opening all count log (asked ∷ rest) done
    → served.job ≡ asked.job → served.moment ≡ asked.moment → ServesOne shared count asked.moment asked.request log served.result mid
    → Continues shared first opening all (count_after count served.result) mid rest (done ++ served ∷ [])
goes_on {J} shared first opening all count log asked rest done served mid so_far job moment one more behind counted then =
    subst (λ (s : List (Served J)). ServesEach shared first opening all s behind counted) (sym (append_assoc done (served ∷ []) more))
    (so_far (served ∷ more) behind counted (mid, job, moment, one, then))

pub ends_there :
    {J : Type 0} (shared : SharedLedger) (first : ℕ) (opening : List Logged) (all : List (Asked J)) (count : ℕ) (log : List Logged) (rest : List (Asked J))
    (done : List (Served J)) → length rest ≡ 0 → Continues shared first opening all count log rest done → ServesEach shared first opening all done log count
ends_there {J} shared first opening all count log [] done none so_far =
    subst (λ (s : List (Served J)). ServesEach shared first opening all s log count) (append-nil done) (so_far [] log count (refl, refl))
ends_there {J} shared first opening all count log (asked ∷ rest) done none so_far = absurd (omega (arith, none))
