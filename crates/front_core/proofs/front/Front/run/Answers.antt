use Rattle.std.proofs.Common.{◌≡◌, ◌+◌, ◌<◌, ◌≤◌, List, [], ◌∷◌, ◌++◌, Result, Ok, Err, length, take, sym, subst, ap, ◌∙◌, arith}
use Rattle.std.specs.Prelude.{IsOkUnless, map}
use Rattle.std.specs.Result.{IsErrAnd}
use Rattle.std.proofs.lemmas.List.{take_all, take_more}
use Rattle.front_core.specs.declared.error.FrontError.{FrontError}
use Rattle.front_core.specs.declared.error.FrontError.TheVariants.{OutOfMemory}
use Rattle.front_core.specs.declared.event.FrontEvent.{FrontEvent}
use Rattle.front_core.specs.FrontRun.{FrontRun, run_of}
use Rattle.cc_book.specs.History.{IsLegal}
use Rattle.cc_book.specs.Taking.{Ledger}
use Rattle.front_core.specs.Promise.{KeepsPromise}
use Rattle.front_core.proofs.FrontPromise.{promise_kept}
use Rattle.front_core.proofs.FrontRuns.{items_of, run_at, run_of-first, run_of-next}
use Rattle.front_core.proofs.front.Front.run.Goals as goal

-- an error that can only be want of memory
only_memory : {A : Type 0} (result : Result A FrontError) → IsErrAnd result (λ error. error ≡ OutOfMemory) → IsOkUnless result OutOfMemory
only_memory (Ok done) error = tt
only_memory (Err error) is = is

-- the same of an error that is handed on
handed_on : {A : Type 0} (result : Result A FrontError) (told : FrontError) → told ≡ OutOfMemory → IsErrAnd result (λ error. error ≡ told) → IsOkUnless result OutOfMemory
handed_on (Ok done) told memory error = tt
handed_on (Err error) told memory is = is ∙ memory

pub loop-event-init : goal.loop-event-init
loop-event-init g c = run_of-first c.args.site.now c.args.book c.in_ok-front.front c.new-outs.result.items c.in_ok-front.ensures c.new-outs.ensures.items

pub loop-event-preserved : goal.loop-event-preserved
loop-event-preserved g c =
    let events = c.args.events.now in
    let place = c.loop-event.event-index in
    let event = c.event-item.result in
    let past = take place events in
    let within : place < length events = omega arith in
    let more : take (place + 1) events ≡ past ++ event ∷ [] = take_more events place event within ∙ ap (λ (e : FrontEvent). past ++ e ∷ []) (sym c.event-item.is) in
    let out = c.in_ok-on_event.field-0 in
    let next = run_of-next c.args.site.now c.args.book past event c.loop-event.front c.on_event.new.front c.loop-event.book c.on_event.new.book c.loop-event.outs.items out c.loop-event.invariant c.in_ok-on_event.ensures.front c.in_ok-on_event.ensures.book
    c.in_ok-on_event.ensures.sent in
    rw (more, c.in_ok-push.ensures.items) next

pub returns : goal.returns
returns g c =
    let events = c.args.events.now in
    let book = c.args.book in
    let site = c.args.site.now in
    let over : length events ≤ c.loop-event.event-index = omega arith in
    let whole : run_of site book events ≡ run_at c.loop-event.front c.loop-event.book (map items_of c.loop-event.outs.items) =
    subst (λ (all : List FrontEvent). run_of site book all ≡ run_at c.loop-event.front c.loop-event.book (map items_of c.loop-event.outs.items)) (take_all c.loop-event.event-index events over) c.loop-event.invariant in
    let legal : IsLegal book.terms book.history = c.history-kept.ensures.legal in
    record {
      sent = ap (λ (run : FrontRun). run.sent) (sym whole);
      book = ap (λ (run : FrontRun). run.ledger) (sym whole);
      promise = subst (λ (run : FrontRun). KeepsPromise site book events run.sent run.ledger) whole (promise_kept site book events legal);
      memory = tt;
    }

pub returns-in_err-push-clause-memory : goal.returns-in_err-push-clause-memory
returns-in_err-push-clause-memory g c = only_memory c.from_residual-in_err-push.result c.from_residual-in_err-push.ensures.1

pub returns-in_err-on_event-clause-memory : goal.returns-in_err-on_event-clause-memory
returns-in_err-on_event-clause-memory g c =
    handed_on c.from_residual-in_err-on_event.result c.in_err-on_event.field-0.0 c.in_err-on_event.ensures.memory c.from_residual-in_err-on_event.ensures.1
