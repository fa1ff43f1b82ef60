-- What is collected goes on from what was collected before.
use Rattle.std.proofs.Common.{◌≡◌, ◌==◌, ◌<◌, ℕ, Bool, true, false, [], ◌++◌, MatchBool, Result, Ok, Err, ap, length, get_or, refl, sym, subst, ◌∙◌}
use Rattle.std.specs.Prelude.{slice_set}
use Rattle.cc_book.specs.declared.book.BookRefusal.{BookRefusal}
use Rattle.dia_base.specs.declared.number.Moment.{Moment}
use Rattle.dia_base.specs.declared.number.NodeNo.{NodeNo}
use Rattle.dia_message.specs.Traffic.{Traffic}
use Rattle.cc_shared.specs.History.{SharedLedger}
use Rattle.farm_node.specs.declared.error.NodeError.{NodeError}
use Rattle.farm_node.specs.declared.error.NodeError.TheVariants as fault
use Rattle.front_pool.specs.declared.job.Finished.{Finished}
use Rattle.front_pool.specs.declared.site.PoolSite.{PoolSite}
use Rattle.pool_node.specs.declared.figures.BookFigures.{BookFigures}
use Rattle.pool_node.specs.Booked.{BookState, HasTakenIn}
use Rattle.farm_record.specs.declared.event.Event.{Event}
use Rattle.farm_record.specs.declared.event.Event.TheVariants.{Sweep}
use Rattle.pool_node.specs.Events.{EventsState, Keeps, Tells, TellsSweep, event_of}
use Rattle.pool_node.specs.Figures.{HasCollected}
use Rattle.pool_node.specs.Fronts.{Collecting, CollectsMore, CollectsOne, FindsNone, FrontState, FrontsState, begins, finds_none, goes_on, outcome_for, sent_for, wants_memory}

tells_where : (on : Bool) (event : Event) (old new : EventsState) → MatchBool on (Keeps event old new) (new ≡ old) → new.is_on ≡ old.is_on
tells_where true event old new told = told.on
tells_where false event old new told = ap (λ (state : EventsState). state.is_on) told

-- who tells of something, or of nothing, goes on as before
pub tells_on : (event : Event) (old new : EventsState) → Tells event old new → new.is_on ≡ old.is_on
tells_on event old new told = tells_where old.is_on event old new told

tells_sweep_where : (none : Bool) (event : Event) (old new : EventsState) → MatchBool none (new ≡ old) (Tells event old new) → new.is_on ≡ old.is_on
tells_sweep_where true event old new told = ap (λ (state : EventsState). state.is_on) told
tells_sweep_where false event old new told = tells_on event old new told

pub tells_sweep_on : (moment : Moment) (swept : Result ℕ BookRefusal) (old new : EventsState) → TellsSweep moment swept old new → new.is_on ≡ old.is_on
tells_sweep_on moment (Ok ended) old new told = tells_sweep_where (ended == 0) (Sweep moment ended) old new told
tells_sweep_on moment (Err refusal) old new told = ap (λ (state : EventsState). state.is_on) told

-- the fronts with one of them changed, and with this book
abbrev with_book : FrontsState → ℕ → FrontState → BookState → FrontsState
with_book old place next book =
    record { fronts = slice_set old.fronts place next; under_way = old.under_way; next_sweep = book.next_sweep; figures = book.figures; is_recorded = book.events.is_on }

pub collects_more :
    (sites : NodeNo → PoolSite) (shared : SharedLedger) (old : FrontsState) (place : ℕ) (front next : FrontState) (finished : Finished)
    (before book : BookState) (sent more all : Traffic) (outcome : Result (Unit {0}) NodeError)
    → place < length old.fronts → front ≡ get_or old.fronts place front → CollectsOne sites shared finished front next
    → old.next_sweep ≡ before.next_sweep → old.figures ≡ before.figures → old.is_recorded ≡ before.events.is_on → HasTakenIn finished before book
    → more ≡ sent → all ≡ more ++ sent_for next finished → outcome ≡ outcome_for next finished
    → CollectsMore sites shared old sent all outcome (with_book old place next book)
collects_more sites shared old place front next finished before book sent more all outcome below was step due had on taken same is tells earlier collected =
    goes_on sent old place finished all outcome (with_book old place next book) collected
    (record {
      one = record { below = below; front = front; was = was; next = next; step = step; is = refl };
      counted = subst (λ (figures : BookFigures). HasCollected finished.receipt figures book.figures) (sym had) taken.counted;
      under_way_is = refl;
      sweep_is = taken.sweep_is ∙ sym due;
      recorded_is = tells_on (event_of finished) before.events book.events taken.told ∙ sym on;
    })
    (subst (λ (t : Traffic). all ≡ t ++ sent_for next finished) same is) tells

-- no finished job that this front waits for is there
pub finds_no_more :
    (sites : NodeNo → PoolSite) (shared : SharedLedger) (old : FrontsState) (place : ℕ) (front next : FrontState) (sent all : Traffic)
    → place < length old.fronts → front ≡ get_or old.fronts place front → FindsNone front next → all ≡ sent
    → CollectsMore sites shared old sent all (Ok tt) (record old { fronts = slice_set old.fronts place next })
finds_no_more sites shared old place front next sent all below was step same before collected =
    let new : FrontsState = record old { fronts = slice_set old.fronts place next } in
    let here : Collecting sites shared before sent (Ok tt) new =
    finds_none sent old place new collected
    (record { one = record { below = below; front = front; was = was; next = next; step = step; is = refl }; else_is = refl }) in
    subst (λ (t : Traffic). Collecting sites shared before t (Ok tt) new) (sym same) here

-- there is no room for a job more
pub no_room :
    (sites : NodeNo → PoolSite) (shared : SharedLedger) (old new : FrontsState) (sent all : Traffic) → new ≡ old → all ≡ sent
    → CollectsMore sites shared old sent all (Err fault.OutOfMemory) new
no_room sites shared old new sent all same is before collected =
    let here : Collecting sites shared before all (Ok tt) old = subst (λ (t : Traffic). Collecting sites shared before t (Ok tt) old) (sym is) collected in
    wants_memory all new (subst (λ (fronts : FrontsState). Collecting sites shared before all (Ok tt) fronts) (sym same) here)

pub collects :
    (sites : NodeNo → PoolSite) (shared : SharedLedger) (old new : FrontsState) (none sent all : Traffic) (told outcome : Result (Unit {0}) NodeError)
    → none ≡ [] → CollectsMore sites shared old none sent told new → all ≡ sent → outcome ≡ told → Collecting sites shared old all outcome new
collects sites shared old new none sent all told outcome empty more is same =
    let here : Collecting sites shared old all told new =
    subst (λ (t : Traffic). Collecting sites shared old t told new) (sym is) (more old (begins none old empty refl)) in
    subst (λ (o : Result (Unit {0}) NodeError). Collecting sites shared old all o new) (sym same) here
