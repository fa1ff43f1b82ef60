-- What came before a shared book, in the order of its history, and the run of the farm that does the same.
use Rattle.std.specs.Prelude.{◌≡◌, ℕ, ◌+◌, ◌<◌, true, false, List, [], ◌∷◌, filter, length, slice_get, Some}
use Rattle.dia_base.specs.declared.number.Moment.{Moment}
use Rattle.dia_base.specs.declared.number.NodeNo.{NodeNo}
use Rattle.dia_message.specs.Traffic.{Traffic}
use Rattle.cc_book.specs.declared.entry.Entry.TheVariants.{Take}
use Rattle.cc_book.specs.declared.terms_change.TermsChange.{TermsChange}
use Rattle.cc_book.specs.Taking.{Ledger}
use Rattle.cc_shared.specs.declared.receipt.Receipt.{Receipt}
use Rattle.cc_shared.specs.History.{SharedLedger}
use Rattle.cc_shared.specs.Receipts.{Fits}
use Rattle.front_core.specs.declared.site.FrontSite.{FrontSite}
use Rattle.front_core.specs.declared.worker.Job.{Job}
use Rattle.front_core.specs.FrontState.{FrontState, is_among}
use Rattle.front_pool.specs.declared.job.Finished.{Finished}
use Rattle.front_pool.specs.Answering.{IsAnswered}
use Rattle.front_pool.specs.Charging.{answer_with, pool_of}
use Rattle.farm_base.specs.declared.site.Site.{Site}
use Rattle.farm_base.specs.declared.step.Step.{Step}
use Rattle.farm_base.specs.declared.step.Step.TheVariants.{Pick, Charge, Emit}
use Rattle.farm_base.specs.Nodes.{is_node}
use Rattle.farm_model.specs.Run.{Past, Run, steps_in}
use Rattle.farm_model.specs.World.{WorldState, front_at, with_traffic_from}

-- What came before the book: a job whose request was taken, one whose reply was kept already, each with its receipt and a
-- moment, a look at the clock, and a change of the terms.
pub data BookEvent : Type 0 where
  takes : Finished → Receipt → Moment → BookEvent
  repeats : Finished → Receipt → Moment → BookEvent
  sweeps : Moment → BookEvent
  changes : Moment → TermsChange → BookEvent

-- A finished job has this receipt, which stands in the history, and is answered by it.
pub record HasReceipt (site : FrontSite) (book : Ledger) (finished : Finished) (receipt : Receipt) : Type 0 where
  pub shared : SharedLedger
  pub answered : IsAnswered (pool_of site) shared finished
  pub receipt_is : finished.receipt ≡ Some receipt
  pub fits : Fits book.terms book.history receipt

-- These are all that came before the book from a place of its history on, in the order of the receipts: each entry is that of
-- one fresh receipt, at its place, or a sweep's or a change's; and a receipt that is not fresh stands behind the entry that it repeats.
abbrev pub AreInOrder : FrontSite → Ledger → ℕ → List BookEvent → Type 0
AreInOrder site book place [] = place ≡ length book.history
AreInOrder site book place (takes finished receipt moment ∷ more) =
    HasReceipt site book finished receipt × (receipt.fresh ≡ true) × (receipt.place ≡ place)
    × (slice_get book.history place ≡ Some (Take moment receipt.request)) × AreInOrder site book (place + 1) more
AreInOrder site book place (repeats finished receipt moment ∷ more) =
    HasReceipt site book finished receipt × (receipt.fresh ≡ false) × (receipt.place < place) × AreInOrder site book place more
AreInOrder site book place (sweeps moment ∷ more) =
    (slice_get book.history place ≡ Some (Rattle.cc_book.specs.declared.entry.Entry.TheVariants.Sweep moment)) × AreInOrder site book (place + 1) more
AreInOrder site book place (changes moment change ∷ more) =
    (slice_get book.history place ≡ Some (Rattle.cc_book.specs.declared.entry.Entry.TheVariants.ChangeTerms moment change))
    × AreInOrder site book (place + 1) more

-- ---- what the front does

-- the request of a finished job, in a front's queue
abbrev pub waiting : Finished → Job
waiting finished = record { conn = finished.conn; request = finished.request }

-- the requests, the first to be charged first
abbrev pub queue_of : List BookEvent → List Job
queue_of [] = []
queue_of (takes finished receipt moment ∷ more) = waiting finished ∷ queue_of more
queue_of (repeats finished receipt moment ∷ more) = waiting finished ∷ queue_of more
queue_of (sweeps moment ∷ more) = queue_of more
queue_of (changes moment change ∷ more) = queue_of more

-- the steps: each request is picked, charged and answered before the next
abbrev pub steps_of : NodeNo → ℕ → List BookEvent → List Step
steps_of node worker [] = []
steps_of node worker (takes finished receipt moment ∷ more) =
    Pick node worker ∷ Charge node worker moment ∷ Emit node worker ∷ steps_of node worker more
steps_of node worker (repeats finished receipt moment ∷ more) =
    Pick node worker ∷ Charge node worker moment ∷ Emit node worker ∷ steps_of node worker more
steps_of node worker (sweeps moment ∷ more) = Rattle.farm_base.specs.declared.step.Step.TheVariants.Sweep moment ∷ steps_of node worker more
steps_of node worker (changes moment change ∷ more) =
    Rattle.farm_base.specs.declared.step.Step.TheVariants.ChangeTerms moment change ∷ steps_of node worker more

-- the answers, each with the reply of its receipt
abbrev pub answers_of : FrontSite → List BookEvent → Traffic
answers_of site [] = []
answers_of site (takes finished receipt moment ∷ more) = (finished.conn, answer_with site finished.request receipt) ∷ answers_of site more
answers_of site (repeats finished receipt moment ∷ more) = (finished.conn, answer_with site finished.request receipt) ∷ answers_of site more
answers_of site (sweeps moment ∷ more) = answers_of site more
answers_of site (changes moment change ∷ more) = answers_of site more

-- those on connections that the front has
abbrev pub sent_of : FrontState → List BookEvent → Traffic
sent_of front events = filter (λ item. is_among front.connections item.0) (answers_of front.site events)

-- each of these steps applies
abbrev pub AllApply : Past → Type 0
AllApply [] = Unit {0}
AllApply (t ∷ past) = (t.applied ≡ true) × AllApply past

-- A run of the farm with these steps, all of which apply. It leaves this book, the front with an empty queue and otherwise as it
-- was, and in flight what the front has sent; and changes nothing else.
pub record Leads (site : Site) (node : NodeNo) (front : FrontState) (book : Ledger) (steps : List Step) (sent : Traffic) (old : WorldState) : Type 0 where
  pub past : Past
  pub new : WorldState
  pub run : Run site old past new
  pub steps_are : steps_in past ≡ steps
  pub all_apply : AllApply past
  pub book_is : new.book ≡ book
  pub front_is : front_at node new.fronts ≡ Some (record front { queue = [] })
  pub flight_is : new.directions ≡ with_traffic_from node old.directions sent
  pub others : (other : NodeNo) → is_node node other ≡ false → front_at other new.fronts ≡ front_at other old.fronts
  pub relays_are : new.relays ≡ old.relays
  pub sent_is : new.sent ≡ old.sent
  pub received_is : new.received ≡ old.received
  pub ends_are : new.ends ≡ old.ends
