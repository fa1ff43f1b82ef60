-- Worked examples: a front between two events, and what it does then. Its workers are given one by one.
use Rattle.std.specs.Prelude.{ℕ, List, [], ◌∷◌, length}
use Rattle.dia_base.specs.declared.number.Moment.{Moment}
use Rattle.dia_message.specs.declared.message.Message.{Message}
use Rattle.dia_message.specs.Traffic.{Traffic}
use Rattle.cc_view.specs.FirstDebit.{debit_header, debit_message}
use Rattle.cc_book.specs.Taking.{Ledger}
use Rattle.front_core.specs.declared.worker.Job.{Job}
use Rattle.front_core.specs.declared.worker.Worker.{Worker}
use Rattle.front_core.specs.declared.worker.Worker.TheVariants.{Picked, Done}
use Rattle.front_core.specs.FrontState.{FrontState}
use Rattle.front_core.specs.FrontStep.{after_arrival, sent_at_arrival}
use Rattle.front_core.specs.ShortRuns.{conn, empty_book, short_site, unknown_user}

-- the first debit, and the same under the identifier 8
abbrev pub job : Job
job = record { conn = conn 1; request = debit_message }

abbrev pub second_debit : Message
second_debit = record { header = record debit_header { hop = 8 }; body = debit_message.body }

abbrev pub second_job : Job
second_job = record { conn = conn 1; request = second_debit }

-- a worker that picked the first debit, and one that has its answer
abbrev pub picked : Worker
picked = Picked (conn 1) debit_message

abbrev pub done : Worker
done = Done (conn 1) unknown_user

-- f1.example, at which so many requests may wait, with the first connection alone
abbrev pub front_with : ℕ → List Job → List Worker → FrontState
front_with places queue workers = record { site = short_site (length workers) places; connections = conn 1 ∷ []; queue = queue; workers = workers }

-- the same without a connection
abbrev pub cut_front_with : ℕ → List Job → List Worker → FrontState
cut_front_with places queue workers = record (front_with places queue workers) { connections = [] }

-- a front after a message on the first connection, and what it sends
abbrev pub at_arrival : FrontState → Message → FrontState × Traffic
at_arrival front message = (after_arrival front (conn 1) message, sent_at_arrival front (conn 1) message)

abbrev pub moment : Moment
moment = record { 0 = 1000 }

-- a book that takes no request more
abbrev pub full_book : Ledger
full_book = record empty_book { limit = 0 }
