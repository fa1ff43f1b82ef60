-- Worked examples: a front over short lists of events, where the first debit comes to it. Numbers are octets, an AVP a
-- line.
use Rattle.std.specs.Prelude.{ℕ, List, [], ◌∷◌, ◌++◌, length, replicate, true, negsuc, Some, None}
use Rattle.dia_base.specs.declared.number.ConnId.{ConnId}
use Rattle.dia_message.specs.declared.message.Message.{Message}
use Rattle.dia_message.specs.Traffic.{Traffic}
use Rattle.dia_grammar.specs.Profile.{strict}
use Rattle.cc_view.specs.FirstDebit.{answer_header, debit_message, front_name, realm_name}
use Rattle.cc_book.specs.Taking.{Ledger}
use Rattle.front_core.specs.declared.event.FrontEvent.{FrontEvent}
use Rattle.front_core.specs.declared.event.FrontEvent.TheVariants as event
use Rattle.front_core.specs.declared.site.FrontSite.{FrontSite}
use Rattle.front_core.specs.FrontRun.{FrontRun, run_of}

-- f1.example with so many workers, at which so many requests may wait
abbrev pub short_site : ℕ → ℕ → FrontSite
short_site workers queue = record { name = front_name; realm = realm_name; profile = strict []; workers = workers; queue = queue }

-- a book without accounts
abbrev pub empty_book : Ledger
empty_book = record { terms = record { accounts = []; closed = []; tariffs = []; validity = 600; money = record { currency = 978; exponent = negsuc 1 } }; limit = 1048576; history = [] }

-- ---- events on the first connection, and of the first worker where no other is named

abbrev pub conn : ℕ → ConnId
conn number = record { 0 = number }

abbrev pub up : FrontEvent
up = event.Up (conn 1)

abbrev pub second_up : FrontEvent
second_up = event.Up (conn 2)

abbrev pub lost : FrontEvent
lost = event.Lost (conn 1)

abbrev pub debit : FrontEvent
debit = event.Message (conn 1) debit_message

abbrev pub pick : FrontEvent
pick = event.Pick 0

abbrev pub second_picks : FrontEvent
second_picks = event.Pick 1

abbrev pub charge : FrontEvent
charge = event.Charge 0 (record { 0 = 1000 })

abbrev pub refuse : FrontEvent
refuse = event.Refuse 0

abbrev pub emit : FrontEvent
emit = event.Emit 0

abbrev pub second_emits : FrontEvent
second_emits = event.Emit 1

-- at the last moment there is
abbrev pub sweep : FrontEvent
sweep = event.Sweep (record { 0 = 18446744073709551615 })

-- tariffs, of which there are none, hold from this moment on
abbrev pub change : FrontEvent
change = event.ChangeTerms (record { 0 = 2000 }) (record { joining = []; closing = []; reopening = []; tariffs = Some [] })

-- a change that says nothing, and is refused
abbrev pub no_change : FrontEvent
no_change = event.ChangeTerms (record { 0 = 2000 }) (record { joining = []; closing = []; reopening = []; tariffs = None })

abbrev pub restart : FrontEvent
restart = event.Restart

-- ---- what is sent

-- the AVPs of the answer of a book that has no account for the debit: DIAMETER_USER_UNKNOWN, 5030 (RFC 8506, section 9.1)
abbrev pub unknown_body : List ℕ
unknown_body =
    0 ∷ 0 ∷ 1 ∷ 7 ∷ 64 ∷ 0 ∷ 0 ∷ 14 ∷ 99 ∷ 49 ∷ 59 ∷ 49 ∷ 59 ∷ 49 ∷ 0 ∷ 0 ∷
    0 ∷ 0 ∷ 1 ∷ 12 ∷ 64 ∷ 0 ∷ 0 ∷ 12 ∷ 0 ∷ 0 ∷ 19 ∷ 166 ∷
    0 ∷ 0 ∷ 1 ∷ 8 ∷ 64 ∷ 0 ∷ 0 ∷ 18 ∷ 102 ∷ 49 ∷ 46 ∷ 101 ∷ 120 ∷ 97 ∷ 109 ∷ 112 ∷ 108 ∷ 101 ∷ 0 ∷ 0 ∷
    0 ∷ 0 ∷ 1 ∷ 40 ∷ 64 ∷ 0 ∷ 0 ∷ 19 ∷ 111 ∷ 99 ∷ 115 ∷ 46 ∷ 101 ∷ 120 ∷ 97 ∷ 109 ∷ 112 ∷ 108 ∷ 101 ∷ 0 ∷
    0 ∷ 0 ∷ 1 ∷ 2 ∷ 64 ∷ 0 ∷ 0 ∷ 12 ∷ 0 ∷ 0 ∷ 0 ∷ 4 ∷
    0 ∷ 0 ∷ 1 ∷ 160 ∷ 64 ∷ 0 ∷ 0 ∷ 12 ∷ 0 ∷ 0 ∷ 0 ∷ 4 ∷
    0 ∷ 0 ∷ 1 ∷ 159 ∷ 64 ∷ 0 ∷ 0 ∷ 12 ∷ 0 ∷ 0 ∷ 0 ∷ 0 ∷ []

abbrev pub unknown_user : Message
unknown_user = record { header = answer_header; body = unknown_body }

-- the AVPs of the refusal of the debit: DIAMETER_TOO_BUSY, 3004 (RFC 6733, section 7.1.3)
abbrev pub busy_body : List ℕ
busy_body =
    0 ∷ 0 ∷ 1 ∷ 7 ∷ 64 ∷ 0 ∷ 0 ∷ 14 ∷ 99 ∷ 49 ∷ 59 ∷ 49 ∷ 59 ∷ 49 ∷ 0 ∷ 0 ∷
    0 ∷ 0 ∷ 1 ∷ 8 ∷ 64 ∷ 0 ∷ 0 ∷ 18 ∷ 102 ∷ 49 ∷ 46 ∷ 101 ∷ 120 ∷ 97 ∷ 109 ∷ 112 ∷ 108 ∷ 101 ∷ 0 ∷ 0 ∷
    0 ∷ 0 ∷ 1 ∷ 40 ∷ 64 ∷ 0 ∷ 0 ∷ 19 ∷ 111 ∷ 99 ∷ 115 ∷ 46 ∷ 101 ∷ 120 ∷ 97 ∷ 109 ∷ 112 ∷ 108 ∷ 101 ∷ 0 ∷
    0 ∷ 0 ∷ 1 ∷ 12 ∷ 64 ∷ 0 ∷ 0 ∷ 12 ∷ 0 ∷ 0 ∷ 11 ∷ 188 ∷ []

abbrev pub busy_front : Message
busy_front = record { header = record answer_header { error = true }; body = busy_body }

-- nothing at so many events
abbrev pub silence : ℕ → List Traffic
silence events = replicate events []

-- nothing at so many events, and then this on the first connection
abbrev pub sent_after : ℕ → Message → List Traffic
sent_after events message = silence events ++ ((conn 1, message) ∷ []) ∷ []

-- what a run sent at each event, and how many entries its book has then
abbrev pub told_of : FrontRun → List Traffic × ℕ
told_of run = (run.sent, length run.ledger.history)

-- the same of a front with so many workers, at which so many requests may wait, over the events
abbrev pub told : ℕ → ℕ → List FrontEvent → List Traffic × ℕ
told workers queue events = told_of (run_of (short_site workers queue) empty_book events)
