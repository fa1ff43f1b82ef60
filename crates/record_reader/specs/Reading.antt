-- What a line of a record says.
use Rattle.std.specs.Prelude.{◌≡◌, ℕ, ◌-◌, List, [], ◌∷◌, ◌++◌, length, take, codes, not, nat_lt, slice_index_or, Bool, false, ◌||◌, ◌==◌, if◌then◌else◌, Option, Some, None, Result, Ok, Err}
use Rattle.std.specs.Str.{bytes_eq}
use Rattle.dia_base.specs.declared.number.Moment.{Moment}
use Rattle.dia_base.specs.declared.number.NodeNo.{NodeNo}
use Rattle.dia_message.specs.declared.message.Message.{Message}
use Rattle.farm_base.specs.declared.site.Site.{Site}
use Rattle.farm_record.specs.declared.event.Age.{Age}
use Rattle.farm_record.specs.declared.event.Age.TheVariants.{New, Kept}
use Rattle.farm_record.specs.declared.event.Event.{Event}
use Rattle.farm_record.specs.declared.event.Event.TheVariants.{Begin, Time, Dial, Accept, Opened, Deliver, Send, Out, Drop, Charge, Refuse, Sweep, Report, End, Lost}
use Rattle.farm_script.specs.declared.fault.LineFault.{LineFault}
use Rattle.farm_script.specs.declared.fault.LineFault.TheVariants.{UnknownWord, WrongCount, OutOfMemory}
use Rattle.farm_script.specs.Words.{words_of, node_of, number_of, message_of, ◌>>=◌}

-- That a process of these nodes begins, a line of the book's report, or another event. An empty line, a comment and a line that was not finished say nothing.
pub data Said : Type 0 where
  Nothing : Said
  Begins : (nodes : List NodeNo) (moment : Moment) → Said
  Reports : (line : List ℕ) → Said
  Tells : (event : Event) → Said

-- what an event says, wherever its lists lie in memory: of two events of one line nothing else differs
abbrev pub said_of : Event → Said
said_of (Begin nodes moment) = Begins nodes.items moment
said_of (Report line) = Reports line.items
said_of event = Tells event

-- ---- the words behind the first, by the kind of line

-- the one number of a line
abbrev pub number_said : List (List ℕ) → Result ℕ LineFault
number_said (number ∷ []) = number_of number
number_said words = Err WrongCount

abbrev pub time_of : List (List ℕ) → Result Event LineFault
time_of words = do
  moment ← number_said words
  Ok (Time (record { 0 = moment }))

abbrev pub opened_of : List (List ℕ) → Result Event LineFault
opened_of words = do
  number ← number_said words
  Ok (Opened (record { 0 = number }))

abbrev pub drop_of : List (List ℕ) → Result Event LineFault
drop_of words = do
  number ← number_said words
  Ok (Drop (record { 0 = number }))

-- a connection, and a message on it
abbrev pub deliver_of : List (List ℕ) → Result Event LineFault
deliver_of (conn ∷ message ∷ []) = do
  number ← number_of conn
  passed ← message_of message
  Ok (Deliver (record { 0 = number }) passed)
deliver_of words = Err WrongCount

abbrev pub send_of : List (List ℕ) → Result Event LineFault
send_of (conn ∷ message ∷ []) = do
  number ← number_of conn
  passed ← message_of message
  Ok (Send (record { 0 = number }) passed)
send_of words = Err WrongCount

abbrev pub out_of : List (List ℕ) → Result Event LineFault
out_of (conn ∷ message ∷ []) = do
  number ← number_of conn
  passed ← message_of message
  Ok (Out (record { 0 = number }) passed)
out_of words = Err WrongCount

-- a connection, the nodes at its ends, and its label: names are read before numbers
abbrev pub dial_of : Site → List (List ℕ) → Result Event LineFault
dial_of site (conn ∷ node ∷ peer ∷ label ∷ []) = do
  here ← node_of site node
  there ← node_of site peer
  number ← number_of conn
  port ← number_of label
  Ok (Dial (record { 0 = number }) here there port)
dial_of site words = Err WrongCount

abbrev pub accept_of : Site → List (List ℕ) → Result Event LineFault
accept_of site (conn ∷ node ∷ peer ∷ label ∷ []) = do
  here ← node_of site node
  there ← node_of site peer
  number ← number_of conn
  port ← number_of label
  Ok (Accept (record { 0 = number }) here there port)
accept_of site words = Err WrongCount

abbrev pub age_of : List ℕ → Result Age LineFault
age_of word =
    if bytes_eq word (codes "new") then Ok New
    else if bytes_eq word (codes "kept") then Ok Kept else Err UnknownWord

-- an answer, or none for `-`
abbrev pub answer_of : List ℕ → Result (Option Message) LineFault
answer_of word = if bytes_eq word (codes "-") then Ok None else (do
  answer ← message_of word
  Ok (Some answer))

abbrev pub charge_of : Site → List (List ℕ) → Result Event LineFault
charge_of site (front ∷ job ∷ moment ∷ place ∷ age ∷ answer ∷ []) = do
  node ← node_of site front
  number ← number_of job
  time ← number_of moment
  at ← number_of place
  told ← age_of age
  sent ← answer_of answer
  Ok (Charge node number (record { 0 = time }) at told sent)
charge_of site words = Err WrongCount

abbrev pub refuse_of : Site → List (List ℕ) → Result Event LineFault
refuse_of site (front ∷ job ∷ answer ∷ []) = do
  node ← node_of site front
  number ← number_of job
  sent ← answer_of answer
  Ok (Refuse node number sent)
refuse_of site words = Err WrongCount

abbrev pub sweep_of : List (List ℕ) → Result Event LineFault
sweep_of (moment ∷ sessions ∷ []) = do
  time ← number_of moment
  count ← number_of sessions
  Ok (Sweep (record { 0 = time }) count)
sweep_of words = Err WrongCount

-- an event whose line has no other word
abbrev pub alone : Event → List (List ℕ) → Result Event LineFault
alone event [] = Ok event
alone event words = Err WrongCount

-- by the first word
abbrev pub told_of : Site → List ℕ → List (List ℕ) → Result Event LineFault
told_of site verb words =
    if bytes_eq verb (codes "time") then time_of words
    else if bytes_eq verb (codes "dial") then dial_of site words
    else if bytes_eq verb (codes "accept") then accept_of site words
    else if bytes_eq verb (codes "opened") then opened_of words
    else if bytes_eq verb (codes "deliver") then deliver_of words
    else if bytes_eq verb (codes "send") then send_of words
    else if bytes_eq verb (codes "out") then out_of words
    else if bytes_eq verb (codes "drop") then drop_of words
    else if bytes_eq verb (codes "charge") then charge_of site words
    else if bytes_eq verb (codes "refuse") then refuse_of site words
    else if bytes_eq verb (codes "sweep") then sweep_of words
    else if bytes_eq verb (codes "end") then alone End words
    else if bytes_eq verb (codes "lost") then alone Lost words
    else Err UnknownWord

-- the nodes with these names, behind others
abbrev pub nodes_from : List NodeNo → Site → List (List ℕ) → Result (List NodeNo) LineFault
nodes_from before site [] = Ok before
nodes_from before site (name ∷ names) = do
  node ← node_of site name
  nodes_from (before ++ node ∷ []) site names

abbrev pub word_at : List (List ℕ) → ℕ → List ℕ
word_at words place = slice_index_or words place []

-- a process of the nodes with these names begins
abbrev pub beginning : Site → List (List ℕ) → List ℕ → Result Said LineFault
beginning site names moment = do
  nodes ← nodes_from [] site names
  time ← number_of moment
  Ok (Begins nodes (record { 0 = time }))

-- one name or more, `at`, and a moment
abbrev pub begin_of : Site → List (List ℕ) → Result Said LineFault
begin_of site words =
    if nat_lt (length words) 3 || not (bytes_eq (word_at words (length words - 2)) (codes "at")) then Err WrongCount
    else beginning site (take (length words - 2) words) (word_at words (length words - 1))

-- ---- a line

-- the last word says that the line was not finished
abbrev pub is_unfinished : List (List ℕ) → Bool
is_unfinished words = bytes_eq (word_at words (length words - 1)) (codes "~")

-- it begins with `#`
abbrev pub is_comment : List ℕ → Bool
is_comment [] = false
is_comment (octet ∷ octets) = octet == 35

-- the first word of a line of the book's report
abbrev pub is_of_report : List ℕ → Bool
is_of_report verb = bytes_eq verb (codes "entries") || bytes_eq verb (codes "account")

abbrev pub telling : Result Event LineFault → Result Said LineFault
telling told = do
  event ← told
  Ok (said_of event)

-- the line of these words, the first of which is the verb
abbrev pub said_in : Site → List ℕ → List (List ℕ) → Result Said LineFault
said_in site line [] = Ok Nothing
said_in site line (verb ∷ words) =
    if is_unfinished (verb ∷ words) || is_comment line then Ok Nothing
    else if bytes_eq verb (codes "begin") then begin_of site words
    else if is_of_report verb then Ok (Reports line)
    else telling (told_of site verb words)

-- what a line says, or its first fault
abbrev pub said_by : Site → List ℕ → Result Said LineFault
said_by site line = said_in site line (words_of line)

-- ---- what is answered

abbrev pub said_of_line : Option Event → Said
said_of_line None = Nothing
said_of_line (Some event) = said_of event

-- a call answered with this reading, unless memory ran out
abbrev pub AnswersEvent : Result Said LineFault → Result Event LineFault → Type 0
AnswersEvent reading (Ok event) = reading ≡ Ok (said_of event)
AnswersEvent reading (Err OutOfMemory) = Unit {0}
AnswersEvent reading (Err fault) = reading ≡ Err fault

abbrev pub AnswersLine : Result Said LineFault → Result (Option Event) LineFault → Type 0
AnswersLine reading (Ok event) = reading ≡ Ok (said_of_line event)
AnswersLine reading (Err OutOfMemory) = Unit {0}
AnswersLine reading (Err fault) = reading ≡ Err fault
