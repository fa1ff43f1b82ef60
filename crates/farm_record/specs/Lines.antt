-- The line of each event of a record.
use Rattle.std.specs.Prelude.{ℕ, List, [], ◌∷◌, ◌++◌, codes, Option, Some, None, slice_get}
use Rattle.std.specs.List.{flat_map}
use Rattle.std.specs.Fmt.{decimal}
use Rattle.hex.specs.Hex.{encode_lower}
use Rattle.dia_base.specs.declared.number.ConnId.{ConnId}
use Rattle.dia_base.specs.declared.number.NodeNo.{NodeNo}
use Rattle.dia_message.specs.declared.message.Message.{Message}
use Rattle.dia_message.specs.Spelling.{octets_of}
use Rattle.farm_record.specs.declared.event.Age.{Age}
use Rattle.farm_record.specs.declared.event.Age.TheVariants.{New, Kept}
use Rattle.farm_record.specs.declared.event.Event.{Event}
use Rattle.farm_record.specs.declared.event.Event.TheVariants.{Begin, Time, Dial, Accept, Opened, Deliver, Send, Out, Drop, Charge, Refuse, Sweep, Report, End, Lost}

-- ---- words, each behind a space

abbrev pub number_word : ℕ → List ℕ
number_word number = 32 ∷ decimal number

-- the name of a node, by the names of all
abbrev pub name_in : Option (List ℕ) → List ℕ
name_in None = []
name_in (Some name) = name

abbrev pub name_word : List (List ℕ) → NodeNo → List ℕ
name_word names node = 32 ∷ name_in (slice_get names node.0)

-- in small letters
abbrev pub message_word : Message → List ℕ
message_word message = 32 ∷ encode_lower (octets_of message)

-- the answer of a job, or `-` for none
abbrev pub answer_word : Option Message → List ℕ
answer_word None = codes " -"
answer_word (Some message) = message_word message

abbrev pub age_word : Age → List ℕ
age_word New = codes " new"
age_word Kept = codes " kept"

-- ---- the words of an event

-- an event's own word, and a number
abbrev pub numbered : List ℕ → ℕ → List ℕ
numbered word number = word ++ number_word number

-- a connection, the nodes at its ends, and what both call it
abbrev pub connection_words : List (List ℕ) → List ℕ → ConnId → NodeNo → NodeNo → ℕ → List ℕ
connection_words names word conn node peer label =
    numbered word conn.0 ++ name_word names node ++ name_word names peer ++ number_word label

-- a connection and a message on it
abbrev pub message_words : List ℕ → ConnId → Message → List ℕ
message_words word conn message = numbered word conn.0 ++ message_word message

-- a front, and a job of it
abbrev pub job_words : List (List ℕ) → List ℕ → NodeNo → ℕ → List ℕ
job_words names word front job = word ++ name_word names front ++ number_word job

-- a line that no event has, so that a beginning is found behind a line that is cut off, and the beginning
abbrev pub begin_words : List (List ℕ) → List NodeNo → ℕ → List ℕ
begin_words names nodes moment = codes " ~\nbegin" ++ flat_map (name_word names) nodes ++ codes " at" ++ number_word moment

abbrev pub words_of : List (List ℕ) → Event → List ℕ
words_of names (Begin nodes moment) = begin_words names nodes.items moment.0
words_of names (Time moment) = numbered (codes "time") moment.0
words_of names (Dial conn node peer label) = connection_words names (codes "dial") conn node peer label
words_of names (Accept conn node peer label) = connection_words names (codes "accept") conn node peer label
words_of names (Opened conn) = numbered (codes "opened") conn.0
words_of names (Deliver conn message) = message_words (codes "deliver") conn message
words_of names (Send conn message) = message_words (codes "send") conn message
words_of names (Out conn message) = message_words (codes "out") conn message
words_of names (Drop conn) = numbered (codes "drop") conn.0
words_of names (Charge front job moment place age answer) =
    job_words names (codes "charge") front job ++ number_word moment.0 ++ number_word place ++ age_word age ++ answer_word answer
words_of names (Refuse front job answer) = job_words names (codes "refuse") front job ++ answer_word answer
words_of names (Sweep moment sessions) = numbered (codes "sweep") moment.0 ++ number_word sessions
words_of names (Report line) = line.items
words_of names End = codes "end"
words_of names Lost = codes "lost"

-- with its line feed
abbrev pub line_of : List (List ℕ) → Event → List ℕ
line_of names event = words_of names event ++ 10 ∷ []
