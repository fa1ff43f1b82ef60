-- What a process of a site tells, and what its record is read as.
use Rattle.std.specs.Prelude.{◌≡◌, ◌<◌, ◌^◌, ℕ, List, [], ◌∷◌, length, map, not, ◌==◌, true, false, Option, Some, None, Result, Ok, Err}
use Rattle.std.specs.List.{AllByRecursion, list_all, slice_split}
use Rattle.dia_avp.specs.AvpList.{AreOctets}
use Rattle.dia_base.specs.declared.number.ConnId.{ConnId}
use Rattle.dia_base.specs.declared.number.NodeNo.{NodeNo}
use Rattle.dia_message.specs.declared.message.Message.{Message}
use Rattle.dia_message.specs.Spelling.{HasSpelling}
use Rattle.farm_base.specs.declared.site.Site.{Site}
use Rattle.farm_record.specs.declared.event.Event.{Event}
use Rattle.farm_record.specs.declared.event.Event.TheVariants.{Begin, Time, Dial, Accept, Opened, Deliver, Send, Out, Drop, Charge, Refuse, Sweep, Report, End, Lost}
use Rattle.farm_script.specs.declared.fault.LineFault.{LineFault}
use Rattle.farm_script.specs.Words.{words_of, ◌>>=◌}
use Rattle.record_reader.specs.Reading.{Said, Nothing, Begins, Reports, Tells, is_comment, is_of_report, is_unfinished, said_by, word_at}

-- the names of all nodes
abbrev pub names_of : Site → List (List ℕ)
names_of site = map (λ node. node.name) site.nodes

-- ---- what a process tells

-- the number of a node of the site
abbrev pub IsKnown : Site → NodeNo → Type 0
IsKnown site node = node.0 < length site.nodes

-- a message that has octets, by which it is known again
pub record IsSound (message : Message) : Type 0 where
  pub spelling : HasSpelling message
  pub octets : AreOctets message.body

-- the answer of a job, or none
abbrev pub IsAnswer : Option Message → Type 0
IsAnswer None = Unit {0}
IsAnswer (Some message) = IsSound message

-- a number of 64 bits
abbrev pub Has64Bits : ℕ → Type 0
Has64Bits number = number < 2 ^ 64

-- a connection between two nodes of the site, by a number and a label of 64 bits
pub record IsConnection (site : Site) (conn : ConnId) (a b : NodeNo) (port : ℕ) : Type 0 where
  pub number : Has64Bits conn.0
  pub node : IsKnown site a
  pub peer : IsKnown site b
  pub label : Has64Bits port

pub record IsMessage (conn : ConnId) (message : Message) : Type 0 where
  pub number : Has64Bits conn.0
  pub sound : IsSound message

-- a line of the book's report
pub record IsReport (line : List ℕ) : Type 0 where
  pub verb : is_of_report (word_at (words_of line) 0) ≡ true
  pub whole : is_unfinished (words_of line) ≡ false
  pub no_comment : is_comment line ≡ false
  pub one_line : list_all (λ octet. not (octet == 10)) line ≡ true

pub record IsCharge (site : Site) (node : NodeNo) (number time at : ℕ) (sent : Option Message) : Type 0 where
  pub front : IsKnown site node
  pub job : Has64Bits number
  pub moment : Has64Bits time
  pub place : Has64Bits at
  pub answer : IsAnswer sent

pub record IsRefusal (site : Site) (node : NodeNo) (number : ℕ) (sent : Option Message) : Type 0 where
  pub front : IsKnown site node
  pub job : Has64Bits number
  pub answer : IsAnswer sent

-- one node or more
pub record IsBeginning (site : Site) (begun : List NodeNo) (time : ℕ) : Type 0 where
  pub some : 0 < length begun
  pub nodes : AllByRecursion (IsKnown site) begun
  pub moment : Has64Bits time

-- An event of a process of the site: its nodes are the site's, its numbers have 64 bits, its messages have octets.
abbrev pub CanTell : Site → Event → Type 0
CanTell site (Begin nodes moment) = IsBeginning site nodes.items moment.0
CanTell site (Time moment) = Has64Bits moment.0
CanTell site (Dial conn node peer label) = IsConnection site conn node peer label
CanTell site (Accept conn node peer label) = IsConnection site conn node peer label
CanTell site (Opened conn) = Has64Bits conn.0
CanTell site (Deliver conn message) = IsMessage conn message
CanTell site (Send conn message) = IsMessage conn message
CanTell site (Out conn message) = IsMessage conn message
CanTell site (Drop conn) = Has64Bits conn.0
CanTell site (Charge front job moment place age answer) = IsCharge site front job moment.0 place answer
CanTell site (Refuse front job answer) = IsRefusal site front job answer
CanTell site (Sweep moment sessions) = Has64Bits moment.0 × Has64Bits sessions
CanTell site (Report line) = IsReport line.items
CanTell site End = Unit {0}
CanTell site Lost = Unit {0}

-- ---- what a record says

abbrev pub but_last : List (List ℕ) → List (List ℕ)
but_last [] = []
but_last (part ∷ []) = []
but_last (part ∷ next ∷ parts) = part ∷ but_last (next ∷ parts)

-- the lines that end with a line feed, without it
abbrev pub whole_lines : List ℕ → List (List ℕ)
whole_lines octets = but_last (slice_split (λ octet. octet == 10) octets)

-- what a line says, in front of what others say
abbrev pub and_said : Said → List Said → List Said
and_said Nothing more = more
and_said (Begins nodes moment) more = Begins nodes moment ∷ more
and_said (Reports line) more = Reports line ∷ more
and_said (Tells event) more = Tells event ∷ more

-- the same in front of what a reading of others gave, or its fault
abbrev pub followed : Said → Result (List Said) LineFault → Result (List Said) LineFault
followed said (Ok more) = Ok (and_said said more)
followed said (Err fault) = Err fault

-- what lines say, one after the other, or the first fault
abbrev pub said_by_lines : Site → List (List ℕ) → Result (List Said) LineFault
said_by_lines site [] = Ok []
said_by_lines site (line ∷ lines) = do
  said ← said_by site line
  more ← said_by_lines site lines
  Ok (and_said said more)

-- what the octets of a record say, up to its last line feed
abbrev pub said_in_record : Site → List ℕ → Result (List Said) LineFault
said_in_record site octets = said_by_lines site (whole_lines octets)
