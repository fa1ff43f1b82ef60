-- What is recorded of what a node is told and of what it sends for that.
use Rattle.std.specs.Prelude.{◌≡◌, ◌++◌, ℕ, List, true, false, Result, Ok, Err, OnErr, OnOk, codes, find, length, take}
use Rattle.dia_base.specs.declared.number.ConnId.{ConnId}
use Rattle.dia_message.specs.declared.message.Message.{Message}
use Rattle.dia_message.specs.Traffic.{Traffic}
use Rattle.farm_node.specs.Events.{NodeEvent, up, message, leaving, lost, tick, wake}
use Rattle.farm_node.specs.declared.error.NodeError.{NodeError}
use Rattle.farm_record.specs.Lines.{line_of}
use Rattle.farm_record.specs.Recording.{Tells, TellsAll, is_of, passed_line, sent_word, takes, turn_line, up_event, with_conns}
use Rattle.farm_record.specs.declared.event.Event.TheVariants.{Drop}
use Rattle.farm_record.specs.declared.recorder.Recorder.{Recorder}

-- ---- a message

-- A message came: its line is told, and where that begins is kept.
pub record RecordsCome (conn : ConnId) (m : Message) (old new : Recorder) : Type 0 where
  pub told : Tells (passed_line (codes "deliver") conn m) (record old { came_at = new.came_at }) new
  pub begins : takes old ≡ true → new.is_broken ≡ false → new.came_at ≡ length (old.lines.items ++ turn_line old.names.items old.turn)

-- The line of the message that came last is taken back.
pub record IsTakenBack (old new : Recorder) : Type 0 where
  pub lines : takes old ≡ true → new.lines.items ≡ take old.came_at old.lines.items
  pub off : takes old ≡ false → new ≡ old
  pub only : new ≡ record old { lines = new.lines }

-- It stays where the node did what it was told.
abbrev pub StaysTold : Result (Unit {0}) NodeError → Recorder → Recorder → Type 0
StaysTold (Ok done) old new = new ≡ old
StaysTold (Err error) old new = IsTakenBack old new

-- The node was told of the message that came last: nothing is told of one that it did not take, and then all that it sends is.
pub record RecordsReaction (outcome : Result (Unit {0}) NodeError) (sent : Traffic) (old new : Recorder) : Type 0 where
  pub mid : Recorder
  pub stays : StaysTold outcome old mid
  pub sends : TellsAll (sent_word mid.is_client) mid sent new

-- A message came, and then the node was told of it: its line stays where the node took it.
pub record RecordsMessage (conn : ConnId) (m : Message) (outcome : Result (Unit {0}) NodeError) (old new : Recorder) : Type 0 where
  pub mid : Recorder
  pub comes : RecordsCome conn m old mid
  pub stays : StaysTold outcome mid new

-- ---- any event

-- This line is told where the node did what it was told, and else nothing is. Its connections may be others then.
abbrev pub RecordsDone : Result (Unit {0}) NodeError → List ℕ → Recorder → Recorder → Type 0
RecordsDone outcome line old new = OnOk outcome (Tells line (with_conns old new) new) × OnErr outcome (new ≡ old)

-- The node was told this, and did it or refused it: what is told of the event itself. Of a goodbye, of time and of a wake nothing is.
abbrev pub RecordsTold : NodeEvent → Result (Unit {0}) NodeError → Recorder → Recorder → Type 0
RecordsTold (up local peer conn) outcome old new = RecordsDone outcome (line_of old.names.items (up_event conn local peer (find (is_of conn) old.conns.items))) old new
RecordsTold (message conn m) outcome old new = RecordsMessage conn m outcome old new
RecordsTold (leaving conn) outcome old new = new ≡ old
RecordsTold (lost conn) outcome old new = RecordsDone outcome (line_of old.names.items (Drop conn)) old new
RecordsTold (tick moment) outcome old new = new ≡ old
RecordsTold wake outcome old new = new ≡ old

-- The event is told, and then each message that is sent for it; nothing else is.
pub record Records (event : NodeEvent) (outcome : Result (Unit {0}) NodeError) (sent : Traffic) (old new : Recorder) : Type 0 where
  pub mid : Recorder
  pub told : RecordsTold event outcome old mid
  pub sends : TellsAll (sent_word mid.is_client) mid sent new
