-- What a process tells of what happens, and has not written yet.
use Rattle.std.specs.Prelude.{◌≡◌, ◌⊎◌, ℕ, List, [], ◌∷◌, ◌++◌, Bool, true, false, not, ◌&&◌, ◌==◌, MatchBool, find, Option, Some, None, codes, if◌then◌else◌}
use Rattle.std.specs.List.{filter, list_any}
use Rattle.dia_base.specs.declared.number.ConnId.{ConnId}
use Rattle.dia_base.specs.declared.number.Moment.{Moment}
use Rattle.dia_base.specs.declared.number.NodeNo.{NodeNo}
use Rattle.dia_message.specs.declared.message.Message.{Message}
use Rattle.farm_record.specs.declared.event.Event.{Event}
use Rattle.farm_record.specs.declared.event.Event.TheVariants.{Accept, Opened, Time}
use Rattle.farm_record.specs.declared.recorder.Labelled.{Labelled}
use Rattle.farm_record.specs.declared.recorder.Recorder.{Recorder}
use Rattle.farm_record.specs.Lines.{line_of, message_words}

-- it takes lines
abbrev pub takes : Recorder → Bool
takes recorder = recorder.is_on && not recorder.is_broken

-- the line of the moment of the turn, where nothing was told in it yet
abbrev pub turn_line : List (List ℕ) → Option Moment → List ℕ
turn_line names None = []
turn_line names (Some moment) = line_of names (Time moment)

-- only the lines may differ, the turn, and whether memory was missing
abbrev pub IsOf : Recorder → Recorder → Type 0
IsOf old new = new ≡ record old { lines = new.lines; turn = new.turn; is_broken = new.is_broken }

-- The record ends behind these lines; that it does is told where there is memory for it.
abbrev pub EndsBehind : List ℕ → List ℕ → Type 0
EndsBehind lines all = (all ≡ lines) ⊎ (all ≡ lines ++ codes "lost\n")

-- These lines were told, by a recorder that takes lines, behind the moment of the turn if that was not told yet. Or memory was missing, and the record ends: behind what was told before, behind the moment of the turn, or behind these lines.
pub record HasTold (lines : List ℕ) (old new : Recorder) : Type 0 where
  pub whole : new.is_broken ≡ false → new.lines.items ≡ old.lines.items ++ (turn_line old.names.items old.turn ++ lines)
  pub turn : new.is_broken ≡ false → new.turn ≡ None
  pub cut : new.is_broken ≡ true → EndsBehind old.lines.items new.lines.items ⊎ EndsBehind (old.lines.items ++ turn_line old.names.items old.turn) new.lines.items
      ⊎ EndsBehind (old.lines.items ++ (turn_line old.names.items old.turn ++ lines)) new.lines.items
  pub only : IsOf old new

-- These lines are told, where it takes lines.
abbrev pub Tells : List ℕ → Recorder → Recorder → Type 0
Tells lines old new = MatchBool (takes old) (HasTold lines old new) (new ≡ old)

-- the line of a message on a connection
abbrev pub passed_line : List ℕ → ConnId → Message → List ℕ
passed_line word conn message = message_words word conn message ++ 10 ∷ []

-- Messages are told, each in a line of its own, one behind the other.
pub data TellsAll (word : List ℕ) (first : Recorder) : List (ConnId × Message) → Recorder → Type 0 where
  tells_none : TellsAll word first [] first
  tells_more : (done : List (ConnId × Message)) (mid new : Recorder) (conn : ConnId) (message : Message) → TellsAll word first done mid
      → Tells (passed_line word conn message) mid new → TellsAll word first (done ++ (conn, message) ∷ []) new

-- the word of what a process sends: a client of its own accord, others for the event before
abbrev pub sent_word : Bool → List ℕ
sent_word is_client = if is_client then codes "send" else codes "out"

-- ---- connections

abbrev pub is_of : ConnId → Labelled → Bool
is_of conn known = known.conn.0 == conn.0

-- those of other numbers
abbrev pub without : ConnId → List Labelled → List Labelled
without conn conns = filter (λ known. not (is_of conn known)) conns

-- the process has opened it, and it was never made
abbrev pub is_given_up : ConnId → List Labelled → Bool
is_given_up conn conns = list_any (λ known. is_of conn known && (known.opens && not known.is_up)) conns

-- What is told where the node at the other end is known: of a connection that the process has opened, that it is made; of another
-- one, who has opened it, and what both call it.
abbrev pub up_event : ConnId → NodeNo → NodeNo → Option Labelled → Event
up_event conn node peer None = Accept conn node peer 0
up_event conn node peer (Some known) = if known.opens then Opened conn else Accept conn node peer known.label

-- as it was, but for its connections
abbrev pub with_conns : Recorder → Recorder → Recorder
with_conns old new = record old { conns = new.conns }
