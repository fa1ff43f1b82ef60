-- One turn of a connection: the messages of what was read of a stream (RFC 6733, section 3), and the octets that were written.
use Rattle.std.specs.Prelude.{◌≡◌, ℕ, List, ◌++◌, Option, Result, Err}
use Rattle.std.specs.Io.KnownBytes.{Appends, Consumes}
use Rattle.dia_message.specs.declared.message.Message.{Message}
use Rattle.dia_message.specs.Stream.{stream_of}
use Rattle.farm_net.specs.declared.loss.Loss.{Loss}
use Rattle.farm_net.specs.declared.loss.Loss.TheVariants.{Read, End, Frame, Write, Unsent, OutOfMemory}

-- ---- reading

-- Octets were read behind an unread rest, and these are the messages of both, and the rest then.
pub record HasRead (before after : Option (List ℕ)) (rest : List ℕ) (messages : List Message) (left : List ℕ) : Type 0 where
  pub taken : List ℕ
  pub read : Consumes before after taken
  pub whole : messages ≡ (stream_of (rest ++ taken)).messages
  pub behind : left ≡ (stream_of (rest ++ taken)).rest

-- The same where memory ran out at the octets that were read last: they are lost, with the connection.
pub record HasReadMore (before after : Option (List ℕ)) (rest : List ℕ) (messages : List Message) : Type 0 where
  pub taken : List ℕ
  pub untaken : List ℕ
  pub read : Consumes before after (taken ++ untaken)
  pub whole : messages ≡ (stream_of (rest ++ taken)).messages

-- what a turn hands on, whether the connection is lost with it or not
abbrev pub Receives : Option (List ℕ) → Option (List ℕ) → List ℕ → List Message → List ℕ → Result (Unit {0}) Loss → Type 0
Receives before after rest messages left (Err OutOfMemory) = HasReadMore before after rest messages
Receives before after rest messages left _ = HasRead before after rest messages left

-- ---- writing

-- A beginning of what was unsent was written, and the other octets are unsent still.
pub record HasWritten (before after : Option (List ℕ)) (unsent left : List ℕ) : Type 0 where
  pub written : List ℕ
  pub all : unsent ≡ written ++ left
  pub appends : Appends before after written

-- ---- which losses a part of a turn may tell

abbrev pub IsOfReader : Loss → Type 0
IsOfReader Read = Unit {0}
IsOfReader End = Unit {0}
IsOfReader _ = ⊥

abbrev pub IsOfPiece : Loss → Type 0
IsOfPiece (Frame fault) = Unit {0}
IsOfPiece OutOfMemory = Unit {0}
IsOfPiece _ = ⊥

abbrev pub IsOfStream : Loss → Type 0
IsOfStream Write = ⊥
IsOfStream Unsent = ⊥
IsOfStream _ = Unit {0}

abbrev pub IsOfWriter : Loss → Type 0
IsOfWriter Write = Unit {0}
IsOfWriter _ = ⊥
