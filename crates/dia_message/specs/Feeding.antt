-- What a reader of a stream answers to a piece, and what it keeps.
use Rattle.std.specs.Prelude.{◌≡◌, ℕ, List, [], ◌∷◌, ◌++◌, Option, Some, None, Result, Ok, Err}
use Rattle.std.specs.Global.{Vec}
use Rattle.dia_message.specs.declared.frames.FrameFault.{FrameFault}
use Rattle.dia_message.specs.declared.frames.FrameFault.TheVariants.{OutOfMemory}
use Rattle.dia_message.specs.declared.message.Message.{Message}
use Rattle.dia_message.specs.Stream.{Stream, stream_of}

abbrev pub fault_behind : List Message → Option FrameFault → Option FrameFault
fault_behind [] fault = fault
fault_behind (message ∷ messages) fault = None

-- the fault of octets that have no whole message before it
abbrev pub fault_alone : Stream → Option FrameFault
fault_alone stream = fault_behind stream.messages stream.fault

abbrev pub kept_behind : Option FrameFault → List ℕ → List ℕ → List ℕ
kept_behind (Some fault) rest piece = rest
kept_behind None rest piece = (stream_of (rest ++ piece)).rest

-- what is left of a rest and a piece: behind a fault the piece is not taken
abbrev pub kept_of : List ℕ → List ℕ → List ℕ
kept_of rest piece = kept_behind (stream_of rest).fault rest piece

-- The answer to a piece, by the rest before it, and the rest that is kept then: the whole messages;
-- or the fault where no message stands before it; or, where memory ran out, all as it was.
abbrev pub Feeds : List ℕ → List ℕ → Result (Vec Message) FrameFault → List ℕ → Type 0
Feeds rest piece (Ok messages) kept =
    (fault_alone (stream_of (rest ++ piece)) ≡ None) × (messages.items ≡ (stream_of (rest ++ piece)).messages)
    × (kept ≡ (stream_of (rest ++ piece)).rest)
Feeds rest piece (Err OutOfMemory) kept = kept ≡ rest
Feeds rest piece (Err fault) kept = (fault_alone (stream_of (rest ++ piece)) ≡ Some fault) × (kept ≡ kept_of rest piece)

-- the messages for these pieces, fed one after the other
abbrev pub given : List ℕ → List (List ℕ) → List Message
given rest [] = []
given rest (piece ∷ pieces) = (stream_of (rest ++ piece)).messages ++ given (kept_of rest piece) pieces

abbrev pub sole : List Message → List ℕ → Option Message
sole (message ∷ []) [] = Some message
sole messages rest = None

-- the message of octets that are one whole message and nothing else
abbrev pub only_message : List ℕ → Option Message
only_message octets = sole (stream_of octets).messages (stream_of octets).rest
