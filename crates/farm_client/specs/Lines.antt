-- Messages as lines of hexadecimal digits.
use Rattle.std.specs.Prelude.{◌≡◌, ◌==◌, ◌-◌, ℕ, List, [], ◌∷◌, ◌++◌, Bool, Option, Some, None, map, length, take, is_none, slice_index, if◌then◌else◌, Result, Ok, Err}
use Rattle.std.specs.List.{position_from, slice_split}
use Rattle.std.specs.Str.Lines.{strip_carriage_return}
use Rattle.hex.specs.Hex.{decode_of, encode_lower}
use Rattle.hex.specs.declared.error.FromHexError.{FromHexError}
use Rattle.dia_message.specs.Feeding.{only_message}
use Rattle.dia_message.specs.Spelling.{octets_of}
use Rattle.dia_message.specs.declared.message.Message.{Message}
use Rattle.farm_client.specs.declared.messages.LinesFault.{LinesFault}
use Rattle.farm_client.specs.declared.messages.LinesFault.TheVariants.{NoMessage, OutOfMemory}

-- a message as a line: the digits of its octets, and a line feed
abbrev pub line_of : Message → List ℕ
line_of message = encode_lower (octets_of message) ++ 10 ∷ []

abbrev pub message_by : Result (List ℕ) FromHexError → Option Message
message_by (Ok octets) = only_message octets
message_by (Err error) = None

-- the message of a line: the one that its digits spell, and nothing else. A carriage return at its end is none of them
abbrev pub message_on : List ℕ → Option Message
message_on line = message_by (decode_of (strip_carriage_return line))

-- a text without the line feed at its end
abbrev pub unended : List ℕ → List ℕ
unended text = if slice_index text (length text - 1) == 10 then take (length text - 1) text else text

-- the lines of a text, without their line feeds; an empty text has none, nor has a line feed alone
abbrev pub lines_in : List ℕ → List (List ℕ)
lines_in text = if length (unended text) == 0 then [] else slice_split (λ octet. octet == 10) (unended text)

-- these are the messages of its lines, one of each, in their order
abbrev pub AreMessagesOf : List ℕ → List Message → Type 0
AreMessagesOf text messages = map message_on (lines_in text) ≡ map Some messages

abbrev pub has_none : List ℕ → Bool
has_none line = is_none (message_on line)

-- the first line without a message, counted from 1; or memory ran out
abbrev pub IsWhyNone : List ℕ → LinesFault → Type 0
IsWhyNone text (NoMessage line) = position_from has_none 1 (lines_in text) ≡ Some line
IsWhyNone text OutOfMemory = Unit {0}
