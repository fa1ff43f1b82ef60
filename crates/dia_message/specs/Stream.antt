-- The messages of a stream of octets (RFC 6733, section 3).
use Rattle.std.specs.Prelude.{◌≡◌, ℕ, zero, suc, ◌%◌, List, [], ◌∷◌, ◌++◌, length, take, drop, Bool, true, false, not, ◌&&◌, ◌||◌, ◌==◌, nat_lt, nat_le, is_none, if◌then◌else◌, Option, Some, None}
use Rattle.dia_base.specs.Limits.{message_limit}
use Rattle.dia_message.specs.declared.frames.FrameFault.{FrameFault}
use Rattle.dia_message.specs.declared.frames.FrameFault.TheVariants.{Version, Length, TooLong}
use Rattle.dia_message.specs.declared.message.Message.{Message}
use Rattle.dia_message.specs.Header.{version_in, length_in, header_in}
use Rattle.dia_message.specs.Spelling.{Spells}

-- the whole messages at the front, what is left behind them, and what is wrong there
pub record Stream : Type 0 where
  pub messages : List Message
  pub rest : List ℕ
  pub fault : Option FrameFault

-- Why no message can begin with these octets, where they show it: the version with one octet, the
-- length with four.
abbrev pub fault_at : List ℕ → Option FrameFault
fault_at octets =
    if nat_lt (length octets) 1 then None
    else if not (version_in octets == 1) then Some Version
    else if nat_lt (length octets) 4 then None
    else if nat_lt (length_in octets) 20 || not (length_in octets % 4 == 0) then Some Length
    else if nat_lt message_limit (length_in octets) then Some TooLong else None

-- ---- what the messages of a stream are

-- the octets are spellings of these messages, one behind the other, and then the rest
abbrev pub Begins : List ℕ → List Message → List ℕ → Type 0
Begins octets [] rest = octets ≡ rest
Begins octets (message ∷ messages) rest =
    (first : List ℕ) × (behind : List ℕ) × (octets ≡ first ++ behind) × Spells first message × Begins behind messages rest

-- the octets begin with a whole message
abbrev pub HoldsMessage : List ℕ → Type 0
HoldsMessage octets = (first : List ℕ) × (behind : List ℕ) × (message : Message) × (octets ≡ first ++ behind) × Spells first message

-- All octets are accounted for: spellings of the messages, and a rest that holds no whole message.
pub record IsStream (octets : List ℕ) (stream : Stream) : Type 0 where
  pub spelled : Begins octets stream.messages stream.rest
  pub no_more : ¬ HoldsMessage stream.rest
  pub why : stream.fault ≡ fault_at stream.rest

-- ---- the one stream of octets

-- whether the octets begin with a whole message
abbrev pub is_whole : List ℕ → Bool
is_whole octets = nat_le 4 (length octets) && is_none (fault_at octets) && nat_le (length_in octets) (length octets)

-- the message of octets that are one whole message
abbrev pub message_in : List ℕ → Message
message_in octets = record { header = header_in octets; body = drop 20 octets }

-- octets that hold no whole message
abbrev pub unread : List ℕ → Stream
unread octets = record { messages = []; rest = octets; fault = fault_at octets }

-- more messages in front of a stream
abbrev pub behind_messages : List Message → Stream → Stream
behind_messages messages stream = record stream { messages = messages ++ stream.messages }

-- the whole message at the front, if there is one, and then more
abbrev pub first_then : Bool → List ℕ → (List ℕ → Stream) → Stream
first_then true octets more = behind_messages (message_in (take (length_in octets) octets) ∷ []) (more (drop (length_in octets) octets))
first_then false octets more = unread octets

-- with at most so many messages
unfoldable pub stream_from : ℕ → List ℕ → Stream
stream_from zero octets = unread octets
stream_from (suc n) octets = first_then (is_whole octets) octets (stream_from n)

unfoldable pub stream_of : List ℕ → Stream
stream_of octets = stream_from (length octets) octets
