-- Messages that differ in identifiers and in the flag T alone (RFC 6733, section 3).
use Rattle.std.specs.Prelude.{ℕ, Bool}
use Rattle.dia_message.specs.declared.message.Message.{Message}

-- the message with these identifiers
abbrev pub with_identifiers : ℕ → ℕ → Message → Message
with_identifiers hop end message = record message { header = record message.header { hop = hop; end = end } }

-- the message with these identifiers and this flag T
abbrev pub sent_again : ℕ → ℕ → Bool → Message → Message
sent_again hop end resent message = record message { header = record message.header { hop = hop; end = end; resent = resent } }
