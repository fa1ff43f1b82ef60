-- How many octets go out at one event.
use Rattle.std.specs.Prelude.{◌≡◌, ◌≤◌, ◌+◌, ◌*◌, ℕ, ◌++◌, All, length, Option, Some, None, Result, Ok, Err}
use Rattle.std.specs.List.{sum_by}
use Rattle.dia_base.specs.declared.number.ConnId.{ConnId}
use Rattle.dia_message.specs.declared.message.Message.{Message}
use Rattle.dia_message.specs.Traffic.{Traffic}
use Rattle.farm_node.specs.declared.error.NodeError.{NodeError}

-- the octets of a message with its header (RFC 6733, section 3)
abbrev pub message_length : Message → ℕ
message_length m = 20 + length m.body

abbrev pub item_length : ConnId × Message → ℕ
item_length item = message_length item.1

-- the octets of all these messages
abbrev pub octets_in : Traffic → ℕ
octets_in sent = sum_by item_length sent

-- none of these messages is longer
abbrev pub AreAtMost : ℕ → Traffic → Type 0
AreAtMost most sent = All (λ item. item_length item ≤ most) sent

-- This is no more than so many fronts give at one event: each of them fewer than 262144 octets, and one message more.
abbrev pub IsFew : ℕ → Traffic → Type 0
IsFew fronts sent = (most : ℕ) → AreAtMost most sent → octets_in sent ≤ fronts * (262143 + most)

-- what was put behind other messages is no more than so many fronts give
pub record AddsFew (fronts : ℕ) (before after : Traffic) : Type 0 where
  pub more : Traffic
  pub is : after ≡ before ++ more
  pub few : IsFew fronts more

-- so many octets were put behind other messages
pub record AddsOctets (octets : ℕ) (before after : Traffic) : Type 0 where
  pub more : Traffic
  pub is : after ≡ before ++ more
  pub counts : octets_in more ≡ octets

-- A job more was looked for: what is put behind other messages is one message at most, of so many octets. Where there was
-- none, or a fault is told, it is none.
abbrev pub AddsOne : Result (Option ℕ) NodeError → Traffic → Traffic → Type 0
AddsOne (Ok (Some octets)) before after = (more : Traffic) × (after ≡ before ++ more) × (octets_in more ≡ octets) × (length more ≤ 1)
AddsOne (Ok None) before after = after ≡ before
AddsOne (Err error) before after = after ≡ before
