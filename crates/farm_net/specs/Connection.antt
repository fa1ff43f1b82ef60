-- A connection over a reader and a writer.
use Rattle.std.specs.Prelude.{◌≡◌, ◌⊎◌, ℕ, ◌+◌, List, [], length, Bool, nat_lt, Result, Ok, Err}
use Rattle.dia_message.specs.declared.message.Message.{Message}
use Rattle.dia_message.specs.Spelling.{octets_of}
use Rattle.farm_net.specs.declared.conn.Stage.{Stage}
use Rattle.farm_net.specs.declared.conn.Stage.TheVariants.{Open, Finishing, Ended}
use Rattle.farm_net.specs.declared.loss.Loss.{Loss}
use Rattle.farm_net.specs.declared.loss.Loss.TheVariants.{Unsent, OutOfMemory}

-- both ends, the octets that were read and are no whole message yet, those that wait to be written, and where it stands
pub record Connection (R W : Type 0) : Type 0 where
  pub reader : R
  pub writer : W
  pub rest : List ℕ
  pub unsent : List ℕ
  pub stage : Stage

-- nothing was read or written
abbrev pub connection : {R W : Type 0} → R → W → Connection R W
connection reader writer = record { reader = reader; writer = writer; rest = []; unsent = []; stage = Open }

-- with the message, more octets would wait than may
abbrev pub too_much : List ℕ → Message → Bool
too_much unsent message = nat_lt 1048576 (length unsent + length (octets_of message))

-- A loss is told of an open connection, which has ended then. What has ended stays so, and nothing is told of it.
abbrev pub IsTold : Stage → Result (Unit {0}) Loss → Stage → Type 0
IsTold Open (Ok done) next = next ≡ Open
IsTold Open (Err loss) next = next ≡ Ended
IsTold Finishing (Ok done) next = (next ≡ Finishing) ⊎ (next ≡ Ended)
IsTold Finishing (Err loss) next = ⊥
IsTold Ended (Ok done) next = next ≡ Ended
IsTold Ended (Err loss) next = ⊥

-- which losses sending may tell
abbrev pub IsOfSending : Loss → Type 0
IsOfSending Unsent = Unit {0}
IsOfSending OutOfMemory = Unit {0}
IsOfSending _ = ⊥
