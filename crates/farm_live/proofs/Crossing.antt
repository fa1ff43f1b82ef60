-- What a book is stored in may go to another thread behind a pointer too.
use denote.RattleType.{RattleType}
use denote.Param.Send.{IsSend, sendable}
use Rattle.std.proofs.Crossing.{crosses}
use Rattle.farm_live.specs.contracts.boxed.Boxed as Boxed

pub boxed_send : (S : RattleType) → IsSend S → IsSend (Boxed.the_row S)
boxed_send S s = search (sendable, crosses) depth 40
