use Rattle.std.proofs.Common.{take}
use Rattle.farm_record.specs.Recording.{TellsAll, sent_word}
use Rattle.farm_record.proofs.recorder.Recorder.sent.Given as goal

abbrev pub invariant-loop-conn : goal.invariant-loop-conn
invariant-loop-conn l = TellsAll (sent_word l.fn.self.is_client) l.fn.self (take l.conn-index l.messages) l.self
