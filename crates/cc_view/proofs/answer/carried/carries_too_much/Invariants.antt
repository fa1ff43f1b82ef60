use Rattle.std.proofs.Common.{◌≡◌, ◌+◌, take}
use Rattle.cc_view.specs.Answer.Carried.{carried_len}
use Rattle.cc_view.proofs.answer.carried.carries_too_much.Given as goal

abbrev pub invariant-loop-avp : goal.invariant-loop-avp
invariant-loop-avp l = l.room + carried_len (take l.avp-index l.avps) ≡ 49152
