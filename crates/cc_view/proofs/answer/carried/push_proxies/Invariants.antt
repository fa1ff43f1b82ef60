use Rattle.std.proofs.Common.{◌≡◌, ◌++◌, take}
use Rattle.cc_view.specs.Answer.Carried.{proxies_in}
use Rattle.cc_view.specs.Answer.Writing.{spelling_of}
use Rattle.cc_view.proofs.answer.carried.push_proxies.Given as goal

abbrev pub invariant-loop-avp : goal.invariant-loop-avp
invariant-loop-avp l = l.draft ≡ l.initial.draft ++ spelling_of (proxies_in (take l.avp-index l.avps))
