use Rattle.std.proofs.Common.{◌≤◌, length}
use Rattle.cc_view.proofs.Proxies.{KeepsProxies}
use Rattle.cc_view.proofs.answer.proxies.lacks_proxies.Given as goal

abbrev pub invariant-loop-avp : goal.invariant-loop-avp
invariant-loop-avp l = record { within : length l.rest ≤ length l.octets; keeps : KeepsProxies l.octets l.rest }

abbrev pub decreases-loop-avp : goal.decreases-loop-avp
decreases-loop-avp l = length l.rest
