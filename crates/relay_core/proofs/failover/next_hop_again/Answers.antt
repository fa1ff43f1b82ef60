use Rattle.std.proofs.Common.{◌∙◌, List, ap, sym}
use Rattle.dia_avp.specs.declared.avp.RawAvp.{RawAvp}
use Rattle.relay_core.specs.NextHop.{next_hop}
use Rattle.relay_core.specs.Routing.{node_for}
use Rattle.relay_core.proofs.Walking.{avps_again}
use Rattle.relay_core.proofs.failover.next_hop_again.Goals as goal

pub returns : goal.returns
returns c =
    c.next_hop.ensures
    ∙ ap (λ (avps : List RawAvp). next_hop (node_for c.args.routing) avps c.args.request.now.header.application) (sym (avps_again c.args.request.now.body))
