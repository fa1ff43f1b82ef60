use Rattle.std.proofs.Common.{rules, Bool, true, false, cond, is_some, is_ok, ◌≡◌, subst, sym, List}
use Rattle.dia_base.specs.declared.number.NodeNo.{NodeNo}
use Rattle.dia_base.specs.declared.number.ConnId.{ConnId}
use Rattle.relay_peers.specs.declared.peers.Link.{Link}
use Rattle.relay_peers.specs.PeerTable.{IsOneToOne, conn_in, peer_in, with_link}
use Rattle.relay_peers.proofs.Links.{OneToOne-with_link}
use Rattle.relay_peers.proofs.peers.Peers.up.Goals as goal

-- whether there was memory for the link or not
OneToOne-pushed : (ok : Bool) (links pushed : List Link) (peer : NodeNo) (conn : ConnId) → pushed ≡ cond ok (with_link links peer conn) links → is_some (conn_in links peer) ≡ false → is_some (peer_in links conn) ≡ false
    → IsOneToOne links → IsOneToOne pushed
OneToOne-pushed true links pushed peer conn e down free one = subst (λ (l : List Link). IsOneToOne l) (sym e) (OneToOne-with_link links peer conn down free one)
OneToOne-pushed false links pushed peer conn e down free one = subst (λ (l : List Link). IsOneToOne l) (sym e) one

pub invariant_of-self : goal.invariant_of-self
invariant_of-self c = OneToOne-pushed (is_ok c.push.result) c.self.inside.links.items c.push.new.self.items c.args.peer c.args.conn c.push.ensures.items (search rules) (search rules) c.self.invariant

pub returns-clause-one : goal.returns-clause-one
returns-clause-one c = OneToOne-pushed (is_ok c.push.result) c.self.inside.links.items c.push.new.self.items c.args.peer c.args.conn c.push.ensures.items (search rules) (search rules) c.self.invariant
