use Rattle.std.proofs.Common.{◌≡◌, rules, subst, sym, List}
use Rattle.relay_peers.specs.declared.peers.Link.{Link}
use Rattle.relay_peers.specs.PeerTable.{IsOneToOne, with_staying}
use Rattle.relay_peers.proofs.Links.{OneToOne-staying}
use Rattle.relay_peers.proofs.staying.Staying.with.Goals as goal

pub invariant_of-result : goal.invariant_of-result
invariant_of-result c =
    let is : c.push.new.self.items ≡ with_staying c.self.inside.links.items c.args.peer c.args.conn = search rules in
    subst (λ (links : List Link). IsOneToOne links) (sym is) (OneToOne-staying c.self.inside.links.items c.args.peer c.args.conn c.self.invariant)
