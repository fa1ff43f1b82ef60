use Rattle.std.proofs.Common.{◌≡◌, rules, not, subst, sym, List}
use Rattle.std.proofs.lemmas.Fn.{filter_same}
use Rattle.relay_peers.specs.declared.peers.Link.{Link}
use Rattle.relay_peers.specs.PeerTable.{IsOneToOne, is_on, without_conn}
use Rattle.relay_peers.proofs.Links.{OneToOne-without}
use Rattle.relay_peers.proofs.staying.Staying.leave.Goals as goal

-- what is left has another connection
left : (c : goal.After-retain) → c.retain.new.self.items ≡ without_conn c.self.inside.links.items c.args.conn
left c = filter_same _ (λ link. not (is_on c.args.conn link)) _ (λ link b f k. search rules) _ _ c.retain.ensures.filtered

pub returns : goal.returns
returns c = let e = left c in search rules

pub invariant_of-self : goal.invariant_of-self
invariant_of-self c = subst (λ (links : List Link). IsOneToOne links) (sym (left c)) (OneToOne-without c.self.inside.links.items c.args.conn c.self.invariant)
