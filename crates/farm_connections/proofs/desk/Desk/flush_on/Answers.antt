use Rattle.std.proofs.Common.{◌≡◌, ◌<◌, get_or, length, refl, rules, subst, sym}
use Rattle.farm_connections.specs.Sending.{AreInOrder, HasNone, writes_none, writes_on}
use Rattle.farm_connections.proofs.Placing.{there_is}
use Rattle.farm_connections.proofs.desk.Desk.flush_on.Goals as goal

pub returns-in-Some-clause-writes : goal.returns-in-Some-clause-writes
returns-in-Some-clause-writes g c =
    let links = c.args.self.now.links.items in let place = c.in-Some.place in
    let within : place < length links = search rules in
    let seen : c.deref.result.now ≡ links = search rules in
    let at = there_is links place within in
    let becomes = c.flush_here.ensures.writes at.0 at.1 in
    writes_on place at.0 becomes.next within at.1 (c.in-Some.ensures.number at.0 (subst (λ ls. at.0 ≡ get_or ls place at.0) (sym seen) at.1)) becomes.holds becomes.links_are

pub returns-in_default-clause-writes : goal.returns-in_default-clause-writes
returns-in_default-clause-writes g c =
    let links = c.args.self.now.links.items in
    let seen : c.deref.result.now ≡ links = search rules in
    writes_none (subst (λ ls. AreInOrder ls → HasNone ls c.args.conn) seen c.in_default.ensures.none) refl
