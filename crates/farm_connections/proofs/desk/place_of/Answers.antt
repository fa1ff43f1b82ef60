use Rattle.std.proofs.Common.{◌≡◌, ◌≤◌, length, get_or, arith, rules}
use Rattle.std.proofs.lemmas.List.Sorted.{IsPartitionPoint-from_clause}
use Rattle.farm_connections.proofs.Ordering.{has_none, if_none, is_below, parted, same_number}
use Rattle.farm_connections.proofs.Placing.{same_read}
use Rattle.farm_connections.proofs.desk.place_of.Goals as goal

pub returns-in_err-link-clause-none : goal.returns-in_err-link-clause-none
returns-in_err-link-clause-none g c = λ order.
    let links = c.args.links.now in let conn = c.args.conn in let place = c.partition_point-place.result in
    let point =
    IsPartitionPoint-from_clause (is_below conn) links place c.partition_point-place.ensures.partitioned (parted links conn order) (λ a r q k. search rules)
    in
    let behind : length links ≤ place = search rules in
    if_none _ _ (has_none links conn place order point (λ link within read is. omega (arith, behind, within)))

pub returns-else-link-conn-clause-none : goal.returns-else-link-conn-clause-none
returns-else-link-conn-clause-none g c = λ order.
    let links = c.args.links.now in let conn = c.args.conn in let place = c.partition_point-place.result in
    let point =
    IsPartitionPoint-from_clause (is_below conn) links place c.partition_point-place.ensures.partitioned (parted links conn order) (λ a r q k. search rules)
    in
    let there : c.in_ok-link.link.now ≡ get_or links place c.in_ok-link.link.now = search rules in
    has_none links conn place order point
    (λ link within read is.
    let same = same_read links place c.in_ok-link.link.now link within there read in
    c.if-link-conn.false (same_number link c.in_ok-link.link.now conn same is))
