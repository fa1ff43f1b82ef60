use Rattle.std.proofs.Common.{rules, sym, ◌∙◌, ◌≡◌, ◌&&◌, not, false, is_some, is_none, Ok, Err}
use Rattle.std.specs.Option.{option_copied}
use Rattle.cc_view.specs.Refusal.{refusal_with}
use Rattle.cc_view.specs.declared.code.ResultCode.TheVariants.{TooBusy}
use Rattle.relay_routes.specs.Routing.{names_node}
use Rattle.relay_hops.specs.PendingTable.{is_full}
use Rattle.relay_core.specs.Forwarding.{recorded, is_too_long}
use Rattle.relay_core.specs.NextHop.{host_in, realm_in}
use Rattle.relay_core.specs.Reading.{avps_in_octets, avps_in_part}
use Rattle.relay_core.specs.Routing.{node_for}
use Rattle.relay_core.specs.Verdict.{is_for_itself, with_no_avp}
use Rattle.relay_core.proofs.Cases.{state}
use Rattle.relay_core.proofs.Rules.{by_rules, with_room}
use Rattle.relay_core.proofs.deciding.verdict.Goals as goal

pub returns-in_err-conn : goal.returns-in_err-conn
returns-in_err-conn c =
    let avps = avps_in_octets c.args.request.now.body in
    let passed : names_node c.args.routing.node.now.name (avps_in_part (option_copied c.args.reading.records)) ≡ false = search rules in
    let second : names_node c.args.routing.node.now.name avps ≡ false = sym (c.requires.records c.args.routing.node.now.name) ∙ passed in
    let third : not c.args.request.now.header.proxiable ≡ false = search rules in
    let fourth : (is_some (host_in avps) && is_none (realm_in avps)) ≡ false = search rules in
    let fifth : is_for_itself c.args.routing.node.now.name (host_in avps) (realm_in avps) ≡ false = search rules in
    let sixth : is_too_long (recorded c.args.sender.now c.args.request.now.body) ≡ false = search rules in
    let told : (with_no_avp c.from_residual.result) ≡ with_room (is_full c.args.pending.now) c.next_hop.result = search rules in
    by_rules (state (node_for c.args.routing) c.args.pending.now) c.args.sender.now c.args.request.now avps c.next_hop.result (with_no_avp c.from_residual.result)
    second third fourth fifth sixth c.next_hop.ensures told

pub returns-then-is_full : goal.returns-then-is_full
returns-then-is_full c =
    let avps = avps_in_octets c.args.request.now.body in
    let passed : names_node c.args.routing.node.now.name (avps_in_part (option_copied c.args.reading.records)) ≡ false = search rules in
    let second : names_node c.args.routing.node.now.name avps ≡ false = sym (c.requires.records c.args.routing.node.now.name) ∙ passed in
    let third : not c.args.request.now.header.proxiable ≡ false = search rules in
    let fourth : (is_some (host_in avps) && is_none (realm_in avps)) ≡ false = search rules in
    let fifth : is_for_itself c.args.routing.node.now.name (host_in avps) (realm_in avps) ≡ false = search rules in
    let sixth : is_too_long (recorded c.args.sender.now c.args.request.now.body) ≡ false = search rules in
    let told : (Err (refusal_with TooBusy)) ≡ with_room (is_full c.args.pending.now) c.next_hop.result = search rules in
    by_rules (state (node_for c.args.routing) c.args.pending.now) c.args.sender.now c.args.request.now avps c.next_hop.result (Err (refusal_with TooBusy))
    second third fourth fifth sixth c.next_hop.ensures told

pub returns : goal.returns
returns c =
    let avps = avps_in_octets c.args.request.now.body in
    let passed : names_node c.args.routing.node.now.name (avps_in_part (option_copied c.args.reading.records)) ≡ false = search rules in
    let second : names_node c.args.routing.node.now.name avps ≡ false = sym (c.requires.records c.args.routing.node.now.name) ∙ passed in
    let third : not c.args.request.now.header.proxiable ≡ false = search rules in
    let fourth : (is_some (host_in avps) && is_none (realm_in avps)) ≡ false = search rules in
    let fifth : is_for_itself c.args.routing.node.now.name (host_in avps) (realm_in avps) ≡ false = search rules in
    let sixth : is_too_long (recorded c.args.sender.now c.args.request.now.body) ≡ false = search rules in
    let told : (Ok c.in_ok-conn.conn) ≡ with_room (is_full c.args.pending.now) c.next_hop.result = search rules in
    by_rules (state (node_for c.args.routing) c.args.pending.now) c.args.sender.now c.args.request.now avps c.next_hop.result (Ok c.in_ok-conn.conn)
    second third fourth fifth sixth c.next_hop.ensures told
