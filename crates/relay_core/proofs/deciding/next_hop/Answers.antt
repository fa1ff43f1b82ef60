use Rattle.std.proofs.Common.{rules, ◌≡◌, ◌∙◌, ap, Option, Some, None, Result, Err, List, ℕ}
use Rattle.std.specs.Option.{option_copied}
use Rattle.dia_base.specs.declared.number.ConnId.{ConnId}
use Rattle.cc_view.specs.declared.code.ResultCode.{ResultCode}
use Rattle.cc_view.specs.declared.code.ResultCode.TheVariants.{UnableToDeliver, RealmNotServed}
use Rattle.relay_core.specs.NextHop.{candidates_for, hop_by_realm, next_hop, outgoing, peer_for}
use Rattle.relay_core.specs.Reading.{avps_in_octets, avps_in_part}
use Rattle.relay_core.specs.Routing.{node_for}
use Rattle.relay_core.proofs.Rules.{hop_read}
use Rattle.relay_core.proofs.deciding.next_hop.Goals as goal
use Rattle.relay_core.proofs.deciding.next_hop.Goals.{In_default}

pub returns-in-Some : goal.returns-in-Some
returns-in-Some c =
    let named : Some c.in-Some.peer.now ≡ peer_for c.args.routing.node.now (option_copied c.args.reading.host) = search rules in
    hop_read (node_for c.args.routing) (option_copied c.args.sender) (avps_in_part (option_copied c.args.reading.records)) (avps_in_octets c.args.request.now.body)
    c.args.request.now.header.application (Some c.in-Some.peer.now) (option_copied c.args.reading.realm)
    c.hop_to_host.result c.requires.records c.hop_to_host.ensures
    (named ∙ ap (λ (host : Option (List ℕ)). peer_for c.args.routing.node.now host) c.requires.host) c.requires.realm

-- no linked peer is named as the host
by_realm : (c : In_default) (result : Result ConnId ResultCode)
    → result ≡ hop_by_realm (node_for c.args.routing) (outgoing (option_copied c.args.sender) (avps_in_part (option_copied c.args.reading.records)))
    (candidates_for c.args.routing.node.now (option_copied c.args.reading.realm) c.args.request.now.header.application)
    → result ≡ next_hop (node_for c.args.routing) (outgoing (option_copied c.args.sender) (avps_in_octets c.args.request.now.body)) c.args.request.now.header.application
by_realm c result found =
    let nobody : None ≡ peer_for c.args.routing.node.now (option_copied c.args.reading.host) = search rules in
    hop_read (node_for c.args.routing) (option_copied c.args.sender) (avps_in_part (option_copied c.args.reading.records)) (avps_in_octets c.args.request.now.body)
    c.args.request.now.header.application None (option_copied c.args.reading.realm) result c.requires.records found
    (nobody ∙ ap (λ (host : Option (List ℕ)). peer_for c.args.routing.node.now host) c.requires.host) c.requires.realm

pub returns-in_default-realm : goal.returns-in_default-realm
returns-in_default-realm c = by_realm (goal.at.returns-in_default-realm c).In_default (Err RealmNotServed) (search rules)

pub returns-in-Err-RealmUnknown : goal.returns-in-Err-RealmUnknown
returns-in-Err-RealmUnknown c = by_realm (goal.at.returns-in-Err-RealmUnknown c).In_default (Err RealmNotServed) (search rules)

pub returns-in-Err-NoApplication : goal.returns-in-Err-NoApplication
returns-in-Err-NoApplication c = by_realm (goal.at.returns-in-Err-NoApplication c).In_default (Err UnableToDeliver) (search rules)

pub returns-in-Ok : goal.returns-in-Ok
returns-in-Ok c = by_realm (goal.at.returns-in-Ok c).In_default c.deliverable.result (search rules)
