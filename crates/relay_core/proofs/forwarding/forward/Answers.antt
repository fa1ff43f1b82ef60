use Rattle.std.proofs.Common.{rules, ◌≡◌, ◌<◌, refl, sym, subst, ◌∷◌, [], length}
use Rattle.std.proofs.lemmas.Bool.{leb-false}
use Rattle.cc_view.specs.Refusal.{avps_of}
use Rattle.dia_message.specs.declared.message.Message.{Message}
use Rattle.relay_hops.specs.PendingTable.{under, IsWith}
use Rattle.dia_message.specs.Traffic.{Traffic}
use Rattle.relay_core.specs.Forwarding.{with_record}
use Rattle.relay_core.specs.Giving.{GivesOne, one_given}
use Rattle.relay_core.specs.RelayStep.{held_for, row_of}
use Rattle.relay_core.specs.Routing.{node_for}
use Rattle.relay_core.proofs.Cases.{request_forwarded, state}
use Rattle.relay_core.proofs.Rules.{forwarded-by}
use Rattle.relay_core.proofs.forwarding.forward.Goals as goal

pub returns-clause-ok : goal.returns-clause-ok
returns-clause-ok c =
    let copy : c.in_ok-clone.field-0 ≡ with_record c.args.sender.now c.args.request = search rules in
    let sent : c.from_vec.result ≡ (c.args.to, under c.in-Ok.hop (with_record c.args.sender.now c.args.request)) ∷ [] = search rules in
    request_forwarded (node_for c.args.routing) c.args.pending.now c.add.new.self c.args.conn c.args.sender.now c.args.request c.args.to c.in-Ok.hop c.from_vec.result c.requires
    c.in-Ok.ensures.free
    (subst (λ (m : Message). IsWith (row_of c.args.to (held_for c.args.conn c.args.request (under c.in-Ok.hop m))) c.args.pending.now.rows c.add.new.self.rows) copy c.in-Ok.ensures.ok)
    c.in-Ok.ensures.limit sent

pub returns-clause-given : goal.returns-clause-given
returns-clause-given c = λ flag.
    let copy : c.in_ok-clone.field-0 ≡ with_record c.args.sender.now c.args.request = search rules in
    let sent : c.from_vec.result ≡ (c.args.to, under c.in-Ok.hop (with_record c.args.sender.now c.args.request)) ∷ [] = search rules in
    let fit = forwarded-by (state (node_for c.args.routing) c.args.pending.now) c.args.sender.now c.args.request (avps_of c.args.request.body) c.args.to c.requires in
    let room : length c.args.pending.now.rows < c.args.pending.now.limit = leb-false _ _ fit.0 in
    subst (λ (s : Traffic). GivesOne c.args.pending.now s c.add.new.self) (sym sent)
    (one_given c.args.to (under c.in-Ok.hop (with_record c.args.sender.now c.args.request)) (row_of c.args.to (held_for c.args.conn c.args.request (under c.in-Ok.hop (with_record c.args.sender.now c.args.request)))) c.add.new.self
    flag room c.in-Ok.ensures.given c.in-Ok.ensures.limit refl
    (subst (λ (m : Message). IsWith (row_of c.args.to (held_for c.args.conn c.args.request (under c.in-Ok.hop m))) c.args.pending.now.rows c.add.new.self.rows) copy c.in-Ok.ensures.ok))

pub unreachable-requires : goal.unreachable-requires
unreachable-requires c =
    let fit = forwarded-by (state (node_for c.args.routing) c.args.pending.now) c.args.sender.now c.args.request (avps_of c.args.request.body) c.args.to c.requires in
    let room : length c.args.pending.now.rows < c.args.pending.now.limit = leb-false _ _ fit.0 in
    let ok = c.add.ensures.room room in search rules
