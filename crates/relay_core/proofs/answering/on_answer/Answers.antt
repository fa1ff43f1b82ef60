use Rattle.std.proofs.Common.{rules, ◌≡◌, ◌∙◌, sym, Some, None}
use Rattle.relay_hops.specs.declared.row.Held.{Held}
use Rattle.relay_hops.specs.PendingTable.{held_at, IsWith}
use Rattle.relay_core.specs.RelayStep.{row_of}
use Rattle.relay_core.proofs.Cases.{at_some, answer_sent_back, answer_dropped, answer_ignored}
use Rattle.relay_core.proofs.answering.on_answer.Goals as goal

pub returns-in_default-clause-ok : goal.returns-in_default-clause-ok
returns-in_default-clause-ok c = λ node.
    let none : held_at c.args.pending.now.rows c.args.conn c.args.answer.header.hop ≡ None = search rules in
    answer_ignored node c.args.pending.now c.args.pending.now c.args.conn c.args.answer c.nothing.result.items none (search rules) c.nothing.ensures

pub returns-in_default-origin-clause-ok : goal.returns-in_default-origin-clause-ok
returns-in_default-origin-clause-ok c = λ node.
    let at_hop : held_at c.args.pending.now.rows c.args.conn c.args.answer.header.hop ≡ Some c.in-Some.held.now = sym c.in-Some.ensures.value in
    let gone : IsWith (row_of c.args.conn c.in-Some.held.now) c.settle-dropped.new.self.rows c.args.pending.now.rows =
    at_some c.settle-dropped.result c.in-Some.held.now (λ (h : Held). IsWith (row_of c.args.conn h) c.settle-dropped.new.self.rows c.args.pending.now.rows)
    (c.settle-dropped.ensures.value ∙ at_hop) c.settle-dropped.ensures.gone in
    answer_dropped node c.args.pending.now c.settle-dropped.new.self c.args.conn c.args.answer c.in-Some.held.now c.nothing-in_default-origin.result.items at_hop (search rules) gone
    c.settle-dropped.ensures.limit c.settle-dropped.ensures.next c.nothing-in_default-origin.ensures

pub returns-clause-ok : goal.returns-clause-ok
returns-clause-ok c = λ node.
    let at_hop : held_at c.args.pending.now.rows c.args.conn c.args.answer.header.hop ≡ Some c.in-Some.held.now = sym c.in-Some.ensures.value in
    let gone : IsWith (row_of c.args.conn c.in-Some.held.now) c.settle-answered.new.self.rows c.args.pending.now.rows =
    at_some c.settle-answered.result c.in-Some.held.now (λ (h : Held). IsWith (row_of c.args.conn h) c.settle-answered.new.self.rows c.args.pending.now.rows)
    (c.settle-answered.ensures.value ∙ at_hop) c.settle-answered.ensures.gone in
    answer_sent_back node c.args.pending.now c.settle-answered.new.self c.args.conn c.args.answer c.in-Some.held.now c.in-Some-origin.origin c.in_ok-out.out.items at_hop (search rules) gone
    c.settle-answered.ensures.limit c.settle-answered.ensures.next c.in_ok-out.ensures
