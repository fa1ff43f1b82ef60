use Rattle.std.proofs.Common.{◌≡◌, ◌≢◌, ◌∙◌, refl, ap, sym, subst, [], ◌∷◌, Ok}
use Rattle.dia_base.specs.declared.number.ConnId.{ConnId}
use Rattle.dia_message.specs.declared.message.Message.{Message}
use Rattle.cc_view.specs.Answer.{refusal_of}
use Rattle.cc_view.specs.Refusal.{avps_of, refusal_with}
use Rattle.relay_hops.specs.declared.row.Held.{Held}
use Rattle.relay_hops.specs.PendingTable.{held_at, under, resent, IsWith, IsMoved}
use Rattle.relay_core.specs.Failover.{RequestFailover, forgotten, sent_again, given_up, avps_in}
use Rattle.relay_core.specs.RelayStep.{row_of}
use Rattle.relay_core.specs.Giving.{has_hop}
use Rattle.relay_core.proofs.Cases.{at_some}
use Rattle.relay_core.proofs.Giving.{again-none, again-sent, again-answer, none-less, none-moved, has-held}
use Rattle.relay_core.proofs.Promising.{refusal-flag}
use Rattle.relay_hops.proofs.InUse.{its_hop}
use Rattle.relay_core.proofs.Planning.{forget-is, send-is, give-is, held-taken_out, held-moved_away}
use Rattle.relay_core.proofs.Reaching.{next_hop-never}
use Rattle.relay_core.proofs.failover.fail_over_one.Goals as goal

pub returns-in-Forget-clause-ok : goal.returns-in-Forget-clause-ok
returns-in-Forget-clause-ok c = λ node held e f.
    forgotten c.settle-forgotten.new.self.rows (forget-is node held (sym c.in-Forget.is ∙ f))
    (at_some c.settle-forgotten.result held (λ (h : Held). IsWith (row_of c.args.lost h) c.settle-forgotten.new.self.rows c.args.pending.now.rows) (c.settle-forgotten.ensures.value ∙ e) c.settle-forgotten.ensures.gone)

pub returns-in-Forget-clause-left : goal.returns-in-Forget-clause-left
returns-in-Forget-clause-left c = λ node held e f down.
    held-taken_out c.args.lost c.args.hop held c.args.pending.now.rows c.settle-forgotten.new.self.rows e
    (at_some c.settle-forgotten.result held (λ (h : Held). IsWith (row_of c.args.lost h) c.settle-forgotten.new.self.rows c.args.pending.now.rows) (c.settle-forgotten.ensures.value ∙ e) c.settle-forgotten.ensures.gone)
    c.settle-forgotten.ensures.map_before

pub returns-in_ok-request-in-SendAgain-clause-ok : goal.returns-in_ok-request-in-SendAgain-clause-ok
returns-in_ok-request-in-SendAgain-clause-ok c = λ node held e f.
    let fresh = c.in_ok-request-in-SendAgain.field-0 in
    let is = send-is node held c.in-SendAgain.to c.in-SendAgain.request (sym c.in-SendAgain.is ∙ f) in
    let moved : IsMoved (row_of c.args.lost held) (resent c.in-SendAgain.to fresh (row_of c.args.lost held)) c.args.pending.now.rows c.move_to.new.self.rows =
    at_some (held_at c.args.pending.now.rows c.args.lost c.args.hop) held
    (λ (h : Held). IsMoved (row_of c.args.lost h) (resent c.in-SendAgain.to fresh (row_of c.args.lost h)) c.args.pending.now.rows c.move_to.new.self.rows) e c.in_ok-request-in-SendAgain.ensures.moved in
    subst (λ (m : Message). RequestFailover node c.args.lost held c.args.pending.now.rows ((c.in-SendAgain.to, under fresh m) ∷ []) c.move_to.new.self.rows) (sym is.3)
    (sent_again is.0 c.in-SendAgain.to fresh c.move_to.new.self.rows is.1 is.2 c.in_ok-request-in-SendAgain.ensures.free moved)

pub returns-in_ok-request-in-SendAgain-clause-left : goal.returns-in_ok-request-in-SendAgain-clause-left
returns-in_ok-request-in-SendAgain-clause-left c = λ node held e f down.
    let fresh = c.in_ok-request-in-SendAgain.field-0 in
    let is = send-is node held c.in-SendAgain.to c.in-SendAgain.request (sym c.in-SendAgain.is ∙ f) in
    let moved : IsMoved (row_of c.args.lost held) (resent c.in-SendAgain.to fresh (row_of c.args.lost held)) c.args.pending.now.rows c.move_to.new.self.rows =
    at_some (held_at c.args.pending.now.rows c.args.lost c.args.hop) held
    (λ (h : Held). IsMoved (row_of c.args.lost h) (resent c.in-SendAgain.to fresh (row_of c.args.lost h)) c.args.pending.now.rows c.move_to.new.self.rows) e c.in_ok-request-in-SendAgain.ensures.moved in
    held-moved_away c.args.lost c.in-SendAgain.to c.args.hop fresh held c.args.pending.now.rows c.move_to.new.self.rows e moved c.move_to.ensures.map_before c.move_to.ensures.map
    (λ same. next_hop-never node c.args.lost down (avps_in (avps_of held.request.body)) held.request.header.application (is.2 ∙ ap (λ (conn : ConnId). Ok conn) same))

pub returns-in-GiveUp-clause-ok : goal.returns-in-GiveUp-clause-ok
returns-in-GiveUp-clause-ok c = λ node held e f.
    let is = give-is node held c.in-GiveUp.conn c.in-GiveUp.answer (sym c.in-GiveUp.is ∙ f) in
    let gone : IsWith (row_of c.args.lost held) c.settle-given_up.new.self.rows c.args.pending.now.rows =
    at_some c.settle-given_up.result held (λ (h : Held). IsWith (row_of c.args.lost h) c.settle-given_up.new.self.rows c.args.pending.now.rows) (c.settle-given_up.ensures.value ∙ e) c.settle-given_up.ensures.gone in
    subst (λ (answer : Message). RequestFailover node c.args.lost held c.args.pending.now.rows ((c.in-GiveUp.conn, answer) ∷ []) c.settle-given_up.new.self.rows) (sym is.5)
    (subst (λ (conn : ConnId). RequestFailover node c.args.lost held c.args.pending.now.rows ((conn, under is.0.hop (refusal_of node.name node.realm held.request (refusal_with is.1))) ∷ []) c.settle-given_up.new.self.rows) (sym is.4)
    (given_up is.0 is.1 c.settle-given_up.new.self.rows is.2 is.3 gone))

pub returns-in-GiveUp-clause-left : goal.returns-in-GiveUp-clause-left
returns-in-GiveUp-clause-left c = λ node held e f down.
    held-taken_out c.args.lost c.args.hop held c.args.pending.now.rows c.settle-given_up.new.self.rows e
    (at_some c.settle-given_up.result held (λ (h : Held). IsWith (row_of c.args.lost h) c.settle-given_up.new.self.rows c.args.pending.now.rows) (c.settle-given_up.ensures.value ∙ e) c.settle-given_up.ensures.gone)
    c.settle-given_up.ensures.map_before

pub returns-in-Forget-clause-again : goal.returns-in-Forget-clause-again
returns-in-Forget-clause-again c = λ node held e f down.
    let gone : IsWith (row_of c.args.lost held) c.settle-forgotten.new.self.rows c.args.pending.now.rows =
    at_some c.settle-forgotten.result held (λ (h : Held). IsWith (row_of c.args.lost h) c.settle-forgotten.new.self.rows c.args.pending.now.rows) (c.settle-forgotten.ensures.value ∙ e) c.settle-forgotten.ensures.gone in
    again-none c.args.pending.now c.settle-forgotten.new.self [] refl
    (none-less c.args.pending.now c.settle-forgotten.new.self (row_of c.args.lost held) gone c.settle-forgotten.ensures.next c.settle-forgotten.ensures.limit)

pub returns-in_ok-request-in-SendAgain-clause-again : goal.returns-in_ok-request-in-SendAgain-clause-again
returns-in_ok-request-in-SendAgain-clause-again c = λ node held e f down.
    let fresh = c.in_ok-request-in-SendAgain.field-0 in
    let is = send-is node held c.in-SendAgain.to c.in-SendAgain.request (sym c.in-SendAgain.is ∙ f) in
    let moved : IsMoved (row_of c.args.lost held) (resent c.in-SendAgain.to fresh (row_of c.args.lost held)) c.args.pending.now.rows c.move_to.new.self.rows =
    at_some (held_at c.args.pending.now.rows c.args.lost c.args.hop) held
    (λ (h : Held). IsMoved (row_of c.args.lost h) (resent c.in-SendAgain.to fresh (row_of c.args.lost h)) c.args.pending.now.rows c.move_to.new.self.rows) e c.in_ok-request-in-SendAgain.ensures.moved in
    let away : c.in-SendAgain.to ≢ c.args.lost = λ same. next_hop-never node c.args.lost down (avps_in (avps_of held.request.body)) held.request.header.application (is.2 ∙ ap (λ (conn : ConnId). Ok conn) same) in
    let own : fresh ≡ c.args.hop = c.in_ok-request-in-SendAgain.ensures.kept away in
    again-sent c.args.pending.now c.move_to.new.self c.in-SendAgain.to (under fresh c.in-SendAgain.request)
    (ap (has_hop c.args.pending.now.rows) own ∙ has-held c.args.pending.now.rows c.args.lost c.args.hop held e)
    (none-moved c.args.pending.now c.move_to.new.self (row_of c.args.lost held) (resent c.in-SendAgain.to fresh (row_of c.args.lost held)) moved
    (own ∙ sym (its_hop c.args.pending.now.rows c.args.lost c.args.hop held e)) (c.move_to.ensures.elsewhere away) c.move_to.ensures.limit)

pub returns-in-GiveUp-clause-again : goal.returns-in-GiveUp-clause-again
returns-in-GiveUp-clause-again c = λ node held e f down.
    let is = give-is node held c.in-GiveUp.conn c.in-GiveUp.answer (sym c.in-GiveUp.is ∙ f) in
    let gone : IsWith (row_of c.args.lost held) c.settle-given_up.new.self.rows c.args.pending.now.rows =
    at_some c.settle-given_up.result held (λ (h : Held). IsWith (row_of c.args.lost h) c.settle-given_up.new.self.rows c.args.pending.now.rows) (c.settle-given_up.ensures.value ∙ e) c.settle-given_up.ensures.gone in
    again-answer c.args.pending.now c.settle-given_up.new.self c.in-GiveUp.conn c.in-GiveUp.answer
    (ap (λ (m : Message). m.header.request) is.5 ∙ refusal-flag node.name node.realm held.request (refusal_with is.1))
    (none-less c.args.pending.now c.settle-given_up.new.self (row_of c.args.lost held) gone c.settle-given_up.ensures.next c.settle-given_up.ensures.limit)
