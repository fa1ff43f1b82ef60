use Rattle.std.proofs.Common.{rules, ◌≡◌, ◌∙◌, ap, sym, subst, refl, List, ◌∷◌, ◌++◌, length, vec_len, None, Some, Option, option_to_list, arith}
use Rattle.std.specs.Vec.Iter.{into_iter_items, into_iter_len}
use Rattle.std.proofs.lemmas.List.{append-nil}
use Rattle.dia_base.specs.declared.number.ConnId.{ConnId}
use Rattle.dia_message.specs.declared.message.Message.{Message}
use Rattle.dia_message.specs.Traffic.{Traffic}
use Rattle.relay_core.specs.declared.failover.PlannedFailover.{PlannedFailover}
use Rattle.relay_core.specs.Failover.{Failover}
use Rattle.relay_core.specs.FailoverPlan.{IsFailoverPlan}
use Rattle.relay_core.specs.Giving.{SendsAgain}
use Rattle.relay_core.proofs.Giving.{again-none, again-then, none-same}
use Rattle.relay_core.proofs.Planning.{begun, done_more, first-planned, all_done, empty_of}
use Rattle.relay_core.proofs.failover.fail_over.Goals as goal

pub loop-planned-init : goal.loop-planned-init
loop-planned-init c =
    let given : into_iter_items c.into_iter-planned-iterator.result ≡ c.args.plan.items = search rules in
    let count : into_iter_len c.into_iter-planned-iterator.result ≡ length c.args.plan.items = search rules in
    let none : vec_len c.args.room ≡ 0 = search rules in
    record {
      done = λ node down plan. (
        begun node c.args.lost c.args.pending.now.rows c.args.room.items c.requires.empty,
        subst (λ (ps : List PlannedFailover). IsFailoverPlan node c.args.lost c.args.pending.now.rows ps) (sym given) plan,
        again-none c.args.pending.now c.args.pending.now c.args.room.items c.requires.empty (none-same c.args.pending.now c.args.pending.now refl),
      );
      room = omega (arith, none, count, c.requires.enough);
      count = ap length given ∙ sym count;
      limit = refl;
    }

pub loop-planned-preserved-in-Some-fail_over_one : goal.loop-planned-preserved-in-Some-fail_over_one
loop-planned-preserved-in-Some-fail_over_one c =
    let next = c.in-Some.ensures.steps in
    let item : c.fail_over_one.result ≡ Some c.in-Some-fail_over_one.item = search rules in
    let pushed : c.push_reserved.new.self.items ≡ c.loop-planned.items.items ++ option_to_list c.fail_over_one.result =
    c.push_reserved.ensures.items ∙ sym (ap (λ (o : Option (ConnId × Message)). c.loop-planned.items.items ++ option_to_list o) item) in
    record {
      done = λ node down plan.
          let before = c.loop-planned.invariant.done node down plan in
          let here : IsFailoverPlan node c.args.lost c.loop-planned.pending.rows (c.in-Some.planned ∷ into_iter_items c.next.new.self) =
          subst (λ (ps : List PlannedFailover). IsFailoverPlan node c.args.lost c.loop-planned.pending.rows ps) next.0 before.1 in
          let more =
          done_more node c.args.lost c.args.pending.now.rows c.loop-planned.pending.rows c.fail_over_one.new.pending.rows c.in-Some.planned (into_iter_items c.next.new.self) c.loop-planned.items.items c.push_reserved.new.self.items c.fail_over_one.result
          before.0 here (λ held e f. c.fail_over_one.ensures.ok node held e f) (λ held e f. c.fail_over_one.ensures.left node held e f down) pushed in
          let first = first-planned node c.args.lost c.loop-planned.pending.rows c.in-Some.planned (into_iter_items c.next.new.self) here in (
            more.0,
            more.1,
            again-then c.args.pending.now c.loop-planned.pending c.fail_over_one.new.pending c.loop-planned.items.items (option_to_list c.fail_over_one.result) c.push_reserved.new.self.items
                before.2 (c.fail_over_one.ensures.again node first.0 first.1 first.2 down) pushed,
          );
      room = omega (arith, c.loop-planned.invariant.room, next.1, c.push_reserved.ensures.len, c.push_reserved.ensures.capacity);
      count = let whole = ap length next.0 in omega (arith, whole, c.loop-planned.invariant.count, next.1);
      limit = c.fail_over_one.ensures.limit ∙ c.loop-planned.invariant.limit;
    }

pub loop-planned-preserved : goal.loop-planned-preserved
loop-planned-preserved c =
    let next = c.in-Some.ensures.steps in
    let item : c.fail_over_one.result ≡ None = search rules in
    let kept : c.loop-planned.items.items ≡ c.loop-planned.items.items ++ option_to_list c.fail_over_one.result =
    sym (ap (λ (o : Option (ConnId × Message)). c.loop-planned.items.items ++ option_to_list o) item ∙ append-nil c.loop-planned.items.items) in
    record {
      done = λ node down plan.
          let before = c.loop-planned.invariant.done node down plan in
          let here : IsFailoverPlan node c.args.lost c.loop-planned.pending.rows (c.in-Some.planned ∷ into_iter_items c.next.new.self) =
          subst (λ (ps : List PlannedFailover). IsFailoverPlan node c.args.lost c.loop-planned.pending.rows ps) next.0 before.1 in
          let more =
          done_more node c.args.lost c.args.pending.now.rows c.loop-planned.pending.rows c.fail_over_one.new.pending.rows c.in-Some.planned (into_iter_items c.next.new.self) c.loop-planned.items.items c.loop-planned.items.items c.fail_over_one.result
          before.0 here (λ held e f. c.fail_over_one.ensures.ok node held e f) (λ held e f. c.fail_over_one.ensures.left node held e f down) kept in
          let first = first-planned node c.args.lost c.loop-planned.pending.rows c.in-Some.planned (into_iter_items c.next.new.self) here in (
            more.0,
            more.1,
            again-then c.args.pending.now c.loop-planned.pending c.fail_over_one.new.pending c.loop-planned.items.items (option_to_list c.fail_over_one.result) c.loop-planned.items.items
                before.2 (c.fail_over_one.ensures.again node first.0 first.1 first.2 down) kept,
          );
      room = omega (arith, c.loop-planned.invariant.room, next.1);
      count = let whole = ap length next.0 in omega (arith, whole, c.loop-planned.invariant.count, next.1);
      limit = c.fail_over_one.ensures.limit ∙ c.loop-planned.invariant.limit;
    }

pub returns-clause-ok : goal.returns-clause-ok
returns-clause-ok c = λ node down plan.
    let before = c.loop-planned.invariant.done node down plan in
    let none : length (into_iter_items c.loop-planned.planned-iterator) ≡ 0 = c.loop-planned.invariant.count ∙ c.in-None.ensures.steps.0 in
    subst (λ (s : Traffic). Failover node c.args.lost c.args.pending.now.rows s c.loop-planned.pending.rows) (sym c.from_vec.ensures)
    (all_done node c.args.lost c.args.pending.now.rows c.loop-planned.pending.rows (into_iter_items c.loop-planned.planned-iterator) c.loop-planned.items.items (empty_of (into_iter_items c.loop-planned.planned-iterator) none) before.0 before.1)

pub returns-clause-again : goal.returns-clause-again
returns-clause-again c = λ node down plan.
    subst (λ (s : Traffic). SendsAgain c.args.pending.now s c.loop-planned.pending) (sym c.from_vec.ensures) (c.loop-planned.invariant.done node down plan).2
