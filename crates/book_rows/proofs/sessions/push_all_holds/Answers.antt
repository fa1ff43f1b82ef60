use Rattle.std.proofs.Common.{arith}
use Rattle.std.proofs.lemmas.List.{take_all}
use Rattle.book_rows.proofs.Repeated.{none_of_all, one_more_of_all}
use Rattle.book_rows.specs.SessionParts.{hold}
use Rattle.book_rows.proofs.sessions.push_all_holds.Goals as goal

pub loop-value-init : goal.loop-value-init
loop-value-init c = none_of_all hold c.args.out.now.items

pub loop-value-preserved : goal.loop-value-preserved
loop-value-preserved c =
    one_more_of_all hold c.args.values.now c.loop-value.value-index _ c.args.out.now.items c.loop-value.out.items c.push_hold.new.out.items c.loop-value-test.true c.loop-value.invariant c.in_ok-push_hold.ensures

pub returns : goal.returns
returns c = rw (take_all c.loop-value.value-index c.args.values.now (omega arith)) at c.loop-value.invariant
