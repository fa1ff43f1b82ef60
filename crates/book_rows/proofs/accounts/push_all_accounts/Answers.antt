use Rattle.std.proofs.Common.{get_or, arith}
use Rattle.std.proofs.lemmas.List.{take_all}
use Rattle.book_rows.specs.Form.{Adds}
use Rattle.book_rows.proofs.Repeated.{none_of_all, one_more_of_all}
use Rattle.book_rows.specs.TermsParts.{account}
use Rattle.book_rows.proofs.accounts.push_all_accounts.Goals as goal

pub loop-value-init : goal.loop-value-init
loop-value-init c = none_of_all account c.args.out.now.items

pub loop-value-preserved : goal.loop-value-preserved
loop-value-preserved c =
    let one : Adds account (get_or c.args.values.now c.loop-value.value-index c.value-item.result) c.loop-value.out.items c.push_account.new.out.items = rw (← c.value-item.is) c.in_ok-push_account.ensures in
    one_more_of_all account c.args.values.now c.loop-value.value-index c.value-item.result c.args.out.now.items c.loop-value.out.items c.push_account.new.out.items c.loop-value-test.true c.loop-value.invariant one

pub returns : goal.returns
returns c = rw (take_all c.loop-value.value-index c.args.values.now (omega arith)) at c.loop-value.invariant
