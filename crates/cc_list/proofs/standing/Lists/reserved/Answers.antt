use Rattle.std.proofs.Common.{ap, sym, ◌∙◌, arith}
use Rattle.cc_book.specs.Standing.{held_in, reserved_in}
use Rattle.cc_book.proofs.Amounts.{reserved_in-next}
use Rattle.cc_list.proofs.standing.Lists.reserved.Goals as goal

pub held_in-reserved-requires : goal.held_in-reserved-requires
held_in-reserved-requires c =
    let all = c.deref-session-items.result.now in
    let sum = c.loop-session.invariant ∙ sym (ap (reserved_in c.args.account) c.deref-session-items.ensures.value) in
    let next = reserved_in-next c.args.account all c.loop-session.session-index c.loop-session.reserved c.session-item.result sum c.loop-session-test.true
    c.session-item.is c.if-session-account.true in
    let same = ap held_in c.as_slice.ensures in
    let whole = ap (reserved_in c.args.account) c.deref-session-items.ensures.value in
    let few = c.requires c.args.account in
    omega arith

pub overflow_add-reserved : goal.overflow_add-reserved
overflow_add-reserved c =
    let all = c.deref-session-items.result.now in
    let sum = c.loop-session.invariant ∙ sym (ap (reserved_in c.args.account) c.deref-session-items.ensures.value) in
    let next = reserved_in-next c.args.account all c.loop-session.session-index c.loop-session.reserved c.session-item.result sum c.loop-session-test.true
    c.session-item.is c.if-session-account.true in
    let same = ap held_in c.as_slice.ensures in
    let whole = ap (reserved_in c.args.account) c.deref-session-items.ensures.value in
    let few = c.requires c.args.account in
    omega (arith, c.held_in-reserved.ensures)
