use Rattle.std.proofs.lemmas.Result.{err_from_is_err_and}
use Rattle.book_rows.specs.Form.{so_many}
use Rattle.book_rows.proofs.Repeated.{ends, goes_on, is_done}
use Rattle.book_rows.specs.TermsParts.{tariff}
use Rattle.book_rows.proofs.tariffs.so_many_tariffs_at.Goals as goal

pub returns-in_err-value : goal.returns-in_err-value
returns-in_err-value c =
    let p = err_from_is_err_and c.from_residual.result c.from_residual.ensures.1 in
    rw (p.1, p.2) (ends tariff c.in_err-value.field-0.0 c.loop.values.items c.args.count c.loop.counter c.loop.rest.now (so_many tariff.read c.args.count c.args.octets.now) c.loop-test.true c.in_err-value.ensures c.loop.invariant)

pub loop-preserved : goal.loop-preserved
loop-preserved c =
    rw c.in_ok-push.ensures.items (goes_on tariff c.loop.values.items c.args.count c.loop.counter c.loop.rest.now c.in_ok-value.value c.in_ok-value.behind.now (so_many tariff.read c.args.count c.args.octets.now) c.loop-test.true c.in_ok-value.ensures c.loop.invariant)

pub returns : goal.returns
returns c = is_done tariff c.loop.values.items c.args.count c.loop.counter c.loop.rest.now (so_many tariff.read c.args.count c.args.octets.now) c.loop-test.false c.loop.invariant
