use Rattle.std.proofs.Common.{◌∙◌}
use Rattle.book_store.proofs.Batched.{has_some_more, has_some_of_all, one_more_batch, one_more_written, some_or_whole}
use Rattle.book_store.proofs.batches.append_all.Goals as goal

pub returns-in_err-append-clause-crash : goal.returns-in_err-append-clause-crash
returns-in_err-append-clause-crash g c = λ clean left leaves.
    let about = g.L.RowStore.about c.args.store.now in
    let now = g.L.RowStore.about c.loop-batch.store in
    let rows = g.L.RowStore.rows c.args.store.now in
    let mid = g.L.RowStore.rows c.loop-batch.store in
    let beside = g.L.RowStore.beside c.args.store.now in
    let then = g.L.RowStore.beside c.loop-batch.store in
    let before = c.in_err-append.ensures.clean clean in
    let batch = c.batch-item.result in
    let crash = some_or_whole about now rows mid beside then left c.args.batches.now c.loop-batch.batch-index c.deref.result.now c.deref-in-loop-batch.result.now (g.L.RowStore.may_leave c.loop-batch.store left) (c.loop-batch.invariant.3 before left) (c.in_err-append.ensures.crash clean left leaves) in
    has_some_of_all about now rows mid beside then left c.args.batches.now c.loop-batch.batch-index c.loop-batch-test.true
    (has_some_more about now rows mid beside then left c.args.batches.now c.loop-batch.batch-index batch c.deref.result.now c.deref-in-loop-batch.result.now c.loop-batch-test.true c.batch-item.is c.deref.ensures.value c.deref-in-loop-batch.ensures.value (c.loop-batch.invariant.5 before)
    (c.loop-batch.invariant.2 before) (c.loop-batch.invariant.6 before) crash)

pub loop-batch-preserved : goal.loop-batch-preserved
loop-batch-preserved g c =
    let about = g.L.RowStore.about c.args.store.now in
    let now = g.L.RowStore.about c.loop-batch.store in
    let rows = g.L.RowStore.rows c.args.store.now in
    let mid = g.L.RowStore.rows c.loop-batch.store in
    let beside = g.L.RowStore.beside c.args.store.now in
    let then = g.L.RowStore.beside c.loop-batch.store in
    let batch = c.batch-item.result in (
      λ clean. c.loop-batch.invariant.0 (c.in_ok-append.ensures.clean clean),
      λ clean. c.in_ok-append.ensures.ready clean,
      λ clean. c.in_ok-append.ensures.appended clean ∙ one_more_batch rows mid c.args.batches.now c.loop-batch.batch-index batch c.deref.result.now c.loop-batch-test.true c.batch-item.is c.deref.ensures.value (c.loop-batch.invariant.2 (c.in_ok-append.ensures.clean clean)),
      λ clean left leaves. (let before = c.in_ok-append.ensures.clean clean in
          has_some_more about now rows mid beside then left c.args.batches.now c.loop-batch.batch-index batch c.deref.result.now c.deref-in-loop-batch.result.now c.loop-batch-test.true c.batch-item.is c.deref.ensures.value c.deref-in-loop-batch.ensures.value (c.loop-batch.invariant.5 before)
          (c.loop-batch.invariant.2 before) (c.loop-batch.invariant.6 before)
          (some_or_whole about now rows mid beside then left c.args.batches.now c.loop-batch.batch-index c.deref.result.now c.deref-in-loop-batch.result.now (g.L.RowStore.may_leave c.loop-batch.store left) (c.loop-batch.invariant.3 before left) (c.in_ok-append.ensures.crash clean left leaves))),
      λ may. c.in_ok-append.ensures.reopens (c.loop-batch.invariant.4 may),
      λ clean. c.in_ok-append.ensures.same_book clean ∙ c.loop-batch.invariant.5 (c.in_ok-append.ensures.clean clean),
      λ clean. c.in_ok-append.ensures.written clean ∙ one_more_written beside then c.args.batches.now c.loop-batch.batch-index batch c.deref-in-loop-batch.result.now c.loop-batch-test.true c.batch-item.is c.deref-in-loop-batch.ensures.value (c.loop-batch.invariant.6 (c.in_ok-append.ensures.clean clean)),
    )
