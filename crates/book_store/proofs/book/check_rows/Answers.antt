use Rattle.std.proofs.Common.{◌≡◌, ℕ, List, [], Some, get_or, ap, sym, ◌∙◌, arith}
use Rattle.book_store.specs.Chain.{next_sum}
use Rattle.book_store.proofs.Chained.{one_more_sum}
use Rattle.book_store.proofs.book.check_rows.Goals as goal

pub loop-place-preserved : goal.loop-place-preserved
loop-place-preserved g c =
    let rows = g.L.RowStore.rows c.args.store.now in (
      λ clean. c.loop-place.invariant.0 (c.in_ok-sum.ensures.clean clean),
      λ clean. c.in_ok-sum.ensures.ready clean,
      λ clean. c.in_ok-sum.ensures.same clean ∙ c.loop-place.invariant.2 (c.in_ok-sum.ensures.clean clean),
      λ clean. c.loop-place.invariant.3 (c.in_ok-sum.ensures.clean clean),
      λ clean.
          let next : next_sum c.loop-place.place c.loop-place.sum.0 (get_or rows c.loop-place.place []) ≡ Some c.in_ok-sum.sum.0 = ap (λ (rs : List (List ℕ)). next_sum c.loop-place.place c.loop-place.sum.0 (get_or rs c.loop-place.place [])) (sym (c.loop-place.invariant.2 (c.in_ok-sum.ensures.clean clean))) ∙ c.in_ok-sum.ensures.next clean in
          let counted = c.loop-place.invariant.3 (c.in_ok-sum.ensures.clean clean) in
          one_more_sum rows c.loop-place.place c.loop-place.sum.0 c.in_ok-sum.sum.0 (omega (arith, counted, c.loop-place-test.true)) (c.loop-place.invariant.4 (c.in_ok-sum.ensures.clean clean)) next,
      λ left leaves. c.loop-place.invariant.5 left (c.in_ok-sum.ensures.crash left leaves),
      λ may. c.in_ok-sum.ensures.reopens (c.loop-place.invariant.6 may),
      λ clean. c.in_ok-sum.ensures.same_book clean ∙ c.loop-place.invariant.7 (c.in_ok-sum.ensures.clean clean),
      λ clean. c.in_ok-sum.ensures.same_beside clean ∙ c.loop-place.invariant.8 (c.in_ok-sum.ensures.clean clean),
    )
