use Rattle.std.proofs.Common.{◌≡◌, ℕ, List, take, refl, sym, ap, ◌∙◌, arith}
use Rattle.book_rows.specs.declared.about.Standing.{Standing}
use Rattle.book_journal.proofs.Opened.{all_taken, no_sum, nothing_stored, one_more_taken, still_under}
use Rattle.book_journal.proofs.opening.take_rows.Goals as goal

pub loop-place-preserved : goal.loop-place-preserved
loop-place-preserved g c =
    let rows = g.S.RowStore.rows c.args.store.now in
    let more = c.in_ok-sum.ensures.taken in (
      λ clean. c.loop-place.invariant.0 (c.in_ok-sum.ensures.clean clean),
      λ clean. c.in_ok-sum.ensures.ready clean,
      λ clean. c.in_ok-sum.ensures.same clean ∙ c.loop-place.invariant.2 (c.in_ok-sum.ensures.clean clean),
      λ clean. c.loop-place.invariant.3 (c.in_ok-sum.ensures.clean clean),
      λ clean.
          let before = c.in_ok-sum.ensures.clean clean in
          let counted = c.loop-place.invariant.3 before in
          one_more_taken rows (g.S.RowStore.rows c.loop-place.store) c.loop-place.place c.loop-place.book c.take_row.new.book more.0 c.in_ok-sum.sum.0 (omega (arith, counted, c.loop-place-test.true))
          (c.loop-place.invariant.2 before) (more.2 clean) more.1 (c.loop-place.invariant.4 before),
      λ left leaves. c.loop-place.invariant.5 left (c.in_ok-sum.ensures.crash left leaves),
      λ may. c.in_ok-sum.ensures.reopens (c.loop-place.invariant.6 may),
      λ clean. c.in_ok-sum.ensures.same_book clean ∙ c.loop-place.invariant.7 (c.in_ok-sum.ensures.clean clean),
      still_under c.args.book.now c.loop-place.book c.take_row.new.book more.0 c.in_ok-sum.sum.0 more.1 c.loop-place.invariant.8,
      more.1.last,
      λ clean. c.in_ok-sum.ensures.same_beside clean ∙ c.loop-place.invariant.10 (c.in_ok-sum.ensures.clean clean),
    )

pub loop-place-init : goal.loop-place-init
loop-place-init g c = (
  λ clean. clean,
  c.requires.ready,
  λ _. refl,
  λ clean. ap (λ (s : Standing). s.count) (c.standing-count.ensures clean),
  λ _. nothing_stored c.args.book.now c.requires.none,
  λ left leaves. leaves,
  λ may. may,
  λ _. refl,
  record { terms = refl; limit = refl },
  sym (no_sum c.args.book.now c.requires.none),
  λ _. refl,
)
