use Rattle.std.proofs.Common.{◌≡◌, ◌<◌, ◌++◌, length, arith, ◌∙◌}
use Rattle.book_store.specs.Table.{octets_in}
use Rattle.book_copy.proofs.Copying.{begins_with_more, one_more_copied}
use Rattle.book_copy.proofs.rows.copy_batches.Goals as goal

pub loop-place-preserved : goal.loop-place-preserved
loop-place-preserved g c =
    let rows = g.A.RowStore.rows c.args.book.now in
    let seen = g.A.RowStore.rows c.loop-place.book in
    let place = c.loop-place.place in
    let before = g.B.RowStore.rows c.loop-place.copy ++ octets_in c.loop-place.waiting.items in
    let after = g.B.RowStore.rows c.copy_row.new.copy ++ octets_in c.in_ok-waiting.waiting.items in
    record {
      clean = λ a. c.loop-place.invariant.clean (c.in_ok-waiting.ensures.clean a);
      ready = λ a. c.in_ok-waiting.ensures.ready a;
      same = λ a. c.in_ok-waiting.ensures.same a ∙ c.loop-place.invariant.same (c.in_ok-waiting.ensures.clean a);
      same_book = λ a. c.in_ok-waiting.ensures.same_book a ∙ c.loop-place.invariant.same_book (c.in_ok-waiting.ensures.clean a);
      same_beside = λ a. c.in_ok-waiting.ensures.same_beside a ∙ c.loop-place.invariant.same_beside (c.in_ok-waiting.ensures.clean a);
      count = λ a. c.loop-place.invariant.count (c.in_ok-waiting.ensures.clean a);
      unharmed = λ left leaves. c.loop-place.invariant.unharmed left (c.in_ok-waiting.ensures.unharmed left leaves);
      reopens = λ may. c.in_ok-waiting.ensures.reopens (c.loop-place.invariant.reopens may);
      copy_clean = λ b. c.loop-place.invariant.copy_clean (c.in_ok-waiting.ensures.copy_clean b);
      copy_ready = λ b. c.in_ok-waiting.ensures.copy_ready b;
      copied = λ a b.
          let counted = c.loop-place.invariant.count (c.in_ok-waiting.ensures.clean a) in
          one_more_copied rows seen before after place (omega (arith, counted, c.loop-place-test.true)) (c.loop-place.invariant.same (c.in_ok-waiting.ensures.clean a)) (c.in_ok-waiting.ensures.copied a b)
          (c.loop-place.invariant.copied (c.in_ok-waiting.ensures.clean a) (c.in_ok-waiting.ensures.copy_clean b));
      copy_of = λ b. c.in_ok-waiting.ensures.copy_of b ∙ c.loop-place.invariant.copy_of (c.in_ok-waiting.ensures.copy_clean b);
      copy_beside = λ b. c.in_ok-waiting.ensures.copy_beside b ∙ c.loop-place.invariant.copy_beside (c.in_ok-waiting.ensures.copy_clean b);
      crash = λ a b left leaves.
          let counted = c.loop-place.invariant.count (c.in_ok-waiting.ensures.clean a) in
          begins_with_more (g.B.RowStore.about c.args.copy.now) rows (g.B.RowStore.beside c.args.copy.now) left (g.B.RowStore.about c.loop-place.copy) seen before (g.B.RowStore.beside c.loop-place.copy) place (g.B.RowStore.may_leave c.loop-place.copy left)
          (omega (arith, counted, c.loop-place-test.true)) (c.loop-place.invariant.copy_of (c.in_ok-waiting.ensures.copy_clean b)) (c.loop-place.invariant.same (c.in_ok-waiting.ensures.clean a))
          (c.loop-place.invariant.copy_beside (c.in_ok-waiting.ensures.copy_clean b))
          (c.loop-place.invariant.copied (c.in_ok-waiting.ensures.clean a) (c.in_ok-waiting.ensures.copy_clean b))
          (λ stands. c.loop-place.invariant.crash (c.in_ok-waiting.ensures.clean a) (c.in_ok-waiting.ensures.copy_clean b) left stands)
          (c.in_ok-waiting.ensures.crash a b left leaves);
      copy_reopens = λ may. c.in_ok-waiting.ensures.copy_reopens (c.loop-place.invariant.copy_reopens may);
    }
