use Rattle.std.proofs.Common.{◌≡◌, ◌<◌, ◌+◌, ℕ, true, false, length, sym, ap, ◌∙◌, arith}
use Rattle.std.specs.Global.{Vec}
use Rattle.cc_book.specs.Standing.{sessions_in}
use Rattle.book_journal.specs.Tables.{is_due_in, is_touched}
use Rattle.book_journal.proofs.Touching.{all_due, counted_due, counted_not_due, due_touched, not_due}
use Rattle.book_journal.proofs.touched.touch_due.Goals.{then-is_due_at+in_ok-touch, else-is_due_at}
use Rattle.book_journal.proofs.touched.touch_due.Goals as goal

pub loop-place-preserved : goal.loop-place-preserved
loop-place-preserved c =
    let sessions = sessions_in c.args.book.now.terms c.args.book.now.history in
    let validity = c.args.book.now.terms.validity in
    let place = c.loop-place.place in
    let so_far = c.loop-place.invariant in
    let lt : place < length sessions = omega (arith, c.loop-place-test.true, c.session_count-place-end.ensures) in
    elim c.if-is_due_at.branch [
      | then-is_due_at+in_ok-touch w ↦
          let due : is_due_in validity c.args.moment sessions place ≡ true = sym c.is_due_at.ensures ∙ w.if-is_due_at.true in
          let same : c.if-is_due_at.places.items ≡ w.touch.new.places.items = ap (λ (v : Vec ℕ). v.items) w.places-is in
          record {
            grows = λ q e. so_far.grows q (w.in_ok-touch.ensures.grows q (sym (ap (is_touched q) same) ∙ e));
            there = λ q below it.
                ap (is_touched q) same
                ∙ due_touched c.loop-place.places.items w.touch.new.places.items validity c.args.moment sessions place w.in_ok-touch.ensures.grows w.in_ok-touch.ensures.there so_far.there q below it;
            count = w.ended-is ∙ ap (λ (n : ℕ). n + 1) so_far.count ∙ sym (counted_due validity c.args.moment sessions place lt due);
            below = omega (arith, w.ended-is, so_far.below);
          }
      | else-is_due_at w ↦
          let lasts : is_due_in validity c.args.moment sessions place ≡ false = sym c.is_due_at.ensures ∙ w.if-is_due_at.false in
          let same : c.if-is_due_at.places.items ≡ c.loop-place.places.items = ap (λ (v : Vec ℕ). v.items) w.places-is in
          record {
            grows = λ q e. so_far.grows q (sym (ap (is_touched q) same) ∙ e);
            there = λ q below it. ap (is_touched q) same ∙ not_due c.loop-place.places.items validity c.args.moment sessions place lasts so_far.there q below it;
            count = w.ended-is ∙ so_far.count ∙ sym (counted_not_due validity c.args.moment sessions place lt lasts);
            below = omega (arith, w.ended-is, so_far.below);
          }
    ]

pub returns-clause-there : goal.returns-clause-there
returns-clause-there c =
    let sessions = sessions_in c.args.book.now.terms c.args.book.now.history in
    all_due c.loop-place.places.items c.args.book.now.terms.validity c.args.moment sessions c.loop-place.place (omega (arith, c.loop-place-test.false, c.session_count-place-end.ensures)) c.loop-place.invariant.there
