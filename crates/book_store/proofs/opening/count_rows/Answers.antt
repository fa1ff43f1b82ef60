use Rattle.std.proofs.Common.{◌≡◌, ℕ, Bool, subst, refl, ◌∙◌, arith}
use Rattle.sqlite_trees.specs.View.{Advances, IsClean}
use Rattle.book_store.specs.Damage.{IsDamagedAt}
use Rattle.book_store.proofs.Scanned.{damaged_at, read_all, read_one_more}
use Rattle.book_store.proofs.opening.count_rows.Goals as goal

pub returns-in-Ok-false-clause-all : goal.returns-in-Ok-false-clause-all
returns-in-Ok-false-clause-all g c = λ clean.
    let old = g.S.Store.view c.loop-place.store in
    let new = g.S.Store.view c.next.new.self in
    let before : IsClean (g.S.Store.view c.loop-place.store) = omega (arith, c.in-Ok-false.ensures.quiet.clean, clean) in
    read_all c.args.table (g.S.Store.view c.args.store.now) old new c.loop-place.place c.next.new.row (c.loop-place.invariant.2 before)
    (subst (λ (found : Bool). Advances old new 0 c.next.new.row found) c.in-Ok-false.field-0-test (c.in-Ok-false.ensures.ok clean))

pub returns-then-not-is_stored-clause-damaged : goal.returns-then-not-is_stored-clause-damaged
returns-then-not-is_stored-clause-damaged g c = λ place e clean.
    let first = g.S.Store.view c.args.store.now in
    let old = g.S.Store.view c.loop-place.store in
    let new = g.S.Store.view c.next.new.self in
    let before : IsClean (g.S.Store.view c.loop-place.store) = omega (arith, c.in-Ok-true.ensures.quiet.clean, clean) in
    let same : c.loop-place.place ≡ place = cc in
    subst (λ (p : ℕ). IsDamagedAt (first.trees c.args.table) p) same
    (damaged_at c.args.table first old new c.loop-place.place c.next.new.row (c.loop-place.invariant.2 before) (subst (λ (found : Bool). Advances old new 0 c.next.new.row found) c.in-Ok-true.field-0-test (c.in-Ok-true.ensures.ok clean)) (c.if-not-is_stored.ensures.no refl))

pub loop-place-preserved : goal.loop-place-preserved
loop-place-preserved g c =
    let first = g.S.Store.view c.args.store.now in
    let old = g.S.Store.view c.loop-place.store in
    let new = g.S.Store.view c.next.new.self in (
      c.in-Ok-true.ensures.stay 0 c.loop-place.invariant.0,
      λ clean. c.loop-place.invariant.1 (omega (arith, c.in-Ok-true.ensures.quiet.clean, clean)),
      λ clean.
          let before : IsClean (g.S.Store.view c.loop-place.store) = omega (arith, c.in-Ok-true.ensures.quiet.clean, clean) in
          read_one_more c.args.table first old new c.loop-place.place c.next.new.row (c.loop-place.invariant.2 before) (subst (λ (found : Bool). Advances old new 0 c.next.new.row found) c.in-Ok-true.field-0-test (c.in-Ok-true.ensures.ok clean)) (c.if-not-is_stored.ensures.yes refl),
      λ db left. c.loop-place.invariant.3 db (c.in-Ok-true.ensures.quiet.outcomes db left),
      record { shape = c.in-Ok-true.ensures.schema.shape ∙ c.loop-place.invariant.4.shape; committed = c.in-Ok-true.ensures.schema.committed_shape ∙ c.loop-place.invariant.4.committed },
    )
