use Rattle.std.proofs.Common.{◌≡◌, Bool, [], refl, sym, ap, subst, ◌∙◌}
use Rattle.std.specs.Prelude.{IsTrue}
use Rattle.sqlite_trees.specs.View.{View}
use Rattle.book_beside.specs.Beside.{beside_in}
use Rattle.book_rows.specs.About.{standing_with}
use Rattle.book_store.specs.Damage.{IsEmpty}
use Rattle.book_store.proofs.Tables.{made_crash, ready_with, standing_is, with_made}
use Rattle.book_store.proofs.tree.create_tree.Goals as goal

pub returns-in-Ok-clause-ready : goal.returns-in-Ok-clause-ready
returns-in-Ok-clause-ready g c = λ clean.
    let old = g.S.Store.view c.args.store in
    let mid = g.S.Store.view c.find_nothing.new.store in
    let empty : IsEmpty old mid = c.in-Ok-true.ensures.nothing (c.in-Ok.ensures.clean clean) c.in-Ok-true.field-0-test in
    let no_rows : mid.trees 0 ≡ [] = ap (λ (v : View). v.trees 0) empty.alike ∙ empty.rows in
    let no_book : mid.trees 1 ≡ [] = ap (λ (v : View). v.trees 1) empty.alike ∙ empty.book in
    let here = c.standing_behind-standing.result in
    let stands : here ≡ standing_with [] = standing_is here [] [] c.standing_behind-standing.ensures.count refl c.standing_behind-standing.ensures.moment c.standing_behind-standing.ensures.sum in
    let new = g.S.Store.view c.commit_book.new.store in
    let was_open = (c.requires.fresh (c.in-Ok-true.ensures.clean (c.in-Ok.ensures.clean clean))).is_open in
    let is_open : IsTrue new.is_open = subst (λ (b : Bool). IsTrue b) (sym (c.in-Ok.ensures.stays_open clean ∙ ap (λ (v : View). v.is_open) empty.alike)) was_open in
    ready_with new here c.args.about.now [] (beside_in mid.trees) (with_made mid.trees c.args.about.now here new.committed no_rows no_book stands (c.in-Ok.ensures.committed clean)) (c.in-Ok.ensures.settled clean) is_open (c.in-Ok.ensures.sound clean) (c.in-Ok.ensures.tables clean) stands

pub returns-in-Ok-clause-about : goal.returns-in-Ok-clause-about
returns-in-Ok-clause-about g c = λ clean.
    let old = g.S.Store.view c.args.store in
    let mid = g.S.Store.view c.find_nothing.new.store in
    let empty : IsEmpty old mid = c.in-Ok-true.ensures.nothing (c.in-Ok.ensures.clean clean) c.in-Ok-true.field-0-test in
    let no_rows : mid.trees 0 ≡ [] = ap (λ (v : View). v.trees 0) empty.alike ∙ empty.rows in
    let no_book : mid.trees 1 ≡ [] = ap (λ (v : View). v.trees 1) empty.alike ∙ empty.book in
    let here = c.standing_behind-standing.result in
    let stands : here ≡ standing_with [] = standing_is here [] [] c.standing_behind-standing.ensures.count refl c.standing_behind-standing.ensures.moment c.standing_behind-standing.ensures.sum in
    (with_made mid.trees c.args.about.now here ((g.S.Store.view c.commit_book.new.store).committed) no_rows no_book stands (c.in-Ok.ensures.committed clean)).about_is

pub returns-in-Ok-clause-crash : goal.returns-in-Ok-clause-crash
returns-in-Ok-clause-crash g c = λ clean db left.
    let old = g.S.Store.view c.args.store in
    let mid = g.S.Store.view c.find_nothing.new.store in
    let empty : IsEmpty old mid = c.in-Ok-true.ensures.nothing (c.in-Ok.ensures.clean clean) c.in-Ok-true.field-0-test in
    let no_rows : mid.trees 0 ≡ [] = ap (λ (v : View). v.trees 0) empty.alike ∙ empty.rows in
    let no_book : mid.trees 1 ≡ [] = ap (λ (v : View). v.trees 1) empty.alike ∙ empty.book in
    let here = c.standing_behind-standing.result in
    let stands : here ≡ standing_with [] = standing_is here [] [] c.standing_behind-standing.ensures.count refl c.standing_behind-standing.ensures.moment c.standing_behind-standing.ensures.sum in
    let before = c.in-Ok-true.ensures.clean (c.in-Ok.ensures.clean clean) in
    let same : beside_in mid.trees ≡ beside_in old.committed = ap (λ (v : View). beside_in v.trees) empty.alike ∙ (c.requires.fresh before).settled_beside in
    made_crash mid.trees c.args.about.now here (beside_in old.committed) (g.S.Store.recovers c.args.store) (g.S.Store.recovers c.find_nothing.new.store) no_rows no_book stands same c.in-Ok-true.ensures.quiet db (c.in-Ok.ensures.crash clean db left)

pub returns-in-Err-commit_book-clause-unharmed : goal.returns-in-Err-commit_book-clause-unharmed
returns-in-Err-commit_book-clause-unharmed g c = λ clean db left.
    let old = g.S.Store.view c.args.store in
    let mid = g.S.Store.view c.find_nothing.new.store in
    let empty : IsEmpty old mid = c.in-Ok-true.ensures.nothing (c.in-Err-commit_book.ensures.clean clean) c.in-Ok-true.field-0-test in
    let no_rows : mid.trees 0 ≡ [] = ap (λ (v : View). v.trees 0) empty.alike ∙ empty.rows in
    let no_book : mid.trees 1 ≡ [] = ap (λ (v : View). v.trees 1) empty.alike ∙ empty.book in
    let here = c.standing_behind-standing.result in
    let stands : here ≡ standing_with [] = standing_is here [] [] c.standing_behind-standing.ensures.count refl c.standing_behind-standing.ensures.moment c.standing_behind-standing.ensures.sum in
    let before = c.in-Ok-true.ensures.clean (c.in-Err-commit_book.ensures.clean clean) in
    let same : beside_in mid.trees ≡ beside_in old.committed = ap (λ (v : View). beside_in v.trees) empty.alike ∙ (c.requires.fresh before).settled_beside in
    made_crash mid.trees c.args.about.now here (beside_in old.committed) (g.S.Store.recovers c.args.store) (g.S.Store.recovers c.find_nothing.new.store) no_rows no_book stands same c.in-Ok-true.ensures.quiet db (c.in-Err-commit_book.ensures.crash clean db left)
