use Rattle.std.proofs.Common.{◌≡◌, List, map, take, subst, ◌∙◌}
use Rattle.std.specs.Prelude.{◌≢◌}
use Rattle.std.specs.List.{AllByRecursion}
use Rattle.sqlite_value.specs.declared.value.Value.TheVariants.{Text}
use Rattle.sqlite_value.specs.Order.{Row, column}
use Rattle.sqlite_trees.specs.Objects.{catalog_tree}
use Rattle.book_file.proofs.Added.{none_left, none_named}
use Rattle.book_file.proofs.trees.is_free.Goals as goal

pub returns : goal.returns
returns g c = λ yes clean.
    let name = c.args.name.now in
    let objects = c.deref-object-items.result.now in
    let catalog = (g.S.Store.view c.args.store.now).trees catalog_tree in
    let P : List Row → Type 0 = λ rows. AllByRecursion (λ r. column r 2 ≢ Text name) rows in
    let listed : objects ≡ map (take 5) catalog = c.deref-object-items.ensures.value ∙ c.in_ok-objects.ensures clean in
    none_named name catalog (subst P listed (none_left name objects c.loop-object.object-index c.loop-object-test.false c.loop-object.invariant))
