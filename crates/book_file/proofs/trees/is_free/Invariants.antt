use Rattle.std.proofs.Common.{drop}
use Rattle.std.specs.Prelude.{◌≢◌}
use Rattle.std.specs.List.{AllByRecursion}
use Rattle.sqlite_value.specs.declared.value.Value.TheVariants.{Text}
use Rattle.sqlite_value.specs.Order.{column}
use Rattle.book_file.proofs.trees.is_free.Given as goal

abbrev pub invariant-loop-object : goal.invariant-loop-object
invariant-loop-object g l = AllByRecursion (λ r. column r 2 ≢ Text l.name) (drop l.object-index l.object-items) → AllByRecursion (λ r. column r 2 ≢ Text l.name) l.object-items
