use Rattle.std.proofs.Common.{ℕ, ap, refl, ◌∙◌}
use Rattle.book_beside.specs.Beside.{beside_in}
use Rattle.sqlite_trees.specs.Memory.{memory_is_unaltered}
use Rattle.sqlite_trees.specs.Objects.{catalog_tree}
use Rattle.sqlite_trees.specs.Tree.{Trees}
use Rattle.sqlite_trees.specs.declared.store.Shape.{Shape}
use Rattle.pool_samples.proofs.stored.tables.empty.Goals as goal

pub returns-clause-tables : goal.returns-clause-tables
returns-clause-tables c = record {
  rows = ap (λ (f : ℕ → Shape). f 0) c.in_ok-store.ensures.shape ∙ c.table.ensures;
  book = ap (λ (f : ℕ → Shape). f 1) c.in_ok-store.ensures.shape ∙ c.table-2.ensures;
  beside = record {
    accounts = ap (λ (f : ℕ → Shape). f 2) c.in_ok-store.ensures.shape ∙ c.table-3.ensures;
    sessions = ap (λ (f : ℕ → Shape). f 3) c.in_ok-store.ensures.shape ∙ c.table-4.ensures;
  };
}

pub returns-clause-fresh : goal.returns-clause-fresh
returns-clause-fresh c = record {
  is_open = refl;
  sound = c.in_ok-store.ensures.sound;
  settled = ap (λ (t : Trees). t 0) c.in_ok-store.ensures.clean;
  settled_book = ap (λ (t : Trees). t 1) c.in_ok-store.ensures.clean;
  settled_beside = ap beside_in c.in_ok-store.ensures.clean;
}

pub returns-clause-reopens : goal.returns-clause-reopens
returns-clause-reopens c = λ clean. record {
  tables = record {
    rows = ap (λ (f : ℕ → Shape). f 0) c.in_ok-store.ensures.shape ∙ c.table.ensures;
    book = ap (λ (f : ℕ → Shape). f 1) c.in_ok-store.ensures.shape ∙ c.table-2.ensures;
    beside = record {
      accounts = ap (λ (f : ℕ → Shape). f 2) c.in_ok-store.ensures.shape ∙ c.table-3.ensures;
      sessions = ap (λ (f : ℕ → Shape). f 3) c.in_ok-store.ensures.shape ∙ c.table-4.ensures;
    };
  };
  committed = (memory_is_unaltered c.in_ok-store.store (ap (λ (t : Trees). t catalog_tree) c.in_ok-store.ensures.clean)).0;
}
