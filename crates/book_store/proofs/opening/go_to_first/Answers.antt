use Rattle.std.proofs.Common.{List, ap, ◌∙◌}
use Rattle.sqlite_value.specs.declared.value.Value.{Value}
use Rattle.sqlite_trees.specs.Tree.{from_key, order_of}
use Rattle.book_store.proofs.Scanned.{from_no_key, read_none}
use Rattle.book_store.proofs.opening.go_to_first.Goals as goal

pub returns-clause-read : goal.returns-clause-read
returns-clause-read g c = λ clean.
    let old = g.S.Store.view c.args.store.now in
    let order = order_of (old.shape c.args.table) in
    read_none c.args.table old (g.S.Store.view c.seek.new.self) (from_key order c.args.key.now (old.trees c.args.table)) (c.in_ok-seek.ensures.ok clean)
    (ap (λ (key : List Value). from_key order key (old.trees c.args.table)) c.requires.key ∙ from_no_key order (old.trees c.args.table))
