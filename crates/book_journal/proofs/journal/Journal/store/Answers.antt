use Rattle.std.proofs.Common.{ℕ, List, subst, sym}
use Rattle.std.specs.Global.{Vec}
use Rattle.book_journal.specs.Kept.{KeepsIn}
use Rattle.book_journal.proofs.journal.Journal.store.Goals as goal

pub returns-in_err-store_where-clause-crash : goal.returns-in_err-store_where-clause-crash
returns-in_err-store_where-clause-crash g c = λ kept.
    let journal = c.args.self.now in
    let there = subst (λ (w : List (Vec ℕ)). KeepsIn g.S.RowStore.is_clean g.S.RowStore.is_ready g.S.RowStore.rows g.S.RowStore.beside journal.store w journal.touched journal.sum.0 c.args.book.now) (sym c.deref.ensures.value) kept in
    c.store_where.ensures.crash journal.sum.0 there

pub returns-clause-crash : goal.returns-clause-crash
returns-clause-crash g c = λ kept.
    let journal = c.args.self.now in
    let there = subst (λ (w : List (Vec ℕ)). KeepsIn g.S.RowStore.is_clean g.S.RowStore.is_ready g.S.RowStore.rows g.S.RowStore.beside journal.store w journal.touched journal.sum.0 c.args.book.now) (sym c.deref.ensures.value) kept in
    c.store_where.ensures.crash journal.sum.0 there

pub returns-clause-kept : goal.returns-clause-kept
returns-clause-kept g c = λ kept.
    let journal = c.args.self.now in
    let there = subst (λ (w : List (Vec ℕ)). KeepsIn g.S.RowStore.is_clean g.S.RowStore.is_ready g.S.RowStore.rows g.S.RowStore.beside journal.store w journal.touched journal.sum.0 c.args.book.now) (sym c.deref.ensures.value) kept in
    c.in_ok-store_where.ensures.kept journal.sum.0 c.clear.new.self.items c.clear-2.new.self c.clear.ensures.items there
