use Rattle.std.proofs.Common.{◌≡◌, ℕ, List, subst}
use Rattle.std.specs.Prelude.{Option, Some}
use Rattle.std.specs.Global.{Vec}
use Rattle.cc_book.specs.Taking.{Ledger}
use Rattle.book_beside.specs.Beside.{Beside}
use Rattle.book_journal.specs.declared.touched.Touched.{Touched}
use Rattle.book_journal.specs.Kept.{Keeps, KeepsIn}
use Rattle.book_journal.proofs.Rows.{left_at_rest, left_while_waiting, stands_at_rest}
use Rattle.book_journal.proofs.laws.a_crash_leaves_the_history.Goals as goal

keeps : {S : Type 0} (is_clean is_ready : S → Type 0) (rows : S → List (List ℕ)) (beside : S → Beside) (store : Option S) (s : S) (waiting : List (Vec ℕ)) (touched : Touched) (sum : ℕ) (ledger : Ledger) → store ≡ Some s
    → KeepsIn is_clean is_ready rows beside store waiting touched sum ledger → Keeps is_clean is_ready rows beside s waiting touched sum ledger
keeps {S = S} is_clean is_ready rows beside store s waiting touched sum ledger is kept = subst (λ (o : Option S). KeepsIn is_clean is_ready rows beside o waiting touched sum ledger) is kept

pub returns-clause-settled : goal.returns-clause-settled
returns-clause-settled g c = λ journal store ledger left is settled kept clean leaves.
    let k = keeps g.S.RowStore.is_clean g.S.RowStore.is_ready g.S.RowStore.rows g.S.RowStore.beside journal.store store journal.waiting.items journal.touched journal.sum.0 ledger is kept in
    left_at_rest g.S.RowStore.is_clean g.S.RowStore.is_ready g.S.RowStore.rows g.S.RowStore.beside (g.S.RowStore.about store) store journal.waiting.items journal.touched journal.sum.0 ledger left settled.rows settled.touched k clean
    (g.met.S.RowStore.at_rest store left clean (k.ready clean) leaves)

pub returns-clause-at_rest : goal.returns-clause-at_rest
returns-clause-at_rest g c = λ journal store ledger is settled kept clean.
    let k = keeps g.S.RowStore.is_clean g.S.RowStore.is_ready g.S.RowStore.rows g.S.RowStore.beside journal.store store journal.waiting.items journal.touched journal.sum.0 ledger is kept in
    stands_at_rest g.S.RowStore.is_clean g.S.RowStore.is_ready g.S.RowStore.rows g.S.RowStore.beside store journal.waiting.items journal.touched journal.sum.0 ledger settled.touched k clean

pub returns-clause-waiting : goal.returns-clause-waiting
returns-clause-waiting g c = λ journal store ledger left is kept clean leaves.
    let k = keeps g.S.RowStore.is_clean g.S.RowStore.is_ready g.S.RowStore.rows g.S.RowStore.beside journal.store store journal.waiting.items journal.touched journal.sum.0 ledger is kept in
    left_while_waiting g.S.RowStore.is_clean g.S.RowStore.is_ready g.S.RowStore.rows g.S.RowStore.beside (g.S.RowStore.about store) store journal.waiting.items journal.touched journal.sum.0 ledger left k clean
    (g.met.S.RowStore.at_rest store left clean (k.ready clean) leaves)
