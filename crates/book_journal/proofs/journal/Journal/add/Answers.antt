use Rattle.std.proofs.Common.{ℕ, List, subst, sym}
use Rattle.std.specs.Prelude.{Option}
use Rattle.std.specs.Global.{Vec}
use Rattle.book_journal.specs.declared.journal.NewRow.{NewRow}
use Rattle.book_journal.specs.Kept.{IsNextIn, KeepsIn}
use Rattle.book_journal.proofs.Rows.{kept_more}
use Rattle.book_journal.proofs.journal.Journal.add.Goals as goal

pub returns-in-Some-clause-kept : goal.returns-in-Some-clause-kept
returns-in-Some-clause-kept g c = λ before after kept next.
    let journal = c.args.self.now in
    let row = c.in-Some.row in
    let it = subst (λ (o : Option NewRow). IsNextIn journal.store journal.touched before after o) c.in-Some.is next in
    let more = kept_more g.S.RowStore.is_clean g.S.RowStore.is_ready g.S.RowStore.rows g.S.RowStore.beside journal.store journal.waiting.items journal.touched journal.sum.0 before after row kept it in
    subst (λ (w : List (Vec ℕ)). KeepsIn g.S.RowStore.is_clean g.S.RowStore.is_ready g.S.RowStore.rows g.S.RowStore.beside journal.store w journal.touched row.sum.0 after) (sym c.push_reserved.ensures.items) more
