use Rattle.std.proofs.Common.{Bool, sym, subst}
use Rattle.std.specs.Prelude.{IsTrue, ◌++◌}
use Rattle.sqlite_trees.specs.Tree.{Trees}
use Rattle.book_beside.specs.Beside.{beside_in, written_all}
use Rattle.book_store.specs.Table.{IsPut, about_in, octets_in, rows_in}
use Rattle.book_store.proofs.Tables.{crash_with, ready_with, with_batch}
use Rattle.book_store.proofs.tree.TreeStoreRowStore.append.Goals as goal

pub returns-in-Ok-clause-ready : goal.returns-in-Ok-clause-ready
returns-in-Ok-clause-ready g c = λ clean.
    let old = g.S.Store.view c.args.self.now.store in
    let new = g.S.Store.view c.commit_batch.new.store in
    let ready = c.requires (c.in-Ok.ensures.clean clean) in
    let stands = c.standing_after-here.ensures (rows_in (old.committed 0)) ready.stands in
    let is_open : IsTrue new.is_open = subst (λ (b : Bool). IsTrue b) (sym (c.in-Ok.ensures.stays_open clean)) ready.rest.is_open in
    ready_with new c.standing_after-here.result (about_in (old.committed 1)) (rows_in (old.committed 0) ++ octets_in c.args.batch.now) (written_all (beside_in old.committed) c.args.writes.now)
    (with_batch old c.args.self.now.standing c.standing_after-here.result c.args.place (octets_in c.args.batch.now) c.args.writes.now new.committed ready c.if-place-self.false stands (c.in-Ok.ensures.committed clean))
    (c.in-Ok.ensures.settled clean) is_open (c.in-Ok.ensures.sound clean) (c.in-Ok.ensures.tables clean) stands

pub returns-in-Ok-clause-appended : goal.returns-in-Ok-clause-appended
returns-in-Ok-clause-appended g c = λ clean.
    let old = g.S.Store.view c.args.self.now.store in
    let ready = c.requires (c.in-Ok.ensures.clean clean) in
    (with_batch old c.args.self.now.standing c.standing_after-here.result c.args.place (octets_in c.args.batch.now) c.args.writes.now ((g.S.Store.view c.commit_batch.new.store).committed) ready c.if-place-self.false
    (c.standing_after-here.ensures (rows_in (old.committed 0)) ready.stands) (c.in-Ok.ensures.committed clean)).rows_are

pub returns-in-Ok-clause-written : goal.returns-in-Ok-clause-written
returns-in-Ok-clause-written g c = λ clean.
    let old = g.S.Store.view c.args.self.now.store in
    let ready = c.requires (c.in-Ok.ensures.clean clean) in
    (with_batch old c.args.self.now.standing c.standing_after-here.result c.args.place (octets_in c.args.batch.now) c.args.writes.now ((g.S.Store.view c.commit_batch.new.store).committed) ready c.if-place-self.false
    (c.standing_after-here.ensures (rows_in (old.committed 0)) ready.stands) (c.in-Ok.ensures.committed clean)).beside_is

pub returns-in-Ok-clause-same_book : goal.returns-in-Ok-clause-same_book
returns-in-Ok-clause-same_book g c = λ clean.
    let old = g.S.Store.view c.args.self.now.store in
    let ready = c.requires (c.in-Ok.ensures.clean clean) in
    (with_batch old c.args.self.now.standing c.standing_after-here.result c.args.place (octets_in c.args.batch.now) c.args.writes.now ((g.S.Store.view c.commit_batch.new.store).committed) ready c.if-place-self.false
    (c.standing_after-here.ensures (rows_in (old.committed 0)) ready.stands) (c.in-Ok.ensures.committed clean)).about_is

pub returns-in-Ok-clause-crash : goal.returns-in-Ok-clause-crash
returns-in-Ok-clause-crash g c = λ clean left leaves.
    let old = g.S.Store.view c.args.self.now.store in
    let ready = c.requires (c.in-Ok.ensures.clean clean) in
    let here = c.standing_after-here.result in
    let batch = octets_in c.args.batch.now in
    crash_with (about_in (old.committed 1)) (rows_in (old.committed 0) ++ batch) (written_all (beside_in old.committed) c.args.writes.now) left (g.S.Store.recovers c.args.self.now.store) (g.S.Store.recovers c.commit_batch.new.store) (λ (db : Trees). IsPut c.args.place batch here c.args.writes.now old.trees db)
    (λ db put. with_batch old c.args.self.now.standing here c.args.place batch c.args.writes.now db ready c.if-place-self.false (c.standing_after-here.ensures (rows_in (old.committed 0)) ready.stands) put)
    (c.in-Ok.ensures.crash clean) leaves

pub returns-in-Err-clause-crash : goal.returns-in-Err-clause-crash
returns-in-Err-clause-crash g c = λ clean left leaves.
    let old = g.S.Store.view c.args.self.now.store in
    let ready = c.requires (c.commit_batch.ensures.clean clean) in
    let here = c.standing_after-here.result in
    let batch = octets_in c.args.batch.now in
    crash_with (about_in (old.committed 1)) (rows_in (old.committed 0) ++ batch) (written_all (beside_in old.committed) c.args.writes.now) left (g.S.Store.recovers c.args.self.now.store) (g.S.Store.recovers c.commit_batch.new.store) (λ (db : Trees). IsPut c.args.place batch here c.args.writes.now old.trees db)
    (λ db put. with_batch old c.args.self.now.standing here c.args.place batch c.args.writes.now db ready c.if-place-self.false (c.standing_after-here.ensures (rows_in (old.committed 0)) ready.stands) put)
    (c.commit_batch.ensures.crash clean) leaves
