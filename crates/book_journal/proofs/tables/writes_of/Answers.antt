use Rattle.std.proofs.Common.{ℕ, List, subst}
use Rattle.book_beside.specs.Beside.{written_all}
use Rattle.book_beside.specs.declared.write.Side.TheVariants.{Accounts, Sessions}
use Rattle.book_beside.specs.declared.write.Write.{Write}
use Rattle.book_journal.specs.Tables.{IsRenewed}
use Rattle.book_journal.proofs.Renewing.{beside_renewed}
use Rattle.book_journal.proofs.tables.writes_of.Goals as goal

pub returns : goal.returns
returns c = λ was beside same stands.
    let book = c.args.book.now in
    let mid = written_all beside c.push_writes.new.writes.items in
    let end = written_all beside c.push_writes-2.new.writes.items in
    let first = subst (λ (writes : List Write). IsRenewed Accounts book c.deref.result.now (written_all beside writes) mid) c.new-writes.ensures.items (c.in_ok-push_writes.ensures beside) in
    let accounts = subst (λ (places : List ℕ). IsRenewed Accounts book places beside mid) c.deref.ensures.value first in
    let sessions = subst (λ (places : List ℕ). IsRenewed Sessions book places mid end) c.deref-2.ensures.value (c.in_ok-push_writes-2.ensures beside) in
    beside_renewed book was c.args.touched.now beside mid end same stands accounts sessions
