use Rattle.std.proofs.Common.{take}
use Rattle.book_beside.specs.Beside.{Beside, written_all}
use Rattle.book_journal.specs.Tables.{IsRenewed}
use Rattle.book_journal.proofs.tables.push_writes.Given as goal

abbrev pub invariant-loop-place : goal.invariant-loop-place
invariant-loop-place l = (beside : Beside) → IsRenewed l.side l.book (take l.place-index l.places) (written_all beside l.fn.writes.items) (written_all beside l.writes.items)
