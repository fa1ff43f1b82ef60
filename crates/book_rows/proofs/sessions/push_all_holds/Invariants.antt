use Rattle.std.proofs.Common.{take}
use Rattle.book_rows.specs.Form.{AddsAll}
use Rattle.book_rows.specs.SessionParts.{hold}
use Rattle.book_rows.proofs.sessions.push_all_holds.Given as goal

abbrev pub invariant-loop-value : goal.invariant-loop-value
invariant-loop-value l = AddsAll hold (take l.value-index l.values) l.fn.out.items l.out.items
