use Rattle.std.proofs.Common.{take}
use Rattle.book_rows.specs.Form.{AddsAll}
use Rattle.book_rows.specs.Parts.{service}
use Rattle.book_rows.proofs.request.push_all_services.Given as goal

abbrev pub invariant-loop-value : goal.invariant-loop-value
invariant-loop-value l = AddsAll service (take l.value-index l.values) l.fn.out.items l.out.items
