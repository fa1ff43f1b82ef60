use Rattle.std.proofs.Common.{take}
use Rattle.book_rows.specs.Form.{AddsAll}
use Rattle.book_rows.specs.TermsParts.{tariff}
use Rattle.book_rows.proofs.tariffs.push_all_tariffs.Given as goal

abbrev pub invariant-loop-value : goal.invariant-loop-value
invariant-loop-value l = AddsAll tariff (take l.value-index l.values) l.fn.out.items l.out.items
