use Rattle.std.proofs.Common.{take}
use Rattle.book_rows.specs.Form.{AddsAll}
use Rattle.book_rows.specs.SessionParts.{price}
use Rattle.book_rows.proofs.sessions.push_all_prices.Given as goal

abbrev pub invariant-loop-value : goal.invariant-loop-value
invariant-loop-value l = AddsAll price (take l.value-index l.values) l.fn.out.items l.out.items
