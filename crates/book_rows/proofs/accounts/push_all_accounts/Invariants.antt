use Rattle.std.proofs.Common.{take}
use Rattle.book_rows.specs.Form.{AddsAll}
use Rattle.book_rows.specs.TermsParts.{account}
use Rattle.book_rows.proofs.accounts.push_all_accounts.Given as goal

abbrev pub invariant-loop-value : goal.invariant-loop-value
invariant-loop-value l = AddsAll account (take l.value-index l.values) l.fn.out.items l.out.items
