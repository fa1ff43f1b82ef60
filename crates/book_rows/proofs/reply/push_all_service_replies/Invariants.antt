use Rattle.std.proofs.Common.{take}
use Rattle.book_rows.specs.Form.{AddsAll}
use Rattle.book_rows.specs.Parts.{service_reply}
use Rattle.book_rows.proofs.reply.push_all_service_replies.Given as goal

abbrev pub invariant-loop-value : goal.invariant-loop-value
invariant-loop-value l = AddsAll service_reply (take l.value-index l.values) l.fn.out.items l.out.items
