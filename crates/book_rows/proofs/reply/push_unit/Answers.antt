use Rattle.book_rows.proofs.ReplyWritten.{unit_added}
use Rattle.book_rows.proofs.reply.push_unit.Goals as goal

pub returns : goal.returns
returns c = unit_added c.args.value _ _ c.in_ok-push_u32.ensures
