use Rattle.book_rows.proofs.RowWritten.{body_added}
use Rattle.book_rows.proofs.codec.push_body.Goals as goal

pub returns : goal.returns
returns c = body_added c.args.place c.args.moment.0 c.args.step.now c.in_ok-push_u64.ensures c.in_ok-push_u64-2.ensures c.in_ok-push_step.ensures
