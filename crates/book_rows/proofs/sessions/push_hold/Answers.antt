use Rattle.book_rows.proofs.SessionWritten.{hold_added}
use Rattle.book_rows.proofs.sessions.push_hold.Goals as goal

pub returns : goal.returns
returns c = hold_added c.args.value.now c.in_ok-push_name.ensures c.in_ok-push_u128.ensures
